use Rattle.std.proofs.Common.{rules}
use Rattle.elf.proofs.Located.{relocations_whole}
use Rattle.elf.proofs.stages.Dynamics.relocations.Goals as goal

pub new-requires-clause-inside : goal.new-requires-clause-inside
new-requires-clause-inside c = let whole = relocations_whole c.args.self.now.headers.layout c.args.self.now.headers.bytes.now c.relocation_table.result c.relocation_table.ensures c.args.self.now.extended in search rules

pub new-requires-clause-size : goal.new-requires-clause-size
new-requires-clause-size c = let whole = relocations_whole c.args.self.now.headers.layout c.args.self.now.headers.bytes.now c.relocation_table.result c.relocation_table.ensures c.args.self.now.extended in search rules
