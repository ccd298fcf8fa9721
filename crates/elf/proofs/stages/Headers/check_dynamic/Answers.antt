use Rattle.std.proofs.Common.{rules}
use Rattle.elf.proofs.Located.{extended}
use Rattle.elf.proofs.stages.Headers.check_dynamic.Goals as goal

pub invariant_of-dynamics : goal.invariant_of-dynamics
invariant_of-dynamics c = let owed = extended c.args.self.now.layout c.args.self.now.bytes.now c.requires c.in_ok-check_extent.ensures in search rules
