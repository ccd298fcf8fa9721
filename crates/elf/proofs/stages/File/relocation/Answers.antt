use Rattle.std.proofs.Common.{arith}
use Rattle.elf.proofs.Accessed.{listing_ready, listed_inside}
use Rattle.elf.proofs.stages.File.relocation.Goals as goal

pub offset-at-requires : goal.offset-at-requires
offset-at-requires c = omega (arith, listed_inside c.args.self.now.layout c.args.self.now.bytes.now _ _ _ (listing_ready c.args.self.now.layout c.args.self.now.bytes.now c.relocation_table-table.result c.args.i c.args.self.now.sound c.relocation_table-table.ensures.listing c.if-i-table.false))

pub read-requires : goal.read-requires
read-requires c = (c.args.self.now.sound, omega (arith, listed_inside c.args.self.now.layout c.args.self.now.bytes.now _ _ _ (listing_ready c.args.self.now.layout c.args.self.now.bytes.now c.relocation_table-table.result c.args.i c.args.self.now.sound c.relocation_table-table.ensures.listing c.if-i-table.false)))
