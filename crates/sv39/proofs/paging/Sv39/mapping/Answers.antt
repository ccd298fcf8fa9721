use Rattle.std.proofs.Common.{arith}
use Rattle.sv39.proofs.Facts.{named}
use Rattle.sv39.proofs.paging.Sv39.mapping.Goals as goal

pub overflow_sub-result : goal.overflow_sub-result
overflow_sub-result c =
    let n = named c.args.self.now c.args.slot c.entry-entry.result c.requires.low c.requires.high c.entry-entry.ensures (omega arith) in
    omega (arith, n.0)

pub overflow_cast-result : goal.overflow_cast-result
overflow_cast-result c =
    let n = named c.args.self.now c.args.slot c.entry-entry.result c.requires.low c.requires.high c.entry-entry.ensures (omega arith) in
    omega (arith, n.1, c.args.self.now.kept.booked.few)
