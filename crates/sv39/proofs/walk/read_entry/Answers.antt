use Rattle.std.proofs.Common.{arith}
use Rattle.sv39.proofs.Numbers.{span}
use Rattle.sv39.proofs.walk.read_entry.Goals as goal

pub pow-requires : goal.pow-requires
pow-requires c = (span c.args.level c.requires).1

pub nonzero_rem-page : goal.nonzero_rem-page
nonzero_rem-page c = let s = span c.args.level c.requires in omega (arith, c.pow.ensures)
