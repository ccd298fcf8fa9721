use Rattle.std.proofs.Common.{◌≡◌, slice_set, arith}
use Rattle.sv39.specs.Spaces.{memory_of}
use Rattle.sv39.proofs.Facts.{poke_step}
use Rattle.sv39.proofs.paging.calls.Sv39Space.poke.Goals as goal

pub invariant_of-self : goal.invariant_of-self
invariant_of-self c =
    let place = c.in_ok-at.ensures.1.place in
    let written : c.put.new.self.memory.now ≡ slice_set (memory_of c.args.self.now) c.in_ok-at.at c.args.byte = grind arith in
    record { kept = (poke_step c.args.self.now _ _ c.in_ok-at.at c.args.byte _ c.in_ok-at.ensures.1 written).0 }

pub returns-clause-step : goal.returns-clause-step
returns-clause-step c v =
    let place = c.in_ok-at.ensures.1.place in
    let written : c.put.new.self.memory.now ≡ slice_set (memory_of c.args.self.now) c.in_ok-at.at c.args.byte = grind arith in (
      tt,
      (poke_step c.args.self.now c.args.frame c.args.index c.in_ok-at.at c.args.byte _ c.in_ok-at.ensures.1 written).1,
    )
