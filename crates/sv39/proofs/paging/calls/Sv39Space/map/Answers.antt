use Rattle.std.proofs.Common.{sym, refl, rules, arith}
use Rattle.space.specs.Meaning.{IsMapped, Outside}
use Rattle.space.specs.Frames.{pool}
use Rattle.sv39.specs.Spaces.{means, InWindow}
use Rattle.sv39.proofs.Facts.{map_step, inside, mapped_some, head_lies}
use Rattle.sv39.proofs.paging.calls.Sv39Space.map.Goals as goal

pub returns-then-is_some-clause-step : goal.returns-then-is_some-clause-step
returns-then-is_some-clause-step c =
    let t = c.args.self.now in
    let w : InWindow t c.args.page c.in_ok-slot.slot = c.in_ok-slot.ensures in
    let within : Outside (means t) c.args.page → ⊥ = inside t c.args.page c.in_ok-slot.slot w in
    let is : IsMapped (means t) c.args.page = mapped_some t c.args.page c.in_ok-slot.slot _ w c.mapping.ensures (sym c.if-is_some.ensures) in
    search rules

pub zero-requires : goal.zero-requires
zero-requires c =
    let t = c.args.self.now in
    let w : InWindow t c.args.page c.in_ok-slot.slot = c.in_ok-slot.ensures in
    omega (arith, w.low, w.high, c.in-Some.ensures.1, (head_lies t (omega (arith, w.low, w.high)) c.in-Some.ensures.0).1)

pub invariant_of-self : goal.invariant_of-self
invariant_of-self c =
    let s = map_step c.args.self.now c.args.page c.args.rights c.in_ok-slot.slot _ _ _ _ _ c.mapping.result c.take.result (pool c.take.new.self) c.in_ok-slot.ensures c.mapping.ensures c.if-is_some.ensures c.in-Some.ensures.0 (c.if-not-is_lawful.ensures.0 refl)
    (omega (arith, c.in-Some.ensures.1)) (omega (arith, c.in-Some.ensures.1)) c.leaf_of-entry.ensures c.zero.ensures c.set_entry.ensures c.take.ensures in
    record { kept = s.0 }

pub returns-clause-step : goal.returns-clause-step
returns-clause-step c v =
    let s = map_step c.args.self.now c.args.page c.args.rights c.in_ok-slot.slot _ _ _ _ _ c.mapping.result c.take.result (pool c.take.new.self) c.in_ok-slot.ensures c.mapping.ensures c.if-is_some.ensures c.in-Some.ensures.0 (c.if-not-is_lawful.ensures.0 refl)
    (omega (arith, c.in-Some.ensures.1)) (omega (arith, c.in-Some.ensures.1)) c.leaf_of-entry.ensures c.zero.ensures c.set_entry.ensures c.take.ensures in
    (tt, s.1)
