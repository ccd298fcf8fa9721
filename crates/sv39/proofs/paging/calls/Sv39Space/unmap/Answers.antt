use Rattle.std.proofs.Common.{◌∙◌, sym}
use Rattle.space.specs.Frames.{pool}
use Rattle.sv39.proofs.Facts.{unmap_step}
use Rattle.sv39.proofs.paging.calls.Sv39Space.unmap.Goals as goal

pub invariant_of-self : goal.invariant_of-self
invariant_of-self c =
    let s = unmap_step c.args.self.now c.args.page c.in_ok-slot.slot c.in-Some.mapping _ (pool c.give.new.self) c.in_ok-slot.ensures (sym c.mapping.ensures ∙ c.in-Some.is) c.set_entry.ensures c.give.ensures in
    record { kept = s.0 }

pub returns-clause-step : goal.returns-clause-step
returns-clause-step c v =
    let s = unmap_step c.args.self.now c.args.page c.in_ok-slot.slot c.in-Some.mapping _ (pool c.give.new.self) c.in_ok-slot.ensures (sym c.mapping.ensures ∙ c.in-Some.is) c.set_entry.ensures c.give.ensures in
    (tt, s.1)
