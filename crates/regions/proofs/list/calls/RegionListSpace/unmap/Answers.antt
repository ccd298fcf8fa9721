use Rattle.std.proofs.Common.{rules}
use Rattle.space.specs.Meaning.{IsMapped, Outside}
use Rattle.space.specs.Frames.{pool}
use Rattle.regions.specs.Spaces.{means}
use Rattle.regions.proofs.Facts.{inside, unheld_unmapped, cuttable, UnmapDone, unmap_step}
use Rattle.regions.proofs.list.calls.RegionListSpace.unmap.Goals as goal
use Rattle.regions.proofs.list.calls.RegionListSpace.unmap.Goals.{After-give}

pub returns-in_default-clause-step : goal.returns-in_default-clause-step
returns-in_default-clause-step c =
    let t = c.args.self.now in
    let within : Outside (means t) c.args.page → ⊥ = inside t c.args.page c.in_ok-check_window.ensures in
    let not : IsMapped (means t) c.args.page → ⊥ = unheld_unmapped t c.args.page c.in_default.ensures in
    search rules

pub cut-requires-clause-there : goal.cut-requires-clause-there
cut-requires-clause-there c = cuttable c.args.self.now c.args.page c.in-Some.i c.in-Some.ensures

done : (c : After-give) → UnmapDone c.args.self.now c.args.page c.cut.new.self (pool c.give.new.self)
done c =
    let t = c.args.self.now in
    unmap_step t c.args.page c.mapping-frame.result c.cut.new.self (pool c.give.new.self) (inside t c.args.page c.in_ok-check_window.ensures) c.mapping-frame.ensures c.cut.ensures.runs c.cut.ensures.count c.cut.ensures.long c.give.ensures

pub invariant_of-self : goal.invariant_of-self
invariant_of-self c = record { kept = (done c).kept }

pub returns-clause-step : goal.returns-clause-step
returns-clause-step c v = (tt, (done c.before).does)
