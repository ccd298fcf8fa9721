use Rattle.std.proofs.Common.{sym, refl, rules}
use Rattle.space.specs.Meaning.{IsMapped, Outside, Lawful}
use Rattle.space.specs.Frames.{pool}
use Rattle.regions.specs.Spaces.{means}
use Rattle.regions.proofs.Facts.{inside, found_mapped, mappable, first_frame, none_free, room, rights_refused, MapDone, map_step}
use Rattle.regions.proofs.list.calls.RegionListSpace.map.Goals as goal
use Rattle.regions.proofs.list.calls.RegionListSpace.map.Goals.{After-take}

pub returns-then-is_some-clause-step : goal.returns-then-is_some-clause-step
returns-then-is_some-clause-step c =
    let t = c.args.self.now in
    let within : Outside (means t) c.args.page → ⊥ = inside t c.args.page c.in_ok-check_window.ensures in
    let is : IsMapped (means t) c.args.page = found_mapped t c.args.page c.holding.result c.holding.ensures (sym c.if-is_some.ensures) in
    search rules

pub returns-in_err-frame-clause-step : goal.returns-in_err-frame-clause-step
returns-in_err-frame-clause-step c =
    let t = c.args.self.now in
    let new = mappable t c.args.page _ c.in_ok-check_window.ensures c.holding.ensures (sym c.if-is_some.ensures) in
    let within = new.within in
    let not = new.unmapped in
    let full = none_free t _ c.first_free.ensures (sym c.in_err-frame.ensures.variant) in
    search rules

pub returns-then-not-is_lawful-clause-step : goal.returns-then-not-is_lawful-clause-step
returns-then-not-is_lawful-clause-step c v =
    let t = c.args.self.now in
    let new = mappable t c.args.page _ c.in_ok-check_window.ensures c.holding.ensures (sym c.if-is_some.ensures) in
    let some = (first_frame t _ _ c.first_free.ensures c.in_ok-frame.ensures.ok_part).0 in
    let wrong : Lawful c.args.rights → ⊥ = λ l. let e = c.if-not-is_lawful.ensures.1 l in cc in
    (tt, (rights_refused (means t) c.args.page c.args.rights _ new.within new.unmapped (room t some).some wrong (search rules), refl))

pub add-requires-clause-room : goal.add-requires-clause-room
add-requires-clause-room c = (room c.args.self.now (first_frame c.args.self.now _ _ c.first_free.ensures c.in_ok-frame.ensures.ok_part).0).slot

pub add-requires-clause-unheld : goal.add-requires-clause-unheld
add-requires-clause-unheld c = (mappable c.args.self.now c.args.page _ c.in_ok-check_window.ensures c.holding.ensures (sym c.if-is_some.ensures)).unheld

done : (c : After-take) → MapDone c.args.self.now c.args.page c.args.rights c.wipe.new.memory c.add.new.self (pool c.take.new.self)
done c =
    let t = c.args.self.now in
    map_step t c.args.page c.args.rights _ _ c.add.new.self c.take.result (pool c.take.new.self)
    (mappable t c.args.page _ c.in_ok-check_window.ensures c.holding.ensures (sym c.if-is_some.ensures))
    (first_frame t _ _ c.first_free.ensures c.in_ok-frame.ensures.ok_part) (c.if-not-is_lawful.ensures.0 refl) c.wipe.ensures c.add.ensures.runs c.add.ensures.count c.add.ensures.long c.take.ensures

pub invariant_of-self : goal.invariant_of-self
invariant_of-self c = record { kept = (done c).kept }

pub returns-clause-step : goal.returns-clause-step
returns-clause-step c v = (tt, (done c.before).does)
