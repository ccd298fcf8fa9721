use Rattle.std.proofs.Common.{ap, rules, arith}
use Rattle.regions.specs.declared.run.Run.{Run}
use Rattle.regions.specs.Runs.{in_use}
use Rattle.regions.proofs.Joins.{added, next_ends, next_long}
use Rattle.regions.proofs.Orders.{used_long}
use Rattle.regions.proofs.runs.Runs.add.Goals as goal

pub join-requires-clause-within : goal.join-requires-clause-within
join-requires-clause-within c =
    let n = next_long (in_use c.args.self.now) (in_use c.take_next-run.new.self) c.slot_for-at.result _ _ c.slot_for-at.ensures.within c.take_next-run.ensures.next in
    omega (arith, n.0, used_long c.take_next-run.new.self)

pub join-requires-clause-high : goal.join-requires-clause-high
join-requires-clause-high c =
    next_ends (in_use c.args.self.now) (in_use c.take_next-run.new.self) c.slot_for-at.result _ _ c.requires.order
    (omega (arith, c.requires.high, ap (λ (r : Run). r.first) c.single.ensures, ap (λ (r : Run). r.count) c.single.ensures)) c.take_next-run.ensures.next

pub returns : goal.returns
returns c =
    let n = next_long (in_use c.args.self.now) (in_use c.take_next-run.new.self) c.slot_for-at.result _ _ c.slot_for-at.ensures.within c.take_next-run.ensures.next in
    let d = added (in_use c.args.self.now) (in_use c.take_next-run.new.self) _ c.args.page c.args.mapping c.slot_for-at.result _ _ c.requires.order c.requires.unheld c.requires.high c.slot_for-at.ensures c.single.ensures
    c.take_next-run.ensures.next n.0 c.join.ensures.join in
    record { runs = d.changed; count = d.count; long = search rules }
