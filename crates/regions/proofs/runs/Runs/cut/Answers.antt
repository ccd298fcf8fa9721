use Rattle.std.proofs.Common.{◌^◌, rules, arith, length-set}
use Rattle.std.proofs.lemmas.Option.{slice_get_within}
use Rattle.regions.specs.Runs.{in_use}
use Rattle.regions.proofs.Mappings.{lies}
use Rattle.regions.proofs.Cuts.{cut_none, cut_after, cut_before, cut_both, cut_within}
use Rattle.regions.proofs.runs.Runs.cut.Goals as goal

pub after-after-requires-clause-ends : goal.after-after-requires-clause-ends
after-after-requires-clause-ends c =
    omega (arith, (lies 0 (2 ^ 26) (in_use c.args.self.now) c.args.at c.get-run.result c.requires.order.ascending c.get-run.ensures).high)

pub remove-requires : goal.remove-requires
remove-requires c = cut_within c.args.self.now c.args.page c.args.at c.requires.there

pub set-requires : goal.set-requires
set-requires c = cut_within c.args.self.now c.args.page c.args.at c.requires.there

pub set-requires-in_default-eq0 : goal.set-requires-in_default-eq0
set-requires-in_default-eq0 c = cut_within c.args.self.now c.args.page c.args.at c.requires.there

pub set-requires-in_default : goal.set-requires-in_default
set-requires-in_default c = cut_within c.args.self.now c.args.page c.args.at c.requires.there

pub overflow_add-at : goal.overflow_add-at
overflow_add-at c = omega (arith, cut_within c.args.self.now c.args.page c.args.at c.requires.there, c.args.self.now.fits)

pub insert-requires-clause-within : goal.insert-requires-clause-within
insert-requires-clause-within c =
    omega (arith, slice_get_within (in_use c.args.self.now) c.args.at c.get-run.result c.get-run.ensures, simp length-set at c.set-in_default.ensures.used)

pub returns-in-0-eq0 : goal.returns-in-0-eq0
returns-in-0-eq0 c =
    let d = cut_none c.args.self.now _ c.args.at c.args.page _ _ _ c.requires.order c.requires.there c.get-run.ensures c.before-before.ensures c.after-after.ensures c.in-0-eq0.is-0 c.in-0-eq0.is-1 c.remove.ensures.runs in
    record { runs = d.changed; count = d.count; long = search rules }

pub returns-in-0-default : goal.returns-in-0-default
returns-in-0-default c =
    let d = cut_after c.args.self.now _ c.args.at c.args.page _ _ _ c.requires.order c.requires.there c.get-run.ensures c.before-before.ensures c.after-after.ensures c.in-0-default.is-0 c.in-0-default.is-1.1 c.set.ensures.runs in
    record { runs = d.changed; count = d.count; long = search rules }

pub returns-in_default-eq0 : goal.returns-in_default-eq0
returns-in_default-eq0 c =
    let d = cut_before c.args.self.now _ c.args.at c.args.page _ _ _ c.requires.order c.requires.there c.get-run.ensures c.before-before.ensures c.after-after.ensures c.in_default-eq0.is-0.1 c.in_default-eq0.is-1 c.set-in_default-eq0.ensures.runs in
    record { runs = d.changed; count = d.count; long = search rules }

pub returns-in_default : goal.returns-in_default
returns-in_default c =
    let d = cut_both c.args.self.now _ c.args.at c.args.page _ _ _ c.requires.order c.requires.there c.get-run.ensures c.before-before.ensures c.after-after.ensures c.in_default.is-0.1 c.in_default.is-1.1 _ c.set-in_default.ensures.runs c.insert.ensures.runs in
    record { runs = d.changed; count = d.count; long = search rules }
