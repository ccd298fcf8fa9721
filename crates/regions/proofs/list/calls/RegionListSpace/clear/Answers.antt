use Rattle.std.proofs.Common.{◌≤◌, length, sym, ap, subst}
use Rattle.space.specs.Frames.{pool}
use Rattle.regions.specs.Runs.{slots}
use Rattle.regions.specs.Spaces.{runs_of}
use Rattle.regions.proofs.Keeps.{kept_empty, does_clear}
use Rattle.regions.proofs.list.calls.RegionListSpace.clear.Goals as goal

pub invariant_of-self : goal.invariant_of-self
invariant_of-self c =
    let t = c.args.self.now in
    let k = t.kept in
    record { kept = kept_empty t.figures t.memory.now _ (slots c.clear.new.self) (pool t.frames) (pool c.release_all.new.self) c.clear.ensures.none k.window k.high k.bytes k.booked.few k.booked.room (subst (λ n. t.frames.total ≤ n) (sym (ap length c.clear.ensures.same)) k.room) k.contained c.release_all.ensures }

pub returns-clause-step : goal.returns-clause-step
returns-clause-step c v =
    let t = c.args.self.now in
    (tt, does_clear t.figures t.memory.now (runs_of t) _ (pool t.frames) (pool c.release_all.new.self) c.clear.ensures.none c.release_all.ensures)
