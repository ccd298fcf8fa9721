use Rattle.space.specs.Frames.{pool}
use Rattle.sv39.proofs.Keeps.{kept_clear, does_clear}
use Rattle.sv39.proofs.paging.calls.Sv39Space.clear.Goals as goal

pub invariant_of-self : goal.invariant_of-self
invariant_of-self c =
    let t = c.args.self.now in
    record { kept = kept_clear t.figures _ (pool t.frames) t.kept _ (pool c.release_all.new.self) c.zero.ensures c.release_all.ensures }

pub returns-clause-step : goal.returns-clause-step
returns-clause-step c v =
    let t = c.args.self.now in
    (tt, does_clear t.figures _ (pool t.frames) t.kept _ (pool c.release_all.new.self) c.zero.ensures c.release_all.ensures)
