use Rattle.std.proofs.Common.{sym, refl, ◌∙◌}
use Rattle.regions.specs.Spaces.{runs_of}
use Rattle.regions.proofs.Mappings.{unheld_none}
use Rattle.regions.proofs.list.calls.RegionListSpace.look.Goals as goal

pub returns-in_err-i-clause-step : goal.returns-in_err-i-clause-step
returns-in_err-i-clause-step c v =
    let none = unheld_none (runs_of c.args.self.now) c.args.page c.in_err-i.ensures in
    (tt, record { answer = c.from_residual.ensures ∙ sym none; same = refl })
