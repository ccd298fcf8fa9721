use Rattle.std.proofs.Common.{◌-◌, take, ap, ◌∙◌, rules}
use Rattle.std.proofs.lemmas.List.{places}
use Rattle.regions.proofs.Edits.{taken_remove}
use Rattle.regions.proofs.runs.Runs.remove.Goals as goal

pub returns : goal.returns
returns c =
    let t = c.args.self.now in
    record {
      runs = ap (λ ys. take (t.used - 1) ys) c.copy_within.ensures.after ∙ taken_remove t.buffer.now t.used c.args.at c.requires t.fits;
      used = search (rules, places);
      long = search (rules, places);
    }
