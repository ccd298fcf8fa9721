use Rattle.std.proofs.Common.{◌+◌, set, take, ap, ◌∙◌, rules}
use Rattle.std.proofs.lemmas.List.{places}
use Rattle.regions.proofs.Edits.{taken_insert}
use Rattle.regions.proofs.runs.Runs.insert.Goals as goal

pub returns : goal.returns
returns c =
    let t = c.args.self.now in
    record {
      runs = ap (λ ys. take (t.used + 1) (set ys c.args.at c.args.run)) c.copy_within.ensures.after ∙ taken_insert t.buffer.now t.used c.args.at c.args.run c.requires.within c.requires.room;
      used = search (rules, places);
      long = search (rules, places);
    }
