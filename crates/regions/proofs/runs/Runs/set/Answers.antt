use Rattle.std.proofs.Common.{rules}
use Rattle.std.proofs.lemmas.List.{places}
use Rattle.regions.proofs.Edits.{taken_set}
use Rattle.regions.proofs.runs.Runs.set.Goals as goal

pub returns : goal.returns
returns c =
    let t = c.args.self.now in
    record { runs = taken_set t.buffer.now t.used c.args.at c.args.run c.requires t.fits; used = search (rules, places); long = search (rules, places) }
