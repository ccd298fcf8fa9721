use Rattle.std.proofs.Common.{◌∙◌, rules}
use Rattle.std.proofs.lemmas.Iterator.{YieldsList-from_slice}
use Rattle.std.proofs.lemmas.Iterator.Search.{find_from_yields_List}
use borrow.Author.Tests.{tests}
use Rattle.image.specs.Stages.{listed}
use Rattle.image.proofs.segments.Segments.first.Goals as goal

pub returns : goal.returns
returns g c = record {
  found = λ passes gives.
      c.copied.ensures
      ∙ find_from_yields_List passes _ _ c.find.result c.find.ensures.ran (YieldsList-from_slice (listed c.args.self.now) cc) (λ x b q k. (search (rules, tests), gives x b (search (rules, tests))));
}
