use Rattle.std.proofs.Common.{rules}
use borrow.Author.Tests.{tests}
use Rattle.image.specs.Prescribed.{covers_page}
use Rattle.image.proofs.segments.Segments.covering.Goals as goal

pub returns : goal.returns
returns c = c.first.ensures.found (covers_page c.args.page) (λ s b k. search (rules, tests))
