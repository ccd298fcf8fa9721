use Rattle.std.proofs.Common.{rules}
use borrow.Author.Tests.{tests}
use Rattle.image.specs.Prescribed.{has_memory}
use Rattle.image.proofs.segments.Segments.with_memory.Goals as goal

pub returns : goal.returns
returns c = c.first.ensures.found (has_memory c.args.address) (λ s b k. search (rules, tests))
