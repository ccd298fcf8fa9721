use Rattle.std.proofs.Common.{rules}
use borrow.Author.Tests.{tests}
use Rattle.image.specs.Prescribed.{has_file_byte}
use Rattle.image.proofs.segments.Segments.with_file_byte.Goals as goal

pub returns : goal.returns
returns c = c.first.ensures.found (has_file_byte c.args.address) (λ s b k. search (rules, tests))
