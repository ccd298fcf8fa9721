use Rattle.std.proofs.Common.{List, map, ap, ◌∙◌, arith}
use Rattle.image.specs.Pages.{page_count}
use Rattle.image.specs.Prescribed.{image_of}
use Rattle.image.specs.declared.segments.Segment.{Segment}
use Rattle.image.proofs.Known.{laid}
use Rattle.image.proofs.Counts.{pages_few}
use Rattle.image.proofs.placed.Placed.pages.Goals as goal

pub overflow_cast-result : goal.overflow_cast-result
overflow_cast-result c =
    let m = c.args.self.now in
    let b = m.checked.opened.file.now in
    let few = pages_few b m.bias (laid b m.bias m.clear) c.segments.result c.segments.ensures.list in
    record { fits = omega (arith, c.pages.ensures) }

pub returns : goal.returns
unfolding image_of
returns c = c.pages.ensures ∙ ap (λ (xs : List Segment). page_count (map (λ (s : Segment). s.pages) xs)) c.segments.ensures.list
