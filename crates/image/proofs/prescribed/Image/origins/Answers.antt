use Rattle.std.proofs.Common.{ℕ, ◌+◌, ◌/◌, ◌^◌, ◌<◌, length, None, Option, is_some, slice_index_or, sym, ap, subst, inl, inr, arith, rules}
use Rattle.std.proofs.lemmas.Bool.{cases_lt}
use Rattle.elf.specs.Layouts.{elf64}
use Rattle.image.specs.Origins.{Traced}
use Rattle.image.specs.declared.segments.Segment.{Segment}
use Rattle.image.proofs.Known.{laid}
use Rattle.image.proofs.Counts.{no_page}
use Rattle.image.proofs.prescribed.Image.origins.Goals as goal

pub returns-clause-traced : goal.returns-clause-traced
returns-clause-traced c = λ j within.
    let m = c.args.self.now in
    let b = m.opened.file.now in
    let w = c.args.span.now in
    let v = c.fill.new.self in
    let a = w.address + j in
    let kept = c.fill.ensures.kept in
    let less : j < length w.items.now = omega (arith, kept.2) in
    let traced : Traced elf64 b m.bias a (slice_index_or v.items.now j None) =
    elim (cases_lt a (2 ^ 64)) [
      | inl low ↦ let made = c.fill.ensures.made j None less low in search rules
      | inr high ↦
          subst (Traced elf64 b m.bias a) (sym (c.fill.ensures.none j None less high))
          (ap (λ (o : Option Segment). is_some o) (no_page b m.bias (laid b m.bias m.clear) (a / 4096) (omega arith)))
    ] in
    subst (λ (x : ℕ). Traced elf64 b m.bias (x + j) (slice_index_or v.items.now j None)) (sym kept.0) traced
