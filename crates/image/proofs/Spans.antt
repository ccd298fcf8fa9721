-- Changes of a span, one after the other. Assumes nothing.
use Rattle.std.proofs.Common.{ℕ, ◌+◌, ◌<◌, length, slice_index, sym, ap, ◌∙◌, arith}
use Rattle.image.specs.Spans.{Kept, Puts, Holds}
use Rattle.image.specs.declared.span.Span.{Span}

-- A span that is kept twice is kept.
pub kept_on : {T : Type 0} (w v u : Span T) → Kept w v → Kept v u → Kept w u
kept_on w v u first then = (then.0 ∙ first.0, then.1 ∙ first.1, then.2 ∙ first.2)

-- What two changes put.
pub puts_on : (w v u : Span ℕ) (f g : ℕ → ℕ → ℕ) → Kept w v → Puts w v f → Puts v u g → Puts w u (λ a old. g a (f a old))
puts_on w v u f g kept first then = λ j within.
    then j (omega (arith, kept.2))
    ∙ ap (λ (a : ℕ). g (a + j) (slice_index v.items.now j)) kept.0
    ∙ ap (g (w.address + j)) (first j within)

-- What a span holds after a change.
pub holds_on : (w v : Span ℕ) (f : ℕ → ℕ) (g : ℕ → ℕ → ℕ) → Kept w v → Holds w f → Puts w v g → Holds v (λ a. g a (f a))
holds_on w v f g kept held put = λ j within.
    let less : j < length w.items.now = omega (arith, kept.2) in
    put j less
    ∙ ap (g (w.address + j)) (held j less)
    ∙ ap (λ (a : ℕ). g (a + j) (f (a + j))) (sym kept.0)
