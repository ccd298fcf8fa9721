-- The making of tables. Assumes nothing.
use Rattle.std.proofs.Common.{◌≡◌, ℕ, ◌+◌, ◌*◌, ◌<◌, ◌≤◌, List, ◌∙◌, arith}
use Rattle.std.proofs.lemmas.Bool.Decides.{nat_tests}
use Rattle.space.specs.Memory.{Apart, Zeroed}
use Rattle.sv39.specs.declared.figures.Figures.{Figures}
use Rattle.sv39.specs.Tables.{bottom, word}
use Rattle.sv39.specs.Writes.{Written, Built}
use Rattle.sv39.specs.Entries.{pointer}
use Rattle.sv39.proofs.Numbers.{word_apart, word_zeroed}

-- One entry more within the first n bytes.
pub apart_then : {n k v : ℕ} {xs ys zs : List ℕ} → Apart 0 n xs ys → Written k v ys zs → 8 * k + 8 ≤ n → Apart 0 n xs zs
apart_then a w h = record { long = w.apart.long ∙ a.long; rest = λ i o. w.apart.rest i (grind arith) ∙ a.rest i o }

word_other : {k v : ℕ} {ys zs : List ℕ} → Written k v ys zs → (i : ℕ) → (i ≡ k → ⊥) → word zs i ≡ word ys i
word_other w i ne = word_apart w.apart i (grind arith)

pub built_none : (g : Figures) (xs ys zs : List ℕ) → g.gigabyte < 512 → Zeroed 0 ((g.leaves + 2) * 4096) xs ys → Written g.gigabyte (pointer (bottom g + 1)) ys zs → Built g 0 xs zs
built_none g xs ys zs small z w = record {
  apart = apart_then z.apart w (omega arith);
  root = λ i h. let here = w.here in let other = word_other w i in let none = word_zeroed z i (omega arith) (omega arith) in grind (arith, nat_tests);
  middle = λ i h.
      let other = word_other w (512 + i) (λ e. omega arith) in
      let none = word_zeroed z (512 + i) (omega arith) (omega arith) in
      grind (arith, nat_tests);
  slots = λ j h. word_other w (1024 + j) (λ e. omega arith) ∙ word_zeroed z (1024 + j) (omega arith) (omega arith);
}

pub built_more : (g : Figures) (n : ℕ) (xs ys zs : List ℕ) → n < g.leaves → g.leaves ≤ 512 → Built g n xs ys → Written (512 + n) (pointer (bottom g + 2 + n)) ys zs → Built g (n + 1) xs zs
built_more g n xs ys zs less high b w = record {
  apart = apart_then b.apart w (omega arith);
  root = λ i h. word_other w i (λ e. omega arith) ∙ b.root i h;
  middle = λ i h. let here = w.here in let other = word_other w (512 + i) in let was = b.middle i h in grind (arith, nat_tests);
  slots = λ j h. word_other w (1024 + j) (λ e. omega arith) ∙ b.slots j h;
}
