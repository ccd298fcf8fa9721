-- Lists in which no run goes on where the one before it ends. Assumes nothing.
use Rattle.std.proofs.Common.{◌≡◌, ℕ, zero, suc, ◌+◌, ◌<◌, ◌≤◌, List, [], ◌∷◌, ◌++◌, take, drop, length, get_or, Some, None, Option, sym, refl, ap, ◌∙◌, subst, ⊎_elim, arith}
use Rattle.std.specs.List.{slice_get}
use Rattle.std.proofs.lemmas.Option.{slice_get_cases}
use Rattle.regions.specs.declared.run.Run.{Run}
use Rattle.regions.specs.Runs.{Meets, Apart}
use Rattle.regions.proofs.Orders.{get_dropped}

-- The run does not go on where the run before it ends, if there is one.
abbrev pub Aside : Option Run → Run → Type 0
Aside None r = Unit {0}
Aside (Some x) r = Meets x r → ⊥

-- Behind the run before them, if there is one, no run of the list goes on where the one before it ends.
abbrev pub Chain : Option Run → List Run → Type 0
Chain o [] = Unit {0}
Chain o (r ∷ rs) = Aside o r × Chain (Some r) rs

-- The last run of a list behind another.
abbrev pub final : Option Run → List Run → Option Run
final o [] = o
final o (r ∷ rs) = final (Some r) rs

pub chain_parts : (o : Option Run) (rs ss : List Run) → Chain o (rs ++ ss) → Chain o rs × Chain (final o rs) ss
chain_parts o [] ss c = (tt, c)
chain_parts o (r ∷ rs) ss c = let p = chain_parts (Some r) rs ss c.1 in ((c.0, p.0), p.1)

pub chain_joined : (o : Option Run) (rs ss : List Run) → Chain o rs → Chain (final o rs) ss → Chain o (rs ++ ss)
chain_joined o [] ss c d = d
chain_joined o (r ∷ rs) ss c d = (c.0, chain_joined (Some r) rs ss c.1 d)

pub chain_from : (o : Option Run) (rs : List Run) → ((r : Run) → slice_get rs 0 ≡ Some r → Aside o r) → Apart rs → Chain o rs
chain_from o [] h p = tt
chain_from o (r ∷ rs) h p = (h r refl, chain_from (Some r) rs (λ s e. p 0 r s refl e) (λ i a b e f. p (suc i) a b e f))

-- The first two runs of a list.
chain_first : (t : Run) (rs : List Run) (r s : Run) → Chain (Some t) rs → t ≡ r → slice_get rs 0 ≡ Some s → Meets r s → ⊥
chain_first t [] r s c e f m = cc
chain_first t (u ∷ us) r s c e f m = let is : s ≡ u = cc in c.0 (subst (λ v. Meets t v) is (subst (λ v. Meets v s) (sym e) m))

pub chain_pairs : (o : Option Run) (rs : List Run) → Chain o rs → Apart rs
chain_pairs o [] c i r s e f m = cc
chain_pairs o (t ∷ rs) c zero r s e f m = let is : t ≡ r = cc in chain_first t rs r s c.1 is f m
chain_pairs o (t ∷ rs) c (suc i) r s e f m = chain_pairs (Some t) rs c.1 i r s e f m

-- The last of the first runs of a list.
pub final_taken : (j : ℕ) (rs : List Run) (o : Option Run) (x : Run) → slice_get rs j ≡ Some x → final o (take (suc j) rs) ≡ Some x
final_taken j [] o x e = cc
final_taken zero (r ∷ rs) o x e = e
final_taken (suc j) (r ∷ rs) o x e = final_taken j rs (Some r) x e

-- A run that does not go on where the run before run k ends.
pub aside_taken : (k : ℕ) (rs : List Run) (t : Run) → k ≤ length rs → ((j : ℕ) (x : Run) → k ≡ suc j → slice_get rs j ≡ Some x → Meets x t → ⊥) → Aside (final None (take k rs)) t
aside_taken zero rs t l none = tt
aside_taken (suc j) rs t l none = ⊎_elim
    (λ (s : (x : Run) × (j < length rs) × (slice_get rs j ≡ Some x) × (get_or rs j x ≡ x)). subst (λ o. Aside o t) (sym (final_taken j rs None s.0 s.2)) (none j s.0 refl s.2))
    (λ (s : (length rs ≤ j) × (slice_get rs j ≡ None)). absurd (omega (arith, s.0)))
    (slice_get_cases rs j).1

-- Another run before a list, where what meets it would meet the first.
pub chain_swapped : (r s : Run) (ys : List Run) → ((y : Run) → Meets s y → Meets r y) → Chain (Some r) ys → Chain (Some s) ys
chain_swapped r s [] same c = tt
chain_swapped r s (y ∷ ys) same c = (λ m. c.0 (same y m), c.1)

-- What is left behind the first k runs.
pub pairs_dropped : (k : ℕ) (rs : List Run) → Apart rs → Apart (drop k rs)
pairs_dropped k rs p i r s e f =
    p (k + i) r s (sym (get_dropped k rs i) ∙ e) (ap (slice_get rs) (let n : suc (k + i) ≡ k + suc i = omega arith in n) ∙ sym (get_dropped k rs (suc i)) ∙ f)
