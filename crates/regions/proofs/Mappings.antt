-- What a list of runs says of pages. Assumes nothing.
use Rattle.std.proofs.Common.{◌≡◌, true, false, ℕ, zero, suc, ◌+◌, ◌<◌, ◌≤◌, ◌⊎◌, List, [], ◌∷◌, ◌++◌, Some, None, Option, sym, refl, ap, ◌∙◌, subst, inl, inr, ⊎_elim, arith}
use Rattle.std.specs.List.{slice_get}
use Rattle.std.specs.Option.{option_or}
use Rattle.std.proofs.lemmas.Bool.{and_parts, and_from, ltb-true, lt-ltb, le-leb, leb-true, cases_Bool}
use Rattle.std.proofs.lemmas.Bool.Decides.{nat_tests}
use Rattle.space.specs.declared.parts.Mapping.{Mapping}
use Rattle.regions.specs.declared.run.Run.{Run}
use Rattle.regions.specs.Runs.{Holds, holds, mapping_in, mapping_of, in_order}
use Rattle.regions.specs.Changes.{Unheld}

-- What a list in order begins with.
pub record Head (a b : ℕ) (r : Run) (rs : List Run) : Type 0 where
  pub low : a ≤ r.first
  pub some : 0 < r.count
  pub rest : in_order (r.first + r.count) b rs ≡ true

pub head : (a b : ℕ) (r : Run) (rs : List Run) → in_order a b (r ∷ rs) ≡ true → Head a b r rs
unfolding in_order
head a b r rs e =
    let p = and_parts _ _ e in
    let q = and_parts _ _ p.1 in
    record { low = leb-true a r.first p.0; some = ltb-true 0 r.count q.0; rest = q.1 }

pub ascending_more : (a b : ℕ) (r : Run) (rs : List Run) → a ≤ r.first → 0 < r.count → in_order (r.first + r.count) b rs ≡ true → in_order a b (r ∷ rs) ≡ true
unfolding in_order
ascending_more a b r rs low some rest = and_from _ _ (le-leb a r.first low) (and_from _ _ (lt-ltb 0 r.count some) rest)

pub ascending_none : (a b : ℕ) → a ≤ b → in_order a b [] ≡ true
unfolding in_order
ascending_none a b l = le-leb a b l

pub ends : (a b : ℕ) → in_order a b [] ≡ true → a ≤ b
unfolding in_order
ends a b e = leb-true a b e

-- A list in order ends behind its beginning.
pub ascending_le : (a b : ℕ) (rs : List Run) → in_order a b rs ≡ true → a ≤ b
ascending_le a b [] o = ends a b o
ascending_le a b (r ∷ rs) o = let h = head a b r rs o in let l = ascending_le (r.first + r.count) b rs h.rest in omega (arith, h.low)

-- A run that holds a page gives it its mapping; another leaves it to the rest.
pub mapping_here : (r : Run) (rs : List Run) (p : ℕ) → Holds r p → mapping_of (r ∷ rs) p ≡ Some (mapping_in r p)
unfolding mapping_of
mapping_here r rs p h = let low = h.0 in let high = h.1 in grind (arith, nat_tests)

pub mapping_later : (r : Run) (rs : List Run) (p : ℕ) → (Holds r p → ⊥) → mapping_of (r ∷ rs) p ≡ mapping_of rs p
unfolding mapping_of
mapping_later r rs p h = let no : r.first ≤ p → p < r.first + r.count → ⊥ = λ a b. h (a, b) in grind (arith, nat_tests)

pub mapping_none : (p : ℕ) → mapping_of [] p ≡ None
unfolding mapping_of
mapping_none p = refl

-- A run holds a page or not.
pub held_or_not : (r : Run) (p : ℕ) → Holds r p ⊎ (Holds r p → ⊥)
held_or_not r p =
    ⊎_elim (λ (e : holds r p ≡ true). let q = and_parts _ _ e in inl (leb-true r.first p q.0, ltb-true p (r.first + r.count) q.1))
    (λ (e : holds r p ≡ false). inr (λ h. let z : holds r p ≡ true = and_from _ _ (le-leb r.first p h.0) (lt-ltb p (r.first + r.count) h.1) in cc))
    (cases_Bool (holds r p))

-- A list behind another speaks where that says nothing.
pub mapping_joined : (rs ss : List Run) (p : ℕ) → mapping_of (rs ++ ss) p ≡ option_or (mapping_of rs p) (mapping_of ss p)
mapping_joined [] ss p = sym (ap (λ (o : Option Mapping). option_or o (mapping_of ss p)) (mapping_none p))
mapping_joined (r ∷ rs) ss p =
    ⊎_elim
    (λ (h : Holds r p). mapping_here r (rs ++ ss) p h ∙ sym (ap (λ (o : Option Mapping). option_or o (mapping_of ss p)) (mapping_here r rs p h)))
    (λ (h : Holds r p → ⊥). mapping_later r (rs ++ ss) p h ∙ mapping_joined rs ss p ∙ sym (ap (λ (o : Option Mapping). option_or o (mapping_of ss p)) (mapping_later r rs p h)))
    (held_or_not r p)

-- Where no run holds a page, it has no mapping.
pub unheld_none : (rs : List Run) (p : ℕ) → Unheld rs p → mapping_of rs p ≡ None
unheld_none [] p none = mapping_none p
unheld_none (r ∷ rs) p none = mapping_later r rs p (none 0 r refl) ∙ unheld_none rs p (λ i s e. none (suc i) s e)

-- A page with a mapping is held by a run that gives it.
pub record Given (rs : List Run) (p : ℕ) (h : Mapping) : Type 0 where
  pub slot : ℕ
  pub run : Run
  pub at : slice_get rs slot ≡ Some run
  pub holds : Holds run p
  pub is : h ≡ mapping_in run p

given_later : (r : Run) (rs : List Run) (p : ℕ) (h : Mapping) → Given rs p h → Given (r ∷ rs) p h
given_later r rs p h g = record { slot = suc g.slot; run = g.run; at = g.at; holds = g.holds; is = g.is }

pub given_by : (rs : List Run) (p : ℕ) (h : Mapping) → mapping_of rs p ≡ Some h → Given rs p h
given_by [] p h e = let z = sym (mapping_none p) ∙ e in cc
given_by (r ∷ rs) p h e =
    ⊎_elim
    (λ (l : Holds r p). let z = sym e ∙ mapping_here r rs p l in record { slot = 0; run = r; at = refl; holds = l; is = (cc) })
    (λ (l : Holds r p → ⊥). given_later r rs p h (given_by rs p h (sym (mapping_later r rs p l) ∙ e)))
    (held_or_not r p)

-- A run of a list in order lies between its ends, and is not empty.
pub record Lies (a b : ℕ) (r : Run) : Type 0 where
  pub low : a ≤ r.first
  pub some : 0 < r.count
  pub high : r.first + r.count ≤ b

pub lies : (a b : ℕ) (rs : List Run) (i : ℕ) (r : Run) → in_order a b rs ≡ true → slice_get rs i ≡ Some r → Lies a b r
lies a b [] i r o e = cc
lies a b (s ∷ rs) zero r o e =
    let h = head a b s rs o in
    let is : s ≡ r = cc in
    subst (Lies a b) is (record { low = h.low; some = h.some; high = ascending_le _ _ rs h.rest })
lies a b (s ∷ rs) (suc i) r o e =
    let h = head a b s rs o in
    let l = lies (s.first + s.count) b rs i r h.rest e in
    record { low = omega (arith, h.low, l.low); some = l.some; high = l.high }

-- In a list in order, the run that holds a page gives its mapping.
pub held_some : (a b : ℕ) (rs : List Run) (i : ℕ) (r : Run) (p : ℕ) → in_order a b rs ≡ true → slice_get rs i ≡ Some r → Holds r p → mapping_of rs p ≡ Some (mapping_in r p)
held_some a b [] i r p o e l = cc
held_some a b (s ∷ rs) zero r p o e l =
    let is : r ≡ s = cc in
    mapping_here s rs p (subst (λ t. Holds t p) is l) ∙ sym (ap (λ t. Some (mapping_in t p)) is)
held_some a b (s ∷ rs) (suc i) r p o e l =
    let h = head a b s rs o in
    let t = lies (s.first + s.count) b rs i r h.rest e in
    mapping_later s rs p (λ m. omega (arith, l.0, m.1, t.low)) ∙ held_some (s.first + s.count) b rs i r p h.rest e l

-- In a list in order, a run ends before a later one begins.
pub before_later : (a b : ℕ) (rs : List Run) (i j : ℕ) (r s : Run) → in_order a b rs ≡ true → i < j → slice_get rs i ≡ Some r → slice_get rs j ≡ Some s → r.first + r.count ≤ s.first
before_later a b [] i j r s o l e f = cc
before_later a b (t ∷ rs) i zero r s o l e f = absurd (omega arith)
before_later a b (t ∷ rs) zero (suc j) r s o l e f =
    let h = head a b t rs o in
    let is : t ≡ r = cc in
    subst (λ u. u.first + u.count ≤ s.first) is (lies (t.first + t.count) b rs j s h.rest f).low
before_later a b (t ∷ rs) (suc i) (suc j) r s o l e f = before_later (t.first + t.count) b rs i j r s (head a b t rs o).rest (omega arith) e f
