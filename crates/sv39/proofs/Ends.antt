-- A walk has one end. Assumes nothing.
use Rattle.std.proofs.Common.{◌≡◌, ℕ, zero, suc, ◌+◌, ◌-◌, ◌*◌, ◌⊎◌, List, sym, refl, ap, ◌∙◌, subst, inl, inr, ⊎_elim, arith}
use Rattle.sv39.specs.declared.entry.Entry.{Entry}
use Rattle.sv39.specs.declared.entry.Entry.TheVariants.{Zero, Invalid, Table, Leaf}
use Rattle.sv39.specs.declared.entry.Leaf.{Leaf as Target}
use Rattle.sv39.specs.declared.entry.Walk.{Walk}
use Rattle.sv39.specs.Entries.{Says, Malformed, Pointing, Aligned}
use Rattle.sv39.specs.Walks.{le, index, Finds, Goes, Walks}
use Rattle.sv39.specs.Examples.{OneEnd}

-- A well-formed entry is valid, so not 0.
some : (e : ℕ) → (Malformed e → ⊥) → e ≡ 0 → ⊥
some e fine z = fine (inl (omega arith))

-- An entry with a meaning is not invalid.
invalid_not : (l e : ℕ) → Says l e Invalid → (Malformed e → ⊥) → (Pointing e ⊎ Aligned l e) → ⊥
invalid_not l e (more, bad) fine good =
    ⊎_elim fine (λ (b : (Pointing e → ⊥) × (Aligned l e → ⊥)). ⊎_elim b.0 b.1 good) bad

same_leaf : (h k : Target) → h.page ≡ k.page → h.rights ≡ k.rights → ◌≡◌ {A = Entry} (Leaf h) (Leaf k)
same_leaf h k p r = ap (λ (x : ℕ). Leaf (record { page = x; rights = h.rights })) p ∙ ap (λ (x : ℕ). Leaf (record { page = k.page; rights = x })) r

says_one : (l e : ℕ) (x y : Entry) → Says l e x → Says l e y → x ≡ y
says_one l e Zero Zero s t = refl
says_one l e Zero Invalid s t = absurd (omega (arith, s, t.0))
says_one l e Zero (Table p) s t = absurd (some e t.0 s)
says_one l e Zero (Leaf h) s t = absurd (some e t.0 s)
says_one l e Invalid Zero s t = absurd (omega (arith, t, s.0))
says_one l e Invalid Invalid s t = refl
says_one l e Invalid (Table p) s t = absurd (invalid_not l e s t.0 (inl t.1))
says_one l e Invalid (Leaf h) s t = absurd (invalid_not l e s t.0 (inr t.2))
says_one l e (Table p) Zero s t = absurd (some e s.0 t)
says_one l e (Table p) Invalid s t = absurd (invalid_not l e t s.0 (inl s.1))
says_one l e (Table p) (Table q) s t = ap Table (s.2 ∙ sym t.2)
says_one l e (Table p) (Leaf h) s t = absurd (t.1 s.1)
says_one l e (Leaf h) Zero s t = absurd (some e s.0 t)
says_one l e (Leaf h) Invalid s t = absurd (invalid_not l e t s.0 (inr s.2))
says_one l e (Leaf h) (Table p) s t = absurd (s.1 t.1)
says_one l e (Leaf h) (Leaf k) s t = same_leaf h k (s.3 ∙ sym t.3) (s.4 ∙ sym t.4)

finds_one : (memory : List ℕ) (base a l t : ℕ) (x y : Entry) → Finds memory base a l t x → Finds memory base a l t y → x ≡ y
finds_one memory base a l t x y (inl f) (inl g) = f.1 ∙ sym g.1
finds_one memory base a l t x y (inl f) (inr g) = absurd (f.0 g.0)
finds_one memory base a l t x y (inr f) (inl g) = absurd (g.0 f.0)
finds_one memory base a l t x y (inr f) (inr g) = says_one l (le memory (t - base + 8 * index l a) 8) x y f.1 g.1

-- Two walks that find the same go on to the same end, where the walks below do.
goes_one : (Above Below : ℕ → Type 0) (l : ℕ) (v w : Walk) → ((p : ℕ) → Above p → Below p → v ≡ w) → (x : Entry) → Goes Above l v x → Goes Below l w x → v ≡ w
goes_one Above Below l v w same Zero g h = g ∙ sym h
goes_one Above Below l v w same Invalid g h = g ∙ sym h
goes_one Above Below l v w same (Table p) g h = same p g h
goes_one Above Below l v w same (Leaf k) g h = g ∙ sym h

walks_one : (memory : List ℕ) (base a n t : ℕ) (v w : Walk) → Walks memory base a n t v → Walks memory base a n t w → v ≡ w
unfolding Walks
walks_one memory base a zero t v w g h = g ∙ sym h
walks_one memory base a (suc l) t v w (x, f, g) (y, k, h) =
    goes_one (λ p. Walks memory base a l (p * 4096) v) (λ p. Walks memory base a l (p * 4096) w) l v w (λ p. walks_one memory base a l (p * 4096) v w) x g
    (subst (Goes (λ p. Walks memory base a l (p * 4096) w) l w) (finds_one memory base a l t y x k f) h)

pub ends_one : OneEnd
ends_one memory base a v w (inl e) (inl f) = e.1 ∙ sym f.1
ends_one memory base a v w (inl e) (inr f) = absurd (omega (arith, e.0, f.0))
ends_one memory base a v w (inr e) (inl f) = absurd (omega (arith, e.0, f.0))
ends_one memory base a v w (inr e) (inr f) = walks_one memory base a 3 base v w e.1 f.1
