-- Where the walk of an address through a space's tables ends. Assumes nothing.
use Rattle.std.proofs.Common.{◌≡◌, ℕ, zero, suc, ◌+◌, ◌-◌, ◌*◌, ◌/◌, ◌%◌, ◌^◌, ◌<◌, ◌≤◌, eqb, ltb, ◌⊎◌, List, length, Option, sym, refl, ap, ◌∙◌, subst, inr, ⊎_elim, arith}
use native.Mathlib.Nat.{div-div-eq-div-mul}
use Rattle.std.proofs.lemmas.Bool.{cases_eq, cases_lt, eq-eqb, ne_eqb, lt-ltb, le-ltb, cond-true, cond-false}
use Rattle.space.specs.declared.parts.Mapping.{Mapping}
use Rattle.space.specs.Frames.{Pool, allowed_lawful}
use Rattle.sv39.specs.declared.figures.Figures.{Figures}
use Rattle.sv39.specs.declared.entry.Entry.{Entry}
use Rattle.sv39.specs.declared.entry.Entry.TheVariants.{Zero, Table, Leaf}
use Rattle.sv39.specs.declared.entry.Leaf.{Leaf as Target}
use Rattle.sv39.specs.declared.entry.Walk.{Walk}
use Rattle.sv39.specs.declared.entry.Walk.TheVariants.{Reached, Empty}
use Rattle.sv39.specs.Entries.{Says, rights_in, pointer}
use Rattle.sv39.specs.Walks.{le, index, Goes, Walks}
use Rattle.sv39.specs.Tables.{first, count, bottom, origin, word, slot, frame_in, mapping_in, page_at, Found, Shows}
use Rattle.sv39.specs.Invariants.{Fine, Kept}
use Rattle.sv39.proofs.Pages.{page_outside, page_inside}
use Rattle.sv39.proofs.Keeps.{origin_fits}
use Rattle.sv39.proofs.Worked.{encoded}

-- One level of a walk, from a table in the memory with the entry e.
level : (m : List ℕ) (base a l t e : ℕ) (x : Entry) (w : Walk) → base ≤ t → t + 4096 ≤ base + length m → le m (t - base + 8 * index l a) 8 ≡ e → Says l e x
    → Goes (λ p. Walks m base a l (p * 4096) w) l w x → Walks m base a (suc l) t w
unfolding Walks
level m base a l t e x w low high is says goes = (x, inr ((low, high), subst (λ n. Says l n x) (sym is) says), goes)

-- The table at t is table k of the memory.
module _ (m : List ℕ) (base a l t k e : ℕ) (at : t ≡ base + 4096 * k) (inside : 4096 * k + 4096 ≤ length m) (is : word m (512 * k + index l a) ≡ e) where
  read : le m (t - base + 8 * index l a) 8 ≡ e
  read = ap (λ n. le m n 8) (let d : t - base + 8 * index l a ≡ 8 * (512 * k + index l a) = omega arith in d) ∙ is

  level_zero : e ≡ 0 → Walks m base a (suc l) t (Empty l)
  level_zero z = level m base a l t e Zero (Empty l) (omega arith) (omega arith) read z refl

  level_points : (page : ℕ) (w : Walk) → page < 2 ^ 44 → e ≡ pointer page → Walks m base a l (page * 4096) w → Walks m base a (suc l) t w
  level_points page w h is_pointer on =
      level m base a l t e (Table page) w (omega arith) (omega arith) read (subst (λ n. Says l n (Table page)) (sym is_pointer) (encoded.pointer l page h)) on

-- What a leaf of a data frame gives.
abbrev target : Figures → ℕ → Target
target g e = record { page = origin g + frame_in g e; rights = rights_in e }

-- The last level: the entry e is 0, or the leaf of a data frame.
last : (g : Figures) (m : List ℕ) (a t k e total : ℕ) → t ≡ g.base + 4096 * k → 4096 * k + 4096 ≤ length m → word m (512 * k + index 0 a) ≡ e → origin g + total ≤ 2 ^ 44 → (0 < e → Fine g total e)
    → (o : Option Mapping) → o ≡ mapping_in g e → (a < 2 ^ 39) → ((w : Walk) → Walks m g.base a 1 t w → Walks m g.base a 3 g.base w) → Found g m a o
last g m a t k zero total at inside is fits fine o o_is small up =
    subst (Found g m a) (sym o_is) (0, inr (small, up (Empty 0) (level_zero m g.base a 0 t k 0 at inside is refl)))
last g m a t k (suc e) total at inside is fits fine o o_is small up =
    let f = fine (omega arith) in
    let says = encoded.leaf (origin g + frame_in g (suc e)) (rights_in (suc e)) (omega (arith, f.1)) (allowed_lawful (rights_in (suc e)) f.2) in
    subst (Found g m a) (sym o_is)
    (inr (
      small,
      up (Reached 0 (target g (suc e)))
          (level m g.base a 0 t (suc e) (Leaf (target g (suc e))) (Reached 0 (target g (suc e)))
          (omega arith) (omega arith) (read m g.base a 0 t k (suc e) at inside is)
          (subst (λ n. Says 0 n (Leaf (target g (suc e)))) (sym f.0) says) refl),
    ))

-- The indexes of an address are parts of its page.
index_2 : (a : ℕ) → a < 2 ^ 39 → index 2 a ≡ a / 4096 / 262144
index_2 a h = omega (arith, div-div-eq-div-mul a 4096 262144)

index_1 : (a : ℕ) → index 1 a ≡ a / 4096 / 512 % 512
index_1 a = omega (arith, div-div-eq-div-mul a 4096 512)

-- An address outside the window ends at a 0 entry.
stops : (g : Figures) (m : List ℕ) (a l : ℕ) → a < 2 ^ 39 → (a / 4096 < first g) ⊎ (first g + count g ≤ a / 4096) → Walks m g.base a 3 g.base (Empty l) → Found g m a (page_at g m (a / 4096))
stops g m a l small out w = subst (Found g m a) (sym (page_outside g m (a / 4096) out)) (l, inr (small, w))

pub shown : (g : Figures) (m : List ℕ) (x : Pool) → Kept g m x → 0 < g.leaves → Shows g m (page_at g m)
shown g m x k live a small =
    let base = g.base in
    let q = a / 4096 in
    let whole = k.whole live in
    let al = k.aligned in
    let i2 = index_2 a small in
    let i1 = index_1 a in
    let root : word m (512 * 0 + index 2 a) ≡ _ = ap (word m) (let d : 512 * 0 + index 2 a ≡ index 2 a = omega arith in d) ∙ k.rooted (index 2 a) (live, omega arith) in
    ⊎_elim
    (λ (eq : index 2 a ≡ g.gigabyte).
    let to_middle = root ∙ cond-true (eqb (index 2 a) g.gigabyte) _ _ (eq-eqb _ _ eq) in
    let down : (w : Walk) → Walks m g.base a 2 (g.base + 4096) w → Walks m g.base a 3 g.base w =
    λ w on. level_points m g.base a 2 g.base 0 (pointer (bottom g + 1)) (omega arith) (omega arith) to_middle (bottom g + 1) w (omega arith) refl
    (subst (λ n. Walks m g.base a 2 n w) (let d : g.base + 4096 ≡ (bottom g + 1) * 4096 = omega arith in d) on) in
    let middle = k.middled (index 1 a) (live, omega arith) in
    ⊎_elim
    (λ (l : index 1 a < g.leaves).
    let to_leaf = middle ∙ cond-true (ltb (index 1 a) g.leaves) _ _ (lt-ltb _ _ l) in
    let deep : (w : Walk) → Walks m g.base a 1 (g.base + 4096 * (2 + index 1 a)) w → Walks m g.base a 3 g.base w =
    λ w on. down w (level_points m g.base a 1 (g.base + 4096) 1 (pointer (bottom g + 2 + index 1 a)) (omega arith) (omega arith) to_leaf (bottom g + 2 + index 1 a) w (omega arith) refl
    (subst (λ n. Walks m g.base a 1 n w) (let d : g.base + 4096 * (2 + index 1 a) ≡ (bottom g + 2 + index 1 a) * 4096 = omega arith in d) on)) in
    let low : first g ≤ a / 4096 = omega arith in
    let high : a / 4096 < first g + count g = omega arith in
    let at : word m (512 * (2 + index 1 a) + index 0 a) ≡ slot m (a / 4096 - first g) =
    ap (word m) (let d : 512 * (2 + index 1 a) + index 0 a ≡ 1024 + (a / 4096 - first g) = omega arith in d) in
    last g m a (g.base + 4096 * (2 + index 1 a)) (2 + index 1 a) (slot m (a / 4096 - first g)) x.total refl (omega arith) at (origin_fits g m x k live)
    (λ there. k.filled (a / 4096 - first g) (omega arith, there)) (page_at g m (a / 4096)) (page_inside g m (a / 4096) low high) small deep)
    (λ (l : g.leaves ≤ index 1 a).
    let zero_middle = middle ∙ cond-false (ltb (index 1 a) g.leaves) _ _ (le-ltb _ _ l) in
    stops g m a 1 small (inr (omega arith)) (down (Empty 1) (level_zero m g.base a 1 (g.base + 4096) 1 0 (omega arith) (omega arith) zero_middle refl)))
    (cases_lt (index 1 a) g.leaves))
    (λ (ne : index 2 a ≡ g.gigabyte → ⊥).
    let zero_root = root ∙ cond-false (eqb (index 2 a) g.gigabyte) _ _ (ne_eqb _ _ ne) in
    stops g m a 2 small (grind (arith, k.high, i2))
    (level_zero m g.base a 2 g.base 0 0 (omega arith) (omega arith) zero_root refl))
    (cases_eq (index 2 a) g.gigabyte)
