-- What always holds of a space in Sv39 tables. Past a refused set-up there is no leaf table, and nothing is said of the memory. Assumes nothing.
use Rattle.std.specs.Prelude.{◌≡◌, ℕ, zero, suc, ◌+◌, ◌-◌, ◌*◌, ◌%◌, ◌^◌, ◌<◌, ◌≤◌, Bool, true, false, cond, ◌||◌, List, length, Some, None, Option, ◌==◌, nat_le, nat_lt, refl}
use Rattle.std.proofs.Common.{ap, ◌∙◌, arith}
use Rattle.std.proofs.lemmas.Bool.{or_parts, ltb-false, leb-false}
use Rattle.space.specs.declared.parts.Mapping.{Mapping}
use Rattle.space.specs.Meaning.{Sound}
use Rattle.space.specs.Memory.{Bytes}
use Rattle.space.specs.Frames.{Pool, allowed, Owned, Booked, booked_sound}
use Rattle.sv39.specs.declared.figures.Figures.{Figures}
use Rattle.sv39.specs.Entries.{rights_in, pointer, leaf}
use Rattle.sv39.specs.Tables.{first, count, bottom, origin, word, slot, frame_in, mapping_in, page_at, meant, place}

-- The memory is the tables and the data frames, and ends by 2^56.
abbrev pub Whole : Figures → ℕ → ℕ → Type 0
Whole g total bytes = 0 < g.leaves → ((g.leaves + 2 + total) * 4096 ≡ bytes) × (g.base + bytes ≤ 2 ^ 56)

-- The root table points to the middle table.
abbrev pub Rooted : Figures → List ℕ → Type 0
Rooted g memory = (i : ℕ) → (0 < g.leaves) × (i < 512) → word memory i ≡ cond (i == g.gigabyte) (pointer (bottom g + 1)) 0

-- The middle table points to the leaf tables.
abbrev pub Middled : Figures → List ℕ → Type 0
Middled g memory = (i : ℕ) → (0 < g.leaves) × (i < 512) → word memory (512 + i) ≡ cond (nat_lt i g.leaves) (pointer (bottom g + 2 + i)) 0

-- The entry is the leaf of a data frame with lawful rights.
abbrev pub Fine : Figures → ℕ → ℕ → Type 0
Fine g total e = (e ≡ leaf (origin g + frame_in g e) (rights_in e)) × (frame_in g e < total) × (allowed (rights_in e) ≡ true)

-- Each entry of the leaf tables that is not 0 is such a leaf.
abbrev pub Filled : Figures → ℕ → List ℕ → Type 0
Filled g total memory = (j : ℕ) → (j < count g) × (0 < slot memory j) → Fine g total (slot memory j)

-- All that always holds of the figures, the memory and the bookkeeping of the frames.
pub record Kept (g : Figures) (memory : List ℕ) (x : Pool) : Type 0 where
  pub window : g.gigabyte ≤ 255
  pub high : g.leaves ≤ 512
  pub aligned : g.base % 4096 ≡ 0
  pub whole : Whole g x.total (length memory)
  pub rooted : Rooted g memory
  pub middled : Middled g memory
  pub filled : Filled g x.total memory
  pub booked : Booked (first g) (count g) (page_at g memory) x

none_some : {A : Type 0} {x : A} → ◌≡◌ {A = Option A} None (Some x) → ⊥
none_some e = let z : ◌≡◌ {A = ℕ} 0 1 = cc in omega arith

-- The entry of a mapped page.
pub record Entered (g : Figures) (e : ℕ) (h : Mapping) : Type 0 where
  pub there : 0 < e
  pub frame : h.frame ≡ frame_in g e
  pub rights : h.rights ≡ rights_in e

entered : (g : Figures) (e : ℕ) (h : Mapping) → mapping_in g e ≡ Some h → Entered g e h
entered g zero h q = absurd (none_some q)
entered g (suc e) h q =
    let at : h ≡ record { frame = frame_in g (suc e); rights = rights_in (suc e) } = cc in
    record { there = omega arith; frame = ap (λ (x : Mapping). x.frame) at; rights = ap (λ (x : Mapping). x.rights) at }

cond_some : {A : Type 0} (b : Bool) (o : Option A) (x : A) → cond b None o ≡ Some x → (b ≡ false) × (o ≡ Some x)
cond_some true o x e = absurd (none_some e)
cond_some false o x e = (refl, e)

-- A mapped page lies in the window, and its entry says so.
pub record Seen (g : Figures) (memory : List ℕ) (p : ℕ) (h : Mapping) : Type 0 where
  pub low : first g ≤ p
  pub high : p < first g + count g
  pub entry : Entered g (slot memory (p - first g)) h

pub seen : (g : Figures) (memory : List ℕ) (p : ℕ) (h : Mapping) → page_at g memory p ≡ Some h → Seen g memory p h
seen g memory p h e =
    let c = cond_some (nat_lt p (first g) || nat_le (first g + count g) p) (mapping_in g (slot memory (p - first g))) h e in
    let o = or_parts (nat_lt p (first g)) (nat_le (first g + count g) p) c.0 in
    record {
      low = ltb-false p (first g) o.0;
      high = leb-false (first g + count g) p o.1;
      entry = entered g (slot memory (p - first g)) h c.1;
    }

-- The space is sound.
pub meant_sound : (g : Figures) (total : ℕ) (memory es : List ℕ) → g.gigabyte ≤ 255 → g.leaves ≤ 512 → total ≤ 65536 → Bytes memory → Filled g total memory → Owned (page_at g memory) es
    → Sound (meant g total memory)
meant_sound g total memory es window high few bytes filled owned =
    booked_sound (meant g total memory) es (omega arith) few
    (λ p h e. let s = seen g memory p h e in (s.low, s.high))
    (λ p h e.
    let s = seen g memory p h e in
    let f = filled (p - first g) (omega (arith, s.low, s.high), s.entry.there) in
    omega (arith, s.entry.frame, f.1))
    (λ p h e.
    let s = seen g memory p h e in
    ap allowed s.entry.rights ∙ (filled (p - first g) (omega (arith, s.low, s.high), s.entry.there)).2)
    owned
    (λ f i. bytes (place g f i))
