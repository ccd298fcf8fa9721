-- The bookkeeping of a space's frames in a buffer, one entry for each frame. Assumes nothing.
use Rattle.std.specs.Prelude.{◌≡◌, ℕ, zero, suc, ◌+◌, ◌-◌, ◌^◌, ◌<◌, ◌≤◌, Bool, true, ◌&&◌, ◌||◌, ◌⊎◌, List, length, Some, None, Option, ◌==◌, nat_lt, slice_index, slice_set}
use Rattle.std.proofs.Common.{ap, inl, inr, arith}
use Rattle.std.proofs.lemmas.Bool.{or_cases, eqb-true}
use Rattle.space.specs.declared.frames.Frames.{Frames}
use Rattle.space.specs.declared.parts.Mapping.{Mapping}
use Rattle.space.specs.Meaning.{Meaning, Sound, Lawful, tally}

-- The buffer's entries, the number of frames, the first free frame, and how many frames are free.
pub record Pool : Type 0 where
  pub entries : List ℕ
  pub total : ℕ
  pub head : ℕ
  pub spare : ℕ

-- The pool in a struct over a lent buffer.
abbrev pub pool : Frames → Pool
pool x = record { entries = x.entries.now; total = x.total; head = x.head; spare = x.spare }

-- The entry of a frame that the page has.
abbrev pub mark : ℕ → ℕ
mark page = 4294967295 - page

-- The free frames from h on, each naming the next, are n, and the last one names the number of frames.
unfoldable pub chained : ℕ → List ℕ → ℕ → ℕ → Bool
chained total es h zero = h == total
chained total es h (suc n) = nat_lt h total && chained total es (slice_index es h) n

-- The frame in a mapping, or the other number where there is none.
abbrev pub frame_or : ℕ → Option Mapping → ℕ
frame_or other None = other
frame_or other (Some h) = h.frame

-- Mapped pages lie in the window.
abbrev pub Inside : ℕ → ℕ → (ℕ → Option Mapping) → Type 0
Inside first count page = (p : ℕ) (h : Mapping) → page p ≡ Some h → (first ≤ p) × (p < first + count)

-- Frames of pages are below the number of frames.
abbrev pub Below : ℕ → (ℕ → Option Mapping) → Type 0
Below total page = (p : ℕ) (h : Mapping) → page p ≡ Some h → h.frame < total

-- Whether rights are lawful, as a test.
abbrev pub allowed : ℕ → Bool
allowed r = r == 1 || (r == 4 || (r == 5 || r == 6))

-- Mapped pages have lawful rights.
abbrev pub Allowed : (ℕ → Option Mapping) → Type 0
Allowed page = (p : ℕ) (h : Mapping) → page p ≡ Some h → allowed h.rights ≡ true

-- The entry of each page's frame is the page's mark.
abbrev pub Owned : (ℕ → Option Mapping) → List ℕ → Type 0
Owned page es = (p : ℕ) (h : Mapping) → page p ≡ Some h → slice_index es h.frame ≡ mark p

-- A frame whose entry is above the number of frames is the frame of the page that the entry marks.
abbrev pub Used : ℕ → (ℕ → Option Mapping) → List ℕ → Type 0
Used total page es = (f : ℕ) → (f < total) × (total < slice_index es f) → frame_or total (page (mark (slice_index es f))) ≡ f

-- Mapped pages and free frames are together all frames.
abbrev pub Counted : ℕ → ℕ → ℕ → (ℕ → Option Mapping) → ℕ → Type 0
Counted first count total page spare = tally page first count + spare ≡ total

-- What ties the pages of a space to the bookkeeping of its frames.
pub record Booked (first count : ℕ) (page : ℕ → Option Mapping) (x : Pool) : Type 0 where
  pub window : first + count ≤ 2 ^ 26
  pub few : x.total ≤ 65536
  pub room : x.total ≤ length x.entries
  pub inside : Inside first count page
  pub below : Below x.total page
  pub owned : Owned page x.entries
  pub used : Used x.total page x.entries
  pub chain : chained x.total x.entries x.head x.spare ≡ true
  pub counted : Counted first count x.total page x.spare

-- The test finds what is lawful.
pub allowed_lawful : (r : ℕ) → allowed r ≡ true → Lawful r
allowed_lawful r e =
    elim (or_cases (r == 1) _ e) [
      | inl a ↦ inl (eqb-true r 1 a)
      | inr rest ↦ elim (or_cases (r == 4) _ rest) [
        | inl a ↦ inr (inl (eqb-true r 4 a))
        | inr last ↦ elim (or_cases (r == 5) (r == 6) last) [ inl a ↦ inr (inr (inl (eqb-true r 5 a))) | inr a ↦ inr (inr (inr (eqb-true r 6 a))) ]
      ]
    ]

-- A meaning whose pages are booked, with lawful rights, is sound.
pub booked_sound : (m : Meaning) (es : List ℕ) → m.first + m.count ≤ 2 ^ 26 → m.frames ≤ 65536 → Inside m.first m.count m.page
    → Below m.frames m.page → Allowed m.page → Owned m.page es → ((f i : ℕ) → m.byte f i < 256) → Sound m
booked_sound m es window few inside below permitted owned bytes = record {
  window = window;
  few = few;
  inside = λ p h e o. let i = inside p h e in elim o [ inl l ↦ omega (arith, i.0) | inr l ↦ omega (arith, i.1) ];
  below = below;
  rights = λ p h e. allowed_lawful h.rights (permitted p h e);
  alone = λ p q h k e d same.
      let a = owned p h e in
      let b = owned q k d in
      let c = ap (λ f. slice_index es f) same in
      omega (arith, (inside p h e).1, (inside q k d).1);
  bytes = bytes;
}

-- Every frame is free, each naming the next. Without room nothing is said of the buffer.
pub record Released (x y : Pool) : Type 0 where
  pub long : length y.entries ≡ length x.entries
  pub total : y.total ≡ x.total
  pub head : y.head ≡ 0
  pub spare : y.spare ≡ x.total
  pub next : (k : ℕ) → k < x.total → k < length x.entries → slice_index y.entries k ≡ k + 1
  pub rest : (k : ℕ) → x.total ≤ k → slice_index y.entries k ≡ slice_index x.entries k

-- The first free frame goes to the page; where none is free nothing happens.
abbrev pub Takes : ℕ → Option ℕ → Pool → Pool → Type 0
Takes page None x y = ((x.spare ≡ 0) ⊎ (length x.entries ≤ x.head)) × (y ≡ x)
Takes page (Some f) x y =
    (0 < x.spare) × (x.head < length x.entries) × (f ≡ x.head)
    × (y ≡ record { entries = slice_set x.entries x.head (mark page); total = x.total; head = slice_index x.entries x.head; spare = x.spare - 1 })

-- The frame becomes the first free one; a frame without an entry changes nothing.
pub record Gives (f : ℕ) (x y : Pool) : Type 0 where
  pub given : f < length x.entries → x.spare < 4294967295 → y ≡ record { entries = slice_set x.entries f x.head; total = x.total; head = f; spare = x.spare + 1 }
  pub other : (f < length x.entries → x.spare < 4294967295 → ⊥) → y ≡ x

-- The frame's entry is above the number of frames.
abbrev pub IsUsed : Pool → ℕ → Type 0
IsUsed x f = (f < x.total) × (f < length x.entries) × (x.total < slice_index x.entries f)
