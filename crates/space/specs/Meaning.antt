-- What an address space means. Assumes nothing.
use Rattle.std.specs.Prelude.{◌≡◌, ℕ, zero, suc, ◌+◌, ◌^◌, ◌<◌, ◌≤◌, ◌⊎◌, Some, None, Option}
use Rattle.space.specs.declared.parts.Mapping.{Mapping}

-- First page, page count and number of frames; the physical address of the memory where hardware reads the space from it, else 0; the frame and
-- rights of a page, where it is mapped; the byte at an index of a frame, for every frame.
pub record Meaning : Type 0 where
  pub first : ℕ
  pub count : ℕ
  pub frames : ℕ
  pub base : ℕ
  pub page : ℕ → Option Mapping
  pub byte : ℕ → ℕ → ℕ

-- The rights that a page may have (4 read, 2 write, 1 execute): execute, read, both, or read and write.
abbrev pub Lawful : ℕ → Type 0
Lawful r = (r ≡ 1) ⊎ ((r ≡ 4) ⊎ ((r ≡ 5) ⊎ (r ≡ 6)))

-- The page lies outside the window.
abbrev pub Outside : Meaning → ℕ → Type 0
Outside m p = (p < m.first) ⊎ (m.first + m.count ≤ p)

-- The page is mapped.
abbrev pub IsMapped : Meaning → ℕ → Type 0
IsMapped m p = (h : Mapping) × (m.page p ≡ Some h)

-- Some page has the frame.
abbrev pub Held : Meaning → ℕ → Type 0
Held m f = (p : ℕ) × (h : Mapping) × (m.page p ≡ Some h) × (h.frame ≡ f)

-- What holds of every address space.
pub record Sound (m : Meaning) : Type 0 where
  pub window : m.first + m.count ≤ 2 ^ 26
  pub few : m.frames ≤ 65536
  pub inside : (p : ℕ) (h : Mapping) → m.page p ≡ Some h → Outside m p → ⊥
  pub below : (p : ℕ) (h : Mapping) → m.page p ≡ Some h → h.frame < m.frames
  pub rights : (p : ℕ) (h : Mapping) → m.page p ≡ Some h → Lawful h.rights
  pub alone : (p q : ℕ) (h k : Mapping) → m.page p ≡ Some h → m.page q ≡ Some k → h.frame ≡ k.frame → p ≡ q
  pub bytes : (f i : ℕ) → m.byte f i < 256

-- 1 for a mapped page, 0 for another.
abbrev pub one : Option Mapping → ℕ
one None = 0
one (Some h) = 1

-- How many of the n pages from a on are mapped.
unfoldable pub tally : (ℕ → Option Mapping) → ℕ → ℕ → ℕ
tally page a zero = 0
tally page a (suc n) = tally page a n + one (page (a + n))

-- How many pages are mapped.
abbrev pub mapped : Meaning → ℕ
mapped m = tally m.page m.first m.count
