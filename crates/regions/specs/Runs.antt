-- Runs of pages with equal rights and consecutive frames, the pages that a list of them maps, and lists in order. Assumes nothing.
use Rattle.std.specs.Prelude.{◌≡◌, ℕ, suc, ◌+◌, ◌-◌, ◌^◌, ◌<◌, ◌≤◌, Bool, true, cond, ◌&&◌, List, [], ◌∷◌, Some, None, Option, length, nat_le, nat_lt, take}
use Rattle.std.specs.List.{slice_get, sum_by}
use Rattle.space.specs.declared.parts.Mapping.{Mapping}
use Rattle.regions.specs.declared.run.Run.{Run}
use Rattle.regions.specs.declared.runs.Runs.{Runs}

-- The run holds the page.
abbrev pub Holds : Run → ℕ → Type 0
Holds r p = (r.first ≤ p) × (p < r.first + r.count)

-- Whether it does, as a test.
abbrev pub holds : Run → ℕ → Bool
holds r p = nat_le r.first p && nat_lt p (r.first + r.count)

-- The frame and rights of a page of the run: the frames follow each other as the pages do.
abbrev pub mapping_in : Run → ℕ → Mapping
mapping_in r p = record { frame = r.frame + (p - r.first); rights = r.rights }

-- The frame and rights that the runs give to a page, where one of them holds it.
unfoldable pub mapping_of : List Run → ℕ → Option Mapping
mapping_of [] p = None
mapping_of (r ∷ rs) p = cond (holds r p) (Some (mapping_in r p)) (mapping_of rs p)

-- The runs lie one behind the other from page a on and below page b, and each has a page.
unfoldable pub in_order : ℕ → ℕ → List Run → Bool
in_order a b [] = nat_le a b
in_order a b (r ∷ rs) = nat_le a r.first && (nat_lt 0 r.count && in_order (r.first + r.count) b rs)

-- The second run goes on where the first ends: the next page, the next frame, equal rights.
abbrev pub Meets : Run → Run → Type 0
Meets r s = (s.first ≡ r.first + r.count) × (s.frame ≡ r.frame + r.count) × (s.rights ≡ r.rights)

-- No run goes on where the one before it ends: neighbours that could be one run are one.
abbrev pub Apart : List Run → Type 0
Apart rs = (i : ℕ) (r s : Run) → slice_get rs i ≡ Some r → slice_get rs (suc i) ≡ Some s → Meets r s → ⊥

-- The runs lie so among all pages that there can be, and neighbours do not meet.
pub record InOrder (rs : List Run) : Type 0 where
  pub ascending : in_order 0 (2 ^ 26) rs ≡ true
  pub apart : Apart rs

-- How many pages the runs have.
abbrev pub pages : List Run → ℕ
pages rs = sum_by (λ r. r.count) rs

-- Run i holds the page.
abbrev pub HeldBy : List Run → ℕ → ℕ → Type 0
HeldBy rs p i = (r : Run) × (slice_get rs i ≡ Some r) × Holds r p

-- The runs in use, with which the buffer begins.
abbrev pub in_use : Runs → List Run
in_use x = take x.used x.buffer.now

-- How many runs the buffer can hold.
abbrev pub slots : Runs → ℕ
slots x = length x.buffer.now
