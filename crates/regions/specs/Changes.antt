-- What the functions on runs know, and what they do. Assumes nothing.
use Rattle.std.specs.Prelude.{◌≡◌, ℕ, suc, ◌+◌, ◌-◌, ◌^◌, ◌<◌, ◌≤◌, ◌⊎◌, List, length, Some, Option, ◌≢◌, slice_set}
use Rattle.std.specs.List.{slice_get, insert, remove}
use Rattle.space.specs.declared.parts.Mapping.{Mapping}
use Rattle.regions.specs.declared.run.Run.{Run}
use Rattle.regions.specs.declared.runs.Runs.{Runs}
use Rattle.regions.specs.Runs.{Holds, Meets, mapping_of, InOrder, in_use, slots}

-- The run of one page.
abbrev pub single : ℕ → Mapping → Run
single p h = record { first = p; count = 1; rights = h.rights; frame = h.frame }

-- The first run with the second at its end.
abbrev pub joined : Run → Run → Run
joined r s = record { first = r.first; count = r.count + s.count; rights = r.rights; frame = r.frame }

-- What a run has before a page of its own.
abbrev pub before : Run → ℕ → Run
before r p = record { first = r.first; count = p - r.first; rights = r.rights; frame = r.frame }

-- What a run has behind a page of its own.
abbrev pub after : Run → ℕ → Run
after r p = record { first = p + 1; count = r.first + r.count - (p + 1); rights = r.rights; frame = r.frame + (p + 1 - r.first) }

-- No run holds the page.
abbrev pub Unheld : List Run → ℕ → Type 0
Unheld rs p = (i : ℕ) (r : Run) → slice_get rs i ≡ Some r → Holds r p → ⊥

-- The first k runs begin at or below the page, and the next one above it.
pub record Slot (rs : List Run) (p k : ℕ) : Type 0 where
  pub within : k ≤ length rs
  pub low : (i : ℕ) (r : Run) → i < k → slice_get rs i ≡ Some r → r.first ≤ p
  pub high : (r : Run) → slice_get rs k ≡ Some r → p < r.first

-- The runs in use became these, in the same buffer.
pub record Became (x y : Runs) (rs : List Run) : Type 0 where
  pub runs : in_use y ≡ rs
  pub used : y.used ≡ length rs
  pub long : slots y ≡ slots x

-- Run `at` holds the page, and the number behind that of its last frame is below 2^32. Where the run has more than two pages, so that a cut may leave two runs, there is a slot for one run more.
pub record Cuttable (x : Runs) (p at : ℕ) : Type 0 where
  pub run : Run
  pub there : slice_get (in_use x) at ≡ Some run
  pub holds : Holds run p
  pub frames : run.frame + run.count < 2 ^ 32
  pub room : 2 < run.count → x.used < slots x

-- Run k goes on where the run s ends: it left the list, and s with it at its end is t. Or it does not go on there, or there is no run k: the list is as it was, and t is s.
abbrev pub TakesNext : List Run → ℕ → Run → List Run → Run → Type 0
TakesNext rs k s ss t =
    ((y : Run) × (slice_get rs k ≡ Some y) × Meets s y × (ss ≡ remove rs k) × (t ≡ joined s y))
    ⊎ (((y : Run) → slice_get rs k ≡ Some y → Meets s y → ⊥) × (ss ≡ rs) × (t ≡ s))

-- The run t goes on where the run before run k ends: that run got it at its end. Or it does not go on there, or there is no run before: it was inserted as run k.
abbrev pub Joins : List Run → ℕ → Run → List Run → Type 0
Joins rs k t ss =
    ((j : ℕ) × (x : Run) × (k ≡ suc j) × (slice_get rs j ≡ Some x) × Meets x t × (ss ≡ slice_set rs j (joined x t)))
    ⊎ (((j : ℕ) (x : Run) → k ≡ suc j → slice_get rs j ≡ Some x → Meets x t → ⊥) × (ss ≡ insert rs k t))

-- The runs ss are in order, give this to the page p, and give to every other page what rs give to it.
pub record Changed (p : ℕ) (o : Option Mapping) (rs ss : List Run) : Type 0 where
  pub here : mapping_of ss p ≡ o
  pub page : (q : ℕ) → (q ≢ p) → mapping_of ss q ≡ mapping_of rs q
  pub order : InOrder ss
