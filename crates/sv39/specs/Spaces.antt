-- A space in Sv39 tables as a whole. Assumes nothing.
use Rattle.std.specs.Prelude.{◌≡◌, ℕ, ◌+◌, ◌-◌, ◌/◌, ◌<◌, ◌≤◌, List, length}
use Rattle.space.specs.Meaning.{Meaning, Sound, Held}
use Rattle.space.specs.Setups.{Empty}
use Rattle.sv39.specs.declared.figures.Figures.{Figures}
use Rattle.sv39.specs.declared.paging.Sv39.{Sv39}
use Rattle.sv39.specs.Tables.{first, count, meant, place as place-of, Tables}
use Rattle.sv39.specs.Invariants.{meant_sound}

-- The raw memory.
abbrev pub memory_of : Sv39 → List ℕ
memory_of t = t.tables.memory.now

-- What the space means.
abbrev pub means : Sv39 → Meaning
means t = meant t.figures t.frames.total (memory_of t)

-- Every space is valid.
abbrev pub always : Sv39 → Type 0
always t = Unit {0}

-- Every space is sound.
pub means_sound : (t : Sv39) → Sound (means t)
means_sound t =
    meant_sound t.figures t.frames.total (memory_of t) t.frames.entries.now t.kept.window t.kept.high t.kept.booked.few t.tables.bytes t.kept.filled t.kept.booked.owned

-- The page lies in the window, and k is the number of its entry in the tables.
pub record InWindow (t : Sv39) (p k : ℕ) : Type 0 where
  pub low : first t.figures ≤ p
  pub high : p < first t.figures + count t.figures
  pub number : k ≡ 1024 + (p - first t.figures)

-- Some page has the frame, and its byte at the index lies at this place of the memory.
pub record IsByte (t : Sv39) (f i at : ℕ) : Type 0 where
  pub held : Held (means t) f
  pub small : i < 4096
  pub place : at ≡ place-of t.figures f i
  pub within : at < length (memory_of t)

-- What is made of lawful figures: the window, a frame for each page of memory behind the tables, no page mapped, and the tables of that.
pub record Made (bytes : ℕ) (g : Figures) (t : Sv39) : Type 0 where
  pub figures : t.figures ≡ g
  pub empty : Empty (first g) (count g) (bytes / 4096 - (g.leaves + 2)) (means t)
  pub tables : Tables t.figures (memory_of t) (means t).page

-- What is made of other figures: a space without pages and frames. Memory and buffer are as they were.
pub record Unmade (xs es : List ℕ) (t : Sv39) : Type 0 where
  pub figures : t.figures ≡ record { base = 0; gigabyte = 0; leaves = 0 }
  pub empty : Empty 0 0 0 (means t)
  pub memory : memory_of t ≡ xs
  pub entries : t.frames.entries.now ≡ es
