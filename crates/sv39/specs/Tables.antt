-- Sv39 tables at the beginning of a memory, and the space that they mean. Assumes nothing.
use Rattle.std.specs.Prelude.{◌≡◌, ℕ, zero, suc, ◌+◌, ◌-◌, ◌*◌, ◌/◌, ◌^◌, ◌<◌, cond, ◌||◌, List, Some, None, Option, ◌==◌, nat_le, nat_lt, slice_index}
use Rattle.space.specs.declared.parts.Mapping.{Mapping}
use Rattle.space.specs.Meaning.{Meaning}
use Rattle.sv39.specs.declared.figures.Figures.{Figures}
use Rattle.sv39.specs.declared.entry.Walk.TheVariants.{Reached, Empty}
use Rattle.sv39.specs.Entries.{page_in, rights_in, pointer, leaf}
use Rattle.sv39.specs.Walks.{le, Ends}

-- The first page of the window, and its number of pages.
abbrev pub first : Figures → ℕ
first g = 262144 * g.gigabyte

abbrev pub count : Figures → ℕ
count g = 512 * g.leaves

-- The physical page of the memory's first byte, and that of data frame 0, behind the tables.
abbrev pub bottom : Figures → ℕ
bottom g = g.base / 4096

abbrev pub origin : Figures → ℕ
origin g = bottom g + g.leaves + 2

-- Entry k of the tables, which begin with the memory. A table has 512 entries of 8 bytes.
abbrev pub word : List ℕ → ℕ → ℕ
word memory k = le memory (8 * k) 8

-- The data frame that a leaf names.
abbrev pub frame_in : Figures → ℕ → ℕ
frame_in g e = page_in e - origin g

-- What an entry of a leaf table says of its page.
abbrev pub mapping_in : Figures → ℕ → Option Mapping
mapping_in g zero = None
mapping_in g (suc e) = Some (record { frame = frame_in g (suc e); rights = rights_in (suc e) })

-- The leaf table entry of the window's page j: the leaf tables stand behind root and middle table.
abbrev pub slot : List ℕ → ℕ → ℕ
slot memory j = word memory (1024 + j)

-- The frame and rights of a page.
abbrev pub page_at : Figures → List ℕ → ℕ → Option Mapping
page_at g memory p = cond (nat_lt p (first g) || nat_le (first g + count g) p) None (mapping_in g (slot memory (p - first g)))

-- Where byte i of data frame f lies in the memory.
abbrev pub place : Figures → ℕ → ℕ → ℕ
place g f i = (g.leaves + 2 + f) * 4096 + i

-- The space that the memory means, with `total` data frames.
abbrev pub meant : Figures → ℕ → List ℕ → Meaning
meant g total memory = record {
  first = first g;
  count = count g;
  frames = total;
  base = g.base;
  page = page_at g memory;
  byte = λ f i. slice_index memory (place g f i);
}

-- The leaf table entry of a page that is mapped so.
abbrev pub leaf_for : Figures → Option Mapping → ℕ
leaf_for g None = 0
leaf_for g (Some h) = leaf (origin g + h.frame) h.rights

-- Entry i of table t, where the pages are mapped so: table 0 is the root, whose one entry points to table 1;
-- that points to the leaf tables; table 2 + l is the leaf table l. All other entries are 0.
abbrev pub entry_of : Figures → (ℕ → Option Mapping) → ℕ → ℕ → ℕ
entry_of g page t i =
    cond (t == 0) (cond (i == g.gigabyte) (pointer (bottom g + 1)) 0)
    (cond (t == 1) (cond (nat_lt i g.leaves) (pointer (bottom g + 2 + i)) 0)
    (leaf_for g (page (first g + (512 * (t - 2) + i)))))

-- Every entry of every table is as it should be where the pages are mapped so.
abbrev pub Tables : Figures → List ℕ → (ℕ → Option Mapping) → Type 0
Tables g memory page = (t i : ℕ) → t < g.leaves + 2 → i < 512 → word memory (512 * t + i) ≡ entry_of g page t i

-- Where the architecture's walk of an address of a page ends: at the page's frame and rights, or at a 0 entry.
abbrev pub Found : Figures → List ℕ → ℕ → Option Mapping → Type 0
Found g memory a None = (l : ℕ) × Ends memory g.base a (Empty l)
Found g memory a (Some h) = Ends memory g.base a (Reached 0 (record { page = origin g + h.frame; rights = h.rights }))

-- The walk of every address below 2^39 shows just these pages.
abbrev pub Shows : Figures → List ℕ → (ℕ → Option Mapping) → Type 0
Shows g memory page = (a : ℕ) → a < 2 ^ 39 → Found g memory a (page (a / 4096))
