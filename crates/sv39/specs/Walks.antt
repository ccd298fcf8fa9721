-- The walk of an address through page tables, as the architecture has it. Assumes nothing.
use Rattle.std.specs.Prelude.{◌≡◌, ℕ, zero, suc, ◌+◌, ◌-◌, ◌*◌, ◌/◌, ◌%◌, ◌^◌, ◌<◌, ◌≤◌, ◌⊎◌, List, length, slice_index}
use Rattle.sv39.specs.declared.entry.Entry.{Entry}
use Rattle.sv39.specs.declared.entry.Entry.TheVariants.{Zero, Invalid, Table, Leaf}
use Rattle.sv39.specs.declared.entry.Walk.{Walk}
use Rattle.sv39.specs.declared.entry.Walk.TheVariants.{Reached, Empty, Fault}
use Rattle.sv39.specs.Entries.{Says}

-- The number that `width` bytes from `at` on stand for, lowest byte first.
unfoldable pub le : List ℕ → ℕ → ℕ → ℕ
le bytes at zero = 0
le bytes at (suc width) = le bytes at width + slice_index bytes (at + width) * 256 ^ width

-- The index of an address into a table of level l: bits 38 to 30 at level 2, 29 to 21 at level 1, 20 to 12 at level 0.
abbrev pub index : ℕ → ℕ → ℕ
index l a = a / 2 ^ (12 + 9 * l) % 512

-- The table at the physical address t lies in the memory, which begins at the address base.
abbrev pub Inside : List ℕ → ℕ → ℕ → Type 0
Inside memory base t = (base ≤ t) × (t + 4096 ≤ base + length memory)

-- What a walk finds for the address a in the table of level l at t; outside the memory there is nothing to read.
abbrev pub Finds : List ℕ → ℕ → ℕ → ℕ → ℕ → Entry → Type 0
Finds memory base a l t x =
    ((Inside memory base t → ⊥) × (x ≡ Invalid)) ⊎ (Inside memory base t × Says l (le memory (t - base + 8 * index l a) 8) x)

-- How a walk goes on from what it finds at level l; `Below p` is the end of the walk from the table in page p.
abbrev pub Goes : (ℕ → Type 0) → ℕ → Walk → Entry → Type 0
Goes Below l w Zero = w ≡ Empty l
Goes Below l w Invalid = w ≡ Fault
Goes Below l w (Table p) = Below p
Goes Below l w (Leaf h) = w ≡ Reached l h

-- The walk of a from the table at t with n levels to go ends at w. Below the last level there is no table.
unfoldable pub Walks : List ℕ → ℕ → ℕ → ℕ → ℕ → Walk → Type 0
Walks memory base a zero t w = w ≡ Fault
Walks memory base a (suc l) t w = (x : Entry) × Finds memory base a l t x × Goes (λ p. Walks memory base a l (p * 4096) w) l w x

-- The walk of an address from the root table, with which the memory begins, ends at w. Addresses have 39 bits.
abbrev pub Ends : List ℕ → ℕ → ℕ → Walk → Type 0
Ends memory base a w = ((2 ^ 39 ≤ a) × (w ≡ Fault)) ⊎ ((a < 2 ^ 39) × Walks memory base a 3 base w)
