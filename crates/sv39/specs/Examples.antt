-- The laws of entries and walks, and worked examples of the definitions. Assumes nothing.
use Rattle.std.specs.Prelude.{◌≡◌, ℕ, ◌^◌, ◌<◌, List}
use Rattle.space.specs.Meaning.{Lawful}
use Rattle.sv39.specs.declared.entry.Entry.TheVariants.{Invalid, Table, Leaf}
use Rattle.sv39.specs.declared.entry.Walk.{Walk}
use Rattle.sv39.specs.Entries.{Says, pointer as pointer-to, leaf as leaf-of}
use Rattle.sv39.specs.Walks.{index, Ends}

-- A walk has one end.
abbrev pub OneEnd : Type 0
OneEnd = (memory : List ℕ) (base a : ℕ) (v w : Walk) → Ends memory base a v → Ends memory base a w → v ≡ w

-- An entry that is made of a page and lawful rights says just these.
pub record Encoded : Type 0 where
  pub pointer : (l page : ℕ) → page < 2 ^ 44 → Says l (pointer-to page) (Table page)
  pub leaf : (page r : ℕ) → page < 2 ^ 44 → Lawful r → Says 0 (leaf-of page r) (Leaf (record { page = page; rights = r }))

-- What the definitions give on examples that can be reckoned by hand.
pub record Examples : Type 0 where
  -- The leaf of physical address 0x80005000 to read and write; the pointer to the table at 0x80001000.
  pub leaf_entry : leaf-of 0x80005 6 ≡ 0x200014d7
  pub pointer_entry : pointer-to 0x80001 ≡ 0x20000401
  pub leaf : Says 0 0x200014d7 (Leaf (record { page = 0x80005; rights = 6 }))
  pub pointer : Says 2 0x20000401 (Table 0x80001)
  -- Bits without V, write without read, a bit above the page, a pointer with A: none has a meaning.
  pub no_valid : Says 0 0x200014d6 Invalid
  pub no_read : Says 0 0x200014d5 Invalid
  pub reserved : Says 0 0x40000000200014d7 Invalid
  pub accessed : Says 1 0x20000441 Invalid
  -- The same page is no place for a leaf of level 1, which covers 512 pages.
  pub misplaced : Says 1 0x200014d7 Invalid
  -- Address 0x40403005 goes by entry 1 of the root table, entry 2 of the next, entry 3 of the last.
  pub root : index 2 0x40403005 ≡ 1
  pub middle : index 1 0x40403005 ≡ 2
  pub last : index 0 0x40403005 ≡ 3
