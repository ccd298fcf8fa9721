-- What an entry of an Sv39 page table says. Assumes nothing.
use Rattle.std.specs.Prelude.{◌≡◌, ℕ, ◌+◌, ◌*◌, ◌/◌, ◌%◌, ◌^◌, ◌<◌, ◌≤◌, ◌⊎◌}
use Rattle.sv39.specs.declared.entry.Bit.{Bit}
use Rattle.sv39.specs.declared.entry.Bit.TheVariants.{Valid, Read, Write, Execute, User, Accessed, Dirty}
use Rattle.sv39.specs.declared.entry.Entry.{Entry}
use Rattle.sv39.specs.declared.entry.Entry.TheVariants.{Zero, Invalid, Table, Leaf}

-- Bit n of an entry: V 0, R 1, W 2, X 3, U 4, G 5, A 6, D 7.
abbrev pub bit : ℕ → ℕ → ℕ
bit n e = e / 2 ^ n % 2

-- The number of a bit.
abbrev pub bit_number : Bit → ℕ
bit_number Valid = 0
bit_number Read = 1
bit_number Write = 2
bit_number Execute = 3
bit_number User = 4
bit_number Accessed = 6
bit_number Dirty = 7

-- The physical page, in bits 10 to 53.
abbrev pub page_in : ℕ → ℕ
page_in e = e / 2 ^ 10 % 2 ^ 44

-- The rights: 4 with R, 2 with W, 1 with X.
abbrev pub rights_in : ℕ → ℕ
rights_in e = 4 * bit 1 e + 2 * bit 2 e + bit 3 e

-- A valid entry without R, W and X points to a table.
abbrev pub Pointing : ℕ → Type 0
Pointing e = bit 1 e + bit 2 e + bit 3 e ≡ 0

-- Not valid, writable but not readable, a reserved bit set, or a pointer with U, A or D.
abbrev pub Malformed : ℕ → Type 0
Malformed e = (bit 0 e ≡ 0) ⊎ (((bit 1 e ≡ 0) × (bit 2 e ≡ 1)) ⊎ ((2 ^ 54 ≤ e) ⊎ (Pointing e × (0 < bit 4 e + bit 6 e + bit 7 e))))

-- A leaf of level l lies at a multiple of the pages that it covers.
abbrev pub Aligned : ℕ → ℕ → Type 0
Aligned l e = page_in e % 512 ^ l ≡ 0

-- What an entry of level l says.
abbrev pub Says : ℕ → ℕ → Entry → Type 0
Says l e Zero = e ≡ 0
Says l e Invalid = (0 < e) × (Malformed e ⊎ ((Pointing e → ⊥) × (Aligned l e → ⊥)))
Says l e (Table p) = (Malformed e → ⊥) × Pointing e × (p ≡ page_in e)
Says l e (Leaf h) = (Malformed e → ⊥) × (Pointing e → ⊥) × Aligned l e × (h.page ≡ page_in e) × (h.rights ≡ rights_in e)

-- The entry that points to the table in a page: V.
unfoldable pub pointer : ℕ → ℕ
pointer page = page * 2 ^ 10 + 1

-- The leaf of a page with rights: V, U and A; R, W and X as the rights say; D where W is set.
unfoldable pub leaf : ℕ → ℕ → ℕ
leaf page rights = page * 2 ^ 10 + (1 + 2 ^ 4 + 2 ^ 6 + 2 * bit 2 rights + (2 ^ 2 + 2 ^ 7) * bit 1 rights + 2 ^ 3 * bit 0 rights)
