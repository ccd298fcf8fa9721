-- Where the byte at an address comes from. Assumes nothing.
use Rattle.std.specs.Prelude.{◌≡◌, ℕ, ◌+◌, ◌-◌, ◌/◌, true, false, List, find, is_some, Some, None, Option, slice_index}
use Rattle.elf.specs.Searches.{SomeBelow, Highest}
use Rattle.elf.specs.Dynamic.{relocation_in, relocation_table}
use Rattle.elf.specs.declared.layout.Layout.{Layout}
use Rattle.image.specs.Prescribed.{segments_of, covers_page, has_file_byte, has_memory, reaches, word_byte}
use Rattle.image.specs.declared.segments.Segment.{Segment}
use Rattle.image.specs.declared.origin.Origin.{Origin}
use Rattle.image.specs.declared.origin.Origin.TheVariants.{File, Word, Inside, Around}

-- The relocation i reaches the address.
abbrev pub Reaches : Layout → List ℕ → ℕ → ℕ → ℕ → Type 0
Reaches l bytes bias a i = reaches l bias a (relocation_in l bytes (relocation_table l bytes) i) ≡ true

-- No relocation reaches the address.
abbrev pub Unreached : Layout → List ℕ → ℕ → ℕ → Type 0
Unreached l bytes bias a = SomeBelow (relocation_table l bytes).count (Reaches l bytes bias a) → ⊥

-- What the origin of a byte is: the last relocation that reaches it; else the file; else its place in or around a segment's memory.
abbrev pub ComesFrom : Layout → List ℕ → ℕ → ℕ → Origin → Type 0
ComesFrom l bytes bias a (Word i) = Highest (relocation_table l bytes).count (Reaches l bytes bias a) i
ComesFrom l bytes bias a (File o) =
    Unreached l bytes bias a × ((s : Segment) × (find (has_file_byte a) (segments_of l bytes bias) ≡ Some s) × (o ≡ s.offset + (a - s.address)))
ComesFrom l bytes bias a Inside =
    Unreached l bytes bias a × (find (has_file_byte a) (segments_of l bytes bias) ≡ None)
    × (is_some (find (has_memory a) (segments_of l bytes bias)) ≡ true)
ComesFrom l bytes bias a Around =
    Unreached l bytes bias a × (find (has_file_byte a) (segments_of l bytes bias) ≡ None) × (is_some (find (has_memory a) (segments_of l bytes bias)) ≡ false)

-- The byte that an origin gives at an address.
abbrev pub byte_from : Layout → List ℕ → ℕ → ℕ → Origin → ℕ
byte_from l bytes bias a (Word i) = word_byte l bytes bias a i
byte_from l bytes bias a (File o) = slice_index bytes o
byte_from l bytes bias a Inside = 0
byte_from l bytes bias a Around = 0

-- What a search for the origin of a byte answers: none where no segment covers the address's page.
abbrev pub Traced : Layout → List ℕ → ℕ → ℕ → Option Origin → Type 0
Traced l bytes bias a None = is_some (find (covers_page (a / 4096)) (segments_of l bytes bias)) ≡ false
Traced l bytes bias a (Some o) = (is_some (find (covers_page (a / 4096)) (segments_of l bytes bias)) ≡ true) × ComesFrom l bytes bias a o
