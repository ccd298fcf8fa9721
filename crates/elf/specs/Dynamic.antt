-- The dynamic table of a position-independent file, its relocation table, and the rules on them. Assumes nothing.
use Rattle.std.specs.Prelude.{◌≡◌, ℕ, ◌+◌, ◌-◌, ◌*◌, ◌/◌, ◌%◌, ◌<◌, ◌≤◌, Bool, true, cond, ◌&&◌, ◌⊎◌, List, [], ◌∷◌, ◌++◌, length, ◌==◌, ◌≢◌, nat_eq, nat_le, nat_lt}
use Rattle.faults.specs.Rules.{Rule}
use Rattle.faults.specs.declared.fault.Reason.TheVariants.{DynamicExtent, DynamicEnd, DynamicTag, RelocationTable, RelocationType, RelocationTarget}
use Rattle.elf.specs.Searches.{SomeBelow, lowest}
use Rattle.elf.specs.Records.{entry_at, relocation_at}
use Rattle.elf.specs.Segments.{file_type, phnum, header, headers, offset_in, once, on_each, Load, identity_rules, kind_rules, size_rules, table_rules, segment_rules}
use Rattle.elf.specs.declared.layout.Layout.{Layout}
use Rattle.elf.specs.declared.records.ProgramHeader.{ProgramHeader}
use Rattle.elf.specs.declared.records.DynamicEntry.{DynamicEntry}
use Rattle.elf.specs.declared.records.Relocation.{Relocation}
use Rattle.elf.specs.declared.records.Table.{Table}

-- The header i is a dynamic header.
abbrev pub IsDynamic : Layout → List ℕ → ℕ → Type 0
IsDynamic l bytes i = (header l bytes i).kind ≡ 2

-- The header j is a dynamic header of another number than i.
abbrev pub OtherDynamic : Layout → List ℕ → ℕ → ℕ → Type 0
OtherDynamic l bytes i j = (j ≢ i) × IsDynamic l bytes j

-- The header is larger than the limit, holds no whole number of entries, or passes the file's end.
abbrev pub BadExtent : Layout → List ℕ → ProgramHeader → Type 0
BadExtent l bytes h = (l.limits.dynamic < h.filesz) ⊎ ((h.filesz % l.dynamic ≢ 0) ⊎ (length bytes < h.offset + h.filesz))

-- Of a position-independent file: the header i is a second dynamic header, or the only one and its extent is bad.
abbrev pub BadDynamic : Layout → List ℕ → ℕ → Type 0
BadDynamic l bytes i =
    (file_type bytes ≡ 3) × IsDynamic l bytes i
    × (SomeBelow i (IsDynamic l bytes) ⊎ ((SomeBelow (phnum l bytes) (OtherDynamic l bytes i) → ⊥) × BadExtent l bytes (header l bytes i)))

-- The number of the first dynamic header, or that of headers where there is none.
unfoldable pub dynamic_header : Layout → List ℕ → ℕ
dynamic_header l bytes = lowest (λ i. nat_eq (header l bytes i).kind 2) (phnum l bytes)

-- Whether the file is position-independent and has a dynamic header. That of a static file is ignored.
abbrev pub has_dynamic : Layout → List ℕ → Bool
has_dynamic l bytes = file_type bytes == 3 && nat_lt (dynamic_header l bytes) (phnum l bytes)

-- The dynamic table: every entry that the first dynamic header has room for.
unfoldable pub dynamic_table : Layout → List ℕ → Table
dynamic_table l bytes =
    let h = header l bytes (dynamic_header l bytes) in
    record { first = h.offset; size = l.dynamic; count = h.filesz / l.dynamic }

-- The entry i of a table.
abbrev pub entry_in : Layout → List ℕ → Table → ℕ → DynamicEntry
entry_in l bytes t i = entry_at l bytes (offset_in t i)

-- How many entries stand before the first of tag 0. Those behind it are not read.
unfoldable pub entry_count : Layout → List ℕ → ℕ
entry_count l bytes = lowest (λ i. nat_eq (entry_in l bytes (dynamic_table l bytes) i).tag 0) (dynamic_table l bytes).count

-- A table of no records.
abbrev pub none : ℕ → Table
none size = record { first = 0; size = size; count = 0 }

-- The entries that are read: none in a file without dynamic header.
unfoldable pub entries : Layout → List ℕ → Table
entries l bytes =
    cond (has_dynamic l bytes) (record { first = (dynamic_table l bytes).first; size = l.dynamic; count = entry_count l bytes }) (none l.dynamic)

-- There is a dynamic header, and none of its entries has tag 0.
abbrev pub Endless : Layout → List ℕ → Type 0
Endless l bytes = (has_dynamic l bytes ≡ true) × (entry_count l bytes ≡ (dynamic_table l bytes).count)

-- The tags that the loader does not take: NEEDED, REL, TEXTREL, JMPREL and RELR.
abbrev pub Barred : ℕ → Type 0
Barred tag = (tag ≡ 1) ⊎ ((tag ≡ 17) ⊎ ((tag ≡ 22) ⊎ ((tag ≡ 23) ⊎ (tag ≡ 36))))

-- The tags that describe the relocation table: RELA, RELASZ and RELAENT.
abbrev pub Describes : ℕ → Type 0
Describes tag = (tag ≡ 7) ⊎ ((tag ≡ 8) ⊎ (tag ≡ 9))

-- The entry i of the table has a tag that the loader does not take, or repeats one of the relocation table's.
abbrev pub BadTag : Layout → List ℕ → Table → ℕ → Type 0
BadTag l bytes t i =
    let tag = (entry_in l bytes t i).tag in
    Barred tag ⊎ (Describes tag × SomeBelow i (λ j. (entry_in l bytes t j).tag ≡ tag))

-- The number of the first entry with this tag, or that of entries where there is none.
unfoldable pub tagged : Layout → List ℕ → ℕ → ℕ
tagged l bytes tag = lowest (λ i. nat_eq (entry_in l bytes (entries l bytes) i).tag tag) (entries l bytes).count

-- An entry has this tag.
abbrev pub Stands : Layout → List ℕ → ℕ → Type 0
Stands l bytes tag = tagged l bytes tag < (entries l bytes).count

-- The value of the first entry with this tag.
abbrev pub value_of : Layout → List ℕ → ℕ → ℕ
value_of l bytes tag = (entry_in l bytes (entries l bytes) (tagged l bytes tag)).value

-- The address of the relocation table, without bias.
abbrev pub rela : Layout → List ℕ → ℕ
rela l bytes = value_of l bytes 7

-- The size of the relocation table.
abbrev pub relasz : Layout → List ℕ → ℕ
relasz l bytes = value_of l bytes 8

-- All three tags of the relocation table stand there.
pub record Described (l : Layout) (bytes : List ℕ) : Type 0 where
  pub address : Stands l bytes 7
  pub size : Stands l bytes 8
  pub entry : Stands l bytes 9

-- The file bytes of the load segment i hold the bytes from the address a to below a + n.
pub record HoldsFileBytes (l : Layout) (bytes : List ℕ) (a n i : ℕ) : Type 0 where
  pub load : Load (header l bytes i)
  pub from : (header l bytes i).vaddr ≤ a
  pub to : a + n ≤ (header l bytes i).vaddr + (header l bytes i).filesz

-- The entry size is wrong, or the table's size is no whole number of relocations or above the limit.
abbrev pub BadSizes : Layout → ℕ → ℕ → Type 0
BadSizes l entry n = (entry ≢ l.relocation) ⊎ ((n % l.relocation ≢ 0) ⊎ (l.relocation * l.limits.relocations < n))

-- The sizes are bad, or the table is not empty and lies in no load segment's file bytes.
abbrev pub BadFigures : Layout → List ℕ → ℕ → ℕ → ℕ → Type 0
BadFigures l bytes entry a n = BadSizes l entry n ⊎ ((n ≢ 0) × (SomeBelow (phnum l bytes) (HoldsFileBytes l bytes a n) → ⊥))

-- Of the three tags some but not all stand there; or all do, and the figures are bad.
abbrev pub BadTable : Layout → List ℕ → Type 0
BadTable l bytes =
    ((Stands l bytes 7 ⊎ (Stands l bytes 8 ⊎ Stands l bytes 9)) × (Described l bytes → ⊥))
    ⊎ (Described l bytes × BadFigures l bytes (value_of l bytes 9) (rela l bytes) (relasz l bytes))

-- The rules on the dynamic table.
abbrev pub dynamic_rules : Layout → List ℕ → List Rule
dynamic_rules l bytes =
    let at = offset_in (headers l bytes) (dynamic_header l bytes) in
    on_each DynamicExtent (headers l bytes) (BadDynamic l bytes)
    ∷ once DynamicEnd at (Endless l bytes)
    ∷ on_each DynamicTag (entries l bytes) (BadTag l bytes (entries l bytes))
    ∷ once RelocationTable at (BadTable l bytes)
    ∷ []

-- The number of the load segment whose file bytes hold the relocation table, or that of headers where there is none.
unfoldable pub table_segment : Layout → List ℕ → ℕ
table_segment l bytes =
    lowest
    (λ i.
    let h = header l bytes i in
    (h.kind == 1) && (nat_le h.vaddr (rela l bytes) && nat_le (rela l bytes + relasz l bytes) (h.vaddr + h.filesz)))
    (phnum l bytes)

-- Whether the three tags stand there and a segment's file bytes hold the relocation table.
abbrev pub has_table : Layout → List ℕ → Bool
has_table l bytes =
    nat_lt (tagged l bytes 7) (entries l bytes).count
    && (nat_lt (tagged l bytes 8) (entries l bytes).count
    && (nat_lt (tagged l bytes 9) (entries l bytes).count && nat_lt (table_segment l bytes) (phnum l bytes)))

-- Where the relocations lie in the file: none where the file has no relocation table.
unfoldable pub relocation_table : Layout → List ℕ → Table
relocation_table l bytes =
    let h = header l bytes (table_segment l bytes) in
    cond (has_table l bytes)
    (record { first = h.offset + (rela l bytes - h.vaddr); size = l.relocation; count = relasz l bytes / l.relocation })
    (none l.relocation)

-- The relocation i of a table.
abbrev pub relocation_in : Layout → List ℕ → Table → ℕ → Relocation
relocation_in l bytes t i = relocation_at l bytes (offset_in t i)

-- The relocation has a type other than 0 (none) and 3 (RELATIVE), or is RELATIVE and has a symbol.
abbrev pub BadKind : Layout → List ℕ → Table → ℕ → Type 0
BadKind l bytes t i =
    let r = relocation_in l bytes t i in
    ((r.kind ≢ 0) × (r.kind ≢ 3)) ⊎ ((r.kind ≡ 3) × (r.symbol ≢ 0))

-- The word at the address a lies in the memory of the writable load segment i.
pub record Writable (l : Layout) (bytes : List ℕ) (a i : ℕ) : Type 0 where
  pub load : Load (header l bytes i)
  pub flag : (header l bytes i).flags / 2 % 2 ≡ 1
  pub from : (header l bytes i).vaddr ≤ a
  pub to : a + l.word ≤ (header l bytes i).vaddr + (header l bytes i).memsz

-- The relocation is RELATIVE, and its word is misaligned or in no writable segment's memory.
abbrev pub BadTarget : Layout → List ℕ → Table → ℕ → Type 0
BadTarget l bytes t i =
    let r = relocation_in l bytes t i in
    (r.kind ≡ 3) × ((r.offset % l.word ≢ 0) ⊎ (SomeBelow (phnum l bytes) (Writable l bytes r.offset) → ⊥))

-- The rules on the relocations.
abbrev pub relocation_rules : Layout → List ℕ → List Rule
relocation_rules l bytes =
    on_each RelocationType (relocation_table l bytes) (BadKind l bytes (relocation_table l bytes))
    ∷ on_each RelocationTarget (relocation_table l bytes) (BadTarget l bytes (relocation_table l bytes))
    ∷ []

-- The rules on a file up to its relocation table, in the order in which they are tried.
unfoldable pub format_rules : Layout → List ℕ → List Rule
format_rules l bytes = identity_rules l bytes ++ (kind_rules l bytes ++ (size_rules l bytes ++ (table_rules l bytes ++ (segment_rules l bytes ++ dynamic_rules l bytes))))

-- All rules on a file, in the order in which they are tried.
unfoldable pub open_rules : Layout → List ℕ → List Rule
open_rules l bytes = format_rules l bytes ++ relocation_rules l bytes
