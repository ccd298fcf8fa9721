-- The file header, the program headers and the rules on them. Assumes nothing.
use Rattle.std.specs.Prelude.{◌≡◌, ℕ, zero, suc, ◌+◌, ◌-◌, ◌*◌, ◌/◌, ◌%◌, ◌^◌, ◌<◌, ◌≤◌, max, cond, ◌⊎◌, List, [], ◌∷◌, length, ◌==◌, ◌≢◌, slice_index}
use Rattle.faults.specs.Rules.{Rule, single, each}
use Rattle.faults.specs.declared.fault.Reason.{Reason}
use Rattle.faults.specs.declared.fault.Reason.TheVariants.{FileLength, Magic, Identification, FileHeader, HeaderCount, HeadersPastEnd, Interpreter, LoadCount, SegmentSize, SegmentAlignment, SegmentFlags, SegmentEnd, SegmentOrder, EntryPoint}
use Rattle.faults.specs.declared.fault.Layer.TheVariants.{Open}
use Rattle.elf.specs.Bytes.{le}
use Rattle.elf.specs.Searches.{SomeBelow, Highest}
use Rattle.elf.specs.Records.{header_at}
use Rattle.elf.specs.declared.layout.Layout.{Layout}
use Rattle.elf.specs.declared.records.ProgramHeader.{ProgramHeader}
use Rattle.elf.specs.declared.records.Table.{Table}

-- The file's type: 2 is static, 3 is position-independent.
abbrev pub file_type : List ℕ → ℕ
file_type bytes = le bytes 16 2

-- The address at which the program begins, without bias.
abbrev pub entry_point : Layout → List ℕ → ℕ
entry_point l bytes = le bytes l.file.entry l.word

-- The offset of the program headers.
abbrev pub phoff : Layout → List ℕ → ℕ
phoff l bytes = le bytes l.file.phoff l.word

-- How many program headers there are.
abbrev pub phnum : Layout → List ℕ → ℕ
phnum l bytes = le bytes l.file.phnum 2

-- Where the program headers lie.
abbrev pub headers : Layout → List ℕ → Table
headers l bytes = record { first = phoff l bytes; size = l.header.size; count = phnum l bytes }

-- The offset of the record i of a table.
abbrev pub offset_in : Table → ℕ → ℕ
offset_in t i = t.first + t.size * i

-- The program header i.
abbrev pub header : Layout → List ℕ → ℕ → ProgramHeader
header l bytes i = header_at l bytes (offset_in (headers l bytes) i)

-- A rule of opening that is tried once, with one place.
abbrev pub once : Reason → ℕ → Type 0 → Rule
once why at P = single why Open 0 at P

-- A rule of opening that is tried on each record of a table.
abbrev pub on_each : Reason → Table → (ℕ → Type 0) → Rule
on_each why t P = each why Open t.count (offset_in t) P

-- n is a power of two.
abbrev pub PowerOfTwo : ℕ → Type 0
PowerOfTwo n = (k : ℕ) × (n ≡ 2 ^ k)

-- A load header describes a segment.
abbrev pub Load : ProgramHeader → Type 0
Load h = h.kind ≡ 1

-- How many of the first n headers are load headers.
unfoldable pub loads : Layout → List ℕ → ℕ → ℕ
loads l bytes zero = 0
loads l bytes (suc n) = loads l bytes n + cond ((header l bytes n).kind == 1) 1 0

-- The file is shorter than its header, or longer than the limit.
abbrev pub bad_length : Layout → List ℕ → Rule
bad_length l bytes = once FileLength (length bytes) ((length bytes < l.file.size) ⊎ (l.limits.file < length bytes))

-- The first four bytes of an ELF file: 0x7f and the letters ELF.
abbrev pub magic : List ℕ
magic = 0x7f ∷ 0x45 ∷ 0x4c ∷ 0x46 ∷ []

-- One of the first four bytes is wrong.
abbrev pub bad_magic : List ℕ → Rule
bad_magic bytes = record {
  reason = Magic;
  layer = Open;
  trials = 4;
  fits = λ i. slice_index bytes (0 + i) ≡ slice_index magic i → ⊥;
  named = λ _. 0;
  place = λ _. 0;
}

-- The bytes 4 to 7: the class, least significant byte first, version 1, System V.
abbrev pub identity : Layout → List ℕ
identity l = l.class ∷ 1 ∷ 1 ∷ 0 ∷ []

-- One of the bytes 4 to 7 is wrong.
abbrev pub bad_identity : Layout → List ℕ → Rule
bad_identity l bytes = record {
  reason = Identification;
  layer = Open;
  trials = 4;
  fits = λ i. slice_index bytes (4 + i) ≡ slice_index (identity l) i → ⊥;
  named = λ _. 0;
  place = λ i. 4 + i;
}

-- The rules on the identification.
abbrev pub identity_rules : Layout → List ℕ → List Rule
identity_rules l bytes = bad_length l bytes ∷ bad_magic bytes ∷ bad_identity l bytes ∷ []

-- The file's type is 2 or 3, its machine RISC-V and its version 1; each field with its place.
abbrev pub kind_rules : Layout → List ℕ → List Rule
kind_rules l bytes =
    once FileHeader 16 ((file_type bytes ≢ 2) × (file_type bytes ≢ 3))
    ∷ once FileHeader 18 (le bytes 18 2 ≢ 243)
    ∷ once FileHeader 20 (le bytes 20 4 ≢ 1)
    ∷ []

-- Bit 3 of the flags is not set, and the sizes of the headers are right; each field with its place.
abbrev pub size_rules : Layout → List ℕ → List Rule
size_rules l bytes =
    once FileHeader l.file.flags (le bytes l.file.flags 4 / 8 % 2 ≡ 1)
    ∷ once FileHeader l.file.ehsize (le bytes l.file.ehsize 2 ≢ l.file.size)
    ∷ once FileHeader l.file.phentsize (le bytes l.file.phentsize 2 ≢ l.header.size)
    ∷ []

-- There are no program headers, or more than the limit.
abbrev pub bad_count : Layout → List ℕ → Rule
bad_count l bytes = once HeaderCount l.file.phnum ((phnum l bytes ≡ 0) ⊎ (l.limits.headers < phnum l bytes))

-- The program headers pass the file's end.
abbrev pub past_end : Layout → List ℕ → Rule
past_end l bytes = once HeadersPastEnd l.file.phoff (length bytes < phoff l bytes + l.header.size * phnum l bytes)

-- The header i asks for an interpreter.
abbrev pub Interprets : Layout → List ℕ → ℕ → Type 0
Interprets l bytes i = (header l bytes i).kind ≡ 3

-- There are no load headers, or more than the limit.
abbrev pub bad_load_count : Layout → List ℕ → Rule
bad_load_count l bytes = once LoadCount l.file.phnum ((loads l bytes (phnum l bytes) ≡ 0) ⊎ (l.limits.loads < loads l bytes (phnum l bytes)))

-- The rules on the table of program headers.
abbrev pub table_rules : Layout → List ℕ → List Rule
table_rules l bytes =
    bad_count l bytes ∷ past_end l bytes ∷ on_each Interpreter (headers l bytes) (Interprets l bytes) ∷ bad_load_count l bytes ∷ []

-- The segment is empty, larger in the file than in memory, or past the file's end.
abbrev pub BadSize : Layout → List ℕ → ℕ → Type 0
BadSize l bytes i =
    let h = header l bytes i in
    Load h × ((h.memsz ≡ 0) ⊎ ((h.memsz < h.filesz) ⊎ (length bytes < h.offset + h.filesz)))

-- The alignment is neither 0 nor a power of two, or address and offset differ modulo the larger of it and a page.
abbrev pub Misaligned : ProgramHeader → Type 0
Misaligned h =
    ((h.align ≢ 0) × (PowerOfTwo h.align → ⊥))
    ⊎ (h.vaddr % max h.align 4096 ≢ h.offset % max h.align 4096)

-- The segment is misaligned.
abbrev pub BadAlign : Layout → List ℕ → ℕ → Type 0
BadAlign l bytes i = Load (header l bytes i) × Misaligned (header l bytes i)

-- The segment has no rights (4 read, 2 write, 1 execute), or both write and execute.
abbrev pub BadFlags : Layout → List ℕ → ℕ → Type 0
BadFlags l bytes i = let h = header l bytes i in Load h × ((h.flags % 8 ≡ 0) ⊎ (h.flags % 4 ≡ 3))

-- The segment ends past the end of addresses.
abbrev pub BadEnd : Layout → List ℕ → ℕ → Type 0
BadEnd l bytes i = let h = header l bytes i in Load h × (l.end < h.vaddr + h.memsz)

-- The page of the segment's first byte.
abbrev pub first_page : ProgramHeader → ℕ
first_page h = h.vaddr / 4096

-- The page of the segment's last byte.
abbrev pub last_page : ProgramHeader → ℕ
last_page h = (h.vaddr + h.memsz - 1) / 4096

-- The segment does not begin above the last page of the load header before it, headers of other types left out.
abbrev pub BadOrder : Layout → List ℕ → ℕ → Type 0
BadOrder l bytes i =
    Load (header l bytes i)
    × ((j : ℕ) × Highest i (λ k. Load (header l bytes k)) j × (first_page (header l bytes i) ≤ last_page (header l bytes j)))

-- The header i is of an executable segment whose memory holds the address a.
pub record Executable (l : Layout) (bytes : List ℕ) (a i : ℕ) : Type 0 where
  pub load : Load (header l bytes i)
  pub flag : (header l bytes i).flags % 2 ≡ 1
  pub from : (header l bytes i).vaddr ≤ a
  pub to : a < (header l bytes i).vaddr + (header l bytes i).memsz

-- The entry point is odd, or in no executable segment's memory.
abbrev pub BadEntry : Layout → List ℕ → Type 0
BadEntry l bytes = (entry_point l bytes % 2 ≡ 1) ⊎ (SomeBelow (phnum l bytes) (Executable l bytes (entry_point l bytes)) → ⊥)

-- The rules on the segments and the entry point.
abbrev pub segment_rules : Layout → List ℕ → List Rule
segment_rules l bytes =
    on_each SegmentSize (headers l bytes) (BadSize l bytes)
    ∷ on_each SegmentAlignment (headers l bytes) (BadAlign l bytes)
    ∷ on_each SegmentFlags (headers l bytes) (BadFlags l bytes)
    ∷ on_each SegmentEnd (headers l bytes) (BadEnd l bytes)
    ∷ on_each SegmentOrder (headers l bytes) (BadOrder l bytes)
    ∷ once EntryPoint l.file.entry (BadEntry l bytes)
    ∷ []
