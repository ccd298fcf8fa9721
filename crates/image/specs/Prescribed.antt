-- The image that the ABI prescribes for a file at a bias. Assumes nothing.
use Rattle.std.specs.Prelude.{◌≡◌, ℕ, zero, suc, ◌+◌, ◌-◌, ◌/◌, ◌%◌, ◌^◌, Bool, cond, ◌&&◌, List, [], ◌∷◌, ◌++◌, map, find, ℤ, pos, negsuc, Some, None, Option, ◌==◌, nat_le, nat_lt, slice_index}
use Rattle.elf.specs.Segments.{header, phnum, entry_point}
use Rattle.elf.specs.Dynamic.{relocation_in, relocation_table}
use Rattle.elf.specs.declared.layout.Layout.{Layout}
use Rattle.elf.specs.declared.records.ProgramHeader.{ProgramHeader}
use Rattle.elf.specs.declared.records.Relocation.{Relocation}
use Rattle.image.specs.declared.ranges.PageRange.{PageRange}
use Rattle.image.specs.declared.segments.Segment.{Segment}

-- The load headers among the first n, in the table's order.
unfoldable pub loads_below : Layout → List ℕ → ℕ → List ProgramHeader
loads_below l bytes zero = []
loads_below l bytes (suc n) = loads_below l bytes n ++ cond ((header l bytes n).kind == 1) (header l bytes n ∷ []) []

-- The rights in a segment's flags (4 read, 2 write, 1 execute), with read added where write is set.
abbrev pub rights_of : ℕ → ℕ
rights_of flags = cond (flags / 2 % 2 == 1 && flags / 4 % 2 == 0) (flags % 8 + 4) (flags % 8)

-- The pages from that of the first byte of a segment's memory to that of the last.
abbrev pub pages_of : ℕ → ProgramHeader → PageRange
pages_of bias h = record {
  first = (bias + h.vaddr) / 4096;
  count = (bias + h.vaddr + h.memsz - 1) / 4096 + 1 - (bias + h.vaddr) / 4096;
}

-- The segment of a load header, at a bias.
abbrev pub segment_of : ℕ → ProgramHeader → Segment
segment_of bias h = record {
  pages = pages_of bias h;
  rights = rights_of h.flags;
  address = bias + h.vaddr;
  memsz = h.memsz;
  offset = h.offset;
  filesz = h.filesz;
}

-- The file's segments at a bias.
unfoldable pub segments_of : Layout → List ℕ → ℕ → List Segment
segments_of l bytes bias = map (segment_of bias) (loads_below l bytes (phnum l bytes))

-- Whether the segment covers the page.
abbrev pub covers_page : ℕ → Segment → Bool
covers_page page s = nat_le s.pages.first page && nat_lt page (s.pages.first + s.pages.count)

-- Whether the address lies in the segment's file bytes.
abbrev pub has_file_byte : ℕ → Segment → Bool
has_file_byte a s = nat_le s.address a && nat_lt a (s.address + s.filesz)

-- Whether the address lies in the segment's memory.
abbrev pub has_memory : ℕ → Segment → Bool
has_memory a s = nat_le s.address a && nat_lt a (s.address + s.memsz)

-- The rights of a page: those of the segment that covers it, 0 where none does. Segments have no page in common, so at most one covers a page.
abbrev pub rights_by : Option Segment → ℕ
rights_by None = 0
rights_by (Some s) = s.rights

-- The byte that the file puts at an address: its segment's, 0 where the address lies in no segment's file bytes.
abbrev pub file_byte_by : List ℕ → ℕ → Option Segment → ℕ
file_byte_by bytes a None = 0
file_byte_by bytes a (Some s) = slice_index bytes (s.offset + (a - s.address))

-- Whether a relocation is RELATIVE and has the address among the bytes of its word.
abbrev pub reaches : Layout → ℕ → ℕ → Relocation → Bool
reaches l bias a r = r.kind == 3 && (nat_le (bias + r.offset) a && nat_lt a (bias + r.offset + l.word))

-- The word that a relocation puts at its offset: bias plus addend, modulo what a word holds. A negative addend counts down from there.
abbrev pub word_of : Layout → ℕ → ℤ → ℕ
word_of l bias (pos n) = (bias + n) % 256 ^ l.word
word_of l bias (negsuc n) = (bias + (256 ^ l.word - suc n)) % 256 ^ l.word

-- The byte k of a word, lowest first.
abbrev pub byte_of : ℕ → ℕ → ℕ
byte_of word k = word / 256 ^ k % 256

-- The last of the first n relocations that reaches an address.
unfoldable pub last_reaching : Layout → List ℕ → ℕ → ℕ → ℕ → Option ℕ
last_reaching l bytes bias a zero = None
last_reaching l bytes bias a (suc n) = cond (reaches l bias a (relocation_in l bytes (relocation_table l bytes) n)) (Some n) (last_reaching l bytes bias a n)

-- The byte of the relocation i's word at an address that it reaches.
abbrev pub word_byte : Layout → List ℕ → ℕ → ℕ → ℕ → ℕ
word_byte l bytes bias a i =
    let r = relocation_in l bytes (relocation_table l bytes) i in
    byte_of (word_of l bias r.addend) (a - (bias + r.offset))

-- The byte at an address, with the file's byte and the last relocation that reaches it.
abbrev pub byte_by : Layout → List ℕ → ℕ → ℕ → ℕ → Option ℕ → ℕ
byte_by l bytes bias a below None = below
byte_by l bytes bias a below (Some i) = word_byte l bytes bias a i

-- What stands in memory once a file is loaded: the address to begin at, the page ranges, the rights of a page, the byte at an address.
pub record Image : Type 0 where
  pub entry : ℕ
  pub ranges : List PageRange
  pub rights : ℕ → ℕ
  pub byte : ℕ → ℕ

-- The byte at an address once the file's bytes stand there and the first n relocations have put their words.
unfoldable pub byte_after : Layout → List ℕ → ℕ → ℕ → ℕ → ℕ
byte_after l bytes bias n a =
    byte_by l bytes bias a (file_byte_by bytes a (find (has_file_byte a) (segments_of l bytes bias))) (last_reaching l bytes bias a n)

-- The image of a file at a bias. A byte is decided by the last relocation that reaches it, else by the file, else it is 0.
unfoldable pub image_of : Layout → List ℕ → ℕ → Image
image_of l bytes bias = record {
  entry = bias + entry_point l bytes;
  ranges = map (λ s. s.pages) (segments_of l bytes bias);
  rights = λ page. rights_by (find (covers_page page) (segments_of l bytes bias));
  byte = byte_after l bytes bias (relocation_table l bytes).count;
}

-- The file's bytes on zeros, and then the words in the table's order, one after the other, give the image.
pub record Assembled (l : Layout) : Type 0 where
  pub start : (bytes : List ℕ) (bias a : ℕ) → byte_after l bytes bias 0 a ≡ file_byte_by bytes a (find (has_file_byte a) (segments_of l bytes bias))
  pub word : (bytes : List ℕ) (bias n a : ℕ) → byte_after l bytes bias (suc n) a ≡ cond (reaches l bias a (relocation_in l bytes (relocation_table l bytes) n)) (word_byte l bytes bias a n) (byte_after l bytes bias n a)
  pub whole : (bytes : List ℕ) (bias a : ℕ) → (image_of l bytes bias).byte a ≡ byte_after l bytes bias (relocation_table l bytes).count a
