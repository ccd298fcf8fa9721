-- The records of an ELF file, read from its bytes. Assumes nothing.
use Rattle.std.specs.Prelude.{ℕ, ◌+◌, ◌-◌, ◌*◌, ◌/◌, ◌%◌, ◌^◌, cond, List, ℤ, pos, negsuc, nat_lt}
use Rattle.elf.specs.Bytes.{le}
use Rattle.elf.specs.declared.layout.Layout.{Layout}
use Rattle.elf.specs.declared.records.FileHeader.{FileHeader}
use Rattle.elf.specs.declared.records.ProgramHeader.{ProgramHeader}
use Rattle.elf.specs.declared.records.DynamicEntry.{DynamicEntry}
use Rattle.elf.specs.declared.records.Relocation.{Relocation}

-- The signed number that a word of `width` bytes stands for, in two's complement: n, or n - 256^width from half of that on.
unfoldable pub signed : ℕ → ℕ → ℤ
signed width n = cond (nat_lt (2 * n) (256 ^ width)) (pos n) (negsuc (256 ^ width - 1 - n))

-- The file header's fields behind its identification.
unfoldable pub file_header : Layout → List ℕ → FileHeader
file_header l bytes = record {
  kind = le bytes 16 2;
  machine = le bytes 18 2;
  version = le bytes 20 4;
  entry = le bytes l.file.entry l.word;
  phoff = le bytes l.file.phoff l.word;
  flags = le bytes l.file.flags 4;
  ehsize = le bytes l.file.ehsize 2;
  phentsize = le bytes l.file.phentsize 2;
  phnum = le bytes l.file.phnum 2;
}

-- The program header whose bytes begin at the offset `at`.
unfoldable pub header_at : Layout → List ℕ → ℕ → ProgramHeader
header_at l bytes at = record {
  kind = le bytes at 4;
  flags = le bytes (at + l.header.flags) 4;
  offset = le bytes (at + l.header.offset) l.word;
  vaddr = le bytes (at + l.header.vaddr) l.word;
  filesz = le bytes (at + l.header.filesz) l.word;
  memsz = le bytes (at + l.header.memsz) l.word;
  align = le bytes (at + l.header.align) l.word;
}

-- The dynamic entry whose bytes begin at the offset `at`: a tag, then a value.
unfoldable pub entry_at : Layout → List ℕ → ℕ → DynamicEntry
entry_at l bytes at = record { tag = le bytes at l.word; value = le bytes (at + l.word) l.word }

-- The relocation whose bytes begin at the offset `at`: its offset, its info (symbol and type) and its signed addend.
unfoldable pub relocation_at : Layout → List ℕ → ℕ → Relocation
relocation_at l bytes at = record {
  offset = le bytes at l.word;
  kind = le bytes (at + l.word) l.word % l.kinds;
  symbol = le bytes (at + l.word) l.word / l.kinds;
  addend = signed l.word (le bytes (at + 2 * l.word) l.word);
}
