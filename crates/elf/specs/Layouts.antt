-- Where a class of ELF file keeps its fields. Assumes nothing.
use Rattle.std.specs.Prelude.{◌≡◌, ◌+◌, ◌*◌, ◌^◌, ◌<◌, ◌≤◌, ◌⊎◌}
use Rattle.elf.specs.declared.layout.Layout.{Layout}

-- Every field lies inside its record, and the limits are such that no sum of the reader's overflows.
pub record Sound (l : Layout) : Type 0 where
  pub word : (l.word ≡ 4) ⊎ (l.word ≡ 8)
  pub identity : 24 ≤ l.file.size
  pub entry : l.file.entry + l.word ≤ l.file.size
  pub phoff : l.file.phoff + l.word ≤ l.file.size
  pub e_flags : l.file.flags + 4 ≤ l.file.size
  pub ehsize : l.file.ehsize + 2 ≤ l.file.size
  pub phentsize : l.file.phentsize + 2 ≤ l.file.size
  pub phnum : l.file.phnum + 2 ≤ l.file.size
  pub short : l.file.size ≤ 64
  pub kind : 4 ≤ l.header.size
  pub p_flags : l.header.flags + 4 ≤ l.header.size
  pub offset : l.header.offset + l.word ≤ l.header.size
  pub vaddr : l.header.vaddr + l.word ≤ l.header.size
  pub filesz : l.header.filesz + l.word ≤ l.header.size
  pub memsz : l.header.memsz + l.word ≤ l.header.size
  pub align : l.header.align + l.word ≤ l.header.size
  pub small : l.header.size ≤ 64
  pub dynamic : l.dynamic ≡ 2 * l.word
  pub relocation : l.relocation ≡ 3 * l.word
  pub types : (0 < l.kinds) × (l.kinds ≤ 2 ^ 32)
  pub symbols : 256 ^ l.word ≤ l.kinds * 2 ^ 32
  pub end : l.end ≤ 2 ^ 38
  pub file_limit : l.limits.file ≤ 2 ^ 24
  pub header_limit : l.limits.headers ≤ 64
  pub dynamic_limit : l.limits.dynamic ≤ 4096
  pub relocation_limit : l.limits.relocations ≤ 65536

-- 64-bit files: an address has eight bytes, and no segment passes 2^38.
abbrev pub elf64 : Layout
elf64 = record {
  class = 2;
  word = 8;
  file = record { size = 64; entry = 24; phoff = 32; flags = 48; ehsize = 52; phentsize = 54; phnum = 56 };
  header = record { size = 56; flags = 4; offset = 8; vaddr = 16; filesz = 32; memsz = 40; align = 48 };
  dynamic = 16;
  relocation = 24;
  kinds = 2 ^ 32;
  end = 2 ^ 38;
  limits = record { file = 16777216; headers = 64; loads = 16; dynamic = 4096; relocations = 65536 };
}
