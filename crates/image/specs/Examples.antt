-- Worked examples of the definitions. Assumes nothing.
use Rattle.std.specs.Prelude.{◌≡◌, ℕ, [], ◌∷◌, map, negsuc}
use Rattle.elf.specs.Layouts.{elf64}
use Rattle.elf.specs.declared.records.ProgramHeader.{ProgramHeader}
use Rattle.image.specs.Prescribed.{word_of, byte_of, pages_of, rights_of}

-- A load header at an address, of a size in memory.
abbrev pub load_at : ℕ → ℕ → ProgramHeader
load_at vaddr memsz = record { kind = 1; flags = 6; offset = 0; vaddr = vaddr; filesz = 0; memsz = memsz; align = 4096 }

pub record Examples : Type 0 where
  -- Addend -8 at bias 0x10000: the word's bytes are f8 ff 00 00 00 00 00 00.
  pub addend : map (byte_of (word_of elf64 0x10000 (negsuc 7))) (0 ∷ 1 ∷ 2 ∷ 3 ∷ 4 ∷ 5 ∷ 6 ∷ 7 ∷ []) ≡ 0xf8 ∷ 0xff ∷ 0 ∷ 0 ∷ 0 ∷ 0 ∷ 0 ∷ 0 ∷ []
  -- Four bytes at 0x10ffc lie on page 16, five on pages 16 and 17.
  pub one_page : pages_of 0 (load_at 0x10ffc 4) ≡ record { first = 16; count = 1 }
  pub two_pages : pages_of 0 (load_at 0x10ffc 5) ≡ record { first = 16; count = 2 }
  -- Write alone gives read and write; read and execute stay as they are.
  pub write : rights_of 2 ≡ 6
  pub execute : rights_of 5 ≡ 5
