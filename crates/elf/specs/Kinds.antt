-- The numbers of the format that the loader knows. Assumes nothing.
use Rattle.std.specs.Prelude.{ℕ}
use Rattle.elf.specs.declared.kinds.Access.{Access}
use Rattle.elf.specs.declared.kinds.Access.TheVariants.{Execute, Write, Read}
use Rattle.elf.specs.declared.kinds.FileType.{FileType}
use Rattle.elf.specs.declared.kinds.FileType.TheVariants.{Static, Independent}
use Rattle.elf.specs.declared.kinds.HeaderType.{HeaderType}
use Rattle.elf.specs.declared.kinds.HeaderType.TheVariants.{Load, Dynamic, Interpreter}
use Rattle.elf.specs.declared.kinds.RelocationType.{RelocationType}
use Rattle.elf.specs.declared.kinds.RelocationType.TheVariants.{Nothing, Relative}
use Rattle.elf.specs.declared.kinds.Tag.{Tag}
use Rattle.elf.specs.declared.kinds.Tag.TheVariants.{Null, Needed, JmpRelSize, Rela, RelaSize, RelaEntry, Rel, RelSize, TextRel, JmpRel, RelrSize, Relr}

-- The number of a flag's bit: PF_X, PF_W and PF_R.
abbrev pub access_number : Access → ℕ
access_number Execute = 0
access_number Write = 1
access_number Read = 2

-- The number of a file's type: ET_EXEC and ET_DYN.
abbrev pub file_number : FileType → ℕ
file_number Static = 2
file_number Independent = 3

-- The number of a program header's type: PT_LOAD, PT_DYNAMIC and PT_INTERP.
abbrev pub header_number : HeaderType → ℕ
header_number Load = 1
header_number Dynamic = 2
header_number Interpreter = 3

-- The number of a relocation's type: R_RISCV_NONE and R_RISCV_RELATIVE.
abbrev pub relocation_number : RelocationType → ℕ
relocation_number Nothing = 0
relocation_number Relative = 3

-- The number of a dynamic entry's tag: DT_NULL, DT_NEEDED, DT_PLTRELSZ, DT_RELA, DT_RELASZ, DT_RELAENT, DT_REL, DT_RELSZ, DT_TEXTREL, DT_JMPREL,
-- DT_RELRSZ and DT_RELR.
abbrev pub tag_number : Tag → ℕ
tag_number Null = 0
tag_number Needed = 1
tag_number JmpRelSize = 2
tag_number Rela = 7
tag_number RelaSize = 8
tag_number RelaEntry = 9
tag_number Rel = 17
tag_number RelSize = 18
tag_number TextRel = 22
tag_number JmpRel = 23
tag_number RelrSize = 35
tag_number Relr = 36
