-- What an opened file is, and what its accessors answer. Assumes nothing.
use Rattle.std.specs.Prelude.{◌≡◌, ℕ, ◌+◌, ◌<◌, ◌≤◌, ◌⊎◌, List, length}
use Rattle.faults.specs.Rules.{First, AllClear}
use Rattle.faults.specs.declared.fault.Fault.{Fault}
use Rattle.elf.specs.Segments.{phnum, headers, offset_in}
use Rattle.elf.specs.Stages.{Readable}
use Rattle.elf.specs.Dynamic.{dynamic_header, dynamic_table, none, relocation_table, format_rules}
use Rattle.elf.specs.declared.layout.Layout.{Layout}
use Rattle.elf.specs.declared.records.Table.{Table}

-- The file has the program header i, and all of it.
pub record HasHeader (l : Layout) (bytes : List ℕ) (i : ℕ) : Type 0 where
  pub long : l.file.size ≤ length bytes
  pub counted : i < phnum l bytes
  pub inside : offset_in (headers l bytes) i + l.header.size ≤ length bytes

-- The file has its program headers, one of them is dynamic, and the entry i of its table lies in the file.
pub record HasEntry (l : Layout) (bytes : List ℕ) (i : ℕ) : Type 0 where
  pub readable : Readable l bytes
  pub dynamic : dynamic_header l bytes < phnum l bytes
  pub counted : i < (dynamic_table l bytes).count
  pub inside : offset_in (dynamic_table l bytes) i + l.dynamic ≤ length bytes

-- t is the table of the file's relocations: none where a rule up to that on the relocation table fits.
abbrev pub Listing : Layout → List ℕ → Table → Type 0
Listing l bytes t =
    (AllClear (format_rules l bytes) × (t ≡ relocation_table l bytes))
    ⊎ (((f : Fault) × First (format_rules l bytes) f) × (t ≡ none l.relocation))
