-- What is known of a file once rules have been tried, for the reader's own functions. Assumes nothing.
use Rattle.std.specs.Prelude.{◌≡◌, ℕ, ◌+◌, ◌*◌, ◌<◌, ◌≤◌, Bool, true, false, List, length, Result, MatchResult}
use Rattle.faults.specs.declared.fault.Fault.{Fault}
use Rattle.faults.specs.declared.fault.Reason.{Reason}
use Rattle.faults.specs.declared.fault.Layer.TheVariants.{Open}
use Rattle.elf.specs.Layouts.{Sound}
use Rattle.elf.specs.Segments.{Load, header, headers, offset_in, phnum}
use Rattle.elf.specs.Dynamic.{has_dynamic, dynamic_header}
use Rattle.elf.specs.declared.layout.Layout.{Layout}
use Rattle.elf.specs.declared.records.Table.{Table}

-- All records of the table lie in the file.
abbrev pub Inside : Table → List ℕ → Type 0
Inside t bytes = t.first + t.size * t.count ≤ length bytes

-- The file has its header, and no more bytes than the limit.
pub record Headed (l : Layout) (bytes : List ℕ) : Type 0 where
  pub sound : Sound l
  pub long : l.file.size ≤ length bytes
  pub short : length bytes ≤ l.limits.file

-- The program headers lie in the file.
pub record Readable (l : Layout) (bytes : List ℕ) : Type 0 where
  pub headed : Headed l bytes
  pub few : phnum l bytes ≤ l.limits.headers
  pub inside : Inside (headers l bytes) bytes

-- The rules on the sizes and the ends of segments are clear.
pub record Bounded (l : Layout) (bytes : List ℕ) : Type 0 where
  pub readable : Readable l bytes
  pub sizes : (i : ℕ) → i < phnum l bytes → Load (header l bytes i) → (header l bytes i).offset + (header l bytes i).filesz ≤ length bytes
  pub ends : (i : ℕ) → i < phnum l bytes → Load (header l bytes i) → (header l bytes i).vaddr + (header l bytes i).memsz ≤ l.end

-- The rule on the extent of the dynamic table is clear.
pub record Extended (l : Layout) (bytes : List ℕ) : Type 0 where
  pub bounded : Bounded l bytes
  pub small : has_dynamic l bytes ≡ true → (header l bytes (dynamic_header l bytes)).filesz ≤ l.limits.dynamic
  pub inside : has_dynamic l bytes ≡ true → (header l bytes (dynamic_header l bytes)).offset + (header l bytes (dynamic_header l bytes)).filesz ≤ length bytes

-- A table of records of this width that lie in the file, and the number of one of them.
pub record Listed (l : Layout) (bytes : List ℕ) (width : ℕ) (t : Table) (i : ℕ) : Type 0 where
  pub readable : Readable l bytes
  pub size : t.size ≡ width
  pub inside : Inside t bytes
  pub within : i < t.count

-- What a check of each record of a table answers, where Gives i b says that the test of the record i may answer b:
-- no record is refused, or the first that is.
pub record Tested (why : Reason) (t : Table) (Gives : ℕ → Bool → Type 0) (r : Result (Unit {0}) Fault) : Type 0 where
  pub answers : MatchResult r (λ _. (i : ℕ) → i < t.count → Gives i false) (λ f. (i : ℕ) × (i < t.count) × Gives i true × ((j : ℕ) → j < i → Gives j false) × (f ≡ record { reason = why; layer = Open; «record» = i; place = offset_in t i }))
