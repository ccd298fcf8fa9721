-- The rules of planning. Assumes nothing.
use Rattle.std.specs.Prelude.{◌≡◌, ℕ, zero, suc, ◌+◌, ◌%◌, ◌<◌, cond, ◌⊎◌, List, [], ◌∷◌, ◌++◌, ◌==◌, ◌≢◌}
use Rattle.faults.specs.Rules.{Rule, single}
use Rattle.faults.specs.declared.fault.Reason.TheVariants.{BiasValue, BiasEnd}
use Rattle.faults.specs.declared.fault.Layer.TheVariants.{Plan}
use Rattle.elf.specs.Segments.{file_type, header, phnum}
use Rattle.elf.specs.Dynamic.{open_rules}
use Rattle.elf.specs.Layouts.{elf64}
use Rattle.elf.specs.declared.layout.Layout.{Layout}

-- The end of the last load segment among the first n headers, without bias.
unfoldable pub end_below : Layout → List ℕ → ℕ → ℕ
end_below l bytes zero = 0
end_below l bytes (suc n) = cond ((header l bytes n).kind == 1) ((header l bytes n).vaddr + (header l bytes n).memsz) (end_below l bytes n)

-- The bias is no multiple of a page, or not 0 for a static file.
abbrev pub BadBias : List ℕ → ℕ → Type 0
BadBias bytes bias = (bias % 4096 ≢ 0) ⊎ ((file_type bytes ≡ 2) × (bias ≢ 0))

-- The last load segment ends past the end of addresses.
abbrev pub PastEnd : Layout → List ℕ → ℕ → Type 0
PastEnd l bytes bias = l.end < bias + end_below l bytes (phnum l bytes)

-- The rules of planning, in their order. Both name the bias.
abbrev pub plan_rules : Layout → List ℕ → ℕ → List Rule
plan_rules l bytes bias = single BiasValue Plan 0 bias (BadBias bytes bias) ∷ single BiasEnd Plan 0 bias (PastEnd l bytes bias) ∷ []

-- All rules on a file and a bias: those of opening, then those of planning.
unfoldable pub load_rules : Layout → List ℕ → ℕ → List Rule
load_rules l bytes bias = open_rules l bytes ++ plan_rules l bytes bias

-- The rules on each 64-bit file and bias.
abbrev pub loads_of : List ℕ × ℕ → List Rule
loads_of x = load_rules elf64 x.0 x.1
