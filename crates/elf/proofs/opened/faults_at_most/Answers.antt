use Rattle.std.proofs.Common.{refl}
use Rattle.faults.proofs.Families.{decided, in_turn}
use Rattle.elf.specs.Layouts.{elf64}
use Rattle.elf.specs.Dynamic.{open_rules, format_rules, relocation_rules}
use Rattle.elf.proofs.opened.faults_at_most.Goals as goal

pub returns : goal.returns
returns c = record { value = refl; decided = decided (open_rules elf64); in_turn = in_turn (format_rules elf64) (relocation_rules elf64) }
