use Rattle.elf.specs.Layouts.{elf64}
use Rattle.image.proofs.Known.{load_clear}
use Rattle.image.proofs.checked.Checked.at.Goals as goal

pub invariant_of-result : goal.invariant_of-result
invariant_of-result c = record { clear = load_clear elf64 c.args.self.now.opened.file.now c.args.bias c.args.self.now.clear c.in_ok-check_bias.ensures }
