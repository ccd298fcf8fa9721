use Rattle.faults.specs.Rules.{Tried}
use Rattle.faults.proofs.Families.{passed_up}
use Rattle.elf.specs.Dynamic.{open_rules, relocation_rules}
use Rattle.elf.proofs.Passed.{carried, at_format, at_relocations}
use Rattle.elf.proofs.stages.File.check.Goals as goal

pub returns-in_err-check_format : goal.returns-in_err-check_format
returns-in_err-check_format c =
    passed_up (open_rules c.args.self.now.layout c.args.self.now.bytes.now) _ _ c.from_residual.ensures.1 (at_format c.args.self.now.layout c.args.self.now.bytes.now _ c.in_err-check_format.ensures)

pub returns : goal.returns
returns c =
    let same = c.in_ok-check_format.ensures.1 in
    at_relocations c.args.self.now.layout c.args.self.now.bytes.now c.check_relocations.result c.in_ok-check_format.ensures.0
    (carried (λ x y. Tried (relocation_rules x y) c.check_relocations.result) same.0 same.1 c.check_relocations.ensures)
