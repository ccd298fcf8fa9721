use Rattle.faults.specs.Rules.{Checked}
use Rattle.faults.specs.declared.fault.Reason.TheVariants.{DynamicTag}
use Rattle.elf.specs.Segments.{on_each}
use Rattle.elf.specs.Dynamic.{BadTag}
use Rattle.elf.proofs.Passed.{carried}
use Rattle.elf.proofs.stages.Dynamics.check_tags.Goals as goal

pub returns : goal.returns
returns c =
    carried (λ h t. Checked (on_each DynamicTag t (BadTag h.layout h.bytes.now t)) c.check.result) c.entries.ensures.same c.entries.ensures.table c.check.ensures
