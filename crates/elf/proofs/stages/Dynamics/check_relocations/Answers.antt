use Rattle.std.proofs.Common.{[], ◌∷◌}
use Rattle.faults.specs.Rules.{Tried}
use Rattle.faults.specs.declared.fault.Reason.TheVariants.{RelocationType, RelocationTarget}
use Rattle.elf.specs.Segments.{on_each}
use Rattle.elf.specs.Dynamic.{BadKind, BadTarget}
use Rattle.elf.proofs.Passed.{carried}
use Rattle.elf.proofs.stages.Dynamics.check_relocations.Goals as goal

pub returns : goal.returns
returns c =
    carried (λ h t. Tried (on_each RelocationType t (BadKind h.layout h.bytes.now t) ∷ on_each RelocationTarget t (BadTarget h.layout h.bytes.now t) ∷ []) c.check.result) c.relocations.ensures.same c.relocations.ensures.table c.check.ensures
