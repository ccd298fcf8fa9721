use Rattle.faults.specs.declared.fault.Reason.TheVariants.{RelocationTable}
use Rattle.elf.proofs.Finds.{checked_once}
use Rattle.elf.proofs.Located.{no_bad_table}
use Rattle.elf.proofs.stages.Dynamics.check_table.Goals as goal

pub returns : goal.returns
returns c = checked_once RelocationTable _ _ _ c.has_bad_table.result c.refuse_if.result c.has_bad_table.ensures (no_bad_table c.args.self.now.headers.layout c.args.self.now.headers.bytes.now) c.refuse_if.ensures
