use Rattle.sv39.specs.Walks.{Walks}
use Rattle.sv39.specs.declared.entry.Walk.{Walk}
use Rattle.sv39.proofs.walk.walk.Given as goal

abbrev pub invariant-loop-level : goal.invariant-loop-level
invariant-loop-level l =
    (w : Walk) → Walks l.memory.bytes.now l.base l.address l.level l.table w → Walks l.memory.bytes.now l.base l.address 3 l.base w
