use Rattle.sv39.specs.Writes.{Built}
use Rattle.sv39.proofs.tables.Tables.build.Given as goal

abbrev pub invariant-loop-i : goal.invariant-loop-i
invariant-loop-i l = Built l.fn.figures l.i l.fn.self.memory.now l.self.memory.now
