use borrow.Author.Tests.{tests}
use Rattle.std.proofs.Common.{rules}
use Rattle.faults.specs.declared.fault.Reason.TheVariants.{Interpreter}
use Rattle.elf.specs.Segments.{headers, Interprets}
use Rattle.elf.proofs.Finds.{checked_by}
use Rattle.elf.proofs.stages.Headers.check_interpreter.Goals as goal

pub returns : goal.returns
returns c = checked_by Interpreter (headers c.args.self.now.layout c.args.self.now.bytes.now) (Interprets c.args.self.now.layout c.args.self.now.bytes.now) _ c.refuse.result c.refuse.ensures (λ i within told. search (rules, tests)) (λ i within told. search (rules, tests))
