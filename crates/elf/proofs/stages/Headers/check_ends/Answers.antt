use borrow.Author.Tests.{tests}
use Rattle.std.proofs.Common.{rules}
use Rattle.faults.specs.declared.fault.Reason.TheVariants.{SegmentEnd}
use Rattle.elf.specs.Segments.{headers, BadEnd}
use Rattle.elf.proofs.Finds.{checked_by}
use Rattle.elf.proofs.stages.Headers.check_ends.Goals as goal

pub returns : goal.returns
returns c = checked_by SegmentEnd (headers c.args.self.now.layout c.args.self.now.bytes.now) (BadEnd c.args.self.now.layout c.args.self.now.bytes.now) _ c.refuse.result c.refuse.ensures (λ i within told. search (rules, tests)) (λ i within told. search (rules, tests))
