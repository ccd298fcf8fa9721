use borrow.Author.Tests.{tests}
use Rattle.std.proofs.Common.{rules}
use Rattle.faults.specs.declared.fault.Reason.TheVariants.{SegmentAlignment}
use Rattle.elf.specs.Segments.{headers, BadAlign}
use Rattle.elf.proofs.Finds.{checked_by}
use Rattle.elf.proofs.stages.Headers.check_alignments.Goals as goal

pub returns : goal.returns
returns c = checked_by SegmentAlignment (headers c.args.self.now.layout c.args.self.now.bytes.now) (BadAlign c.args.self.now.layout c.args.self.now.bytes.now) _ c.refuse.result c.refuse.ensures (λ i within told. search (rules, tests)) (λ i within told. search (rules, tests))
