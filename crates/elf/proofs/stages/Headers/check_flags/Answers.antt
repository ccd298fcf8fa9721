use borrow.Author.Tests.{tests}
use Rattle.std.proofs.Common.{rules}
use Rattle.faults.specs.declared.fault.Reason.TheVariants.{SegmentFlags}
use Rattle.elf.specs.Segments.{headers, BadFlags}
use Rattle.elf.proofs.Finds.{checked_by}
use Rattle.elf.proofs.stages.Headers.check_flags.Goals as goal

pub returns : goal.returns
returns c = checked_by SegmentFlags (headers c.args.self.now.layout c.args.self.now.bytes.now) (BadFlags c.args.self.now.layout c.args.self.now.bytes.now) _ c.refuse.result c.refuse.ensures (λ i within told. search (rules, tests)) (λ i within told. search (rules, tests))
