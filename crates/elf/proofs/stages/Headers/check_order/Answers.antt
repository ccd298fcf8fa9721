use borrow.Author.Tests.{tests}
use Rattle.std.proofs.Common.{rules}
use Rattle.faults.specs.declared.fault.Reason.TheVariants.{SegmentOrder}
use Rattle.elf.specs.Segments.{headers, BadOrder}
use Rattle.elf.proofs.Finds.{checked_by}
use Rattle.elf.proofs.stages.Headers.check_order.Goals as goal

pub returns : goal.returns
returns c = checked_by SegmentOrder (headers c.args.self.now.layout c.args.self.now.bytes.now) (BadOrder c.args.self.now.layout c.args.self.now.bytes.now) _ c.refuse.result c.refuse.ensures (λ i within told. search (rules, tests)) (λ i within told. search (rules, tests))
