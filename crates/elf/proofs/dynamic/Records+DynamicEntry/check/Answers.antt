use borrow.Author.Tests.{tests}
use Rattle.std.proofs.Common.{rules}
use Rattle.faults.specs.declared.fault.Reason.TheVariants.{DynamicTag}
use Rattle.elf.specs.Dynamic.{BadTag}
use Rattle.elf.proofs.Finds.{checked_by}
use Rattle.elf.proofs.dynamic.Records+DynamicEntry.check.Goals as goal

pub returns : goal.returns
returns c =
    let t = c.args.self.now.table in
    checked_by DynamicTag t (BadTag c.args.self.now.headers.layout c.args.self.now.headers.bytes.now t) _ c.refuse.result c.refuse.ensures (λ i within told. search (rules, tests)) (λ i within told. search (rules, tests))
