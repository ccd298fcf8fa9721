use borrow.Author.Tests.{tests}
use Rattle.std.proofs.Common.{rules}
use Rattle.faults.specs.Rules.{Checked}
use Rattle.faults.specs.declared.fault.Reason.TheVariants.{RelocationType, RelocationTarget}
use Rattle.elf.specs.Segments.{on_each}
use Rattle.elf.specs.Dynamic.{BadKind, BadTarget}
use Rattle.elf.proofs.Finds.{checked_by}
use Rattle.elf.proofs.relocations.Records+Relocation.check.Goals as goal

pub returns-in_err-refuse : goal.returns-in_err-refuse
returns-in_err-refuse c =
    let t = c.args.self.now.table in
    let kind : Checked (on_each RelocationType t (BadKind c.args.self.now.headers.layout c.args.self.now.headers.bytes.now t)) c.refuse.result = checked_by RelocationType t (BadKind c.args.self.now.headers.layout c.args.self.now.headers.bytes.now t) _ c.refuse.result c.refuse.ensures (λ i within told. search (rules, tests)) (λ i within told. search (rules, tests)) in
    search rules

pub returns : goal.returns
returns c =
    let t = c.args.self.now.table in
    let kind : Checked (on_each RelocationType t (BadKind c.args.self.now.headers.layout c.args.self.now.headers.bytes.now t)) c.refuse.result = checked_by RelocationType t (BadKind c.args.self.now.headers.layout c.args.self.now.headers.bytes.now t) _ c.refuse.result c.refuse.ensures (λ i within told. search (rules, tests)) (λ i within told. search (rules, tests)) in
    let target : Checked (on_each RelocationTarget t (BadTarget c.args.self.now.headers.layout c.args.self.now.headers.bytes.now t)) c.refuse-2.result = checked_by RelocationTarget t (BadTarget c.args.self.now.headers.layout c.args.self.now.headers.bytes.now t) _ c.refuse-2.result c.refuse-2.ensures (λ i within told. search (rules, tests)) (λ i within told. search (rules, tests)) in
    search rules
