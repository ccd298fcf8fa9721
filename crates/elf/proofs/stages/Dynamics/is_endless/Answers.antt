use borrow.Author.Tests.{tests}
use Rattle.std.proofs.Common.{rules}
use Rattle.elf.proofs.Dynamics.{endless_by}
use Rattle.elf.proofs.stages.Dynamics.is_endless.Goals as goal

pub returns : goal.returns
returns c =
    endless_by c.args.self.now.headers.layout c.args.self.now.headers.bytes.now _ (λ t. t.table) c.entries.result.table c.table.result c.is_some_and.result c.entries.ensures.table c.table.ensures c.is_some_and.ensures (λ t told. search (rules, tests))
