use Rattle.std.proofs.Common.{rules, ap}
use borrow.Author.Tests.{tests}
use Rattle.elf.specs.Layouts.{elf64}
use Rattle.elf.specs.Dynamic.{relocation_table}
use Rattle.elf.specs.declared.records.Table.{Table}
use Rattle.image.specs.Origins.{Reaches}
use Rattle.elf.proofs.Lasts.{highest_found}
use Rattle.image.proofs.prescribed.Image.last_reaching.Goals as goal

pub returns : goal.returns
returns c =
    let m = c.args.self.now in
    let b = m.opened.file.now in
    let count = ap (λ (t : Table). t.count) m.tabled in
    highest_found (relocation_table elf64 b).count (Reaches elf64 b m.bias c.args.address) _ _ _ c.find.result (cc) (cc) c.find.ensures.ran (λ x q k. search (rules, tests)) (λ x q k. search (rules, tests))
