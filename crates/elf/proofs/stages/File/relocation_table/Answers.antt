use Rattle.std.proofs.Common.{◌≡◌, ◌≤◌, subst, sym}
use Rattle.elf.specs.Dynamic.{relocation_table}
use Rattle.elf.specs.declared.records.Table.{Table}
use Rattle.elf.proofs.Passed.{carried}
use Rattle.elf.proofs.Accessed.{count_few}
use Rattle.elf.proofs.stages.File.relocation_table.Goals as goal

pub returns-in-Ok-clause-limit : goal.returns-in-Ok-clause-limit
returns-in-Ok-clause-limit c =
    let l = c.args.self.now.layout in
    let same = c.in-Ok.ensures.1 in
    let e : c.relocation_table.result ≡ relocation_table c.args.self.now.layout c.args.self.now.bytes.now = carried (λ x y. c.relocation_table.result ≡ relocation_table x y) same.0 same.1 c.relocation_table.ensures in
    subst (λ (t : Table). t.count ≤ l.limits.relocations) (sym e) (count_few c.args.self.now.layout c.args.self.now.bytes.now c.args.self.now.sound c.in-Ok.ensures.0)
