use Rattle.std.proofs.Common.{◌≡◌, ◌<◌, ap, sym, ◌∙◌, arith, rules}
use Rattle.elf.specs.Layouts.{elf64}
use Rattle.elf.specs.Dynamic.{relocation_in, relocation_table}
use Rattle.elf.specs.declared.records.Table.{Table}
use Rattle.elf.specs.declared.records.Relocation.{Relocation}
use Rattle.image.proofs.Known.{file_short}
use Rattle.image.proofs.Assembles.{table_ends, word_ends}
use Rattle.image.proofs.prescribed.Image.relocation.Goals as goal

pub overflow_mul-offset : goal.overflow_mul-offset
overflow_mul-offset c =
    let m = c.args.self.now in
    let b = m.opened.file.now in
    record { fits = omega (arith, table_ends b m.bias m.clear m.table c.args.i m.tabled c.requires, file_short b m.bias m.clear) }

pub overflow_add-offset : goal.overflow_add-offset
overflow_add-offset c =
    let m = c.args.self.now in
    let b = m.opened.file.now in
    record { fits = omega (arith, table_ends b m.bias m.clear m.table c.args.i m.tabled c.requires, file_short b m.bias m.clear) }

pub unwrap-requires : goal.unwrap-requires
unwrap-requires c =
    let m = c.args.self.now in
    let ends = table_ends m.opened.file.now m.bias m.clear m.table c.args.i m.tabled c.requires in
    search rules

pub returns-clause-ends : goal.returns-clause-ends
returns-clause-ends c = λ kind.
    let m = c.args.self.now in
    let b = m.opened.file.now in
    let same : c.unwrap.result ≡ relocation_in elf64 b (relocation_table elf64 b) c.args.i = search rules in
    let within : c.args.i < (relocation_table elf64 b).count = omega (arith, c.requires, ap (λ (t : Table). t.count) m.tabled) in
    let ends = word_ends b m.bias m.clear c.args.i within (sym (ap (λ (r : Relocation). r.kind) same) ∙ kind) in
    omega (arith, ap (λ (r : Relocation). r.offset) same)
