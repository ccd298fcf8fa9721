use Rattle.std.proofs.Common.{◌+◌, ap, ◌∙◌, sym}
use Rattle.elf.specs.Layouts.{elf64}
use Rattle.elf.specs.declared.records.Table.{Table}
use Rattle.image.specs.Prescribed.{byte_after}
use Rattle.image.proofs.Assembles.{after_all}
use Rattle.image.proofs.prescribed.Image.bytes.Goals as goal

pub returns-clause-bytes : goal.returns-clause-bytes
returns-clause-bytes c = λ j within.
    let m = c.args.self.now in
    let b = m.opened.file.now in
    let a = c.relocate.new.span.address + j in
    c.relocate.ensures.relocated j within ∙ ap (λ (t : Table). byte_after elf64 b m.bias t.count a) m.tabled ∙ sym (after_all elf64 b m.bias a)
