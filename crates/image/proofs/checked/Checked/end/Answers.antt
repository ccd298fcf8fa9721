use Rattle.std.proofs.Common.{◌+◌, sym, ap, ◌∙◌, arith}
use Rattle.elf.specs.Layouts.{elf64}
use Rattle.elf.specs.Segments.{phnum}
use Rattle.elf.specs.declared.records.ProgramHeader.{ProgramHeader}
use Rattle.image.proofs.Known.{opened_known, sound64, end_none, end_last}
use Rattle.image.proofs.checked.Checked.end.Goals as goal

pub returns-in-None : goal.returns-in-None
returns-in-None c = sym (end_none elf64 c.args.self.now.opened.file.now (phnum elf64 c.args.self.now.opened.file.now) c.in-None.ensures)

pub overflow_add-result : goal.overflow_add-result
overflow_add-result c =
    let b = c.args.self.now.opened.file.now in
    let top = c.in-Some.ensures in
    let ends = (opened_known elf64 b sound64 c.args.self.now.clear).bounded.ends c.in-Some.i top.within top.fits in
    let same = ap (λ (h : ProgramHeader). h.vaddr + h.memsz) c.header-last.ensures in
    record { fits = omega arith }

pub returns-in-Some : goal.returns-in-Some
returns-in-Some c =
    let b = c.args.self.now.opened.file.now in
    ap (λ (h : ProgramHeader). h.vaddr + h.memsz) c.header-last.ensures ∙ sym (end_last elf64 b (phnum elf64 b) c.in-Some.i c.in-Some.ensures)
