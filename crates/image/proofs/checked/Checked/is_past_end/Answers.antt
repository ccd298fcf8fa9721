use Rattle.std.proofs.Common.{arith, rules}
use Rattle.elf.specs.Layouts.{elf64}
use Rattle.elf.specs.Segments.{phnum}
use Rattle.image.proofs.Known.{opened_known, sound64, end_small}
use Rattle.image.proofs.checked.Checked.is_past_end.Goals as goal

pub overflow_sub-result : goal.overflow_sub-result
overflow_sub-result c =
    let b = c.args.self.now.opened.file.now in
    let small = end_small elf64 b (opened_known elf64 b sound64 c.args.self.now.clear).bounded (phnum elf64 b) (omega arith) in
    omega arith

pub returns : goal.returns
returns c =
    let b = c.args.self.now.opened.file.now in
    let small = end_small elf64 b (opened_known elf64 b sound64 c.args.self.now.clear).bounded (phnum elf64 b) (omega arith) in
    search rules
