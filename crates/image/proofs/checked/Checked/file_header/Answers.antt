use Rattle.std.proofs.Common.{rules}
use Rattle.elf.specs.Layouts.{elf64}
use Rattle.elf.specs.Records.{file_header}
use Rattle.image.proofs.Known.{opened_known, sound64}
use Rattle.image.proofs.checked.Checked.file_header.Goals as goal

pub unwrap-requires : goal.unwrap-requires
unwrap-requires c =
    let b = c.args.self.now.opened.file.now in
    let long = (opened_known elf64 b sound64 c.args.self.now.clear).bounded.readable.headed.long in
    search rules

pub returns : goal.returns
unfolding file_header
returns c = search rules
