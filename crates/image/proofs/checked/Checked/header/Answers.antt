use Rattle.std.proofs.Common.{rules}
use Rattle.elf.specs.Layouts.{elf64}
use Rattle.image.proofs.Known.{opened_known, sound64}
use Rattle.image.proofs.Gathers.{header_whole}
use Rattle.image.proofs.checked.Checked.header.Goals as goal

pub unwrap-requires : goal.unwrap-requires
unwrap-requires c =
    let b = c.args.self.now.opened.file.now in
    let whole = header_whole elf64 b (opened_known elf64 b sound64 c.args.self.now.clear).bounded.readable c.args.i c.requires in
    search rules
