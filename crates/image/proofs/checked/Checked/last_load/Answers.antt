use Rattle.std.proofs.Common.{rules}
use borrow.Author.Tests.{tests}
use Rattle.elf.specs.Layouts.{elf64}
use Rattle.elf.specs.Segments.{Load, header, phnum}
use Rattle.elf.proofs.Lasts.{highest_found}
use Rattle.image.proofs.checked.Checked.last_load.Goals as goal

pub returns : goal.returns
returns c =
    let b = c.args.self.now.opened.file.now in
    highest_found (phnum elf64 b) (λ i. Load (header elf64 b i)) _ _ _ c.find.result (cc) (cc) c.find.ensures.ran (λ x q k. search (rules, tests)) (λ x q k. search (rules, tests))
