use borrow.Author.Tests.{tests}
use Rattle.std.proofs.Common.{rules, refl, ℕ}
use Rattle.elf.specs.Segments.{Executable}
use Rattle.elf.proofs.Finds.{found_first}
use Rattle.elf.proofs.stages.Headers.executing.Goals as goal

pub returns : goal.returns
returns c =
    let P : ℕ → Type 0 = Executable c.args.self.now.layout c.args.self.now.bytes.now c.args.address in
    found_first _ _ _ _ _ P refl c.count.ensures c.find.ensures.ran (λ x q k. search (rules, tests)) (λ x q k. search (rules, tests))
