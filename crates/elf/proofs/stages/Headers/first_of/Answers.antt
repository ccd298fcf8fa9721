use borrow.Author.Tests.{tests}
use Rattle.std.proofs.Common.{rules, refl, ℕ, ◌≡◌}
use Rattle.elf.specs.Segments.{header}
use Rattle.elf.specs.Kinds.{header_number}
use Rattle.elf.proofs.Finds.{found_first}
use Rattle.elf.proofs.stages.Headers.first_of.Goals as goal

pub returns : goal.returns
returns c =
    let P : ℕ → Type 0 = λ i. (header c.args.self.now.layout c.args.self.now.bytes.now i).kind ≡ header_number c.args.kind in
    found_first _ _ _ _ _ P refl c.count.ensures c.find.ensures.ran (λ x q k. search (rules, tests)) (λ x q k. search (rules, tests))
