use borrow.Author.Tests.{tests}
use Rattle.std.proofs.Common.{rules, refl, ℕ}
use Rattle.elf.specs.Dynamic.{HoldsFileBytes}
use Rattle.elf.proofs.Finds.{found_first}
use Rattle.elf.proofs.stages.Headers.holding.Goals as goal

pub returns : goal.returns
returns c =
    let P : ℕ → Type 0 = HoldsFileBytes c.args.self.now.layout c.args.self.now.bytes.now c.args.address c.args.size in
    found_first _ _ _ _ _ P refl c.count.ensures c.find.ensures.ran (λ x q k. search (rules, tests)) (λ x q k. search (rules, tests))
