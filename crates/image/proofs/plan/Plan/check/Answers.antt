use Rattle.std.proofs.Common.{◌≡◌, List, ℕ, subst}
use Rattle.faults.specs.Rules.{Answers}
use Rattle.faults.proofs.Families.{handed_up}
use Rattle.elf.specs.Layouts.{elf64}
use Rattle.image.specs.Plans.{plan_rules, load_rules}
use Rattle.image.proofs.Known.{load_first, load_answers}
use Rattle.image.proofs.plan.Plan.check.Goals as goal

pub returns-in_err-new : goal.returns-in_err-new
returns-in_err-new c =
    let b = c.args.self.now.opened.file.now in
    let bias = c.args.self.now.bias in
    handed_up (load_rules elf64 b bias) _ _ _ c.from_residual.ensures.1 (load_first elf64 b bias _ c.in_err-new.ensures)

pub returns : goal.returns
returns c =
    let b = c.args.self.now.opened.file.now in
    let bias = c.args.self.now.bias in
    let r = c.in_ok-new.ensures in
    load_answers elf64 b bias _ c.at.result r.0
    (subst (λ (x : List ℕ). Answers (plan_rules elf64 x bias) (λ p. (p.checked.opened.file.now ≡ x) × (p.bias ≡ bias)) c.at.result) r.1 c.at.ensures)
