use Rattle.std.proofs.Common.{ℕ, ◌+◌, ◌^◌, ◌<◌, length, sym, ap, ◌∙◌, inl, inr, arith, rules}
use Rattle.std.proofs.lemmas.Bool.{cases_lt}
use Rattle.elf.specs.Layouts.{elf64}
use Rattle.image.specs.Prescribed.{file_byte_by, byte_after}
use Rattle.image.proofs.Known.{laid}
use Rattle.image.proofs.Counts.{no_file_byte}
use Rattle.image.proofs.Assembles.{after_start}
use Rattle.image.proofs.prescribed.Image.fill.Goals as goal

pub returns-clause-filled : goal.returns-clause-filled
returns-clause-filled c = λ j within.
    let m = c.args.self.now in
    let b = m.opened.file.now in
    let w = c.args.span.now in
    let a = w.address + j in
    let kept = c.fill.ensures.kept in
    let less : j < length w.items.now = omega (arith, kept.2) in
    elim (cases_lt a (2 ^ 64)) [
      | inl low ↦ let made = c.fill.ensures.made j 0 less low in search rules
      | inr high ↦
          c.fill.ensures.none j 0 less high
          ∙ sym (after_start elf64 b m.bias a ∙ ap (file_byte_by b a) (no_file_byte b m.bias (laid b m.bias m.clear) a (omega arith)))
          ∙ ap (λ (x : ℕ). byte_after elf64 b m.bias 0 (x + j)) (sym kept.0)
    ]
