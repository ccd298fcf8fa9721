use Rattle.std.proofs.Common.{◌≡◌, ℕ, ◌+◌, ◌-◌, cond, sym, ap, ◌∙◌, add-one, rules}
use Rattle.elf.specs.Layouts.{elf64}
use Rattle.elf.specs.Dynamic.{relocation_in, relocation_table}
use Rattle.elf.specs.declared.records.Relocation.{Relocation}
use Rattle.image.specs.Prescribed.{reaches, word_of, byte_of, byte_after}
use Rattle.image.proofs.Assembles.{after_word}
use Rattle.image.proofs.Spans.{kept_on, holds_on}
use Rattle.image.proofs.prescribed.Image.relocate.Goals as goal

pub loop-r-preserved : goal.loop-r-preserved
loop-r-preserved c =
    let m = c.args.self.now in
    let b = m.opened.file.now in
    let i = c.loop-r.r-iterator.iter.start in
    let w = c.loop-r.span in
    let v = c.relocate.new.self in
    let same : c.in-Some.r ≡ relocation_in elf64 b (relocation_table elf64 b) i = search rules in
    let next : c.next.new.self.iter.start ≡ i + 1 = search rules in
    let put : Relocation → ℕ → ℕ → ℕ = λ r a below. cond (reaches elf64 m.bias a r) (byte_of (word_of elf64 m.bias r.addend) (a - (m.bias + r.offset))) below in (
      kept_on c.args.span.now w v c.loop-r.invariant.0 c.relocate.ensures.kept,
      λ j within.
          let a = v.address + j in
          holds_on w v (byte_after elf64 b m.bias i) (put c.in-Some.r) c.relocate.ensures.kept c.loop-r.invariant.1 c.relocate.ensures.put j within
          ∙ ap (λ (r : Relocation). put r a (byte_after elf64 b m.bias i a)) same
          ∙ sym (after_word elf64 b m.bias i a)
          ∙ ap (λ (n : ℕ). byte_after elf64 b m.bias n a) (sym (next ∙ add-one i)),
      search rules,
      search rules,
      search rules,
    )
