use Rattle.std.proofs.Common.{◌≡◌, ℕ, ◌+◌, ◌-◌, ◌<◌, List, cond, ◌&&◌, nat_eq, nat_lt, nat_le, get_or, w64, refl, ap, ◌∙◌, arith, rules}
use Rattle.std.specs.Int.{to_le_bytes}
use Rattle.image.specs.Prescribed.{byte_of}
use Rattle.image.proofs.Puts.{byte_more}
use Rattle.image.proofs.Spans.{kept_on, puts_on}
use Rattle.image.proofs.words.Span+u8.put_word.Goals as goal

byte_at : (word k : ℕ) → k < 8 → get_or (to_le_bytes w64 word) k 0 ≡ byte_of word k
byte_at word k within = search rules

pub loop-k-preserved : goal.loop-k-preserved
loop-k-preserved c =
    let t = c.args.target in
    let k = c.loop-k.k in
    let word = c.args.word in
    let before : ℕ → ℕ → ℕ = λ a old. cond (nat_le t a && nat_lt a (t + k)) (byte_of word (a - t)) old in
    let after : ℕ → ℕ → ℕ = λ a old. cond (nat_eq a (t + k)) (get_or c.to_le_bytes.result k 0) old in
    let byte : get_or c.to_le_bytes.result k 0 ≡ byte_of word k = ap (λ (xs : List ℕ). get_or xs k 0) c.to_le_bytes.ensures ∙ byte_at word k (omega (arith, c.loop-k-test.true)) in
    let kept = c.loop-k.invariant.0 in (
      kept_on c.args.self.now c.loop-k.self c.put_byte.new.self kept c.put_byte.ensures.kept,
      λ j within.
          let a = c.args.self.now.address + j in
          let old = get_or c.args.self.now.items.now j 0 in
          let put = puts_on c.args.self.now c.loop-k.self c.put_byte.new.self before after kept c.loop-k.invariant.1 c.put_byte.ensures.put j within in
          byte_more (byte_of word) t k a old (before a old) (get_or c.put_byte.new.self.items.now j 0) (refl) (put ∙ ap (λ (b : ℕ). cond (nat_eq a (t + k)) b (before a old)) byte),
    )
