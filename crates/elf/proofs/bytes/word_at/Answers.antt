use Rattle.std.proofs.Common.{◌≡◌, ◌∙◌, sym, ap, inl, inr, refl, arith}
use Rattle.elf.specs.Bytes.{le}
use Rattle.elf.proofs.Numbers.{number_at, number_small}
use Rattle.elf.proofs.bytes.word_at.Goals as goal

pub returns-then-width-eq4-clause-value : goal.returns-then-width-eq4-clause-value
returns-then-width-eq4-clause-value c =
    c.read_uint.ensures ∙ number_at c.args.file.now c.args.at 4 _ (inl refl) (omega arith) ∙ ap (le c.args.file.now c.args.at) (sym c.if-width-eq4.true)

pub returns-then-width-eq4-clause-bound : goal.returns-then-width-eq4-clause-bound
returns-then-width-eq4-clause-bound c =
    let value : c.read_uint.result ≡ le c.args.file.now c.args.at c.args.width = returns-then-width-eq4-clause-value c in
    rw value (number_small c.args.file.now c.args.at c.args.width (λ k. (c.type_inv.file k).fits))

pub returns-else-width-eq4-clause-value : goal.returns-else-width-eq4-clause-value
returns-else-width-eq4-clause-value c =
    let eight : 8 ≡ c.args.width = omega arith in
    c.read_uint-else-width-eq4.ensures ∙ number_at c.args.file.now c.args.at 8 _ (inr refl) (omega arith) ∙ ap (le c.args.file.now c.args.at) eight
