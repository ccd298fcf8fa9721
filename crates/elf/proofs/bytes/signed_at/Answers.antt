use Rattle.std.proofs.Common.{◌≡◌, ◌∙◌, ◌-◌, length, sym, ap, inl, inr, refl, w64, arith}
use Rattle.byteorder.specs.Endian.{twos_complement}
use Rattle.elf.specs.Bytes.{le}
use Rattle.elf.specs.Records.{signed}
use Rattle.elf.proofs.Numbers.{number_at, number_small, signed_number, there_and_back}
use Rattle.elf.proofs.bytes.signed_at.Goals as goal

pub returns-then-width-eq4 : goal.returns-then-width-eq4
returns-then-width-eq4 c =
    there_and_back w64 c.read_int.result c.read_int.type_inv ∙ c.read_int.ensures
    ∙ ap (twos_complement 4) (number_at c.args.file.now c.args.at 4 (length c.args.file.now - c.args.at) (inl refl) (omega arith))
    ∙ signed_number 4 _ (inl refl) (number_small c.args.file.now c.args.at 4 (λ k. (c.type_inv.file k).fits))
    ∙ ap (λ w. signed w (le c.args.file.now c.args.at w)) (sym c.if-width-eq4.true)

pub returns-else-width-eq4 : goal.returns-else-width-eq4
returns-else-width-eq4 c =
    let eight : 8 ≡ c.args.width = omega arith in
    there_and_back w64 c.read_int-else-width-eq4.result c.read_int-else-width-eq4.type_inv ∙ c.read_int-else-width-eq4.ensures
    ∙ ap (twos_complement 8) (number_at c.args.file.now c.args.at 8 (length c.args.file.now - c.args.at) (inr refl) (omega arith))
    ∙ signed_number 8 _ (inr refl) (number_small c.args.file.now c.args.at 8 (λ k. (c.type_inv.file k).fits))
    ∙ ap (λ w. signed w (le c.args.file.now c.args.at w)) eight
