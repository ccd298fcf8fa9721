use Rattle.std.proofs.Common.{◌≡◌, ◌^◌, Some, refl, subst, arith}
use Rattle.std.specs.List.{slice_get}
use Rattle.std.proofs.lemmas.Option.{slice_get_read}
use Rattle.regions.specs.Runs.{in_use}
use Rattle.regions.proofs.Mappings.{lies}
use Rattle.regions.proofs.runs.Runs.take_next.Goals as goal

pub joined-requires : goal.joined-requires
joined-requires c =
    let found = c.in-Some.ensures.lookup in
    let at = subst (λ rs. slice_get rs c.args.at ≡ Some c.in-Some.field-0.now) c.as_slice.ensures (slice_get_read c.as_slice.result.now _ c.args.at c.in-Some.field-0.now refl found.3.0 found.1) in
    let l = lies 0 (2 ^ 26) (in_use c.args.self.now) c.args.at c.in-Some.field-0.now c.requires.ascending at in
    omega (arith, l.high, (c.if-meets.ensures.0 refl).0)
