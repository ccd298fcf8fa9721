use Rattle.std.proofs.Common.{◌<◌, rules, arith}
use Rattle.space.specs.Meaning.{Held}
use Rattle.regions.specs.Spaces.{means}
use Rattle.regions.proofs.Facts.{used}
use Rattle.regions.proofs.list.RegionList.place.Goals as goal
use Rattle.regions.proofs.list.RegionList.place.Goals.{then-index-ge4096-via-then-index-ge4096, then-index-ge4096-via-else-index-ge4096+then-not-is_used}

pub returns-then-index-ge4096 : goal.returns-then-index-ge4096
returns-then-index-ge4096 c =
    let none : Held (means c.args.self.now) c.args.frame × (c.args.index < 4096) → ⊥ = λ h. elim c.then-index-ge4096.branch [
      | then-index-ge4096-via-then-index-ge4096 w ↦ omega (arith, h.1)
      | then-index-ge4096-via-else-index-ge4096+then-not-is_used w ↦ let u = w.if-not-is_used.ensures.1 (used c.args.self.now c.args.frame h.0) in cc
    ] in
    search rules
