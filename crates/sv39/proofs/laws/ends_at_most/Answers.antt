use Rattle.std.proofs.Common.{refl}
use Rattle.sv39.proofs.Ends.{ends_one}
use Rattle.sv39.proofs.Worked.{encoded, examples}
use Rattle.sv39.proofs.laws.ends_at_most.Goals as goal

pub returns : goal.returns
returns c = record {
  value = refl;
  one = ends_one;
  encoded = encoded;
  examples = examples;
}
