use Rattle.std.proofs.Common.{rules}
use Rattle.std.proofs.lemmas.Iterator.{YieldsList-from_slice}
use Rattle.std.proofs.lemmas.Iterator.Consumers.{YieldsList-from_filter_map, min_from_yields_List}
use Rattle.image.proofs.Lowest.{one_answer, found_lowest, outside_answer}
use Rattle.image.proofs.ranges.lowest_outside.Goals as goal

pub returns : goal.returns
returns c =
    let answer = outside_answer c.args.window.first c.args.window.count in
    found_lowest _ answer c.args.ranges.now c.min.result
    (min_from_yields_List _ c.min.result c.min.ensures.ran
    (YieldsList-from_filter_map _ (λ r. (answer r).0) (YieldsList-from_slice c.args.ranges.now cc) c.filter_map.ensures.closure
    (λ x r q k. (search rules, one_answer _ r _ (search rules) (answer x.now).1))))
