use Rattle.std.proofs.Common.{rules}
use Rattle.std.proofs.lemmas.Fn.{dedup_same}
use Rattle.lustat_rules.proofs.Ordering.{is_same, sorted_by_place, all_in_order}
use Rattle.lustat_rules.proofs.order.in_order.Goals as goal

pub returns : goal.returns
returns c =
    let sorted = sorted_by_place _ c.in_ok-sort_by_key.ensures.sorted (λ a r f' k. search rules) in
    let kept = dedup_same _ is_same _ (λ x y b f' x' y' k. search rules) _ _ c.dedup_by.ensures.filtered in
    all_in_order c.args.found.items _ _ c.in_ok-sort_by_key.ensures.permutation sorted kept
