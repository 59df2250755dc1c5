use Rattle.std.proofs.Common.{inl, inr, rules}
use Rattle.std.proofs.lemmas.List.Sorted.{IsNonDecreasingBy-from_sort_by_key}
use Rattle.luexplain.proofs.Readings.{reordered, still_none}
use Rattle.luexplain.proofs.refused.all_refusals.Goals as goal

pub returns : goal.returns
returns c =
    let moved = c.sort_unstable_by_key.ensures.permutation in
    elim c.in_ok-found.ensures [
      | inl none ↦ inl (still_none c.args.text.now _ _ moved none)
      | inr are ↦ inr (record { are = reordered c.args.path.now c.args.text.now _ _ moved are; ordered = IsNonDecreasingBy-from_sort_by_key (λ r. r.byte) _ c.sort_unstable_by_key.ensures.sorted (λ a r q k. search rules) })
    ]
