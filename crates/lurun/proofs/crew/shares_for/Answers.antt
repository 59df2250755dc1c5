use Rattle.std.proofs.Common.{◌≡◌, length, vec_len, Ok, Err, rules, sym, subst, arith}
use Rattle.std.specs.Prelude.{IfOk}
use Rattle.std.specs.declared.result.Result.{Result}
use Rattle.std.specs.List.Sorted.{IsPermutation}
use Rattle.std.proofs.lemmas.List.Sorted.{length_permutation}
use Rattle.lurun.specs.Crew.{held}
use Rattle.lurun.proofs.crew.shares_for.Goals as goal

weaker : {T E : Type 0} (P Q : T → Type 0) (r : Result T E) → ((x : T) → P x → Q x) → IfOk r P → IfOk r Q
weaker P Q (Ok x) f p = f x p
weaker P Q (Err e) f p = tt

pub returns-clause-all : goal.returns-clause-all
returns-clause-all c = weaker _ _ c.new_shares.result (λ started same. subst (IsPermutation c.args.stations.items) (sym same) c.in_ok-shares.ensures.all) c.new_shares.ensures.all

pub returns-clause-count : goal.returns-clause-count
returns-clause-count c = weaker _ _ c.new_shares.result
    (λ started same.
    (let n = length_permutation c.args.stations.items (held started.items) (subst (IsPermutation c.args.stations.items) (sym same) c.in_ok-shares.ensures.all) in
    let m : vec_len c.args.stations ≡ length c.args.stations.items = search rules in
    omega (arith, n, m)))
    c.new_shares.ensures.all

pub returns-clause-each : goal.returns-clause-each
returns-clause-each c = weaker _ _ c.new_shares.result
    (λ started same. record {
      shares = c.in_ok-shares.shares.items;
      count = c.in_ok-shares.ensures.count;
      each = c.in_ok-shares.ensures.each;
      are = same;
    })
    c.new_shares.ensures.each
