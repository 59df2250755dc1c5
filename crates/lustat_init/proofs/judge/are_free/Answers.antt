use Rattle.std.proofs.Common.{◌<◌, ◌≤◌, ◌∙◌, ℕ, List, length, All, refl, sym, subst, arith, true≢false}
use Rattle.std.proofs.lemmas.List.{take_all}
use Rattle.std.proofs.lemmas.List.Elements.{All-more, All-get_or}
use Rattle.lutree.specs.Tree.{node_view}
use Rattle.lustat_init.specs.Judged.{IsFree}
use Rattle.lustat_init.proofs.judge.are_free.Goals as goal

pub loop-x-preserved : goal.loop-x-preserved
loop-x-preserved c =
    let n = node_view c.args.scope.now in
    let xs : List (List ℕ) = c.args.names.now in
    let i : ℕ = c.loop-x.x-index in
    let x : List ℕ = c.x-item.result in
    let lt : i < length xs = omega (arith, c.loop-x-test.true) in
    let free : IsFree n x = subst (IsFree n) c.as_str.ensures (c.is_free.ensures.0 c.if-is_free.true) in
    All-more (IsFree n) xs i x lt c.loop-x.invariant (subst (IsFree n) c.x-item.is free)

pub returns-in-loop-x : goal.returns-in-loop-x
returns-in-loop-x c =
    let n = node_view c.args.scope.now in
    let xs : List (List ℕ) = c.args.names.now in
    let i : ℕ = c.loop-x.x-index in
    let x : List ℕ = c.x-item.result in
    let lt : i < length xs = omega (arith, c.loop-x-test.true) in (
      λ h. absurd (true≢false (sym h)),
      λ all.
          let free : IsFree n x = subst (IsFree n) (sym c.x-item.is) (All-get_or (IsFree n) xs i x lt all) in
          sym c.if-is_free.false ∙ c.is_free.ensures.1 (subst (IsFree n) (sym c.as_str.ensures) free),
    )

pub returns : goal.returns
returns c =
    let n = node_view c.args.scope.now in
    let le : length c.args.names.now ≤ c.loop-x.x-index = omega (arith, c.loop-x-test.false) in
    (λ _. subst (All (IsFree n)) (take_all c.loop-x.x-index c.args.names.now le) c.loop-x.invariant, λ _. refl)
