use Rattle.std.proofs.Common.{◌∙◌, ◌+◌, ℕ, List, length, map, subst, sym, refl, arith, true≢false}
use Rattle.std.proofs.lemmas.Option.{slice_get_read, slice_get_within}
use Rattle.lutree.specs.Tree.{node_view, equation_view}
use Rattle.lustat_rules.specs.Scope.{lefts_of}
use Rattle.lutype.specs.Starts.{IsAnew}
use Rattle.lutype.proofs.Defining.{below_item}
use Rattle.lutype.proofs.defined.is_anew.Goals as goal

pub loop-j-preserved : goal.loop-j-preserved
loop-j-preserved c =
    let n = node_view c.args.scope.now in
    let row = lefts_of (map equation_view c.args.definitions.now.equations) in
    let P : ℕ → List ℕ → Type 0 = λ k x. IsAnew n row (c.args.start + k) x in
    let left = c.args.left.now in
    let item = c.index-left-j.result in
    below_item P left c.loop-j.j item (slice_get_read left (length left) c.loop-j.j item refl c.loop-j-test.true c.index-left-j.is) c.loop-j.invariant
    (subst (P c.loop-j.j) c.as_str.ensures (c.stands_anew.ensures.0 c.if-stands_anew.true))

pub returns-in-loop-j : goal.returns-in-loop-j
returns-in-loop-j c =
    let n = node_view c.args.scope.now in
    let row = lefts_of (map equation_view c.args.definitions.now.equations) in
    let P : ℕ → List ℕ → Type 0 = λ k x. IsAnew n row (c.args.start + k) x in
    let left = c.args.left.now in
    let item = c.index-left-j.result in
    let at = slice_get_read left (length left) c.loop-j.j item refl c.loop-j-test.true c.index-left-j.is in (
      λ h. absurd (true≢false (sym h)),
      λ all. sym c.if-stands_anew.false ∙ c.stands_anew.ensures.1 (subst (P c.loop-j.j) (sym c.as_str.ensures) (all c.loop-j.j item at)),
    )

pub returns : goal.returns
returns c = (
  λ h j x at. c.loop-j.invariant j x (let lt = slice_get_within c.args.left.now j x at in let e = c.loop-j-test.false in omega (arith, lt, e)) at,
  λ all. refl,
)
