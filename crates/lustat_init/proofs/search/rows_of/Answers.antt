use Rattle.std.proofs.Common.{◌≡◌, ◌<◌, ◌++◌, ◌∷◌, [], List, Bool, refl, subst, length, arith}
use Rattle.std.specs.Prelude.{Vec}
use Rattle.std.specs.Global.{Global}
use Rattle.std.proofs.lemmas.Option.{slice_get_read}
use Rattle.lutree.specs.declared.program.Node.{Node}
use Rattle.lustat_init.specs.Rows.{plain, GiveLeastBelow}
use Rattle.lustat_init.proofs.Rowing.{one_row_more}
use Rattle.lustat_init.proofs.search.rows_of.Goals as goal

pub loop-scope-preserved : goal.loop-scope-preserved
loop-scope-preserved c =
    let nodes : List Node = c.args.scopes.now in
    let i = c.loop-scope.scope-index in
    let n : Node = c.scope-item.result in
    let lt : i < length nodes = omega (arith, c.loop-scope-test.true) in
    let here = slice_get_read nodes (length nodes) i n refl lt c.scope-item.is in
    let old : List (Vec Bool Global) = c.loop-scope.rows.items in
    let new : List (Vec Bool Global) = c.push.new.self.items in
    let pushed : new ≡ old ++ c.in_ok-row.row ∷ [] = c.in_ok-push.ensures.items in
    one_row_more nodes old new c.in_ok-row.row i n here pushed c.loop-scope.invariant
    (record { least = c.in_ok-row.ensures.least; caused = c.in_ok-row.ensures.caused })

pub returns : goal.returns
returns c =
    let nodes : List Node = c.args.scopes.now in
    let end : c.loop-scope.scope-index ≡ length nodes = (let e = c.loop-scope-test.false in omega (arith, e, c.loop-scope.auto.scope-index-end)) in
    subst (λ k. GiveLeastBelow k nodes (plain c.loop-scope.rows.items)) end c.loop-scope.invariant
