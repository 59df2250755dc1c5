use Rattle.std.proofs.Common.{refl, arith}
use Rattle.std.proofs.lemmas.List.{length-map}
use Rattle.luflow.specs.Tables.{columns_view, column_view}
use Rattle.luflow.proofs.Columns.{apart, together, done}
use Rattle.luflow.proofs.Fitting.{as_many}
use Rattle.luflow.proofs.table.are_columns_of.Goals as goal

pub returns-then-variables-columns : goal.returns-then-variables-columns
returns-then-variables-columns c =
    let differ = c.if-variables-columns.true in (
      (λ e. cc),
      (λ is. let n = as_many c.args.variables.now (columns_view c.args.columns.now) is in let m = length-map c.args.columns.now column_view in absurd (omega (arith, differ, n, m))),
    )

pub loop-i-init : goal.loop-i-init
loop-i-init c = ((λ h. h), (λ h. h))

pub returns-then-not-is_column_of : goal.returns-then-not-is_column_of
returns-then-not-is_column_of c =
    let same = c.if-variables-columns.false in
    let lt = c.loop-i-test.true in (
      (λ e. cc),
      (λ is. let whole = apart c.args.variables.now c.args.columns.now c.loop-i.i c.index-variables-i.result c.index-columns-i.result lt (omega (arith, lt, same)) c.index-variables-i.is c.index-columns-i.is (c.loop-i.invariant.1 is) in let clash = c.if-not-is_column_of.ensures.1 whole.0 in cc),
    )

pub loop-i-preserved : goal.loop-i-preserved
loop-i-preserved c =
    let same = c.if-variables-columns.false in
    let lt = c.loop-i-test.true in
    let one = c.if-not-is_column_of.ensures.0 refl in (
      (λ rest. c.loop-i.invariant.0 (together c.args.variables.now c.args.columns.now c.loop-i.i c.index-variables-i.result c.index-columns-i.result lt (omega (arith, lt, same)) c.index-variables-i.is c.index-columns-i.is one rest)),
      (λ is. (apart c.args.variables.now c.args.columns.now c.loop-i.i c.index-variables-i.result c.index-columns-i.result lt (omega (arith, lt, same)) c.index-variables-i.is c.index-columns-i.is (c.loop-i.invariant.1 is)).1),
    )

pub returns : goal.returns
returns c =
    let same = c.if-variables-columns.false in
    ((λ e. c.loop-i.invariant.0 (done c.args.variables.now c.args.columns.now c.loop-i.i same (omega (arith, c.loop-i-test.false)))), (λ is. refl))
