use Rattle.std.proofs.Common.{◌≤◌, length, arith}
use Rattle.std.specs.Prelude.{slice_index}
use Rattle.std.proofs.lemmas.List.{length-map}
use Rattle.lusite_program.specs.Programs.{ranks_of}
use Rattle.lusite.proofs.Moves.{ordered_here}
use Rattle.lusite.proofs.SiteFlows.{row_width}
use Rattle.lusite.proofs.Widths.{width_short, rows_short, widths_row, widths_last}
use Rattle.lusite.proofs.state.SiteState.widths.Goals as goal

pub overflow_add-total : goal.overflow_add-total
overflow_add-total c =
    let a = c.args.self.now in
    let k = c.loop-k.k in
    let row = row_width a.program (ordered_here a c.requires.set) c.args.early c.code.result.1.now c.code.result.2.now c.code.result.0.now c.code.ensures k _ c.width.result c.loop-k-test.true c.width.ensures in
    let w = width_short a c.requires.set c.args.early (slice_index a.program.plan.flat.order row.0) in
    let is = row.2 in
    let n = rows_short a c.requires.run c.requires.set in
    let m = c.code.ensures.len in
    let r = length-map (ranks_of a.program.plan a.program.site) (slice_index a.program.plan.flat.order) in
    omega (arith, w, is, n, m, r, c.loop-k.invariant.few, c.loop-k-test.true)

pub loop-k-preserved : goal.loop-k-preserved
loop-k-preserved c =
    let a = c.args.self.now in
    let k = c.loop-k.k in
    let row = row_width a.program (ordered_here a c.requires.set) c.args.early c.code.result.1.now c.code.result.2.now c.code.result.0.now c.code.ensures k _ c.width.result c.loop-k-test.true c.width.ensures in
    let w = width_short a c.requires.set c.args.early (slice_index a.program.plan.flat.order row.0) in
    let is = row.2 in
    let next = widths_row a.program c.args.early k (ordered_here a c.requires.set) row.0 row.1 in
    record {
      rest = omega (arith, next, is, c.loop-k.invariant.rest);
      few = omega (arith, w, is, c.loop-k.invariant.few);
    }

pub returns-clause-sum : goal.returns-clause-sum
returns-clause-sum c =
    let a = c.args.self.now in
    let m = c.code.ensures.len in
    let r = length-map (ranks_of a.program.plan a.program.site) (slice_index a.program.plan.flat.order) in
    let none = widths_last a.program c.args.early c.loop-k.k (omega (arith, m, r, c.loop-k-test.false)) in
    omega (arith, none, c.loop-k.invariant.rest)

pub returns-clause-few : goal.returns-clause-few
returns-clause-few c =
    let a = c.args.self.now in
    let n = rows_short a c.requires.run c.requires.set in
    let m = c.code.ensures.len in
    let r = length-map (ranks_of a.program.plan a.program.site) (slice_index a.program.plan.flat.order) in
    let le : c.loop-k.k ≤ length c.code.result.0.now = c.loop-k.auto.k-end (omega (arith, c.requires.within, m, r)) in
    omega (arith, n, m, r, le, c.loop-k.invariant.few)
