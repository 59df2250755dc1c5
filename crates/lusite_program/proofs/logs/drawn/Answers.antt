use Rattle.std.proofs.Common.{◌≡◌, ℕ, ◌<◌, Some, arith}
use Rattle.std.specs.Prelude.{slice_get}
use Rattle.luflow.specs.Program.{flows_of}
use Rattle.luflow.proofs.Solutions.{some_at}
use Rattle.luworld.specs.Jobs.{outputs_of}
use Rattle.luworld.proofs.Fitting.{fits}
use Rattle.lusite_program.proofs.OutputLogs.{one_drawn, others_left, all_drawn, logs_row}
use Rattle.lusite_program.proofs.SiteFlows.{output_there}
use Rattle.lusite_program.proofs.logs.drawn.Goals as goal

pub loop-k-preserved : goal.loop-k-preserved
loop-k-preserved c =
    let p = c.args.program.now in
    let all = c.args.logs.items in
    let inv = c.loop-k.invariant in
    let k = c.loop-k.k in
    let plan_is = c.outputs-count.ensures.plan in
    let i = some_at (outputs_of p.plan) k (omega (arith, c.loop-k-test.true, c.outputs-count.ensures.count)) in
    let reports = c.reported_flow.ensures.there i.0 i.1 in
    let inside : (x : ℕ) (j : ℕ) → slice_get (outputs_of p.plan) j ≡ Some x → x < flows_of p.plan.flat = λ x j e. (let first = (fits p.plan plan_is).variables_first in let l = (output_there p.plan j x e).0 in omega (arith, first, l)) in
    let push = c.push_reserved.ensures in
    record {
      len = (let a = inv.len in let b = push.len in omega (arith, a, b));
      room = (let a = inv.room in let b = push.capacity in omega (arith, a, b));
      done = one_drawn p all inside (logs_row p all plan_is.flat_is.ordered c.requires) c.loop-k.logs.items c.loop-k.rows.items c.push_reserved.new.self.items c.draw_reported-row.result k i.0 c.reported_flow.result i.1 inv.done inv.left inv.len push.items reports c.draw_reported-row.ensures.drawn;
      left = others_left p all c.loop-k.logs.items c.draw_reported-row.new.logs.items k i.0 c.reported_flow.result i.1 inv.left reports c.draw_reported-row.ensures.others;
    }

pub returns-clause-each : goal.returns-clause-each
returns-clause-each c =
    all_drawn c.args.program.now c.args.logs.items c.loop-k.rows.items c.loop-k.k c.loop-k.invariant.done c.loop-k.invariant.len (omega (arith, c.loop-k-test.false, c.outputs-count.ensures.count))
