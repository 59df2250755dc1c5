use Rattle.std.proofs.Common.{◌≤◌, ◌∙◌, refl, ap, length, arith}
use Rattle.std.specs.Prelude.{slice_get}
use Rattle.std.proofs.lemmas.Option.{slice_get_read}
use Rattle.lustat_rules.proofs.Judging.{judged_step, judged_all}
use Rattle.lustat_rules.specs.Stages.{BrokenInside, KeptInside}
use Rattle.lustat_rules.proofs.stage.nodes_fault.Goals as goal

pub node_fault-requires : goal.node_fault-requires
node_fault-requires g c =
    let nodes = c.args.scopes.now in
    let i = c.loop-i.i in
    let there = ap (λ l. slice_get l i) c.requires ∙ slice_get_read nodes (length nodes) i c.index-scopes-i.result refl c.loop-i-test.true c.index-scopes-i.is in
    λ k. ((refl, tt), there)

pub loop-i-preserved : goal.loop-i-preserved
loop-i-preserved g c =
    let nodes = c.args.scopes.now in
    let s = c.args.stage.now in
    let i = c.loop-i.i in
    let n = c.index-scopes-i.result in
    let here = slice_get_read nodes (length nodes) i n refl c.loop-i-test.true c.index-scopes-i.is in
    judged_step nodes (BrokenInside (g.S.Stage.breaks_node s) (g.S.Stage.breaks_declaration s) (g.S.Stage.breaks_equation s))
    (KeptInside (g.S.Stage.keeps_node s) (g.S.Stage.keeps_declaration s) (g.S.Stage.keeps_equation s)) i n c.loop-i.best c.in_ok-found.found c.lesser-best.result
    here c.lesser-best.ensures c.loop-i.invariant c.in_ok-found.ensures

pub returns : goal.returns
returns g c =
    let nodes = c.args.scopes.now in
    let s = c.args.stage.now in
    let end : length nodes ≤ c.loop-i.i = (let e = c.loop-i-test.false in omega (arith, e)) in
    judged_all nodes (BrokenInside (g.S.Stage.breaks_node s) (g.S.Stage.breaks_declaration s) (g.S.Stage.breaks_equation s))
    (KeptInside (g.S.Stage.keeps_node s) (g.S.Stage.keeps_declaration s) (g.S.Stage.keeps_equation s)) c.loop-i.i c.loop-i.best end c.loop-i.invariant
