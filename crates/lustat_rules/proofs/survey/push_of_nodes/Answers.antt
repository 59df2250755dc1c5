use Rattle.std.proofs.Common.{◌≤◌, ◌∙◌, refl, ap, length, arith}
use Rattle.std.specs.Prelude.{slice_get}
use Rattle.std.proofs.lemmas.Option.{slice_get_read}
use Rattle.lustat_rules.specs.Stages.{BrokenInside}
use Rattle.lustat_rules.proofs.Gaining.{gains_more, gains_all}
use Rattle.lustat_rules.proofs.survey.push_of_nodes.Goals as goal

pub push_in_node-requires : goal.push_in_node-requires
push_in_node-requires g c =
    let nodes = c.args.scopes.now in
    let i = c.loop-i.i in
    let there = ap (λ l. slice_get l i) c.requires ∙ slice_get_read nodes (length nodes) i c.index-scopes-i.result refl c.loop-i-test.true c.index-scopes-i.is in
    λ k. ((refl, tt), there)

pub loop-i-preserved : goal.loop-i-preserved
loop-i-preserved g c =
    let nodes = c.args.scopes.now in
    let s = c.args.survey.now in
    let i = c.loop-i.i in
    let n = c.index-scopes-i.result in
    let here = slice_get_read nodes (length nodes) i n refl c.loop-i-test.true c.index-scopes-i.is in
    gains_more nodes (BrokenInside (g.S.Stage.breaks_node s) (g.S.Stage.breaks_declaration s) (g.S.Stage.breaks_equation s)) i n c.args.found.now.items c.loop-i.found.items c.push_in_node.new.found.items
    here c.loop-i.invariant c.in_ok-push_in_node.ensures

pub returns : goal.returns
returns g c =
    let nodes = c.args.scopes.now in
    let s = c.args.survey.now in
    let end : length nodes ≤ c.loop-i.i = (let e = c.loop-i-test.false in omega (arith, e)) in
    gains_all nodes (BrokenInside (g.S.Stage.breaks_node s) (g.S.Stage.breaks_declaration s) (g.S.Stage.breaks_equation s)) c.loop-i.i c.args.found.now.items c.loop-i.found.items end c.loop-i.invariant
