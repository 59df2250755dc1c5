use Rattle.std.proofs.Common.{◌∙◌, ◌≤◌, refl, ap, sym, length, arith}
use Rattle.std.specs.Prelude.{slice_get}
use Rattle.std.proofs.lemmas.Option.{slice_get_read}
use Rattle.lutree.specs.declared.program.Node.{Node}
use Rattle.lustat_rules.proofs.Judging.{judged_step, judged_all}
use Rattle.lustat_rules.proofs.stage.equations_fault.Goals as goal

pub loop-j-preserved : goal.loop-j-preserved
loop-j-preserved g c =
    let n = c.args.scope.now in
    let items = c.as_slice-equations.result.now in
    let same = c.as_slice-equations.ensures ∙ ap (λ (m : Node). m.equations) c.node.ensures in
    let j = c.loop-j.j in
    let item = c.index-equations-j.result in
    let at = ap (λ l. slice_get l j) (sym same) ∙ slice_get_read items (length items) j item refl c.loop-j-test.true c.index-equations-j.is in
    judged_step n.equations (g.S.Stage.breaks_equation c.args.stage.now n) (g.S.Stage.keeps_equation c.args.stage.now n) j item c.loop-j.best c.equation_fault-found.result c.lesser-best.result
    at c.lesser-best.ensures c.loop-j.invariant c.equation_fault-found.ensures

pub returns : goal.returns
returns g c =
    let n = c.args.scope.now in
    let items = c.as_slice-equations.result.now in
    let same = c.as_slice-equations.ensures ∙ ap (λ (m : Node). m.equations) c.node.ensures in
    let end : length n.equations ≤ c.loop-j.j = (let e = c.loop-j-test.false in let size = ap length same in omega (arith, size, e)) in
    judged_all n.equations (g.S.Stage.breaks_equation c.args.stage.now n) (g.S.Stage.keeps_equation c.args.stage.now n) c.loop-j.j c.loop-j.best end c.loop-j.invariant
