use Rattle.std.proofs.Common.{◌∙◌, ◌≤◌, refl, ap, sym, length, arith}
use Rattle.std.specs.Prelude.{slice_get}
use Rattle.std.proofs.lemmas.Option.{slice_get_read}
use Rattle.lutree.specs.declared.program.Node.{Node}
use Rattle.lustat_rules.proofs.Gaining.{gains_more, gains_all}
use Rattle.lustat_rules.proofs.survey.push_of_equations.Goals as goal

pub loop-j-preserved : goal.loop-j-preserved
loop-j-preserved g c =
    let n = c.args.scope.now in
    let items = c.as_slice-equations.result.now in
    let same = c.as_slice-equations.ensures ∙ ap (λ (m : Node). m.equations) c.node.ensures in
    let j = c.loop-j.j in
    let item = c.index-equations-j.result in
    let at = ap (λ l. slice_get l j) (sym same) ∙ slice_get_read items (length items) j item refl c.loop-j-test.true c.index-equations-j.is in
    gains_more n.equations (g.S.Stage.breaks_equation c.args.survey.now n) j item c.args.found.now.items c.loop-j.found.items c.push_equation_faults.new.found.items
    at c.loop-j.invariant c.in_ok-push_equation_faults.ensures

pub returns : goal.returns
returns g c =
    let n = c.args.scope.now in
    let items = c.as_slice-equations.result.now in
    let same = c.as_slice-equations.ensures ∙ ap (λ (m : Node). m.equations) c.node.ensures in
    let end : length n.equations ≤ c.loop-j.j = (let e = c.loop-j-test.false in let size = ap length same in omega (arith, size, e)) in
    gains_all n.equations (g.S.Stage.breaks_equation c.args.survey.now n) c.loop-j.j c.args.found.now.items c.loop-j.found.items end c.loop-j.invariant
