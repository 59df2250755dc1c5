use Rattle.std.proofs.Common.{◌≡◌, ◌∙◌, ◌++◌, ap, sym, subst, arith, length, map, take, ◌+◌}
use Rattle.lustat_rules.specs.Scope.{lefts_of}
use Rattle.std.proofs.lemmas.Grind.{common_steps}
use Rattle.lutree.specs.Tree.{equation_view}
use Rattle.lutype.specs.Starts.{AreStarts}
use Rattle.lutype.proofs.Defining.{lefts_more, push_start, start_is}
use Rattle.lutype.proofs.defined.fill.Goals as goal

pub loop-equation-preserved : goal.loop-equation-preserved
loop-equation-preserved c =
    let qs = c.args.equations.now in
    let i = c.loop-equation.equation-index in
    let q = c.equation-item.result in
    let before = c.loop-equation.invariant in
    let size : c.len.result ≡ length c.loop-equation.names.items = grind (arith, common_steps, c.len.ensures) in
    let start = size ∙ start_is c.loop-equation.names.items qs i before.names in
    record {
      names = c.in_ok-push_left.ensures ∙ ap (λ l. l ++ c.as_slice.result.now) before.names ∙ ap (λ l. lefts_of (map equation_view (take i qs)) ++ l) c.as_slice.ensures ∙ sym (lefts_more qs i q c.loop-equation-test.true c.equation-item.is);
      starts = subst (AreStarts (i + 1) (map equation_view qs)) (sym c.in_ok-push.ensures.items) (push_start (map equation_view qs) i c.loop-equation.starts.items c.len.result before.starts start);
    }
