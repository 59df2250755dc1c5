use Rattle.std.proofs.Common.{List, map, refl}
use Rattle.lutree.specs.declared.program.Equation.{Equation}
use Rattle.lutree.specs.Tree.{view, equation_view}
use Rattle.lustat_rules.specs.Clocks.{clocks_in}
use Rattle.lustat_init.specs.Judged.{spelled, sampler_names}
use Rattle.lustat_init.proofs.Pushed.{pushed_more, pushed_all}
use Rattle.lustat_init.proofs.judge.push_samplers_of_equations.Goals as goal

pub loop-q-preserved : goal.loop-q-preserved
loop-q-preserved c =
    pushed_more (λ (q : Equation). clocks_in (view q.right)) (λ (qs : List Equation). sampler_names (map equation_view qs)) (λ _ _. refl) c.args.equations.now c.loop-q.q-index c.q-item.result
    (spelled c.loop-q.names.items) (spelled c.push_samplers.new.names.items) _ c.loop-q-test.true c.q-item.is c.in_ok-push_samplers.ensures c.loop-q.invariant

pub returns : goal.returns
returns c =
    pushed_all (λ (qs : List Equation). sampler_names (map equation_view qs)) refl c.args.equations.now c.loop-q.q-index _ _ c.loop-q-test.false c.loop-q.invariant
