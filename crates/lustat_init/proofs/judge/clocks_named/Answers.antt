use Rattle.std.proofs.Common.{◌≡◌, ◌∙◌, ◌++◌, ℕ, List, map, ap}
use Rattle.std.proofs.lemmas.Result.{IfOk-weaker}
use Rattle.lutree.specs.declared.program.Equation.{Equation}
use Rattle.lutree.specs.declared.program.Node.{Node}
use Rattle.lutree.specs.Tree.{equation_view, node_view}
use Rattle.lustat_rules.specs.Scope.{declarations_of}
use Rattle.lustat_init.specs.Judged.{spelled, clock_names, sampler_names, clock_variables}
use Rattle.lustat_rules.proofs.Lent.{same_lent}
use Rattle.lustat_init.proofs.judge.clocks_named.Goals as goal

pub returns : goal.returns
returns c =
    let n = c.args.scope.now in
    let declared = c.in_ok-names.ensures ∙ ap clock_names (same_lent c.declarations.result.now n c.declarations.ensures) in
    let made : List (List ℕ) = spelled c.push_samplers_of_equations.new.names.items in
    let all : List Equation = c.as_slice.result.now in
    let own : all ≡ n.equations = c.as_slice.ensures ∙ ap (λ (m : Node). m.equations) c.node.ensures in
    let e : made ≡ clock_variables (node_view n) =
    c.in_ok-push_samplers_of_equations.ensures
    ∙ ap (λ l. l ++ sampler_names (map equation_view all)) declared
    ∙ ap (λ qs. clock_names (declarations_of (node_view n)) ++ sampler_names (map equation_view qs)) own in
    IfOk-weaker c.new.result (λ places. places ≡ made) (λ places. places ≡ clock_variables (node_view n)) (λ places f. f ∙ e) c.new.ensures
