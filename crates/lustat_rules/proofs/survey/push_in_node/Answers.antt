use Rattle.std.proofs.Common.{◌⊎◌}
use Rattle.std.proofs.lemmas.Result.{IfOk-weaker}
use Rattle.lustat_rules.specs.declared.error.StatError.{StatError}
use Rattle.lustat_rules.specs.Faults.{declared_in, FaultAmong}
use Rattle.lustat_rules.specs.Stages.{BrokenInside}
use Rattle.lustat_rules.specs.AllFaults.{Gains}
use Rattle.lustat_rules.proofs.Gaining.{gains_then}
use Rattle.lustat_rules.proofs.survey.push_in_node.Goals as goal

pub returns : goal.returns
returns g c =
    let s = c.args.survey.now in
    let i = c.args.place in
    let n = c.args.scope.now in
    let a = c.args.found.now.items in
    let b = c.push_node_faults.new.found.items in
    let d = c.push_of_declarations.new.found.items in
    let f = c.push_of_equations.new.found.items in
    let S : StatError → Type 0 = g.S.Stage.breaks_node s i n in
    let T : StatError → Type 0 = FaultAmong (declared_in n) (g.S.Stage.breaks_declaration s n) in
    let U : StatError → Type 0 = FaultAmong n.equations (g.S.Stage.breaks_equation s n) in
    IfOk-weaker c.push_of_equations.result (λ _. Gains U d f) (λ _. Gains (BrokenInside (g.S.Stage.breaks_node s) (g.S.Stage.breaks_declaration s) (g.S.Stage.breaks_equation s) i n) a f)
    (λ _ later. gains_then S (λ e. T e ⊎ U e) a b f c.in_ok-push_node_faults.ensures (gains_then T U b d f c.in_ok-push_of_declarations.ensures later))
    c.push_of_equations.ensures
