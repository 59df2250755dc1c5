use Rattle.std.proofs.Common.{◌⊎◌}
use Rattle.lustat_rules.specs.declared.error.StatError.{StatError}
use Rattle.lustat_rules.specs.Faults.{declared_in, FaultAmong, KeptAmong}
use Rattle.lustat_rules.proofs.Judging.{judged_joined}
use Rattle.lustat_rules.proofs.stage.node_fault.Goals as goal

pub returns : goal.returns
returns g c =
    let s = c.args.stage.now in
    let i = c.args.place in
    let n = c.args.scope.now in
    let S : StatError → Type 0 = g.S.Stage.breaks_node s i n in
    let T : StatError → Type 0 = FaultAmong (declared_in n) (g.S.Stage.breaks_declaration s n) in
    let U : StatError → Type 0 = FaultAmong n.equations (g.S.Stage.breaks_equation s n) in
    let P : Type 0 = g.S.Stage.keeps_node s i n in
    let Q : Type 0 = KeptAmong (declared_in n) (g.S.Stage.keeps_declaration s n) in
    let R : Type 0 = KeptAmong n.equations (g.S.Stage.keeps_equation s n) in
    judged_joined S (λ e. T e ⊎ U e) P (Q × R) c.node_fault-of_node.result c.lesser.result c.lesser-2.result c.lesser-2.ensures c.node_fault-of_node.ensures
    (judged_joined T U Q R c.declarations_fault-of_declarations.result c.equations_fault-of_equations.result c.lesser.result c.lesser.ensures
    c.declarations_fault-of_declarations.ensures c.equations_fault-of_equations.ensures)
