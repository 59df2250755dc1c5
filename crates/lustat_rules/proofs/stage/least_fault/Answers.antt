use Rattle.std.proofs.Common.{◌∙◌, List, refl, sym, ap, subst}
use Rattle.lutree.specs.declared.program.TypeDeclaration.{TypeDeclaration}
use Rattle.lutree.specs.declared.program.Node.{Node}
use Rattle.lutree.specs.declared.program.Program.{Program}
use Rattle.lustat_rules.specs.Faults.{IsJudged, FaultAmong, KeptAmong}
use Rattle.lustat_rules.proofs.Judging.{judged_joined}
use Rattle.lustat_rules.specs.Stages.{BrokenInType, KeptInType, BrokenInside, KeptInside}
use Rattle.lustat_rules.proofs.stage.least_fault.Goals as goal

pub types_fault-of_types-requires : goal.types_fault-of_types-requires
types_fault-of_types-requires g c = λ k. ((refl, tt), ap (λ (p : Program). p.types) c.requires ∙ sym (c.as_slice.ensures ∙ ap (λ (p : Program). p.types) c.program.ensures))

pub nodes_fault-requires : goal.nodes_fault-requires
nodes_fault-requires g c = λ k. ((refl, tt), ap (λ (p : Program). p.nodes) c.requires ∙ sym c.scopes.ensures)

pub returns : goal.returns
returns g c =
    let s = c.args.stage.now in
    let p = c.args.catalog.now in
    let InType = BrokenInType (g.S.Stage.breaks_type s) (g.S.Stage.breaks_name s) in
    let TypeKept = KeptInType (g.S.Stage.keeps_type s) (g.S.Stage.keeps_name s) in
    let InNode = BrokenInside (g.S.Stage.breaks_node s) (g.S.Stage.breaks_declaration s) (g.S.Stage.breaks_equation s) in
    let NodeKept = KeptInside (g.S.Stage.keeps_node s) (g.S.Stage.keeps_declaration s) (g.S.Stage.keeps_equation s) in
    let of_types = subst (λ (ts : List TypeDeclaration). IsJudged (FaultAmong ts InType) (KeptAmong ts TypeKept) c.types_fault-of_types.result)
    (c.as_slice.ensures ∙ ap (λ (p : Program). p.types) c.program.ensures) c.types_fault-of_types.ensures in
    let of_nodes = subst (λ (ns : List Node). IsJudged (FaultAmong ns InNode) (KeptAmong ns NodeKept) c.in_ok-of_nodes.of_nodes) c.scopes.ensures c.in_ok-of_nodes.ensures in
    judged_joined (FaultAmong p.types InType) (FaultAmong p.nodes InNode) (KeptAmong p.types TypeKept) (KeptAmong p.nodes NodeKept) c.types_fault-of_types.result c.in_ok-of_nodes.of_nodes c.lesser.result
    c.lesser.ensures of_types of_nodes
