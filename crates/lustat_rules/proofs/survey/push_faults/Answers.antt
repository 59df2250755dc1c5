use Rattle.std.proofs.Common.{◌∙◌, List, refl, sym, ap, subst}
use Rattle.std.proofs.lemmas.Result.{IfOk-weaker}
use Rattle.lutree.specs.declared.program.TypeDeclaration.{TypeDeclaration}
use Rattle.lutree.specs.declared.program.Node.{Node}
use Rattle.lutree.specs.declared.program.Program.{Program}
use Rattle.lustat_rules.specs.Faults.{FaultAmong}
use Rattle.lustat_rules.specs.Stages.{BrokenInType, BrokenInside, BrokenIn}
use Rattle.lustat_rules.specs.AllFaults.{Gains}
use Rattle.lustat_rules.proofs.Gaining.{gains_then}
use Rattle.lustat_rules.proofs.survey.push_faults.Goals as goal

pub push_of_types-requires : goal.push_of_types-requires
push_of_types-requires g c = λ k. ((refl, tt), ap (λ (p : Program). p.types) c.requires ∙ sym (c.as_slice.ensures ∙ ap (λ (p : Program). p.types) c.program.ensures))

pub push_of_nodes-requires : goal.push_of_nodes-requires
push_of_nodes-requires g c = λ k. ((refl, tt), ap (λ (p : Program). p.nodes) c.requires ∙ sym c.scopes.ensures)

pub returns : goal.returns
returns g c =
    let s = c.args.survey.now in
    let p = c.args.catalog.now in
    let a = c.args.found.now.items in
    let b = c.push_of_types.new.found.items in
    let d = c.push_of_nodes.new.found.items in
    let InType = BrokenInType (g.S.Stage.breaks_type s) (g.S.Stage.breaks_name s) in
    let InNode = BrokenInside (g.S.Stage.breaks_node s) (g.S.Stage.breaks_declaration s) (g.S.Stage.breaks_equation s) in
    let of_types = subst (λ (ts : List TypeDeclaration). Gains (FaultAmong ts InType) a b) (c.as_slice.ensures ∙ ap (λ (q : Program). q.types) c.program.ensures) c.in_ok-push_of_types.ensures in
    IfOk-weaker c.push_of_nodes.result (λ _. Gains (FaultAmong c.scopes.result.now InNode) b d) (λ _. Gains (BrokenIn p InType InNode) a d)
    (λ _ later. gains_then (FaultAmong p.types InType) (FaultAmong p.nodes InNode) a b d of_types (subst (λ (ns : List Node). Gains (FaultAmong ns InNode) b d) c.scopes.ensures later))
    c.push_of_nodes.ensures
