use Rattle.std.proofs.Common.{◌≡◌, Some, subst}
use Rattle.std.proofs.lemmas.Result.{IfOk-weaker}
use Rattle.lutree.specs.declared.program.Node.{Node}
use Rattle.lutree.specs.Tree.{program_view, node_view}
use Rattle.lustat_rules.specs.Accepted.{Rule, NodeKeeps, duplicate_name}
use Rattle.lustat_rules.specs.Faults.{IsJudged, NodeFault, NodeKept}
use Rattle.lustat_rules.specs.declared.error.StatError.{StatError}
use Rattle.lustat_rules.specs.AllFaults.{Gains}
use Rattle.lustat_rules.proofs.Telling.{gains_only}
use Rattle.lutype.specs.Asked.{is_asked}
use Rattle.lutype.proofs.Places.{name_only}
use Rattle.lutype.proofs.survey.NameStageSurvey.push_node_faults.Goals as goal

pub returns : goal.returns
returns c =
    let p = c.args.self.now.catalog.now in
    let main = c.args.self.now.main.now in
    let a = c.args.found.now.items in
    let b = c.push_fault.new.found.items in
    let i = c.args.place in
    let n = c.args.scope.now in
    let told = c.name_fault-told.result in
    let K : Rule → Type 0 = λ rule. NodeKeeps (program_view p) main rule i (node_view n) in
    IfOk-weaker c.push_fault.result (λ _. Gains (λ e. told ≡ Some e) a b) (λ _. Gains (NodeFault is_asked p main i n) a b)
    (λ _ gained. gains_only (NodeFault is_asked p main i n) (NodeKept is_asked p main i n) told duplicate_name n.byte a b (name_only n.byte K tt tt tt tt tt tt tt tt) (subst (λ (m : Node). IsJudged (NodeFault is_asked p main i m) (NodeKept is_asked p main i m) told) c.node.ensures (c.name_fault-told.ensures main)) gained)
    c.push_fault.ensures
