use Rattle.std.proofs.Common.{◌≡◌, Some, subst}
use Rattle.std.proofs.lemmas.Result.{IfOk-weaker}
use Rattle.lutree.specs.Tree.{program_view, type_view}
use Rattle.lustat_rules.specs.Accepted.{Rule, TypeKeeps, duplicate_name}
use Rattle.lustat_rules.specs.Faults.{TypeFault, TypeKept}
use Rattle.lustat_rules.specs.declared.error.StatError.{StatError}
use Rattle.lustat_rules.specs.AllFaults.{Gains}
use Rattle.lustat_rules.proofs.Telling.{gains_only}
use Rattle.lutype.specs.Asked.{is_asked}
use Rattle.lutype.proofs.Places.{name_only}
use Rattle.lutype.proofs.survey.NameStageSurvey.push_type_faults.Goals as goal

pub returns : goal.returns
returns c =
    let p = c.args.self.now.catalog.now in
    let main = c.args.self.now.main.now in
    let a = c.args.found.now.items in
    let b = c.push_fault.new.found.items in
    let i = c.args.place in
    let t = c.args.declaration.now in
    let told = c.type_fault-told.result in
    let K : Rule → Type 0 = λ rule. TypeKeeps (program_view p) main rule i (type_view t) in
    IfOk-weaker c.push_fault.result (λ _. Gains (λ e. told ≡ Some e) a b) (λ _. Gains (TypeFault is_asked p main i t) a b)
    (λ _ gained. gains_only (TypeFault is_asked p main i t) (TypeKept is_asked p main i t) told duplicate_name t.byte a b (name_only t.byte K tt tt tt tt tt tt tt tt) (c.type_fault-told.ensures main) gained)
    c.push_fault.ensures
