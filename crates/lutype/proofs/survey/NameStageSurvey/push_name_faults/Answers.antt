use Rattle.std.proofs.Common.{◌≡◌, Some, subst}
use Rattle.std.proofs.lemmas.Result.{IfOk-weaker}
use Rattle.lutree.specs.Tree.{program_view, type_view}
use Rattle.lustat_rules.specs.Accepted.{Rule, NameKeeps, duplicate_name}
use Rattle.lustat_rules.specs.Faults.{NameFault, NameKept}
use Rattle.lustat_rules.specs.declared.error.StatError.{StatError}
use Rattle.lustat_rules.specs.AllFaults.{Gains}
use Rattle.lustat_rules.proofs.Telling.{gains_only}
use Rattle.lutype.specs.Asked.{is_asked}
use Rattle.lutype.proofs.Places.{name_only}
use Rattle.lutype.proofs.survey.NameStageSurvey.push_name_faults.Goals as goal

pub returns : goal.returns
returns c =
    let p = c.args.self.now.catalog.now in
    let main = c.args.self.now.main.now in
    let a = c.args.found.now.items in
    let b = c.push_fault.new.found.items in
    let i = c.args.place in
    let t = c.args.declaration.now in
    let j = c.args.number in
    let x = c.args.name.now in
    let told = c.label_fault-told.result in
    let K : Rule → Type 0 = λ rule. NameKeeps (program_view p) main rule i (type_view t) j x.name in
    IfOk-weaker c.push_fault.result (λ _. Gains (λ e. told ≡ Some e) a b) (λ _. Gains (NameFault is_asked p main i t j x) a b)
    (λ _ gained. gains_only (NameFault is_asked p main i t j x) (NameKept is_asked p main i t j x) told duplicate_name x.byte a b (name_only x.byte K tt tt tt tt tt tt tt tt) (c.label_fault-told.ensures main) gained)
    c.push_fault.ensures
