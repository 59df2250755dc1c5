use Rattle.std.proofs.Common.{Some, Contains}
use Rattle.std.proofs.lemmas.Result.{IfOk-weaker}
use Rattle.lustat_rules.specs.declared.error.StatError.{StatError}
use Rattle.lustat_rules.specs.Faults.{DeclarationFault, DeclarationKept}
use Rattle.lustat_rules.specs.AllFaults.{Gains}
use Rattle.lustat_rules.proofs.Telling.{gains_told}
use Rattle.lutype.specs.Asked.{is_asked}
use Rattle.lutype.proofs.survey.NameStageSurvey.push_declaration_faults.Goals as goal

pub returns : goal.returns
returns c =
    let p = c.args.self.now.catalog.now in
    let main = c.args.self.now.main.now in
    let n = c.args.scope.now in
    let d = c.args.declaration.now in
    let a = c.args.found.now.items in
    let b = c.push_each.new.found.items in
    let row = c.declaration_faults-row.result in
    IfOk-weaker c.push_each.result (λ _. Gains (λ e. Contains row (Some e)) a b) (λ _. Gains (DeclarationFault is_asked p main n c.args.place d) a b)
    (λ _ gained. gains_told (DeclarationFault is_asked p main n c.args.place d) (DeclarationKept is_asked p main n c.args.place d) row a b (c.declaration_faults-row.ensures main) gained)
    c.push_each.ensures
