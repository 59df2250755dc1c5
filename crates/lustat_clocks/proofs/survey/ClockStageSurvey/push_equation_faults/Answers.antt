use Rattle.std.proofs.Common.{Some, Contains}
use Rattle.std.proofs.lemmas.Result.{IfOk-weaker}
use Rattle.lustat_rules.specs.declared.error.StatError.{StatError}
use Rattle.lustat_rules.specs.Faults.{EquationFault, EquationKept}
use Rattle.lustat_rules.specs.AllFaults.{Gains}
use Rattle.lustat_rules.proofs.Telling.{gains_told}
use Rattle.lustat_clocks.specs.Asked.{is_asked}
use Rattle.lustat_clocks.proofs.survey.ClockStageSurvey.push_equation_faults.Goals as goal

pub returns : goal.returns
returns c =
    let p = c.args.self.now.catalog.now in
    let main = c.args.self.now.main.now in
    let n = c.args.scope.now in
    let q = c.args.equation.now in
    let a = c.args.found.now.items in
    let b = c.push_each.new.found.items in
    let row = c.equation_faults-row.result in
    IfOk-weaker c.push_each.result (λ _. Gains (λ e. Contains row (Some e)) a b) (λ _. Gains (EquationFault is_asked p main n c.args.place q) a b)
    (λ _ gained. gains_told (EquationFault is_asked p main n c.args.place q) (EquationKept is_asked p main n c.args.place q) row a b c.equation_faults-row.ensures gained)
    c.push_each.ensures
