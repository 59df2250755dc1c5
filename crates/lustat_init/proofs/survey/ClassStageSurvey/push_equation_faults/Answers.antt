use Rattle.std.proofs.Common.{Some, Contains}
use Rattle.std.proofs.lemmas.Result.{IfOk-weaker}
use Rattle.lustat_rules.specs.AllFaults.{Gains}
use Rattle.lustat_rules.proofs.Telling.{gains_told}
use Rattle.lustat_init.specs.Faults.{EquationKept, EquationFault}
use Rattle.lustat_init.proofs.survey.ClassStageSurvey.push_equation_faults.Goals as goal

pub equation_faults-row-requires : goal.equation_faults-row-requires
equation_faults-row-requires c = c.requires.serves

pub returns : goal.returns
returns c =
    let n = c.args.scope.now in
    let q = c.args.equation.now in
    let a = c.args.found.now.items in
    let b = c.push_each.new.found.items in
    let row = c.equation_faults-row.result in
    IfOk-weaker c.push_each.result (λ _. Gains (λ e. Contains row (Some e)) a b) (λ _. Gains (EquationFault n q) a b)
    (λ _ gained. gains_told (EquationFault n q) (EquationKept n q) row a b c.equation_faults-row.ensures gained)
    c.push_each.ensures
