use Rattle.lustat_rules.proofs.Telling.{judged_told}
use Rattle.lustat_init.specs.Faults.{EquationKept, EquationFault}
use Rattle.lustat_init.proofs.search.ClassStageStage.equation_fault.Goals as goal

pub equation_faults-row-requires : goal.equation_faults-row-requires
equation_faults-row-requires c = c.requires.serves

pub returns : goal.returns
returns c =
    let n = c.args.scope.now in
    let q = c.args.equation.now in
    judged_told (EquationFault n q) (EquationKept n q) c.equation_faults-row.result c.least_of.result c.least_of.ensures c.equation_faults-row.ensures
