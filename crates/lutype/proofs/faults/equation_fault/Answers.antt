use Rattle.lustat_rules.specs.Faults.{EquationFault, EquationKept}
use Rattle.lustat_rules.proofs.Telling.{judged_told}
use Rattle.lutype.specs.Asked.{is_asked}
use Rattle.lutype.proofs.faults.equation_fault.Goals as goal

pub returns : goal.returns
returns c = λ main.
    let p = c.args.catalog.now in
    let n = c.args.scope.now in
    let q = c.args.equation.now in
    judged_told (EquationFault is_asked p main n c.args.place q) (EquationKept is_asked p main n c.args.place q) c.equation_faults-row.result c.least_of.result c.least_of.ensures (c.equation_faults-row.ensures main)
