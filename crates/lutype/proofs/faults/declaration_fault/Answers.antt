use Rattle.lustat_rules.specs.Faults.{DeclarationFault, DeclarationKept}
use Rattle.lustat_rules.proofs.Telling.{judged_told}
use Rattle.lutype.specs.Asked.{is_asked}
use Rattle.lutype.proofs.faults.declaration_fault.Goals as goal

pub returns : goal.returns
returns c = λ main.
    let p = c.args.catalog.now in
    let n = c.args.scope.now in
    let d = c.args.declaration.now in
    judged_told (DeclarationFault is_asked p main n c.args.place d) (DeclarationKept is_asked p main n c.args.place d) c.declaration_faults-row.result c.least_of.result c.least_of.ensures (c.declaration_faults-row.ensures main)
