use Rattle.std.proofs.Common.{refl}
use Rattle.lutree.specs.Tree.{program_view, type_view}
use Rattle.lustat_rules.specs.Accepted.{Rule, TypeKeeps, duplicate_name}
use Rattle.lustat_rules.specs.declared.error.StatError.TheVariants.{DuplicateName}
use Rattle.lustat_rules.proofs.Judging.{judged_reported}
use Rattle.lutype.proofs.Places.{name_judged}
use Rattle.lutype.proofs.faults.type_fault.Goals as goal

pub returns : goal.returns
returns c = λ main.
    let t = c.args.declaration.now in
    let K : Rule → Type 0 = λ rule. TypeKeeps (program_view c.args.catalog.now) main rule c.args.place (type_view t) in
    name_judged t.byte K c.reported.result tt tt tt tt tt tt tt tt
    (judged_reported duplicate_name t.byte (K duplicate_name) c.is_new_type-is_new.result (DuplicateName t.byte) c.reported.result c.reported.ensures refl refl c.is_new_type-is_new.ensures)
