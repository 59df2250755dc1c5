use Rattle.std.proofs.Common.{refl}
use Rattle.lutree.specs.Tree.{program_view, node_view, declaration_view}
use Rattle.lustat_rules.specs.Accepted.{Rule, DeclarationKeeps, duplicate_name, unknown_name, undefined}
use Rattle.lustat_rules.specs.declared.error.StatError.TheVariants.{DuplicateName, UnknownName, Undefined}
use Rattle.lustat_rules.proofs.Telling.{told_reported}
use Rattle.lutype.proofs.Places.{declaration_told}
use Rattle.lutype.proofs.faults.declaration_faults.Goals as goal

pub returns : goal.returns
returns c = λ main.
    let n = c.args.scope.now in
    let d = c.args.declaration.now in
    let K : Rule → Type 0 = λ rule. DeclarationKeeps (program_view c.args.catalog.now) main rule (node_view n) c.args.place (declaration_view d) in
    declaration_told d.byte K c.reported-duplicate.result c.reported-unknown.result c.reported-undefined.result tt tt tt tt tt tt
    (told_reported duplicate_name d.byte (K duplicate_name) c.is_new_variable-is_new.result (DuplicateName d.byte) c.reported-duplicate.result c.reported-duplicate.ensures refl refl c.is_new_variable-is_new.ensures)
    (told_reported unknown_name d.byte (K unknown_name) c.declaration_is_known-is_known.result (UnknownName d.byte) c.reported-unknown.result c.reported-unknown.ensures refl refl c.declaration_is_known-is_known.ensures)
    (told_reported undefined d.byte (K undefined) c.is_defined-is_defined.result (Undefined d.byte) c.reported-undefined.result c.reported-undefined.ensures refl refl c.is_defined-is_defined.ensures)
