use Rattle.std.proofs.Common.{refl}
use Rattle.lutree.specs.Tree.{program_view, node_view, equation_view}
use Rattle.lustat_rules.specs.Accepted.{Rule, EquationKeeps, unknown_name, unknown_node, type_mismatch, wrong_arity, defined_twice, bad_merge}
use Rattle.lustat_rules.specs.declared.error.StatError.TheVariants.{UnknownName, UnknownNode, TypeMismatch, WrongArity, DefinedTwice, BadMerge}
use Rattle.lustat_rules.proofs.Telling.{told_reported}
use Rattle.lutype.proofs.Places.{equation_told}
use Rattle.lutype.proofs.faults.equation_faults.Goals as goal

pub returns : goal.returns
returns c = λ main.
    let n = c.args.scope.now in
    let q = c.args.equation.now in
    let K : Rule → Type 0 = λ rule. EquationKeeps (program_view c.args.catalog.now) main rule (node_view n) c.args.place (equation_view q) in
    let a = c.reported-unknown_name.result in
    let b = c.reported-unknown_node.result in
    let d = c.reported-mismatch.result in
    let e = c.reported-arity.result in
    let f = c.reported-twice.result in
    let g = c.reported-merge.result in
    equation_told q.byte K a b d e f g tt tt tt
    (told_reported unknown_name q.byte (K unknown_name) c.names_are_known-are_known.result (UnknownName q.byte) a c.reported-unknown_name.ensures refl refl c.names_are_known-are_known.ensures)
    (told_reported unknown_node q.byte (K unknown_node) c.calls_are_known-are_nodes.result (UnknownNode q.byte) b c.reported-unknown_node.ensures refl refl c.calls_are_known-are_nodes.ensures)
    (told_reported type_mismatch q.byte (K type_mismatch) c.is_typed-is_typed.result (TypeMismatch q.byte) d c.reported-mismatch.ensures refl refl c.is_typed-is_typed.ensures)
    (told_reported wrong_arity q.byte (K wrong_arity) c.arities_are_right-are_right.result (WrongArity q.byte) e c.reported-arity.ensures refl refl c.arities_are_right-are_right.ensures)
    (told_reported defined_twice q.byte (K defined_twice) c.defines_anew-is_anew.result (DefinedTwice q.byte) f c.reported-twice.ensures refl refl c.defines_anew-is_anew.ensures)
    (told_reported bad_merge q.byte (K bad_merge) c.merges_are_whole-are_whole.result (BadMerge q.byte) g c.reported-merge.ensures refl refl c.merges_are_whole-are_whole.ensures)
