use Rattle.std.proofs.Common.{◌∙◌, refl, ap, sym}
use Rattle.std.specs.Prelude.{slice_get}
use Rattle.lutree.specs.Tree.{program_view, node_view, declaration_view}
use Rattle.lustat_rules.specs.Accepted.{Rule, DeclarationKeeps, not_a_clock, clocked_parameter, hidden_clock}
use Rattle.lustat_rules.specs.declared.error.StatError.TheVariants.{NotAClock, ClockedParameter, HiddenClock}
use Rattle.lustat_rules.specs.Faults.{declared_in}
use Rattle.lustat_rules.proofs.Telling.{told_reported}
use Rattle.lustat_rules.proofs.Declared.{view_of_declared}
use Rattle.lustat_rules.proofs.Keeping.{item_view}
use Rattle.lustat_clocks.proofs.Places.{declaration_told}
use Rattle.lustat_clocks.proofs.fault.declaration_faults.Goals as goal

pub is_clock-is_clock-requires-clause-place : goal.is_clock-is_clock-requires-clause-place
is_clock-is_clock-requires-clause-place c =
    sym (ap (λ l. slice_get l c.args.place) (view_of_declared c.args.scope.now)) ∙ item_view declaration_view (declared_in c.args.scope.now) c.args.place c.args.declaration.now c.requires.at

pub returns : goal.returns
returns c = λ program.
    let main = c.args.main.now in
    let n = c.args.scope.now in
    let d = c.args.declaration.now in
    let K : Rule → Type 0 = λ rule. DeclarationKeeps (program_view program) main rule (node_view n) c.args.place (declaration_view d) in
    let a = c.reported-clock.result in
    let b = c.reported-parameter.result in
    let e = c.reported-hidden.result in
    declaration_told d.byte K a b e tt
    (told_reported not_a_clock d.byte (K not_a_clock) c.is_clock-is_clock.result (NotAClock d.byte) a c.reported-clock.ensures refl refl c.is_clock-is_clock.ensures)
    (told_reported clocked_parameter d.byte (K clocked_parameter) c.is_unclocked-is_unclocked.result (ClockedParameter d.byte) b c.reported-parameter.ensures refl refl c.is_unclocked-is_unclocked.ensures)
    (told_reported hidden_clock d.byte (K hidden_clock) c.is_visible-is_visible.result (HiddenClock d.byte) e c.reported-hidden.ensures refl refl c.is_visible-is_visible.ensures)
