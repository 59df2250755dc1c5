use Rattle.std.proofs.Common.{refl}
use Rattle.lutree.specs.Tree.{program_view, node_view, equation_view}
use Rattle.lustat_rules.specs.Accepted.{Rule, EquationKeeps, clock_mismatch, not_a_clock, clocked_parameter}
use Rattle.lustat_rules.specs.declared.error.StatError.TheVariants.{ClockMismatch, NotAClock, ClockedParameter}
use Rattle.lustat_rules.proofs.Telling.{told_reported}
use Rattle.lustat_clocks.proofs.Places.{equation_told}
use Rattle.lustat_clocks.proofs.fault.equation_faults.Goals as goal

pub returns : goal.returns
returns c =
    let program = c.args.catalog.now in
    let main = c.args.main.now in
    let n = c.args.scope.now in
    let q = c.args.equation.now in
    let K : Rule → Type 0 = λ rule. EquationKeeps (program_view program) main rule (node_view n) c.args.place (equation_view q) in
    let a = c.reported-mismatch.result in
    let b = c.reported-clock.result in
    let e = c.reported-parameter.result in
    equation_told q.byte K a b e tt
    (told_reported clock_mismatch q.byte (K clock_mismatch) c.agrees-agrees.result (ClockMismatch q.byte) a c.reported-mismatch.ensures refl refl c.agrees-agrees.ensures)
    (told_reported not_a_clock q.byte (K not_a_clock) c.names_clocks-names_clocks.result (NotAClock q.byte) b c.reported-clock.ensures refl refl c.names_clocks-names_clocks.ensures)
    (told_reported clocked_parameter q.byte (K clocked_parameter) c.calls_unclocked-calls_unclocked.result (ClockedParameter q.byte) e c.reported-parameter.ensures refl refl
    (c.calls_unclocked-calls_unclocked.ensures (program_view program) c.requires))
