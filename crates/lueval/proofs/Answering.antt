-- What the evaluator may answer from where it stands.
use Rattle.std.proofs.Common.{◌≡◌, ℕ, ◌+◌, ◌<◌, Bool, List, length, set, Some, false, true, refl, sym, ap, subst, ◌∙◌, arith}
use Rattle.std.specs.Prelude.{All, option_and_then, unwrap_or}
use Rattle.std.proofs.lemmas.Option.{none-some, same_Some, slice_get_within, slice_get-get_or}
use Rattle.luflow.specs.declared.data.Datum.{Datum}
use Rattle.luflow.specs.declared.data.Status.{Status}
use Rattle.luflow.specs.declared.data.Status.TheVariants.{Present}
use Rattle.luflow.specs.declared.form.Form.{Form}
use Rattle.luflow.specs.declared.form.Clock.{Clock}
use Rattle.luflow.specs.declared.data.Datum.TheVariants as datum
use Rattle.luflow.specs.declared.form.FaultKind.{FaultKind}
use Rattle.luflow.specs.declared.form.Flow.{Flow}
use Rattle.luflow.specs.declared.form.Outcome.TheVariants.{Gives, Stuck}
use Rattle.luflow.specs.Program.{FlatView, InputsView, form_reads, clock_reads}
use Rattle.luflow.specs.Streams.{Known, Streams, Stream, clock_at}
use Rattle.luflow.specs.Faults.{IsFaultOn}
use Rattle.luflow.specs.Messages.{marks}
use Rattle.luflow.specs.Values.{value_of, value_at}
use Rattle.luflow.specs.Solution.{IsSolution, solution}
use Rattle.luflow.specs.FlatLaws.{HasOneSolution}
use Rattle.luflow.specs.Flats.{IsFlat}
use Rattle.luflow.specs.Sound.{IsFit}
use Rattle.luflow.proofs.Solutions.{IsSolution-solution, solutions_same, all_left}
use Rattle.luflow.proofs.FaultsFound.{is_fault}
use Rattle.luflow.proofs.Tidied.{keeps_types}
use Rattle.lueval_lines.specs.declared.cell.Cell.{Cell}
use Rattle.lueval_lines.specs.declared.cell.Cell.TheVariants as cell
use Rattle.lueval_lines.specs.declared.cell.Answer.{Answer}
use Rattle.lueval_lines.specs.declared.cell.Answer.TheVariants as answer
use Rattle.lueval_lines.specs.declared.line.Line.{Line}
use Rattle.lueval.specs.declared.faults.Reads.{Reads}
use Rattle.lueval.specs.declared.machine.Machine.{Machine}
use Rattle.lueval_lines.specs.Frames.{clock_in, IsShown}
use Rattle.lueval_lines.specs.Cells.{status_of, statuses, outcome_of, given_at, view_of, clock_of, IsLine}
use Rattle.lueval.specs.Reads as reading
use Rattle.lueval.specs.Whole.{AreStreams, AreMeant, HasNoFault, KeepsAllTypes}
use Rattle.lueval.specs.Steps.{Stands, StandsAt, Computes, IsDatumShown, IsFirst}
use Rattle.lueval_lines.proofs.Seeing.{statuses_set}
use Rattle.lueval_lines.proofs.Faults.{fault_broken}
use Rattle.lueval.proofs.Steps.{none_before, clock_here, value_here, not_stuck, step_absent, step_gives, reads_shown}

pub one_solution : (flat : FlatView) (inputs : InputsView) → IsFlat flat → HasOneSolution flat inputs
one_solution flat inputs is_flat = record {
  exists = IsSolution-solution flat inputs is_flat.ordered;
  only = λ σ s i t li. solutions_same flat inputs σ (solution flat inputs) is_flat.ordered s (IsSolution-solution flat inputs is_flat.ordered) i t li;
}

pub all_types : (flat : FlatView) (inputs : InputsView) → IsFlat flat → IsFit flat inputs → KeepsAllTypes flat inputs
all_types flat inputs is_flat fit σ sol i t flow is lt = keeps_types flat inputs σ is_flat.ordered is_flat.sound fit sol i t flow is lt

pub meant : (flat : FlatView) (inputs : InputsView) (streams : List (List Status)) → AreStreams flat inputs streams → AreMeant flat inputs streams
meant flat inputs streams are program main agrees σ s v x statuses vx there =
    let w = agrees.to_flat σ s in
    are.each w.0 w.1 v statuses there ∙ ap (λ (τ : Stream). marks τ inputs.instants) (w.2 v x vx)

-- behind the last instant there was no fault
pub no_fault : (flat : FlatView) (inputs : InputsView) (shown : List Status) (lasts : List Cell) → IsFlat flat → IsFit flat inputs → Stands flat inputs (solution flat inputs) shown lasts inputs.instants 0 → HasNoFault flat inputs
no_fault flat inputs shown lasts is_flat fit stands σ sol i t kind lt f =
    let one = IsSolution-solution flat inputs is_flat.ordered in
    let li = slice_get_within flat.flows i f.flow f.there in
    stands.sound i t li lt (solutions_same flat inputs (solution flat inputs) σ is_flat.ordered one sol i t li ∙ fault_broken flat inputs σ is_flat fit sol i t kind f)

-- an operand that is shown, by what it has
shown_datum : (σ : Streams) (shown : List Status) (t a : ℕ) (x : Datum) → IsShown σ shown t a → σ a t ≡ Known (Present x) → IsDatumShown σ shown t a
shown_datum σ shown t a x w e =
    let known : Known w.status ≡ Known (Present x) = sym w.is ∙ e in
    let same : w.status ≡ Present x = cc in
    record { datum = x; there = w.there ∙ ap (λ (s : Status). Some s) same; is = e }

-- an operator that is at fault reads operands that are shown
abbrev ReadsShown : Streams → List Status → ℕ → Form → Type 0
ReadsShown σ shown t form = (r : Reads) × (reading.form_reads form ≡ Some r) × IsDatumShown σ shown t r.left × ((b : ℕ) → r.right ≡ Some b → IsDatumShown σ shown t b)

operands_shown : (σ : Streams) (shown : List Status) (t : ℕ) (kind : FaultKind) (form : Form) → IsFaultOn σ t form kind → All (IsShown σ shown t) (form_reads form) → ReadsShown σ shown t form
operands_shown σ shown t _ _ (IsFaultOn.OnUnary op a x kind operand fault) h =
    (reading.one a, refl, shown_datum σ shown t a x (h 0 0 (omega arith)) operand, λ b e. absurd (none-some b e))
operands_shown σ shown t _ _ (IsFaultOn.OnBinary op a c x y kind left right fault) h =
    (reading.two a c, refl, shown_datum σ shown t a x (h 0 0 (omega arith)) left, λ b e. subst (IsDatumShown σ shown t) (same_Some c b e) (shown_datum σ shown t c y (h 1 0 (omega arith)) right))

-- what the machine's answers for the line of rank p say of the solution
module _ (flat : FlatView) (inputs : InputsView) (machine : Machine) (t : ℕ) (branches : List ℕ) (p : ℕ) (line : Line) (is_flat : IsFlat flat) (fit : IsFit flat inputs) (stands : StandsAt flat inputs machine t p) (lp : p < length flat.order) (lt : t < inputs.instants) (at : IsLine flat branches p line) where
  abbrev pub σ : Streams
  σ = solution flat inputs

  one_is : IsSolution flat inputs σ
  one_is = IsSolution-solution flat inputs is_flat.ordered

  abbrev pub shown : List Status
  shown = statuses machine.shown.items

  abbrev pub lasts : List Cell
  lasts = machine.lasts.items

  clock_is : (b : Bool) → b ≡ unwrap_or (clock_in shown (clock_of line.clock)) false → clock_at inputs σ at.flow.clock t ≡ Some b
  clock_is b e =
      clock_here flat inputs σ is_flat fit one_is shown lasts t p stands line.place at.flow lp at.place at.there lt
      ∙ ap (λ (k : Clock). Some (unwrap_or (clock_in shown k) false)) (sym at.clock) ∙ ap (λ (x : Bool). Some x) (sym e)

  value_is : (a : Answer) → Computes inputs machine t branches line a → value_at inputs σ at.flow.clock at.flow.form t ≡ outcome_of a
  value_is a c =
      value_here flat inputs σ is_flat fit one_is shown lasts t p stands line.place at.flow lp at.place at.there
      ∙ ap (λ (f : Form). value_of f (view_of (given_at inputs t) shown lasts line.place)) (sym at.form) ∙ sym c

  pub absent_next : false ≡ unwrap_or (clock_in shown (clock_of line.clock)) false → Stands flat inputs σ (statuses (set machine.shown.items line.place cell.Absent)) lasts t (p + 1)
  absent_next off =
      subst (λ (xs : List Status). Stands flat inputs σ xs lasts t (p + 1)) (sym (statuses_set machine.shown.items line.place cell.Absent))
      (step_absent flat inputs σ is_flat fit one_is shown lasts t p stands line.place at.flow lp at.place at.there lt (ap (λ (k : Clock). unwrap_or (clock_in shown k) false) (sym at.clock) ∙ sym off))

  pub never_stuck : (a : Answer) → outcome_of a ≡ Stuck → true ≡ unwrap_or (clock_in shown (clock_of line.clock)) false → Computes inputs machine t branches line a → ⊥
  never_stuck a e on c = not_stuck flat inputs σ is_flat fit one_is shown lasts t p stands line.place at.flow lp at.place at.there lt (clock_is true on) (value_is a c ∙ e)

  present : (c : Cell) (d : Datum) → status_of c ≡ Present d → true ≡ unwrap_or (clock_in shown (clock_of line.clock)) false → value_at inputs σ at.flow.clock at.flow.form t ≡ Gives d → Stands flat inputs σ (statuses (set machine.shown.items line.place c)) lasts t (p + 1)
  present c d e on v =
      subst (λ (xs : List Status). Stands flat inputs σ xs lasts t (p + 1)) (sym (statuses_set machine.shown.items line.place c ∙ ap (set shown line.place) e))
      (step_gives flat inputs σ is_flat fit one_is shown lasts t p stands line.place at.flow d lp at.place at.there (clock_is true on) v)

  pub gives_next : (c : Cell) → true ≡ unwrap_or (clock_in shown (clock_of line.clock)) false → Computes inputs machine t branches line (answer.Gives c) → Stands flat inputs σ (statuses (set machine.shown.items line.place c)) lasts t (p + 1)
  gives_next cell.Absent on c = absurd (never_stuck (answer.Gives cell.Absent) refl on c)
  gives_next cell.Nil on c = present cell.Nil datum.Nil refl on (value_is (answer.Gives cell.Nil) c)
  gives_next (cell.Truth b) on c = present (cell.Truth b) (datum.Bool b) refl on (value_is (answer.Gives (cell.Truth b)) c)
  gives_next (cell.Number n) on c = present (cell.Number n) (datum.Int n) refl on (value_is (answer.Gives (cell.Number n)) c)
  gives_next (cell.Name k) on c = present (cell.Name k) (datum.Name k) refl on (value_is (answer.Gives (cell.Name k)) c)

  -- a fault at hand is the first
  pub first_here : (kind : FaultKind) → true ≡ unwrap_or (clock_in shown (clock_of line.clock)) false → Computes inputs machine t branches line (answer.Faults kind) → IsFirst flat inputs shown t p kind
  first_here kind on c =
      let i = line.place in
      let f = is_fault flat inputs σ i t kind at.flow at.there (clock_is true on) (value_is (answer.Faults kind) c) in
      let all = all_left (IsShown σ shown t) (form_reads f.flow.form) (clock_reads f.flow.clock) (reads_shown flat inputs σ is_flat fit one_is shown lasts t p stands i f.flow lp at.place f.there) in
      let operands = operands_shown σ shown t kind f.flow.form f.fault all in
      record {
        shown_len = stands.shown_len;
        place = i;
        ranked = slice_get-get_or flat.order p 0 lp ∙ ap (λ (k : ℕ). Some k) (sym at.place);
        fault = f;
        first = λ u q j other there before g. none_before flat inputs σ is_flat fit one_is shown lasts t p stands u q j other there before g;
        reads = operands.0;
        reads_are = ap (option_and_then (λ (flow : Flow). reading.form_reads flow.form)) f.there ∙ operands.1;
        left = operands.2;
        right = operands.3;
      }
