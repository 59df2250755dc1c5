-- What is told of the first fault, in each solution.
use Rattle.std.proofs.Common.{◌≡◌, ℕ, ◌<◌, List, length, Option, Some, None, refl, sym, ap, subst, ◌∙◌, arith}
use Rattle.std.specs.Prelude.{slice_get, slice_index}
use Rattle.std.proofs.lemmas.List.Elements.{All-get_or}
use Rattle.std.proofs.lemmas.Option.{slice_get_within, slice_get-get_or}
use Rattle.luflow.specs.declared.data.Datum.{Datum}
use Rattle.luflow.specs.declared.data.Status.{Status}
use Rattle.luflow.specs.declared.data.Status.TheVariants.{Present}
use Rattle.luflow.specs.declared.form.FaultKind.{FaultKind}
use Rattle.luflow.specs.Program.{FlatView, InputsView}
use Rattle.luflow.specs.Streams.{Known}
use Rattle.luflow.specs.Solution.{solution}
use Rattle.luflow.specs.Faults.{IsFault}
use Rattle.luflow.specs.Flats.{IsFlat}
use Rattle.luflow.specs.Sound.{IsFit}
use Rattle.luflow.proofs.Solutions.{IsSolution-solution, solutions_same}
use Rattle.lueval_lines.specs.declared.error.EvalError.TheVariants.{Fault}
use Rattle.lueval_lines.proofs.Faults.{fault_same}
use Rattle.lueval.specs.declared.faults.FoundFault.{FoundFault}
use Rattle.lueval.specs.Faults.{HasSecond, TellsFirstFault}
use Rattle.lueval.specs.Reads.{reads_at}
use Rattle.lueval.specs.Steps.{IsFirst, IsFaultFound, IsSecondAt, IsDatumShown}
use Rattle.lueval.specs.Whole.{IsAnswer, IsEarlier}

-- it is the first of each solution
pub first_told : (flat : FlatView) (inputs : InputsView) (shown : List Status) (t p : ℕ) (kind : FaultKind) (found : FoundFault) (place : ℕ) → IsFlat flat → IsFit flat inputs → t < inputs.instants
    → (h : IsFirst flat inputs shown t p kind) → place ≡ h.place → IsFaultFound shown flat.flows place t kind found → TellsFirstFault flat inputs (Some found)
first_told flat inputs shown t p kind found place is_flat fit lt h at f τ sol =
    let len = h.shown_len in
    let σ = solution flat inputs in
    let one = IsSolution-solution flat inputs is_flat.ordered in
    let same_place : found.place ≡ h.place = f.at_place ∙ at in
    let operands = f.operands h.reads (ap (reads_at flat.flows) at ∙ h.reads_are) in
    let same = λ (r : ℕ) (s : Status) (there : slice_get shown r ≡ Some s). solutions_same flat inputs τ σ is_flat.ordered sol one r t (let l = slice_get_within shown r s there in omega (arith, l, len)) in
    record {
      rank = p;
      ranked = h.ranked ∙ ap (λ (k : ℕ). Some k) (sym same_place);
      early = subst (λ t. t < inputs.instants) (sym f.at_instant) lt;
      fault = subst (λ i. IsFault flat inputs τ i found.instant found.kind) (sym same_place)
          (subst (λ t. IsFault flat inputs τ h.place t found.kind) (sym f.at_instant) (subst (IsFault flat inputs τ h.place t) (sym f.by_kind) (fault_same flat inputs σ is_flat fit one τ sol h.place t kind h.fault)));
      first = λ u q j other there before g. h.first u q j other there (subst (λ t. IsEarlier u q t p) f.at_instant before) (fault_same flat inputs τ is_flat fit sol σ one j u other g);
      reads = h.reads;
      reads_are = ap (reads_at flat.flows) same_place ∙ h.reads_are;
      left = ap (λ t. τ h.reads.left t) f.at_instant ∙ same h.reads.left (Present h.left.datum) h.left.there ∙ h.left.is ∙ ap (λ (d : Datum). Known (Present d)) (sym (operands.0 h.left.datum h.left.there));
      right = second h.reads.right h.right operands.1;
    }
  where
    second : (o : Option ℕ) → ((b : ℕ) → o ≡ Some b → IsDatumShown (solution flat inputs) shown t b) → IsSecondAt shown o found.right → HasSecond τ found.instant o found.right
    second None shows none = none
    second (Some b) shows (d, is, datum) =
        let w = shows b refl in
        let σ = solution flat inputs in
        let one = IsSolution-solution flat inputs is_flat.ordered in
        let len = h.shown_len in
        let lb : b < length flat.flows = let l = slice_get_within shown b (Present w.datum) w.there in omega (arith, l, len) in
        (d, is, ap (λ t. τ b t) f.at_instant ∙ solutions_same flat inputs τ σ is_flat.ordered sol one b t lb ∙ w.is ∙ ap (λ (d : Datum). Known (Present d)) (sym (datum w.datum w.there)))

module _ (flat : FlatView) (inputs : InputsView) (found : FoundFault) (is_flat : IsFlat flat) (told : TellsFirstFault flat inputs (Some found)) where
  -- the flow at fault is one of the program's
  pub told_within : found.place < length flat.flows
  told_within =
      let f = told (solution flat inputs) (IsSolution-solution flat inputs is_flat.ordered) in
      slice_get_within flat.flows found.place f.fault.flow f.fault.there

  -- so it is told by the variable in whose equation it stands
  pub told_answer : IsAnswer flat inputs (Fault (slice_index flat.owners found.place) found.instant found.kind)
  told_answer σ sol =
      let f = told σ sol in
      let i = found.place in
      let within : i < length flat.owners = let n = is_flat.owners_len in let l = told_within in omega (arith, n, l) in
      record {
        rank = f.rank;
        place = i;
        ranked = f.ranked;
        early = f.early;
        owner = slice_get-get_or flat.owners i 0 within;
        inside = All-get_or (λ v. v < length flat.variables) flat.owners i 0 within is_flat.owners_in;
        fault = f.fault;
        first = f.first;
      }
