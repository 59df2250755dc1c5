-- A fault breaks its flow, in each solution.
use Rattle.std.proofs.Common.{◌≡◌, ℕ, ◌<◌, List, [], ◌∷◌, Some, sym, ap, ap₂, ◌∙◌}
use Rattle.std.specs.Prelude.{All}
use Rattle.std.proofs.lemmas.List.Elements.{All-weaker}
use Rattle.std.proofs.lemmas.Option.{slice_get_within}
use Rattle.luflow.specs.declared.form.Clock.{Clock}
use Rattle.luflow.specs.declared.form.Form.{Form}
use Rattle.luflow.specs.declared.form.Flow.{Flow}
use Rattle.luflow.specs.declared.form.FaultKind.{FaultKind}
use Rattle.luflow.specs.declared.form.Outcome.TheVariants.{Faults}
use Rattle.luflow.specs.Program.{FlatView, InputsView, flow_at, flows_of, places, clock_reads}
use Rattle.luflow.specs.Operators.{single_of, double_of}
use Rattle.luflow.specs.Streams.{Broken, Streams, datum_of, clock_at}
use Rattle.luflow.specs.Values.{on_one, on_two, value_at, under}
use Rattle.luflow.specs.Solution.{says, IsSolution}
use Rattle.luflow.specs.Faults.{IsFaultOn, OnUnary, OnBinary, IsFault}
use Rattle.luflow.specs.Sound.{IsFit}
use Rattle.luflow.specs.Flats.{IsFlat}
use Rattle.luflow.proofs.Solutions.{first_of_all, second_of_all, clock-same, solutions_same}
use Rattle.luflow.proofs.Faults.{fault_value, fault_value_one}

-- an operator that is a fault has that fault for its value
fault_on : (inputs : InputsView) (σ : Streams) (k : Clock) (t : ℕ) (form : Form) (kind : FaultKind) → IsFaultOn σ t form kind → value_at inputs σ k form t ≡ Faults kind
fault_on inputs σ k t _ _ (OnBinary op a b x y kind ea eb f) = ap₂ (λ m n. on_two (double_of op) (datum_of m) (datum_of n)) ea eb ∙ fault_value op x y kind f
fault_on inputs σ k t _ _ (OnUnary op a x kind ea f) = ap (λ m. on_one (single_of op) (datum_of m)) ea ∙ fault_value_one op x kind f

-- where operands are the same, so are faults
fault_moves : (σ σ' : Streams) (t : ℕ) (form : Form) (kind : FaultKind) → All (λ r. σ r t ≡ σ' r t) (places form) → IsFaultOn σ t form kind → IsFaultOn σ' t form kind
fault_moves σ σ' t _ _ same (OnBinary op a b x y kind ea eb f) =
    OnBinary op a b x y kind (sym (first_of_all (λ r. σ r t ≡ σ' r t) a (b ∷ []) same) ∙ ea) (sym (second_of_all (λ r. σ r t ≡ σ' r t) a b [] same) ∙ eb) f
fault_moves σ σ' t _ _ same (OnUnary op a x kind ea f) = OnUnary op a x kind (sym (first_of_all (λ r. σ r t ≡ σ' r t) a [] same) ∙ ea) f

module _ (flat : FlatView) (inputs : InputsView) (σ : Streams) (is_flat : IsFlat flat) (fit : IsFit flat inputs) (sol : IsSolution flat inputs σ) where
  -- what a flow shows, by its clock and its form
  pub equation : (i t : ℕ) (flow : Flow) → flow_at flat i ≡ Some flow → σ i t ≡ under (clock_at inputs σ flow.clock t) (value_at inputs σ flow.clock flow.form t)
  equation i t flow is = sol i t (slice_get_within flat.flows i flow is) ∙ ap (λ o. says inputs σ o t) is

  -- a fault breaks its flow
  pub fault_broken : (i t : ℕ) (kind : FaultKind) → IsFault flat inputs σ i t kind → σ i t ≡ Broken
  fault_broken i t kind f = equation i t f.flow f.there ∙ ap₂ under f.clock (fault_on inputs σ f.flow.clock t f.flow.form kind f.fault)

  pub fault_within : (i t : ℕ) (kind : FaultKind) → IsFault flat inputs σ i t kind → i < flows_of flat
  fault_within i t kind f = slice_get_within flat.flows i f.flow f.there

  same_at : (σ' : Streams) → IsSolution flat inputs σ' → (t r : ℕ) → r < flows_of flat → σ r t ≡ σ' r t
  same_at σ' sol' t r l = solutions_same flat inputs σ σ' is_flat.ordered sol sol' r t l

  -- a fault in one solution is a fault in each
  pub fault_same : (σ' : Streams) → IsSolution flat inputs σ' → (i t : ℕ) (kind : FaultKind) → IsFault flat inputs σ i t kind → IsFault flat inputs σ' i t kind
  fault_same σ' sol' i t kind f =
      let all = λ (xs : List ℕ) (h : All (λ r. r < flows_of flat) xs). All-weaker (λ r. r < flows_of flat) (λ r. σ r t ≡ σ' r t) (same_at σ' sol' t) xs h in
      record {
        flow = f.flow;
        there = f.there;
        clock = sym (clock-same inputs σ σ' f.flow.clock t (all (clock_reads f.flow.clock) (is_flat.ordered.clocks_in i f.flow f.there))) ∙ f.clock;
        fault = fault_moves σ σ' t f.flow.form kind (all (places f.flow.form) (is_flat.ordered.places_in i f.flow f.there)) f.fault;
      }
