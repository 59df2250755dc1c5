-- What every solution of a sound program keeps, flow by flow.
use Rattle.std.proofs.Common.{◌≡◌, ◌≢◌, ℕ, ◌<◌, Bool, true, false, Option, Some, refl, sym, ◌∙◌, subst}
use Rattle.lutree.specs.declared.program.Kind.{Kind}
use Rattle.luflow.specs.declared.data.Datum.{Datum}
use Rattle.luflow.specs.declared.data.Datum.TheVariants.{Nil}
use Rattle.luflow.specs.declared.data.Status.TheVariants.{Present}
use Rattle.luflow.specs.declared.form.Clock.{Clock}
use Rattle.luflow.specs.declared.form.Clock.TheVariants.{On}
use Rattle.luflow.specs.declared.form.Flow.{Flow}
use Rattle.luflow.specs.declared.form.Outcome.{Outcome}
use Rattle.luflow.specs.declared.form.Outcome.TheVariants.{Stuck}
use Rattle.luflow.specs.Program.{FlatView, InputsView, IsOrdered, flow_at}
use Rattle.luflow.specs.Streams.{Mark, Known, Streams, clock_at, ticked}
use Rattle.luflow.specs.Values.{value_at}
use Rattle.luflow.specs.Solution.{IsSolution}
use Rattle.luflow.specs.Sound.{IsSound, IsFit, IsTidyMark, IsUnbroken, ClockFits}
use Rattle.luflow.specs.FlatLaws.{KeepsTypes}
use Rattle.luflow.proofs.Tidy.{IsTidyOutcome}
use Rattle.luflow.proofs.TidyStreams.{tidy, outcome}
use Rattle.std.proofs.lemmas.Option.{slice_get_within}

never_nil : (s : Kind) (e : Bool) (was k : Option Bool) (m : Mark) → IsTidyMark s e was k m → e ≡ false → m ≢ Known (Present Nil)
never_nil s e was k m h zero is =
    let g : IsTidyMark s e was k (Known (Present Nil)) = subst (IsTidyMark s e was k) is h in
    let one : e ≡ true = (g.2 refl).0 in
    let clash : false ≡ true = sym zero ∙ one in cc

clock_class : (flat : FlatView) (class : ℕ → Bool) (k : Clock) (c : ℕ) (d : Datum) → k ≡ On c d → ClockFits flat class k → ClockFits flat class (On c d)
clock_class flat class k c d is h = subst (ClockFits flat class) is h

pub keeps_types : (flat : FlatView) (inputs : InputsView) (σ : Streams) → IsOrdered flat → IsSound flat → IsFit flat inputs → IsSolution flat inputs σ → (i t : ℕ) (flow : Flow) → flow_at flat i ≡ Some flow → t < inputs.instants → KeepsTypes flat inputs σ i t flow
keeps_types flat inputs σ ordered sound fit sol i t flow is lt =
    let all = tidy flat inputs σ ordered sound fit sol in
    let here = all i t (slice_get_within flat.flows i flow is) lt flow is in
    let mark = IsTidyMark flow.kind (sound.class i) (ticked (clock_at inputs σ flow.clock) t) (clock_at inputs σ flow.clock t) in
    record {
      absent = λ e. subst mark e here;
      present = λ d e. let g = subst mark e here in (g.0, g.1);
      clock_not_nil = λ c d e.
          let w = clock_class flat sound.class flow.clock c d e (sound.clocks i flow is) in
          let tc = all c t (slice_get_within flat.flows c (record { form = w.3.form; clock = w.0; kind = w.1 }) w.3.there) lt (record { form = w.3.form; clock = w.0; kind = w.1 }) w.3.there in
          never_nil w.1 (sound.class c) (ticked (clock_at inputs σ w.0) t) (clock_at inputs σ w.0 t) (σ c t) tc w.4;
      output_not_nil = λ x ex role. never_nil flow.kind (sound.class i) (ticked (clock_at inputs σ flow.clock) t) (clock_at inputs σ flow.clock t) (σ i t) here (sound.outputs i x ex role);
    }

stuck_no : (B : Type 0) (s : Kind) (e : Bool) (was : Option Bool) (v : Outcome) → IsTidyOutcome B s e was v → v ≡ Stuck → B → ⊥
stuck_no B s e was v h is b = (subst (IsTidyOutcome B s e was) is h) b

pub stuck_broken : (flat : FlatView) (inputs : InputsView) (σ : Streams) → IsOrdered flat → IsSound flat → IsFit flat inputs → IsSolution flat inputs σ → (i t : ℕ) (flow : Flow) → flow_at flat i ≡ Some flow → t < inputs.instants → clock_at inputs σ flow.clock t ≡ Some true → value_at inputs σ flow.clock flow.form t ≡ Stuck → IsUnbroken σ flow.clock flow.form t → ⊥
stuck_broken flat inputs σ ordered sound fit sol i t flow is lt on stuck b =
    stuck_no (IsUnbroken σ flow.clock flow.form t) flow.kind (sound.class i) (ticked (clock_at inputs σ flow.clock) t) (value_at inputs σ flow.clock flow.form t) (outcome flat inputs σ ordered sound fit sol i t flow is lt on) stuck b
