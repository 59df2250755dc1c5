-- A flat program whose copies stand on the clocks of what they copy has the same solutions where copies are the very streams.
use Rattle.std.proofs.Common.{◌≡◌, ℕ, zero, suc, ◌<◌, Bool, true, false, List, ◌++◌, length, map, take, get_or, Option, Some, None, refl, sym, ap, ◌∙◌, subst, arith, length-take}
use Rattle.std.specs.Prelude.{slice_get, slice_index, Contains, All}
use Rattle.std.proofs.Math.Path.{fun_ext}
use Rattle.std.proofs.lemmas.List.{get_or-take}
use Rattle.std.proofs.lemmas.Simd.{map-map}
use Rattle.std.proofs.lemmas.Option.{slice_get_within, slice_get-get_or, get_or_from_slice_get}
use Rattle.lutree.specs.declared.program.Kind.TheVariants.{Int as Ints}
use Rattle.luflow.specs.declared.form.Clock.{Clock}
use Rattle.luflow.specs.declared.form.Clock.TheVariants.{Base, On}
use Rattle.luflow.specs.declared.form.Form.{Form}
use Rattle.luflow.specs.declared.form.Form.TheVariants.{Input, Constant, Copied, Unary, Binary, If, Pre, Arrow, When, Current, Merge}
use Rattle.luflow.specs.declared.form.Outcome.{Outcome}
use Rattle.luflow.specs.declared.form.Outcome.TheVariants.{Gives, Faults, Stuck}
use Rattle.luflow.specs.declared.form.Flow.{Flow}
use Rattle.luflow.specs.Operators.{single_of, double_of, choice_of}
use Rattle.luflow.specs.Program.{FlatView, InputsView, IsOrdered, column_of, form_reads, clock_reads}
use Rattle.luflow.specs.Streams.{Stream, Streams, Ticks, datum_of, base_clock, clock_at, ticked, before}
use Rattle.luflow.specs.Values.{gives, on_one, on_two, on_three, arrow_of, merge_of, under, value_at}
use Rattle.luflow.specs.Solution.{IsSolution, says}
use Rattle.lusource.specs.StreamOperators.{when_stream}
use Rattle.lucore_laws.proofs.Names.{all_head, mapped_some}
use Rattle.lucore_laws.proofs.Open.{Model, clock_ticks, form_stream, Solves}
use Rattle.lucore_laws.proofs.Static.{CopyFits, AreFit}

-- what is under a clock is on it
gate : (k : Option Bool) (o : Outcome) → under k (gives (datum_of (under k o))) ≡ under k o
gate None o = refl
gate (Some false) o = refl
gate (Some true) (Gives d) = refl
gate (Some true) (Faults kind) = refl
gate (Some true) Stuck = refl

abbrev IsOnClock : Ticks → Stream → Type 0
IsOnClock k s = s ≡ when_stream k s

module _ (flat : FlatView) (inputs : InputsView) (n : ℕ) (fits : AreFit flat.flows n) where
  abbrev pub column_stream : ℕ → Stream
  column_stream r t = under (base_clock inputs t) (gives (slice_get (column_of inputs r) t))

  -- the streams of the places, with the table's columns
  abbrev pub model : Streams → Model
  model τ = record { on = τ; given = column_stream }

  abbrev ticks_of : Streams → Clock → Ticks
  ticks_of τ c = clock_ticks (base_clock inputs) τ c

  clock_same : (τ : Streams) (c : Clock) → clock_at inputs τ c ≡ ticks_of τ c
  clock_same τ Base = refl
  clock_same τ (On v d) = refl

  -- what the flat program's definition says of a form
  abbrev said : Streams → Ticks → Form → Stream
  said τ k (Copied a) = when_stream k (τ a)
  said τ k (Input r) = λ t. under (k t) (gives (slice_get (column_of inputs r) t))
  said τ k form = form_stream (model τ) k form

  says_said : (τ : Streams) (c : Clock) (form : Form) → (λ t. under (clock_at inputs τ c t) (value_at inputs τ c form t)) ≡ said τ (clock_at inputs τ c) form
  says_said τ c (Input r) = refl
  says_said τ c (Constant d) = refl
  says_said τ c (Copied a) = refl
  says_said τ c (Unary op a) = refl
  says_said τ c (Binary op a b) = refl
  says_said τ c (If x a b) = refl
  says_said τ c (Pre a) = refl
  says_said τ c (Arrow a b) = refl
  says_said τ c (When a) = refl
  says_said τ c (Current a) = refl
  says_said τ c (Merge x xs) = fun_ext (λ t. ap (λ branches. under (clock_at inputs τ c t) (merge_of (datum_of (τ x t)) branches)) (sym (map-map (λ (s : Stream). datum_of (s t)) τ xs)))

  flow_said : (τ : Streams) (f : Flow) → (λ t. says inputs τ (Some f) t) ≡ said τ (ticks_of τ f.clock) f.form
  flow_said τ f = says_said τ f.clock f.form ∙ ap (λ k. said τ k f.form) (clock_same τ f.clock)

  said_on : (τ : Streams) (k : Ticks) (form : Form) → IsOnClock k (said τ k form)
  said_on τ k (Input r) = fun_ext (λ t. sym (gate (k t) (gives (slice_get (column_of inputs r) t))))
  said_on τ k (Constant d) = fun_ext (λ t. sym (gate (k t) (Gives d)))
  said_on τ k (Copied a) = fun_ext (λ t. sym (gate (k t) (gives (datum_of (τ a t)))))
  said_on τ k (Unary op a) = fun_ext (λ t. sym (gate (k t) (on_one (single_of op) (datum_of (τ a t)))))
  said_on τ k (Binary op a b) = fun_ext (λ t. sym (gate (k t) (on_two (double_of op) (datum_of (τ a t)) (datum_of (τ b t)))))
  said_on τ k (If c a b) = fun_ext (λ t. sym (gate (k t) (on_three choice_of (datum_of (τ c t)) (datum_of (τ a t)) (datum_of (τ b t)))))
  said_on τ k (Pre a) = fun_ext (λ t. sym (gate (k t) (gives (before (τ a) t))))
  said_on τ k (Arrow a b) = fun_ext (λ t. sym (gate (k t) (on_two (arrow_of (ticked k t)) (datum_of (τ a t)) (datum_of (τ b t)))))
  said_on τ k (When a) = fun_ext (λ t. sym (gate (k t) (gives (datum_of (τ a t)))))
  said_on τ k (Current a) = fun_ext (λ t. sym (gate (k t) (gives (before (τ a) (suc t)))))
  said_on τ k (Merge c xs) = fun_ext (λ t. sym (gate (k t) (merge_of (datum_of (τ c t)) (map (λ (s : Stream). datum_of (s t)) (map τ xs)))))

  -- where copied flows are on their clocks, both say the same
  said_same : (τ : Streams) (c : Clock) (form : Form) → CopyFits flat.flows n c form → ((a : ℕ) → form ≡ Copied a → IsOnClock (ticks_of τ c) (τ a)) → said τ (ticks_of τ c) form ≡ form_stream (model τ) (ticks_of τ c) form
  said_same τ c (Input r) copy on = ap (λ k (t : ℕ). under (ticks_of τ k t) (gives (slice_get (column_of inputs r) t))) copy.0
  said_same τ c (Constant d) copy on = refl
  said_same τ c (Copied a) copy on = sym (on a refl)
  said_same τ c (Unary op a) copy on = refl
  said_same τ c (Binary op a b) copy on = refl
  said_same τ c (If x a b) copy on = refl
  said_same τ c (Pre a) copy on = refl
  said_same τ c (Arrow a b) copy on = refl
  said_same τ c (When a) copy on = refl
  said_same τ c (Current a) copy on = refl
  said_same τ c (Merge x xs) copy on = refl

  copied_from : (f : Flow) (a : ℕ) → CopyFits flat.flows n f.clock f.form → f.form ≡ Copied a → (g : Flow) × (slice_get flat.flows a ≡ Some g) × (g.clock ≡ f.clock)
  copied_from f a copy e = mapped_some (λ (g : Flow). g.clock) (slice_get flat.flows a) f.clock (subst (CopyFits flat.flows n f.clock) e copy)

  -- all flows are on their clocks
  abbrev AreOn : Streams → Type 0
  AreOn τ = (x : ℕ) (f : Flow) → slice_get flat.flows x ≡ Some f → IsOnClock (ticks_of τ f.clock) (τ x)

  same_at : (τ : Streams) → AreOn τ → (x : ℕ) (f : Flow) → slice_get flat.flows x ≡ Some f → said τ (ticks_of τ f.clock) f.form ≡ form_stream (model τ) (ticks_of τ f.clock) f.form
  same_at τ on x f e =
      said_same τ f.clock f.form (fits x f e).copy (λ a same.
      let g = copied_from f a (fits x f e).copy same in
      subst (λ k. IsOnClock (ticks_of τ k) (τ a)) g.2 (on a g.0 g.1))

  solution_at : (τ : Streams) → IsSolution flat inputs τ → (x : ℕ) (f : Flow) → slice_get flat.flows x ≡ Some f → τ x ≡ said τ (ticks_of τ f.clock) f.form
  solution_at τ sol x f e = fun_ext (λ t. sol x t (slice_get_within flat.flows x f e) ∙ ap (λ o. says inputs τ o t) e) ∙ flow_said τ f

  pub to_open : (τ : Streams) → IsSolution flat inputs τ → Solves (base_clock inputs) (model τ) flat.flows
  to_open τ sol x f e = solution_at τ sol x f e ∙ same_at τ (λ y g h. subst (IsOnClock (ticks_of τ g.clock)) (sym (solution_at τ sol y g h)) (said_on τ (ticks_of τ g.clock) g.form)) x f e

  -- a place of an order, from what it has up to another place
  before_in : (order : List ℕ) (k j : ℕ) → Contains (take k order) j → (i : ℕ) × (i < k) × (i < length order) × (slice_index order i ≡ j)
  before_in order k j found =
      let l = length-take k order in
      let low : found.0 < k = omega (arith, found.1) in
      let inside : found.0 < length order = omega (arith, found.1) in
      (found.0, low, inside, get_or_from_slice_get order found.0 j 0 (slice_get-get_or order found.0 j inside ∙ ap Some (sym (get_or-take k order found.0 j low) ∙ found.2)))

  module _ (ordered : IsOrdered flat) (τ : Streams) (sol : Solves (base_clock inputs) (model τ) flat.flows) where
    abbrev Ranked : ℕ → Type 0
    Ranked p = (f : Flow) → slice_get flat.flows (slice_index flat.order p) ≡ Some f → IsOnClock (ticks_of τ f.clock) (τ (slice_index flat.order p))

    -- a flow is on its clock where the flow that it copies is
    form_on : (x : ℕ) (c : Clock) (form : Form) → CopyFits flat.flows n c form → τ x ≡ form_stream (model τ) (ticks_of τ c) form → ((a : ℕ) → form ≡ Copied a → IsOnClock (ticks_of τ c) (τ a)) → IsOnClock (ticks_of τ c) (τ x)
    form_on x c form copy e on =
        let same = e ∙ sym (said_same τ c form copy on) in
        subst (IsOnClock (ticks_of τ c)) (sym same) (said_on τ (ticks_of τ c) form)

    ranked : (d p : ℕ) → p < d → p < length flat.order → Ranked p
    ranked zero p lt lo f e = absurd (omega (arith, lt))
    ranked (suc d) p lt lo f e =
        let x = slice_index flat.order p in
        form_on x f.clock f.form (fits x f e).copy (sol x f e) (λ a same.
        let g = copied_from f a (fits x f e).copy same in
        let first = ordered.reads_first p f lo e in
        let first' = subst (λ form. All (λ r. Contains (take p flat.order) r) (form_reads form ++ clock_reads f.clock)) same first in
        let q = before_in flat.order p a (all_head (λ r. Contains (take p flat.order) r) a (clock_reads f.clock) first') in
        let on = ranked d q.0 (omega (arith, q.1, lt)) q.2 g.0 (ap (slice_get flat.flows) q.3 ∙ g.1) in
        subst (λ k. IsOnClock (ticks_of τ k) (τ a)) g.2 (subst (λ y. IsOnClock (ticks_of τ g.0.clock) (τ y)) q.3 on))

    are_on : AreOn τ
    are_on x f e =
        let c = ordered.all_flows x (slice_get_within flat.flows x f e) in
        let here : slice_index flat.order c.0 ≡ x = get_or_from_slice_get flat.order c.0 x 0 (slice_get-get_or flat.order c.0 x c.1 ∙ ap Some c.2) in
        subst (λ y. IsOnClock (ticks_of τ f.clock) (τ y)) here (ranked (suc c.0) c.0 (omega arith) c.1 f (ap (slice_get flat.flows) here ∙ e))

    pub from_open : IsSolution flat inputs τ
    from_open x t lt =
        let d : Flow = record { form = Input 0; clock = Base; kind = Ints } in
        let f = get_or flat.flows x d in
        let e = slice_get-get_or flat.flows x d lt in
        let h = sol x f e ∙ sym (same_at τ are_on x f e) ∙ sym (flow_said τ f) in
        ap (λ (s : Stream). s t) h ∙ sym (ap (λ o. says inputs τ o t) e)
