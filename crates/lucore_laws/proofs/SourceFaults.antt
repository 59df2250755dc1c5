-- An operator's flow in an expression's walk is at fault where the operator is at fault in the source.
use Rattle.std.proofs.Common.{◌≡◌, ℕ, suc, ◌+◌, ◌<◌, ◌⊎◌, inl, inr, ⊎_elim, List, [], ◌∷◌, ◌++◌, length, map, Option, Some, None, refl, sym, ap, ◌∙◌, subst, arith}
use Rattle.std.specs.Prelude.{slice_get, option_map, true, pos}
use Rattle.std.proofs.lemmas.Option.{slice_get_within, slice_get-map}
use Rattle.lutree.specs.declared.expr.Pattern.{Pattern}
use Rattle.lutree.specs.declared.expr.Condition.{Condition}
use Rattle.lutree.specs.declared.expr.Prefix.TheVariants.{Data as Data1, Pre as Before}
use Rattle.lutree.specs.declared.expr.Infix.TheVariants.{Data as Data2, Arrow as Starts, FollowedBy}
use Rattle.lutree.specs.Tree.{Tree, Trees, list_of as trees_in, EquationTree, NodeTree, ProgramTree}
use Rattle.lutree.specs.Tree as tree
use Rattle.luflow.specs.declared.data.Datum.{Datum}
use Rattle.luflow.specs.declared.data.Datum.TheVariants.{Int, Bool as Truth, Name}
use Rattle.luflow.specs.declared.data.Status.TheVariants.{Present}
use Rattle.luflow.specs.declared.form.Clock.{Clock}
use Rattle.luflow.specs.declared.form.Clock.TheVariants.{Base, On}
use Rattle.luflow.specs.declared.form.Form.{Form}
use Rattle.luflow.specs.declared.form.Form.TheVariants.{Input, Constant, Copied, Unary, Binary, If, Pre, Arrow, When, Current, Merge}
use Rattle.luflow.specs.declared.form.FaultKind.{FaultKind}
use Rattle.luflow.specs.declared.form.Flow.{Flow}
use Rattle.luflow.specs.Faults.{IsFaultOn}
use Rattle.luflow.specs.Operators.{IsFaultOf, IsFaultOfOne}
use Rattle.luflow.specs.Streams as streams
use Rattle.luflow.specs.Streams.{Stream, Streams, Ticks, truth_in}
use Rattle.lusource.specs.Names.{variables_of, place_of, clock_of, name_at, outputs_in, output_name, AreDistinct}
use Rattle.lusource.specs.StreamOperators.{constant_stream, unary_stream, binary_stream, choice_stream, pre_stream, arrow_stream, when_stream, current_stream, merge_stream}
use Rattle.lusource.specs.Source.{Named, SourceStreams, condition, first_pattern, next_patterns, pattern_value, ticks, calls, calls_in, value, branches, output}
use Rattle.lusource.specs.Faults as faults
use Rattle.lustat_rules.specs.Scope.{node_called}
use Rattle.lucore_laws.specs.Layout.{Root, Walking, root_flows, made, root_place, place, behind, leaf, after, list_of, inputs_in, instance, moved, moved_form, moved_clock, clock_place, flow_of, variable_place, walk, walk_all, walk_branches, node_owners}
use Rattle.lucore_laws.specs.Layout.Root.{own, at}
use Rattle.lucore_laws.proofs.Each.{Each, each_left, each_right, each_join, each_all, each_map}
use Rattle.lucore_laws.proofs.Names.{get-front, get-behind, contains_get}
use Rattle.lucore_laws.proofs.Open.{Model, clock_ticks, flow_stream, FlowHolds, Hold, Solves, root_stream, moved_model, instance_solves}
use Rattle.lucore_laws.proofs.Spots.{Spot, spots_after, no_spots, spot_at, spots, spots_all, spots_branches, length-spots}
use Rattle.lucore_laws.proofs.ListInstances.{HasInstances}
use Rattle.lucore_laws.proofs.ListToSource.{output_value, output_place, output_there}
use Rattle.lucore_laws.proofs.Well.{Known, IsWell, AllWell, CallIs}

-- FAULTS OF FLOWS

-- an operator at operands that are present, whose result there is none
abbrev pub FormFails : Streams → ℕ → FaultKind → Form → Type 0
FormFails τ t kind (Input r) = ⊥
FormFails τ t kind (Constant d) = ⊥
FormFails τ t kind (Copied a) = ⊥
FormFails τ t kind (Unary op a) = (x : Datum) × (τ a t ≡ streams.Known (Present x)) × IsFaultOfOne op x kind
FormFails τ t kind (Binary op a b) =
    (x : Datum) × (y : Datum) × (τ a t ≡ streams.Known (Present x)) × (τ b t ≡ streams.Known (Present y)) × IsFaultOf op x y kind
FormFails τ t kind (If c a b) = ⊥
FormFails τ t kind (Pre a) = ⊥
FormFails τ t kind (Arrow a b) = ⊥
FormFails τ t kind (When a) = ⊥
FormFails τ t kind (Current a) = ⊥
FormFails τ t kind (Merge c xs) = ⊥

pub form_fails : (τ : Streams) (t : ℕ) (kind : FaultKind) (form : Form) → IsFaultOn τ t form kind → FormFails τ t kind form
form_fails τ t _ _ (IsFaultOn.OnBinary op a b x y kind left right fault) = (x, y, left, right, fault)
form_fails τ t _ _ (IsFaultOn.OnUnary op a x kind operand fault) = (x, operand, fault)

-- a flow whose clock is true is such an operator
abbrev pub FlowFails : Ticks → Model → ℕ → FaultKind → Flow → Type 0
FlowFails base m t kind f = (clock_ticks base m.on f.clock t ≡ Some true) × FormFails m.on t kind f.form

clock_moved : (base : Ticks) (τ : Streams) (b : ℕ) (k c : Clock) → clock_ticks base τ (moved_clock b k c) ≡ clock_ticks (clock_ticks base τ k) (λ x. τ (b + x)) c
clock_moved base τ b k Base = refl
clock_moved base τ b k (On c d) = refl

form_moved : (τ : Streams) (t : ℕ) (kind : FaultKind) (b : ℕ) (arguments : List ℕ) (f : Form) → FormFails τ t kind (moved_form b arguments f) → FormFails (λ x. τ (b + x)) t kind f
form_moved τ t kind b arguments (Input r) h = h
form_moved τ t kind b arguments (Constant d) h = h
form_moved τ t kind b arguments (Copied a) h = h
form_moved τ t kind b arguments (Unary op x) h = h
form_moved τ t kind b arguments (Binary op x y) h = h
form_moved τ t kind b arguments (If c x y) h = h
form_moved τ t kind b arguments (Pre x) h = h
form_moved τ t kind b arguments (Arrow x y) h = h
form_moved τ t kind b arguments (When x) h = h
form_moved τ t kind b arguments (Current x) h = h
form_moved τ t kind b arguments (Merge c xs) h = h

-- a moved flow is at fault where the flow is
pub flow_moved : (base : Ticks) (m : Model) (t : ℕ) (kind : FaultKind) (b : ℕ) (k : Clock) (arguments : List ℕ) (f : Flow) → FlowFails base m t kind (moved b k arguments f) → FlowFails (clock_ticks base m.on k) (moved_model m b arguments) t kind f
flow_moved base m t kind b k arguments f h =
    (ap (λ (c : Ticks). c t) (sym (clock_moved base m.on b k f.clock)) ∙ h.0, form_moved m.on t kind b arguments f.form h.1)

form_unmoved : (τ : Streams) (t : ℕ) (kind : FaultKind) (b : ℕ) (arguments : List ℕ) (f : Form) → FormFails (λ x. τ (b + x)) t kind f → FormFails τ t kind (moved_form b arguments f)
form_unmoved τ t kind b arguments (Input r) h = h
form_unmoved τ t kind b arguments (Constant d) h = h
form_unmoved τ t kind b arguments (Copied a) h = h
form_unmoved τ t kind b arguments (Unary op x) h = h
form_unmoved τ t kind b arguments (Binary op x y) h = h
form_unmoved τ t kind b arguments (If c x y) h = h
form_unmoved τ t kind b arguments (Pre x) h = h
form_unmoved τ t kind b arguments (Arrow x y) h = h
form_unmoved τ t kind b arguments (When x) h = h
form_unmoved τ t kind b arguments (Current x) h = h
form_unmoved τ t kind b arguments (Merge c xs) h = h

flow_unmoved : (base : Ticks) (m : Model) (t : ℕ) (kind : FaultKind) (b : ℕ) (k : Clock) (arguments : List ℕ) (f : Flow) → FlowFails (clock_ticks base m.on k) (moved_model m b arguments) t kind f → FlowFails base m t kind (moved b k arguments f)
flow_unmoved base m t kind b k arguments f h =
    (ap (λ (c : Ticks). c t) (clock_moved base m.on b k f.clock) ∙ h.0, form_unmoved m.on t kind b arguments f.form h.1)

-- FAULTS OF A LIST

-- the equation with v as its first variable fails, in an instance of the node called f
abbrev pub SomeFails : ProgramTree → ℕ → FaultKind → List ℕ → Ticks → SourceStreams → List ℕ → Type 0
SomeFails p t kind f base σ v = (depth : ℕ) × faults.FailsWithin p t kind depth f base σ v

-- a flow that is at fault is owned by the first variable of an equation that fails
abbrev pub Owned : ProgramTree → NodeTree → ℕ → FaultKind → List ℕ → Ticks → SourceStreams → ℕ → Type 0
Owned p node t kind f base σ o =
    (v : List ℕ) × (place_of (variables_of node) v < length (variables_of node)) × (o ≡ place_of (variables_of node) v) × SomeFails p t kind f base σ v

-- what is shown of a node's list, along calls
abbrev pub ReportsFlow : ProgramTree → List (List Flow) → ℕ → FaultKind → List ℕ → Type 0
ReportsFlow p lists t kind f =
    (n : NodeTree) → node_called p f ≡ Some n → (base : Ticks) (m : Model) (σ : SourceStreams) → Solves base m (list_of p lists f) → HasInstances p lists f m.on σ
    → (x : ℕ) (flow : Flow) → slice_get (list_of p lists f) x ≡ Some flow → FlowFails base m t kind flow
    → (o : ℕ) × (slice_get (node_owners p lists n) x ≡ Some o) × Owned p n t kind f base σ o

-- and the other way round: where an equation fails, a flow of its first variable is at fault
abbrev pub Shows : ProgramTree → List (List Flow) → ℕ → FaultKind → List ℕ → Type 0
Shows p lists t kind f =
    (n : NodeTree) → node_called p f ≡ Some n → (base : Ticks) (m : Model) (σ : SourceStreams) → Solves base m (list_of p lists f) → HasInstances p lists f m.on σ
    → (v : List ℕ) → SomeFails p t kind f base σ v
    → (x : ℕ) × (flow : Flow) × (slice_get (list_of p lists f) x ≡ Some flow) × FlowFails base m t kind flow
    × (slice_get (node_owners p lists n) x ≡ Some (place_of (variables_of n) v)) × (place_of (variables_of n) v < length (variables_of n))

abbrev pub ReportsAndShows : ProgramTree → List (List Flow) → ℕ → FaultKind → List ℕ → Type 0
ReportsAndShows p lists t kind f = ReportsFlow p lists t kind f × Shows p lists t kind f

-- SUMS

pub both : {P Q P' Q' : Type 0} → (P → P') → (Q → Q') → P ⊎ Q → P' ⊎ Q'
both f g (inl h) = inl (f h)
both f g (inr h) = inr (g h)

turn : {P Q : Type 0} → P ⊎ Q → Q ⊎ P
turn (inl h) = inr h
turn (inr h) = inl h

last : {P Q R : Type 0} → P ⊎ (Q ⊎ R) → Q ⊎ (R ⊎ P)
last (inl h) = inr (inr h)
last (inr (inl h)) = inl h
last (inr (inr h)) = inr (inl h)

-- EXPRESSIONS

module _ (p : ProgramTree) (lists : List (List Flow)) (node : NodeTree) (Below : List ℕ → Type 0) (base : Ticks) (m : Model) (σ : SourceStreams) (t : ℕ) (kind : FaultKind) (apart : (f : List ℕ) (n : NodeTree) → node_called p f ≡ Some n → AreDistinct (variables_of n)) (tells : (f : List ℕ) → Below f → ReportsAndShows p lists t kind f)
    (agree : (x : List ℕ) → Known p node Below x → m.on (variable_place p lists node x) ≡ σ [] x) where
  abbrev pub KnownClock : Option Condition → Type 0
  KnownClock None = Unit {0}
  KnownClock (Some c) = Known p node Below c.variable

  abbrev pub var : Named
  var = σ []

  abbrev pub below : ℕ → Named
  below i = σ (i ∷ [])

  -- the instance of a call stands at its spot
  abbrev pub Placed : ℕ → Spot → Type 0
  Placed i spot = HasInstances p lists spot.node (λ y. m.on (spot.at + y)) (λ path. σ (i ∷ path))

  -- the instance of a call fails, within some depth
  abbrev pub CallFails : ℕ → List ℕ → Ticks → ℕ → Type 0
  CallFails depth g k i = (w : List ℕ) × faults.FailsWithin p t kind depth g k (λ path. σ (i ∷ path)) w

  abbrev pub Fails : ℕ → Tree → Option Condition → ℕ → Type 0
  Fails depth = faults.Fails p node base var below t kind (CallFails depth)

  abbrev pub AnyFails : ℕ → Trees → Option Condition → ℕ → Type 0
  AnyFails depth = faults.AnyFails p node base var below t kind (CallFails depth)

  abbrev pub BranchFails : ℕ → List ℕ → List Pattern → Trees → ℕ → Type 0
  BranchFails depth = faults.BranchFails p node base var below t kind (CallFails depth)

  abbrev pub FlowReports : Type 0 → ℕ → Flow → Type 0
  FlowReports G j f = FlowFails base m t kind f → G

  abbrev pub RootReports : Type 0 → Root → Type 0
  RootReports G (own f) = FlowFails base m t kind f → G
  RootReports G (at x) = Unit {0}

  -- some of these flows is at fault
  abbrev pub Found : List Flow → Type 0
  Found flows = (x : ℕ) × (flow : Flow) × (slice_get flows x ≡ Some flow) × FlowFails base m t kind flow

  abbrev pub RootFound : Root → Type 0
  RootFound (own f) = FlowFails base m t kind f
  RootFound (at x) = ⊥

  -- Wherever a walk begins whose inner flows hold, the root has these streams, a fault of one of its flows gives G, and where
  -- there is F, one of its flows is at fault.
  abbrev pub Seen : Walking → (ℕ → List Spot) → ℕ → ℕ → (ℕ → Stream) → Type 0 → Type 0 → Type 0
  Seen w sp i width val G F =
      (s : ℕ) → Each Placed i (sp s) → Hold base m s (w s).inner → ((j : ℕ) → j < width → root_stream base m (w s).root j ≡ val j) × (Each (FlowReports G) s (w s).inner × RootReports G (w s).root) × (F → Found (w s).inner ⊎ RootFound (w s).root)

  found_left : (xs ys : List Flow) → Found xs → Found (xs ++ ys)
  found_left xs ys h = (h.0, h.1, get-front xs ys h.0 (slice_get_within xs h.0 h.1 h.2) ∙ h.2, h.3)

  found_right : (xs ys : List Flow) → Found ys → Found (xs ++ ys)
  found_right xs ys h = (length xs + h.0, h.1, get-behind xs ys (length xs) h.0 refl ∙ h.2, h.3)

  found_operand : (inner : List Flow) (root : Root) → Found inner ⊎ RootFound root → Found (inner ++ root_flows root)
  found_operand inner root (inl h) = found_left inner (root_flows root) h
  found_operand inner (own f) (inr h) = found_right inner (f ∷ []) (0, f, refl, h)
  found_operand inner (at x) (inr h) = absurd h

  pub ticks_agree : (k : Option Condition) → KnownClock k → clock_ticks base m.on (clock_place node k) ≡ ticks base var k
  ticks_agree None known = refl
  ticks_agree (Some c) known = ap {B = Ticks} (λ (s : Stream) t. truth_in (pattern_value c.pattern) (s t)) (agree c.variable known)

  seen_leaf : (f : Flow) (i w : ℕ) (val : ℕ → Stream) (G F : Type 0) → ((j : ℕ) → flow_stream base m f ≡ val j) → (FlowFails base m t kind f → G) → (F → FlowFails base m t kind f) → Seen (leaf f) no_spots i w val G F
  seen_leaf f i w val G F h g b s placed hold = (λ j lt. h j, (tt, g), λ x. inr (b x))

  pub operand_at : (s : ℕ) (inner : List Flow) (root : Root) (v : Stream) → Hold base m s (inner ++ root_flows root) → root_stream base m root 0 ≡ v → m.on (root_place (s + length inner) root) ≡ v
  operand_at s inner (own f) v hold e = (each_right (FlowHolds base m) s inner (f ∷ []) hold).0 ∙ e
  operand_at s inner (at a) v hold e = let z : a ≡ a + 0 = omega arith in ap m.on z ∙ e

  operand_tells : (G : Type 0) (s : ℕ) (inner : List Flow) (root : Root) → Each (FlowReports G) s inner → RootReports G root → Each (FlowReports G) s (inner ++ root_flows root)
  operand_tells G s inner (own f) h g = each_join (FlowReports G) s inner (f ∷ []) h (g, tt)
  operand_tells G s inner (at a) h g = each_join (FlowReports G) s inner [] h tt

  seen_after : (a : Walking) (rest : ℕ → Walking) (spa spr : ℕ → List Spot) (i na w : ℕ) (va val : ℕ → Stream) (G FA FR F : Type 0)
      → ((s : ℕ) → length (spa s) ≡ na) → (F → FA ⊎ FR) → Seen a spa i 1 va G FA → ((x : ℕ) → m.on x ≡ va 0 → Seen (rest x) spr (i + na) w val G FR)
      → Seen (after a rest) (spots_after a spa spr) i w val G F
  seen_after a rest spa spr i na w va val G FA FR F ls way first then s placed hold =
      let S = behind s (a s) in
      let r = rest (place s (a s)) S in
      let h = each_left (FlowHolds base m) s (made (a s)) r.inner hold in
      let f = first s (each_left _ i (spa s) (spr S) placed) (each_left (FlowHolds base m) s (a s).inner (root_flows (a s).root) h) in
      let x = operand_at s (a s).inner (a s).root (va 0) h (f.0 0 (omega arith)) in
      let placed' = subst (λ n. Each Placed (i + n) (spr S)) (ls s) (each_right _ i (spa s) (spr S) placed) in
      let u = then (place s (a s)) x S placed' (each_right (FlowHolds base m) s (made (a s)) r.inner hold) in (
        u.0,
        (each_join (FlowReports G) s (made (a s)) r.inner (operand_tells G s (a s).inner (a s).root f.1.0 f.1.1) u.1.0, u.1.1),
        λ h. ⊎_elim (λ (x : FA). inl (found_left (made (a s)) r.inner (found_operand (a s).inner (a s).root (f.2 x)))) (λ (y : FR). both (found_right (made (a s)) r.inner) (λ z. z) (u.2 y)) (way h),
      )

  seen_one : (a : Walking) (operator : ℕ → Flow) (spa : ℕ → List Spot) (i na w : ℕ) (va val : ℕ → Stream) (G FA O F : Type 0)
      → ((s : ℕ) → length (spa s) ≡ na) → (F → FA ⊎ O) → Seen a spa i 1 va G FA
      → ((x : ℕ) → m.on x ≡ va 0 → (j : ℕ) → flow_stream base m (operator x) ≡ val j)
      → ((x : ℕ) → m.on x ≡ va 0 → FlowFails base m t kind (operator x) → G)
      → ((x : ℕ) → m.on x ≡ va 0 → O → FlowFails base m t kind (operator x))
      → Seen (after a (λ x. leaf (operator x))) (spots_after a spa no_spots) i w val G F
  seen_one a operator spa i na w va val G FA O F ls way first h g b =
      seen_after a (λ x. leaf (operator x)) spa no_spots i na w va val G FA O F ls way first (λ x e. seen_leaf (operator x) (i + na) w val G O (h x e) (g x e) (b x e))

  seen_two : (a b : Walking) (operator : ℕ → ℕ → Flow) (spa spb : ℕ → List Spot) (i na nb w : ℕ) (va vb val : ℕ → Stream) (G FA FB O F : Type 0)
      → ((s : ℕ) → length (spa s) ≡ na) → ((s : ℕ) → length (spb s) ≡ nb) → (F → FA ⊎ (FB ⊎ O)) → Seen a spa i 1 va G FA → Seen b spb (i + na) 1 vb G FB
      → ((x y : ℕ) → m.on x ≡ va 0 → m.on y ≡ vb 0 → (j : ℕ) → flow_stream base m (operator x y) ≡ val j)
      → ((x y : ℕ) → m.on x ≡ va 0 → m.on y ≡ vb 0 → FlowFails base m t kind (operator x y) → G)
      → ((x y : ℕ) → m.on x ≡ va 0 → m.on y ≡ vb 0 → O → FlowFails base m t kind (operator x y))
      → Seen (after a (λ x. after b (λ y. leaf (operator x y)))) (spots_after a spa (spots_after b spb no_spots)) i w val G F
  seen_two a b operator spa spb i na nb w va vb val G FA FB O F ls ls' way first second h g c =
      seen_after a (λ x. after b (λ y. leaf (operator x y))) spa (spots_after b spb no_spots) i na w va val G FA (FB ⊎ O) F ls way first
      (λ x e. seen_one b (operator x) spb (i + na) nb w vb val G FB O (FB ⊎ O) ls' (λ z. z) second (λ y e' j. h x y e e' j) (λ y e'. g x y e e') (λ y e'. c x y e e'))

  seen_instance : (f : List ℕ) (k : Option Condition) (xs : List ℕ) (i w : ℕ) (G : Type 0) → KnownClock k → CallIs p node Below f (length xs) w
      → ((depth : ℕ) → CallFails depth f (ticks base var k) i → G)
      → Seen (instance p lists f (clock_place node k) xs) (spot_at f) i w (λ j. below i (output_name p f j)) G ((depth : ℕ) × CallFails depth f (ticks base var k) i)
  seen_instance f k xs i w G known is g s placed hold =
      let fl = list_of p lists f in
      let ck = clock_place node k in
      let mm = moved_model m s xs in
      let solved = instance_solves base m s ck xs fl hold in (
        λ j lt.
            let lo : j < length is.callee.outputs = (let e = is.outputs_are in omega arith) in
            let here = output_place p f is.callee j is.found (apart f is.callee is.found) lo in
            let y : s + inputs_in (node_called p f) + j ≡ s + (inputs_in (node_called p f) + j) = omega arith in
            let there = subst (λ o. slice_get (variables_of is.callee) (length is.callee.inputs + j) ≡ Some (name_at (outputs_in o) j)) (sym is.found) (output_there is.callee j lo) in
            let has = contains_get (variables_of is.callee) (output_name p f j) (length is.callee.inputs + j) there in
            ap m.on y ∙ ap (λ n. m.on (s + n)) (sym here) ∙ placed.0 [] is.callee (output_name p f j) is.found has,
        (
          each_map (FlowReports G) (moved s ck xs) s fl (each_all (λ j flow. FlowReports G j (moved s ck xs flow)) s fl (λ j flow e h.
              let r = (tells f is.below).0 is.callee is.found (clock_ticks base m.on ck) mm (λ path. σ (i ∷ path)) solved placed.0 j flow e (flow_moved base m t kind s ck xs flow h) in
              g r.2.3.0 (r.2.0, subst (λ c. faults.FailsWithin p t kind r.2.3.0 f c (λ path. σ (i ∷ path)) r.2.0) (ticks_agree k known) r.2.3.1))),
          tt,
        ),
        λ h.
            let h' = subst (λ c. faults.FailsWithin p t kind h.0 f c (λ path. σ (i ∷ path)) h.1.0) (sym (ticks_agree k known)) h.1.1 in
            let r = (tells f is.below).1 is.callee is.found (clock_ticks base m.on ck) mm (λ path. σ (i ∷ path)) solved placed.0 h.1.0 (h.0, h') in
            inl (r.0, moved s ck xs r.1, slice_get-map (moved s ck xs) fl r.0 ∙ ap (option_map (moved s ck xs)) r.2, flow_unmoved base m t kind s ck xs r.1 r.3),
      )

  abbrev K : Option Condition → Ticks
  K k = ticks base var k

  abbrev val : Tree → Option Condition → ℕ → Stream
  val e k i = value p node base var below e k i

  pub is_value : (e : Tree) (k : Option Condition) (i x : ℕ) → m.on x ≡ output p node base var below e k i 0 → m.on x ≡ val e k i
  is_value e k i x h = h ∙ output_value p node base var below e k i

  pub at_instant : (e : Tree) (k : Option Condition) (i x : ℕ) (d : Datum) → m.on x ≡ output p node base var below e k i 0 → m.on x t ≡ streams.Known (Present d) → val e k i t ≡ streams.Known (Present d)
  at_instant e k i x d h present = ap (λ (s : Stream). s t) (sym (is_value e k i x h)) ∙ present

  from_instant : (e : Tree) (k : Option Condition) (i x : ℕ) (d : Datum) → m.on x ≡ output p node base var below e k i 0 → val e k i t ≡ streams.Known (Present d) → m.on x t ≡ streams.Known (Present d)
  from_instant e k i x d h present = ap (λ (s : Stream). s t) (is_value e k i x h) ∙ present

  clock_from : (k : Option Condition) → KnownClock k → K k t ≡ Some true → clock_ticks base m.on (clock_place node k) t ≡ Some true
  clock_from k known h = ap (λ (c : Ticks). c t) (ticks_agree k known) ∙ h

  -- an expression fails, within some depth
  abbrev pub SomeFail : Tree → Option Condition → ℕ → Type 0
  SomeFail e k i = (depth : ℕ) × Fails depth e k i

  abbrev pub SomeAny : Trees → Option Condition → ℕ → Type 0
  SomeAny all k i = (depth : ℕ) × AnyFails depth all k i

  abbrev pub SomeBranch : List ℕ → List Pattern → Trees → ℕ → Type 0
  SomeBranch c ps all i = (depth : ℕ) × BranchFails depth c ps all i

  pub clock_then : (k : Option Condition) → KnownClock k → clock_ticks base m.on (clock_place node k) t ≡ Some true → K k t ≡ Some true
  clock_then k known h = ap (λ (c : Ticks). c t) (sym (ticks_agree k known)) ∙ h

  more_way : (a : Tree) (all : Trees) (k : Option Condition) (i : ℕ) (FR : Type 0) → SomeAny (tree.more a all) k i ⊎ FR → SomeFail a k i ⊎ (SomeAny all k (i + calls a) ⊎ FR)
  more_way a all k i FR (inl (depth, inl h)) = inl (depth, h)
  more_way a all k i FR (inl (depth, inr h)) = inr (inl (depth, h))
  more_way a all k i FR (inr h) = inr (inr h)

  branch_way : (a : Tree) (c : List ℕ) (ps : List Pattern) (all : Trees) (i : ℕ) (FR : Type 0) → SomeBranch c ps (tree.more a all) i ⊎ FR → SomeFail a (condition c (first_pattern ps)) i ⊎ (SomeBranch c (next_patterns ps) all (i + calls a) ⊎ FR)
  branch_way a c ps all i FR (inl (depth, inl h)) = inl (depth, h)
  branch_way a c ps all i FR (inl (depth, inr h)) = inr (inl (depth, h))
  branch_way a c ps all i FR (inr h) = inr (inr h)

  module _ (clock_known : (x : List ℕ) → KnownClock (clock_of node x)) where
    mutual
      pub seen : (e : Tree) (k : Option Condition) (i w : ℕ) (G : Type 0) → KnownClock k → IsWell p node Below e w → ((depth : ℕ) → Fails depth e k i → G) → Seen (walk p lists node e k) (spots p lists node e k) i w (output p node base var below e k i) G (SomeFail e k i)
      seen (tree.number n) k i w G known well g =
          seen_leaf (flow_of p lists node (tree.number n) k (Constant (Int (pos n)))) i w (λ j. val (tree.number n) k i) G (SomeFail (tree.number n) k i) (λ j. ap (constant_stream (Int (pos n))) (ticks_agree k known)) (λ h. absurd h.1) (λ h. absurd h.1)
      seen (tree.truth b) k i w G known well g =
          seen_leaf (flow_of p lists node (tree.truth b) k (Constant (Truth b))) i w (λ j. val (tree.truth b) k i) G (SomeFail (tree.truth b) k i) (λ j. ap (constant_stream (Truth b)) (ticks_agree k known)) (λ h. absurd h.1) (λ h. absurd h.1)
      seen (tree.label x) k i w G known well g =
          seen_leaf (flow_of p lists node (tree.label x) k (Constant (Name x.number))) i w (λ j. val (tree.label x) k i) G (SomeFail (tree.label x) k i) (λ j. ap (constant_stream (Name x.number)) (ticks_agree k known)) (λ h. absurd h.1) (λ h. absurd h.1)
      seen (tree.variable x) k i w G known well g = λ s placed hold.
          (λ j lt. let e = well.0 in let z : variable_place p lists node x + j ≡ variable_place p lists node x = omega arith in ap m.on z ∙ agree x well.1, (tt, tt), λ h. absurd h.1)
      seen (tree.unary (Data1 op) a) k i w G known well g =
          seen_one (walk p lists node a k) (λ x. flow_of p lists node (tree.unary (Data1 op) a) k (Unary op x)) (spots p lists node a k) i (calls a) w (output p node base var below a k i) (λ j. val (tree.unary (Data1 op) a) k i) G (SomeFail a k i) (faults.OneFails op (K k) (val a k i) t kind) (SomeFail (tree.unary (Data1 op) a) k i)
          (length-spots p lists node a k) (λ h. turn (both (λ x. x) (λ y. (h.0, y)) h.1)) (seen a k i 1 G known well (λ d h. g d (inr h)))
          (λ x e j. ap (λ c. unary_stream op c (m.on x)) (ticks_agree k known) ∙ ap (unary_stream op (K k)) (is_value a k i x e))
          (λ x e h. g 0 (inl (record { clock = clock_then k known h.0; x = h.1.0; operand = at_instant a k i x h.1.0 e h.1.1; fault = h.1.2 })))
          (λ x e h. (clock_from k known h.clock, (h.x, from_instant a k i x h.x e h.operand, h.fault)))
      seen (tree.unary Before a) k i w G known well g =
          seen_one (walk p lists node a k) (λ x. flow_of p lists node (tree.unary Before a) k (Pre x)) (spots p lists node a k) i (calls a) w (output p node base var below a k i) (λ j. val (tree.unary Before a) k i) G (SomeFail a k i) ⊥ (SomeFail (tree.unary Before a) k i)
          (length-spots p lists node a k) inl (seen a k i 1 G known well g)
          (λ x e j. ap (λ c. pre_stream c (m.on x)) (ticks_agree k known) ∙ ap (pre_stream (K k)) (is_value a k i x e))
          (λ x e h. absurd h.1) (λ x e h. absurd h)
      seen (tree.binary (Data2 op) a b) k i w G known well g =
          let ib = i + calls a in
          seen_two (walk p lists node a k) (walk p lists node b k) (λ x y. flow_of p lists node (tree.binary (Data2 op) a b) k (Binary op x y)) (spots p lists node a k) (spots p lists node b k) i (calls a) (calls b) w
          (output p node base var below a k i) (output p node base var below b k ib) (λ j. val (tree.binary (Data2 op) a b) k i) G (SomeFail a k i) (SomeFail b k ib) (faults.TwoFail op (K k) (val a k i) (val b k ib) t kind) (SomeFail (tree.binary (Data2 op) a b) k i)
          (length-spots p lists node a k) (length-spots p lists node b k) (λ h. last (both (λ x. x) (both (λ y. (h.0, y)) (λ y. (h.0, y))) h.1)) (seen a k i 1 G known well.0 (λ d h. g d (inr (inl h)))) (seen b k ib 1 G known well.1 (λ d h. g d (inr (inr h))))
          (λ x y e e' j. ap (λ c. binary_stream op c (m.on x) (m.on y)) (ticks_agree k known) ∙ ap (λ u. binary_stream op (K k) u (m.on y)) (is_value a k i x e) ∙ ap (binary_stream op (K k) (val a k i)) (is_value b k ib y e'))
          (λ x y e e' h. g 0 (inl (record { clock = clock_then k known h.0; x = h.1.0; y = h.1.1; left = at_instant a k i x h.1.0 e h.1.2; right = at_instant b k ib y h.1.1 e' h.1.3; fault = h.1.4 })))
          (λ x y e e' h. (clock_from k known h.clock, (h.x, h.y, from_instant a k i x h.x e h.left, from_instant b k ib y h.y e' h.right, h.fault)))
      seen (tree.binary Starts a b) k i w G known well g =
          let ib = i + calls a in
          seen_two (walk p lists node a k) (walk p lists node b k) (λ x y. flow_of p lists node (tree.binary Starts a b) k (Arrow x y)) (spots p lists node a k) (spots p lists node b k) i (calls a) (calls b) w
          (output p node base var below a k i) (output p node base var below b k ib) (λ j. val (tree.binary Starts a b) k i) G (SomeFail a k i) (SomeFail b k ib) ⊥ (SomeFail (tree.binary Starts a b) k i)
          (length-spots p lists node a k) (length-spots p lists node b k) (λ h. both (λ y. (h.0, y)) (λ y. inl (h.0, y)) h.1) (seen a k i 1 G known well.0 (λ d h. g d (inl h))) (seen b k ib 1 G known well.1 (λ d h. g d (inr h)))
          (λ x y e e' j. ap (λ c. arrow_stream c (m.on x) (m.on y)) (ticks_agree k known) ∙ ap (λ u. arrow_stream (K k) u (m.on y)) (is_value a k i x e) ∙ ap (arrow_stream (K k) (val a k i)) (is_value b k ib y e'))
          (λ x y e e' h. absurd h.1) (λ x y e e' h. absurd h)
      seen (tree.binary FollowedBy a b) k i w G known well g =
          let ib = i + calls a in
          let pre = λ (y : ℕ). flow_of p lists node (tree.unary Before b) k (Pre y) in
          let root = λ (x z : ℕ). flow_of p lists node (tree.binary FollowedBy a b) k (Arrow x z) in
          let va = output p node base var below a k i in
          let vb = output p node base var below b k ib in
          let vp = λ (j : ℕ). pre_stream (K k) (val b k ib) in
          let v = λ (j : ℕ). val (tree.binary FollowedBy a b) k i in
          seen_after (walk p lists node a k) (λ x. after (walk p lists node b k) (λ y. after (leaf (pre y)) (λ z. leaf (root x z)))) (spots p lists node a k) (spots_after (walk p lists node b k) (spots p lists node b k) no_spots) i (calls a) w va v G (SomeFail a k i) (SomeFail b k ib) (SomeFail (tree.binary FollowedBy a b) k i)
          (length-spots p lists node a k) (λ h. both (λ y. (h.0, y)) (λ y. (h.0, y)) h.1) (seen a k i 1 G known well.0 (λ d h. g d (inl h)))
          (λ x e.
          seen_after (walk p lists node b k) (λ y. after (leaf (pre y)) (λ z. leaf (root x z))) (spots p lists node b k) no_spots ib (calls b) w vb v G (SomeFail b k ib) ⊥ (SomeFail b k ib)
          (length-spots p lists node b k) inl (seen b k ib 1 G known well.1 (λ d h. g d (inr h)))
          (λ y e'.
          seen_one (leaf (pre y)) (root x) no_spots (ib + calls b) 0 w vp v G ⊥ ⊥ ⊥ (λ s. refl) inl
          (seen_leaf (pre y) (ib + calls b) 1 vp G ⊥ (λ j. ap (λ c. pre_stream c (m.on y)) (ticks_agree k known) ∙ ap (pre_stream (K k)) (is_value b k ib y e')) (λ h. absurd h.1) (λ h. absurd h))
          (λ z e'' j. ap (λ c. arrow_stream c (m.on x) (m.on z)) (ticks_agree k known) ∙ ap (λ u. arrow_stream (K k) u (m.on z)) (is_value a k i x e) ∙ ap (arrow_stream (K k) (val a k i)) e'')
          (λ z e'' h. absurd h.1) (λ z e'' h. absurd h)))
      seen (tree.choice c a b) k i w G known well g =
          let ia = i + calls c in
          let ib = i + calls c + calls a in
          let root = λ (x y z : ℕ). flow_of p lists node (tree.choice c a b) k (If x y z) in
          let v = λ (j : ℕ). val (tree.choice c a b) k i in
          seen_after (walk p lists node c k) (λ x. after (walk p lists node a k) (λ y. after (walk p lists node b k) (λ z. leaf (root x y z)))) (spots p lists node c k) (spots_after (walk p lists node a k) (spots p lists node a k) (spots_after (walk p lists node b k) (spots p lists node b k) no_spots)) i (calls c) w
          (output p node base var below c k i) v G (SomeFail c k i) (SomeFail a k ia ⊎ SomeFail b k ib) (SomeFail (tree.choice c a b) k i)
          (length-spots p lists node c k) (λ h. both (λ y. (h.0, y)) (both (λ y. (h.0, y)) (λ y. (h.0, y))) h.1) (seen c k i 1 G known well.0 (λ d h. g d (inl h)))
          (λ x e.
          seen_two (walk p lists node a k) (walk p lists node b k) (root x) (spots p lists node a k) (spots p lists node b k) ia (calls a) (calls b) w
          (output p node base var below a k ia) (output p node base var below b k ib) v G (SomeFail a k ia) (SomeFail b k ib) ⊥ (SomeFail a k ia ⊎ SomeFail b k ib)
          (length-spots p lists node a k) (length-spots p lists node b k) (both (λ y. y) inl) (seen a k ia 1 G known well.1 (λ d h. g d (inr (inl h)))) (seen b k ib 1 G known well.2 (λ d h. g d (inr (inr h))))
          (λ y z e' e'' j. ap (λ u. choice_stream u (m.on x) (m.on y) (m.on z)) (ticks_agree k known) ∙ ap (λ u. choice_stream (K k) u (m.on y) (m.on z)) (is_value c k i x e) ∙ ap (λ u. choice_stream (K k) (val c k i) u (m.on z)) (is_value a k ia y e') ∙ ap (choice_stream (K k) (val c k i) (val a k ia)) (is_value b k ib z e''))
          (λ y z e' e'' h. absurd h.1) (λ y z e' e'' h. absurd h))
      seen (tree.when a c) k i w G known well g =
          let kc = clock_of node c.variable in
          seen_one (walk p lists node a kc) (λ x. flow_of p lists node (tree.when a c) (Some c) (When x)) (spots p lists node a kc) i (calls a) w (output p node base var below a kc i) (λ j. val (tree.when a c) k i) G (SomeFail a kc i) ⊥ (SomeFail (tree.when a c) k i)
          (length-spots p lists node a kc) inl (seen a kc i 1 G (clock_known c.variable) well.1 g)
          (λ x e j. ap (λ u. when_stream u (m.on x)) (ticks_agree (Some c) well.0) ∙ ap (when_stream (K (Some c))) (is_value a kc i x e))
          (λ x e h. absurd h.1) (λ x e h. absurd h)
      seen (tree.current x) k i w G known well g =
          seen_leaf (flow_of p lists node (tree.current x) k (Current (variable_place p lists node x))) i w (λ j. val (tree.current x) k i) G (SomeFail (tree.current x) k i)
          (λ j. ap (λ c. current_stream c (m.on (variable_place p lists node x))) (ticks_agree k known) ∙ ap (current_stream (K k)) (agree x well)) (λ h. absurd h.1) (λ h. absurd h.1)
      seen (tree.merge c ps all) k i w G known well g =
          let cp = variable_place p lists node c in
          let root = λ (xs : List ℕ). flow_of p lists node (tree.merge c ps all) k (Merge cp xs) in
          seen_branches c ps all i w G ⊥ (SomeFail (tree.merge c ps all) k i) (λ xs. leaf (root xs)) no_spots (λ j. val (tree.merge c ps all) k i) inl well.0 well.1 g
          (λ xs e. seen_leaf (root xs) (i + calls_in all) w (λ j. val (tree.merge c ps all) k i) G ⊥
          (λ j. ap (λ u. merge_stream u (m.on cp) (map m.on xs)) (ticks_agree k known) ∙ ap (λ u. merge_stream (K k) u (map m.on xs)) (agree c well.0) ∙ ap (merge_stream (K k) (var c)) e)
          (λ h. absurd h.1) (λ h. absurd h))
      seen (tree.call f all) k i w G known well g =
          seen_all all k i w G ((depth : ℕ) × CallFails depth f (K k) (i + calls_in all)) (SomeFail (tree.call f all) k i) (λ xs. instance p lists f (clock_place node k) xs) (spot_at f) (output p node base var below (tree.call f all) k i) (λ h. both (λ y. (h.0, y)) (λ y. (h.0, y)) h.1) known well.1 (λ d h. g d (inl h))
          (λ xs l. seen_instance f k xs (i + calls_in all) w G known (subst (λ n. CallIs p node Below f n w) (sym l) well.0) (λ d h. g d (inr h)))

      -- the arguments of a call, and the rest
      pub seen_all : (all : Trees) (k : Option Condition) (i w : ℕ) (G FR F : Type 0) (rest : List ℕ → Walking) (spr : ℕ → List Spot) (result : ℕ → Stream) → (F → SomeAny all k i ⊎ FR) → KnownClock k → AllWell p node Below all → ((depth : ℕ) → AnyFails depth all k i → G)
          → ((xs : List ℕ) → length xs ≡ length (trees_in all) → Seen (rest xs) spr (i + calls_in all) w result G FR)
          → Seen (walk_all p lists node all k rest) (spots_all p lists node all k spr) i w result G F
      seen_all tree.none k i w G FR F rest spr result way known well g h =
          let z : i + 0 ≡ i = omega arith in
          let r = subst (λ n. Seen (rest []) spr n w result G FR) z (h [] refl) in
          λ s placed hold.
          let u = r s placed hold in
          (u.0, u.1, λ x. ⊎_elim (λ (none : SomeAny tree.none k i). absurd none.1) u.2 (way x))
      seen_all (tree.more a all) k i w G FR F rest spr result way known well g h =
          let z : i + calls_in (tree.more a all) ≡ i + calls a + calls_in all = omega arith in
          seen_after (walk p lists node a k) (λ x. walk_all p lists node all k (λ xs. rest (x ∷ xs))) (spots p lists node a k) (spots_all p lists node all k spr) i (calls a) w (output p node base var below a k i) result G (SomeFail a k i) (SomeAny all k (i + calls a) ⊎ FR) F
          (length-spots p lists node a k) (λ x. more_way a all k i FR (way x)) (seen a k i 1 G known well.0 (λ d h. g d (inl h)))
          (λ x e. seen_all all k (i + calls a) w G FR (SomeAny all k (i + calls a) ⊎ FR) (λ xs. rest (x ∷ xs)) spr result (λ y. y) known well.1 (λ d h. g d (inr h))
          (λ xs l. subst (λ n. Seen (rest (x ∷ xs)) spr n w result G FR) z (h (x ∷ xs) (ap suc l))))

      -- the branches of a merge, and the rest
      pub seen_branches : (c : List ℕ) (ps : List Pattern) (all : Trees) (i w : ℕ) (G FR F : Type 0) (rest : List ℕ → Walking) (spr : ℕ → List Spot) (result : ℕ → Stream) → (F → SomeBranch c ps all i ⊎ FR) → Known p node Below c → AllWell p node Below all → ((depth : ℕ) → BranchFails depth c ps all i → G)
          → ((xs : List ℕ) → map m.on xs ≡ branches p node base var below c ps all i → Seen (rest xs) spr (i + calls_in all) w result G FR)
          → Seen (walk_branches p lists node c ps all rest) (spots_branches p lists node c ps all spr) i w result G F
      seen_branches c ps tree.none i w G FR F rest spr result way known well g h =
          let z : i + 0 ≡ i = omega arith in
          let r = subst (λ n. Seen (rest []) spr n w result G FR) z (h [] refl) in
          λ s placed hold.
          let u = r s placed hold in
          (u.0, u.1, λ x. ⊎_elim (λ (none : SomeBranch c ps tree.none i). absurd none.1) u.2 (way x))
      seen_branches c ps (tree.more a all) i w G FR F rest spr result way known well g h =
          let k = condition c (first_pattern ps) in
          let qs = next_patterns ps in
          let z : i + calls_in (tree.more a all) ≡ i + calls a + calls_in all = omega arith in
          seen_after (walk p lists node a k) (λ x. walk_branches p lists node c qs all (λ xs. rest (x ∷ xs))) (spots p lists node a k) (spots_branches p lists node c qs all spr) i (calls a) w (output p node base var below a k i) result G (SomeFail a k i) (SomeBranch c qs all (i + calls a) ⊎ FR) F
          (length-spots p lists node a k) (λ x. branch_way a c ps all i FR (way x)) (seen a k i 1 G known well.0 (λ d h. g d (inl h)))
          (λ x e. seen_branches c qs all (i + calls a) w G FR (SomeBranch c qs all (i + calls a) ⊎ FR) (λ xs. rest (x ∷ xs)) spr result (λ y. y) known well.1 (λ d h. g d (inr h))
          (λ xs e'. subst (λ n. Seen (rest (x ∷ xs)) spr n w result G FR) z (h (x ∷ xs) (ap (λ y. y ∷ map m.on xs) (is_value a k i x e) ∙ ap (λ ys. val a k i ∷ ys) e'))))
