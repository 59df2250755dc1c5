-- Tables that agree on their first instants have solutions that agree there.
use Rattle.std.proofs.Common.{◌≡◌, ℕ, zero, suc, ◌+◌, ◌*◌, ◌<◌, ◌≤◌, true, List, map, Option, Some, None, nat_lt, refl, sym, ap, ap₂, ◌∙◌, subst, arith}
use Rattle.std.specs.Prelude.{slice_get, slice_index, length, All}
use Rattle.std.proofs.lemmas.Bool.Decides.{nat_tests}
use Rattle.std.proofs.lemmas.List.Elements.{All-get_or}
use Rattle.luflow.specs.declared.form.Clock.{Clock}
use Rattle.luflow.specs.declared.form.Clock.TheVariants.{Base, On}
use Rattle.luflow.specs.declared.form.Form.{Form}
use Rattle.luflow.specs.declared.form.Form.TheVariants.{Input, Constant, Copied, Unary, Binary, If, Pre, Arrow, When, Current, Merge}
use Rattle.luflow.specs.declared.form.Flow.{Flow}
use Rattle.luflow.specs.Program.{FlatView, InputsView, flow_at, flows_of, column_of, IsOrdered}
use Rattle.luflow.specs.Streams.{Streams, clock_at, base_clock, ticked, datum_of}
use Rattle.luflow.specs.Values.{gives, on_two, arrow_of, value_at, under}
use Rattle.luflow.specs.Solution.{says, IsSolution}
use Rattle.luflow.specs.Prefixes.{AgreeTo}
use Rattle.luflow.proofs.Solutions.{SameTo, SameTo-sweep, flow_there, rank_of, rows_apart, rows_below, ticked-same}

base-same : (n : ℕ) (one other : InputsView) → AgreeTo n one other → (t : ℕ) → t < n → base_clock one t ≡ base_clock other t
base-same n one other a t l =
    let long = a.one_long in
    let other_long = a.other_long in
    let e : nat_lt t one.instants ≡ true = grind (arith, nat_tests) in
    let f : nat_lt t other.instants ≡ true = grind (arith, nat_tests) in
    ap Some (e ∙ sym f)

clock-same : (n : ℕ) (one other : InputsView) → AgreeTo n one other → (σ : Streams) (k : Clock) (t : ℕ) → t < n → clock_at one σ k t ≡ clock_at other σ k t
clock-same n one other a σ Base t l = base-same n one other a t l
clock-same n one other a σ (On c d) t l = refl

value-same : (n : ℕ) (one other : InputsView) → AgreeTo n one other → (σ : Streams) (k : Clock) (form : Form) (t : ℕ) → t < n → value_at one σ k form t ≡ value_at other σ k form t
value-same n one other a σ k (Input c) t l = ap gives (a.same c t l)
value-same n one other a σ k (Constant d) t l = refl
value-same n one other a σ k (Copied x) t l = refl
value-same n one other a σ k (Unary op x) t l = refl
value-same n one other a σ k (Binary op x y) t l = refl
value-same n one other a σ k (If c x y) t l = refl
value-same n one other a σ k (Pre x) t l = refl
value-same n one other a σ k (Arrow x y) t l =
    ap (λ q. on_two (arrow_of q) (datum_of (σ x t)) (datum_of (σ y t)))
    (ticked-same (clock_at one σ k) (clock_at other σ k) t (λ u lu. clock-same n one other a σ k u (omega arith)))
value-same n one other a σ k (When x) t l = refl
value-same n one other a σ k (Current x) t l = refl
value-same n one other a σ k (Merge c xs) t l = refl

says-same : (n : ℕ) (one other : InputsView) → AgreeTo n one other → (σ : Streams) (o : Option Flow) (t : ℕ) → t < n → says one σ o t ≡ says other σ o t
says-same n one other a σ None t l = refl
says-same n one other a σ (Some flow) t l = ap₂ under (clock-same n one other a σ flow.clock t l) (value-same n one other a σ flow.clock flow.form t l)

agrees : (flat : FlatView) (one other : InputsView) (n m : ℕ) (σ τ : Streams) → IsOrdered flat → AgreeTo n one other → IsSolution flat one σ → IsSolution flat other τ → m ≤ n * length flat.order → SameTo flat σ τ m
agrees flat one other n zero σ τ ordered a s s' le = record { at = λ q u lq l. absurd (omega arith) }
agrees flat one other n (suc m) σ τ ordered a s s' le = record {
  at = λ q u lq l.
      let i = slice_index flat.order q in
      let li = All-get_or (λ i. i < flows_of flat) flat.order q 0 lq ordered.only_flows in
      let early : u < n = rows_below u n (length flat.order) q (omega arith) in
      s i u li
      ∙ says-same n one other a σ (flow_at flat i) u early
      ∙ (SameTo-sweep flat other σ τ m ordered (agrees flat one other n m σ τ ordered a s s' (omega arith))).at q u lq l
      ∙ sym (s' i u li);
}

pub prefix_same : (flat : FlatView) (one other : InputsView) (n : ℕ) → IsOrdered flat → AgreeTo n one other → (σ τ : Streams) → IsSolution flat one σ → IsSolution flat other τ → (i t : ℕ) → i < flows_of flat → t < n → σ i t ≡ τ i t
prefix_same flat one other n ordered a σ τ s s' i t li lt =
    let w = rank_of flat ordered i li in
    let m = suc (t * length flat.order + w.0) in
    let below = rows_apart t n (length flat.order) w.0 (n * length flat.order) lt w.1 (omega arith) in
    let same = (agrees flat one other n m σ τ ordered a s s' (omega arith)).at w.0 t w.1 (omega arith) in
    subst (λ (j : ℕ). σ j t ≡ τ j t) w.2 same
