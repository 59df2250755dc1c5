-- What holds of a table that is cut to its first instants: at these the program does what it does at the whole table.
use Rattle.std.proofs.Common.{◌≡◌, ℕ, zero, suc, ◌+◌, ◌*◌, ◌<◌, ◌≤◌, true, List, [], ◌∷◌, length, map, take, Some, nat_lt, refl, sym, ap, ap₂, ◌∙◌, subst, arith}
use Rattle.std.specs.Prelude.{All, Contains, slice_get, slice_index}
use Rattle.std.proofs.lemmas.List.{length-take-le, length-map}
use Rattle.std.proofs.lemmas.List.Elements.{All-nil, All-cons, All-head, All-tail, All-get_or, All-weaker}
use Rattle.std.proofs.Math.Nat.{mul-le-mul_right}
use Rattle.std.proofs.Math.ListN.{get_or-map}
use Rattle.std.specs.declared.string.String.{String}
use Rattle.std.specs.declared.alloc.Global.{Global}
use Rattle.lutree.specs.declared.program.Kind.{Kind}
use Rattle.luflow.specs.declared.form.Clock.{Clock}
use Rattle.luflow.specs.declared.form.Clock.TheVariants.{Base, On}
use Rattle.luflow.specs.declared.form.Form.{Form}
use Rattle.luflow.specs.declared.form.Form.TheVariants.{Input, Constant, Copied, Unary, Binary, If, Pre, Arrow, When, Current, Merge}
use Rattle.luflow.specs.declared.form.Flow.{Flow}
use Rattle.luflow.specs.declared.form.FaultKind.{FaultKind}
use Rattle.luflow.specs.Program.{FlatView, InputsView, Column, flow_at, flows_of, places, clock_reads, form_reads, reads, data_of, IsOrdered}
use Rattle.luflow.specs.Streams.{Streams, datum_of, clock_at, truth_in}
use Rattle.luflow.specs.Values.{gives, on_two, arrow_of, value_at, under}
use Rattle.luflow.specs.Solution.{says, IsSolution}
use Rattle.luflow.specs.Sound.{IsFitFor, IsFit}
use Rattle.luflow.specs.declared.values.Values.{Values}
use Rattle.luflow.specs.Packed.{data_in}
use Rattle.luflow.specs.Tables.{IsTable, column_view, columns_view}
use Rattle.luflow.specs.Faults.{IsFault, IsFaultOn}
use Rattle.luflow.specs.Faults.IsFaultOn.{OnBinary, OnUnary}
use Rattle.luflow.proofs.Solutions.{Agree, SameTo, says-same, ticked-same, flow_there, rank_of, rows_apart, rows_below, place_of, all_left, all_right}
use Rattle.luchart.specs.Cut.{cut, cut_column}

-- TABLES

long : (n m : ℕ) (columns : List Column) → n ≤ m → All (λ column. length column.values ≡ m) columns → All (λ column. length column.values ≡ n) (map (cut_column n) columns)
long n m [] le all = All-nil (λ column. length column.values ≡ n)
long n m (c ∷ cs) le all =
    let first : length c.values ≡ m = All-head (λ (column : Column). length column.values ≡ m) c cs all in
    All-cons (λ column. length column.values ≡ n) (cut_column n c) (map (cut_column n) cs) (length-take-le n c.values (omega (arith, first, le))) (long n m cs le (All-tail (λ (column : Column). length column.values ≡ m) c cs all))

pub is_table : (n : ℕ) (inputs : InputsView) → n ≤ inputs.instants → IsTable inputs → IsTable (cut n inputs)
is_table n inputs le is = let few = is.few in record { few = omega (arith, le, few); long = long n inputs.instants inputs.columns le is.long }

-- each column as the code has it is long enough
pub long_enough : (n : ℕ) (inputs : InputsView) (xs : List (String Global × Values)) → columns_view xs ≡ inputs.columns → n ≤ inputs.instants → IsTable inputs → All (λ x. n ≤ length (data_in x.1)) xs
long_enough n inputs xs e le is = λ k d lt.
    let h = subst (λ (cs : List Column). All (λ column. length column.values ≡ inputs.instants) cs) (sym e) is.long k (column_view d) (omega (arith, lt, length-map xs column_view)) in
    let same = ap (λ (column : Column). length column.values) (get_or-map column_view xs k d) in
    omega (arith, h, same, le)

-- VALUES

taken_at : {X : Type 0} (n t : ℕ) (xs : List X) → t < n → slice_get (take n xs) t ≡ slice_get xs t
taken_at zero t xs lt = absurd (omega (arith, lt))
taken_at (suc n) t [] lt = refl
taken_at (suc n) zero (x ∷ xs) lt = refl
taken_at (suc n) (suc t) (x ∷ xs) lt = taken_at n t xs (omega (arith, lt))

column_cut : (n c : ℕ) (columns : List Column) (t : ℕ) → t < n → slice_get (data_of (slice_get (map (cut_column n) columns) c)) t ≡ slice_get (data_of (slice_get columns c)) t
column_cut n c [] t lt = refl
column_cut n zero (x ∷ columns) t lt = taken_at n t x.values lt
column_cut n (suc c) (x ∷ columns) t lt = column_cut n c columns t lt

lt_true : (a b : ℕ) → a < b → nat_lt a b ≡ true
lt_true a b lt = grind (arith)

module _ (flat : FlatView) (ordered : IsOrdered flat) where
  same_earlier : (σ σ' : Streams) (m q u v : ℕ) → SameTo flat σ σ' m → u * length flat.order + q ≤ m → v < u → (r : ℕ) → r < flows_of flat → σ r v ≡ σ' r v
  same_earlier σ σ' m q u v same le l r lr =
      let w = rank_of flat ordered r lr in
      let below : v * length flat.order + w.0 < m = rows_apart v u (length flat.order) w.0 m l w.1 (omega arith) in
      subst (λ (i : ℕ). σ i v ≡ σ' i v) w.2 (same.at w.0 v w.1 below)

  same_reads : (σ σ' : Streams) (m q u : ℕ) → SameTo flat σ σ' m → u * length flat.order + q ≤ m → (r : ℕ) → Contains (take q flat.order) r → σ r u ≡ σ' r u
  same_reads σ σ' m q u same le r c =
      let w = place_of flat.order q r c in
      let below : u * length flat.order + w.0 < m = omega arith in
      subst (λ (i : ℕ). σ i u ≡ σ' i u) w.3 (same.at w.0 u w.2 below)

  -- what the value of rank q rests on, where two streams are the same before it
  agree_from : (σ σ' : Streams) (m q u : ℕ) (flow : Flow) → SameTo flat σ σ' m → q < length flat.order → u * length flat.order + q ≤ m → flow_at flat (slice_index flat.order q) ≡ Some flow → Agree σ σ' flow u
  agree_from σ σ' m q u flow same lq le is =
      let first = ordered.reads_first q flow lq is in
      let all = All-weaker (λ r. Contains (take q flat.order) r) (λ r. σ r u ≡ σ' r u) (same_reads σ σ' m q u same le) (reads flow) first in
      record {
        now = all_left (λ r. σ r u ≡ σ' r u) (form_reads flow.form) (clock_reads flow.clock) all;
        then = λ v l. All-weaker (λ r. r < flows_of flat) (λ r. σ r v ≡ σ' r v) (same_earlier σ σ' m q u v same le l) (places flow.form) (ordered.places_in (slice_index flat.order q) flow is);
        clock_now = all_right (λ r. σ r u ≡ σ' r u) (form_reads flow.form) (clock_reads flow.clock) all;
        clock_then = λ v l. All-weaker (λ r. r < flows_of flat) (λ r. σ r v ≡ σ' r v) (same_earlier σ σ' m q u v same le l) (clock_reads flow.clock) (ordered.clocks_in (slice_index flat.order q) flow is);
      }

module _ (n : ℕ) (inputs : InputsView) (le : n ≤ inputs.instants) where
  fit_for : (s : Kind) (form : Form) → IsFitFor inputs s form → IsFitFor (cut n inputs) s form
  fit_for s (Input c) h = λ t lt. let w = h t (omega (arith, lt, le)) in (w.0, column_cut n c inputs.columns t lt ∙ w.1, w.2)
  fit_for s (Constant d) h = h
  fit_for s (Copied a) h = h
  fit_for s (Unary op a) h = h
  fit_for s (Binary op a b) h = h
  fit_for s (If c a b) h = h
  fit_for s (Pre a) h = h
  fit_for s (Arrow a b) h = h
  fit_for s (When a) h = h
  fit_for s (Current a) h = h
  fit_for s (Merge c xs) h = h

  -- what fits a program fits it when it is cut
  pub fit : (flat : FlatView) → IsFit flat inputs → IsFit flat (cut n inputs)
  fit flat is = record { columns = λ i flow there. fit_for flow.kind flow.form (is.columns i flow there) }

  clock_cut : (σ : Streams) (clock : Clock) (t : ℕ) → t < n → clock_at (cut n inputs) σ clock t ≡ clock_at inputs σ clock t
  clock_cut σ Base t lt = ap Some (lt_true t n lt ∙ sym (lt_true t inputs.instants (omega (arith, lt, le))))
  clock_cut σ (On c d) t lt = refl

  value_cut : (σ : Streams) (k : Clock) (form : Form) (t : ℕ) → t < n → value_at (cut n inputs) σ k form t ≡ value_at inputs σ k form t
  value_cut σ k (Input c) t lt = ap gives (column_cut n c inputs.columns t lt)
  value_cut σ k (Constant d) t lt = refl
  value_cut σ k (Copied a) t lt = refl
  value_cut σ k (Unary op a) t lt = refl
  value_cut σ k (Binary op a b) t lt = refl
  value_cut σ k (If c a b) t lt = refl
  value_cut σ k (Pre a) t lt = refl
  value_cut σ k (Arrow a b) t lt =
      ap (λ q. on_two (arrow_of q) (datum_of (σ a t)) (datum_of (σ b t))) (ticked-same (clock_at (cut n inputs) σ k) (clock_at inputs σ k) t (λ u l. clock_cut σ k u (omega (arith, l, lt))))
  value_cut σ k (When a) t lt = refl
  value_cut σ k (Current a) t lt = refl
  value_cut σ k (Merge c xs) t lt = refl

  says_cut : (σ : Streams) (flow : Flow) (t : ℕ) → t < n → says (cut n inputs) σ (Some flow) t ≡ says inputs σ (Some flow) t
  says_cut σ flow t lt = ap₂ under (clock_cut σ flow.clock t lt) (value_cut σ flow.clock flow.form t lt)

  -- SOLUTIONS

  module _ (flat : FlatView) (ordered : IsOrdered flat) (σ σ' : Streams) (solves : IsSolution flat inputs σ) (solves' : IsSolution flat (cut n inputs) σ') where
    same_to : (m : ℕ) → m ≤ n * length flat.order → SameTo flat σ' σ m
    same_to zero few = record { at = λ q u lq l. absurd (omega arith) }
    same_to (suc m) few = record {
      at = λ q u lq l.
          let i = slice_index flat.order q in
          let li = All-get_or (λ i. i < flows_of flat) flat.order q 0 lq ordered.only_flows in
          let early : u < n = rows_below u n (length flat.order) q (omega (arith, l, few)) in
          let f = flow_there flat ordered q lq in
          let same = says-same (cut n inputs) σ' σ u f.0 (agree_from flat ordered σ' σ m q u f.0 (same_to m (omega (arith, few))) lq (omega (arith, l)) f.1) in
          solves' i u li ∙ ap (λ o. says (cut n inputs) σ' o u) f.1 ∙ same ∙ says_cut σ f.0 u early ∙ sym (ap (λ o. says inputs σ o u) f.1) ∙ sym (solves i u li);
    }

    -- at the instants that are left each flow has what it has at the whole table
    pub same_before : (i t : ℕ) → i < flows_of flat → t < n → σ' i t ≡ σ i t
    same_before i t li lt =
        let w = rank_of flat ordered i li in
        let rank = w.1 in
        let rows = mul-le-mul_right (length flat.order) lt in
        let m = suc (t * length flat.order + w.0) in
        let few : m ≤ n * length flat.order = omega (arith, rows, rank) in
        subst (λ (j : ℕ). σ' j t ≡ σ j t) w.2 ((same_to m few).at w.0 t rank (omega arith))

    fault_on : (form : Form) (t : ℕ) (kind : FaultKind) → All (λ r. r < flows_of flat) (places form) → t < n → IsFaultOn σ' t form kind → IsFaultOn σ t form kind
    fault_on _ t _ inside lt (OnBinary op a b x y kind left right fault) =
        OnBinary op a b x y kind (sym (same_before a t (inside 0 0 (omega arith)) lt) ∙ left) (sym (same_before b t (inside 1 0 (omega arith)) lt) ∙ right) fault
    fault_on _ t _ inside lt (OnUnary op a x kind there fault) =
        OnUnary op a x kind (sym (same_before a t (inside 0 0 (omega arith)) lt) ∙ there) fault

    clock_same : (clock : Clock) (t : ℕ) → All (λ r. r < flows_of flat) (clock_reads clock) → t < n → clock_at (cut n inputs) σ' clock t ≡ clock_at inputs σ clock t
    clock_same Base t inside lt = clock_cut σ Base t lt
    clock_same (On c d) t inside lt = ap (truth_in d) (same_before c t (inside 0 0 (omega arith)) lt)

    -- and a fault there is one of the whole table
    pub fault_there : (i t : ℕ) (kind : FaultKind) → t < n → IsFault flat (cut n inputs) σ' i t kind → IsFault flat inputs σ i t kind
    fault_there i t kind lt f = record {
      flow = f.flow;
      there = f.there;
      clock = sym (clock_same f.flow.clock t (ordered.clocks_in i f.flow f.there) lt) ∙ f.clock;
      fault = fault_on f.flow.form t kind (ordered.places_in i f.flow f.there) lt f.fault;
    }
