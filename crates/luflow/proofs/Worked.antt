-- Facts of worked programs, by tests that compute.
use Rattle.std.proofs.Common.{◌≡◌, ℕ, zero, suc, ◌<◌, inl, inr, Bool, true, false, nat_eq, List, [], ◌∷◌, ◌++◌, length, take, Option, Some, None, refl, sym, ap, ◌∙◌, subst, arith}
use Rattle.std.specs.Prelude.{slice_get, slice_index, All, Contains, ◌&&◌, ◌||◌, not, nat_lt}
use Rattle.std.specs.List.{list_all}
use Rattle.std.specs.Option.{option_map}
use Rattle.std.proofs.lemmas.Bool.{agree_below, agree_below_at, and_parts, cases_eq, false≢true, ltb-true, lt-ltb, eqb-true, eq-eqb, ne_eqb}
use Rattle.std.proofs.lemmas.List.Elements.{All-weaker}
use Rattle.std.proofs.lemmas.List.Sums.{AllPass-from_list_all}
use Rattle.std.proofs.lemmas.Option.{slice_get_within, get_or_from_slice_get, same_Some}
use Rattle.lutree.specs.declared.program.Kind.{Kind}
use Rattle.lutree.specs.declared.program.Kind.TheVariants.{Int as Ints, Bool as Truths, Enum as Names}
use Rattle.luflow.specs.declared.data.Datum.{Datum}
use Rattle.luflow.specs.declared.data.Datum.TheVariants.{Int, Bool as Truth, Name, Nil}
use Rattle.luflow.specs.declared.form.Flow.{Flow}
use Rattle.luflow.specs.declared.variable.Variable.{Variable}
use Rattle.luflow.specs.Program.{FlatView, InputsView, IsOrdered, flow_at, flows_of, places, clock_reads, reads}
use Rattle.luflow.specs.Flats.{IsTypeAmong, IsWithin}
use Rattle.luflow.specs.Rank.{has, is_ready, IsNext, IsRankOrder}
use Rattle.luflow.specs.Sound.{IsConstantOf}
use Rattle.luflow.proofs.Solutions.{some_at}

not_true : (b : Bool) → not b ≡ true → b ≡ false
not_true true e = absurd (false≢true e)
not_true false e = refl

pub implied : (b c : Bool) → (b || not c) ≡ true → c ≡ true → b ≡ true
implied true c h e = refl
implied false true h e = absurd (false≢true h)
implied false false h e = absurd (false≢true e)

-- a test at each number below n
abbrev pub passes : (ℕ → Bool) → ℕ → Bool
passes p n = agree_below p (λ i. true) n

pub pass_at : (p : ℕ → Bool) (n i : ℕ) → passes p n ≡ true → i < n → p i ≡ true
pass_at p n i h l = agree_below_at p (λ i. true) n i h l

pub all_where : {X : Type 0} (p : X → Bool) (P : X → Type 0) (xs : List X) → ((x : X) → p x ≡ true → P x) → list_all p xs ≡ true → All P xs
all_where p P xs f h = All-weaker (λ x. p x ≡ true) P f xs (AllPass-from_list_all p xs h)

pub contains_from_has : (xs : List ℕ) (x : ℕ) → has xs x ≡ true → Contains xs x
contains_from_has [] x h = absurd (false≢true h)
contains_from_has (y ∷ ys) x h = elim (cases_eq y x) [
  | inl e ↦ (0, omega arith, e)
  | inr ne ↦ let rest = contains_from_has ys x (sym (ap (λ b. b || has ys x) (ne_eqb y x ne)) ∙ h) in let l = rest.1 in (suc rest.0, omega (arith, l), rest.2)
]

-- what holds of each element of a list and its place
abbrev pub Each : {X : Type 0} → (ℕ → X → Type 0) → List X → Type 0
Each P [] = Unit {0}
Each P (x ∷ xs) = P 0 x × Each (λ k y. P (suc k) y) xs

pub each_at : {X : Type 0} (P : ℕ → X → Type 0) (xs : List X) → Each P xs → (k : ℕ) (y : X) → slice_get xs k ≡ Some y → P k y
each_at P [] h k y e = cc
each_at P (x ∷ xs) h zero y e = let same : x ≡ y = cc in subst (P 0) same h.0
each_at P (x ∷ xs) h (suc k) y e = each_at (λ k y. P (suc k) y) xs h.1 k y e

-- the order of ranks, by a test of each place in it
abbrev is_next : List (List ℕ) → List ℕ → ℕ → Bool
is_next rows before x = nat_lt x (length rows) && (is_ready rows before x && passes (λ y. not (is_ready rows before y)) x)

next_is : (rows : List (List ℕ)) (before : List ℕ) (x : ℕ) → is_next rows before x ≡ true → IsNext rows before x
next_is rows before x h =
    let a = and_parts (nat_lt x (length rows)) _ h in
    let b = and_parts (is_ready rows before x) _ a.1 in
    record {
      inside = ltb-true x (length rows) a.0;
      ready = b.0;
      least = λ y l. not_true (is_ready rows before y) (pass_at (λ y. not (is_ready rows before y)) x y b.1 l);
    }

pub ranked : (rows : List (List ℕ)) (order : List ℕ) → length order ≡ length rows → passes (λ p. is_next rows (take p order) (slice_index order p)) (length order) ≡ true → IsRankOrder rows order
ranked rows order count h =
    record {
      count = count;
      each = λ p x e.
          let l = slice_get_within order p x e in
          let i : slice_index order p ≡ x = get_or_from_slice_get order p x 0 e in
          subst (IsNext rows (take p order)) i (next_is rows (take p order) (slice_index order p) (pass_at (λ p. is_next rows (take p order) (slice_index order p)) (length order) p h l));
    }

-- a test of each flow and its place
abbrev pub on_flow : (Flow → Bool) → Option Flow → Bool
on_flow p None = true
on_flow p (Some flow) = p flow

pub flow_passes : (flat : FlatView) (p : ℕ → Flow → Bool) → passes (λ i. on_flow (p i) (flow_at flat i)) (flows_of flat) ≡ true → (i : ℕ) (flow : Flow) → flow_at flat i ≡ Some flow → p i flow ≡ true
flow_passes flat p h i flow e = sym (ap (on_flow (p i)) e) ∙ pass_at (λ i. on_flow (p i) (flow_at flat i)) (flows_of flat) i h (slice_get_within flat.flows i flow e)

-- the names of a flow are places, and the order has each place once, after what it reads
module _ (flat : FlatView) where
  abbrev are_in : ℕ → List ℕ → Bool
  are_in n xs = list_all (λ r. nat_lt r n) xs

  abbrev reads_before : ℕ → Flow → Bool
  reads_before p flow = list_all (λ r. has (take p flat.order) r) (reads flow)

  abbrev differ : ℕ → ℕ → Bool
  differ p q = nat_eq p q || not (nat_eq (slice_index flat.order p) (slice_index flat.order q))

  pub places_below : (n : ℕ) (xs : List ℕ) → are_in n xs ≡ true → All (λ r. r < n) xs
  places_below n xs h = all_where (λ r. nat_lt r n) (λ r. r < n) xs (λ r e. ltb-true r n e) h

  pub ordered :
      passes (λ i. on_flow (λ flow. are_in (flows_of flat) (places flow.form)) (flow_at flat i)) (flows_of flat) ≡ true
      → passes (λ i. on_flow (λ flow. are_in (flows_of flat) (clock_reads flow.clock)) (flow_at flat i)) (flows_of flat) ≡ true
      → passes (has flat.order) (flows_of flat) ≡ true
      → are_in (flows_of flat) flat.order ≡ true
      → passes (λ p. passes (differ p) (length flat.order)) (length flat.order) ≡ true
      → passes (λ p. on_flow (reads_before p) (flow_at flat (slice_index flat.order p))) (length flat.order) ≡ true
      → IsOrdered flat
  ordered in_places in_clocks all only apart first =
      record {
        places_in = λ i flow e. places_below (flows_of flat) (places flow.form) (flow_passes flat (λ i flow. are_in (flows_of flat) (places flow.form)) in_places i flow e);
        clocks_in = λ i flow e. places_below (flows_of flat) (clock_reads flow.clock) (flow_passes flat (λ i flow. are_in (flows_of flat) (clock_reads flow.clock)) in_clocks i flow e);
        all_flows = λ i l. contains_from_has flat.order i (pass_at (has flat.order) (flows_of flat) i all l);
        only_flows = places_below (flows_of flat) flat.order only;
        once = λ p q lp lq e.
            let d = pass_at (differ p) (length flat.order) q (pass_at (λ p. passes (differ p) (length flat.order)) (length flat.order) p apart lp) lq in
            eqb-true p q (implied (nat_eq p q) (nat_eq (slice_index flat.order p) (slice_index flat.order q)) d (eq-eqb (slice_index flat.order p) (slice_index flat.order q) e));
        reads_first = λ p flow l e.
            let h = pass_at (λ p. on_flow (reads_before p) (flow_at flat (slice_index flat.order p))) (length flat.order) p first l in
            all_where (λ r. has (take p flat.order) r) (Contains (take p flat.order)) (reads flow) (λ r e. contains_from_has (take p flat.order) r e) (sym (ap (on_flow (reads_before p)) e) ∙ h);
      }

  -- a main variable, or a flow of the same equation
  abbrev is_within : ℕ → ℕ → Bool
  is_within i r = nat_lt r (length flat.variables) || nat_eq (slice_index flat.owners r) (slice_index flat.owners i)

  within_is : (i r : ℕ) → is_within i r ≡ true → IsWithin flat i r
  within_is i r h = go (nat_lt r (length flat.variables)) refl h
    where
      go : (b : Bool) → nat_lt r (length flat.variables) ≡ b → (b || nat_eq (slice_index flat.owners r) (slice_index flat.owners i)) ≡ true → IsWithin flat i r
      go true e h = inl (ltb-true r (length flat.variables) e)
      go false e h = inr (eqb-true (slice_index flat.owners r) (slice_index flat.owners i) h)

  pub inner : passes (λ i. on_flow (λ flow. list_all (is_within i) (places flow.form ++ clock_reads flow.clock)) (flow_at flat i)) (flows_of flat) ≡ true → (i : ℕ) (flow : Flow) → flow_at flat i ≡ Some flow → All (IsWithin flat i) (places flow.form ++ clock_reads flow.clock)
  inner h i flow e = all_where (is_within i) (IsWithin flat i) (places flow.form ++ clock_reads flow.clock) (within_is i) (flow_passes flat (λ i flow. list_all (is_within i) (places flow.form ++ clock_reads flow.clock)) h i flow e)

  pub main_clocks : passes (λ i. on_flow (λ flow. are_in (length flat.variables) (clock_reads flow.clock) || not (nat_lt i (length flat.variables))) (flow_at flat i)) (flows_of flat) ≡ true → (v : ℕ) (flow : Flow) → v < length flat.variables → flow_at flat v ≡ Some flow → All (λ c. c < length flat.variables) (clock_reads flow.clock)
  main_clocks h v flow l e =
      let test = flow_passes flat (λ i flow. are_in (length flat.variables) (clock_reads flow.clock) || not (nat_lt i (length flat.variables))) h v flow e in
      places_below (length flat.variables) (clock_reads flow.clock) (implied (are_in (length flat.variables) (clock_reads flow.clock)) (nat_lt v (length flat.variables)) test (lt-ltb v (length flat.variables) l))

  -- a variable's flow has its type, and each type is one of the program's
  pub kinds : Each (λ v (x : Variable). option_map (λ (flow : Flow). flow.kind) (flow_at flat v) ≡ Some x.kind) flat.variables → (v : ℕ) (x : Variable) (flow : Flow) → slice_get flat.variables v ≡ Some x → flow_at flat v ≡ Some flow → flow.kind ≡ x.kind
  kinds all v x flow at there =
      same_Some flow.kind x.kind (sym (ap (option_map (λ (f : Flow). f.kind)) there) ∙ each_at (λ v (x : Variable). option_map (λ (f : Flow). f.kind) (flow_at flat v) ≡ Some x.kind) flat.variables all v x at)

  pub types : Each (λ i (flow : Flow). IsTypeAmong flat.types flow.kind) flat.flows → (i : ℕ) (flow : Flow) → flow_at flat i ≡ Some flow → IsTypeAmong flat.types flow.kind
  types all i flow at = each_at (λ i (f : Flow). IsTypeAmong flat.types f.kind) flat.flows all i flow at

-- the data of a column
abbrev is_constant : Kind → Datum → Bool
is_constant Ints (Int n) = true
is_constant Ints (Truth b) = false
is_constant Ints (Name k) = false
is_constant Ints Nil = false
is_constant Truths (Int n) = false
is_constant Truths (Truth b) = true
is_constant Truths (Name k) = false
is_constant Truths Nil = false
is_constant (Names p n) (Int z) = false
is_constant (Names p n) (Truth b) = false
is_constant (Names p n) (Name k) = nat_lt k n
is_constant (Names p n) Nil = false

constant_is : (s : Kind) (d : Datum) → is_constant s d ≡ true → IsConstantOf s d
constant_is Ints (Int n) h = (tt, λ e. cc)
constant_is Ints (Truth b) h = cc
constant_is Ints (Name k) h = cc
constant_is Ints Nil h = cc
constant_is Truths (Int n) h = cc
constant_is Truths (Truth b) h = (tt, λ e. cc)
constant_is Truths (Name k) h = cc
constant_is Truths Nil h = cc
constant_is (Names p n) (Int z) h = cc
constant_is (Names p n) (Truth b) h = cc
constant_is (Names p n) (Name k) h = (ltb-true k n h, λ e. cc)
constant_is (Names p n) Nil h = cc

pub column : (s : Kind) (ds : List Datum) → list_all (is_constant s) ds ≡ true → (t : ℕ) → t < length ds → (d : Datum) × (slice_get ds t ≡ Some d) × IsConstantOf s d
column s ds h t l =
    let x = some_at ds t l in
    let i = get_or_from_slice_get ds t x.0 x.0 x.1 in
    (x.0, x.1, subst (IsConstantOf s) i (all_where (is_constant s) (IsConstantOf s) ds (constant_is s) h t x.0 l))

-- each column has a value for each instant
pub columns_long : (inputs : InputsView) → list_all (λ c. nat_eq (length c.values) inputs.instants) inputs.columns ≡ true → All (λ c. length c.values ≡ inputs.instants) inputs.columns
columns_long inputs h = all_where (λ c. nat_eq (length c.values) inputs.instants) (λ c. length c.values ≡ inputs.instants) inputs.columns (λ c e. eqb-true (length c.values) inputs.instants e) h
