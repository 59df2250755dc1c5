-- There is exactly one solution.
use Rattle.std.proofs.Common.{◌≡◌, ℕ, zero, suc, ◌+◌, ◌*◌, ◌-◌, ◌<◌, ◌≤◌, inl, inr, Bool, List, [], ◌∷◌, ◌++◌, length, map, take, Option, Some, min, subst, length-append, length-take, refl, sym, ap, ap₂, ◌∙◌, arith}
use Rattle.std.specs.Prelude.{slice_get, slice_index, All, Contains}
use Rattle.std.proofs.lemmas.List.Elements.{All-contains, All-get_or, All-weaker}
use Rattle.std.proofs.lemmas.Option.{slice_get_within, get_or_from_slice_get}
use Rattle.std.proofs.lemmas.List.{get_or_append_left, get_or-append-add, get_or_default, get_or-take}
use Rattle.std.proofs.Math.Nat.{mul-le-mul_right}
use Rattle.std.proofs.lemmas.Bool.{cases_lt}
use Rattle.luflow.specs.declared.form.Clock.{Clock}
use Rattle.luflow.specs.declared.form.Clock.TheVariants.{Base, On}
use Rattle.luflow.specs.declared.form.Form.{Form}
use Rattle.luflow.specs.declared.form.Form.TheVariants.{Input, Constant, Copied, Unary, Binary, If, Pre, Arrow, When, Current, Merge}
use Rattle.luflow.specs.declared.form.Flow.{Flow}
use Rattle.luflow.specs.Program.{FlatView, InputsView, flow_at, flows_of, places, clock_reads, form_reads, reads, IsOrdered}
use Rattle.luflow.specs.Operators.{single_of, double_of, choice_of}
use Rattle.luflow.specs.Streams.{Mark, Streams, datum_of, truth_in, clock_at, either, ticked, newer, before}
use Rattle.luflow.specs.Values.{gives, on_one, on_two, on_three, arrow_of, merge_of, value_at, under}
use Rattle.luflow.specs.Solution.{says, IsSolution, sweep, sweeps, solution}

pub some_at : {X : Type 0} (xs : List X) (i : ℕ) → i < length xs → (x : X) × (slice_get xs i ≡ Some x)
some_at [] i l = absurd (omega arith)
some_at (x ∷ xs) zero l = (x, refl)
some_at (x ∷ xs) (suc i) l = some_at xs i (omega arith)

-- two streams that are the same before t
pub before-same : (s s' : ℕ → Mark) (t : ℕ) → ((u : ℕ) → u < t → s u ≡ s' u) → before s t ≡ before s' t
before-same s s' zero h = refl
before-same s s' (suc t) h = ap₂ newer (h t (omega arith)) (before-same s s' t (λ u l. h u (omega arith)))

pub ticked-same : (k k' : ℕ → Option Bool) (t : ℕ) → ((u : ℕ) → u < t → k u ≡ k' u) → ticked k t ≡ ticked k' t
ticked-same k k' zero h = refl
ticked-same k k' (suc t) h = ap₂ either (h t (omega arith)) (ticked-same k k' t (λ u l. h u (omega arith)))

pub all_at : {X : Type 0} (P : X → Type 0) (xs : List X) (k : ℕ) (x : X) → All P xs → slice_get xs k ≡ Some x → P x
all_at P xs k x all at = All-contains P xs x all (k, slice_get_within xs k x at, get_or_from_slice_get xs k x x at)

pub clock-same : (inputs : InputsView) (σ σ' : Streams) (clock : Clock) (t : ℕ) → All (λ r. σ r t ≡ σ' r t) (clock_reads clock) → clock_at inputs σ clock t ≡ clock_at inputs σ' clock t
clock-same inputs σ σ' Base t h = refl
clock-same inputs σ σ' (On c d) t h = ap (truth_in d) (All-get_or (λ r. σ r t ≡ σ' r t) (c ∷ []) 0 c (omega arith) h)

-- what a value rests on
pub record Agree (σ σ' : Streams) (flow : Flow) (t : ℕ) : Type 0 where
  pub now : All (λ r. σ r t ≡ σ' r t) (form_reads flow.form)
  pub then : (u : ℕ) → u < t → All (λ r. σ r u ≡ σ' r u) (places flow.form)
  pub clock_now : All (λ r. σ r t ≡ σ' r t) (clock_reads flow.clock)
  pub clock_then : (u : ℕ) → u < t → All (λ r. σ r u ≡ σ' r u) (clock_reads flow.clock)

pub first_of_all : (P : ℕ → Type 0) (a : ℕ) (rs : List ℕ) → All P (a ∷ rs) → P a
first_of_all P a rs h = All-get_or P (a ∷ rs) 0 a (omega arith) h

pub rest_of_all : (P : ℕ → Type 0) (a : ℕ) (rs : List ℕ) → All P (a ∷ rs) → All P rs
rest_of_all P a rs h = λ k d l. h (suc k) d (omega arith)

-- what two functions that agree on a list give for it
pub map-same : {X : Type 0} (f g : ℕ → X) (xs : List ℕ) → All (λ r. f r ≡ g r) xs → map f xs ≡ map g xs
map-same f g [] h = refl
map-same f g (x ∷ xs) h = ap₂ (λ y ys. y ∷ ys) (first_of_all (λ r. f r ≡ g r) x xs h) (map-same f g xs (rest_of_all (λ r. f r ≡ g r) x xs h))

pub second_of_all : (P : ℕ → Type 0) (a b : ℕ) (rs : List ℕ) → All P (a ∷ b ∷ rs) → P b
second_of_all P a b rs h = All-get_or P (a ∷ b ∷ rs) 1 a (omega arith) h

pub third_of_all : (P : ℕ → Type 0) (a b c : ℕ) (rs : List ℕ) → All P (a ∷ b ∷ c ∷ rs) → P c
third_of_all P a b c rs h = All-get_or P (a ∷ b ∷ c ∷ rs) 2 a (omega arith) h

value-same : (inputs : InputsView) (σ σ' : Streams) (k : Clock) (form : Form) (t : ℕ) → All (λ r. σ r t ≡ σ' r t) (form_reads form) → ((u : ℕ) → u < t → All (λ r. σ r u ≡ σ' r u) (places form)) → ticked (clock_at inputs σ k) t ≡ ticked (clock_at inputs σ' k) t → value_at inputs σ k form t ≡ value_at inputs σ' k form t
value-same inputs σ σ' k (Input c) t now then w = refl
value-same inputs σ σ' k (Constant d) t now then w = refl
value-same inputs σ σ' k (Copied a) t now then w = ap (λ m. gives (datum_of m)) (first_of_all (λ r. σ r t ≡ σ' r t) a [] now)
value-same inputs σ σ' k (Unary op a) t now then w = ap (λ m. on_one (single_of op) (datum_of m)) (first_of_all (λ r. σ r t ≡ σ' r t) a [] now)
value-same inputs σ σ' k (Binary op a b) t now then w =
    ap₂ (λ m n. on_two (double_of op) (datum_of m) (datum_of n)) (first_of_all (λ r. σ r t ≡ σ' r t) a (b ∷ []) now) (second_of_all (λ r. σ r t ≡ σ' r t) a b [] now)
value-same inputs σ σ' k (If c a b) t now then w =
    ap (λ m. on_three choice_of (datum_of m) (datum_of (σ a t)) (datum_of (σ b t))) (first_of_all (λ r. σ r t ≡ σ' r t) c (a ∷ b ∷ []) now)
    ∙ ap₂ (λ m n. on_three choice_of (datum_of (σ' c t)) (datum_of m) (datum_of n)) (second_of_all (λ r. σ r t ≡ σ' r t) c a (b ∷ []) now) (third_of_all (λ r. σ r t ≡ σ' r t) c a b [] now)
value-same inputs σ σ' k (Pre a) t now then w = ap gives (before-same (σ a) (σ' a) t (λ u l. first_of_all (λ r. σ r u ≡ σ' r u) a [] (then u l)))
value-same inputs σ σ' k (Arrow a b) t now then w =
    ap (λ q. on_two (arrow_of q) (datum_of (σ a t)) (datum_of (σ b t))) w
    ∙ ap₂ (λ m n. on_two (arrow_of (ticked (clock_at inputs σ' k) t)) (datum_of m) (datum_of n)) (first_of_all (λ r. σ r t ≡ σ' r t) a (b ∷ []) now) (second_of_all (λ r. σ r t ≡ σ' r t) a b [] now)
value-same inputs σ σ' k (When a) t now then w = ap (λ m. gives (datum_of m)) (first_of_all (λ r. σ r t ≡ σ' r t) a [] now)
value-same inputs σ σ' k (Current a) t now then w = ap₂ (λ m n. gives (newer m n)) (first_of_all (λ r. σ r t ≡ σ' r t) a [] now) (before-same (σ a) (σ' a) t (λ u l. first_of_all (λ r. σ r u ≡ σ' r u) a [] (then u l)))
value-same inputs σ σ' k (Merge c xs) t now then w =
    ap₂ (λ m branches. merge_of (datum_of m) branches) (first_of_all (λ r. σ r t ≡ σ' r t) c xs now)
    (map-same (λ r. datum_of (σ r t)) (λ r. datum_of (σ' r t)) xs (All-weaker (λ r. σ r t ≡ σ' r t) (λ r. datum_of (σ r t) ≡ datum_of (σ' r t)) (λ r e. ap datum_of e) xs (rest_of_all (λ r. σ r t ≡ σ' r t) c xs now)))

pub says-same : (inputs : InputsView) (σ σ' : Streams) (t : ℕ) (flow : Flow) → Agree σ σ' flow t → says inputs σ (Some flow) t ≡ says inputs σ' (Some flow) t
says-same inputs σ σ' t flow a =
    ap₂ under (clock-same inputs σ σ' flow.clock t a.clock_now) (value-same inputs σ σ' flow.clock flow.form t a.now a.then (ticked-same (clock_at inputs σ flow.clock) (clock_at inputs σ' flow.clock) t (λ u l. clock-same inputs σ σ' flow.clock u (a.clock_then u l))))

pub all_left : {X : Type 0} (P : X → Type 0) (xs ys : List X) → All P (xs ++ ys) → All P xs
all_left P xs ys h = λ k d l. subst P (get_or_append_left xs ys d k l) (h k d (omega (arith, length-append xs ys)))

pub all_right : {X : Type 0} (P : X → Type 0) (xs ys : List X) → All P (xs ++ ys) → All P ys
all_right P xs ys h = λ k d l. subst P (get_or-append-add xs ys k d) (h (length xs + k) d (omega (arith, length-append xs ys)))

-- an element of the first q places, by its place
pub place_of : (xs : List ℕ) (q r : ℕ) → Contains (take q xs) r → (k : ℕ) × (k < q) × (k < length xs) × (slice_index xs k ≡ r)
place_of xs q r c =
    let l : c.0 < min q (length xs) = simp length-take at c.1 in
    let lq : c.0 < q = omega arith in
    let lx : c.0 < length xs = omega arith in
    (c.0, lq, lx, get_or_default xs c.0 0 r lx ∙ sym (get_or-take q xs c.0 r lq) ∙ c.2)

pub place_in : (xs : List ℕ) (r : ℕ) → Contains xs r → (k : ℕ) × (k < length xs) × (slice_index xs k ≡ r)
place_in xs r c = (c.0, c.1, get_or_default xs c.0 0 r c.1 ∙ c.2)

suc-mul : (u n : ℕ) → suc u * n ≡ u * n + n
suc-mul u n = omega arith

pub rows_apart : (u v n a m : ℕ) → u < v → a < n → v * n ≤ m → u * n + a < m
rows_apart u v n a m l la le = let h = mul-le-mul_right n l in omega (arith, h)

pub rows_below : (u v n a : ℕ) → u * n + a < v * n → u < v
rows_below u v n a l = elim (cases_lt u v) [ inl h ↦ h | inr h ↦ let e = mul-le-mul_right n h in absurd (omega (arith, e)) ]

-- the same at the first m points, instant by instant and by rank
pub record SameTo (flat : FlatView) (σ σ' : Streams) (m : ℕ) : Type 0 where
  pub at : (q u : ℕ) → q < length flat.order → u * length flat.order + q < m → σ (slice_index flat.order q) u ≡ σ' (slice_index flat.order q) u

module _ (flat : FlatView) (ordered : IsOrdered flat) where
  pub rank_of : (i : ℕ) → i < flows_of flat → (k : ℕ) × (k < length flat.order) × (slice_index flat.order k ≡ i)
  rank_of i l = place_in flat.order i (ordered.all_flows i l)

  same-earlier : (σ σ' : Streams) (m q u v : ℕ) → SameTo flat σ σ' m → u * length flat.order + q ≤ m → v < u → (r : ℕ) → r < flows_of flat → σ r v ≡ σ' r v
  same-earlier σ σ' m q u v same le l r lr =
      let w = rank_of r lr in
      let below : v * length flat.order + w.0 < m = rows_apart v u (length flat.order) w.0 m l w.1 (omega arith) in
      subst (λ (i : ℕ). σ i v ≡ σ' i v) w.2 (same.at w.0 v w.1 below)

  same-reads : (σ σ' : Streams) (m q u : ℕ) → SameTo flat σ σ' m → u * length flat.order + q ≤ m → (r : ℕ) → Contains (take q flat.order) r → σ r u ≡ σ' r u
  same-reads σ σ' m q u same le r c =
      let w = place_of flat.order q r c in
      let below : u * length flat.order + w.0 < m = omega arith in
      subst (λ (i : ℕ). σ i u ≡ σ' i u) w.3 (same.at w.0 u w.2 below)

  pub flow_there : (q : ℕ) → q < length flat.order → (flow : Flow) × (flow_at flat (slice_index flat.order q) ≡ Some flow)
  flow_there q l =
      let within = All-get_or (λ i. i < flows_of flat) flat.order q 0 l ordered.only_flows in
      some_at flat.flows (slice_index flat.order q) within

  agree-from : (σ σ' : Streams) (m q u : ℕ) (flow : Flow) → SameTo flat σ σ' m → q < length flat.order → u * length flat.order + q ≤ m → flow_at flat (slice_index flat.order q) ≡ Some flow → Agree σ σ' flow u
  agree-from σ σ' m q u flow same lq le is =
      let first = ordered.reads_first q flow lq is in
      let all = All-weaker (λ r. Contains (take q flat.order) r) (λ r. σ r u ≡ σ' r u) (same-reads σ σ' m q u same le) (reads flow) first in
      record {
        now = all_left (λ r. σ r u ≡ σ' r u) (form_reads flow.form) (clock_reads flow.clock) all;
        then = λ v l. All-weaker (λ r. r < flows_of flat) (λ r. σ r v ≡ σ' r v) (same-earlier σ σ' m q u v same le l) (places flow.form) (ordered.places_in (slice_index flat.order q) flow is);
        clock_now = all_right (λ r. σ r u ≡ σ' r u) (form_reads flow.form) (clock_reads flow.clock) all;
        clock_then = λ v l. All-weaker (λ r. r < flows_of flat) (λ r. σ r v ≡ σ' r v) (same-earlier σ σ' m q u v same le l) (clock_reads flow.clock) (ordered.clocks_in (slice_index flat.order q) flow is);
      }

sweep-same : (flat : FlatView) (inputs : InputsView) (σ σ' : Streams) (m q u : ℕ) → IsOrdered flat → SameTo flat σ σ' m → q < length flat.order → u * length flat.order + q ≤ m → sweep flat inputs σ (slice_index flat.order q) u ≡ sweep flat inputs σ' (slice_index flat.order q) u
sweep-same flat inputs σ σ' m q u ordered same lq le =
    let i = slice_index flat.order q in
    let f = flow_there flat ordered q lq in
    let e = says-same inputs σ σ' u f.0 (agree-from flat ordered σ σ' m q u f.0 same lq le f.1) in
    ap (λ o. says inputs σ o u) f.1 ∙ e ∙ sym (ap (λ o. says inputs σ' o u) f.1)

pub SameTo-sweep : (flat : FlatView) (inputs : InputsView) (σ σ' : Streams) (m : ℕ) → IsOrdered flat → SameTo flat σ σ' m → SameTo flat (sweep flat inputs σ) (sweep flat inputs σ') (suc m)
SameTo-sweep flat inputs σ σ' m ordered same = record { at = λ q u lq l. sweep-same flat inputs σ σ' m q u ordered same lq (omega arith) }

-- each sweep settles one more point
pub settles : (flat : FlatView) (inputs : InputsView) (m : ℕ) → IsOrdered flat → SameTo flat (sweeps flat inputs m) (sweep flat inputs (sweeps flat inputs m)) m
settles flat inputs zero ordered = record { at = λ q u lq l. absurd (omega arith) }
settles flat inputs (suc m) ordered = SameTo-sweep flat inputs (sweeps flat inputs m) (sweep flat inputs (sweeps flat inputs m)) m ordered (settles flat inputs m ordered)

-- more sweeps leave what is settled
more_sweeps : (flat : FlatView) (inputs : InputsView) (m k : ℕ) → IsOrdered flat → SameTo flat (sweeps flat inputs m) (sweeps flat inputs (k + m)) m
more_sweeps flat inputs m zero ordered = let e : 0 + m ≡ m = omega arith in record { at = λ q u lq l. ap (λ n. sweeps flat inputs n (slice_index flat.order q) u) (sym e) }
more_sweeps flat inputs m (suc k) ordered =
    let e : suc (k + m) ≡ suc k + m = omega arith in
    record {
      at = λ q u lq l.
          (more_sweeps flat inputs m k ordered).at q u lq l
          ∙ (settles flat inputs (k + m) ordered).at q u lq (omega arith)
          ∙ ap (λ n. sweeps flat inputs n (slice_index flat.order q) u) e;
    }

-- the solution is what any number of sweeps gives that settles a point
settled : (flat : FlatView) (inputs : InputsView) (m q u : ℕ) → IsOrdered flat → q < length flat.order → u * length flat.order + q < m → solution flat inputs (slice_index flat.order q) u ≡ sweeps flat inputs m (slice_index flat.order q) u
unfolding solution
settled flat inputs m q u ordered lq l =
    let n = length flat.order in
    let i = slice_index flat.order q in
    let p = suc (u * n + q) in
    let row : suc u * n ≡ u * n + n = suc-mul u n in
    let a = (more_sweeps flat inputs p (suc u * n - p) ordered).at q u lq (omega arith) in
    let b = (more_sweeps flat inputs p (m - p) ordered).at q u lq (omega arith) in
    let ea : suc u * n - p + p ≡ suc u * n = omega (arith, row) in
    let eb : m - p + p ≡ m = omega arith in
    sym (a ∙ ap (λ k. sweeps flat inputs k i u) ea) ∙ b ∙ ap (λ k. sweeps flat inputs k i u) eb

solution_to : (flat : FlatView) (inputs : InputsView) (m : ℕ) → IsOrdered flat → SameTo flat (solution flat inputs) (sweeps flat inputs m) m
solution_to flat inputs m ordered = record { at = λ q u lq l. settled flat inputs m q u ordered lq l }

pub IsSolution-solution : (flat : FlatView) (inputs : InputsView) → IsOrdered flat → IsSolution flat inputs (solution flat inputs)
IsSolution-solution flat inputs ordered i t li =
    let n = length flat.order in
    let w = rank_of flat ordered i li in
    let m = t * n + w.0 in
    let here : solution flat inputs (slice_index flat.order w.0) t ≡ sweep flat inputs (sweeps flat inputs m) (slice_index flat.order w.0) t = settled flat inputs (suc m) w.0 t ordered w.1 (omega arith) in
    let back = sweep-same flat inputs (solution flat inputs) (sweeps flat inputs m) m w.0 t ordered (solution_to flat inputs m ordered) w.1 (omega arith) in
    subst (λ (j : ℕ). solution flat inputs j t ≡ sweep flat inputs (solution flat inputs) j t) w.2 (here ∙ sym back)

agrees : (flat : FlatView) (inputs : InputsView) (σ σ' : Streams) (m : ℕ) → IsOrdered flat → IsSolution flat inputs σ → IsSolution flat inputs σ' → SameTo flat σ σ' m
agrees flat inputs σ σ' zero ordered s s' = record { at = λ q u lq l. absurd (omega arith) }
agrees flat inputs σ σ' (suc m) ordered s s' = record {
  at = λ q u lq l.
      let i = slice_index flat.order q in
      let li = All-get_or (λ i. i < flows_of flat) flat.order q 0 lq ordered.only_flows in
      s i u li ∙ sweep-same flat inputs σ σ' m q u ordered (agrees flat inputs σ σ' m ordered s s') lq (omega arith) ∙ sym (s' i u li);
}

-- two solutions are the same
pub solutions_same : (flat : FlatView) (inputs : InputsView) (σ σ' : Streams) → IsOrdered flat → IsSolution flat inputs σ → IsSolution flat inputs σ' → (i t : ℕ) → i < flows_of flat → σ i t ≡ σ' i t
solutions_same flat inputs σ σ' ordered s s' i t li =
    let w = rank_of flat ordered i li in
    let m = suc (t * length flat.order + w.0) in
    let same = (agrees flat inputs σ σ' m ordered s s').at w.0 t w.1 (omega arith) in
    subst (λ (j : ℕ). σ j t ≡ σ' j t) w.2 same
