-- The same of streams: by induction on the instant and, there, the rank.
use Rattle.std.proofs.Common.{◌≡◌, ◌≢◌, ℕ, zero, suc, ◌+◌, ◌*◌, ◌<◌, ◌≤◌, inl, inr, Bool, true, false, List, [], ◌∷◌, length, map, take, Option, Some, None, subst, refl, sym, ap, ap₂, ◌∙◌, arith}
use Rattle.std.specs.Prelude.{slice_get, slice_index, All, Contains, nat_lt, option_map, unwrap_or}
use Rattle.std.proofs.lemmas.List.Elements.{All-weaker}
use Rattle.std.proofs.lemmas.Bool.{cases_lt}
use Rattle.std.proofs.lemmas.Option.{slice_get_within, slice_get-map}
use Rattle.luflow.specs.declared.data.Datum.{Datum}
use Rattle.luflow.specs.declared.data.Datum.TheVariants.{Nil}
use Rattle.luflow.specs.declared.data.Status.TheVariants.{Absent, Present}
use Rattle.lutree.specs.declared.program.Kind.{Kind}
use Rattle.lutree.specs.declared.program.Kind.TheVariants.{Int as Ints, Bool as Truths, Enum}
use Rattle.luflow.specs.declared.form.Clock.{Clock}
use Rattle.luflow.specs.declared.form.Clock.TheVariants.{Base, On}
use Rattle.luflow.specs.declared.form.Form.{Form}
use Rattle.luflow.specs.declared.form.Form.TheVariants.{Input, Constant, Copied, Unary, Binary, If, Pre, Arrow, When, Current, Merge}
use Rattle.luflow.specs.declared.form.Flow.{Flow}
use Rattle.luflow.specs.Program.{FlatView, InputsView, flow_at, flows_of, places, clock_reads, form_reads, reads, IsOrdered}
use Rattle.luflow.specs.declared.form.Outcome.TheVariants.{Gives}
use Rattle.luflow.specs.Operators.{single_sort, fits, single_of, double_of}
use Rattle.luflow.specs.Streams.{Mark, Known, Broken, Streams, datum_of, is_value, truth_in, clock_at, either, ticked, before}
use Rattle.luflow.specs.Values.{gives, on_one, on_two, arrow_of, branch_value, merge_of, value_at, under}
use Rattle.luflow.specs.Solution.{says, IsSolution}
use Rattle.luflow.specs.Sound.{IsOf, IsOn, clock_values, BeginsWith, AtMost, FormFits, ClockFits, IsSound, IsFitFor, IsFit, IsTidyMark, IsTidy, IsUnbroken}
use Rattle.luflow.proofs.Solutions.{all_at, first_of_all, second_of_all, third_of_all, all_left, all_right, place_of, rank_of, rows_apart}
use Rattle.luflow.proofs.Patterns.{value_self, branch_there, branch_at, pattern_at}
use Rattle.luflow.proofs.Tidy.{Reads, IsTidyOutcome, operand, gives_ok, one_ok, two_ok, if_ok, arrow_ok, PastReads, newer_ok, either_none, either_false, either_true, truth_known, under_ok}

nil_is : (s : Kind) → IsOf s Nil
nil_is Ints = tt
nil_is Truths = tt
nil_is (Enum p n) = tt

slice_get_below : {X : Type 0} (xs : List X) (i : ℕ) (x : X) → slice_get xs i ≡ Some x → i < length xs
slice_get_below xs i x is = slice_get_within xs i x is

begin_on : (d : Datum) (y : Mark) → is_value d d ≡ true → truth_in d (under (Some true) (on_two (arrow_of (Some false)) (Some d) (datum_of y))) ≡ Some false → ⊥
begin_on d Broken self h = let f : None ≡ Some false = h in cc
begin_on d (Known Absent) self h = let f : None ≡ Some false = h in cc
begin_on d (Known (Present x)) self h = let f : Some (is_value d d) ≡ Some false = h in cc

pub class_zero : {B : Type 0} (s : Kind) (e ea : Bool) (was was' : Option Bool) (m : Mark) (o : Option Datum) → Reads s ea was m o → ea ≡ false → (B → m ≢ Broken) → IsTidyOutcome B s e was' (gives o)
class_zero s e ea was was' m None r c nb = λ b. nb b r
class_zero s e ea was was' m (Some d) r c nb = (r.0, λ n. let g : ea ≡ true = (r.1 n).0 in let clash : false ≡ true = sym c ∙ g in cc)

pre_ok : {B C : Type 0} (s : Kind) (e : Bool) (w : Option Bool) (o : Option Datum) → PastReads C s w o → e ≡ true → (B → C) → IsTidyOutcome B s e w (gives o)
pre_ok s e w None p c back = λ b. p (back b)
pre_ok s e w (Some d) p c back = (p.0, λ n. (c, p.1 n))

current_ok : {B C : Type 0} (s : Kind) (e : Bool) (w w' : Option Bool) (o : Option Datum) → PastReads C s w' o → (w' ≢ Some false) → (B → C) → IsTidyOutcome B s e w (gives o)
current_ok s e w w' None p c back = λ b. p (back b)
current_ok s e w w' (Some d) p c back = (p.0, λ n. absurd (c (p.1 n)))

slow_ok : {B : Type 0} (s : Kind) (e ea : Bool) (was was' : Option Bool) (m : Mark) (o : Option Datum) → Reads s ea was m o → AtMost ea e → (was ≡ Some false → was' ≡ Some false) → (B → m ≢ Broken) → IsTidyOutcome B s e was' (gives o)
slow_ok s e ea was was' m None r le slow nb = λ b. nb b r
slow_ok s e ea was was' m (Some d) r le slow nb = (r.0, λ n. (le (r.1 n).0, slow (r.1 n).1))

-- what surrounds a flow whose clock is true at t
pub record Around (flat : FlatView) (inputs : InputsView) (class : ℕ → Bool) (σ : Streams) (k : Clock) (form : Form) (t : ℕ) : Type 0 where
  pub within : t < inputs.instants
  pub places_in : All (λ r. r < flows_of flat) (places form)
  pub clocks_in : All (λ r. r < flows_of flat) (clock_reads k)
  pub now : All (λ r. IsTidy flat inputs class σ r t) (form_reads form)
  pub clock_now : All (λ r. IsTidy flat inputs class σ r t) (clock_reads k)
  pub then : (r u : ℕ) → r < flows_of flat → u < t → IsTidy flat inputs class σ r u
  pub on : clock_at inputs σ k t ≡ Some true

module _ (flat : FlatView) (inputs : InputsView) (class : ℕ → Bool) (σ : Streams) where
  on_read : (k : Clock) (s : Kind) (r t : ℕ) → IsOn flat k s r → IsTidy flat inputs class σ r t → clock_at inputs σ k t ≡ Some true → Reads s (class r) (ticked (clock_at inputs σ k) t) (σ r t) (datum_of (σ r t))
  on_read k s r t on tidy h =
      operand s (class r) (ticked (clock_at inputs σ k) t) (σ r t)
      (subst (λ (q : Option Bool). IsTidyMark s (class r) (ticked (clock_at inputs σ k) t) q (σ r t)) h (tidy (record { form = on.form; clock = k; kind = s }) on.there))

  -- the past of a flow of class false
  past_reads : (k : Clock) (s : Kind) (r t : ℕ) → IsOn flat k s r → class r ≡ false → ((u : ℕ) → u < t → IsTidy flat inputs class σ r u) → PastReads ((u : ℕ) → u < t → σ r u ≢ Broken) s (ticked (clock_at inputs σ k) t) (before (σ r) t)
  past_reads k s r zero on c h = (nil_is s, λ n. refl)
  past_reads k s r (suc t) on c h =
      newer_ok ((u : ℕ) → u < t → σ r u ≢ Broken) ((u : ℕ) → u < suc t → σ r u ≢ Broken) s (clock_at inputs σ k t) (ticked (clock_at inputs σ k) t) (σ r t) (before (σ r) t)
      (λ b u l. b u (omega arith))
      (λ b. b t (omega arith))
      (subst (λ (e : Bool). IsTidyMark s e (ticked (clock_at inputs σ k) t) (clock_at inputs σ k t) (σ r t)) c (h t (omega arith) (record { form = on.form; clock = k; kind = s }) on.there))
      (past_reads k s r t on c (λ u l. h u (omega arith)))

  clock_known : (k : Clock) (t : ℕ) → All (λ r. σ r t ≢ Broken) (clock_reads k) → clock_at inputs σ k t ≢ None
  clock_known Base t h = λ e. let f : Some (nat_lt t inputs.instants) ≡ None = e in cc
  clock_known (On c d) t h = truth_known d (σ c t) (first_of_all (λ r. σ r t ≢ Broken) c [] h)

  ticked_known : (k : Clock) (t : ℕ) → ((u : ℕ) → u < t → clock_at inputs σ k u ≢ None) → ticked (clock_at inputs σ k) t ≢ None
  ticked_known k zero h = λ e. let f : Some false ≡ None = e in cc
  ticked_known k (suc t) h = either_none (clock_at inputs σ k t) (ticked (clock_at inputs σ k) t) (h t (omega arith)) (ticked_known k t (λ u l. h u (omega arith)))

  pub says_at : IsSolution flat inputs σ → (i t : ℕ) (flow : Flow) → flow_at flat i ≡ Some flow → t < inputs.instants → σ i t ≡ under (clock_at inputs σ flow.clock t) (value_at inputs σ flow.clock flow.form t)
  says_at sol i t flow is l = sol i t (slice_get_below flat.flows i flow is) ∙ ap (λ o. says inputs σ o t) is

  -- where c is absent, so are its clocks
  slower : IsSolution flat inputs σ → (k : Clock) (u : Kind) (d : Datum) (c t : ℕ) → IsOn flat k u c → t ≤ inputs.instants → ticked (clock_at inputs σ k) t ≡ Some false → ticked (clock_at inputs σ (On c d)) t ≡ Some false
  slower sol k u d c zero on l h = refl
  slower sol k u d c (suc t) on l h =
      let e = either_false (clock_at inputs σ k t) (ticked (clock_at inputs σ k) t) h in
      let flow : Flow = record { form = on.form; clock = k; kind = u } in
      let m : σ c t ≡ Known Absent = says_at sol c t flow on.there (omega arith) ∙ ap (λ q. under q (value_at inputs σ k on.form t)) e.0 in
      ap₂ either (ap (truth_in d) m) (slower sol k u d c t on (omega arith) e.1)

  -- a clock whose variable begins with its value is true as soon as that of the variable
  begin_here : (d : Datum) (x y : Mark) (q : Option Bool) (m : Mark) → is_value d d ≡ true → m ≡ under q (on_two (arrow_of (Some false)) (datum_of x) (datum_of y)) → (q ≡ Some true → x ≡ Known (Present d)) → truth_in d m ≡ Some false → q ≡ Some false
  begin_here d x y None m self is a h = let f : None ≡ Some false = sym (ap (truth_in d) is) ∙ h in cc
  begin_here d x y (Some false) m self is a h = refl
  begin_here d x y (Some true) m self is a h = absurd (begin_there d x y m self is (a refl) h)
    where
      begin_there : (d : Datum) (x y : Mark) (m : Mark) → is_value d d ≡ true → m ≡ under (Some true) (on_two (arrow_of (Some false)) (datum_of x) (datum_of y)) → x ≡ Known (Present d) → truth_in d m ≡ Some false → ⊥
      begin_there d x y m self is a h = begin_on d y self (sym (ap (truth_in d) (is ∙ ap (λ z. under (Some true) (on_two (arrow_of (Some false)) (datum_of z) (datum_of y))) a)) ∙ h)

  starts : IsSolution flat inputs σ → (k : Clock) (d : Datum) (c t : ℕ) → BeginsWith flat k d c → t ≤ inputs.instants → ticked (clock_at inputs σ (On c d)) t ≡ Some false → ticked (clock_at inputs σ k) t ≡ Some false
  starts sol k d c zero on l h = refl
  starts sol k d c (suc t) on l h =
      let e = either_false (clock_at inputs σ (On c d) t) (ticked (clock_at inputs σ (On c d)) t) h in
      let w = starts sol k d c t on (omega arith) e.1 in
      let flow : Flow = record { form = Arrow on.first on.then; clock = k; kind = on.kind } in
      let one : Flow = record { form = Constant d; clock = k; kind = on.kind } in
      let m = says_at sol c t flow on.there (omega arith) ∙ ap (λ q. under (clock_at inputs σ k t) (on_two (arrow_of q) (datum_of (σ on.first t)) (datum_of (σ on.then t)))) w in
      let a = λ (q : clock_at inputs σ k t ≡ Some true). says_at sol on.first t one on.constant (omega arith) ∙ ap (λ o. under o (Gives d)) q in
      ap₂ either (begin_here d (σ on.first t) (σ on.then t) (clock_at inputs σ k t) (σ c t) (value_self on.kind d on.pattern) m a e.0) w

  up_to : (a t : ℕ) → IsTidy flat inputs class σ a t → ((u : ℕ) → u < t → IsTidy flat inputs class σ a u) → (u : ℕ) → u < suc t → IsTidy flat inputs class σ a u
  up_to a t here there u l = elim (cases_lt u t) [ inl h ↦ there u h | inr h ↦ let e : t ≡ u = omega arith in subst (λ (v : ℕ). IsTidy flat inputs class σ a v) e here ]

  unbroken_to : (a t : ℕ) → σ a t ≢ Broken → ((u : ℕ) → u < t → σ a u ≢ Broken) → (u : ℕ) → u < suc t → σ a u ≢ Broken
  unbroken_to a t here there u l = elim (cases_lt u t) [ inl h ↦ there u h | inr h ↦ let e : t ≡ u = omega arith in subst (λ (v : ℕ). σ a v ≢ Broken) e here ]

  module _ (sol : IsSolution flat inputs σ) where
    -- the branch that a merge takes
    merge_ok : (k : Clock) (s : Kind) (e : Bool) (c : ℕ) (xs : List ℕ) (t : ℕ) (m : Mark) → σ c t ≡ m → FormFits flat class k s e (Merge c xs) → Around flat inputs class σ k (Merge c xs) t → IsTidyOutcome (IsUnbroken σ k (Merge c xs) t) s e (ticked (clock_at inputs σ k) t) (merge_of (datum_of m) (map (λ r. datum_of (σ r t)) xs))
    merge_ok k s e c xs t Broken is fit around = λ u. first_of_all (λ r. σ r t ≢ Broken) c xs u.now is
    merge_ok k s e c xs t (Known Absent) is fit around =
        let r = on_read k fit.0 c t fit.2 (first_of_all (λ r. IsTidy flat inputs class σ r t) c xs around.now) around.on in
        let f = subst (λ (m : Mark). Reads fit.0 (class c) (ticked (clock_at inputs σ k) t) m (datum_of m)) is r in
        let g : Known Absent ≡ Broken = f in cc
    merge_ok k s e c xs t (Known (Present d)) is fit around =
        let r = on_read k fit.0 c t fit.2 (first_of_all (λ r. IsTidy flat inputs class σ r t) c xs around.now) around.on in
        let f = subst (λ (m : Mark). Reads fit.0 (class c) (ticked (clock_at inputs σ k) t) m (datum_of m)) is r in
        let sure : d ≢ Nil = λ n. let one : class c ≡ true = (f.1 n).0 in let zero : class c ≡ false = fit.3 in let clash : false ≡ true = sym zero ∙ one in cc in
        let b = branch_there fit.0 d fit.1 f.0 sure in
        let w = branch_at flat class s c (clock_values fit.0) xs b.0 d fit.4 b.2 in
        let tick : truth_in d (σ c t) ≡ Some true = ap (truth_in d) is ∙ ap Some (value_self fit.0 d (pattern_at fit.0 b.0 d b.2)) in
        let read = on_read (On c d) s w.0 t w.2 (all_at (λ r. IsTidy flat inputs class σ r t) (c ∷ xs) (suc b.0) w.0 around.now w.1) tick in
        let ok = class_zero {B = IsUnbroken σ k (Merge c xs) t} s e (class w.0) (ticked (clock_at inputs σ (On c d)) t) (ticked (clock_at inputs σ k) t) (σ w.0 t) (datum_of (σ w.0 t)) read w.3 (λ u. all_at (λ r. σ r t ≢ Broken) (c ∷ xs) (suc b.0) w.0 u.now w.1) in
        let taken : merge_of (Some d) (map (λ r. datum_of (σ r t)) xs) ≡ gives (datum_of (σ w.0 t)) =
        ap (λ o. branch_value o (map (λ r. datum_of (σ r t)) xs)) b.1
        ∙ ap (λ o. gives (unwrap_or o None)) (slice_get-map (λ r. datum_of (σ r t)) xs b.0 ∙ ap (option_map (λ r. datum_of (σ r t))) w.1) in
        subst (IsTidyOutcome (IsUnbroken σ k (Merge c xs) t) s e (ticked (clock_at inputs σ k) t)) (sym taken) ok

    -- a clock that is true has its variable's clock true
    clock_up : (s : Kind) (e : Bool) (w q : Option Bool) (d : Datum) (m : Mark) → IsTidyMark s e w q m → truth_in d m ≡ Some true → q ≡ Some true
    clock_up s e w q d Broken tidy h = let f : None ≡ Some true = h in cc
    clock_up s e w q d (Known Absent) tidy h = let f : Some false ≡ Some true = h in cc
    clock_up s e w q d (Known (Present x)) tidy h = tidy.0

    when_ok : (s : Kind) (e : Bool) (a t c : ℕ) (d : Datum) (u : Kind) (k' : Clock) (k : Clock) → k ≡ On c d → IsOn flat k' u c → IsOn flat k' s a → AtMost (class a) e → Around flat inputs class σ k (When a) t → IsTidyOutcome (IsUnbroken σ k (When a) t) s e (ticked (clock_at inputs σ k) t) (gives (datum_of (σ a t)))
    when_ok s e a t c d u k' k is onc ona le around =
        let P : Clock → Type 0 = λ k. Around flat inputs class σ k (When a) t in
        let there : Around flat inputs class σ (On c d) (When a) t = subst P is around in
        let tc = first_of_all (λ r. IsTidy flat inputs class σ r t) c [] there.clock_now (record { form = onc.form; clock = k'; kind = u }) onc.there in
        let up = clock_up u (class c) (ticked (clock_at inputs σ k') t) (clock_at inputs σ k' t) d (σ c t) tc there.on in
        let r = on_read k' s a t ona (first_of_all (λ r. IsTidy flat inputs class σ r t) a [] there.now) up in
        subst (λ (q : Clock). IsTidyOutcome (IsUnbroken σ k (When a) t) s e (ticked (clock_at inputs σ q) t) (gives (datum_of (σ a t)))) (sym is)
        (slow_ok {B = IsUnbroken σ k (When a) t} s e (class a) (ticked (clock_at inputs σ k') t) (ticked (clock_at inputs σ (On c d)) t) (σ a t) (datum_of (σ a t)) r le (λ h. slower sol k' u d c t onc (let w = there.within in omega arith) h) (λ u. first_of_all (λ r. σ r t ≢ Broken) a [] u.now))

    pub value_ok : (k : Clock) (s : Kind) (e : Bool) (form : Form) (t : ℕ) → FormFits flat class k s e form → ClockFits flat class k → IsFitFor inputs s form → Around flat inputs class σ k form t → IsTidyOutcome (IsUnbroken σ k form t) s e (ticked (clock_at inputs σ k) t) (value_at inputs σ k form t)
    value_ok k s e (Input c) t fits cf fit around =
        let g = fit t around.within in
        subst (λ (o : Option Datum). IsTidyOutcome (IsUnbroken σ k (Input c) t) s e (ticked (clock_at inputs σ k) t) (gives o)) (sym g.1) (g.2.0, λ n. absurd (g.2.1 n))
    value_ok k s e (Constant d) t fits cf fit around = (fits.0, λ n. absurd (fits.1 n))
    value_ok k s e (Copied a) t fits cf fit around =
        gives_ok (IsUnbroken σ k (Copied a) t) s e (class a) (ticked (clock_at inputs σ k) t) (σ a t) (datum_of (σ a t)) (on_read k s a t fits.0 (first_of_all (λ r. IsTidy flat inputs class σ r t) a [] around.now) around.on) fits.1 (λ u. first_of_all (λ r. σ r t ≢ Broken) a [] u.now)
    value_ok k s e (Unary op a) t fits cf fit around =
        subst (λ (v : Kind). IsTidyOutcome (IsUnbroken σ k (Unary op a) t) v e (ticked (clock_at inputs σ k) t) (on_one (single_of op) (datum_of (σ a t)))) (sym fits.0)
        (one_ok (IsUnbroken σ k (Unary op a) t) e (class a) (ticked (clock_at inputs σ k) t) op (σ a t) (datum_of (σ a t)) (on_read k (single_sort op) a t (subst (λ (v : Kind). IsOn flat k v a) fits.0 fits.1) (first_of_all (λ r. IsTidy flat inputs class σ r t) a [] around.now) around.on) fits.2 (λ u. first_of_all (λ r. σ r t ≢ Broken) a [] u.now))
    value_ok k s e (Binary op a b) t fits cf fit around =
        subst (λ (v : Kind). IsTidyOutcome (IsUnbroken σ k (Binary op a b) t) v e (ticked (clock_at inputs σ k) t) (on_two (double_of op) (datum_of (σ a t)) (datum_of (σ b t)))) (sym fits.2)
        (two_ok (IsUnbroken σ k (Binary op a b) t) e (class a) (class b) (ticked (clock_at inputs σ k) t) op fits.0 (σ a t) (σ b t) (datum_of (σ a t)) (datum_of (σ b t)) fits.1
        (on_read k fits.0 a t fits.3 (first_of_all (λ r. IsTidy flat inputs class σ r t) a (b ∷ []) around.now) around.on)
        (on_read k fits.0 b t fits.4 (second_of_all (λ r. IsTidy flat inputs class σ r t) a b [] around.now) around.on)
        fits.5 fits.6 (λ u. first_of_all (λ r. σ r t ≢ Broken) a (b ∷ []) u.now) (λ u. second_of_all (λ r. σ r t ≢ Broken) a b [] u.now))
    value_ok k s e (If c a b) t fits cf fit around =
        if_ok (IsUnbroken σ k (If c a b) t) s e (class c) (class a) (class b) (ticked (clock_at inputs σ k) t) (σ c t) (σ a t) (σ b t) (datum_of (σ c t)) (datum_of (σ a t)) (datum_of (σ b t))
        (on_read k Truths c t fits.0 (first_of_all (λ r. IsTidy flat inputs class σ r t) c (a ∷ b ∷ []) around.now) around.on)
        (on_read k s a t fits.1 (second_of_all (λ r. IsTidy flat inputs class σ r t) c a (b ∷ []) around.now) around.on)
        (on_read k s b t fits.2 (third_of_all (λ r. IsTidy flat inputs class σ r t) c a b [] around.now) around.on)
        fits.3 fits.4 fits.5 (λ u. first_of_all (λ r. σ r t ≢ Broken) c (a ∷ b ∷ []) u.now) (λ u. second_of_all (λ r. σ r t ≢ Broken) c a (b ∷ []) u.now) (λ u. third_of_all (λ r. σ r t ≢ Broken) c a b [] u.now)
    value_ok k s e (Pre a) t fits cf fit around =
        let la = first_of_all (λ r. r < flows_of flat) a [] around.places_in in
        pre_ok {B = IsUnbroken σ k (Pre a) t} s e (ticked (clock_at inputs σ k) t) (before (σ a) t) (past_reads k s a t fits.0 fits.1 (λ u l. around.then a u la l)) fits.2 (λ u v l. first_of_all (λ r. σ r v ≢ Broken) a [] (u.then v l))
    value_ok k s e (Arrow a b) t fits cf fit around =
        arrow_ok (IsUnbroken σ k (Arrow a b) t) s e (class a) (class b) (ticked (clock_at inputs σ k) t) (σ a t) (σ b t) (datum_of (σ a t)) (datum_of (σ b t))
        (on_read k s a t fits.0 (first_of_all (λ r. IsTidy flat inputs class σ r t) a (b ∷ []) around.now) around.on)
        (on_read k s b t fits.1 (second_of_all (λ r. IsTidy flat inputs class σ r t) a b [] around.now) around.on)
        fits.2 (λ u. first_of_all (λ r. σ r t ≢ Broken) a (b ∷ []) u.now) (λ u. second_of_all (λ r. σ r t ≢ Broken) a b [] u.now)
        (λ u. ticked_known k t (λ v l. clock_known k v (u.clock_then v l)))
    value_ok k s e (When a) t fits cf fit around = when_ok s e a t fits.0 fits.1 fits.2 fits.3 k fits.4 fits.5 fits.6 fits.7 around
    value_ok k s e (Current a) t fits cf fit around =
        let c = fits.0 in
        let la = first_of_all (λ r. r < flows_of flat) a [] around.places_in in
        let tidy = λ (u : ℕ) (l : u < suc t). up_to a t (first_of_all (λ r. IsTidy flat inputs class σ r t) a [] around.now) (λ v lv. around.then a v la lv) u l in
        current_ok {B = IsUnbroken σ k (Current a) t} s e (ticked (clock_at inputs σ k) t) (ticked (clock_at inputs σ (On c fits.1)) (suc t)) (before (σ a) (suc t)) (past_reads (On c fits.1) s a (suc t) fits.2 fits.3 tidy)
        (λ h. either_true (clock_at inputs σ k t) (ticked (clock_at inputs σ k) t) around.on (starts sol k fits.1 c (suc t) fits.4 (let w = around.within in omega arith) h))
        (λ u v l. unbroken_to a t (first_of_all (λ r. σ r t ≢ Broken) a [] u.now) (λ w lw. first_of_all (λ r. σ r w ≢ Broken) a [] (u.then w lw)) v l)
    value_ok k s e (Merge c xs) t fits cf fit around = merge_ok k s e c xs t (σ c t) refl fits around

-- tidy at the first m points, instant by instant and by rank
pub record TidyTo (flat : FlatView) (inputs : InputsView) (class : ℕ → Bool) (σ : Streams) (m : ℕ) : Type 0 where
  pub at : (q u : ℕ) → q < length flat.order → u < inputs.instants → u * length flat.order + q < m → IsTidy flat inputs class σ (slice_index flat.order q) u

module _ (flat : FlatView) (inputs : InputsView) (σ : Streams) (ordered : IsOrdered flat) (sound : IsSound flat) (fit : IsFit flat inputs) (sol : IsSolution flat inputs σ) where
  earlier : (m q u : ℕ) → u < inputs.instants → TidyTo flat inputs sound.class σ m → u * length flat.order + q ≤ m → (r v : ℕ) → r < flows_of flat → v < u → IsTidy flat inputs sound.class σ r v
  earlier m q u lu tidy le r v lr l =
      let w = rank_of flat ordered r lr in
      let below : v * length flat.order + w.0 < m = rows_apart v u (length flat.order) w.0 m l w.1 (omega arith) in
      subst (λ (i : ℕ). IsTidy flat inputs sound.class σ i v) w.2 (tidy.at w.0 v w.1 (omega arith) below)

  reads_before : (m q u : ℕ) → u < inputs.instants → TidyTo flat inputs sound.class σ m → u * length flat.order + q ≤ m → (r : ℕ) → Contains (take q flat.order) r → IsTidy flat inputs sound.class σ r u
  reads_before m q u lu tidy le r c =
      let w = place_of flat.order q r c in
      let below : u * length flat.order + w.0 < m = omega arith in
      subst (λ (i : ℕ). IsTidy flat inputs sound.class σ i u) w.3 (tidy.at w.0 u w.2 lu below)

  around_of : (m q u : ℕ) (flow : Flow) → q < length flat.order → u < inputs.instants → TidyTo flat inputs sound.class σ m → u * length flat.order + q ≤ m → flow_at flat (slice_index flat.order q) ≡ Some flow → clock_at inputs σ flow.clock u ≡ Some true → Around flat inputs sound.class σ flow.clock flow.form u
  around_of m q u flow lq lu tidy le is on =
      let all = All-weaker (λ r. Contains (take q flat.order) r) (λ r. IsTidy flat inputs sound.class σ r u) (reads_before m q u lu tidy le) (reads flow) (ordered.reads_first q flow lq is) in
      record {
        within = lu;
        places_in = ordered.places_in (slice_index flat.order q) flow is;
        clocks_in = ordered.clocks_in (slice_index flat.order q) flow is;
        now = all_left (λ r. IsTidy flat inputs sound.class σ r u) (form_reads flow.form) (clock_reads flow.clock) all;
        clock_now = all_right (λ r. IsTidy flat inputs sound.class σ r u) (form_reads flow.form) (clock_reads flow.clock) all;
        then = λ r v lr l. earlier m q u lu tidy le r v lr l;
        on = on;
      }

  outcome_of : (m q u : ℕ) (flow : Flow) → q < length flat.order → u < inputs.instants → TidyTo flat inputs sound.class σ m → u * length flat.order + q ≤ m → flow_at flat (slice_index flat.order q) ≡ Some flow → clock_at inputs σ flow.clock u ≡ Some true → IsTidyOutcome (IsUnbroken σ flow.clock flow.form u) flow.kind (sound.class (slice_index flat.order q)) (ticked (clock_at inputs σ flow.clock) u) (value_at inputs σ flow.clock flow.form u)
  outcome_of m q u flow lq lu tidy le is on =
      let i = slice_index flat.order q in
      value_ok flat inputs sound.class σ sol flow.clock flow.kind (sound.class i) flow.form u (sound.forms i flow is) (sound.clocks i flow is) (fit.columns i flow is) (around_of m q u flow lq lu tidy le is on)

  tidy_step : (m q u : ℕ) → q < length flat.order → u < inputs.instants → TidyTo flat inputs sound.class σ m → u * length flat.order + q ≤ m → IsTidy flat inputs sound.class σ (slice_index flat.order q) u
  tidy_step m q u lq lu tidy le flow is =
      let i = slice_index flat.order q in
      let e = says_at flat inputs sound.class σ sol i u flow is lu in
      subst (λ (x : Mark). IsTidyMark flow.kind (sound.class i) (ticked (clock_at inputs σ flow.clock) u) (clock_at inputs σ flow.clock u) x) (sym e)
      (under_ok (IsUnbroken σ flow.clock flow.form u) flow.kind (sound.class i) (ticked (clock_at inputs σ flow.clock) u) (clock_at inputs σ flow.clock u) (value_at inputs σ flow.clock flow.form u) (outcome_of m q u flow lq lu tidy le is))

  pub tidy_to : (m : ℕ) → TidyTo flat inputs sound.class σ m
  tidy_to zero = record { at = λ q u lq lu l. absurd (omega arith) }
  tidy_to (suc m) = record { at = λ q u lq lu l. tidy_step m q u lq lu (tidy_to m) (omega arith) }

  -- each flow of a sound program is tidy
  pub tidy : (i t : ℕ) → i < flows_of flat → t < inputs.instants → IsTidy flat inputs sound.class σ i t
  tidy i t li lt =
      let w = rank_of flat ordered i li in
      subst (λ (j : ℕ). IsTidy flat inputs sound.class σ j t) w.2 (tidy_step (t * length flat.order + w.0) w.0 t w.1 lt (tidy_to (t * length flat.order + w.0)) (omega arith))

  -- a value is stuck only where something that it reads is broken
  pub outcome : (i t : ℕ) (flow : Flow) → flow_at flat i ≡ Some flow → t < inputs.instants → clock_at inputs σ flow.clock t ≡ Some true → IsTidyOutcome (IsUnbroken σ flow.clock flow.form t) flow.kind (sound.class i) (ticked (clock_at inputs σ flow.clock) t) (value_at inputs σ flow.clock flow.form t)
  outcome i t flow is lt on =
      value_ok flat inputs sound.class σ sol flow.clock flow.kind (sound.class i) flow.form t (sound.forms i flow is) (sound.clocks i flow is) (fit.columns i flow is)
      (record {
        within = lt;
        places_in = ordered.places_in i flow is;
        clocks_in = ordered.clocks_in i flow is;
        now = all_tidy t lt (form_reads flow.form) (reads_in flow.form (ordered.places_in i flow is));
        clock_now = all_tidy t lt (clock_reads flow.clock) (ordered.clocks_in i flow is);
        then = λ r v lr l. tidy r v lr (omega arith);
        on = on;
      })
    where
      all_tidy : (t : ℕ) → t < inputs.instants → (rs : List ℕ) → All (λ r. r < flows_of flat) rs → All (λ r. IsTidy flat inputs sound.class σ r t) rs
      all_tidy t lt rs h = All-weaker (λ r. r < flows_of flat) (λ r. IsTidy flat inputs sound.class σ r t) (λ r lr. tidy r t lr lt) rs h

      reads_in : (form : Form) → All (λ r. r < flows_of flat) (places form) → All (λ r. r < flows_of flat) (form_reads form)
      reads_in (Input c) h = h
      reads_in (Constant d) h = h
      reads_in (Copied a) h = h
      reads_in (Unary op a) h = h
      reads_in (Binary op a b) h = h
      reads_in (If c a b) h = h
      reads_in (Pre a) h = λ k d l. absurd (omega arith)
      reads_in (Arrow a b) h = h
      reads_in (When a) h = h
      reads_in (Current a) h = h
      reads_in (Merge c xs) h = h
