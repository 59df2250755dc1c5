-- What is written into a row is what its form asks for.
use Rattle.std.proofs.Common.{◌≡◌, ◌≢◌, ℕ, zero, suc, ◌+◌, ◌<◌, ◌≤◌, inl, inr, true, List, length, get_or, Some, ℤ, refl, sym, subst, ◌∙◌, ap, ap₂, arith}
use Rattle.std.specs.Prelude.{slice_get, Vec}
use Rattle.std.specs.declared.alloc.Global.{Global}
use Rattle.std.proofs.lemmas.Option.{same_Some, get_or_from_slice_get}
use Rattle.std.proofs.lemmas.Bool.{cases_lt}
use Rattle.luflow.specs.declared.data.Datum.{Datum}
use Rattle.lutree.specs.declared.program.Kind.{Kind}
use Rattle.luflow.specs.declared.form.Clock.TheVariants.{On}
use Rattle.luflow.specs.declared.form.Form.{Form}
use Rattle.luflow.specs.declared.form.Form.TheVariants.{When, Current, Merge}
use Rattle.luflow.specs.declared.form.Flow.{Flow}
use Rattle.luflow.specs.Program.{FlatView, InputsView}
use Rattle.luflow.specs.Streams.{is_value}
use Rattle.luflow.specs.Values.{branch_of}
use Rattle.lublock_kernels.specs.declared.span.Span.{Span}
use Rattle.lublock_kernels.specs.Blocks.{Block, datum_at, kind_at, clock_of, once, hits}
use Rattle.lublock_kernels.specs.Rows.{word_in, hits_in, IsGathered, IsHeld}
use Rattle.lublock_kernels.specs.Machine.{row_of, ticks_of, upto_of, known_of, IsWith, IsRead, IsBranch, StaysBeside, WritesForm}

-- the words of a row that was read
pub seen : (b : Block) (rows : List (Vec ℤ Global)) (spans : List Span) (i : ℕ) (row : List ℤ) (r need : ℕ) (x : List ℤ) → IsWith b rows spans i row → IsRead rows spans r need x → (n : ℕ) → b.word r n ≡ word_in x n
seen b rows spans i row r need x with read n =
    let same : length x ≡ length (row_of rows r) = ap length read.is in
    with.others r n (let l = read.long in omega (arith, same, l)) ∙ ap (λ (y : List ℤ). word_in y n) (sym read.is)

-- counted in a block and in a row
pub hits_row : (b : Block) (u : Kind) (c : ℕ) (d : Datum) (z : List ℤ) → ((m : ℕ) → b.word c m ≡ word_in z m) → (n : ℕ) → hits b u c d n ≡ hits_in z u d n
hits_row b u c d z same zero = refl
hits_row b u c d z same (suc n) = ap₂ (λ (k : ℕ) (w : ℤ). k + once (is_value d (datum_at u w))) (hits_row b u c d z same n) (same (suc n))

variable_same : (c c' : ℕ) (d d' : Datum) → On c d ≡ On c' d' → c ≡ c'
variable_same c c' d d' e = cc

value_same : (c c' : ℕ) (d d' : Datum) → On c d ≡ On c' d' → d ≡ d'
value_same c c' d d' e = cc

-- what holds at this variable, this value and its type
at_clock : (P : ℕ → Datum → Kind → Type 0) (flat : FlatView) (c c' : ℕ) (d d' : Datum) (u u' : Kind) → On c d ≡ On c' d' → kind_at flat c ≡ Some u → kind_at flat c' ≡ Some u' → P c d u → P c' d' u'
at_clock P flat c c' d d' u u' clock is is' p =
    let e : c ≡ c' = variable_same c c' d d' clock in
    let kinds : u ≡ u' = same_Some u u' (sym is ∙ ap (kind_at flat) e ∙ is') in
    subst (λ (x : ℕ). P x d' u') e (subst (λ (x : Datum). P c x u') (value_same c c' d d' clock) (subst (λ (x : Kind). P c d x) kinds p))

module _ (flat : FlatView) (inputs : InputsView) (t : ℕ) (rows : List (Vec ℤ Global)) (spans : List Span) (i : ℕ) (flow : Flow) (to : ℕ) (row : List ℤ) where
  pub is_when : (c : ℕ) (d : Datum) (u : Kind) (ticks a : ℕ) (z x : List ℤ) → flow.clock ≡ On c d → kind_at flat c ≡ Some u → ticks ≡ ticks_of spans c → known_of spans c ≡ true → IsRead rows spans c ticks z → IsRead rows spans a ticks x → IsGathered u d ticks z x row
      → WritesForm flat inputs t rows spans i flow (When a) 0 to row
  is_when c d u ticks a z x clock kind counted known rz rx gathered b with n l l' =
      let all : b.ticks c ≡ ticks = with.ticks c ∙ sym counted in
      let At = λ (c' : ℕ) (d' : Datum) (u' : Kind). (m : ℕ) → m < b.ticks c' → is_value d' (datum_at u' (b.word c' (suc m))) ≡ true → hits b u' c' d' m ≡ n → b.word i (suc n) ≡ b.word a (suc m) in
      let here : At c d u = λ m lm on at.
      let word = seen b rows spans i row c ticks z with rz in
      let on' : is_value d (datum_at u (word_in z (suc m))) ≡ true = sym (ap (λ (w : ℤ). is_value d (datum_at u w)) (word (suc m))) ∙ on in
      let place : n ≡ hits_in z u d m = sym at ∙ hits_row b u c d z word m in
      with.own (suc n) ∙ ap (λ (k : ℕ). word_in row (suc k)) place ∙ gathered m (subst (λ (k : ℕ). m < k) all lm) on' ∙ sym (seen b rows spans i row a ticks x with rx (suc m)) in (
        λ c' d' u' m clock' is lm on at. at_clock At flat c c' d d' u u' (sym clock ∙ clock') kind is here m lm on at,
        λ c' d' clock'.
            subst (λ (k : ℕ). (known_of spans k ≡ true) × (b.ticks k ≤ upto_of spans k) × (b.ticks k ≤ upto_of spans a)) (variable_same c c' d d' (sym clock ∙ clock'))
            (known, subst (λ (k : ℕ). k ≤ upto_of spans c) (sym all) rz.reached, subst (λ (k : ℕ). k ≤ upto_of spans a) (sym all) rx.reached),
      )

  pub is_current : (c : ℕ) (d : Datum) (u : Kind) (limit a : ℕ) (z x : List ℤ) → clock_of flat a ≡ Some (On c d) → kind_at flat c ≡ Some u → limit ≡ upto_of spans a → IsRead rows spans c to z → IsRead rows spans a limit x → IsHeld u d to limit z x row
      → WritesForm flat inputs t rows spans i flow (Current a) 0 to row
  is_current c d u limit a z x clock kind some rz rx held b with n l l' =
      let word = seen b rows spans i row c to z with rz in
      let count : hits b u c d (suc n) ≡ hits_in z u d (suc n) = hits_row b u c d z word (suc n) in
      let h = held n l' in
      let same = λ (c' : ℕ) (d' : Datum) (e : clock_of flat a ≡ Some (On c' d')). same_Some (On c d) (On c' d') (sym clock ∙ e) in (
        λ c' d' u' e is.
            at_clock (λ c' d' u'. b.word i (suc n) ≡ b.word a (hits b u' c' d' (suc n))) flat c c' d d' u u' (same c' d' e) kind is
            (with.own (suc n) ∙ h.0 ∙ sym (seen b rows spans i row a limit x with rx (hits_in z u d (suc n))) ∙ ap (b.word a) (sym count)),
        λ c' d' u' e is.
            at_clock (λ c' d' u'. (n < upto_of spans c') × (hits b u' c' d' (suc n) ≤ upto_of spans a)) flat c c' d d' u u' (same c' d' e) kind is
            (let f = rz.reached in omega (arith, f, l'), let g = h.1 in omega (arith, g, count, some)),
      )

  pub is_merge : (c : ℕ) (u : Kind) (xs : List ℕ) (z : List ℤ) → kind_at flat c ≡ Some u → IsRead rows spans c to z → ((k x : ℕ) → slice_get xs k ≡ Some x → IsBranch rows spans u to z k x row)
      → WritesForm flat inputs t rows spans i flow (Merge c xs) 0 to row
  is_merge c u xs z kind rz branches b with n l l' =
      let word = seen b rows spans i row c to z with rz in
      let At = λ (v : Kind). (k x : ℕ) → branch_of (datum_at v (b.word c (suc n))) ≡ Some k → slice_get xs k ≡ Some x
      → (b.word i (suc n) ≡ b.word x (suc (hits b v c (datum_at v (b.word c (suc n))) n))) × (hits b v c (datum_at v (b.word c (suc n))) n < upto_of spans x) in
      let here : At u = λ k x e there.
      let branch : branch_of (datum_at u (word_in z (suc n))) ≡ Some k = sym (ap (λ (w : ℤ). branch_of (datum_at u w)) (word (suc n))) ∙ e in
      let f = branches k x there n l' branch in
      let count : hits b u c (datum_at u (b.word c (suc n))) n ≡ hits_in z u (datum_at u (word_in z (suc n))) n =
      hits_row b u c (datum_at u (b.word c (suc n))) z word n ∙ ap (λ (w : ℤ). hits_in z u (datum_at u w) n) (word (suc n)) in
      let few = f.1 in (
        with.own (suc n) ∙ f.0 ∙ sym (with.others x (suc (hits_in z u (datum_at u (word_in z (suc n))) n)) f.2) ∙ ap (λ (m : ℕ). b.word x (suc m)) (sym count),
        omega (arith, few, count),
      ) in (
        λ v k x is e there. (subst At (same_Some u v (sym kind ∙ is)) here k x e there).0,
        (let g = rz.reached in omega (arith, g, l'), λ v k x is e there. (subst At (same_Some u v (sym kind ∙ is)) here k x e there).1),
      )

-- one branch more
pub branches_more : (rows : List (Vec ℤ Global)) (spans : List Span) (u : Kind) (to : ℕ) (c : List ℤ) (k : ℕ) (xs : List ℕ) (row new : List ℤ) → ((j x : ℕ) → j < k → slice_get xs j ≡ Some x → IsBranch rows spans u to c j x row) → IsBranch rows spans u to c k (get_or xs k 0) new → StaysBeside u to c k row new
    → (j x : ℕ) → j < k + 1 → slice_get xs j ≡ Some x → IsBranch rows spans u to c j x new
branches_more rows spans u to c k xs row new before now stays j x l there = elim (cases_lt j k) [
  | inl h ↦ λ n ln on.
      let f = before j x h there n ln on in
      let ne : branch_of (datum_at u (word_in c (suc n))) ≢ Some k = λ e. (let g : j ≡ k = same_Some j k (sym on ∙ e) in absurd (omega (arith, g, h))) in
      (stays n ln ne ∙ f.0, f.1, f.2)
  | inr h ↦
      let e : k ≡ j = omega arith in
      let same : get_or xs k 0 ≡ x = ap (λ (m : ℕ). get_or xs m 0) e ∙ get_or_from_slice_get xs j x 0 there in
      subst (λ (y : ℕ). IsBranch rows spans u to c j y new) same (subst (λ (m : ℕ). IsBranch rows spans u to c m (get_or xs k 0) new) e now)
]

-- written for a form, written for the flow of that form
pub for_flow : (flat : FlatView) (inputs : InputsView) (t : ℕ) (rows : List (Vec ℤ Global)) (spans : List Span) (i : ℕ) (flow : Flow) (form : Form) (from to : ℕ) (row : List ℤ) → flow.form ≡ form → WritesForm flat inputs t rows spans i flow form from to row → WritesForm flat inputs t rows spans i flow flow.form from to row
for_flow flat inputs t rows spans i flow form from to row is written = subst (λ (f : Form). WritesForm flat inputs t rows spans i flow f from to row) (sym is) written
