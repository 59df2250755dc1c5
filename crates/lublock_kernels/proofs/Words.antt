-- What operators give of words, and what a flow's words are from one instant to the next.
use Rattle.std.proofs.Common.{◌≡◌, ◌≢◌, ℕ, zero, suc, ◌+◌, ◌<◌, ◌≤◌, inl, inr, Bool, true, false, not, cond, Option, Some, ℤ, subst, refl, sym, ap, ap₂, ◌∙◌, arith}
use Rattle.std.specs.Prelude.{◌||◌, nat_lt}
use Rattle.std.proofs.lemmas.Bool.{cases_lt, lt-ltb}
use Rattle.luflow.specs.declared.data.Datum.{Datum}
use Rattle.luflow.specs.declared.data.Datum.TheVariants.{Int, Bool as Truth, Name, Nil}
use Rattle.luflow.specs.declared.data.Status.TheVariants.{Absent, Present}
use Rattle.lutree.specs.declared.program.Kind.{Kind}
use Rattle.lutree.specs.declared.program.Kind.TheVariants.{Bool as Truths}
use Rattle.lutree.specs.declared.expr.UnaryOperator.{UnaryOperator}
use Rattle.lutree.specs.declared.expr.BinaryOperator.{BinaryOperator}
use Rattle.luflow.specs.declared.form.Outcome.{Outcome}
use Rattle.luflow.specs.declared.form.Outcome.TheVariants.{Gives}
use Rattle.luflow.specs.Operators.{is_zero, is_nil, single_of, double_of, picked_of, choice_of}
use Rattle.luflow.specs.Streams.{Mark, Known, Broken, is_value, truth_in, either, newer}
use Rattle.luflow.specs.Values.{arrow_of}
use Rattle.luflow.specs.Sound.{IsOf, IsTidyMark}
use Rattle.lublock_kernels.specs.Blocks.{Block, datum_at, Holds, once, hits, once_true}

-- an outcome that a word holds
abbrev pub Found : Outcome → Kind → ℤ → Type 0
Found v s z = (d : Datum) × (v ≡ Gives d) × Holds s z d

pub nothing_of_nil : (s : Kind) (z : ℤ) → Holds s z Nil
nothing_of_nil s z ne = absurd (ne refl)

pub exact : (s : Kind) (z : ℤ) → Holds s z (datum_at s z)
exact s z ne = refl

-- a datum that isn't nil is the one that its word stands for
pub is_int : (s : Kind) (z : ℤ) (n : ℤ) → Holds s z (Int n) → Int n ≡ datum_at s z
is_int s z n h = h (λ e. cc)

pub is_truth : (s : Kind) (z : ℤ) (v : Bool) → Holds s z (Truth v) → Truth v ≡ datum_at s z
is_truth s z v h = h (λ e. cc)

pub is_name : (s : Kind) (z : ℤ) (k : ℕ) → Holds s z (Name k) → Name k ≡ datum_at s z
is_name s z k h = h (λ e. cc)

pub found_one : (op : UnaryOperator) (s s' : Kind) (z z' : ℤ) (x : Datum) → Holds s z x → single_of op (datum_at s z) ≡ Gives (datum_at s' z') → Found (single_of op x) s' z'
found_one op s s' z z' Nil h e = (Nil, refl, nothing_of_nil s' z')
found_one op s s' z z' (Int n) h e = (datum_at s' z', ap (single_of op) (is_int s z n h) ∙ e, exact s' z')
found_one op s s' z z' (Truth v) h e = (datum_at s' z', ap (single_of op) (is_truth s z v h) ∙ e, exact s' z')
found_one op s s' z z' (Name k) h e = (datum_at s' z', ap (single_of op) (is_name s z k h) ∙ e, exact s' z')

two_exact : (op : BinaryOperator) (s s' : Kind) (x y z' : ℤ) (d e : Datum) → d ≡ datum_at s x → e ≡ datum_at s y → double_of op (datum_at s x) (datum_at s y) ≡ Gives (datum_at s' z') → Found (double_of op d e) s' z'
two_exact op s s' x y z' d e hd he is = (datum_at s' z', ap₂ (double_of op) hd he ∙ is, exact s' z')

pub found_two : (op : BinaryOperator) (s s' : Kind) (x y z' : ℤ) (d e : Datum) → Holds s x d → Holds s y e → double_of op (datum_at s x) (datum_at s y) ≡ Gives (datum_at s' z') → Found (double_of op d e) s' z'
found_two op s s' x y z' Nil e hd he is = (Nil, refl, nothing_of_nil s' z')
found_two op s s' x y z' (Int a) Nil hd he is = (Nil, refl, nothing_of_nil s' z')
found_two op s s' x y z' (Truth a) Nil hd he is = (Nil, refl, nothing_of_nil s' z')
found_two op s s' x y z' (Name a) Nil hd he is = (Nil, refl, nothing_of_nil s' z')
found_two op s s' x y z' (Int a) (Int b) hd he is = two_exact op s s' x y z' (Int a) (Int b) (is_int s x a hd) (is_int s y b he) is
found_two op s s' x y z' (Int a) (Truth b) hd he is = two_exact op s s' x y z' (Int a) (Truth b) (is_int s x a hd) (is_truth s y b he) is
found_two op s s' x y z' (Int a) (Name b) hd he is = two_exact op s s' x y z' (Int a) (Name b) (is_int s x a hd) (is_name s y b he) is
found_two op s s' x y z' (Truth a) (Int b) hd he is = two_exact op s s' x y z' (Truth a) (Int b) (is_truth s x a hd) (is_int s y b he) is
found_two op s s' x y z' (Truth a) (Truth b) hd he is = two_exact op s s' x y z' (Truth a) (Truth b) (is_truth s x a hd) (is_truth s y b he) is
found_two op s s' x y z' (Truth a) (Name b) hd he is = two_exact op s s' x y z' (Truth a) (Name b) (is_truth s x a hd) (is_name s y b he) is
found_two op s s' x y z' (Name a) (Int b) hd he is = two_exact op s s' x y z' (Name a) (Int b) (is_name s x a hd) (is_int s y b he) is
found_two op s s' x y z' (Name a) (Truth b) hd he is = two_exact op s s' x y z' (Name a) (Truth b) (is_name s x a hd) (is_truth s y b he) is
found_two op s s' x y z' (Name a) (Name b) hd he is = two_exact op s s' x y z' (Name a) (Name b) (is_name s x a hd) (is_name s y b he) is

-- `if`, at a condition that is not nil
if_word : (s : Kind) (x y : ℤ) (q v : Bool) (d e : Datum) → Truth v ≡ Truth (not q) → Holds s x d → Holds s y e → Found (picked_of (Truth v) d e) s (cond q y x)
if_word s x y true true d e is hd he = absurd cc
if_word s x y true false d e is hd he = (e, refl, he)
if_word s x y false true d e is hd he = (d, refl, hd)
if_word s x y false false d e is hd he = absurd cc

unless_nil : (p q : Bool) (v : Outcome) (s : Kind) (z : ℤ) → Found v s z → Found (cond (p || q) (Gives Nil) v) s z
unless_nil true q v s z f = (Nil, refl, nothing_of_nil s z)
unless_nil false true v s z f = (Nil, refl, nothing_of_nil s z)
unless_nil false false v s z f = f

pub found_if : (s : Kind) (z x y : ℤ) (c d e : Datum) → IsOf Truths c → Holds Truths z c → Holds s x d → Holds s y e → Found (choice_of c d e) s (cond (is_zero z) y x)
found_if s z x y Nil d e of hc hd he = (Nil, refl, nothing_of_nil s (cond (is_zero z) y x))
found_if s z x y (Int n) d e of hc hd he = absurd of
found_if s z x y (Name k) d e of hc hd he = absurd of
found_if s z x y (Truth v) d e of hc hd he = unless_nil (is_nil d) (is_nil e) (picked_of (Truth v) d e) s (cond (is_zero z) y x) (if_word s x y (is_zero z) v d e (is_truth Truths z v hc) hd he)

pub found_arrow : (s : Kind) (x y : ℤ) (w : Bool) (d e : Datum) → Holds s x d → Holds s y e → Found (arrow_of (Some w) d e) s (cond w y x)
found_arrow s x y true d e hd he = (e, refl, he)
found_arrow s x y false d e hd he = (d, refl, hd)

pub found_held : (v : Outcome) (s : Kind) (z z' : ℤ) → z' ≡ z → Found v s z → Found v s z'
found_held v s z z' e f = subst (λ (w : ℤ). Found v s w) (sym e) f

-- ticks

add_none : (c : ℕ) (q : Option Bool) → q ≡ Some false → c + once_true q ≡ c
add_none c q e = let z : once_true q ≡ 0 = ap once_true e in omega (arith, z)

add_one : (c : ℕ) (q : Option Bool) → q ≡ Some true → c + once_true q ≡ suc c
add_one c q e = let z : once_true q ≡ 1 = ap once_true e in omega (arith, z)

-- the last datum after one instant more, and its word
pub last_step : (s : Kind) (e : Bool) (w q : Option Bool) (m : Mark) (o : Option Datum) (x : Datum) (word : ℕ → ℤ) (c : ℕ) → IsTidyMark s e w q m → m ≢ Broken → ((d : Datum) → m ≡ Known (Present d) → Holds s (word (suc c)) d) → o ≡ Some x → Holds s (word c) x → (y : Datum) × (newer m o ≡ Some y) × Holds s (word (c + once_true q)) y
last_step s e w q Broken o x word c tidy sure held is h = absurd (sure refl)
last_step s e w q (Known Absent) o x word c tidy sure held is h = (x, is, subst (λ (n : ℕ). Holds s (word n) x) (sym (add_none c q tidy)) h)
last_step s e w q (Known (Present d)) o x word c tidy sure held is h = (d, ap (newer (Known (Present d))) is, subst (λ (n : ℕ). Holds s (word n) d) (sym (add_one c q tidy.0)) (held d refl))

or_true : (w : Bool) → w || true ≡ true
or_true true = refl
or_true false = refl

-- whether there was a tick, after one instant more
pub was_step : (x w : Bool) (c : ℕ) → either (Some x) (Some (w || nat_lt 0 c)) ≡ Some (w || nat_lt 0 (c + once x))
was_step false w c = let e : c ≡ c + 0 = omega arith in ap (λ (n : ℕ). Some (w || nat_lt 0 n)) e
was_step true w c =
    let more : nat_lt 0 (c + 1) ≡ true = lt-ltb 0 (c + 1) (omega arith) in
    sym (ap Some (or_true w)) ∙ ap (λ (p : Bool). Some (w || p)) (sym more)

-- how often a variable had a value, after one instant more
pub hits_step : (b : Block) (u : Kind) (e : Bool) (w q : Option Bool) (m : Mark) (c : ℕ) (d : Datum) (s n : ℕ) → e ≡ false → IsTidyMark u e w q m → m ≢ Broken → ((x : Datum) → m ≡ Known (Present x) → Holds u (b.word c (suc s)) x) → n ≡ hits b u c d s → n + once_true (truth_in d m) ≡ hits b u c d (s + once_true q)
hits_step b u e w q Broken c d s n none tidy sure held is = absurd (sure refl)
hits_step b u e w q (Known Absent) c d s n none tidy sure held is =
    let left : n + once_true (Some false) ≡ n = add_none n (Some false) refl in
    left ∙ is ∙ ap (hits b u c d) (sym (add_none s q tidy))
hits_step b u e w q (Known (Present x)) c d s n none tidy sure held is =
    let exact : x ≡ datum_at u (b.word c (suc s)) = held x refl (λ nil. let one : e ≡ true = (tidy.2 nil).0 in let clash : false ≡ true = sym none ∙ one in cc) in
    ap₂ (λ (k : ℕ) (y : Datum). k + once (is_value d y)) is exact ∙ ap (hits b u c d) (sym (add_one s q tidy.0))

pub hits_grow : (b : Block) (u : Kind) (c : ℕ) (d : Datum) (n m : ℕ) → n ≤ m → hits b u c d n ≤ hits b u c d m
hits_grow b u c d n zero l = let e : n ≡ 0 = omega arith in subst (λ (k : ℕ). hits b u c d k ≤ hits b u c d 0) (sym e) (omega arith)
hits_grow b u c d n (suc m) l = elim (cases_lt n (suc m)) [
  | inl h ↦ let below = hits_grow b u c d n m (omega arith) in omega (arith, below)
  | inr h ↦ let e : n ≡ suc m = omega arith in subst (λ (k : ℕ). hits b u c d k ≤ hits b u c d (suc m)) (sym e) (omega arith)
]

-- a tick at which the variable has the value is one more
pub hits_here : (b : Block) (u : Kind) (c : ℕ) (d : Datum) (n m : ℕ) → n < m → is_value d (datum_at u (b.word c (suc n))) ≡ true → hits b u c d n < hits b u c d m
hits_here b u c d n m l on =
    let grows = hits_grow b u c d (suc n) m (omega arith) in
    let one : once (is_value d (datum_at u (b.word c (suc n)))) ≡ 1 = ap once on in
    omega (arith, grows, one)
