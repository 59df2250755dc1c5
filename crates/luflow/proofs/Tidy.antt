-- In every solution of a sound program each flow is present exactly where its clock is true until it is broken, has its
-- sort, and is nil only where its class allows it; and a value is stuck only where something that it reads is broken.
use Rattle.std.proofs.Common.{◌≡◌, ◌≢◌, ℕ, Bool, true, false, cond, not, Option, Some, None, ℤ, refl, ap, ap₂, ◌∙◌}
use Rattle.std.specs.Prelude.{◌||◌}
use Rattle.luflow.specs.declared.data.Datum.{Datum}
use Rattle.luflow.specs.declared.data.Datum.TheVariants.{Int, Bool as Truth, Name, Nil}
use Rattle.luflow.specs.declared.data.Status.TheVariants.{Absent, Present}
use Rattle.lutree.specs.declared.program.Kind.{Kind}
use Rattle.lutree.specs.declared.program.Kind.TheVariants.{Int as Ints, Bool as Truths, Enum}
use Rattle.lutree.specs.declared.expr.UnaryOperator.{UnaryOperator}
use Rattle.lutree.specs.declared.expr.UnaryOperator.TheVariants.{Minus, Not}
use Rattle.lutree.specs.declared.expr.BinaryOperator.{BinaryOperator}
use Rattle.lutree.specs.declared.expr.BinaryOperator.TheVariants.{Add}
use Rattle.luflow.specs.declared.form.FaultKind.TheVariants.{Overflow, DivZero}
use Rattle.luflow.specs.declared.form.Outcome.{Outcome}
use Rattle.luflow.specs.declared.form.Outcome.TheVariants.{Gives, Faults, Stuck}
use Rattle.luflow.specs.Operators.{single_sort, takes, makes, fits, is_zero, Exact, whole, divided, verdict, nothing, settled, at_int, at_truth, at_ints, at_truths, at_names, ints_of, truths_of, names_of, single_of, double_of, picked_of, choice_of}
use Rattle.luflow.specs.Streams.{Mark, Known, Broken, datum_of, is_value, truth_in, either, newer}
use Rattle.luflow.specs.Values.{gives, on_one, on_two, on_three, arrow_of, under}
use Rattle.luflow.specs.Sound.{IsOf, AtMost, IsTidyMark}

-- nil only as the class allows it
abbrev pub NilOk : Bool → Option Bool → Datum → Type 0
NilOk e was d = d ≡ Nil → (e ≡ true) × (was ≡ Some false)

-- what is read of a mark
abbrev pub Reads : Kind → Bool → Option Bool → Mark → Option Datum → Type 0
Reads s e was m None = m ≡ Broken
Reads s e was m (Some d) = IsOf s d × NilOk e was d

-- an outcome; B says that nothing that it reads is broken
abbrev pub IsTidyOutcome : Type 0 → Kind → Bool → Option Bool → Outcome → Type 0
IsTidyOutcome B s e was (Gives d) = IsOf s d × NilOk e was d
IsTidyOutcome B s e was (Faults k) = Unit {0}
IsTidyOutcome B s e was Stuck = B → ⊥

pub operand : (s : Kind) (e : Bool) (was : Option Bool) (m : Mark) → IsTidyMark s e was (Some true) m → Reads s e was m (datum_of m)
operand s e was Broken h = refl
operand s e was (Known Absent) h = let f : Some true ≡ Some false = h in cc
operand s e was (Known (Present d)) h = (h.1, h.2)

pub weaker : (e e' : Bool) (was : Option Bool) (d : Datum) → AtMost e' e → NilOk e' was d → NilOk e was d
weaker e e' was d le h n = (le (h n).0, (h n).1)

pub nil_of : (s : Kind) → IsOf s Nil
nil_of Ints = tt
nil_of Truths = tt
nil_of (Enum p n) = tt

pub int_ok : (B : Type 0) (e : Bool) (was : Option Bool) (b : Bool) (z : ℤ) → IsTidyOutcome B Ints e was (cond b (Gives (Int z)) (Faults Overflow))
int_ok B e was true z = (tt, λ n. let f : Int z ≡ Nil = n in cc)
int_ok B e was false z = tt

pub zero_ok : (B : Type 0) (e : Bool) (was : Option Bool) (b c : Bool) (z : ℤ) → IsTidyOutcome B Ints e was (cond b (Faults DivZero) (cond c (Gives (Int z)) (Faults Overflow)))
zero_ok B e was true c z = tt
zero_ok B e was false c z = int_ok B e was c z

pub truth_ok : (B : Type 0) (e : Bool) (was : Option Bool) (b : Bool) → IsTidyOutcome B Truths e was (Gives (Truth b))
truth_ok B e was b = (tt, λ n. let f : Truth b ≡ Nil = n in cc)

-- the type of what an operator gives, which the tables of types say
abbrev sort_of : Exact → Option Kind
sort_of (whole z) = Some Ints
sort_of (divided y z) = Some Ints
sort_of (verdict b) = Some Truths
sort_of nothing = None

abbrev where_taken : Bool → Kind → Option Kind
where_taken true s = Some s
where_taken false s = None

abbrev is_ints : Kind → Bool
is_ints Ints = true
is_ints Truths = false
is_ints (Enum p n) = false

sort_at_int : (op : UnaryOperator) (x : ℤ) → sort_of (at_int op x) ≡ where_taken (is_ints (single_sort op)) Ints
sort_at_int Minus x = refl
sort_at_int _ x = refl

sort_at_truth : (op : UnaryOperator) (b : Bool) → sort_of (at_truth op b) ≡ where_taken (not (is_ints (single_sort op))) Truths
sort_at_truth Minus b = refl
sort_at_truth _ b = refl

sort_at_ints : (op : BinaryOperator) (x y : ℤ) → sort_of (at_ints op x y) ≡ where_taken (takes op Ints) (makes op)
sort_at_ints Add x y = refl
sort_at_ints _ x y = refl

sort_at_truths : (op : BinaryOperator) (x y : Bool) → sort_of (at_truths op x y) ≡ where_taken (takes op Truths) (makes op)
sort_at_truths Add x y = refl
sort_at_truths _ x y = refl

sort_at_names : (op : BinaryOperator) (x y p n : ℕ) → sort_of (at_names op x y) ≡ where_taken (takes op (Enum p n)) (makes op)
sort_at_names Add x y p n = refl
sort_at_names _ x y p n = refl

settled_ok : (B : Type 0) (e : Bool) (was : Option Bool) (s : Kind) (x : Exact) → sort_of x ≡ Some s → IsTidyOutcome B s e was (settled x)
settled_ok B e was Ints (whole z) h = int_ok B e was (fits z) z
settled_ok B e was Ints (divided y z) h = zero_ok B e was (is_zero y) (fits z) z
settled_ok B e was Ints (verdict b) h = absurd cc
settled_ok B e was Truths (whole z) h = absurd cc
settled_ok B e was Truths (divided y z) h = absurd cc
settled_ok B e was Truths (verdict b) h = truth_ok B e was b
settled_ok B e was (Enum p n) (whole z) h = absurd cc
settled_ok B e was (Enum p n) (divided y z) h = absurd cc
settled_ok B e was (Enum p n) (verdict b) h = absurd cc
settled_ok B e was s nothing h = absurd cc

pub ints_ok : (B : Type 0) (e : Bool) (was : Option Bool) (op : BinaryOperator) (x y : ℤ) → takes op Ints ≡ true → IsTidyOutcome B (makes op) e was (ints_of op x y)
ints_ok B e was op x y h = settled_ok B e was (makes op) (at_ints op x y) (sort_at_ints op x y ∙ ap (λ b. where_taken b (makes op)) h)

pub truths_ok : (B : Type 0) (e : Bool) (was : Option Bool) (op : BinaryOperator) (x y : Bool) → takes op Truths ≡ true → IsTidyOutcome B (makes op) e was (truths_of op x y)
truths_ok B e was op x y h = settled_ok B e was (makes op) (at_truths op x y) (sort_at_truths op x y ∙ ap (λ b. where_taken b (makes op)) h)

pub names_ok : (B : Type 0) (e : Bool) (was : Option Bool) (op : BinaryOperator) (x y p n : ℕ) → takes op (Enum p n) ≡ true → IsTidyOutcome B (makes op) e was (names_of op x y)
names_ok B e was op x y p n h = settled_ok B e was (makes op) (at_names op x y) (sort_at_names op x y p n ∙ ap (λ b. where_taken b (makes op)) h)

-- the operators at data
pub double_ok : (B : Type 0) (e ea eb : Bool) (was : Option Bool) (op : BinaryOperator) (u : Kind) (x y : Datum) → takes op u ≡ true → IsOf u x → NilOk ea was x → IsOf u y → NilOk eb was y → AtMost ea e → AtMost eb e → IsTidyOutcome B (makes op) e was (double_of op x y)
double_ok B e ea eb was op u Nil y h hx nx hy ny la lb = (nil_of (makes op), weaker e ea was Nil la nx)
double_ok B e ea eb was op u (Int a) Nil h hx nx hy ny la lb = (nil_of (makes op), weaker e eb was Nil lb ny)
double_ok B e ea eb was op u (Truth a) Nil h hx nx hy ny la lb = (nil_of (makes op), weaker e eb was Nil lb ny)
double_ok B e ea eb was op u (Name a) Nil h hx nx hy ny la lb = (nil_of (makes op), weaker e eb was Nil lb ny)
double_ok B e ea eb was op Ints (Int a) (Int b) h hx nx hy ny la lb = ints_ok B e was op a b h
double_ok B e ea eb was op Ints (Int a) (Truth b) h hx nx hy ny la lb = absurd hy
double_ok B e ea eb was op Ints (Int a) (Name b) h hx nx hy ny la lb = absurd hy
double_ok B e ea eb was op Ints (Truth a) y h hx nx hy ny la lb = absurd hx
double_ok B e ea eb was op Ints (Name a) y h hx nx hy ny la lb = absurd hx
double_ok B e ea eb was op Truths (Int a) y h hx nx hy ny la lb = absurd hx
double_ok B e ea eb was op Truths (Truth a) (Int b) h hx nx hy ny la lb = absurd hy
double_ok B e ea eb was op Truths (Truth a) (Truth b) h hx nx hy ny la lb = truths_ok B e was op a b h
double_ok B e ea eb was op Truths (Truth a) (Name b) h hx nx hy ny la lb = absurd hy
double_ok B e ea eb was op Truths (Name a) y h hx nx hy ny la lb = absurd hx
double_ok B e ea eb was op (Enum p n) (Int a) y h hx nx hy ny la lb = absurd hx
double_ok B e ea eb was op (Enum p n) (Truth a) y h hx nx hy ny la lb = absurd hx
double_ok B e ea eb was op (Enum p n) (Name a) (Int b) h hx nx hy ny la lb = absurd hy
double_ok B e ea eb was op (Enum p n) (Name a) (Truth b) h hx nx hy ny la lb = absurd hy
double_ok B e ea eb was op (Enum p n) (Name a) (Name b) h hx nx hy ny la lb = names_ok B e was op a b p n h

one_int_ok : (B : Type 0) (e : Bool) (was : Option Bool) (s : Kind) (x : Exact) (n : ℤ) → IsOf s (Int n) → sort_of x ≡ where_taken (is_ints s) Ints → IsTidyOutcome B s e was (settled x)
one_int_ok B e was Ints x n h k = settled_ok B e was Ints x k
one_int_ok B e was Truths x n h k = absurd h
one_int_ok B e was (Enum p m) x n h k = absurd h

one_truth_ok : (B : Type 0) (e : Bool) (was : Option Bool) (s : Kind) (x : Exact) (b : Bool) → IsOf s (Truth b) → sort_of x ≡ where_taken (not (is_ints s)) Truths → IsTidyOutcome B s e was (settled x)
one_truth_ok B e was Ints x b h k = absurd h
one_truth_ok B e was Truths x b h k = settled_ok B e was Truths x k
one_truth_ok B e was (Enum p n) x b h k = absurd h

-- no operator with one operand takes names
no_names : (op : UnaryOperator) (k : ℕ) → IsOf (single_sort op) (Name k) → ⊥
no_names Minus k h = h
no_names Not k h = h

pub single_ok : (B : Type 0) (e ea : Bool) (was : Option Bool) (op : UnaryOperator) (x : Datum) → IsOf (single_sort op) x → NilOk ea was x → AtMost ea e → IsTidyOutcome B (single_sort op) e was (single_of op x)
single_ok B e ea was op (Int n) h ok le = one_int_ok B e was (single_sort op) (at_int op n) n h (sort_at_int op n)
single_ok B e ea was op (Truth b) h ok le = one_truth_ok B e was (single_sort op) (at_truth op b) b h (sort_at_truth op b)
single_ok B e ea was op (Name k) h ok le = absurd (no_names op k h)
single_ok B e ea was op Nil h ok le = (nil_of (single_sort op), weaker e ea was Nil le ok)

pub picked_ok : (B : Type 0) (s : Kind) (e ea eb : Bool) (was : Option Bool) (v : Bool) (x y : Datum) → IsOf s x → NilOk ea was x → IsOf s y → NilOk eb was y → AtMost ea e → AtMost eb e → IsTidyOutcome B s e was (picked_of (Truth v) x y)
picked_ok B s e ea eb was true x y hx nx hy ny la lb = (hx, weaker e ea was x la nx)
picked_ok B s e ea eb was false x y hx nx hy ny la lb = (hy, weaker e eb was y lb ny)

pub choice_ok : (B : Type 0) (s : Kind) (e ec ea eb : Bool) (was : Option Bool) (c x y : Datum) → IsOf Truths c → NilOk ec was c → IsOf s x → NilOk ea was x → IsOf s y → NilOk eb was y → AtMost ec e → AtMost ea e → AtMost eb e → IsTidyOutcome B s e was (choice_of c x y)
choice_ok B s e ec ea eb was Nil x y hc nc hx nx hy ny lc la lb = (nil_of s, weaker e ec was Nil lc nc)
choice_ok B s e ec ea eb was (Int n) x y hc nc hx nx hy ny lc la lb = absurd hc
choice_ok B s e ec ea eb was (Name n) x y hc nc hx nx hy ny lc la lb = absurd hc
choice_ok B s e ec ea eb was (Truth v) Nil y hc nc hx nx hy ny lc la lb = (nil_of s, weaker e ea was Nil la nx)
choice_ok B s e ec ea eb was (Truth v) x Nil hc nc hx nx hy ny lc la lb = (nil_of s, weaker e eb was Nil lb ny)
choice_ok B s e ec ea eb was (Truth v) x y hc nc hx nx hy ny lc la lb = picked_ok B s e ea eb was v x y hx nx hy ny la lb

-- the forms at what is read
pub gives_ok : (B : Type 0) (s : Kind) (e ea : Bool) (was : Option Bool) (m : Mark) (o : Option Datum) → Reads s ea was m o → AtMost ea e → (B → m ≢ Broken) → IsTidyOutcome B s e was (gives o)
gives_ok B s e ea was m None r le nb = λ b. nb b r
gives_ok B s e ea was m (Some d) r le nb = (r.0, weaker e ea was d le r.1)

pub one_ok : (B : Type 0) (e ea : Bool) (was : Option Bool) (op : UnaryOperator) (m : Mark) (o : Option Datum) → Reads (single_sort op) ea was m o → AtMost ea e → (B → m ≢ Broken) → IsTidyOutcome B (single_sort op) e was (on_one (single_of op) o)
one_ok B e ea was op m None r le nb = λ b. nb b r
one_ok B e ea was op m (Some d) r le nb = single_ok B e ea was op d r.0 r.1 le

pub two_ok : (B : Type 0) (e ea eb : Bool) (was : Option Bool) (op : BinaryOperator) (u : Kind) (m n : Mark) (x y : Option Datum) → takes op u ≡ true → Reads u ea was m x → Reads u eb was n y → AtMost ea e → AtMost eb e → (B → m ≢ Broken) → (B → n ≢ Broken) → IsTidyOutcome B (makes op) e was (on_two (double_of op) x y)
two_ok B e ea eb was op u m n None y h rx ry la lb nm nn = λ b. nm b rx
two_ok B e ea eb was op u m n (Some x) None h rx ry la lb nm nn = λ b. nn b ry
two_ok B e ea eb was op u m n (Some x) (Some y) h rx ry la lb nm nn = double_ok B e ea eb was op u x y h rx.0 rx.1 ry.0 ry.1 la lb

pub if_ok : (B : Type 0) (s : Kind) (e ec ea eb : Bool) (was : Option Bool) (l m n : Mark) (c x y : Option Datum) → Reads Truths ec was l c → Reads s ea was m x → Reads s eb was n y → AtMost ec e → AtMost ea e → AtMost eb e → (B → l ≢ Broken) → (B → m ≢ Broken) → (B → n ≢ Broken) → IsTidyOutcome B s e was (on_three choice_of c x y)
if_ok B s e ec ea eb was l m n None x y rc rx ry lc la lb nl nm nn = λ b. nl b rc
if_ok B s e ec ea eb was l m n (Some c) None y rc rx ry lc la lb nl nm nn = λ b. nm b rx
if_ok B s e ec ea eb was l m n (Some c) (Some x) None rc rx ry lc la lb nl nm nn = λ b. nn b ry
if_ok B s e ec ea eb was l m n (Some c) (Some x) (Some y) rc rx ry lc la lb nl nm nn = choice_ok B s e ec ea eb was c x y rc.0 rc.1 rx.0 rx.1 ry.0 ry.1 lc la lb

pub arrow_ok : (B : Type 0) (s : Kind) (e ea eb : Bool) (was : Option Bool) (m n : Mark) (x y : Option Datum) → Reads s ea was m x → Reads s eb was n y → AtMost ea e → (B → m ≢ Broken) → (B → n ≢ Broken) → (B → was ≢ None) → IsTidyOutcome B s e was (on_two (arrow_of was) x y)
arrow_ok B s e ea eb was m n None y rx ry la nm nn nw = λ b. nm b rx
arrow_ok B s e ea eb was m n (Some x) None rx ry la nm nn nw = λ b. nn b ry
arrow_ok B s e ea eb None m n (Some x) (Some y) rx ry la nm nn nw = λ b. nw b refl
arrow_ok B s e ea eb (Some false) m n (Some x) (Some y) rx ry la nm nn nw = (rx.0, weaker e ea (Some false) x la rx.1)
arrow_ok B s e ea eb (Some true) m n (Some x) (Some y) rx ry la nm nn nw = (ry.0, λ i. let f : Some true ≡ Some false = (ry.1 i).1 in cc)

-- the last datum of a flow of class false
abbrev pub PastReads : Type 0 → Kind → Option Bool → Option Datum → Type 0
PastReads B s w None = B → ⊥
PastReads B s w (Some d) = IsOf s d × (d ≡ Nil → w ≡ Some false)

pub newer_ok : (B B' : Type 0) (s : Kind) (kt w : Option Bool) (m : Mark) (o : Option Datum) → (B' → B) → (B' → m ≢ Broken) → IsTidyMark s false w kt m → PastReads B s w o → PastReads B' s (either kt w) (newer m o)
newer_ok B B' s kt w Broken o back nb h p = λ b. nb b refl
newer_ok B B' s kt w (Known Absent) None back nb h p = λ b. p (back b)
newer_ok B B' s kt w (Known Absent) (Some d) back nb h p = (p.0, λ n. ap₂ either h (p.1 n))
newer_ok B B' s kt w (Known (Present d)) None back nb h p = λ b. p (back b)
newer_ok B B' s kt w (Known (Present d)) (Some x) back nb h p = (h.1, λ n. let f : false ≡ true = (h.2 n).0 in cc)

pub either_none : (x y : Option Bool) → x ≢ None → y ≢ None → either x y ≢ None
either_none None y hx hy e = hx refl
either_none (Some a) None hx hy e = hy refl
either_none (Some a) (Some b) hx hy e = let f : Some (a || b) ≡ None = e in cc

pub either_false : (x y : Option Bool) → either x y ≡ Some false → (x ≡ Some false) × (y ≡ Some false)
either_false None y e = let f : None ≡ Some false = e in cc
either_false (Some a) None e = let f : None ≡ Some false = e in cc
either_false (Some false) (Some b) e = (refl, e)
either_false (Some true) (Some b) e = let f : Some true ≡ Some false = e in cc

pub either_true : (x y : Option Bool) → x ≡ Some true → either x y ≢ Some false
either_true None y h e = let f : None ≡ Some true = h in cc
either_true (Some a) None h e = let f : None ≡ Some false = e in cc
either_true (Some false) (Some b) h e = let f : Some false ≡ Some true = h in cc
either_true (Some true) (Some b) h e = let f : Some true ≡ Some false = e in cc

pub truth_known : (d : Datum) (m : Mark) → m ≢ Broken → truth_in d m ≢ None
truth_known d Broken h e = h refl
truth_known d (Known Absent) h e = let f : Some false ≡ None = e in cc
truth_known d (Known (Present x)) h e = let f : Some (is_value d x) ≡ None = e in cc

pub under_ok : (B : Type 0) (s : Kind) (e : Bool) (was q : Option Bool) (v : Outcome) → (q ≡ Some true → IsTidyOutcome B s e was v) → IsTidyMark s e was q (under q v)
under_ok B s e was None v h = tt
under_ok B s e was (Some false) v h = refl
under_ok B s e was (Some true) (Gives d) h = (refl, (h refl).0, (h refl).1)
under_ok B s e was (Some true) (Faults k) h = tt
under_ok B s e was (Some true) Stuck h = tt
