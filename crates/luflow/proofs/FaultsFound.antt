-- Where a value is a fault, the flow is an operator that is one.
use Rattle.std.proofs.Common.{◌≡◌, ℕ, Bool, true, false, cond, List, map, Option, Some, None, refl}
use Rattle.std.specs.Prelude.{◌||◌, slice_get, unwrap_or}
use Rattle.lutree.specs.declared.expr.UnaryOperator.{UnaryOperator}
use Rattle.lutree.specs.declared.expr.BinaryOperator.{BinaryOperator}
use Rattle.luflow.specs.declared.data.Datum.{Datum}
use Rattle.luflow.specs.declared.data.Datum.TheVariants.{Int, Bool as Truth, Name, Nil}
use Rattle.luflow.specs.declared.data.Status.TheVariants.{Absent, Present}
use Rattle.luflow.specs.declared.form.Clock.{Clock}
use Rattle.luflow.specs.declared.form.Form.{Form}
use Rattle.luflow.specs.declared.form.Form.TheVariants.{Input, Constant, Copied, Unary, Binary, If, Pre, Arrow, When, Current, Merge}
use Rattle.luflow.specs.declared.form.Flow.{Flow}
use Rattle.luflow.specs.declared.form.FaultKind.{FaultKind}
use Rattle.luflow.specs.declared.form.Outcome.TheVariants.{Gives, Faults}
use Rattle.luflow.specs.Program.{FlatView, InputsView, flow_at}
use Rattle.luflow.specs.Operators.{single_of, double_of, is_nil, picked_of, choice_of}
use Rattle.luflow.specs.Streams.{Mark, Known, Broken, Streams, datum_of, clock_at}
use Rattle.luflow.specs.Values.{gives, on_one, on_two, on_three, arrow_of, branch_of, branch_value, merge_of, view_at, value_at}
use Rattle.luflow.specs.Faults.{IsFaultOn, OnUnary, OnBinary, IsFault}
use Rattle.luflow.proofs.Faults.{fault_back, fault_back_one}

gives_no : (o : Option Datum) (kind : FaultKind) → gives o ≡ Faults kind → ⊥
gives_no None kind h = cc
gives_no (Some d) kind h = cc

picked_no : (c x y : Datum) (kind : FaultKind) → picked_of c x y ≡ Faults kind → ⊥
picked_no (Truth true) x y kind h = cc
picked_no (Truth false) x y kind h = cc
picked_no (Int n) x y kind h = cc
picked_no (Name n) x y kind h = cc
picked_no Nil x y kind h = cc

choice_no : (c x y : Datum) (kind : FaultKind) → choice_of c x y ≡ Faults kind → ⊥
choice_no c x y kind h = go (is_nil c || (is_nil x || is_nil y)) h
  where
    go : (b : Bool) → cond b (Gives Nil) (picked_of c x y) ≡ Faults kind → ⊥
    go true h = let f : Gives Nil ≡ Faults kind = h in cc
    go false h = picked_no c x y kind h

if_no : (c x y : Option Datum) (kind : FaultKind) → on_three choice_of c x y ≡ Faults kind → ⊥
if_no None x y kind h = cc
if_no (Some c) None y kind h = cc
if_no (Some c) (Some x) None kind h = cc
if_no (Some c) (Some x) (Some y) kind h = choice_no c x y kind h

arrow_no : (was : Option Bool) (x y : Option Datum) (kind : FaultKind) → on_two (arrow_of was) x y ≡ Faults kind → ⊥
arrow_no was None y kind h = cc
arrow_no was (Some x) None kind h = cc
arrow_no None (Some x) (Some y) kind h = cc
arrow_no (Some true) (Some x) (Some y) kind h = cc
arrow_no (Some false) (Some x) (Some y) kind h = cc

branch_no : (b : Option ℕ) (xs : List (Option Datum)) (kind : FaultKind) → branch_value b xs ≡ Faults kind → ⊥
branch_no None xs kind h = cc
branch_no (Some b) xs kind h = gives_no (unwrap_or (slice_get xs b) None) kind h

merge_no : (c : Option Datum) (xs : List (Option Datum)) (kind : FaultKind) → merge_of c xs ≡ Faults kind → ⊥
merge_no None xs kind h = cc
merge_no (Some d) xs kind h = branch_no (branch_of d) xs kind h

one_fault : (σ : Streams) (t a : ℕ) (op : UnaryOperator) (kind : FaultKind) (m : Mark) → σ a t ≡ m → on_one (single_of op) (datum_of m) ≡ Faults kind → IsFaultOn σ t (Unary op a) kind
one_fault σ t a op kind Broken e h = absurd cc
one_fault σ t a op kind (Known Absent) e h = absurd cc
one_fault σ t a op kind (Known (Present x)) e h = OnUnary op a x kind e (fault_back_one op x kind h)

two_fault : (σ : Streams) (t a b : ℕ) (op : BinaryOperator) (kind : FaultKind) (m n : Mark) → σ a t ≡ m → σ b t ≡ n → on_two (double_of op) (datum_of m) (datum_of n) ≡ Faults kind → IsFaultOn σ t (Binary op a b) kind
two_fault σ t a b op kind Broken n e f h = absurd cc
two_fault σ t a b op kind (Known Absent) n e f h = absurd cc
two_fault σ t a b op kind (Known (Present x)) Broken e f h = absurd cc
two_fault σ t a b op kind (Known (Present x)) (Known Absent) e f h = absurd cc
two_fault σ t a b op kind (Known (Present x)) (Known (Present y)) e f h = OnBinary op a b x y kind e f (fault_back op x y kind h)

fault_on : (inputs : InputsView) (σ : Streams) (k : Clock) (t : ℕ) (form : Form) (kind : FaultKind) → value_at inputs σ k form t ≡ Faults kind → IsFaultOn σ t form kind
fault_on inputs σ k t (Input c) kind h = absurd (gives_no _ kind h)
fault_on inputs σ k t (Constant d) kind h = let f : Gives d ≡ Faults kind = h in absurd cc
fault_on inputs σ k t (Copied a) kind h = absurd (gives_no _ kind h)
fault_on inputs σ k t (Unary op a) kind h = one_fault σ t a op kind (σ a t) refl h
fault_on inputs σ k t (Binary op a b) kind h = two_fault σ t a b op kind (σ a t) (σ b t) refl refl h
fault_on inputs σ k t (If c a b) kind h = absurd (if_no _ _ _ kind h)
fault_on inputs σ k t (Pre a) kind h = absurd (gives_no _ kind h)
fault_on inputs σ k t (Arrow a b) kind h = absurd (arrow_no _ _ _ kind h)
fault_on inputs σ k t (When a) kind h = absurd (gives_no _ kind h)
fault_on inputs σ k t (Current a) kind h = absurd (gives_no _ kind h)
fault_on inputs σ k t (Merge c xs) kind h = let v = view_at inputs σ k t in absurd (merge_no (v.now c) (map v.now xs) kind h)

-- a flow whose value is a fault is a fault of the language
pub is_fault : (flat : FlatView) (inputs : InputsView) (σ : Streams) (i t : ℕ) (kind : FaultKind) (flow : Flow) → flow_at flat i ≡ Some flow → clock_at inputs σ flow.clock t ≡ Some true → value_at inputs σ flow.clock flow.form t ≡ Faults kind → IsFault flat inputs σ i t kind
is_fault flat inputs σ i t kind flow is on h = record { flow = flow; there = is; clock = on; fault = fault_on inputs σ flow.clock t flow.form kind h }
