-- What a checked program's flows satisfy, and what follows for each status.
use Rattle.std.specs.Prelude.{◌≡◌, ◌≢◌, ℕ, ◌<◌, Bool, true, false, Option, Some, slice_get, All, List, []}
use Rattle.std.specs.Prelude.{◌∷◌, map, Contains}
use Rattle.std.specs.List.{range_with_len}
use Rattle.luflow.specs.declared.data.Datum.{Datum}
use Rattle.luflow.specs.declared.data.Datum.TheVariants.{Int, Bool as Truth, Name, Nil}
use Rattle.luflow.specs.declared.data.Status.TheVariants.{Absent, Present}
use Rattle.lutree.specs.declared.program.Kind.{Kind}
use Rattle.lutree.specs.declared.program.Kind.TheVariants.{Int as Ints, Bool as Truths, Enum}
use Rattle.luflow.specs.declared.form.Clock.{Clock}
use Rattle.luflow.specs.declared.form.Clock.TheVariants.{Base, On}
use Rattle.luflow.specs.declared.form.Form.{Form}
use Rattle.luflow.specs.declared.form.Form.TheVariants.{Input, Constant, Copied, Unary, Binary, If, Pre}
use Rattle.luflow.specs.declared.form.Form.TheVariants.{Arrow, When, Current, Merge}
use Rattle.luflow.specs.declared.form.Flow.{Flow}
use Rattle.luflow.specs.declared.variable.Variable.{Variable}
use Rattle.luflow.specs.declared.variable.Role.TheVariants.{Output}
use Rattle.luflow.specs.Program.{FlatView, InputsView, flow_at, places, clock_reads, form_reads, column_of}
use Rattle.luflow.specs.Operators.{single_sort, takes, makes}
use Rattle.luflow.specs.Streams.{Mark, Known, Broken, Streams, clock_at, ticked}

-- whether a datum has a type; nil has each
abbrev pub IsOf : Kind → Datum → Type 0
IsOf Ints (Int n) = Unit {0}
IsOf Ints (Truth b) = ⊥
IsOf Ints (Name k) = ⊥
IsOf Ints Nil = Unit {0}
IsOf Truths (Int n) = ⊥
IsOf Truths (Truth b) = Unit {0}
IsOf Truths (Name k) = ⊥
IsOf Truths Nil = Unit {0}
IsOf (Enum p n) (Int z) = ⊥
IsOf (Enum p n) (Truth b) = ⊥
IsOf (Enum p n) (Name k) = k < n
IsOf (Enum p n) Nil = Unit {0}

-- flow r stands on this clock, with this sort
pub record IsOn (flat : FlatView) (k : Clock) (s : Kind) (r : ℕ) : Type 0 where
  pub form : Form
  pub there : flow_at flat r ≡ Some (record { form = form; clock = k; kind = s })

-- the values of a type at which a clock may be true
abbrev pub clock_values : Kind → List Datum
clock_values Ints = []
clock_values Truths = Truth true ∷ Truth false ∷ []
clock_values (Enum p n) = map Name (range_with_len 0 n)

-- the flow of c begins with this constant: true -> e, false -> e, A -> e
pub record BeginsWith (flat : FlatView) (k : Clock) (d : Datum) (c : ℕ) : Type 0 where
  pub kind : Kind
  pub first : ℕ
  pub then : ℕ
  pub there : flow_at flat c ≡ Some (record { form = Arrow first then; clock = k; kind = kind })
  pub constant : flow_at flat first ≡ Some (record { form = Constant d; clock = k; kind = kind })
  pub pattern : Contains (clock_values kind) d

-- the branches of a merge: one for each of these values, where the variable c has it, of class false
abbrev pub BranchesFit : FlatView → (ℕ → Bool) → Kind → ℕ → List Datum → List ℕ → Type 0
BranchesFit flat class s c [] [] = Unit {0}
BranchesFit flat class s c [] (x ∷ xs) = ⊥
BranchesFit flat class s c (d ∷ ds) [] = ⊥
BranchesFit flat class s c (d ∷ ds) (x ∷ xs) = IsOn flat (On c d) s x × (class x ≡ false)
    × BranchesFit flat class s c ds xs

-- class false is never nil, class true is nil at most at the first instant of its clock
abbrev pub AtMost : Bool → Bool → Type 0
AtMost c d = c ≡ true → d ≡ true

abbrev pub IsConstantOf : Kind → Datum → Type 0
IsConstantOf s d = IsOf s d × (d ≢ Nil)

-- the rules of types, clocks and initialisation for a flow of class e on clock k, of type s
abbrev pub FormFits : FlatView → (ℕ → Bool) → Clock → Kind → Bool → Form → Type 0
FormFits flat class k s e (Input c) = k ≡ Base
FormFits flat class k s e (Constant d) = IsConstantOf s d
FormFits flat class k s e (Copied a) = IsOn flat k s a × AtMost (class a) e
FormFits flat class k s e (Unary op a) = (s ≡ single_sort op) × IsOn flat k s a × AtMost (class a) e
FormFits flat class k s e (Binary op a b) = (u : Kind) × (takes op u ≡ true) × (s ≡ makes op)
    × IsOn flat k u a × IsOn flat k u b × AtMost (class a) e × AtMost (class b) e
FormFits flat class k s e (If c a b) = IsOn flat k Truths c × IsOn flat k s a × IsOn flat k s b
    × AtMost (class c) e × AtMost (class a) e × AtMost (class b) e
FormFits flat class k s e (Pre a) = IsOn flat k s a × (class a ≡ false) × (e ≡ true)
FormFits flat class k s e (Arrow a b) = IsOn flat k s a × IsOn flat k s b × AtMost (class a) e
FormFits flat class k s e (When a) = (c : ℕ) × (d : Datum) × (u : Kind) × (k' : Clock) × (k ≡ On c d)
    × IsOn flat k' u c × IsOn flat k' s a × AtMost (class a) e
FormFits flat class k s e (Current a) = (c : ℕ) × (d : Datum) × IsOn flat (On c d) s a × (class a ≡ false)
    × BeginsWith flat k d c
FormFits flat class k s e (Merge c xs) = (u : Kind) × (clock_values u ≢ []) × IsOn flat k u c
    × (class c ≡ false) × BranchesFit flat class s c (clock_values u) xs

abbrev pub ClockFits : FlatView → (ℕ → Bool) → Clock → Type 0
ClockFits flat class Base = Unit {0}
ClockFits flat class (On c d) = (k : Clock) × (u : Kind) × Contains (clock_values u) d × IsOn flat k u c
    × (class c ≡ false)

-- some assignment of classes meets the rules of all flows and of the outputs, which are never nil
pub record IsSound (flat : FlatView) : Type 0 where
  pub class : ℕ → Bool
  pub forms : (i : ℕ) (flow : Flow) → flow_at flat i ≡ Some flow
      → FormFits flat class flow.clock flow.kind (class i) flow.form
  pub clocks : (i : ℕ) (flow : Flow) → flow_at flat i ≡ Some flow → ClockFits flat class flow.clock
  pub outputs : (v : ℕ) (x : Variable) → slice_get flat.variables v ≡ Some x → x.role ≡ Output
      → class v ≡ false

-- the column of an input has a datum of its type, not nil, at each instant
abbrev pub IsFitFor : InputsView → Kind → Form → Type 0
IsFitFor inputs s (Input c) = (t : ℕ) → t < inputs.instants
    → (d : Datum) × (slice_get (column_of inputs c) t ≡ Some d) × IsConstantOf s d
IsFitFor inputs s (Constant d) = Unit {0}
IsFitFor inputs s (Copied a) = Unit {0}
IsFitFor inputs s (Unary op a) = Unit {0}
IsFitFor inputs s (Binary op a b) = Unit {0}
IsFitFor inputs s (If c a b) = Unit {0}
IsFitFor inputs s (Pre a) = Unit {0}
IsFitFor inputs s (Arrow a b) = Unit {0}
IsFitFor inputs s (When a) = Unit {0}
IsFitFor inputs s (Current a) = Unit {0}
IsFitFor inputs s (Merge c xs) = Unit {0}

pub record IsFit (flat : FlatView) (inputs : InputsView) : Type 0 where
  pub columns : (i : ℕ) (flow : Flow) → flow_at flat i ≡ Some flow → IsFitFor inputs flow.kind flow.form

-- present exactly where its clock is true until it is broken, of its type, and nil only as its class allows
abbrev pub IsTidyMark : Kind → Bool → Option Bool → Option Bool → Mark → Type 0
IsTidyMark s e was k Broken = Unit {0}
IsTidyMark s e was k (Known Absent) = k ≡ Some false
IsTidyMark s e was k (Known (Present d)) =
    (k ≡ Some true) × IsOf s d × (d ≡ Nil → (e ≡ true) × (was ≡ Some false))

abbrev pub IsTidy : FlatView → InputsView → (ℕ → Bool) → Streams → ℕ → ℕ → Type 0
IsTidy flat inputs class σ i t = (flow : Flow) → flow_at flat i ≡ Some flow → IsTidyMark flow.kind (class i)
    (ticked (clock_at inputs σ flow.clock) t) (clock_at inputs σ flow.clock t) (σ i t)

-- nothing that the value of a form on clock k looks at, at t and before it, is broken
pub record IsUnbroken (σ : Streams) (k : Clock) (form : Form) (t : ℕ) : Type 0 where
  pub now : All (λ r. σ r t ≢ Broken) (form_reads form)
  pub then : (u : ℕ) → u < t → All (λ r. σ r u ≢ Broken) (places form)
  pub clock_then : (u : ℕ) → u < t → All (λ r. σ r u ≢ Broken) (clock_reads k)
