-- When a flow of an open list fits the others, and that it does where the list is moved to.
use Rattle.std.proofs.Common.{◌≡◌, ◌≢◌, ℕ, ◌+◌, ◌<◌, Bool, true, false, List, [], ◌∷◌, length, map, Some, refl, sym, ap, ◌∙◌, subst}
use Rattle.std.specs.Prelude.{slice_get, slice_index, Contains}
use Rattle.std.proofs.lemmas.Option.{slice_get_within}
use Rattle.lutree.specs.declared.expr.Label.{Label}
use Rattle.lutree.specs.declared.expr.Pattern.{Pattern}
use Rattle.lutree.specs.declared.expr.Pattern.TheVariants as patterns
use Rattle.lutree.specs.declared.expr.Condition.{Condition}
use Rattle.lutree.specs.declared.program.Kind.{Kind}
use Rattle.lutree.specs.declared.program.Kind.TheVariants.{Int as Ints, Bool as Truths, Enum}
use Rattle.lutree.specs.Tree.{TypeTree, DeclarationTree, NodeTree, ProgramTree}
use Rattle.luflow.specs.declared.data.Datum.{Datum}
use Rattle.luflow.specs.declared.data.Datum.TheVariants.{Name}
use Rattle.luflow.specs.declared.form.Clock.{Clock}
use Rattle.luflow.specs.declared.form.Clock.TheVariants.{Base, On as Sampled}
use Rattle.luflow.specs.declared.form.Form.{Form}
use Rattle.luflow.specs.declared.form.Form.TheVariants.{Input, Constant, Copied, Unary, Binary, If, Pre, Arrow, When, Current, Merge}
use Rattle.luflow.specs.declared.form.Flow.{Flow}
use Rattle.luflow.specs.Operators.{single_sort, takes, makes}
use Rattle.luflow.specs.Sound.{AtMost, IsOf, IsConstantOf, clock_values}
use Rattle.luflow.proofs.Patterns.{truth_pattern, name_pattern}
use Rattle.lusource.specs.Source.{pattern_value}
use Rattle.lustat_rules.specs.Naming.{IsEnumeration, LabelKnown, PatternKnown}
use Rattle.lustat_rules.specs.Clocks.{pattern_kind, IsTypedClock}
use Rattle.lucore_laws.specs.Layout.{moved_form, moved_clock, moved}

-- CLASSES

pub no_more : (b c : Bool) → b ≡ false → AtMost b c
no_more b c z h = let no : false ≡ true = sym z ∙ h in cc

pub zero_class : (b : Bool) → AtMost b false → b ≡ false
zero_class true h = let no : false ≡ true = h refl in cc
zero_class false h = refl

pub same_class : (b c : Bool) → b ≡ c → AtMost b c
same_class b c e h = sym e ∙ h

-- CLOCKS

-- a name of an enumeration is a value of its type
pub label_within : (p : ProgramTree) (kind : Kind) (t : TypeTree) (i : ℕ) (x : List ℕ) → IsEnumeration p kind t → slice_get t.names i ≡ Some x → IsOf kind (Name i) × Contains (clock_values kind) (Name i)
label_within p Ints t i x is e = absurd is
label_within p Truths t i x is e = absurd is
label_within p (Enum place size) t i x is e =
    let lt : i < size = subst (λ n. i < n) is.1 (slice_get_within t.names i x e) in
    (lt, name_pattern place size i lt)

pub label_is : (p : ProgramTree) (l : Label) → LabelKnown p l → IsOf l.kind (Name l.number) × Contains (clock_values l.kind) (Name l.number)
label_is p l known = label_within p l.kind known.0 l.number l.name known.1 known.2

-- a pattern is a value of its type
pub condition_pattern : (p : ProgramTree) (x : Pattern) → PatternKnown p x → Contains (clock_values (pattern_kind x)) (pattern_value x)
condition_pattern p (patterns.Truth b) known = truth_pattern b
condition_pattern p (patterns.Label l) known = (label_is p l known).1

-- a clock's variable has the type of its pattern, which is a value of that type
abbrev pub IsSampled : NodeTree → Condition → Type 0
IsSampled n c = IsTypedClock n c × Contains (clock_values (pattern_kind c.pattern)) (pattern_value c.pattern)

-- A FLOW AMONG OTHERS

-- the flow at place r stands on this clock, with this type
pub record On (L : List Flow) (k : Clock) (s : Kind) (r : ℕ) : Type 0 where
  pub form : Form
  pub there : slice_get L r ≡ Some (record { form = form; clock = k; kind = s })

-- the flow at place c begins with this constant
pub record Begins (L : List Flow) (k : Clock) (d : Datum) (c : ℕ) : Type 0 where
  pub kind : Kind
  pub first : ℕ
  pub then : ℕ
  pub there : slice_get L c ≡ Some (record { form = Arrow first then; clock = k; kind = kind })
  pub constant : slice_get L first ≡ Some (record { form = Constant d; clock = k; kind = kind })
  pub pattern : Contains (clock_values kind) d

-- the branches of a merge: one for each of these values, where the variable c has it, of class false
abbrev pub BranchesSound : List Flow → (ℕ → Bool) → Kind → ℕ → List Datum → List ℕ → Type 0
BranchesSound L class s c [] [] = Unit {0}
BranchesSound L class s c [] (x ∷ xs) = ⊥
BranchesSound L class s c (d ∷ ds) [] = ⊥
BranchesSound L class s c (d ∷ ds) (x ∷ xs) = On L (Sampled c d) s x × (class x ≡ false) × BranchesSound L class s c ds xs

-- the rules of a form, where an input is one of those that are declared
abbrev pub FormSound : List Flow → List DeclarationTree → (ℕ → Bool) → Clock → Kind → Bool → Form → Type 0
FormSound L ins class k s e (Input r) = (k ≡ Base) × (d : DeclarationTree) × (slice_get ins r ≡ Some d) × (s ≡ d.kind)
FormSound L ins class k s e (Constant d) = IsConstantOf s d
FormSound L ins class k s e (Copied a) = On L k s a × AtMost (class a) e
FormSound L ins class k s e (Unary op a) = (s ≡ single_sort op) × On L k s a × AtMost (class a) e
FormSound L ins class k s e (Binary op a b) = (u : Kind) × (takes op u ≡ true) × (s ≡ makes op) × On L k u a × On L k u b × AtMost (class a) e × AtMost (class b) e
FormSound L ins class k s e (If c a b) = On L k Truths c × On L k s a × On L k s b × AtMost (class c) e × AtMost (class a) e × AtMost (class b) e
FormSound L ins class k s e (Pre a) = On L k s a × (class a ≡ false) × (e ≡ true)
FormSound L ins class k s e (Arrow a b) = On L k s a × On L k s b × AtMost (class a) e
FormSound L ins class k s e (When a) = (c : ℕ) × (d : Datum) × (u : Kind) × (j : Clock) × (k ≡ Sampled c d) × On L j u c × On L j s a × AtMost (class a) e
FormSound L ins class k s e (Current a) = (c : ℕ) × (d : Datum) × On L (Sampled c d) s a × (class a ≡ false) × Begins L k d c
FormSound L ins class k s e (Merge c xs) = (u : Kind) × (clock_values u ≢ []) × On L k u c × (class c ≡ false) × BranchesSound L class s c (clock_values u) xs

abbrev pub ClockSound : List Flow → (ℕ → Bool) → Clock → Type 0
ClockSound L class Base = Unit {0}
ClockSound L class (Sampled c d) = (j : Clock) × (u : Kind) × Contains (clock_values u) d × On L j u c × (class c ≡ false)

pub record FlowSound (L : List Flow) (ins : List DeclarationTree) (class : ℕ → Bool) (e : Bool) (f : Flow) : Type 0 where
  pub form : FormSound L ins class f.clock f.kind e f.form
  pub clock : ClockSound L class f.clock

pub on_there : (L : List Flow) (r : ℕ) (f : Flow) (k : Clock) (s : Kind) → slice_get L r ≡ Some f → f.clock ≡ k → f.kind ≡ s → On L k s r
on_there L r f k s there clock kind =
    subst (λ k. On L k s r) clock (subst (λ s. On L f.clock s r) kind (record { form = f.form; there = there }))

-- a flow fits at any class that isn't lower
raised_form : (L : List Flow) (ins : List DeclarationTree) (class : ℕ → Bool) (k : Clock) (s : Kind) (e e' : Bool) (form : Form) → AtMost e e' → FormSound L ins class k s e form → FormSound L ins class k s e' form
raised_form L ins class k s e e' (Input r) le h = h
raised_form L ins class k s e e' (Constant d) le h = h
raised_form L ins class k s e e' (Copied a) le h = (h.0, λ x. le (h.1 x))
raised_form L ins class k s e e' (Unary op a) le h = (h.0, h.1, λ x. le (h.2 x))
raised_form L ins class k s e e' (Binary op a b) le h = (h.0, h.1, h.2, h.3, h.4, λ x. le (h.5 x), λ x. le (h.6 x))
raised_form L ins class k s e e' (If c a b) le h = (h.0, h.1, h.2, λ x. le (h.3 x), λ x. le (h.4 x), λ x. le (h.5 x))
raised_form L ins class k s e e' (Pre a) le h = (h.0, h.1, le h.2)
raised_form L ins class k s e e' (Arrow a b) le h = (h.0, h.1, λ x. le (h.2 x))
raised_form L ins class k s e e' (When a) le h = (h.0, h.1, h.2, h.3, h.4, h.5, h.6, λ x. le (h.7 x))
raised_form L ins class k s e e' (Current a) le h = h
raised_form L ins class k s e e' (Merge c xs) le h = h

pub raised : (L : List Flow) (ins : List DeclarationTree) (class : ℕ → Bool) (e e' : Bool) (f : Flow) → AtMost e e' → FlowSound L ins class e f → FlowSound L ins class e' f
raised L ins class e e' f le h = record { form = raised_form L ins class f.clock f.kind e e' f.form le h.form; clock = h.clock }

-- A MOVED LIST

module _ (L fl : List Flow) (ins ins' : List DeclarationTree) (class cls : ℕ → Bool) (s : ℕ) (k : Clock) (xs : List ℕ)
    (here : (x : ℕ) (f : Flow) → slice_get fl x ≡ Some f → slice_get L (s + x) ≡ Some (moved s k xs f))
    (same : (x : ℕ) → x < length fl → class (s + x) ≡ cls x) (clock : ClockSound L class k)
    (arguments : (r : ℕ) (d : DeclarationTree) → slice_get ins r ≡ Some d → On L k d.kind (slice_index xs r))
    (zeros : (r : ℕ) (d : DeclarationTree) → slice_get ins r ≡ Some d → class (slice_index xs r) ≡ false) where
  moved_on : (a : ℕ) (c : Clock) (t : Kind) → On fl c t a → On L (moved_clock s k c) t (s + a)
  moved_on a c t o = record { form = moved_form s xs o.form; there = here a (record { form = o.form; clock = c; kind = t }) o.there }

  moved_class : (a : ℕ) (c : Clock) (t : Kind) → On fl c t a → class (s + a) ≡ cls a
  moved_class a c t o = same a (slice_get_within fl a (record { form = o.form; clock = c; kind = t }) o.there)

  moved_most : (a : ℕ) (c : Clock) (t : Kind) (e : Bool) → On fl c t a → AtMost (cls a) e → AtMost (class (s + a)) e
  moved_most a c t e o le h = le (sym (moved_class a c t o) ∙ h)

  moved_zero : (a : ℕ) (c : Clock) (t : Kind) → On fl c t a → cls a ≡ false → class (s + a) ≡ false
  moved_zero a c t o z = moved_class a c t o ∙ z

  moved_begins : (c : Clock) (d : Datum) (v : ℕ) → Begins fl c d v → Begins L (moved_clock s k c) d (s + v)
  moved_begins c d v b =
      record {
        kind = b.kind;
        first = s + b.first;
        then = s + b.then;
        there = here v (record { form = Arrow b.first b.then; clock = c; kind = b.kind }) b.there;
        constant = here b.first (record { form = Constant d; clock = c; kind = b.kind }) b.constant;
        pattern = b.pattern;
      }

  moved_branches : (v : ℕ) (t : Kind) (ds : List Datum) (ys : List ℕ) → BranchesSound fl cls t v ds ys → BranchesSound L class t (s + v) ds (map (λ x. s + x) ys)
  moved_branches v t [] [] h = tt
  moved_branches v t [] (y ∷ ys) h = absurd h
  moved_branches v t (d ∷ ds) [] h = absurd h
  moved_branches v t (d ∷ ds) (y ∷ ys) h =
      (moved_on y (Sampled v d) t h.0, moved_zero y (Sampled v d) t h.0 h.1, moved_branches v t ds ys h.2)

  moved_form_sound : (f : Form) (c : Clock) (t : Kind) (e : Bool) → FormSound fl ins cls c t e f → FormSound L ins' class (moved_clock s k c) t e (moved_form s xs f)
  moved_form_sound (Input r) c t e h =
      let on = arguments r h.1 h.2 in
      let on' = subst (λ t. On L k t (slice_index xs r)) (sym h.3) on in
      (subst (λ c. On L (moved_clock s k c) t (slice_index xs r)) (sym h.0) on', no_more (class (slice_index xs r)) e (zeros r h.1 h.2))
  moved_form_sound (Constant d) c t e h = h
  moved_form_sound (Copied a) c t e h = (moved_on a c t h.0, moved_most a c t e h.0 h.1)
  moved_form_sound (Unary op a) c t e h = (h.0, moved_on a c t h.1, moved_most a c t e h.1 h.2)
  moved_form_sound (Binary op a b) c t e h =
      (h.0, h.1, h.2, moved_on a c h.0 h.3, moved_on b c h.0 h.4, moved_most a c h.0 e h.3 h.5, moved_most b c h.0 e h.4 h.6)
  moved_form_sound (If v a b) c t e h =
      (moved_on v c Truths h.0, moved_on a c t h.1, moved_on b c t h.2, moved_most v c Truths e h.0 h.3, moved_most a c t e h.1 h.4, moved_most b c t e h.2 h.5)
  moved_form_sound (Pre a) c t e h = (moved_on a c t h.0, moved_zero a c t h.0 h.1, h.2)
  moved_form_sound (Arrow a b) c t e h = (moved_on a c t h.0, moved_on b c t h.1, moved_most a c t e h.0 h.2)
  moved_form_sound (When a) c t e h =
      (s + h.0, h.1, h.2, moved_clock s k h.3, ap (moved_clock s k) h.4, moved_on h.0 h.3 h.2 h.5, moved_on a h.3 t h.6, moved_most a h.3 t e h.6 h.7)
  moved_form_sound (Current a) c t e h =
      (s + h.0, h.1, moved_on a (Sampled h.0 h.1) t h.2, moved_zero a (Sampled h.0 h.1) t h.2 h.3, moved_begins c h.1 h.0 h.4)
  moved_form_sound (Merge v ys) c t e h =
      (h.0, h.1, moved_on v c h.0 h.2, moved_zero v c h.0 h.2 h.3, moved_branches v t (clock_values h.0) ys h.4)

  moved_clock_sound : (c : Clock) → ClockSound fl cls c → ClockSound L class (moved_clock s k c)
  moved_clock_sound Base h = clock
  moved_clock_sound (Sampled v d) h = (moved_clock s k h.0, h.1, h.2, moved_on v h.0 h.1 h.3, moved_zero v h.0 h.1 h.3 h.4)

  pub moved_sound : (e : Bool) (f : Flow) → FlowSound fl ins cls e f → FlowSound L ins' class e (moved s k xs f)
  moved_sound e f h = record { form = moved_form_sound f.form f.clock f.kind e h.form; clock = moved_clock_sound f.clock h.clock }

-- the same without classes
pub moved_output : (L fl : List Flow) (s : ℕ) (k : Clock) (xs : List ℕ) → ((x : ℕ) (f : Flow) → slice_get fl x ≡ Some f → slice_get L (s + x) ≡ Some (moved s k xs f)) → (a : ℕ) (t : Kind) → On fl Base t a → On L k t (s + a)
moved_output L fl s k xs here a t o = record { form = moved_form s xs o.form; there = here a (record { form = o.form; clock = Base; kind = t }) o.there }
