-- What the type of an expression says of its operands.
use Rattle.std.proofs.Common.{◌≡◌, ℕ, zero, suc, ◌<◌, Bool, true, false, ◌&&◌, cond, nat_eq, List, [], ◌∷◌, length, map, Option, Some, None, refl, sym, ap, ◌∙◌, arith}
use Rattle.std.specs.Prelude.{slice_get, option_map, unwrap_or, fold}
use Rattle.std.proofs.lemmas.Option.{same_Some}
use Rattle.std.proofs.lemmas.Bool.{eqb-true}
use Rattle.lutree.specs.declared.expr.UnaryOperator.{UnaryOperator}
use Rattle.lutree.specs.declared.expr.UnaryOperator.TheVariants.{Minus}
use Rattle.lutree.specs.declared.expr.BinaryOperator.{BinaryOperator}
use Rattle.lutree.specs.declared.expr.BinaryOperator.TheVariants.{Add}
use Rattle.lutree.specs.declared.program.Kind.{Kind}
use Rattle.lutree.specs.declared.program.Kind.TheVariants.{Int as Ints, Bool as Truths, Enum}
use Rattle.lutree.specs.Tree.{DeclarationTree, NodeTree}
use Rattle.luflow.specs.Operators.{single_sort, asks, allows, takes, makes}
use Rattle.lustat_rules.specs.Typing.{same_kind, agreed, agreed_all, has_kind, single_kind, operand_kind, result_kind, as_asked, double_kind, choice_kind, arguments_fit, call_kinds, only}

both_true : (b c : Bool) → (b && c) ≡ true → (b ≡ true) × (c ≡ true)
both_true true c e = (refl, e)
both_true false c e = cc

-- types that are one are equal
pub same_kind_is : (j k : Kind) → same_kind j k ≡ true → j ≡ k
same_kind_is Ints Ints e = refl
same_kind_is Ints Truths e = cc
same_kind_is Ints (Enum i m) e = cc
same_kind_is Truths Ints e = cc
same_kind_is Truths Truths e = refl
same_kind_is Truths (Enum i m) e = cc
same_kind_is (Enum i m) Ints e = cc
same_kind_is (Enum i m) Truths e = cc
same_kind_is (Enum i m) (Enum j n) e =
    let h = both_true (nat_eq i j) (nat_eq m n) e in
    ap (λ i. Enum i m) (eqb-true i j h.0) ∙ ap (Enum j) (eqb-true m n h.1)

pub agreed_is : (a b : Option Kind) (t : Kind) → agreed a b ≡ Some t → (a ≡ Some t) × (b ≡ Some t)
agreed_is None b t e = cc
agreed_is (Some j) None t e = cc
agreed_is (Some j) (Some k) t e = go (same_kind j k) refl e
  where
    go : (same : Bool) → same_kind j k ≡ same → cond same (Some j) None ≡ Some t → (Some j ≡ Some t) × (Some k ≡ Some t)
    go true is h = (h, ap Some (sym (same_kind_is j k is)) ∙ h)
    go false is h = cc

-- each has this type
abbrev pub EachIs : Kind → List (Option Kind) → Type 0
EachIs t [] = Unit {0}
EachIs t (k ∷ ks) = (k ≡ Some t) × EachIs t ks

folded_is : (k : Option Kind) (ks : List (Option Kind)) (t : Kind) → fold agreed k ks ≡ Some t → (k ≡ Some t) × EachIs t ks
folded_is k [] t e = (e, tt)
folded_is k (j ∷ ks) t e =
    let h = folded_is (agreed k j) ks t e in
    let both = agreed_is k j t h.0 in
    (both.0, (both.1, h.1))

-- where the branches of a merge have one type, each has it
pub agreed_all_is : (ks : List (Option Kind)) (t : Kind) → agreed_all ks ≡ Some t → EachIs t ks
agreed_all_is [] t e = cc
agreed_all_is (k ∷ ks) t e = folded_is k ks t e

-- the types of operators, as the static rules have them and as flows have them

pub sort_is : (op : UnaryOperator) → single_kind op ≡ single_sort op
sort_is Minus = refl
sort_is _ = refl

makes_is : (op : BinaryOperator) → result_kind op ≡ makes op
makes_is Add = refl
makes_is _ = refl

asks_is : (op : BinaryOperator) → operand_kind op ≡ asks op
asks_is Add = refl
asks_is _ = refl

-- no operator asks for an enumeration
abbrev IsPlain : Option Kind → Type 0
IsPlain None = Unit {0}
IsPlain (Some Ints) = Unit {0}
IsPlain (Some Truths) = Unit {0}
IsPlain (Some (Enum i m)) = ⊥

plain_asks : (op : BinaryOperator) → IsPlain (asks op)
plain_asks Add = tt
plain_asks _ = tt

allows_asked : (asked : Option Kind) (u : Kind) → IsPlain asked → as_asked asked (Some u) ≡ Some u → allows asked u ≡ true
allows_asked None u plain e = refl
allows_asked (Some Ints) Ints plain e = refl
allows_asked (Some Ints) Truths plain e = cc
allows_asked (Some Ints) (Enum i m) plain e = cc
allows_asked (Some Truths) Ints plain e = cc
allows_asked (Some Truths) Truths plain e = refl
allows_asked (Some Truths) (Enum i m) plain e = cc
allows_asked (Some (Enum i m)) u plain e = absurd plain

takes_asked : (op : BinaryOperator) (u : Kind) → as_asked (operand_kind op) (Some u) ≡ Some u → takes op u ≡ true
takes_asked op u e = allows_asked (asks op) u (plain_asks op) (sym (ap (λ (o : Option Kind). as_asked o (Some u)) (asks_is op)) ∙ e)

-- where a type is asked for and met, the operands have it
asked_is : (asked c : Option Kind) (u : Kind) → as_asked asked c ≡ Some u → (c ≡ Some u) × (as_asked asked (Some u) ≡ Some u)
asked_is None c u e = (e, refl)
asked_is (Some j) c u e =
    let h = agreed_is (Some j) c u e in
    (h.1, ap (as_asked (Some j)) (sym h.1) ∙ e)

mapped_is : {A B : Type 0} (f : A → B) (o : Option A) (y : B) → option_map f o ≡ Some y → (x : A) × (o ≡ Some x) × (f x ≡ y)
mapped_is f None y h = cc
mapped_is f (Some x) y h = (x, refl, same_Some (f x) y h)

-- the operands of an operator have one type, which it takes, and its result has the type that it makes
pub double_is : (op : BinaryOperator) (a b : Option Kind) (t : Kind) → double_kind op a b ≡ Some t → (u : Kind) × (a ≡ Some u) × (b ≡ Some u) × (takes op u ≡ true) × (t ≡ makes op)
double_is op a b t e =
    let m = mapped_is (λ (k : Kind). result_kind op) (as_asked (operand_kind op) (agreed a b)) t e in
    let u = m.0 in
    let c = asked_is (operand_kind op) (agreed a b) u m.1 in
    let ab = agreed_is a b u c.0 in
    (u, ab.0, ab.1, takes_asked op u c.1, sym m.2 ∙ makes_is op)

pub choice_is : (c a b : Option Kind) (t : Kind) → choice_kind c a b ≡ Some t → (c ≡ Some Truths) × (a ≡ Some t) × (b ≡ Some t)
choice_is None a b t e = cc
choice_is (Some Ints) a b t e = cc
choice_is (Some (Enum i m)) a b t e = cc
choice_is (Some Truths) a b t e = let h = agreed_is a b t e in (refl, h.0, h.1)

has_kind_is : (k : Option Kind) (t : Kind) → has_kind k t ≡ true → k ≡ Some t
has_kind_is None t e = cc
has_kind_is (Some k) t e = ap Some (same_kind_is k t e)

abbrev pub kinds_of : List DeclarationTree → List Kind
kinds_of = map (λ d. d.kind)

-- the declaration at a place
pub declared : (ds : List DeclarationTree) (j : ℕ) → j < length ds → (d : DeclarationTree) × (slice_get ds j ≡ Some d)
declared [] j lt = absurd (omega (arith, lt))
declared (d ∷ ds) zero lt = (d, refl)
declared (d ∷ ds) (suc j) lt = declared ds j (omega (arith, lt))

arguments_are : (ks : List (Option Kind)) (ds : List DeclarationTree) → arguments_fit ks ds ≡ true → ks ≡ map Some (kinds_of ds)
arguments_are [] [] e = refl
arguments_are [] (d ∷ ds) e = cc
arguments_are (k ∷ ks) [] e = cc
arguments_are (k ∷ ks) (d ∷ ds) e =
    let h = both_true (has_kind k d.kind) (arguments_fit ks ds) e in
    ap (λ (o : Option Kind). o ∷ ks) (has_kind_is k d.kind h.0) ∙ ap (λ (l : List (Option Kind)). Some d.kind ∷ l) (arguments_are ks ds h.1)

-- the arguments of a call have the inputs' types, and its values those of the outputs
pub call_is : (n : NodeTree) (ks : List (Option Kind)) (kinds : List Kind) → call_kinds (Some n) ks ≡ Some kinds → (ks ≡ map Some (kinds_of n.inputs)) × (kinds ≡ kinds_of n.outputs)
call_is n ks kinds e = go (arguments_fit ks n.inputs) refl e
  where
    go : (b : Bool) → arguments_fit ks n.inputs ≡ b → cond b (Some (kinds_of n.outputs)) None ≡ Some kinds → (ks ≡ map Some (kinds_of n.inputs)) × (kinds ≡ kinds_of n.outputs)
    go true f g = (arguments_are ks n.inputs f, sym (same_Some (kinds_of n.outputs) kinds g))
    go false f g = cc

pub only_is : (o : Option (List Kind)) (t : Kind) → only o ≡ Some t → o ≡ Some (t ∷ [])
only_is None t e = cc
only_is (Some []) t e = cc
only_is (Some (k ∷ [])) t e = ap (λ (k : Kind). Some (k ∷ [])) (same_Some k t e)
only_is (Some (k ∷ l ∷ ks)) t e = cc

-- the one type of an expression that is no call
pub single_is : (o : Option Kind) (kinds : List Kind) → option_map (λ k. k ∷ []) o ≡ Some kinds → (t : Kind) × (o ≡ Some t) × (t ∷ [] ≡ kinds)
single_is o kinds e = mapped_is (λ (k : Kind). k ∷ []) o kinds e

pub single_kinds : (o : Option Kind) (kinds : List Kind) → option_map (λ k. k ∷ []) o ≡ Some kinds → kinds ≡ unwrap_or o Ints ∷ []
single_kinds None kinds e = cc
single_kinds (Some k) kinds e = sym (same_Some (k ∷ []) kinds e)
