-- Facts that tell worked programs apart.
use Rattle.std.proofs.Common.{◌≡◌, ◌⊎◌, ⊎_elim, ◌<◌, ℕ, zero, suc, Bool, true, false, List, [], ◌∷◌, map, Option, Some, None, sym, ap, subst, ◌∙◌, true≢false, arith}
use Rattle.std.specs.Prelude.{is_some, codes, unwrap_or, Contains}
use Rattle.std.specs.Str.{bytes_eq}
use Rattle.std.proofs.lemmas.List.Elements.{All-contains, All-from_recursion}
use Rattle.std.specs.List.{AllByRecursion}
use Rattle.lutree.specs.declared.program.Kind.{Kind}
use Rattle.lutree.specs.declared.program.Kind.TheVariants.{Int}
use Rattle.lutree.specs.declared.expr.Pattern.{Pattern}
use Rattle.lutree.specs.declared.expr.Pattern.TheVariants as patterns
use Rattle.lutree.specs.declared.expr.Condition.{Condition}
use Rattle.lutree.specs.Tree.{NodeTree, ProgramTree}
use Rattle.lustat_rules.specs.Scope.{Clock, AreDistinct, clock_of, node_called}
use Rattle.lustat_rules.specs.Naming.{Reaches, called_by}
use Rattle.lustat_rules.specs.Clocks.{on, Ends}
use Rattle.lustat_rules.specs.Vectors.{faulty}

pub zero_less : 0 < 1
zero_less = omega arith

pub one_less : 1 < 2
one_less = omega arith

pub zero_less_two : 0 < 2
zero_less_two = omega arith

pub none_below : {k : ℕ} → k < 0 → ⊥
none_below l = omega (arith, l)

pub none_is_some : {A : Type 0} {x : A} → None ≡ Some x → ⊥
none_is_some e = true≢false (sym (ap is_some e))

pub some_is_none : {A : Type 0} {x : A} → Some x ≡ None → ⊥
some_is_none e = true≢false (ap is_some e)

pub false_is_true : false ≡ true → ⊥
false_is_true e = true≢false (sym e)

pub neither : {A B : Type 0} → (¬ A) → (¬ B) → ¬ (A ⊎ B)
neither f g h = ⊎_elim f g h

-- NAMES

pub not_in : (xs : List (List ℕ)) (x : List ℕ) → bytes_eq x x ≡ true → AllByRecursion (λ y. bytes_eq y x ≡ false) xs → ¬ Contains xs x
not_in xs x same others at =
    true≢false (sym same ∙ All-contains (λ y. bytes_eq y x ≡ false) xs x (All-from_recursion (λ y. bytes_eq y x ≡ false) xs others) at)

pub nothing_in : (x : List ℕ) → ¬ Contains [] x
nothing_in x at = none_below at.1

pub single_distinct : (x : List ℕ) → AreDistinct (x ∷ [])
single_distinct x zero y e at = none_below at.1
single_distinct x (suc i) y e at = none_is_some e

abbrev pub first_is : List (List ℕ) → List ℕ → Bool
first_is [] y = false
first_is (x ∷ xs) y = bytes_eq x y

-- TYPES

abbrev pub is_int : Option Kind → Bool
is_int (Some Int) = true
is_int k = false

abbrev int_first : List (Option Kind) → Bool
int_first [] = false
int_first (k ∷ ks) = is_int k

-- two lists of types differ in the first
pub other_kinds : (left right kinds : List Kind) → Some right ≡ Some kinds → map Some left ≡ map Some kinds → int_first (map Some left) ≡ int_first (map Some right)
other_kinds left right kinds e g = ap int_first (g ∙ ap (λ o. map Some (unwrap_or o [])) (sym e))

-- CLOCKS

-- whether a clock is known to be the base clock
abbrev is_base : Option Clock → Bool
is_base (Some None) = true
is_base o = false

pub base_is_on : {c : Condition} → Some None ≡ Some (Some c) → ⊥
base_is_on e = true≢false (ap is_base e)

abbrev sign : Pattern → Bool
sign (patterns.Truth b) = b
sign (patterns.Label l) = true

abbrev pub sign_of : Option Clock → Bool
sign_of (Some (Some c)) = sign c.pattern
sign_of o = true

-- the clock of b is b's own
pub loops : {k : Clock} → Ends faulty k → k ≡ on (codes "b") (patterns.Truth true) → ⊥
loops Ends.at_base e = none_is_some e
loops (Ends.after c k h r) e =
    let b : c.variable ≡ codes "b" = ap (λ (o : Clock). (unwrap_or o c).variable) e in
    let there : clock_of faulty (codes "b") ≡ Some k = subst (λ x. clock_of faulty x ≡ Some k) b h in
    loops r (sym (ap (λ (o : Option Clock). unwrap_or o None) there))

-- CALLS

-- a node without calls reaches none
pub reaches_none : {p : ProgramTree} {f g : List ℕ} (h : List ℕ) (m : NodeTree) → node_called p h ≡ Some m → called_by m ≡ [] → Reaches p f g → f ≡ h → ⊥
reaches_none {p} h m is none (Reaches.one f g (n, e, at)) same =
    let there : Some m ≡ Some n = sym is ∙ subst (λ x. node_called p x ≡ Some n) same e in
    let back : m ≡ n = ap (λ (o : Option NodeTree). unwrap_or o m) there in
    nothing_in g (subst (λ l. Contains l g) (sym (ap called_by back) ∙ none) at)
reaches_none h m is none (Reaches.more f g k r c) same = reaches_none h m is none r same
