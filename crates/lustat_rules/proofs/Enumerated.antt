-- Facts that tell worked enumerations apart.
use Rattle.std.proofs.Common.{◌≡◌, ◌∙◌, ℕ, suc, Bool, true, false, List, [], ◌∷◌, Option, Some, None, length, refl, sym, ap, subst, true≢false, arith}
use Rattle.std.specs.Prelude.{unwrap_or, codes}
use Rattle.std.specs.Str.{bytes_eq}
use Rattle.std.proofs.lemmas.List.Elements.{All-from_recursion, All-contains}
use Rattle.lutree.specs.declared.expr.Label.{Label}
use Rattle.lutree.specs.declared.expr.Pattern.{Pattern}
use Rattle.lutree.specs.declared.expr.Pattern.TheVariants as patterns
use Rattle.lutree.specs.declared.expr.Condition.{Condition}
use Rattle.lutree.specs.declared.expr.Infix.TheVariants.{Arrow, FollowedBy}
use Rattle.lutree.specs.declared.program.Kind.{Kind}
use Rattle.lutree.specs.declared.program.Kind.TheVariants.{Enum}
use Rattle.lutree.specs.Tree.{Tree, TypeTree, EquationTree}
use Rattle.lutree.specs.Tree as tree
use Rattle.lustat_rules.specs.Scope.{Clock}
use Rattle.lustat_rules.specs.Naming.{LabelKnown}
use Rattle.lustat_rules.specs.Classes.{StartsWith, IsTrueAtFirst, ClockIsTrueAtFirst}
use Rattle.lustat_rules.specs.Vectors.{defines}
use Rattle.lustat_rules.specs.EnumVectors.{mode, up, lost, switched, rising, rises}
use Rattle.lustat_rules.proofs.Worked.{zero_less, false_is_true, first_is}

-- TYPES

-- the type at a place has another name
pub is_named : (u t : TypeTree) (b : List ℕ) → Some u ≡ Some t → t.name ≡ b → bytes_eq b b ≡ true → bytes_eq u.name b ≡ false → ⊥
is_named u t b e f same other =
    let name : u.name ≡ b = ap (λ (o : Option TypeTree). (unwrap_or o u).name) e ∙ f in
    true≢false (sym same ∙ ap (λ l. bytes_eq l b) (sym name) ∙ other)

-- the type at a place has so many names
size_is : (u t : TypeTree) (n : ℕ) → Some u ≡ Some t → length t.names ≡ n → length u.names ≡ n
size_is u t n e f = ap (λ (o : Option TypeTree). length (unwrap_or o u).names) e ∙ f

pub lost_unknown : LabelKnown switched lost → ⊥
lost_unknown h = let e : 3 ≡ 0 = size_is mode h.0 0 h.1.0 h.1.1 in omega (arith, e)

-- KINDS AND PATTERNS

abbrev place_in : Kind → ℕ
place_in (Enum place size) = suc place
place_in kind = 0

-- one more than the place of an enumeration, and 0 of any other type
abbrev pub place_reported : Option Kind → ℕ
place_reported None = 0
place_reported (Some kind) = place_in kind

abbrev number_in : Pattern → ℕ
number_in (patterns.Truth b) = 0
number_in (patterns.Label l) = l.number

abbrev pub number_reported : Option Clock → ℕ
number_reported (Some (Some c)) = number_in c.pattern
number_reported o = 0

abbrev pub first_sign : List Pattern → Bool
first_sign (patterns.Truth b ∷ ps) = b
first_sign ps = false

pub one_is_none : ◌≡◌ {A = ℕ} 1 0 → ⊥
one_is_none e = omega (arith, e)

pub none_is_one : ◌≡◌ {A = ℕ} 0 1 → ⊥
none_is_one e = omega (arith, e)

pub two_is_one : ◌≡◌ {A = ℕ} 2 1 → ⊥
two_is_one e = omega (arith, e)

pub one_is_three : ◌≡◌ {A = ℕ} 1 3 → ⊥
one_is_three e = omega (arith, e)

pub two_is_three : ◌≡◌ {A = ℕ} 2 3 → ⊥
two_is_three e = omega (arith, e)

-- CURRENT

-- the name that an expression begins with
abbrev pub begun : Tree → Option Label
begun (tree.binary Arrow (tree.label l) e) = Some l
begun (tree.binary FollowedBy (tree.label l) e) = Some l
begun e = None

begun_so : {l : Label} {e : Tree} → StartsWith (patterns.Label l) e → begun e ≡ Some l
begun_so (StartsWith.arrow e) = refl
begun_so (StartsWith.followed e) = refl

abbrev on_up : Condition
on_up = record { variable = codes "n"; pattern = patterns.Label up }

pub rises_so : (right : Tree) → StartsWith (patterns.Label up) right → rises right
rises_so right starts =
    All-from_recursion (ClockIsTrueAtFirst (rising right)) (codes "v" ∷ []) (
      (λ k e.
          subst (IsTrueAtFirst (rising right)) (ap (λ (o : Option Clock). unwrap_or (unwrap_or o None) on_up) e)
          (defines (codes "n") right, (0, omega arith, refl), refl, starts)),
      tt,
    )

pub rises_otherwise : (right : Tree) → (begun right ≡ Some up → ⊥) → ¬ rises right
rises_otherwise right other f =
    let t = f 0 [] zero_less on_up refl in
    All-contains (λ (q : EquationTree). q.left ≡ codes "n" ∷ [] → ¬ StartsWith (patterns.Label up) q.right) (rising right).equations t.0
    (All-from_recursion (λ (q : EquationTree). q.left ≡ codes "n" ∷ [] → ¬ StartsWith (patterns.Label up) q.right) (rising right).equations
    ((λ e s. other (begun_so s)), ((λ e s. false_is_true (ap (λ l. first_is l (codes "n")) e)), ((λ e s. false_is_true (ap (λ l. first_is l (codes "n")) e)), tt))))
    t.1 t.2 t.3
