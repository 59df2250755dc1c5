-- Types that agree.
use Rattle.std.proofs.Common.{◌≡◌, ◌∙◌, ◌↔◌, ◌&&◌, ℕ, nat_eq, Bool, true, false, if◌then◌else◌, List, [], ◌∷◌, ◌++◌, Option, Some, None, IsTrue, fold, refl, sym, ap, subst, arith, true≢false}
use Rattle.std.specs.List.{AllByRecursion}
use Rattle.std.proofs.lemmas.Bool.{and_parts}
use Rattle.std.proofs.lemmas.Bool.Decides.{nat_tests}
use Rattle.std.proofs.lemmas.List.Sums.{fold_push}
use Rattle.lutree.specs.declared.program.Kind.{Kind}
use Rattle.lutree.specs.declared.program.Kind.TheVariants.{Int, Bool as Truths, Enum}
use Rattle.lustat_rules.specs.Typing.{same_kind, agreed, agreed_all, has_kind}

-- ONE TYPE

same_number : (m n : ℕ) → nat_eq m n ≡ true → m ≡ n
same_number m n h = grind (arith, nat_tests)

number_itself : (n : ℕ) → nat_eq n n ≡ true
number_itself n = grind (arith, nat_tests)

same_to : (j k : Kind) → same_kind j k ≡ true → j ≡ k
same_to Int Int h = refl
same_to Int Truths h = absurd (true≢false (sym h))
same_to Int (Enum i m) h = absurd (true≢false (sym h))
same_to Truths Int h = absurd (true≢false (sym h))
same_to Truths Truths h = refl
same_to Truths (Enum i m) h = absurd (true≢false (sym h))
same_to (Enum i m) Int h = absurd (true≢false (sym h))
same_to (Enum i m) Truths h = absurd (true≢false (sym h))
same_to (Enum i m) (Enum j n) h =
    let both = and_parts (nat_eq i j) (nat_eq m n) h in
    ap (λ a. Enum a m) (same_number i j both.0) ∙ ap (Enum j) (same_number m n both.1)

same_itself : (k : Kind) → same_kind k k ≡ true
same_itself Int = refl
same_itself Truths = refl
same_itself (Enum i m) = ap (λ b. b && nat_eq m m) (number_itself i) ∙ number_itself m

pub same_kind_is : (j k : Kind) → IsTrue (same_kind j k) ↔ (j ≡ k)
same_kind_is j k = (same_to j k, λ e. subst (λ i. same_kind j i ≡ true) e (same_itself j))

has_to : (k : Option Kind) (j : Kind) → has_kind k j ≡ true → k ≡ Some j
has_to (Some i) j h = ap Some (same_to i j h)
has_to None j h = absurd (true≢false (sym h))

pub has_kind_is : (k : Option Kind) (j : Kind) → IsTrue (has_kind k j) ↔ (k ≡ Some j)
has_kind_is k j = (has_to k j, λ e. ap (λ o. has_kind o j) e ∙ same_itself j)

-- TWO EXPRESSIONS

none_some : (k : Kind) → None ≡ Some k → ⊥
none_some k e = cc

agreed_by : (j k t : Kind) (b : Bool) → same_kind j k ≡ b → (if b then Some j else None) ≡ Some t → (Some j ≡ Some t) × (Some k ≡ Some t)
agreed_by j k t true same e = (e, ap Some (sym (same_to j k same)) ∙ e)
agreed_by j k t false same e = absurd (none_some t e)

-- what agrees has one type
pub agreed_both : (a b : Option Kind) (t : Kind) → agreed a b ≡ Some t → (a ≡ Some t) × (b ≡ Some t)
agreed_both (Some j) (Some k) t e = agreed_by j k t (same_kind j k) refl e
agreed_both (Some j) None t e = absurd (none_some t e)
agreed_both None b t e = absurd (none_some t e)

pub agreed_same : (a b : Option Kind) (t : Kind) → a ≡ Some t → b ≡ Some t → agreed a b ≡ Some t
agreed_same a b t e f = ap (λ o. agreed o b) e ∙ ap (agreed (Some t)) f ∙ ap (λ s. if s then Some t else None) (same_itself t)

-- ALL OF SOME EXPRESSIONS

fold_each : (k : Option Kind) (ks : List (Option Kind)) (t : Kind) → fold agreed k ks ≡ Some t → (k ≡ Some t) × AllByRecursion (λ j. j ≡ Some t) ks
fold_each k [] t e = (e, tt)
fold_each k (j ∷ ks) t e =
    let rest = fold_each (agreed k j) ks t e in
    let both = agreed_both k j t rest.0 in
    (both.0, (both.1, rest.1))

-- each has the type that all have
pub each_agreed : (ks : List (Option Kind)) (t : Kind) → agreed_all ks ≡ Some t → AllByRecursion (λ k. k ≡ Some t) ks
each_agreed [] t e = tt
each_agreed (k ∷ ks) t e = fold_each k ks t e

fold_all : (k : Option Kind) (ks : List (Option Kind)) (t : Kind) → k ≡ Some t → AllByRecursion (λ j. j ≡ Some t) ks → fold agreed k ks ≡ Some t
fold_all k [] t e rest = e
fold_all k (j ∷ ks) t e rest = fold_all (agreed k j) ks t (agreed_same k j t e rest.0) rest.1

-- what each has, all have, if there are any
pub all_agreed : (k : Option Kind) (ks : List (Option Kind)) (t : Kind) → k ≡ Some t → AllByRecursion (λ j. j ≡ Some t) ks → agreed_all (k ∷ ks) ≡ Some t
all_agreed k ks t e rest = fold_all k ks t e rest

-- one more behind the others
pub agreed_more : (k : Option Kind) (ks : List (Option Kind)) (j : Option Kind) → agreed_all (k ∷ (ks ++ j ∷ [])) ≡ agreed (agreed_all (k ∷ ks)) j
agreed_more k ks j = fold_push agreed k ks j
