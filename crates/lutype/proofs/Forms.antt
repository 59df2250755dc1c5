-- What each name and each call of an expression keeps.
use Rattle.std.proofs.Common.{◌↔◌, ◌≡◌, ◌∙◌, ℕ, zero, suc, ◌<◌, List, [], ◌∷◌, ◌++◌, length, get_or, refl, ap, subst, sym, arith, Bool, true, false, IsTrue, ◌≤◌, true≢false}
use Rattle.std.specs.Prelude.{All}
use Rattle.std.proofs.lemmas.List.Elements.{All-append, All-nil}
use Rattle.lutree.specs.declared.expr.Expr.{Expr}
use Rattle.lutree.specs.declared.expr.Pattern.{Pattern}
use Rattle.lutree.specs.Tree.{Tree, Trees, list_of, trees_of, views, view}
use Rattle.lutree.specs.Tree as tree
use Rattle.lustat_rules.specs.Naming.{Call, names_in, names_in_all, calls_in, calls_in_all, inner_calls}
use Rattle.lustat_rules.specs.Parts.{Part, EachPartOf}
use Rattle.lustat_rules.specs.Parts as part
use Rattle.lutype.specs.Forms.{EachName, EachNameOf, EachCall, EachCallOf}

-- ALL OF A LIST

pub all_left : {A : Type 0} (P : A → Type 0) (xs ys : List A) → All P (xs ++ ys) → All P xs
all_left P [] ys h k d lt = absurd (omega (arith, lt))
all_left P (x ∷ xs) ys h zero d lt = h 0 d (omega arith)
all_left P (x ∷ xs) ys h (suc k) d lt = all_left P xs ys (λ k d lt. h (suc k) d (omega (arith, lt))) k d (omega (arith, lt))

pub all_right : {A : Type 0} (P : A → Type 0) (xs ys : List A) → All P (xs ++ ys) → All P ys
all_right P [] ys h = h
all_right P (x ∷ xs) ys h = all_right P xs ys (λ k d lt. h (suc k) d (omega (arith, lt)))

pub all_cons : {A : Type 0} (P : A → Type 0) (x : A) (xs : List A) → P x → All P xs → All P (x ∷ xs)
all_cons P x xs p h zero d lt = p
all_cons P x xs p h (suc k) d lt = h k d (omega (arith, lt))

pub all_head : {A : Type 0} (P : A → Type 0) (x : A) (xs : List A) → All P (x ∷ xs) → P x
all_head P x xs h = h 0 x (omega arith)

pub all_tail : {A : Type 0} (P : A → Type 0) (x : A) (xs : List A) → All P (x ∷ xs) → All P xs
all_tail P x xs h k d lt = h (suc k) d (omega (arith, lt))

pub all_last : {A : Type 0} (P : A → Type 0) (x : A) → P x → All P (x ∷ [])
all_last P x p = all_cons P x [] p (All-nil P)

-- NAMES

mutual
  pub names_to : (P : List ℕ → Type 0) (e : Tree) → EachName P e → All P (names_in e)
  names_to P (tree.number n) h = All-nil P
  names_to P (tree.truth b) h = All-nil P
  names_to P (tree.label l) h = All-nil P
  names_to P (tree.variable x) h = all_last P x h
  names_to P (tree.unary op a) h = names_to P a h
  names_to P (tree.binary op a b) h = All-append P (names_in a) (names_in b) (names_to P a h.0) (names_to P b h.1)
  names_to P (tree.choice c a b) h =
      All-append P (names_in c) (names_in a ++ names_in b) (names_to P c h.0)
      (All-append P (names_in a) (names_in b) (names_to P a h.1.0) (names_to P b h.1.1))
  names_to P (tree.when a c) h = All-append P (names_in a) (c.variable ∷ []) (names_to P a h.0) (all_last P c.variable h.1)
  names_to P (tree.current x) h = all_last P x h
  names_to P (tree.merge c ps all) h = all_cons P c (names_in_all all) h.0 (names_to_all P all h.1)
  names_to P (tree.call f all) h = names_to_all P all h

  pub names_to_all : (P : List ℕ → Type 0) (all : Trees) → EachNameOf P all → All P (names_in_all all)
  names_to_all P tree.none h = All-nil P
  names_to_all P (tree.more a all) h = All-append P (names_in a) (names_in_all all) (names_to P a h.0) (names_to_all P all h.1)

mutual
  pub names_from : (P : List ℕ → Type 0) (e : Tree) → All P (names_in e) → EachName P e
  names_from P (tree.number n) h = tt
  names_from P (tree.truth b) h = tt
  names_from P (tree.label l) h = tt
  names_from P (tree.variable x) h = all_head P x [] h
  names_from P (tree.unary op a) h = names_from P a h
  names_from P (tree.binary op a b) h = (names_from P a (all_left P (names_in a) (names_in b) h), names_from P b (all_right P (names_in a) (names_in b) h))
  names_from P (tree.choice c a b) h =
      let rest = all_right P (names_in c) (names_in a ++ names_in b) h in (
        names_from P c (all_left P (names_in c) (names_in a ++ names_in b) h),
        (names_from P a (all_left P (names_in a) (names_in b) rest), names_from P b (all_right P (names_in a) (names_in b) rest)),
      )
  names_from P (tree.when a c) h =
      (names_from P a (all_left P (names_in a) (c.variable ∷ []) h), all_head P c.variable [] (all_right P (names_in a) (c.variable ∷ []) h))
  names_from P (tree.current x) h = all_head P x [] h
  names_from P (tree.merge c ps all) h = (all_head P c (names_in_all all) h, names_from_all P all (all_tail P c (names_in_all all) h))
  names_from P (tree.call f all) h = names_from_all P all h

  pub names_from_all : (P : List ℕ → Type 0) (all : Trees) → All P (names_in_all all) → EachNameOf P all
  names_from_all P tree.none h = tt
  names_from_all P (tree.more a all) h =
      (names_from P a (all_left P (names_in a) (names_in_all all) h), names_from_all P all (all_right P (names_in a) (names_in_all all) h))

-- CALLS

abbrev the_call : List ℕ → Trees → Call
the_call f all = record { node = f; arguments = length (list_of all) }

mutual
  pub calls_to : (P : Call → Type 0) (e : Tree) → EachCall P e → All P (calls_in e)
  calls_to P (tree.number n) h = All-nil P
  calls_to P (tree.truth b) h = All-nil P
  calls_to P (tree.label l) h = All-nil P
  calls_to P (tree.variable x) h = All-nil P
  calls_to P (tree.unary op a) h = calls_to P a h
  calls_to P (tree.binary op a b) h = All-append P (calls_in a) (calls_in b) (calls_to P a h.0) (calls_to P b h.1)
  calls_to P (tree.choice c a b) h =
      All-append P (calls_in c) (calls_in a ++ calls_in b) (calls_to P c h.0)
      (All-append P (calls_in a) (calls_in b) (calls_to P a h.1.0) (calls_to P b h.1.1))
  calls_to P (tree.when a c) h = calls_to P a h
  calls_to P (tree.current x) h = All-nil P
  calls_to P (tree.merge c ps all) h = calls_to_all P all h
  calls_to P (tree.call f all) h = All-append P (calls_in_all all) (the_call f all ∷ []) (calls_to_all P all h.0) (all_last P (the_call f all) h.1)

  pub calls_to_all : (P : Call → Type 0) (all : Trees) → EachCallOf P all → All P (calls_in_all all)
  calls_to_all P tree.none h = All-nil P
  calls_to_all P (tree.more a all) h = All-append P (calls_in a) (calls_in_all all) (calls_to P a h.0) (calls_to_all P all h.1)

mutual
  pub calls_from : (P : Call → Type 0) (e : Tree) → All P (calls_in e) → EachCall P e
  calls_from P (tree.number n) h = tt
  calls_from P (tree.truth b) h = tt
  calls_from P (tree.label l) h = tt
  calls_from P (tree.variable x) h = tt
  calls_from P (tree.unary op a) h = calls_from P a h
  calls_from P (tree.binary op a b) h = (calls_from P a (all_left P (calls_in a) (calls_in b) h), calls_from P b (all_right P (calls_in a) (calls_in b) h))
  calls_from P (tree.choice c a b) h =
      let rest = all_right P (calls_in c) (calls_in a ++ calls_in b) h in (
        calls_from P c (all_left P (calls_in c) (calls_in a ++ calls_in b) h),
        (calls_from P a (all_left P (calls_in a) (calls_in b) rest), calls_from P b (all_right P (calls_in a) (calls_in b) rest)),
      )
  calls_from P (tree.when a c) h = calls_from P a h
  calls_from P (tree.current x) h = tt
  calls_from P (tree.merge c ps all) h = calls_from_all P all h
  calls_from P (tree.call f all) h = (
    calls_from_all P all (all_left P (calls_in_all all) (the_call f all ∷ []) h),
    all_head P (the_call f all) [] (all_right P (calls_in_all all) (the_call f all ∷ []) h),
  )

  pub calls_from_all : (P : Call → Type 0) (all : Trees) → All P (calls_in_all all) → EachCallOf P all
  calls_from_all P tree.none h = tt
  calls_from_all P (tree.more a all) h =
      (calls_from P a (all_left P (calls_in a) (calls_in_all all) h), calls_from_all P all (all_right P (calls_in a) (calls_in_all all) h))

pub each_name : (P : List ℕ → Type 0) (e : Tree) → EachName P e ↔ All P (names_in e)
each_name P e = (names_to P e, names_from P e)

pub each_call : (P : Call → Type 0) (e : Tree) → EachCall P e ↔ All P (calls_in e)
each_call P e = (calls_to P e, calls_from P e)

-- how many arguments a call has
pub count_of : (es : List Expr) → length (list_of (trees_of (views es))) ≡ length es
count_of [] = refl
count_of (e ∷ es) = ap suc (count_of es)

-- the calls inside an expression
pub inner_of_call : (P : Call → Type 0) (e : Tree) (f : List ℕ) (all : Trees) → e ≡ tree.call f all → EachCallOf P all ↔ All P (inner_calls e)
inner_of_call P e f all is = (
  λ h. subst (λ t. All P (inner_calls t)) (sym is) (calls_to_all P all h),
  λ h. calls_from_all P all (subst (λ t. All P (inner_calls t)) is h),
)

same_inner : (e : Tree) → ((f : List ℕ) (all : Trees) → e ≡ tree.call f all → ⊥) → inner_calls e ≡ calls_in e
same_inner (tree.call f all) no_call = absurd (no_call f all refl)
same_inner e no_call = refl

pub inner_of_other : (P : Call → Type 0) (e : Tree) → ((f : List ℕ) (all : Trees) → e ≡ tree.call f all → ⊥) → EachCall P e ↔ All P (inner_calls e)
inner_of_other P e no_call = (
  λ h. subst (All P) (sym (same_inner e no_call)) (calls_to P e h),
  λ h. calls_from P e (subst (All P) (same_inner e no_call) h),
)

pub call_step : (P : Call → Type 0) (f : List ℕ) (es : List Expr) (n : ℕ) (a b : Bool) → n ≡ length es
    → a ≡ true → (IsTrue a ↔ EachCallOf P (trees_of (views es))) → (IsTrue b ↔ P (record { node = f; arguments = n }))
    → IsTrue b ↔ (EachCallOf P (trees_of (views es)) × P (record { node = f; arguments = length (list_of (trees_of (views es))) }))
call_step P f es n a b count held rest own =
    let same : n ≡ length (list_of (trees_of (views es))) = count ∙ sym (count_of es) in (
      λ h. (rest.0 held, subst (λ k. P (record { node = f; arguments = k })) same (own.0 h)),
      λ h. own.1 (subst (λ k. P (record { node = f; arguments = k })) (sym same) h.1),
    )

pub one_item : {A : Type 0} (l : List A) (x : A) → 1 ≤ length l → length l < 2 → x ≡ get_or l 0 x → l ≡ x ∷ []
one_item [] x a b e = absurd (omega (arith, a))
one_item (y ∷ []) x a b e = ap (λ z. z ∷ []) (sym e)
one_item (y ∷ z ∷ l) x a b e = absurd (omega (arith, b))

-- PARTS

-- a merge, and the parts of its branches
pub merge_step : (P : Part → Type 0) (c : List ℕ) (ps : List Pattern) (es : List Expr) (a b : Bool)
    → a ≡ true → (IsTrue a ↔ P (part.merge c ps (length es))) → (IsTrue b ↔ EachPartOf P (trees_of (views es)))
    → IsTrue b ↔ (P (part.merge c ps (length (list_of (trees_of (views es))))) × EachPartOf P (trees_of (views es)))
merge_step P c ps es a b held own rest = (
  λ h. (subst (λ k. P (part.merge c ps k)) (sym (count_of es)) (own.0 held), rest.0 h),
  λ h. rest.1 h.1,
)

pub merge_fails : (P : Part → Type 0) (c : List ℕ) (ps : List Pattern) (es : List Expr) (a : Bool)
    → a ≡ false → (IsTrue a ↔ P (part.merge c ps (length es)))
    → IsTrue a ↔ (P (part.merge c ps (length (list_of (trees_of (views es))))) × EachPartOf P (trees_of (views es)))
merge_fails P c ps es a fails own = (
  λ h. absurd (true≢false (sym h ∙ fails)),
  λ h. own.1 (subst (λ k. P (part.merge c ps k)) (count_of es) h.0),
)
