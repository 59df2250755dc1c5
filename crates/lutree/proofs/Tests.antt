-- Tests of an expression by tests of its parts, in turn: of what is asked of it as a tree, where a test has done what it says of
-- each part. Each law is one step of such a test.
use Rattle.std.proofs.Common.{◌≡◌, ◌∙◌, ◌↔◌, ℕ, Bool, true, false, List, IsTrue, sym, ap, subst, true≢false, refl, ◌⊎◌, inl, inr, ◌+◌, ◌<◌, ◌≤◌, length, drop, get_or}
use Rattle.std.proofs.lemmas.List.{at_drop_more, at_drop_all}
use Rattle.lutree.specs.declared.expr.Label.{Label}
use Rattle.lutree.specs.declared.expr.Expr.{Expr}
use Rattle.lutree.specs.declared.expr.Expr.TheVariants as variant
use Rattle.lutree.specs.Tree.{Tree, Trees, view, views, trees_of}
use Rattle.lutree.specs.Tree as tree
use Rattle.lutree.proofs.Views.{viewed-Number, viewed-Truth, viewed-Label, viewed-Variable, viewed-Current}

-- BY ITS FORM

-- a test of an expression is one of its form
pub of_form : (Q : Tree → Type 0) (r : Bool) (e f : Expr) (t : Tree) → e ≡ f → view f ≡ t → (IsTrue r ↔ Q t) → IsTrue r ↔ Q (view e)
of_form Q r e f t same form test = subst (λ x. IsTrue r ↔ Q x) (sym (ap view same ∙ form)) test

-- a test of what is lent
pub of_lent : (Q : Tree → Type 0) (r : Bool) (e f : Expr) → e ≡ f → (IsTrue r ↔ Q (view e)) → IsTrue r ↔ Q (view f)
of_lent Q r e f same test = subst (λ x. IsTrue r ↔ Q (view x)) same test

-- a test of a list that is lent
pub of_list : (R : Trees → Type 0) (r : Bool) (xs ys : List Expr) → xs ≡ ys → (IsTrue r ↔ R (trees_of (views xs))) → IsTrue r ↔ R (trees_of (views ys))
of_list R r xs ys same test = subst (λ es. IsTrue r ↔ R (trees_of (views es))) same test

-- nothing is asked
pub nothing_asked : (Q : Tree → Type 0) (e f : Expr) (t : Tree) → e ≡ f → view f ≡ t → Q t → IsTrue true ↔ Q (view e)
nothing_asked Q e f t same form holds = of_form Q true e f t same form (λ _. holds, λ _. refl)

-- nothing is asked of numbers, truths and labels
pub of_three_forms : (Q : Tree → Type 0) (e : Expr)
    → (((x : ℕ) × (e ≡ variant.Number x)) ⊎ (((x : Bool) × (e ≡ variant.Truth x)) ⊎ ((x : Label) × (e ≡ variant.Label x))))
    → ((x : ℕ) → Q (tree.number x)) → ((x : Bool) → Q (tree.truth x)) → ((x : Label) → Q (tree.label x)) → IsTrue true ↔ Q (view e)
of_three_forms Q e (inl w) ask_number _ _ = nothing_asked Q e (variant.Number w.0) (tree.number w.0) w.1 (viewed-Number w.0) (ask_number w.0)
of_three_forms Q e (inr (inl w)) _ ask_truth _ = nothing_asked Q e (variant.Truth w.0) (tree.truth w.0) w.1 (viewed-Truth w.0) (ask_truth w.0)
of_three_forms Q e (inr (inr w)) _ _ ask_label = nothing_asked Q e (variant.Label w.0) (tree.label w.0) w.1 (viewed-Label w.0) (ask_label w.0)

-- nothing is asked of numbers, truths, labels and variables
pub of_four_forms : (Q : Tree → Type 0) (e : Expr)
    → (((x : ℕ) × (e ≡ variant.Number x)) ⊎ (((x : Bool) × (e ≡ variant.Truth x)) ⊎ (((x : Label) × (e ≡ variant.Label x)) ⊎ ((x : List ℕ) × (e ≡ variant.Variable x)))))
    → ((x : ℕ) → Q (tree.number x)) → ((x : Bool) → Q (tree.truth x)) → ((x : Label) → Q (tree.label x)) → ((x : List ℕ) → Q (tree.variable x)) → IsTrue true ↔ Q (view e)
of_four_forms Q e (inl w) ask_number _ _ _ = nothing_asked Q e (variant.Number w.0) (tree.number w.0) w.1 (viewed-Number w.0) (ask_number w.0)
of_four_forms Q e (inr (inl w)) _ ask_truth _ _ = nothing_asked Q e (variant.Truth w.0) (tree.truth w.0) w.1 (viewed-Truth w.0) (ask_truth w.0)
of_four_forms Q e (inr (inr (inl w))) _ _ ask_label _ = nothing_asked Q e (variant.Label w.0) (tree.label w.0) w.1 (viewed-Label w.0) (ask_label w.0)
of_four_forms Q e (inr (inr (inr w))) _ _ _ ask_variable = nothing_asked Q e (variant.Variable w.0) (tree.variable w.0) w.1 (viewed-Variable w.0) (ask_variable w.0)

-- nothing is asked of numbers, truths, variables and what is current of them
pub of_unlabelled_forms : (Q : Tree → Type 0) (e : Expr)
    → (((x : ℕ) × (e ≡ variant.Number x)) ⊎ (((x : Bool) × (e ≡ variant.Truth x)) ⊎ (((x : List ℕ) × (e ≡ variant.Variable x)) ⊎ ((x : List ℕ) × (e ≡ variant.Current x)))))
    → ((x : ℕ) → Q (tree.number x)) → ((x : Bool) → Q (tree.truth x)) → ((x : List ℕ) → Q (tree.variable x)) → ((x : List ℕ) → Q (tree.current x)) → IsTrue true ↔ Q (view e)
of_unlabelled_forms Q e (inl w) ask_number _ _ _ = nothing_asked Q e (variant.Number w.0) (tree.number w.0) w.1 (viewed-Number w.0) (ask_number w.0)
of_unlabelled_forms Q e (inr (inl w)) _ ask_truth _ _ = nothing_asked Q e (variant.Truth w.0) (tree.truth w.0) w.1 (viewed-Truth w.0) (ask_truth w.0)
of_unlabelled_forms Q e (inr (inr (inl w))) _ _ ask_variable _ = nothing_asked Q e (variant.Variable w.0) (tree.variable w.0) w.1 (viewed-Variable w.0) (ask_variable w.0)
of_unlabelled_forms Q e (inr (inr (inr w))) _ _ _ ask_current = nothing_asked Q e (variant.Current w.0) (tree.current w.0) w.1 (viewed-Current w.0) (ask_current w.0)

-- nothing is asked of numbers, truths, labels, variables and what is current of them
pub of_five_forms : (Q : Tree → Type 0) (e : Expr)
    → (((x : ℕ) × (e ≡ variant.Number x)) ⊎ (((x : Bool) × (e ≡ variant.Truth x)) ⊎ (((x : Label) × (e ≡ variant.Label x)) ⊎ (((x : List ℕ) × (e ≡ variant.Variable x)) ⊎ ((x : List ℕ) × (e ≡ variant.Current x))))))
    → ((x : ℕ) → Q (tree.number x)) → ((x : Bool) → Q (tree.truth x)) → ((x : Label) → Q (tree.label x)) → ((x : List ℕ) → Q (tree.variable x)) → ((x : List ℕ) → Q (tree.current x)) → IsTrue true ↔ Q (view e)
of_five_forms Q e (inl w) ask_number _ _ _ _ = nothing_asked Q e (variant.Number w.0) (tree.number w.0) w.1 (viewed-Number w.0) (ask_number w.0)
of_five_forms Q e (inr (inl w)) _ ask_truth _ _ _ = nothing_asked Q e (variant.Truth w.0) (tree.truth w.0) w.1 (viewed-Truth w.0) (ask_truth w.0)
of_five_forms Q e (inr (inr (inl w))) _ _ ask_label _ _ = nothing_asked Q e (variant.Label w.0) (tree.label w.0) w.1 (viewed-Label w.0) (ask_label w.0)
of_five_forms Q e (inr (inr (inr (inl w)))) _ _ _ ask_variable _ = nothing_asked Q e (variant.Variable w.0) (tree.variable w.0) w.1 (viewed-Variable w.0) (ask_variable w.0)
of_five_forms Q e (inr (inr (inr (inr w)))) _ _ _ _ ask_current = nothing_asked Q e (variant.Current w.0) (tree.current w.0) w.1 (viewed-Current w.0) (ask_current w.0)

-- OF SEVERAL PARTS

-- of two parts the first holds, or it fails
pub both_held : (A B : Type 0) (a b : Bool) → a ≡ true → (IsTrue a ↔ A) → (IsTrue b ↔ B) → IsTrue b ↔ (A × B)
both_held A B a b held first last = (λ h. (first.0 held, last.0 h), λ h. last.1 h.1)

pub both_failed : (A B : Type 0) (a : Bool) → a ≡ false → (IsTrue a ↔ A) → IsTrue a ↔ (A × B)
both_failed A B a failed first = (λ h. absurd (true≢false (sym h ∙ failed)), λ h. first.1 h.0)

-- of three parts the first two hold, or one of them fails
pub three_held : (A B C : Type 0) (a b : Bool) → a ≡ true → (IsTrue a ↔ (A × B)) → (IsTrue b ↔ C) → IsTrue b ↔ (A × (B × C))
three_held A B C a b held two last = (λ h. ((two.0 held).0, ((two.0 held).1, last.0 h)), λ h. last.1 h.1.1)

pub three_failed : (A B C : Type 0) (a : Bool) → a ≡ false → (IsTrue a ↔ (A × B)) → IsTrue a ↔ (A × (B × C))
three_failed A B C a failed two = (λ h. absurd (true≢false (sym h ∙ failed)), λ h. two.1 (h.0, h.1.0))

-- likewise of three parts side by side
pub triple_held : (A B C : Type 0) (a b : Bool) → a ≡ true → (IsTrue a ↔ (A × B)) → (IsTrue b ↔ C) → IsTrue b ↔ (A × B × C)
triple_held A B C a b held two last = (λ h. ((two.0 held).0, (two.0 held).1, last.0 h), λ h. last.1 h.2)

pub triple_failed : (A B C : Type 0) (a : Bool) → a ≡ false → (IsTrue a ↔ (A × B)) → IsTrue a ↔ (A × B × C)
triple_failed A B C a failed two = (λ h. absurd (true≢false (sym h ∙ failed)), λ h. two.1 (h.0, h.1))

-- LISTS

list_from : (es : List Expr) (i : ℕ) (e : Expr) → i < length es → e ≡ get_or es i e → trees_of (views (drop i es)) ≡ tree.more (view e) (trees_of (views (drop (i + 1) es)))
list_from es i e lt is =
    at_drop_more (λ (xs : List Expr). trees_of (views xs)) es i e lt ∙ ap (λ x. tree.more (view x) (trees_of (views (drop (i + 1) es)))) (sym is)

-- of a list the items before a place keep what is asked, and so does the one there
pub list_more : (Q : Tree → Type 0) (R : Trees → Type 0) (Z : Type 0) → ((x : Tree) (xs : Trees) → R (tree.more x xs) ↔ (Q x × R xs)) → (es : List Expr) (i : ℕ) (e : Expr) (r : Bool)
    → i < length es → e ≡ get_or es i e → r ≡ true → (IsTrue r ↔ Q (view e)) → (R (trees_of (views (drop i es))) ↔ Z) → R (trees_of (views (drop (i + 1) es))) ↔ Z
list_more Q R Z step es i e r lt is held test before =
    let rest = trees_of (views (drop (i + 1) es)) in
    let whole = subst (λ xs. R xs ↔ Z) (list_from es i e lt is) before in
    (λ h. whole.0 ((step (view e) rest).1 (test.0 held, h)), λ z. ((step (view e) rest).0 (whole.1 z)).1)

-- the one there fails
pub list_failed : (Q : Tree → Type 0) (R : Trees → Type 0) (Z : Type 0) → ((x : Tree) (xs : Trees) → R (tree.more x xs) ↔ (Q x × R xs)) → (es : List Expr) (i : ℕ) (e : Expr) (r : Bool)
    → i < length es → e ≡ get_or es i e → r ≡ false → (IsTrue r ↔ Q (view e)) → (R (trees_of (views (drop i es))) ↔ Z) → IsTrue false ↔ Z
list_failed Q R Z step es i e r lt is failed test before =
    let whole = subst (λ xs. R xs ↔ Z) (list_from es i e lt is) before in (
      λ h. absurd (true≢false (sym h)),
      λ z. absurd (true≢false (sym (test.1 ((step (view e) (trees_of (views (drop (i + 1) es)))).0 (whole.1 z)).0) ∙ failed)),
    )

-- all do
pub list_held : (R : Trees → Type 0) (Z : Type 0) → R tree.none → (es : List Expr) (i : ℕ) → length es ≤ i → (R (trees_of (views (drop i es))) ↔ Z) → IsTrue true ↔ Z
list_held R Z none es i le before =
    (λ _. before.0 (subst R (sym (at_drop_all (λ (xs : List Expr). trees_of (views xs)) es i le)) none), λ _. refl)
