-- What is pushed for the parts of an expression and of a list, in turn.
use Rattle.std.proofs.Common.{◌≡◌, ◌∙◌, ◌+◌, ◌<◌, ◌≤◌, ◌++◌, ◌∷◌, [], ℕ, List, length, drop, get_or, sym, ap, append_assoc, map, arith}
use Rattle.std.proofs.lemmas.List.{append-nil, at_drop_more, at_drop_all}
use Rattle.lutree.specs.declared.program.Equation.{Equation}
use Rattle.lutree.specs.Tree.{NodeTree, view, equation_view}
use Rattle.lubase.specs.declared.link.Link.{Link}
use Rattle.lustat_init.specs.Linked.{reads_in, writes_in, links_in}

-- for two parts, one after the other
pub pushed_both : {A : Type 0} (old one two xs ys : List A) → one ≡ old ++ xs → two ≡ one ++ ys → two ≡ old ++ (xs ++ ys)
pushed_both old one two xs ys first last = last ∙ ap (λ r. r ++ ys) first ∙ append_assoc old xs ys

-- for one item more of a list
pub pushed_more : {A B : Type 0} (f : A → List B) (F : List A → List B) → ((x : A) (xs : List A) → F (x ∷ xs) ≡ f x ++ F xs) → (items : List A) (i : ℕ) (a : A) (old one all : List B)
    → i < length items → a ≡ get_or items i a → one ≡ old ++ f a → old ++ F (drop i items) ≡ all → one ++ F (drop (i + 1) items) ≡ all
pushed_more f F step items i a old one all lt is now before =
    ap (λ r. r ++ F (drop (i + 1) items)) now ∙ append_assoc old (f a) (F (drop (i + 1) items))
    ∙ ap (λ r. old ++ r) (ap (λ x. f x ++ F (drop (i + 1) items)) is ∙ sym (step (get_or items i a) (drop (i + 1) items)) ∙ sym (at_drop_more F items i a lt))
    ∙ before

-- for all of a list
pub pushed_all : {A B : Type 0} (F : List A → List B) → F [] ≡ [] → (items : List A) (i : ℕ) (old all : List B) → length items ≤ i → old ++ F (drop i items) ≡ all → old ≡ all
pushed_all F none items i old all le before = sym (append-nil old) ∙ ap (λ r. old ++ r) (sym (at_drop_all F items i le ∙ none)) ∙ before

-- the links of one equation more
pub linked_more : (n : NodeTree) (first i : ℕ) (qs : List Equation) (q : Equation) (old one all : List Link) → i < length qs → q ≡ get_or qs i q
    → one ≡ old ++ (reads_in n (first + i) (view q.right) ++ writes_in n (first + i) q.left) → old ++ links_in n (first + i) (map equation_view (drop i qs)) ≡ all
    → one ++ links_in n (first + (i + 1)) (map equation_view (drop (i + 1) qs)) ≡ all
linked_more n first i qs q old one all lt is now before =
    let own = λ (x : Equation). reads_in n (first + i) (view x.right) ++ writes_in n (first + i) x.left in
    let rest = λ (w : ℕ). links_in n w (map equation_view (drop (i + 1) qs)) in
    let next : first + (i + 1) ≡ first + i + 1 = omega arith in
    ap (λ r. r ++ rest (first + (i + 1))) now ∙ append_assoc old (own q) (rest (first + (i + 1)))
    ∙ ap (λ r. old ++ r) (ap (λ x. own x ++ rest (first + (i + 1))) is ∙ ap (λ w. own (get_or qs i q) ++ rest w) next
    ∙ sym (at_drop_more (λ (xs : List Equation). links_in n (first + i) (map equation_view xs)) qs i q lt))
    ∙ before
