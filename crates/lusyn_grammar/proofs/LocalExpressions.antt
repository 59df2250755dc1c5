-- Reading of expressions looks at no token after the one that it refuses.
use Rattle.std.proofs.Common.{◌≡◌, ◌≤◌, ◌<◌, ℕ, zero, suc, Bool, true, false, cond, ◌&&◌, nat_le, List, [], ◌∷◌, ◌++◌, length, Option, Some, None, Result, Ok, Err, refl, ap, sym, ◌∙◌, inl, inr, arith}
use Rattle.lutree.specs.declared.expr.Prefix.{Prefix}
use Rattle.lutree.specs.declared.expr.Condition.{Condition}
use Rattle.lutree.specs.Tree.{Tree, trees_of}
use Rattle.lutree.specs.Tree as t
use Rattle.lusyn_grammar.specs.declared.token.Fixed.{Fixed}
use Rattle.lusyn_grammar.specs.declared.token.Fixed.TheVariants as f
use Rattle.lusyn_grammar.specs.Tokens.{Tok, identifier, number, fixed}
use Rattle.lusyn_grammar.specs.Tokens.{prefix_of, level, left, right}
use Rattle.lusyn_grammar.specs.Grammar.{truths}
use Rattle.lusyn_grammar.specs.Reading.{Read, ◌>>=◌, Next, operator, clock, parenthesis, nothing, next, next_by, tail, after, begins, name, on_truth, on_label, labelled_clock, clock_from_by, clock_from, condition_by, condition, many, step, climb, further_operand, closed, operands_by, operands, named_by, named, choice, inside, branch, merged, by_truths, labelled, further_branch, by_labels, merge_by, merge, current, at_level, allowed, prefixed, head, whole, expr}
use Rattle.std.specs.Result.{is_ok}
use Rattle.lusyn_grammar.proofs.Local.{after_head, left_of, Same, same_more, far_bind, same_bind, Local, Strict, local_of, local_less, local_along, strict_along, same_if, far_if, local_ok, local_bind, strict_bind, Step, takes, refuses, strict_step, strict_after, local_after, local_case, local_many, read, beyond}

closed-bind : {A : Type 0} (r : Read A) → closed r ≡ (r >>= λ y. after f.Close y.1 >>= λ us. Ok (y.0, us))
closed-bind (Ok y) = refl
closed-bind (Err ts) = refl

abbrev flat : Result (ℕ × Tree × List Tok) (List Tok) → Read (ℕ × Tree)
flat (Ok z) = Ok ((z.0, z.1), z.2)
flat (Err ts) = Err ts

flat-bind : (r : Result (ℕ × Tree × List Tok) (List Tok)) (go : ℕ → Tree → List Tok → Read Tree) → (r >>= λ z. go z.0 z.1 z.2) ≡ (flat r >>= λ y. go y.0.0 y.0.1 y.1)
flat-bind (Ok z) go = refl
flat-bind (Err ts) go = refl

at_level-flat : (at : ℕ) (r : Read Tree) → flat (at_level at r) ≡ (r >>= λ z. Ok ((at, z.0), z.1))
at_level-flat at (Ok z) = refl
at_level-flat at (Err ts) = refl

is_ok-along : (r s : Result (List Tok) (List Tok)) → r ≡ s → is_ok r ≡ is_ok s
is_ok-along r s e = ap (λ (z : Result (List Tok) (List Tok)). is_ok z) e

pub first_begins : (g : Fixed) (y : Tok) (ts vs : List Tok) → begins g (y ∷ ts) ≡ begins g (y ∷ vs)
first_begins g y ts vs = elim (after_head g y) [
  | inl taken ↦ is_ok-along (after g (y ∷ ts)) (Ok ts) (taken ts) ∙ sym (is_ok-along (after g (y ∷ vs)) (Ok vs) (taken vs))
  | inr over ↦ is_ok-along (after g (y ∷ ts)) (Err (y ∷ ts)) (over ts) ∙ sym (is_ok-along (after g (y ∷ vs)) (Err (y ∷ vs)) (over vs))
]

next-first : (y : Tok) (ts vs : List Tok) → next (y ∷ ts) ≡ next (y ∷ vs)
next-first y ts vs = refl

module _ (x : Tok) (rest us : List Tok) where
  pub strict_name : (k : ℕ) → Strict x rest us (suc k) name name
  strict_name k = strict_step x rest us k name name refl by_head
    where
      by_head : (y : Tok) → Step x rest us k name name y
      by_head (identifier v) = takes (λ ts. Ok (v, ts)) (λ ts. Ok (v, ts)) (local_ok x rest us k v) (λ ts. refl) (λ ts. refl)
      by_head (number n) = refuses (λ ts. refl) (λ ts. refl)
      by_head (fixed g) = refuses (λ ts. refl) (λ ts. refl)

  pub local_name : (k : ℕ) → Local x rest us k name name
  local_name k = local_less x rest us (suc k) k (omega arith) (local_of x rest us (suc k) (strict_name k))

  local_negated : (k : ℕ) → Local x rest us k (λ ts. name ts >>= λ y. Ok (on_truth false y.0, y.1)) (λ ts. name ts >>= λ y. Ok (on_truth false y.0, y.1))
  local_negated k = local_bind x rest us k name name (λ v ts. Ok (on_truth false v, ts)) (λ v ts. Ok (on_truth false v, ts)) (local_name k) (λ v. local_ok x rest us k (on_truth false v))

  local_labelled_clock : (k : ℕ) (label : List ℕ) → Local x rest us k (labelled_clock label) (labelled_clock label)
  local_labelled_clock k label =
      let last : List ℕ → List Tok → Read Condition = λ v ts. after f.Close ts >>= λ vs. Ok (on_label label v, vs) in
      local_bind x rest us k name name last last (local_name k) (λ v.
      local_after x rest us k f.Close (λ vs. Ok (on_label label v, vs)) (λ vs. Ok (on_label label v, vs)) (local_ok x rest us k (on_label label v)))

  local_clock_from : (k : ℕ) (v : List ℕ) → Local x rest us k (clock_from v) (clock_from v)
  local_clock_from k v =
      local_case x rest us k f.Open (clock_from_by v) (clock_from_by v) (labelled_clock v) (λ ts. Ok (on_truth true v, ts)) (labelled_clock v) (λ ts. Ok (on_truth true v, ts))
      (λ ts vs. refl) (λ ts vs. refl) (λ ts vs. refl) (λ ts vs. refl) (local_labelled_clock k v) (local_ok x rest us k (on_truth true v))

  pub local_condition : (k : ℕ) → Local x rest us k condition condition
  local_condition k =
      let negated : List Tok → Read Condition = λ ts. name ts >>= λ y. Ok (on_truth false y.0, y.1) in
      let from_name : List Tok → Read Condition = λ ts. name ts >>= λ y. clock_from y.0 y.1 in
      local_case x rest us k f.Not condition_by condition_by negated from_name negated from_name
      (λ ts vs. refl) (λ ts vs. refl) (λ ts vs. refl) (λ ts vs. refl) (local_negated k) (local_bind x rest us k name name clock_from clock_from (local_name k) (local_clock_from k))

  pub local_closed : {A : Type 0} (k : ℕ) (p o : List Tok → Read A) → Local x rest us k p o → Local x rest us k (λ ts. closed (p ts)) (λ ts. closed (o ts))
  local_closed {A = A} k p o l =
      let c : A → List Tok → Read A = λ v ts. after f.Close ts >>= λ vs. Ok (v, vs) in
      local_along x rest us k (λ ts. closed (p ts)) (λ ts. closed (o ts)) (λ ts. p ts >>= λ y. c y.0 y.1) (λ ts. o ts >>= λ y. c y.0 y.1) (λ ts. closed-bind (p ts)) (λ ts. closed-bind (o ts))
      (local_bind x rest us k p o c c l (λ v. local_after x rest us k f.Close (λ vs. Ok (v, vs)) (λ vs. Ok (v, vs)) (local_ok x rest us k v)))

  local_current : (k : ℕ) → Local x rest us k current current
  local_current k = local_bind x rest us k name name (λ v ts. Ok (t.current v, ts)) (λ v ts. Ok (t.current v, ts)) (local_name k) (λ v. local_ok x rest us k (t.current v))

  module _ (one other : ℕ → List Tok → Read Tree) (k : ℕ) (reads : (least : ℕ) → Local x rest us k (one least) (other least)) where
    strict_operand : (found : List Tree) → Strict x rest us (suc k) (further_operand one found) (further_operand other found)
    strict_operand found =
        strict_after x rest us k f.Comma (λ ts. one 0 ts >>= λ y. Ok (found ++ y.0 ∷ [], y.1)) (λ ts. other 0 ts >>= λ y. Ok (found ++ y.0 ∷ [], y.1))
        (local_bind x rest us k (one 0) (other 0) (λ v ts. Ok (found ++ v ∷ [], ts)) (λ v ts. Ok (found ++ v ∷ [], ts)) (reads 0) (λ v. local_ok x rest us k (found ++ v ∷ [])))

    pub local_operands : (n m : ℕ) → k ≤ n → n ≤ m → Local x rest us k (operands one n) (operands other m)
    unfolding operands
    local_operands n m low up =
        local_case x rest us k f.Close (operands_by one n) (operands_by other m) (λ ts. Ok ([], ts)) (λ ts. closed (one 0 ts >>= λ y. many (begins f.Comma) (further_operand one) n (y.0 ∷ []) y.1))
        (λ ts. Ok ([], ts)) (λ ts. closed (other 0 ts >>= λ y. many (begins f.Comma) (further_operand other) m (y.0 ∷ []) y.1))
        (λ ts vs. refl) (λ ts vs. refl) (λ ts vs. refl) (λ ts vs. refl) (local_ok x rest us k [])
        (local_closed k (λ ts. one 0 ts >>= λ y. many (begins f.Comma) (further_operand one) n (y.0 ∷ []) y.1) (λ ts. other 0 ts >>= λ y. many (begins f.Comma) (further_operand other) m (y.0 ∷ []) y.1)
        (local_bind x rest us k (one 0) (other 0) (λ v. many (begins f.Comma) (further_operand one) n (v ∷ [])) (λ v. many (begins f.Comma) (further_operand other) m (v ∷ [])) (reads 0)
        (λ v. local_many x rest us k (begins f.Comma) (further_operand one) (further_operand other) (first_begins f.Comma) strict_operand n m k (v ∷ []) low up (omega arith))))

    local_named : (n m : ℕ) (v : List ℕ) → k ≤ n → n ≤ m → Local x rest us k (named one n v) (named other m v)
    unfolding named
    local_named n m v low up =
        local_case x rest us k f.Open (named_by one n v) (named_by other m v)
        (λ ts. operands one n ts >>= λ found. Ok (t.call v (trees_of found.0), found.1)) (λ ts. Ok (t.variable v, ts))
        (λ ts. operands other m ts >>= λ found. Ok (t.call v (trees_of found.0), found.1)) (λ ts. Ok (t.variable v, ts))
        (λ ts vs. refl) (λ ts vs. refl) (λ ts vs. refl) (λ ts vs. refl)
        (local_bind x rest us k (operands one n) (operands other m) (λ xs ts. Ok (t.call v (trees_of xs), ts)) (λ xs ts. Ok (t.call v (trees_of xs), ts)) (local_operands n m low up)
        (λ xs. local_ok x rest us k (t.call v (trees_of xs)))) (local_ok x rest us k (t.variable v))

    local_choice : Local x rest us k (choice one) (choice other)
    unfolding choice
    local_choice =
        let third : (ℕ → List Tok → Read Tree) → Tree → Tree → List Tok → Read Tree = λ r a b ts. r 0 ts >>= λ z. Ok (t.choice a b z.0, z.1) in
        let second : (ℕ → List Tok → Read Tree) → Tree → List Tok → Read Tree = λ r a ts. r 0 ts >>= λ z. after f.Else z.1 >>= third r a z.0 in
        local_bind x rest us k (one 0) (other 0) (λ a ts. after f.Then ts >>= second one a) (λ a ts. after f.Then ts >>= second other a) (reads 0) (λ a.
        local_after x rest us k f.Then (second one a) (second other a) (
        local_bind x rest us k (one 0) (other 0) (λ b ts. after f.Else ts >>= third one a b) (λ b ts. after f.Else ts >>= third other a b) (reads 0) (λ b.
        local_after x rest us k f.Else (third one a b) (third other a b) (
        local_bind x rest us k (one 0) (other 0) (λ c ts. Ok (t.choice a b c, ts)) (λ c ts. Ok (t.choice a b c, ts)) (reads 0) (λ c. local_ok x rest us k (t.choice a b c))))))

    local_inside : Local x rest us k (inside one) (inside other)
    unfolding inside
    local_inside = local_closed k (one 0) (other 0) (reads 0)

    local_branch : (sign : Fixed) → Local x rest us k (branch one sign) (branch other sign)
    unfolding branch
    local_branch sign =
        local_after x rest us k f.Open (λ ts. after sign ts >>= λ vs. after f.Arrow vs >>= inside one) (λ ts. after sign ts >>= λ vs. after f.Arrow vs >>= inside other)
        (local_after x rest us k sign (λ ts. after f.Arrow ts >>= inside one) (λ ts. after f.Arrow ts >>= inside other)
        (local_after x rest us k f.Arrow (inside one) (inside other) local_inside))

    abbrev both : List ℕ → Tree → Tree → Tree
    both v a b = t.merge v truths (t.more a (t.more b t.none))

    local_by_truths : (v : List ℕ) → Local x rest us k (by_truths one v) (by_truths other v)
    unfolding by_truths
    local_by_truths v =
        let second : (ℕ → List Tok → Read Tree) → Tree → List Tok → Read Tree = λ r a ts. branch r f.False ts >>= λ z. Ok (both v a z.0, z.1) in
        local_after x rest us k f.Arrow (λ ts. inside one ts >>= λ z. second one z.0 z.1) (λ ts. inside other ts >>= λ z. second other z.0 z.1) (
        local_bind x rest us k (inside one) (inside other) (second one) (second other) local_inside (λ a.
        local_bind x rest us k (branch one f.False) (branch other f.False) (λ b ts. Ok (both v a b, ts)) (λ b ts. Ok (both v a b, ts)) (local_branch f.False) (λ b. local_ok x rest us k (both v a b))))

    local_labelled : (found : List (List ℕ × Tree)) → Local x rest us k (labelled one found) (labelled other found)
    unfolding labelled
    local_labelled found =
        let last : (ℕ → List Tok → Read Tree) → List ℕ → List Tok → Read (List (List ℕ × Tree)) = λ r v ts. inside r ts >>= λ z. Ok (found ++ (v, z.0) ∷ [], z.1) in
        local_bind x rest us k name name (λ v ts. after f.Arrow ts >>= last one v) (λ v ts. after f.Arrow ts >>= last other v) (local_name k) (λ v.
        local_after x rest us k f.Arrow (last one v) (last other v) (
        local_bind x rest us k (inside one) (inside other) (λ e ts. Ok (found ++ (v, e) ∷ [], ts)) (λ e ts. Ok (found ++ (v, e) ∷ [], ts)) local_inside (λ e. local_ok x rest us k (found ++ (v, e) ∷ []))))

    strict_further_branch : (found : List (List ℕ × Tree)) → Strict x rest us (suc k) (further_branch one found) (further_branch other found)
    strict_further_branch found = strict_after x rest us k f.Open (labelled one found) (labelled other found) (local_labelled found)

    local_by_labels : (n m : ℕ) (v : List ℕ) → k ≤ n → n ≤ m → Local x rest us k (by_labels one n v) (by_labels other m v)
    unfolding by_labels
    local_by_labels n m v low up =
        let others : (ℕ → List Tok → Read Tree) → ℕ → List (List ℕ × Tree) → List Tok → Read Tree = λ r j found ts. many (begins f.Open) (further_branch r) j found ts >>= λ all. Ok (merged v all.0, all.1) in
        local_bind x rest us k (labelled one []) (labelled other []) (others one n) (others other m) (local_labelled []) (λ found.
        local_bind x rest us k (many (begins f.Open) (further_branch one) n found) (many (begins f.Open) (further_branch other) m found) (λ all ts. Ok (merged v all, ts)) (λ all ts. Ok (merged v all, ts))
        (local_many x rest us k (begins f.Open) (further_branch one) (further_branch other) (first_begins f.Open) strict_further_branch n m k found low up (omega arith)) (λ all. local_ok x rest us k (merged v all)))

    local_merge : (n m : ℕ) → k ≤ n → n ≤ m → Local x rest us k (merge one n) (merge other m)
    unfolding merge
    local_merge n m low up =
        let opened : (ℕ → List Tok → Read Tree) → ℕ → List ℕ → List Tok → Read Tree = λ r j v ts. merge_by r j v ts (after f.True ts) in
        local_bind x rest us k name name (λ v ts. after f.Open ts >>= opened one n v) (λ v ts. after f.Open ts >>= opened other m v) (local_name k) (λ v.
        local_after x rest us k f.Open (opened one n v) (opened other m v) (
        local_case x rest us k f.True (merge_by one n v) (merge_by other m v) (by_truths one v) (by_labels one n v) (by_truths other v) (by_labels other m v)
        (λ ts vs. refl) (λ ts vs. refl) (λ ts vs. refl) (λ ts vs. refl) (local_by_truths v) (local_by_labels n m v low up)))

    local_prefixed : (op : Prefix) → Local x rest us k (λ ts. one 8 ts >>= λ z. Ok (t.unary op z.0, z.1)) (λ ts. other 8 ts >>= λ z. Ok (t.unary op z.0, z.1))
    local_prefixed op = local_bind x rest us k (one 8) (other 8) (λ a ts. Ok (t.unary op a, ts)) (λ a ts. Ok (t.unary op a, ts)) (reads 8) (λ a. local_ok x rest us k (t.unary op a))

    abbrev levelled : ℕ → (List Tok → Read Tree) → List Tok → Read (ℕ × Tree)
    levelled at p ts = p ts >>= λ z. Ok ((at, z.0), z.1)

    local_levelled : (at : ℕ) (p o : List Tok → Read Tree) → Local x rest us k p o → Local x rest us k (levelled at p) (levelled at o)
    local_levelled at p o l = local_bind x rest us k p o (λ a ts. Ok ((at, a), ts)) (λ a ts. Ok ((at, a), ts)) l (λ a. local_ok x rest us k (at, a))

    -- what a form does whose level may be too low for its place
    allowed_step : (at least : ℕ) (y : Tok) (p o : List Tok → Read Tree) (F G : List Tok → Read (ℕ × Tree)) → Local x rest us k p o
        → ((ts : List Tok) → F (y ∷ ts) ≡ flat (allowed at least (y ∷ ts) (p ts))) → ((ts : List Tok) → G (y ∷ ts) ≡ flat (allowed at least (y ∷ ts) (o ts))) → Step x rest us k F G y
    allowed_step at least y p o F G l e h = by_test (nat_le least at) refl
      where
        by_test : (b : Bool) → nat_le least at ≡ b → Step x rest us k F G y
        by_test true same = takes (levelled at p) (levelled at o) (local_levelled at p o l)
            (λ ts. e ts ∙ ap (λ (b : Bool). flat (cond b (at_level at (p ts)) (Err (y ∷ ts)))) same ∙ at_level-flat at (p ts))
            (λ ts. h ts ∙ ap (λ (b : Bool). flat (cond b (at_level at (o ts)) (Err (y ∷ ts)))) same ∙ at_level-flat at (o ts))
        by_test false same = refuses (λ ts. e ts ∙ ap (λ (b : Bool). flat (cond b (at_level at (p ts)) (Err (y ∷ ts)))) same) (λ ts. h ts ∙ ap (λ (b : Bool). flat (cond b (at_level at (o ts)) (Err (y ∷ ts)))) same)

    none_step : (least : ℕ) (y : Tok) (F G : List Tok → Read (ℕ × Tree))
        → ((ts : List Tok) → F (y ∷ ts) ≡ flat (allowed 8 least (y ∷ ts) (Err (y ∷ ts)))) → ((ts : List Tok) → G (y ∷ ts) ≡ flat (allowed 8 least (y ∷ ts) (Err (y ∷ ts)))) → Step x rest us k F G y
    none_step least y F G e h = refuses (λ ts. e ts ∙ by_test (nat_le least 8) (y ∷ ts)) (λ ts. h ts ∙ by_test (nat_le least 8) (y ∷ ts))
      where
        by_test : (b : Bool) (all : List Tok) → flat (cond b (at_level 8 (Err all)) (Err all)) ≡ Err all
        by_test true all = refl
        by_test false all = refl

    prefixed_step : (least : ℕ) (y : Tok) (op : Option Prefix) (F G : List Tok → Read (ℕ × Tree))
        → ((ts : List Tok) → F (y ∷ ts) ≡ flat (allowed 8 least (y ∷ ts) (prefixed one (y ∷ ts) op ts))) → ((ts : List Tok) → G (y ∷ ts) ≡ flat (allowed 8 least (y ∷ ts) (prefixed other (y ∷ ts) op ts)))
        → Step x rest us k F G y
    prefixed_step least y None F G e h = none_step least y F G e h
    prefixed_step least y (Some op) F G e h = allowed_step 8 least y (λ ts. one 8 ts >>= λ z. Ok (t.unary op z.0, z.1)) (λ ts. other 8 ts >>= λ z. Ok (t.unary op z.0, z.1)) F G (local_prefixed op) e h

    abbrev heads : (ℕ → List Tok → Read Tree) → ℕ → ℕ → List Tok → Read (ℕ × Tree)
    heads r n least ts = flat (head r n least ts)

    head_step : (n m least : ℕ) → k ≤ n → n ≤ m → (y : Tok) → Step x rest us k (heads one n least) (heads other m least) y
    unfolding head
    head_step n m least low up (identifier v) =
        takes (levelled 10 (named one n v)) (levelled 10 (named other m v)) (local_levelled 10 (named one n v) (named other m v) (local_named n m v low up)) (λ ts. at_level-flat 10 (named one n v ts)) (λ ts. at_level-flat 10 (named other m v ts))
    head_step n m least low up (number v) = takes (λ ts. Ok ((10, t.number v), ts)) (λ ts. Ok ((10, t.number v), ts)) (local_ok x rest us k (10, t.number v)) (λ ts. refl) (λ ts. refl)
    head_step n m least low up (fixed f.True) = takes (λ ts. Ok ((10, t.truth true), ts)) (λ ts. Ok ((10, t.truth true), ts)) (local_ok x rest us k (10, t.truth true)) (λ ts. refl) (λ ts. refl)
    head_step n m least low up (fixed f.False) = takes (λ ts. Ok ((10, t.truth false), ts)) (λ ts. Ok ((10, t.truth false), ts)) (local_ok x rest us k (10, t.truth false)) (λ ts. refl) (λ ts. refl)
    head_step n m least low up (fixed f.Merge) = takes (levelled 10 (merge one n)) (levelled 10 (merge other m)) (local_levelled 10 (merge one n) (merge other m) (local_merge n m low up)) (λ ts. at_level-flat 10 (merge one n ts)) (λ ts. at_level-flat 10 (merge other m ts))
    head_step n m least low up (fixed f.Open) = takes (levelled 10 (inside one)) (levelled 10 (inside other)) (local_levelled 10 (inside one) (inside other) local_inside) (λ ts. at_level-flat 10 (inside one ts)) (λ ts. at_level-flat 10 (inside other ts))
    head_step n m least low up (fixed f.If) = allowed_step 0 least (fixed f.If) (choice one) (choice other) (heads one n least) (heads other m least) local_choice (λ ts. refl) (λ ts. refl)
    head_step n m least low up (fixed f.Current) = allowed_step 8 least (fixed f.Current) current current (heads one n least) (heads other m least) (local_current k) (λ ts. refl) (λ ts. refl)
    head_step n m least low up (fixed g) = prefixed_step least (fixed g) (prefix_of g) (heads one n least) (heads other m least) (λ ts. refl) (λ ts. refl)

    head_none : (n least : ℕ) → heads one n least [] ≡ Err []
    unfolding head
    head_none n least = refl

    strict_heads : (n m least : ℕ) → k ≤ n → n ≤ m → Strict x rest us (suc k) (heads one n least) (heads other m least)
    strict_heads n m least low up = strict_step x rest us k (heads one n least) (heads other m least) (head_none n least) (head_step n m least low up)

    tail_far : (ts : List Tok) → length ts ≤ length rest → length (tail ts) ≤ length rest
    tail_far [] b = b
    tail_far (y ∷ ts) b = omega arith

    climb_far : (n least at : ℕ) (found : Tree) (ts : List Tok) → length ts ≤ length rest → length (left_of (climb one n least at found ts)) ≤ length rest
    unfolding climb
    climb_far zero least at found ts b = b
    climb_far (suc n) least at found ts b = by_next (next ts) (climb_far n least)
      where
        by_next : (e : Next) → ((to : ℕ) (v : Tree) (vs : List Tok) → length vs ≤ length rest → length (left_of (climb one n least to v vs)) ≤ length rest) → length (left_of (step one (climb one n least) least at found ts e)) ≤ length rest
        by_next nothing go = b
        by_next parenthesis go = b
        by_next (operator op) go =
            far_if x rest us (nat_le least (level op) && nat_le (left op) at) (one (right op) (tail ts) >>= λ z. climb one n least (level op) (t.binary op found z.0) z.1) (Ok (found, ts))
            (far_bind x rest us (one (right op) (tail ts)) (λ v. climb one n least (level op) (t.binary op found v)) ((reads (right op)).far (tail ts) (tail_far ts b)) (λ v vs h. go (level op) (t.binary op found v) vs h)) b
        by_next clock go =
            far_if x rest us (nat_le least 9 && nat_le 9 at) (condition (tail ts) >>= λ z. climb one n least 9 (t.when found z.0) z.1) (Ok (found, ts))
            (far_bind x rest us (condition (tail ts)) (λ v. climb one n least 9 (t.when found v)) ((local_condition k).far (tail ts) (tail_far ts b)) (λ v vs h. go 9 (t.when found v) vs h)) b

    climb_near : (n m least at : ℕ) (found : Tree) (q : List Tok) → length q < n → n ≤ m → length q ≤ k
        → Same x rest us (suc (length q)) (climb one n least at found (q ++ x ∷ rest)) (climb other m least at found (q ++ x ∷ us))
    unfolding climb
    climb_near zero m least at found q b up low = absurd (omega arith)
    climb_near (suc n) zero least at found q b up low = absurd (omega arith)
    climb_near (suc n) (suc m) least at found [] b up low = by_next (next_by x)
      where
        by_next : (e : Next) → Same x rest us 1 (step one (climb one n least) least at found (x ∷ rest) e) (step other (climb other m least) least at found (x ∷ us) e)
        by_next nothing = read found [] (omega arith) refl refl
        by_next parenthesis = read found [] (omega arith) refl refl
        by_next (operator op) =
            same_if x rest us 1 (nat_le least (level op) && nat_le (left op) at) (nat_le least (level op) && nat_le (left op) at)
            (one (right op) rest >>= λ z. climb one n least (level op) (t.binary op found z.0) z.1) (Ok (found, x ∷ rest)) (other (right op) us >>= λ z. climb other m least (level op) (t.binary op found z.0) z.1) (Ok (found, x ∷ us)) refl
            (beyond (far_bind x rest us (one (right op) rest) (λ v. climb one n least (level op) (t.binary op found v)) ((reads (right op)).far rest (omega arith)) (λ v vs h. climb_far n least (level op) (t.binary op found v) vs h)))
            (read found [] (omega arith) refl refl)
        by_next clock =
            same_if x rest us 1 (nat_le least 9 && nat_le 9 at) (nat_le least 9 && nat_le 9 at)
            (condition rest >>= λ z. climb one n least 9 (t.when found z.0) z.1) (Ok (found, x ∷ rest)) (condition us >>= λ z. climb other m least 9 (t.when found z.0) z.1) (Ok (found, x ∷ us)) refl
            (beyond (far_bind x rest us (condition rest) (λ v. climb one n least 9 (t.when found v)) ((local_condition k).far rest (omega arith)) (λ v vs h. climb_far n least 9 (t.when found v) vs h)))
            (read found [] (omega arith) refl refl)
    climb_near (suc n) (suc m) least at found (y ∷ q) b up low = by_next (next_by y) (λ to v u h. climb_near n m least to v u (omega arith) (omega arith) (omega arith))
      where
        by_next : (e : Next) → ((to : ℕ) (v : Tree) (u : List Tok) → length u < suc (length q) → Same x rest us (suc (length u)) (climb one n least to v (u ++ x ∷ rest)) (climb other m least to v (u ++ x ∷ us))) → Same x rest us (suc (suc (length q))) (step one (climb one n least) least at found (y ∷ q ++ x ∷ rest) e) (step other (climb other m least) least at found (y ∷ q ++ x ∷ us) e)
        by_next nothing go = read found (y ∷ q) (omega arith) refl refl
        by_next parenthesis go = read found (y ∷ q) (omega arith) refl refl
        by_next (operator op) go =
            same_if x rest us (suc (suc (length q))) (nat_le least (level op) && nat_le (left op) at) (nat_le least (level op) && nat_le (left op) at)
            (one (right op) (q ++ x ∷ rest) >>= λ z. climb one n least (level op) (t.binary op found z.0) z.1) (Ok (found, y ∷ q ++ x ∷ rest))
            (other (right op) (q ++ x ∷ us) >>= λ z. climb other m least (level op) (t.binary op found z.0) z.1) (Ok (found, y ∷ q ++ x ∷ us)) refl
            (same_bind x rest us (suc (length q)) (suc (suc (length q))) (one (right op) (q ++ x ∷ rest)) (other (right op) (q ++ x ∷ us))
            (λ v. climb one n least (level op) (t.binary op found v)) (λ v. climb other m least (level op) (t.binary op found v)) ((reads (right op)).near q (omega arith))
            (λ v u h. same_more x rest us (suc (length u)) (suc (suc (length q))) (omega arith) (go (level op) (t.binary op found v) u h))
            (λ v vs h. climb_far n least (level op) (t.binary op found v) vs h))
            (read found (y ∷ q) (omega arith) refl refl)
        by_next clock go =
            same_if x rest us (suc (suc (length q))) (nat_le least 9 && nat_le 9 at) (nat_le least 9 && nat_le 9 at)
            (condition (q ++ x ∷ rest) >>= λ z. climb one n least 9 (t.when found z.0) z.1) (Ok (found, y ∷ q ++ x ∷ rest))
            (condition (q ++ x ∷ us) >>= λ z. climb other m least 9 (t.when found z.0) z.1) (Ok (found, y ∷ q ++ x ∷ us)) refl
            (same_bind x rest us (suc (length q)) (suc (suc (length q))) (condition (q ++ x ∷ rest)) (condition (q ++ x ∷ us))
            (λ v. climb one n least 9 (t.when found v)) (λ v. climb other m least 9 (t.when found v)) ((local_condition k).near q (omega arith))
            (λ v u h. same_more x rest us (suc (length u)) (suc (suc (length q))) (omega arith) (go 9 (t.when found v) u h))
            (λ v vs h. climb_far n least 9 (t.when found v) vs h))
            (read found (y ∷ q) (omega arith) refl refl)

    local_climb : (n m least at : ℕ) (found : Tree) → k ≤ n → n ≤ m → Local x rest us k (climb one n least at found) (climb other m least at found)
    local_climb n m least at found low up = record { near = λ q b. climb_near n m least at found q (omega arith) up (omega arith); far = climb_far n least at found }

    strict_whole : (n m least : ℕ) → k ≤ n → n ≤ m → Strict x rest us (suc k) (whole one n least) (whole other m least)
    unfolding whole
    strict_whole n m least low up =
        strict_along x rest us (suc k) (whole one n least) (whole other m least) (λ ts. heads one n least ts >>= λ y. climb one n least y.0.0 y.0.1 y.1) (λ ts. heads other m least ts >>= λ y. climb other m least y.0.0 y.0.1 y.1)
        (λ ts. flat-bind (head one n least ts) (climb one n least)) (λ ts. flat-bind (head other m least ts) (climb other m least))
        (strict_bind x rest us k (heads one n least) (heads other m least) (λ z. climb one n least z.0 z.1) (λ z. climb other m least z.0 z.1) (strict_heads n m least low up) (λ z. local_climb n m least z.0 z.1 low up))

  pub local_expr : (n m : ℕ) → n ≤ m → (least : ℕ) → Local x rest us n (expr n least) (expr m least)
  unfolding expr
  local_expr zero m up least = record { near = λ q b. absurd (omega arith); far = λ ts b. b }
  local_expr (suc n) zero up least = absurd (omega arith)
  local_expr (suc n) (suc m) up least = local_of x rest us (suc n) (strict_whole (expr n) (expr m) n (local_expr n m (omega arith)) n m least (omega arith) (omega arith))
