-- The calls of arguments and of equations, put one behind the other.
use Rattle.std.proofs.Common.{◌≡◌, ◌<◌, ◌≤◌, ◌+◌, ◌-◌, ℕ, List, [], ◌∷◌, ◌++◌, map, length, take, drop, get_or, refl, sym, ap, ◌∙◌, arith, append_assoc}
use Rattle.std.proofs.lemmas.List.{take_more, take-append-drop, append-nil}
use Rattle.lutree.specs.declared.expr.Infix.{Infix}
use Rattle.lutree.specs.declared.expr.Infix.TheVariants.{Data, Arrow, FollowedBy}
use Rattle.lutree.specs.declared.expr.Expr.{Expr}
use Rattle.lutree.specs.declared.program.Equation.{Equation}
use Rattle.lutree.specs.Tree.{Tree, EquationTree, ProgramTree, view, views, trees_of, equation_view}
use Rattle.lutree.specs.Tree as tree
use Rattle.lucore_laws.specs.Sizes.{root_size, made_size, all_size, equations_size}
use Rattle.luinside.specs.declared.starts.CallStart.{CallStart}
use Rattle.luinside.specs.Starts.{own_size, starts, all_starts, equation_starts}

module _ (p : ProgramTree) (s : List ℕ) where
  -- what an operator between two operands makes
  pub binary_size : (op : Infix) (a b : Tree) → made_size p s (tree.binary op a b) ≡ made_size p s a + made_size p s b + own_size op
  binary_size (Data op) a b = refl
  binary_size Arrow a b = refl
  binary_size FollowedBy a b = refl

  -- an expression makes its root at least
  pub root_within : (e : Tree) → root_size e ≤ made_size p s e
  root_within (tree.number n) = omega arith
  root_within (tree.truth b) = omega arith
  root_within (tree.label x) = omega arith
  root_within (tree.variable x) = omega arith
  root_within (tree.unary op a) = omega arith
  root_within (tree.binary (Data op) a b) = omega arith
  root_within (tree.binary Arrow a b) = omega arith
  root_within (tree.binary FollowedBy a b) = omega arith
  root_within (tree.choice c a b) = omega arith
  root_within (tree.when a c) = omega arith
  root_within (tree.current x) = omega arith
  root_within (tree.merge c ps all) = omega arith
  root_within (tree.call f all) = omega arith

  -- ARGUMENTS

  abbrev size : List Expr → ℕ
  size es = all_size p s (trees_of (views es))

  abbrev calls : List Expr → ℕ → List CallStart
  calls es = all_starts p s (trees_of (views es))

  size_append : (xs ys : List Expr) → size (xs ++ ys) ≡ size xs + size ys
  size_append [] ys = omega arith
  size_append (x ∷ xs) ys = let e = size_append xs ys in omega (arith, e)

  calls_append : (xs ys : List Expr) (at : ℕ) → calls (xs ++ ys) at ≡ calls xs at ++ calls ys (at + size xs)
  calls_append [] ys at = let z : at ≡ at + 0 = omega arith in ap (calls ys) z
  calls_append (x ∷ xs) ys at =
      let m = made_size p s (view x) in
      let z : at + m + size xs ≡ at + (m + size xs) = omega arith in
      let first = starts p s (view x) at in
      ap (λ l. first ++ l) (calls_append xs ys (at + m)) ∙ ap (λ n. first ++ (calls xs (at + m) ++ calls ys n)) z
      ∙ sym (append_assoc first (calls xs (at + m)) (calls ys (at + (m + size xs))))

  -- after the first i of some arguments
  pub record Pushed (es : List Expr) (i at : ℕ) (old new : List CallStart) (behind : ℕ) : Type 0 where
    pub behind_is : behind ≡ at + size (take i es)
    pub found : new ≡ old ++ calls (take i es) at

  one_more : (es : List Expr) (i : ℕ) (e : Expr) → i < length es → e ≡ get_or es i e → take (i + 1) es ≡ take i es ++ e ∷ []
  one_more es i e lt is = take_more es i e lt ∙ ap (λ x. take i es ++ x ∷ []) (sym is)

  pub size_more : (es : List Expr) (i : ℕ) (e : Expr) → i < length es → e ≡ get_or es i e → size (take (i + 1) es) ≡ size (take i es) + made_size p s (view e)
  size_more es i e lt is =
      let m = made_size p s (view e) in
      let z : size (take i es) + (m + 0) ≡ size (take i es) + m = omega arith in
      ap size (one_more es i e lt is) ∙ size_append (take i es) (e ∷ []) ∙ z

  pub size_within : (es : List Expr) (i : ℕ) → size (take i es) ≤ size es
  size_within es i =
      let e = ap size (take-append-drop i es) in
      let f = size_append (take i es) (drop i es) in
      omega (arith, e, f)

  -- the next one fits
  pub next_fits : (es : List Expr) (i : ℕ) (e : Expr) (at : ℕ) (old new : List CallStart) (behind n : ℕ) → i < length es → e ≡ get_or es i e → Pushed es i at old new behind
      → at + size es ≤ n → behind + made_size p s (view e) ≤ n
  next_fits es i e at old new behind n lt is pushed fits =
      let f = size_more es i e lt is in
      let g = size_within es (i + 1) in
      let b = pushed.behind_is in
      omega (arith, f, g, b, fits)

  pub pushed_none : (es : List Expr) (at : ℕ) (old : List CallStart) → Pushed es 0 at old old at
  pushed_none es at old = record { behind_is = omega arith; found = sym (append-nil old) }

  pub pushed_more : (es : List Expr) (i : ℕ) (e : Expr) (at : ℕ) (old mid new : List CallStart) (behind next : ℕ) → i < length es → e ≡ get_or es i e → Pushed es i at old mid behind
      → next ≡ behind + made_size p s (view e) → new ≡ mid ++ starts p s (view e) behind → Pushed es (i + 1) at old new next
  pushed_more es i e at old mid new behind next lt is pushed then more =
      let f = size_more es i e lt is in
      let b = pushed.behind_is in
      let here = calls (take i es) at in
      record {
        behind_is = omega (arith, f, b, then);
        found = more ∙ ap (λ l. l ++ starts p s (view e) behind) pushed.found ∙ append_assoc old here (starts p s (view e) behind)
            ∙ ap (λ n. old ++ (here ++ starts p s (view e) n)) b
            ∙ sym (ap (λ l. old ++ (here ++ l)) (append-nil (starts p s (view e) (at + size (take i es)))))
            ∙ sym (ap (λ l. old ++ l) (ap (λ xs. calls xs at) (one_more es i e lt is) ∙ calls_append (take i es) (e ∷ []) at));
      }

  -- EQUATIONS

  abbrev inner_size : List Equation → ℕ
  inner_size qs = equations_size p s (map equation_view qs)

  abbrev inner_calls : List Equation → ℕ → List CallStart
  inner_calls qs = equation_starts p s (map equation_view qs)

  abbrev right_size : Equation → ℕ
  right_size q = made_size p s (view q.right) - root_size (view q.right)

  inner_size_append : (xs ys : List Equation) → inner_size (xs ++ ys) ≡ inner_size xs + inner_size ys
  inner_size_append [] ys = omega arith
  inner_size_append (x ∷ xs) ys = let e = inner_size_append xs ys in omega (arith, e)

  inner_calls_append : (xs ys : List Equation) (at : ℕ) → inner_calls (xs ++ ys) at ≡ inner_calls xs at ++ inner_calls ys (at + inner_size xs)
  inner_calls_append [] ys at = let z : at ≡ at + 0 = omega arith in ap (inner_calls ys) z
  inner_calls_append (x ∷ xs) ys at =
      let m = right_size x in
      let z : at + m + inner_size xs ≡ at + (m + inner_size xs) = omega arith in
      let first = starts p s (view x.right) at in
      ap (λ l. first ++ l) (inner_calls_append xs ys (at + m)) ∙ ap (λ n. first ++ (inner_calls xs (at + m) ++ inner_calls ys n)) z
      ∙ sym (append_assoc first (inner_calls xs (at + m)) (inner_calls ys (at + (m + inner_size xs))))

  -- after the first i of some equations
  pub record Passed (qs : List Equation) (i at : ℕ) (found : List CallStart) (behind : ℕ) : Type 0 where
    pub behind_is : behind ≡ at + inner_size (take i qs)
    pub found_is : found ≡ inner_calls (take i qs) at

  one_more_equation : (qs : List Equation) (i : ℕ) (q : Equation) → i < length qs → q ≡ get_or qs i q → take (i + 1) qs ≡ take i qs ++ q ∷ []
  one_more_equation qs i q lt is = take_more qs i q lt ∙ ap (λ x. take i qs ++ x ∷ []) (sym is)

  inner_more : (qs : List Equation) (i : ℕ) (q : Equation) → i < length qs → q ≡ get_or qs i q → inner_size (take (i + 1) qs) ≡ inner_size (take i qs) + right_size q
  inner_more qs i q lt is =
      let z : inner_size (take i qs) + (right_size q + 0) ≡ inner_size (take i qs) + right_size q = omega arith in
      ap inner_size (one_more_equation qs i q lt is) ∙ inner_size_append (take i qs) (q ∷ []) ∙ z

  inner_within : (qs : List Equation) (i : ℕ) → inner_size (take i qs) ≤ inner_size qs
  inner_within qs i =
      let e = ap inner_size (take-append-drop i qs) in
      let f = inner_size_append (take i qs) (drop i qs) in
      omega (arith, e, f)

  pub equation_fits : (qs : List Equation) (i : ℕ) (q : Equation) (at : ℕ) (found : List CallStart) (behind n : ℕ) → i < length qs → q ≡ get_or qs i q → Passed qs i at found behind
      → at + inner_size qs ≤ n → behind + made_size p s (view q.right) ≤ n + 1
  equation_fits qs i q at found behind n lt is passed fits =
      let f = inner_more qs i q lt is in
      let g = inner_within qs (i + 1) in
      let b = passed.behind_is in
      let r = root_within (view q.right) in
      let one = root_small (view q.right) in
      omega (arith, f, g, b, r, one, fits)
    where
      root_small : (e : Tree) → root_size e ≤ 1
      root_small (tree.number n) = omega arith
      root_small (tree.truth b) = omega arith
      root_small (tree.label x) = omega arith
      root_small (tree.variable x) = omega arith
      root_small (tree.unary op a) = omega arith
      root_small (tree.binary op a b) = omega arith
      root_small (tree.choice c a b) = omega arith
      root_small (tree.when a c) = omega arith
      root_small (tree.current x) = omega arith
      root_small (tree.merge c ps all) = omega arith
      root_small (tree.call f all) = omega arith

  pub passed_none : (qs : List Equation) (at : ℕ) → Passed qs 0 at [] at
  passed_none qs at = record { behind_is = omega arith; found_is = refl }

  pub passed_more : (qs : List Equation) (i : ℕ) (q : Equation) (at : ℕ) (mid new : List CallStart) (behind next : ℕ) → i < length qs → q ≡ get_or qs i q → Passed qs i at mid behind
      → next ≡ behind + right_size q → new ≡ mid ++ starts p s (view q.right) behind → Passed qs (i + 1) at new next
  passed_more qs i q at mid new behind next lt is passed then more =
      let f = inner_more qs i q lt is in
      let b = passed.behind_is in
      let here = inner_calls (take i qs) at in
      record {
        behind_is = omega (arith, f, b, then);
        found_is = more ∙ ap (λ l. l ++ starts p s (view q.right) behind) passed.found_is
            ∙ ap (λ n. here ++ starts p s (view q.right) n) b
            ∙ sym (ap (λ l. here ++ l) (append-nil (starts p s (view q.right) (at + inner_size (take i qs)))))
            ∙ sym (ap (λ xs. inner_calls xs at) (one_more_equation qs i q lt is) ∙ inner_calls_append (take i qs) (q ∷ []) at);
      }
