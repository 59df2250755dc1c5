-- The counts of expressions and equations in memory.
use Rattle.std.proofs.Common.{◌≡◌, ◌<◌, ◌+◌, ◌-◌, ℕ, List, [], ◌∷◌, ◌++◌, map, length, take, get_or, sym, ap, subst, ◌∙◌, arith}
use Rattle.std.specs.Prelude.{Box}
use Rattle.std.specs.Global.{Global}
use Rattle.std.proofs.lemmas.List.{take_more}
use Rattle.lutree.specs.declared.expr.Expr.{Expr}
use Rattle.lutree.specs.declared.expr.Expr.TheVariants as variant
use Rattle.lutree.specs.declared.program.Equation.{Equation}
use Rattle.lutree.specs.Tree.{Tree, EquationTree, ProgramTree, view, views, trees_of, equation_view}
use Rattle.lutree.specs.Tree as tree
use Rattle.lucore_laws.specs.Sizes.{root_size, made_size, all_size, equations_size}
use Rattle.lucore_build.specs.Counted.{capped}
use Rattle.lucore_build.proofs.Capped.{capped_left, summed}
use Rattle.lucore_build.proofs.Alike.{inside, made_is, inside_is}

module _ (p : ProgramTree) (s : List ℕ) where
  -- the inner flows and the root
  pub rooted : (e : Tree) (x y : ℕ) → x ≡ capped (made_size p s e - root_size e) → y ≡ capped (x + root_size e) → y ≡ capped (made_size p s e)
  rooted e x y is rest =
      rest ∙ ap (λ x. capped (x + root_size e)) is ∙ capped_left (made_size p s e - root_size e) (root_size e)
      ∙ ap (λ n. capped (n + root_size e)) (inside_is p s e) ∙ sym (ap capped (made_is p s e))

  -- an operand, lent twice
  pub operand : (a d g : Expr) (x y : ℕ) → d ≡ a → g ≡ a → x ≡ capped (made_size p s (view d) - root_size (view d)) → y ≡ capped (x + root_size (view g)) →
      y ≡ capped (made_size p s (view a))
  operand a d g x y e f is rest =
      rooted (view a) x y (subst (λ e. x ≡ capped (made_size p s (view e) - root_size (view e))) e is) (subst (λ e. y ≡ capped (x + root_size (view e))) f rest)

  -- what the count of inner flows is to be
  pub inner_of : (e t : Tree) (x : ℕ) → e ≡ t → x ≡ capped (inside p s t) → x ≡ capped (made_size p s e - root_size e)
  inner_of e t x same is = is ∙ sym (ap capped (inside_is p s t)) ∙ sym (ap (λ e. capped (made_size p s e - root_size e)) same)

  -- ARGUMENTS

  all_append : (xs ys : List Expr) → all_size p s (trees_of (views (xs ++ ys))) ≡ all_size p s (trees_of (views xs)) + all_size p s (trees_of (views ys))
  all_append [] ys = let n = all_size p s (trees_of (views ys)) in let z : n ≡ 0 + n = omega arith in z
  all_append (x ∷ xs) ys =
      let m = made_size p s (view x) in
      let a = all_size p s (trees_of (views xs)) in
      let b = all_size p s (trees_of (views ys)) in
      let z : m + (a + b) ≡ m + a + b = omega arith in
      ap (λ n. m + n) (all_append xs ys) ∙ z

  pub argument_counted : (es : List Expr) (i : ℕ) (e : Expr) (x y z : ℕ) → i < length es → e ≡ get_or es i e →
      x ≡ capped (all_size p s (trees_of (views (take i es)))) → y ≡ capped (made_size p s (view e)) → z ≡ capped (x + y) →
      z ≡ capped (all_size p s (trees_of (views (take (i + 1) es))))
  argument_counted es i e x y z lt is before now sum =
      let first = all_size p s (trees_of (views (take i es))) in
      let m = made_size p s (view (get_or es i e)) in
      let last : first + (m + 0) ≡ first + m = omega arith in
      let one = sym (all_append (take i es) (get_or es i e ∷ []) ∙ last) in
      summed x y z first (made_size p s (view e)) before now sum ∙ ap (λ e. capped (first + made_size p s (view e))) is ∙ ap capped one
      ∙ sym (ap (λ xs. capped (all_size p s (trees_of (views xs)))) (take_more es i e lt))

  -- EQUATIONS

  abbrev right_size : Equation → ℕ
  right_size q = made_size p s (view q.right) - root_size (view q.right)

  equations_append : (xs ys : List Equation) → equations_size p s (map equation_view (xs ++ ys)) ≡ equations_size p s (map equation_view xs) + equations_size p s (map equation_view ys)
  equations_append [] ys = let n = equations_size p s (map equation_view ys) in let z : n ≡ 0 + n = omega arith in z
  equations_append (x ∷ xs) ys =
      let r = right_size x in
      let a = equations_size p s (map equation_view xs) in
      let b = equations_size p s (map equation_view ys) in
      let z : r + (a + b) ≡ r + a + b = omega arith in
      ap (λ n. r + n) (equations_append xs ys) ∙ z

  pub equation_counted : (v : ℕ) (qs : List Equation) (i : ℕ) (q : Equation) (x y z : ℕ) → i < length qs → q ≡ get_or qs i q →
      x ≡ capped (v + equations_size p s (map equation_view (take i qs))) → y ≡ capped (right_size q) → z ≡ capped (x + y) →
      z ≡ capped (v + equations_size p s (map equation_view (take (i + 1) qs)))
  equation_counted v qs i q x y z lt is before now sum =
      let first = equations_size p s (map equation_view (take i qs)) in
      let r = right_size (get_or qs i q) in
      let more = equations_append (take i qs) (get_or qs i q ∷ []) in
      let joined : v + first + r ≡ v + (first + (r + 0)) = omega arith in
      summed x y z (v + first) (right_size q) before now sum ∙ ap (λ q. capped (v + first + right_size q)) is ∙ ap capped joined
      ∙ sym (ap (λ n. capped (v + n)) more)
      ∙ sym (ap (λ xs. capped (v + equations_size p s (map equation_view xs))) (take_more qs i q lt))
