-- The calls of an expression, as they stand in an instance: those of its operands, one behind the other, and its own.
use Rattle.std.proofs.Common.{◌≡◌, ℕ, suc, ◌+◌, List, [], ◌∷◌, ◌++◌, length, Option, refl, sym, ap, ◌∙◌, subst, arith, length-append, append_assoc}
use Rattle.std.proofs.lemmas.List.{append-nil}
use Rattle.lutree.specs.declared.expr.Pattern.{Pattern}
use Rattle.lutree.specs.declared.expr.Condition.{Condition}
use Rattle.lutree.specs.Tree.{Tree, Trees, list_of as trees_in, EquationTree, NodeTree, ProgramTree}
use Rattle.lutree.specs.Tree as tree
use Rattle.luflow.specs.Streams.{Ticks}
use Rattle.lusource.specs.Source.{Named, CallInstance, condition, first_pattern, next_patterns, ticks, calls, values, sites, sites_in, branch_sites, all_sites, left_clock}
use Rattle.lucore_laws.proofs.Each.{Each, each_left, each_right}
use Rattle.lucore_laws.proofs.Spots.{length-sites}
use Rattle.luinside.specs.Parts.{operands, pattern_at, operand_clock, calls_among, rights}
use Rattle.luinside.specs.Owns.{Among, EquationAmong}
use Rattle.luinside.proofs.Operands.{Clocks, later}

module _ (p : ProgramTree) (node : NodeTree) (base : Ticks) (var : Named) (inner : ℕ → Named) where
  abbrev S : Tree → Option Condition → ℕ → List CallInstance
  S = sites p node base var inner

  -- the calls of some operands
  abbrev inner_sites : Clocks → List Tree → ℕ → List CallInstance
  inner_sites kf [] i = []
  inner_sites kf (a ∷ ops) i = S a (kf 0) i ++ inner_sites (later kf) ops (i + calls a)

  -- the call that an expression is itself
  abbrev pub own_sites : Tree → Option Condition → ℕ → List CallInstance
  own_sites (tree.number n) k i = []
  own_sites (tree.truth b) k i = []
  own_sites (tree.label x) k i = []
  own_sites (tree.variable x) k i = []
  own_sites (tree.unary op a) k i = []
  own_sites (tree.binary op a b) k i = []
  own_sites (tree.choice c a b) k i = []
  own_sites (tree.when a c) k i = []
  own_sites (tree.current x) k i = []
  own_sites (tree.merge c ps all) k i = []
  own_sites (tree.call f all) k i = record { node = f; base = ticks base var k; arguments = values p node base var inner all k i } ∷ []

  one_site : (xs : List CallInstance) → xs ≡ (xs ++ []) ++ []
  one_site xs = sym (append-nil (xs ++ []) ∙ append-nil xs)

  two_sites : (xs ys : List CallInstance) → xs ++ ys ≡ (xs ++ (ys ++ [])) ++ []
  two_sites xs ys = sym (append-nil (xs ++ (ys ++ [])) ∙ ap (λ l. xs ++ l) (append-nil ys))

  three_sites : (xs ys zs : List CallInstance) → xs ++ (ys ++ zs) ≡ (xs ++ (ys ++ (zs ++ []))) ++ []
  three_sites xs ys zs = sym (append-nil (xs ++ (ys ++ (zs ++ []))) ∙ ap (λ l. xs ++ (ys ++ l)) (append-nil zs))

  all_are : (all : Trees) (k : Option Condition) (i : ℕ) → sites_in p node base var inner all k i ≡ inner_sites (λ n. k) (trees_in all) i
  all_are tree.none k i = refl
  all_are (tree.more a all) k i = ap (λ l. S a k i ++ l) (all_are all k (i + calls a))

  branches_are : (c : List ℕ) (ps : List Pattern) (all : Trees) (i : ℕ) → branch_sites p node base var inner c ps all i ≡ inner_sites (λ n. condition c (pattern_at ps n)) (trees_in all) i
  branches_are c ps tree.none i = refl
  branches_are c ps (tree.more a all) i = ap (λ l. S a (condition c (first_pattern ps)) i ++ l) (branches_are c (next_patterns ps) all (i + calls a))

  sites_are : (e : Tree) (k : Option Condition) (i : ℕ) → S e k i ≡ inner_sites (operand_clock node e k) (operands e) i ++ own_sites e k i
  sites_are (tree.number n) k i = refl
  sites_are (tree.truth b) k i = refl
  sites_are (tree.label x) k i = refl
  sites_are (tree.variable x) k i = refl
  sites_are (tree.unary op a) k i = one_site (S a k i)
  sites_are (tree.binary op a b) k i = two_sites (S a k i) (S b k (i + calls a))
  sites_are (tree.choice c a b) k i = three_sites (S c k i) (S a k (i + calls c)) (S b k (i + calls c + calls a))
  sites_are (tree.when a c) k i = one_site (S (tree.when a c) k i)
  sites_are (tree.current x) k i = refl
  sites_are (tree.merge c ps all) k i = branches_are c ps all i ∙ sym (append-nil (inner_sites (λ n. condition c (pattern_at ps n)) (trees_in all) i))
  sites_are (tree.call f all) k i = ap (λ l. l ++ own_sites (tree.call f all) k i) (all_are all k i)

  sites_long : (kf : Clocks) (ops : List Tree) (i : ℕ) → length (inner_sites kf ops i) ≡ calls_among ops
  sites_long kf [] i = refl
  sites_long kf (a ∷ ops) i =
      let h = length-sites p node base var inner a (kf 0) i in
      let r = sites_long (later kf) ops (i + calls a) in
      omega (arith, h, r, length-append (S a (kf 0) i) (inner_sites (later kf) ops (i + calls a)))

  split_sites : (kf : Clocks) (front : List Tree) (a : Tree) (back : List Tree) (i : ℕ)
      → (rest : List CallInstance) × (inner_sites kf (front ++ a ∷ back) i ≡ inner_sites kf front i ++ (S a (kf (length front)) (i + calls_among front) ++ rest))
  split_sites kf [] a back i =
      let z : i ≡ i + 0 = omega arith in
      let rest = inner_sites (later kf) back (i + calls a) in
      (rest, ap (λ n. S a (kf 0) n ++ rest) z)
  split_sites kf (x ∷ front) a back i =
      let deep = split_sites (later kf) front a back (i + calls x) in
      let z : i + calls x + calls_among front ≡ i + (calls x + calls_among front) = omega arith in
      let here = S x (kf 0) i in
      let F = inner_sites (later kf) front (i + calls x) in
      let at = λ (n : ℕ). S a (kf (suc (length front))) n ++ deep.0 in
      (deep.0, ap (λ l. here ++ l) deep.1 ∙ ap (λ n. here ++ (F ++ at n)) z ∙ sym (append_assoc here F (at (i + (calls x + calls_among front)))))

  -- what each call of an expression has, each of an operand has
  pub each_operand_site : (P : ℕ → CallInstance → Type 0) (e : Tree) (k : Option Condition) (i n : ℕ) (x : Among (operands e) n) → Each P i (S e k i)
      → Each P (i + calls_among x.front) (S x.operand (operand_clock node e k n) (i + calls_among x.front))
  each_operand_site P e k i n x h =
      let kf = operand_clock node e k in
      let F = inner_sites kf x.front i in
      let split = split_sites kf x.front x.operand x.back i in
      let at = i + calls_among x.front in
      let T = S x.operand (kf n) at in
      let are = ap (λ l. inner_sites kf l i) x.are ∙ split.1 ∙ ap (λ n. F ++ (S x.operand (kf n) at ++ split.0)) (sym x.number) in
      let whole = subst (Each P i) (sites_are e k i ∙ ap (λ l. l ++ own_sites e k i) are) h in
      let behind = each_right P i F (T ++ split.0) (each_left P i (F ++ (T ++ split.0)) (own_sites e k i) whole) in
      subst (λ n. Each P n T) (ap (λ n. i + n) (sites_long kf x.front i)) (each_left P (i + length F) T split.0 behind)

  pub each_own_site : (P : ℕ → CallInstance → Type 0) (e : Tree) (k : Option Condition) (i : ℕ) → Each P i (S e k i) → Each P (i + calls_among (operands e)) (own_sites e k i)
  each_own_site P e k i h =
      let kf = operand_clock node e k in
      let F = inner_sites kf (operands e) i in
      subst (λ n. Each P n (own_sites e k i)) (ap (λ n. i + n) (sites_long kf (operands e) i)) (each_right P i F (own_sites e k i) (subst (Each P i) (sites_are e k i) h))

  -- EQUATIONS

  abbrev A : List EquationTree → ℕ → List CallInstance
  A = all_sites p node base var inner

  abbrev clock_of_left : EquationTree → Option Condition
  clock_of_left = left_clock p node base var inner

  split_equations : (front : List EquationTree) (q : EquationTree) (back : List EquationTree) (i : ℕ)
      → (rest : List CallInstance) × (A (front ++ q ∷ back) i ≡ A front i ++ (S q.right (clock_of_left q) (i + calls_among (rights front)) ++ rest))
  split_equations [] q back i =
      let z : i ≡ i + 0 = omega arith in
      let rest = A back (i + calls q.right) in
      (rest, ap (λ n. S q.right (clock_of_left q) n ++ rest) z)
  split_equations (x ∷ front) q back i =
      let deep = split_equations front q back (i + calls x.right) in
      let z : i + calls x.right + calls_among (rights front) ≡ i + (calls x.right + calls_among (rights front)) = omega arith in
      let here = S x.right (clock_of_left x) i in
      let F = A front (i + calls x.right) in
      let at = λ (n : ℕ). S q.right (clock_of_left q) n ++ deep.0 in
      (deep.0, ap (λ l. here ++ l) deep.1 ∙ ap (λ n. here ++ (F ++ at n)) z ∙ sym (append_assoc here F (at (i + (calls x.right + calls_among (rights front))))))

  equations_long : (qs : List EquationTree) (i : ℕ) → length (A qs i) ≡ calls_among (rights qs)
  equations_long [] i = refl
  equations_long (q ∷ qs) i =
      let h = length-sites p node base var inner q.right (clock_of_left q) i in
      let r = equations_long qs (i + calls q.right) in
      omega (arith, h, r, length-append (S q.right (clock_of_left q) i) (A qs (i + calls q.right)))

  pub each_equation_site : (P : ℕ → CallInstance → Type 0) (qs : List EquationTree) (j : ℕ) (x : EquationAmong qs j) → Each P 0 (A qs 0)
      → Each P (calls_among (rights x.front)) (S x.equation.right (clock_of_left x.equation) (calls_among (rights x.front)))
  each_equation_site P qs j x h =
      let F = A x.front 0 in
      let n = calls_among (rights x.front) in
      let split = split_equations x.front x.equation x.back 0 in
      let z : 0 + n ≡ n = omega arith in
      let T = S x.equation.right (clock_of_left x.equation) n in
      let are = ap (λ l. A l 0) x.are ∙ split.1 ∙ ap (λ m. F ++ (S x.equation.right (clock_of_left x.equation) m ++ split.0)) z in
      let behind = each_right P 0 F (T ++ split.0) (subst (Each P 0) are h) in
      let y : 0 + length F ≡ n = (let l = equations_long x.front 0 in omega (arith, l)) in
      subst (λ n. Each P n T) y (each_left P (0 + length F) T split.0 behind)
