-- What stands at a place of a node's list: the flow of a variable, or an inner flow of an equation.
use Rattle.std.proofs.Common.{◌≡◌, ℕ, suc, ◌+◌, ◌-◌, ◌<◌, true, cond, List, [], ◌∷◌, ◌++◌, length, take, Option, Some, None, refl, sym, ap, ◌∙◌, subst, arith, length-append, append_assoc}
use Rattle.std.specs.Prelude.{slice_get}
use Rattle.lutree.specs.declared.expr.Condition.{Condition}
use Rattle.lutree.specs.declared.expr.Prefix.TheVariants.{Data as Data1, Pre as Before}
use Rattle.lutree.specs.declared.expr.Infix.TheVariants.{Data as Data2, Arrow as Starts, FollowedBy}
use Rattle.lutree.specs.Tree.{Tree, EquationTree, NodeTree, ProgramTree}
use Rattle.lutree.specs.Tree as tree
use Rattle.luflow.specs.declared.form.Flow.{Flow}
use Rattle.lusource.specs.Names.{place_of}
use Rattle.lucore_laws.specs.Layout.{made, root_flows, walk, walk_right, left_clock, root_flow, inner_flows, variable_flow, variable_count, node_flows}
use Rattle.lucore_laws.specs.Sizes.{root_size, made_size, equations_size}
use Rattle.lucore_laws.proofs.Each.{Each, each_left, each_right}
use Rattle.lucore_laws.proofs.Names.{get-front, get-behind}
use Rattle.lucore_laws.proofs.Roots.{front, parts, length-front}
use Rattle.lucore_laws.proofs.Spots.{Spot, spots, equation_spots, length-spots}
use Rattle.luinside.specs.Parts.{calls_among, rights}
use Rattle.luinside.specs.Owns.{EquationAmong, is_defined, NoneDefines}
use Rattle.lueval.specs.Reads.{form_reads}
use Rattle.luinside.specs.Reads.{expression_reads}
use Rattle.luinside.proofs.Operands.{own_at, root_same}
use Rattle.luinside.proofs.Descent.{Counted, made_is}
use Rattle.luinside.proofs.Finding.{inner_long, own_reads}

abbrev pub AllEquations : (EquationTree → Type 0) → List EquationTree → Type 0
AllEquations P [] = Unit {0}
AllEquations P (q ∷ qs) = P q × AllEquations P qs

pub equations_all : (P : EquationTree → Type 0) (qs : List EquationTree) → ((j : ℕ) (q : EquationTree) → slice_get qs j ≡ Some q → P q) → AllEquations P qs
equations_all P [] h = tt
equations_all P (q ∷ qs) h = (h 0 q refl, equations_all P qs (λ j q e. h (suc j) q e))

pub equations_front : (P : EquationTree → Type 0) (xs ys : List EquationTree) → AllEquations P (xs ++ ys) → AllEquations P xs
equations_front P [] ys h = tt
equations_front P (x ∷ xs) ys h = (h.0, equations_front P xs ys h.1)

take_equations : (xs ys : List EquationTree) → take (length xs) (xs ++ ys) ≡ xs
take_equations [] ys = refl
take_equations (x ∷ xs) ys = ap (λ l. x ∷ l) (take_equations xs ys)

-- an equation among others, by its number
pub equation_there : (qs : List EquationTree) (j : ℕ) (x : EquationAmong qs j) → slice_get qs j ≡ Some x.equation
equation_there qs j x =
    let e = x.number in
    let z : j ≡ length x.front + 0 = omega (arith, e) in
    ap (λ l. slice_get l j) x.are ∙ ap (slice_get (x.front ++ x.equation ∷ x.back)) z ∙ get-behind x.front (x.equation ∷ x.back) (length x.front) 0 refl

pub equations_before : (qs : List EquationTree) (j : ℕ) (x : EquationAmong qs j) → take j qs ≡ x.front
equations_before qs j x =
    ap (take j) x.are ∙ ap (λ n. take n (x.front ++ x.equation ∷ x.back)) x.number ∙ take_equations x.front (x.equation ∷ x.back)

module _ (p : ProgramTree) (lists : List (List Flow)) (node : NodeTree) (sizes : List ℕ) (sized : (a : Tree) (k : Option Condition) (s : ℕ) → Counted p lists node sizes a → length (made (walk p lists node a k s)) ≡ made_size p sizes a) where
  abbrev C : Tree → Type 0
  C = Counted p lists node sizes

  abbrev R : EquationTree → ℕ → List Flow
  R q s = (walk_right p lists node q s).inner

  -- the place behind the inner flows of some equations
  abbrev end : List EquationTree → ℕ → ℕ
  end [] s = s
  end (q ∷ qs) s = end qs (s + length (R q s))

  split_inner : (front : List EquationTree) (q : EquationTree) (back : List EquationTree) (s : ℕ)
      → (rest : List Flow) × (inner_flows p lists node (front ++ q ∷ back) s ≡ inner_flows p lists node front s ++ (R q (end front s) ++ rest))
  split_inner [] q back s = (inner_flows p lists node back (s + length (R q s)), refl)
  split_inner (x ∷ front) q back s =
      let S = s + length (R x s) in
      let deep = split_inner front q back S in
      (deep.0, ap (λ l. R x s ++ l) deep.1 ∙ sym (append_assoc (R x s) (inner_flows p lists node front S) (R q (end front S) ++ deep.0)))

  split_spots : (front : List EquationTree) (q : EquationTree) (back : List EquationTree) (s : ℕ)
      → (rest : List Spot) × (equation_spots p lists node (front ++ q ∷ back) s ≡ equation_spots p lists node front s ++ (spots p lists node q.right (left_clock p lists node q) (end front s) ++ rest))
  split_spots [] q back s = (equation_spots p lists node back (s + length (R q s)), refl)
  split_spots (x ∷ front) q back s =
      let S = s + length (R x s) in
      let here = spots p lists node x.right (left_clock p lists node x) s in
      let deep = split_spots front q back S in
      (deep.0, ap (λ l. here ++ l) deep.1 ∙ sym (append_assoc here (equation_spots p lists node front S) (spots p lists node q.right (left_clock p lists node q) (end front S) ++ deep.0)))

  split_variable : (x : List ℕ) (front : List EquationTree) (q : EquationTree) (back : List EquationTree) (s : ℕ) → NoneDefines x front → is_defined x q ≡ true
      → variable_flow p lists node (front ++ q ∷ back) s x ≡ root_flow p lists node q (walk_right p lists node q (end front s)).root (place_of q.left x) x
  split_variable x [] q back s none is =
      ap (λ b. cond b (root_flow p lists node q (walk_right p lists node q s).root (place_of q.left x) x) (variable_flow p lists node back (s + length (R q s)) x)) is
  split_variable x (y ∷ front) q back s none is =
      let S = s + length (R y s) in
      ap (λ b. cond b (root_flow p lists node y (walk_right p lists node y s).root (place_of y.left x) x) (variable_flow p lists node (front ++ q ∷ back) S x)) none.0 ∙ split_variable x front q back S none.1 is

  -- a variable that no equation defines
  pub nowhere : (x : List ℕ) (qs : List EquationTree) (s : ℕ) → NoneDefines x qs → form_reads (variable_flow p lists node qs s x).form ≡ None
  nowhere x [] s none = refl
  nowhere x (q ∷ qs) s none =
      let S = s + length (R q s) in
      ap (λ b. form_reads (cond b (root_flow p lists node q (walk_right p lists node q s).root (place_of q.left x) x) (variable_flow p lists node qs S x)).form) none.0 ∙ nowhere x qs S none.1

  abbrev CQ : EquationTree → Type 0
  CQ q = C q.right

  end_is : (qs : List EquationTree) (s : ℕ) → end qs s ≡ s + length (inner_flows p lists node qs s)
  end_is [] s = omega arith
  end_is (q ∷ qs) s =
      let S = s + length (R q s) in
      let e = end_is qs S in
      omega (arith, e, length-append (R q s) (inner_flows p lists node qs S))

  pub inner_size : (qs : List EquationTree) (s : ℕ) → AllEquations CQ qs → length (inner_flows p lists node qs s) ≡ equations_size p sizes qs
  inner_size [] s h = refl
  inner_size (q ∷ qs) s h =
      let S = s + length (R q s) in
      let l = inner_long p lists node sizes sized q.right (left_clock p lists node q) s h.0 in
      let r = inner_size qs S h.1 in
      omega (arith, l, r, length-append (R q s) (inner_flows p lists node qs S))

  spots_size : (qs : List EquationTree) (s : ℕ) → length (equation_spots p lists node qs s) ≡ calls_among (rights qs)
  spots_size [] s = refl
  spots_size (q ∷ qs) s =
      let S = s + length (R q s) in
      let k = left_clock p lists node q in
      let l = length-spots p lists node q.right k s in
      let r = spots_size qs S in
      omega (arith, l, r, length-append (spots p lists node q.right k s) (equation_spots p lists node qs S))

  abbrev nv : ℕ
  nv = variable_count p lists node

  module _ (all : AllEquations CQ node.equations) (j : ℕ) (x : EquationAmong node.equations j) where
    -- where the flows of the equation's right side begin, and how many calls stand before
    abbrev pub begins : ℕ
    begins = nv + equations_size p sizes x.front

    abbrev pub before : ℕ
    before = calls_among (rights x.front)

    abbrev pub clock : Option Condition
    clock = left_clock p lists node x.equation

    abbrev pub right : List Flow
    right = (walk p lists node x.equation.right clock begins).inner

    counted_front : AllEquations CQ x.front
    counted_front = equations_front CQ x.front (x.equation ∷ x.back) (subst (AllEquations CQ) x.are all)

    ends_at : end x.front nv ≡ begins
    ends_at =
        let e = end_is x.front nv in
        let l = inner_size x.front nv counted_front in
        omega (arith, e, l)

    inner_are : (rest : List Flow) × (inner_flows p lists node node.equations nv ≡ inner_flows p lists node x.front nv ++ (right ++ rest))
    inner_are =
        let split = split_inner x.front x.equation x.back nv in
        let F = inner_flows p lists node x.front nv in
        (split.0, ap (λ qs. inner_flows p lists node qs nv) x.are ∙ split.1 ∙ ap (λ s. F ++ (R x.equation s ++ split.0)) ends_at)

    -- what stands at a place of the equation's inner flows
    pub inner_at : (i : ℕ) → i < length right → slice_get (node_flows p lists node) (begins + i) ≡ slice_get (made (walk p lists node x.equation.right clock begins)) i
    inner_at i lt =
        let split = inner_are in
        let F = inner_flows p lists node x.front nv in
        let l = inner_size x.front nv counted_front in
        let n = equations_size p sizes x.front in
        let z : nv + n + i ≡ nv + (n + i) = omega arith in
        let w = walk p lists node x.equation.right clock begins in
        ap (λ l. slice_get l (begins + i)) (parts p lists node) ∙ ap (slice_get (front p lists node ++ inner_flows p lists node node.equations nv)) z
        ∙ get-behind (front p lists node) (inner_flows p lists node node.equations nv) nv (n + i) (length-front p lists node)
        ∙ ap (λ l. slice_get l (n + i)) split.1 ∙ get-behind F (right ++ split.0) n i l ∙ get-front right split.0 i lt ∙ sym (get-front right (root_flows w.root) i lt)

    pub each_inner : (P : ℕ → Flow → Type 0) → Each P nv (inner_flows p lists node node.equations nv) → Each P begins right
    each_inner P h =
        let split = inner_are in
        let F = inner_flows p lists node x.front nv in
        let behind = each_right P nv F (right ++ split.0) (subst (Each P nv) split.1 h) in
        subst (λ n. Each P n right) (ap (λ n. nv + n) (inner_size x.front nv counted_front)) (each_left P (nv + length F) right split.0 behind)

    pub each_spots : (P : ℕ → Spot → Type 0) → Each P 0 (equation_spots p lists node node.equations nv) → Each P before (spots p lists node x.equation.right clock begins)
    each_spots P h =
        let split = split_spots x.front x.equation x.back nv in
        let S = equation_spots p lists node x.front nv in
        let T = spots p lists node x.equation.right clock begins in
        let are = ap (λ qs. equation_spots p lists node qs nv) x.are ∙ split.1 ∙ ap (λ s. S ++ (spots p lists node x.equation.right clock s ++ split.0)) ends_at in
        let behind = each_right P 0 S (T ++ split.0) (subst (Each P 0) are h) in
        let z : 0 + length S ≡ before = (let l = spots_size x.front nv in omega (arith, l)) in
        subst (λ n. Each P n T) z (each_left P (0 + length S) T split.0 behind)

    -- the flow of a variable that the equation defines
    pub variable_at : (y : List ℕ) → NoneDefines y x.front → is_defined y x.equation ≡ true
        → variable_flow p lists node node.equations nv y ≡ root_flow p lists node x.equation (walk p lists node x.equation.right clock begins).root (place_of x.equation.left y) y
    variable_at y none is =
        ap (λ qs. variable_flow p lists node qs nv y) x.are ∙ split_variable y x.front x.equation x.back nv none is
        ∙ ap (λ s. root_flow p lists node x.equation (walk_right p lists node x.equation s).root (place_of x.equation.left y) y) ends_at

  -- what a root reads, whose operands end before b
  pub root_reads : (q : EquationTree) (e : Tree) (k : Option Condition) (s b n : ℕ) (y : List ℕ) → C e → b ≡ s + (made_size p sizes e - root_size e) → form_reads (root_flow p lists node q (walk p lists node e k s).root n y).form ≡ expression_reads p sizes node e b
  root_reads q e k s b n y counted is =
      ap (λ r. form_reads (root_flow p lists node q r n y).form) (root_same p lists node e k s) ∙ go e counted is
    where
      go : (e : Tree) → C e → b ≡ s + (made_size p sizes e - root_size e) → form_reads (root_flow p lists node q (own_at p lists node e k s).root n y).form ≡ expression_reads p sizes node e b
      go (tree.number m) h is = refl
      go (tree.truth v) h is = refl
      go (tree.label x) h is = refl
      go (tree.variable x) h is = refl
      go (tree.unary (Data1 op) a) h is =
          let m = made_is p sizes (tree.unary (Data1 op) a) in
          own_reads p lists node sizes sized (tree.unary (Data1 op) a) k s 0 b h tt (omega arith) (omega (arith, is, m))
      go (tree.unary Before a) h is = refl
      go (tree.binary (Data2 op) a c) h is =
          let m = made_is p sizes (tree.binary (Data2 op) a c) in
          own_reads p lists node sizes sized (tree.binary (Data2 op) a c) k s 0 b h tt (omega arith) (omega (arith, is, m))
      go (tree.binary Starts a c) h is = refl
      go (tree.binary FollowedBy a c) h is = refl
      go (tree.choice c a d) h is = refl
      go (tree.when a c) h is = refl
      go (tree.current x) h is = refl
      go (tree.merge c ps all) h is = refl
      go (tree.call f all) h is = refl
