-- What the walk of an expression has, those of its operands have where they stand, and so have its own flows.
use Rattle.std.proofs.Common.{◌≡◌, ℕ, ◌+◌, ◌<◌, ◌≤◌, List, [], ◌∷◌, ◌++◌, length, take, Option, Some, refl, sym, ap, ◌∙◌, subst, arith, length-append}
use Rattle.std.specs.Prelude.{slice_get, All, option_and_then}
use Rattle.lutree.specs.declared.expr.Condition.{Condition}
use Rattle.lutree.specs.declared.expr.Infix.TheVariants.{Data as Data2, Arrow as Starts, FollowedBy}
use Rattle.lutree.specs.Tree.{Tree, Trees, list_of as trees_in, NodeTree, ProgramTree}
use Rattle.lutree.specs.Tree as tree
use Rattle.luflow.specs.declared.form.Flow.{Flow}
use Rattle.lusource.specs.Source.{calls, calls_in}
use Rattle.lustat_rules.specs.Naming as naming
use Rattle.lustat_rules.specs.Naming.{Call}
use Rattle.lucore_laws.specs.Layout.{made, list_of, walk}
use Rattle.lucore_laws.specs.Sizes.{size_of, made_size, all_size}
use Rattle.lucore_laws.proofs.Each.{Each, each_left, each_right}
use Rattle.lucore_laws.proofs.Names.{all_left, all_right, get-front, get-behind}
use Rattle.lucore_laws.proofs.Spots.{Spot, spots, length-spots}
use Rattle.lucore_laws.proofs.Well.{IsWell, AllWell}
use Rattle.luinside.specs.Parts.{operands, operand_clock, calls_among, Part, into, part_at}
use Rattle.luinside.specs.Owns.{Among, own_calls, own_size, sum_made, IsOwn}
use Rattle.luinside.proofs.Operands.{Clocks, later, flows_each, end_each, inner_spots, split_flows, split_spots, end_is, own_spots, own_at, inner_parts, made_parts, spots_parts}

-- SOME EXPRESSIONS

abbrev pub AllOf : (Tree → Type 0) → List Tree → Type 0
AllOf P [] = Unit {0}
AllOf P (a ∷ all) = P a × AllOf P all

pub of_front : (P : Tree → Type 0) (xs ys : List Tree) → AllOf P (xs ++ ys) → AllOf P xs
of_front P [] ys h = tt
of_front P (x ∷ xs) ys h = (h.0, of_front P xs ys h.1)

pub of_middle : (P : Tree → Type 0) (xs : List Tree) (a : Tree) (ys : List Tree) → AllOf P (xs ++ a ∷ ys) → P a
of_middle P [] a ys h = h.0
of_middle P (x ∷ xs) a ys h = of_middle P xs a ys h.1

-- what the calls of an expression have, those of its operands have
module _ (P : Call → Type 0) where
  abbrev pub CallsHave : Tree → Type 0
  CallsHave e = All P (naming.calls_in e)

  all_have : (all : Trees) → All P (naming.calls_in_all all) → AllOf CallsHave (trees_in all)
  all_have tree.none h = tt
  all_have (tree.more a all) h =
      (all_left P (naming.calls_in a) (naming.calls_in_all all) h, all_have all (all_right P (naming.calls_in a) (naming.calls_in_all all) h))

  pub operands_have : (e : Tree) → CallsHave e → AllOf CallsHave (operands e)
  operands_have (tree.number n) h = tt
  operands_have (tree.truth b) h = tt
  operands_have (tree.label x) h = tt
  operands_have (tree.variable x) h = tt
  operands_have (tree.unary op a) h = (h, tt)
  operands_have (tree.binary op a b) h = (all_left P (naming.calls_in a) (naming.calls_in b) h, (all_right P (naming.calls_in a) (naming.calls_in b) h, tt))
  operands_have (tree.choice c a b) h =
      let rest = all_right P (naming.calls_in c) (naming.calls_in a ++ naming.calls_in b) h in
      (all_left P (naming.calls_in c) (naming.calls_in a ++ naming.calls_in b) h, (all_left P (naming.calls_in a) (naming.calls_in b) rest, (all_right P (naming.calls_in a) (naming.calls_in b) rest, tt)))
  operands_have (tree.when a c) h = (h, tt)
  operands_have (tree.current x) h = tt
  operands_have (tree.merge c ps all) h = all_have all h
  operands_have (tree.call f all) h =
      let c : Call = record { node = f; arguments = length (trees_in all) } in
      all_have all (all_left P (naming.calls_in_all all) (c ∷ []) h)

-- and what is well formed has operands that are
module _ (p : ProgramTree) (node : NodeTree) (Below : List ℕ → Type 0) where
  abbrev pub WellOne : Tree → Type 0
  WellOne a = IsWell p node Below a 1

  all_wells : (all : Trees) → AllWell p node Below all → AllOf WellOne (trees_in all)
  all_wells tree.none h = tt
  all_wells (tree.more a all) h = (h.0, all_wells all h.1)

  pub wells : (e : Tree) (w : ℕ) → IsWell p node Below e w → AllOf WellOne (operands e)
  wells (tree.number n) w h = tt
  wells (tree.truth b) w h = tt
  wells (tree.label x) w h = tt
  wells (tree.variable x) w h = tt
  wells (tree.unary op a) w h = (h, tt)
  wells (tree.binary op a b) w h = (h.0, (h.1, tt))
  wells (tree.choice c a b) w h = (h.0, (h.1, (h.2, tt)))
  wells (tree.when a c) w h = (h.1, tt)
  wells (tree.current x) w h = tt
  wells (tree.merge c ps all) w h = all_wells all h.1
  wells (tree.call f all) w h = all_wells all h.1

-- SIZES AND CALLS

module _ (p : ProgramTree) (sizes : List ℕ) where
  all_made : (all : Trees) → all_size p sizes all ≡ sum_made p sizes (trees_in all)
  all_made tree.none = refl
  all_made (tree.more a all) = ap (λ n. made_size p sizes a + n) (all_made all)

  -- an expression makes what its operands make, and its own flows
  pub made_is : (e : Tree) → made_size p sizes e ≡ sum_made p sizes (operands e) + own_size p sizes e
  made_is (tree.number n) = omega arith
  made_is (tree.truth b) = omega arith
  made_is (tree.label x) = omega arith
  made_is (tree.variable x) = omega arith
  made_is (tree.unary op a) = omega arith
  made_is (tree.binary (Data2 op) a b) = omega arith
  made_is (tree.binary Starts a b) = omega arith
  made_is (tree.binary FollowedBy a b) = omega arith
  made_is (tree.choice c a b) = omega arith
  made_is (tree.when a c) = omega arith
  made_is (tree.current x) = omega arith
  made_is (tree.merge c ps all) = ap (λ n. n + 1) (all_made all)
  made_is (tree.call f all) = ap (λ n. n + size_of p sizes f) (all_made all)

  pub sum_append : (xs ys : List Tree) → sum_made p sizes (xs ++ ys) ≡ sum_made p sizes xs + sum_made p sizes ys
  sum_append [] ys = omega arith
  sum_append (x ∷ xs) ys = let e = sum_append xs ys in omega (arith, e)

  -- the target is among the flows of the whole expression
  pub own_inside : (target : ℕ) (rest : List ℕ) (e : Tree) (s i : ℕ) (f : Tree) (b c : ℕ) → IsOwn p sizes target e s i rest f b c → (s ≤ target) × (target < s + made_size p sizes e)
  own_inside target [] e s i f b c h =
      let m = made_is e in
      let is = h.1 in
      let le = h.3 in
      let lt = h.4 in
      (omega (arith, is, le), omega (arith, m, is, lt))
  own_inside target (n ∷ rest) e s i f b c (x, h) =
      let deep = own_inside target rest x.operand (s + sum_made p sizes x.front) (i + calls_among x.front) f b c h in
      let m = made_is e in
      let a = ap (sum_made p sizes) x.are in
      let j = sum_append x.front (x.operand ∷ x.back) in
      let low = deep.0 in
      let high = deep.1 in
      (omega (arith, low), omega (arith, m, a, j, high))

all_calls : (all : Trees) → calls_in all ≡ calls_among (trees_in all)
all_calls tree.none = refl
all_calls (tree.more a all) = ap (λ n. calls a + n) (all_calls all)

pub calls_are : (e : Tree) → calls e ≡ calls_among (operands e) + own_calls e
calls_are (tree.number n) = omega arith
calls_are (tree.truth b) = omega arith
calls_are (tree.label x) = omega arith
calls_are (tree.variable x) = omega arith
calls_are (tree.unary op a) = omega arith
calls_are (tree.binary op a b) = omega arith
calls_are (tree.choice c a b) = omega arith
calls_are (tree.when a c) = omega arith
calls_are (tree.current x) = omega arith
calls_are (tree.merge c ps all) = let e = all_calls all in omega (arith, e)
calls_are (tree.call f all) = ap (λ n. n + 1) (all_calls all)

pub calls_append : (xs ys : List Tree) → calls_among (xs ++ ys) ≡ calls_among xs + calls_among ys
calls_append [] ys = omega arith
calls_append (x ∷ xs) ys = let e = calls_append xs ys in omega (arith, e)

-- PLACES

take_front : (xs ys : List Tree) → take (length xs) (xs ++ ys) ≡ xs
take_front [] ys = refl
take_front (x ∷ xs) ys = ap (λ l. x ∷ l) (take_front xs ys)

-- a part of an operand
pub part_inside : (node : NodeTree) (part : Part) (n : ℕ) (x : Among (operands part.expression) n) (rest : List ℕ)
    → part_at node part (n ∷ rest) ≡ part_at node (record { expression = x.operand; clock = operand_clock node part.expression part.clock n; before = part.before + calls_among x.front }) rest
part_inside node part n x rest =
    let ops = operands part.expression in
    let k = operand_clock node part.expression part.clock n in
    let z : n ≡ length x.front + 0 = (let e = x.number in omega (arith, e)) in
    let here : slice_get ops n ≡ Some x.operand = ap (λ l. slice_get l n) x.are ∙ ap (slice_get (x.front ++ x.operand ∷ x.back)) z ∙ get-behind x.front (x.operand ∷ x.back) (length x.front) 0 refl in
    let front : take n ops ≡ x.front = ap (take n) x.are ∙ ap (λ m. take m (x.front ++ x.operand ∷ x.back)) x.number ∙ take_front x.front (x.operand ∷ x.back) in
    ap (option_and_then (λ a. part_at node (into node part n a) rest)) here
    ∙ ap (λ l. part_at node (record { expression = x.operand; clock = k; before = part.before + calls_among l }) rest) front

module _ (p : ProgramTree) (lists : List (List Flow)) (node : NodeTree) (sizes : List ℕ) where
  -- the list of a called node is as long as its size says
  abbrev pub Counts : Call → Type 0
  Counts c = length (list_of p lists c.node) ≡ size_of p sizes c.node

  abbrev pub Counted : Tree → Type 0
  Counted = CallsHave Counts

  module _ (sized : (a : Tree) (k : Option Condition) (s : ℕ) → Counted a → length (made (walk p lists node a k s)) ≡ made_size p sizes a) where
    each_long : (kf : Clocks) (ops : List Tree) (s : ℕ) → AllOf Counted ops → length (flows_each p lists node kf ops s) ≡ sum_made p sizes ops
    each_long kf [] s h = refl
    each_long kf (a ∷ ops) s h =
        let w = walk p lists node a (kf 0) s in
        let rest = flows_each p lists node (later kf) ops (s + length (made w)) in
        let e = sized a (kf 0) s h.0 in
        let r = each_long (later kf) ops (s + length (made w)) h.1 in
        omega (arith, e, r, length-append (made w) rest)

    pub ends : (kf : Clocks) (ops : List Tree) (s : ℕ) → AllOf Counted ops → end_each p lists node kf ops s ≡ s + sum_made p sizes ops
    ends kf ops s h =
        let e = end_is p lists node kf ops s in
        let l = each_long kf ops s h in
        omega (arith, e, l)

    spots_long : (kf : Clocks) (ops : List Tree) (s : ℕ) → length (inner_spots p lists node kf ops s) ≡ calls_among ops
    spots_long kf [] s = refl
    spots_long kf (a ∷ ops) s =
        let S = s + length (made (walk p lists node a (kf 0) s)) in
        let e = length-spots p lists node a (kf 0) s in
        let r = spots_long (later kf) ops S in
        omega (arith, e, r, length-append (spots p lists node a (kf 0) s) (inner_spots p lists node (later kf) ops S))

    module _ (e : Tree) (k : Option Condition) (s : ℕ) (counted : Counted e) where
      abbrev kf : Clocks
      kf = operand_clock node e k

      abbrev ops : List Tree
      ops = operands e

      have : AllOf Counted ops
      have = operands_have Counts e counted

      pub end_here : end_each p lists node kf ops s ≡ s + sum_made p sizes ops
      end_here = ends kf ops s have

      -- AN OPERAND

      module _ (n : ℕ) (x : Among (operands e) n) where
        abbrev pub start : ℕ
        start = s + sum_made p sizes x.front

        abbrev pub clock : Option Condition
        clock = operand_clock node e k n

        parted : AllOf Counted (x.front ++ x.operand ∷ x.back)
        parted = subst (AllOf Counted) x.are have

        pub counted_inside : Counted x.operand
        counted_inside = of_middle Counted x.front x.operand x.back parted

        front_counted : AllOf Counted x.front
        front_counted = of_front Counted x.front (x.operand ∷ x.back) parted

        abbrev F : List Flow
        F = flows_each p lists node kf x.front s

        abbrev M : List Flow
        M = made (walk p lists node x.operand clock start)

        long_F : length F ≡ sum_made p sizes x.front
        long_F = each_long kf x.front s front_counted

        -- the flows of the operands, parted
        flows_are : (rest : List Flow) × (flows_each p lists node kf ops s ≡ F ++ (M ++ rest))
        flows_are =
            let split = split_flows p lists node kf x.front x.operand x.back s in
            let at = ends kf x.front s front_counted in (
              split.0,
              ap (λ l. flows_each p lists node kf l s) x.are ∙ split.1
                  ∙ ap (λ t. F ++ (made (walk p lists node x.operand (kf (length x.front)) t) ++ split.0)) at
                  ∙ ap (λ n. F ++ (made (walk p lists node x.operand (kf n) start) ++ split.0)) (sym x.number),
            )

        spots_are : (rest : List Spot) × (inner_spots p lists node kf ops s ≡ inner_spots p lists node kf x.front s ++ (spots p lists node x.operand clock start ++ rest))
        spots_are =
            let S = inner_spots p lists node kf x.front s in
            let split = split_spots p lists node kf x.front x.operand x.back s in
            let at = ends kf x.front s front_counted in (
              split.0,
              ap (λ l. inner_spots p lists node kf l s) x.are ∙ split.1
                  ∙ ap (λ t. S ++ (spots p lists node x.operand (kf (length x.front)) t ++ split.0)) at
                  ∙ ap (λ n. S ++ (spots p lists node x.operand (kf n) start ++ split.0)) (sym x.number),
            )

        -- what stands at a place of the operand
        pub flow_inside : (j : ℕ) → j < made_size p sizes x.operand → slice_get (made (walk p lists node e k s)) (sum_made p sizes x.front + j) ≡ slice_get M j
        flow_inside j lt =
            let parts = flows_are in
            let R = parts.0 in
            let O = made (own_at p lists node e k s) in
            let n = sum_made p sizes x.front in
            let l = long_F in
            let m = sized x.operand clock start counted_inside in
            let inside : n + j < length (F ++ (M ++ R)) = omega (arith, lt, l, m, length-append F (M ++ R), length-append M R) in
            ap (λ f. slice_get f (n + j)) (made_parts p lists node e k s ∙ ap (λ f. f ++ O) parts.1)
            ∙ get-front (F ++ (M ++ R)) O (n + j) inside ∙ get-behind F (M ++ R) n j l ∙ get-front M R j (omega (arith, lt, m))

        pub each_operand : (P : ℕ → Flow → Type 0) → Each P s (walk p lists node e k s).inner → Each P start M
        each_operand P h =
            let parts = flows_are in
            let R = parts.0 in
            let O = (own_at p lists node e k s).inner in
            let whole = subst (Each P s) (inner_parts p lists node e k s ∙ ap (λ f. f ++ O) parts.1) h in
            let behind = each_right P s F (M ++ R) (each_left P s (F ++ (M ++ R)) O whole) in
            subst (λ n. Each P n M) (ap (λ n. s + n) long_F) (each_left P (s + length F) M R behind)

        pub each_spot : (P : ℕ → Spot → Type 0) (i : ℕ) → Each P i (spots p lists node e k s) → Each P (i + calls_among x.front) (spots p lists node x.operand clock start)
        each_spot P i h =
            let parts = spots_are in
            let R = parts.0 in
            let S = inner_spots p lists node kf x.front s in
            let T = spots p lists node x.operand clock start in
            let O = own_spots p lists node e (end_each p lists node kf ops s) in
            let whole = subst (Each P i) (spots_parts p lists node e k s ∙ ap (λ f. f ++ O) parts.1) h in
            let behind = each_right P i S (T ++ R) (each_left P i (S ++ (T ++ R)) O whole) in
            subst (λ n. Each P n T) (ap (λ n. i + n) (spots_long kf x.front s)) (each_left P (i + length S) T R behind)

      -- ITS OWN FLOWS

      abbrev fs : List Flow
      fs = flows_each p lists node kf ops s

      pub flow_own : (j : ℕ) → slice_get (made (walk p lists node e k s)) (sum_made p sizes ops + j) ≡ slice_get (made (own_at p lists node e k s)) j
      flow_own j =
          ap (λ f. slice_get f (sum_made p sizes ops + j)) (made_parts p lists node e k s) ∙ get-behind fs (made (own_at p lists node e k s)) (sum_made p sizes ops) j (each_long kf ops s have)

      pub each_own : (P : ℕ → Flow → Type 0) → Each P s (walk p lists node e k s).inner → Each P (s + sum_made p sizes ops) (own_at p lists node e k s).inner
      each_own P h =
          let O = (own_at p lists node e k s).inner in
          subst (λ n. Each P n O) (ap (λ n. s + n) (each_long kf ops s have)) (each_right P s fs O (subst (Each P s) (inner_parts p lists node e k s) h))

      pub each_own_spot : (P : ℕ → Spot → Type 0) (i : ℕ) → Each P i (spots p lists node e k s) → Each P (i + calls_among ops) (own_spots p lists node e (s + sum_made p sizes ops))
      each_own_spot P i h =
          let S = inner_spots p lists node kf ops s in
          let O = own_spots p lists node e (end_each p lists node kf ops s) in
          let behind = each_right P i S O (subst (Each P i) (spots_parts p lists node e k s) h) in
          subst (λ t. Each P (i + calls_among ops) (own_spots p lists node e t)) end_here
          (subst (λ n. Each P n O) (ap (λ n. i + n) (spots_long kf ops s)) behind)
