-- The walk of an expression: those of its operands, one behind the other, and its own flows.
use Rattle.std.proofs.Common.{◌≡◌, ℕ, suc, ◌+◌, List, [], ◌∷◌, ◌++◌, length, Option, Some, refl, sym, ap, ◌∙◌, arith, length-append, append_assoc}
use Rattle.std.specs.Prelude.{pos}
use Rattle.lutree.specs.declared.expr.Pattern.{Pattern}
use Rattle.lutree.specs.declared.expr.Condition.{Condition}
use Rattle.lutree.specs.declared.expr.Prefix.TheVariants.{Data as Data1, Pre as Before}
use Rattle.lutree.specs.declared.expr.Infix.TheVariants.{Data as Data2, Arrow as Starts, FollowedBy}
use Rattle.lutree.specs.Tree.{Tree, Trees, list_of as trees_in, NodeTree, ProgramTree}
use Rattle.lutree.specs.Tree as tree
use Rattle.luflow.specs.declared.data.Datum.TheVariants.{Int, Bool as Truth, Name}
use Rattle.luflow.specs.declared.form.Form.TheVariants.{Constant, Unary, Binary, If, Pre, Arrow, When, Current, Merge}
use Rattle.luflow.specs.declared.form.Flow.{Flow}
use Rattle.lusource.specs.Source.{condition, first_pattern, next_patterns}
use Rattle.lucore_laws.specs.Layout.{Walk, Walking, root_flows, made, place, behind, leaf, after, instance, clock_place, flow_of, variable_place, walk, walk_all, walk_branches}
use Rattle.lucore_laws.specs.Layout.Root.{at}
use Rattle.lucore_laws.proofs.Spots.{Spot, spots_after, no_spots, spot_at, spots, spots_all, spots_branches}
use Rattle.luinside.specs.Parts.{operands, pattern_at, operand_clock}

-- the first place, the second, the third
abbrev pub first : List ℕ → ℕ
first [] = 0
first (x ∷ xs) = x

abbrev pub second : List ℕ → ℕ
second [] = 0
second (x ∷ xs) = first xs

abbrev pub third : List ℕ → ℕ
third [] = 0
third (x ∷ xs) = second xs

abbrev pub Clocks : Type 0
Clocks = ℕ → Option Condition

abbrev pub later : Clocks → Clocks
later kf n = kf (suc n)

module _ (p : ProgramTree) (lists : List (List Flow)) (node : NodeTree) where
  abbrev W : Tree → Option Condition → Walking
  W = walk p lists node

  -- SEVERAL WALKS

  abbrev pub walk_each : Clocks → List Tree → (List ℕ → Walking) → Walking
  walk_each kf [] rest = rest []
  walk_each kf (a ∷ ops) rest = after (W a (kf 0)) (λ x. walk_each (later kf) ops (λ xs. rest (x ∷ xs)))

  abbrev pub spots_each : Clocks → List Tree → (ℕ → List Spot) → ℕ → List Spot
  spots_each kf [] rest = rest
  spots_each kf (a ∷ ops) rest = spots_after (W a (kf 0)) (spots p lists node a (kf 0)) (spots_each (later kf) ops rest)

  -- the flows of some operands, their places, the place behind them, and their spots
  abbrev pub flows_each : Clocks → List Tree → ℕ → List Flow
  flows_each kf [] s = []
  flows_each kf (a ∷ ops) s = made (W a (kf 0) s) ++ flows_each (later kf) ops (behind s (W a (kf 0) s))

  abbrev pub places_each : Clocks → List Tree → ℕ → List ℕ
  places_each kf [] s = []
  places_each kf (a ∷ ops) s = place s (W a (kf 0) s) ∷ places_each (later kf) ops (behind s (W a (kf 0) s))

  abbrev pub end_each : Clocks → List Tree → ℕ → ℕ
  end_each kf [] s = s
  end_each kf (a ∷ ops) s = end_each (later kf) ops (behind s (W a (kf 0) s))

  abbrev pub inner_spots : Clocks → List Tree → ℕ → List Spot
  inner_spots kf [] s = []
  inner_spots kf (a ∷ ops) s = spots p lists node a (kf 0) s ++ inner_spots (later kf) ops (behind s (W a (kf 0) s))

  pub inner_is : (kf : Clocks) (ops : List Tree) (rest : List ℕ → Walking) (s : ℕ) → (walk_each kf ops rest s).inner ≡ flows_each kf ops s ++ (rest (places_each kf ops s) (end_each kf ops s)).inner
  inner_is kf [] rest s = refl
  inner_is kf (a ∷ ops) rest s =
      let w = W a (kf 0) s in
      let S = behind s w in
      let x = place s w in
      ap (λ l. made w ++ l) (inner_is (later kf) ops (λ xs. rest (x ∷ xs)) S)
      ∙ sym (append_assoc (made w) (flows_each (later kf) ops S) (rest (x ∷ places_each (later kf) ops S) (end_each (later kf) ops S)).inner)

  pub root_is : (kf : Clocks) (ops : List Tree) (rest : List ℕ → Walking) (s : ℕ) → (walk_each kf ops rest s).root ≡ (rest (places_each kf ops s) (end_each kf ops s)).root
  root_is kf [] rest s = refl
  root_is kf (a ∷ ops) rest s =
      let w = W a (kf 0) s in
      root_is (later kf) ops (λ xs. rest (place s w ∷ xs)) (behind s w)

  pub spots_are : (kf : Clocks) (ops : List Tree) (rest : ℕ → List Spot) (s : ℕ) → spots_each kf ops rest s ≡ inner_spots kf ops s ++ rest (end_each kf ops s)
  spots_are kf [] rest s = refl
  spots_are kf (a ∷ ops) rest s =
      let S = behind s (W a (kf 0) s) in
      let here = spots p lists node a (kf 0) s in
      ap (λ l. here ++ l) (spots_are (later kf) ops rest S) ∙ sym (append_assoc here (inner_spots (later kf) ops S) (rest (end_each (later kf) ops S)))

  -- ONE OF THEM

  pub split_flows : (kf : Clocks) (front : List Tree) (a : Tree) (back : List Tree) (s : ℕ)
      → (rest : List Flow) × (flows_each kf (front ++ a ∷ back) s ≡ flows_each kf front s ++ (made (W a (kf (length front)) (end_each kf front s)) ++ rest))
  split_flows kf [] a back s = (flows_each (later kf) back (behind s (W a (kf 0) s)), refl)
  split_flows kf (x ∷ front) a back s =
      let w = W x (kf 0) s in
      let S = behind s w in
      let deep = split_flows (later kf) front a back S in
      (deep.0, ap (λ l. made w ++ l) deep.1 ∙ sym (append_assoc (made w) (flows_each (later kf) front S) (made (W a (kf (suc (length front))) (end_each (later kf) front S)) ++ deep.0)))

  pub split_spots : (kf : Clocks) (front : List Tree) (a : Tree) (back : List Tree) (s : ℕ)
      → (rest : List Spot) × (inner_spots kf (front ++ a ∷ back) s ≡ inner_spots kf front s ++ (spots p lists node a (kf (length front)) (end_each kf front s) ++ rest))
  split_spots kf [] a back s = (inner_spots (later kf) back (behind s (W a (kf 0) s)), refl)
  split_spots kf (x ∷ front) a back s =
      let S = behind s (W x (kf 0) s) in
      let here = spots p lists node x (kf 0) s in
      let deep = split_spots (later kf) front a back S in
      (deep.0, ap (λ l. here ++ l) deep.1 ∙ sym (append_assoc here (inner_spots (later kf) front S) (spots p lists node a (kf (suc (length front))) (end_each (later kf) front S) ++ deep.0)))

  pub end_is : (kf : Clocks) (ops : List Tree) (s : ℕ) → end_each kf ops s ≡ s + length (flows_each kf ops s)
  end_is kf [] s = omega arith
  end_is kf (a ∷ ops) s =
      let w = W a (kf 0) s in
      let S = behind s w in
      let e = end_is (later kf) ops S in
      omega (arith, e, length-append (made w) (flows_each (later kf) ops S))

  -- AN EXPRESSION

  -- the own flows of an expression, given its operands' places
  abbrev pub own_walk : Tree → Option Condition → List ℕ → Walking
  own_walk (tree.number n) k xs = leaf (flow_of p lists node (tree.number n) k (Constant (Int (pos n))))
  own_walk (tree.truth b) k xs = leaf (flow_of p lists node (tree.truth b) k (Constant (Truth b)))
  own_walk (tree.label x) k xs = leaf (flow_of p lists node (tree.label x) k (Constant (Name x.number)))
  own_walk (tree.variable x) k xs = λ s. record { inner = []; root = at (variable_place p lists node x) }
  own_walk (tree.unary (Data1 op) a) k xs = leaf (flow_of p lists node (tree.unary (Data1 op) a) k (Unary op (first xs)))
  own_walk (tree.unary Before a) k xs = leaf (flow_of p lists node (tree.unary Before a) k (Pre (first xs)))
  own_walk (tree.binary (Data2 op) a b) k xs = leaf (flow_of p lists node (tree.binary (Data2 op) a b) k (Binary op (first xs) (second xs)))
  own_walk (tree.binary Starts a b) k xs = leaf (flow_of p lists node (tree.binary Starts a b) k (Arrow (first xs) (second xs)))
  own_walk (tree.binary FollowedBy a b) k xs =
      after (leaf (flow_of p lists node (tree.unary Before b) k (Pre (second xs)))) (λ z. leaf (flow_of p lists node (tree.binary FollowedBy a b) k (Arrow (first xs) z)))
  own_walk (tree.choice c a b) k xs = leaf (flow_of p lists node (tree.choice c a b) k (If (first xs) (second xs) (third xs)))
  own_walk (tree.when a c) k xs = leaf (flow_of p lists node (tree.when a c) (Some c) (When (first xs)))
  own_walk (tree.current x) k xs = leaf (flow_of p lists node (tree.current x) k (Current (variable_place p lists node x)))
  own_walk (tree.merge c ps all) k xs = leaf (flow_of p lists node (tree.merge c ps all) k (Merge (variable_place p lists node c) xs))
  own_walk (tree.call f all) k xs = instance p lists f (clock_place node k) xs

  abbrev pub own_spots : Tree → ℕ → List Spot
  own_spots (tree.call f all) = spot_at f
  own_spots e = no_spots

  then_same : (a : Walking) (s : ℕ) (v w : Walk) → v ≡ w → (let z : Walk = record { inner = made (a s) ++ v.inner; root = v.root } in z) ≡ (let z : Walk = record { inner = made (a s) ++ w.inner; root = w.root } in z)
  then_same a s v w e = ap {B = Walk} (λ (v : Walk). record { inner = made (a s) ++ v.inner; root = v.root }) e

  walk_all_is : (all : Trees) (k : Option Condition) (rest : List ℕ → Walking) (s : ℕ) → walk_all p lists node all k rest s ≡ walk_each (λ n. k) (trees_in all) rest s
  walk_all_is tree.none k rest s = refl
  walk_all_is (tree.more a all) k rest s =
      let x = place s (W a k s) in
      let S = behind s (W a k s) in
      then_same (W a k) s (walk_all p lists node all k (λ xs. rest (x ∷ xs)) S) (walk_each (λ n. k) (trees_in all) (λ xs. rest (x ∷ xs)) S) (walk_all_is all k (λ xs. rest (x ∷ xs)) S)

  walk_branches_is : (c : List ℕ) (ps : List Pattern) (all : Trees) (rest : List ℕ → Walking) (s : ℕ) → walk_branches p lists node c ps all rest s ≡ walk_each (λ n. condition c (pattern_at ps n)) (trees_in all) rest s
  walk_branches_is c ps tree.none rest s = refl
  walk_branches_is c ps (tree.more a all) rest s =
      let k = condition c (first_pattern ps) in
      let qs = next_patterns ps in
      let x = place s (W a k s) in
      let S = behind s (W a k s) in
      then_same (W a k) s (walk_branches p lists node c qs all (λ xs. rest (x ∷ xs)) S) (walk_each (λ n. condition c (pattern_at qs n)) (trees_in all) (λ xs. rest (x ∷ xs)) S) (walk_branches_is c qs all (λ xs. rest (x ∷ xs)) S)

  pub walk_is : (e : Tree) (k : Option Condition) (s : ℕ) → W e k s ≡ walk_each (operand_clock node e k) (operands e) (own_walk e k) s
  walk_is (tree.number n) k s = refl
  walk_is (tree.truth b) k s = refl
  walk_is (tree.label x) k s = refl
  walk_is (tree.variable x) k s = refl
  walk_is (tree.unary (Data1 op) a) k s = refl
  walk_is (tree.unary Before a) k s = refl
  walk_is (tree.binary (Data2 op) a b) k s = refl
  walk_is (tree.binary Starts a b) k s = refl
  walk_is (tree.binary FollowedBy a b) k s = refl
  walk_is (tree.choice c a b) k s = refl
  walk_is (tree.when a c) k s = refl
  walk_is (tree.current x) k s = refl
  walk_is (tree.merge c ps all) k s = walk_branches_is c ps all (own_walk (tree.merge c ps all) k) s
  walk_is (tree.call f all) k s = walk_all_is all k (own_walk (tree.call f all) k) s

  spots_all_is : (all : Trees) (k : Option Condition) (rest : ℕ → List Spot) (s : ℕ) → spots_all p lists node all k rest s ≡ spots_each (λ n. k) (trees_in all) rest s
  spots_all_is tree.none k rest s = refl
  spots_all_is (tree.more a all) k rest s = ap (λ l. spots p lists node a k s ++ l) (spots_all_is all k rest (behind s (W a k s)))

  spots_branches_is : (c : List ℕ) (ps : List Pattern) (all : Trees) (rest : ℕ → List Spot) (s : ℕ) → spots_branches p lists node c ps all rest s ≡ spots_each (λ n. condition c (pattern_at ps n)) (trees_in all) rest s
  spots_branches_is c ps tree.none rest s = refl
  spots_branches_is c ps (tree.more a all) rest s =
      let k = condition c (first_pattern ps) in
      ap (λ l. spots p lists node a k s ++ l) (spots_branches_is c (next_patterns ps) all rest (behind s (W a k s)))

  pub spots_is : (e : Tree) (k : Option Condition) (s : ℕ) → spots p lists node e k s ≡ spots_each (operand_clock node e k) (operands e) (own_spots e) s
  spots_is (tree.number n) k s = refl
  spots_is (tree.truth b) k s = refl
  spots_is (tree.label x) k s = refl
  spots_is (tree.variable x) k s = refl
  spots_is (tree.unary op a) k s = refl
  spots_is (tree.binary (Data2 op) a b) k s = refl
  spots_is (tree.binary Starts a b) k s = refl
  spots_is (tree.binary FollowedBy a b) k s = refl
  spots_is (tree.choice c a b) k s = refl
  spots_is (tree.when a c) k s = refl
  spots_is (tree.current x) k s = refl
  spots_is (tree.merge c ps all) k s = spots_branches_is c ps all no_spots s
  spots_is (tree.call f all) k s = spots_all_is all k (spot_at f) s

  -- the own walk of an expression where it stands
  abbrev pub own_at : Tree → Option Condition → ℕ → Walk
  own_at e k s =
      let kf = operand_clock node e k in
      own_walk e k (places_each kf (operands e) s) (end_each kf (operands e) s)

  pub inner_parts : (e : Tree) (k : Option Condition) (s : ℕ) → (W e k s).inner ≡ flows_each (operand_clock node e k) (operands e) s ++ (own_at e k s).inner
  inner_parts e k s = ap (λ (w : Walk). w.inner) (walk_is e k s) ∙ inner_is (operand_clock node e k) (operands e) (own_walk e k) s

  pub root_same : (e : Tree) (k : Option Condition) (s : ℕ) → (W e k s).root ≡ (own_at e k s).root
  root_same e k s = ap (λ (w : Walk). w.root) (walk_is e k s) ∙ root_is (operand_clock node e k) (operands e) (own_walk e k) s

  pub made_parts : (e : Tree) (k : Option Condition) (s : ℕ) → made (W e k s) ≡ flows_each (operand_clock node e k) (operands e) s ++ made (own_at e k s)
  made_parts e k s =
      let f = flows_each (operand_clock node e k) (operands e) s in
      let o = own_at e k s in
      ap (λ l. l ++ root_flows (W e k s).root) (inner_parts e k s) ∙ ap (λ r. (f ++ o.inner) ++ root_flows r) (root_same e k s) ∙ append_assoc f o.inner (root_flows o.root)

  pub spots_parts : (e : Tree) (k : Option Condition) (s : ℕ) → spots p lists node e k s ≡ inner_spots (operand_clock node e k) (operands e) s ++ own_spots e (end_each (operand_clock node e k) (operands e) s)
  spots_parts e k s = spots_is e k s ∙ spots_are (operand_clock node e k) (operands e) (own_spots e) s
