-- Each flow of an accepted program's list has a type that the program has, and each main variable's flow has its type.
use Rattle.std.proofs.Common.{◌≡◌, ℕ, zero, suc, ◌+◌, ◌<◌, Bool, true, false, cond, List, [], ◌∷◌, ◌++◌, length, map, Option, Some, None, refl, sym, ap, ◌∙◌, subst}
use Rattle.std.specs.Prelude.{pos, slice_get, option_map, unwrap_or, fold}
use Rattle.std.specs.List.{list_any}
use Rattle.std.specs.Str.{bytes_eq}
use Rattle.std.proofs.lemmas.Option.{slice_get-map, slice_get_within, same_Some}
use Rattle.lutree.specs.declared.expr.UnaryOperator.{UnaryOperator}
use Rattle.lutree.specs.declared.expr.UnaryOperator.TheVariants.{Minus}
use Rattle.lutree.specs.declared.expr.BinaryOperator.{BinaryOperator}
use Rattle.lutree.specs.declared.expr.BinaryOperator.TheVariants.{Add}
use Rattle.lutree.specs.declared.expr.Prefix.TheVariants.{Data as Data1, Pre as Before}
use Rattle.lutree.specs.declared.expr.Infix.TheVariants.{Data as Data2, Arrow as Starts, FollowedBy}
use Rattle.lutree.specs.declared.expr.Pattern.{Pattern}
use Rattle.lutree.specs.declared.expr.Condition.{Condition}
use Rattle.lutree.specs.declared.program.Kind.{Kind}
use Rattle.lutree.specs.declared.program.Kind.TheVariants.{Int as Ints, Bool as Truths, Enum}
use Rattle.lutree.specs.Tree.{Tree, Trees, TypeTree, DeclarationTree, EquationTree, NodeTree, ProgramTree}
use Rattle.lutree.specs.Tree as tree
use Rattle.luflow.specs.declared.data.Datum.TheVariants.{Int, Bool as Truth, Name}
use Rattle.luflow.specs.declared.form.Clock.{Clock}
use Rattle.luflow.specs.declared.form.Form.{Form}
use Rattle.luflow.specs.declared.form.Form.TheVariants.{Constant, Unary, Binary, If, Pre, Arrow, When, Current, Merge}
use Rattle.luflow.specs.declared.form.Flow.{Flow}
use Rattle.luflow.specs.Flats.{IsTypeAmong}
use Rattle.lusource.specs.Names.{clock_of, place_of}
use Rattle.lusource.specs.Source.{condition, first_pattern, next_patterns}
use Rattle.lustat_rules.specs.Scope.{declarations_of, kind_of, meaning, node_called}
use Rattle.lustat_rules.specs.Parts.{EachPart, EachPartOf}
use Rattle.lustat_rules.specs.Naming.{Calls, Reaches, IsEnumeration, PartKnown, IsWrittenAs, TypeKnown}
use Rattle.lustat_rules.specs.Typing.{same_kind, agreed, agreed_all, single_kind, result_kind, choice_kind, arguments_fit, call_kinds, only, type_of, types_of as kinds_in}
use Rattle.lucore_laws.specs.Layout.{Root, Walking, root_flows, made, place, behind, leaf, after, moved, list_at, list_of, instance, clock_place, flow_of, variable_place, walk, walk_all, walk_branches, walk_right, left_clock, root_flow, inner_flows, variable_flow, variable_count, input_flows, node_flows, AreLists, enum_of, types_of}
use Rattle.lucore_laws.specs.Layout.Root.{own, at}
use Rattle.lucore_laws.proofs.Names.{get-front, get-behind, first_at, listed}
use Rattle.lucore_laws.proofs.Well.{IsWell, AllWell}
use Rattle.lucore_laws.proofs.Facts.{Below, NodeFacts}
use Rattle.lucore_laws.proofs.ByCalls.{by_calls}
use Rattle.lucore_laws.proofs.Same.{no_place}
use Rattle.lucore_laws.proofs.Ruling.{Ruling}

module _ (p : ProgramTree) where
  abbrev pub IsKnown : Kind → Type 0
  IsKnown = IsTypeAmong (types_of p)

  pub enumeration_known : (kind : Kind) (t : TypeTree) → IsEnumeration p kind t → IsKnown kind
  enumeration_known Ints t h = tt
  enumeration_known Truths t h = tt
  enumeration_known (Enum i size) t h = (enum_of t, slice_get-map enum_of p.types i ∙ ap (option_map enum_of) h.0, h.1)

  pub written_known : (kind : Kind) (o : Option (List ℕ)) → IsWrittenAs p kind o → IsKnown kind
  written_known Ints o h = tt
  written_known Truths o h = tt
  written_known (Enum i size) None h = absurd h
  written_known (Enum i size) (Some x) h = enumeration_known (Enum i size) h.0 h.1

  -- TYPES OF EXPRESSIONS

  -- a type is known, if there is one
  abbrev pub IfKnown : Option Kind → Type 0
  IfKnown None = Unit {0}
  IfKnown (Some t) = IsKnown t

  abbrev AllKnown : List (Option Kind) → Type 0
  AllKnown [] = Unit {0}
  AllKnown (k ∷ ks) = IfKnown k × AllKnown ks

  agreed_known : (a b : Option Kind) → IfKnown a → IfKnown (agreed a b)
  agreed_known None b h = tt
  agreed_known (Some j) None h = tt
  agreed_known (Some j) (Some k) h = go (same_kind j k)
    where
      go : (same : Bool) → IfKnown (cond same (Some j) None)
      go true = h
      go false = tt

  folded_known : (k : Option Kind) (ks : List (Option Kind)) → IfKnown k → IfKnown (fold agreed k ks)
  folded_known k [] h = h
  folded_known k (j ∷ ks) h = folded_known (agreed k j) ks (agreed_known k j h)

  merged_known : (ks : List (Option Kind)) → AllKnown ks → IfKnown (agreed_all ks)
  merged_known [] h = tt
  merged_known (k ∷ ks) h = folded_known k ks h.0

  single_known : (op : UnaryOperator) → IsKnown (single_kind op)
  single_known Minus = tt
  single_known _ = tt

  result_known : (op : BinaryOperator) → IsKnown (result_kind op)
  result_known Add = tt
  result_known _ = tt

  double_known : (op : BinaryOperator) (o : Option Kind) → IfKnown (option_map (λ k. result_kind op) o)
  double_known op None = tt
  double_known op (Some k) = result_known op

  choice_known : (c a b : Option Kind) → IfKnown a → IfKnown (choice_kind c a b)
  choice_known None a b h = tt
  choice_known (Some Ints) a b h = tt
  choice_known (Some Truths) a b h = agreed_known a b h
  choice_known (Some (Enum i size)) a b h = tt

  pub or_int : (o : Option Kind) → IfKnown o → IsKnown (unwrap_or o Ints)
  or_int None h = tt
  or_int (Some t) h = h

  -- the declarations of a node have types that are known
  abbrev pub DeclaresKnown : NodeTree → Type 0
  DeclaresKnown n = (j : ℕ) (d : DeclarationTree) → slice_get (declarations_of n) j ≡ Some d → TypeKnown p d

  abbrev EachKnown : List DeclarationTree → Type 0
  EachKnown ds = (j : ℕ) (d : DeclarationTree) → slice_get ds j ≡ Some d → IsKnown d.kind

  one_known : (ds : List DeclarationTree) → EachKnown ds → IfKnown (only (Some (map (λ (d : DeclarationTree). d.kind) ds)))
  one_known [] h = tt
  one_known (d ∷ []) h = h 0 d refl
  one_known (d ∷ e ∷ ds) h = tt

  call_known : (o : Option NodeTree) (ks : List (Option Kind)) → ((n : NodeTree) → o ≡ Some n → EachKnown n.outputs) → IfKnown (only (call_kinds o ks))
  call_known None ks h = tt
  call_known (Some n) ks h = go (arguments_fit ks n.inputs)
    where
      go : (fit : Bool) → IfKnown (only (cond fit (Some (map (λ (d : DeclarationTree). d.kind) n.outputs)) None))
      go true = one_known n.outputs (h n refl)
      go false = tt

  module _ (node : NodeTree) (declares : DeclaresKnown node) (outputs : (f : List ℕ) (n : NodeTree) → node_called p f ≡ Some n → EachKnown n.outputs) where
    pub kind_known : (x : List ℕ) → IfKnown (kind_of node x)
    kind_known x = go (meaning node x) refl
      where
        go : (o : Option DeclarationTree) → meaning node x ≡ o → IfKnown (option_map (λ (d : DeclarationTree). d.kind) o)
        go None e = tt
        go (Some d) e = written_known d.kind d.type_name (declares _ d (first_at (declarations_of node) x d e))

    mutual
      type_known : (e : Tree) → EachPart (PartKnown p) e → IfKnown (type_of p node e)
      type_known (tree.number n) h = tt
      type_known (tree.truth b) h = tt
      type_known (tree.label l) h = enumeration_known l.kind h.0 h.1
      type_known (tree.variable x) h = kind_known x
      type_known (tree.unary (Data1 op) a) h = agreed_known (Some (single_kind op)) (type_of p node a) (single_known op)
      type_known (tree.unary Before a) h = type_known a h
      type_known (tree.binary (Data2 op) a b) h = double_known op _
      type_known (tree.binary Starts a b) h = agreed_known (type_of p node a) (type_of p node b) (type_known a h.0)
      type_known (tree.binary FollowedBy a b) h = agreed_known (type_of p node a) (type_of p node b) (type_known a h.0)
      type_known (tree.choice c a b) h = choice_known (type_of p node c) (type_of p node a) (type_of p node b) (type_known a h.1)
      type_known (tree.when a c) h = type_known a h.0
      type_known (tree.current x) h = kind_known x
      type_known (tree.merge c ps all) h = merged_known (kinds_in p node all) (all_known all h.1)
      type_known (tree.call f all) h = call_known (node_called p f) (kinds_in p node all) (outputs f)

      all_known : (all : Trees) → EachPartOf (PartKnown p) all → AllKnown (kinds_in p node all)
      all_known tree.none h = tt
      all_known (tree.more a all) h = (type_known a h.0, all_known all h.1)

  -- FLOWS

  abbrev pub AllTyped : List Flow → Type 0
  AllTyped [] = Unit {0}
  AllTyped (f ∷ fs) = IsKnown f.kind × AllTyped fs

  joined : (xs ys : List Flow) → AllTyped xs → AllTyped ys → AllTyped (xs ++ ys)
  joined [] ys h g = g
  joined (x ∷ xs) ys h g = (h.0, joined xs ys h.1 g)

  mapped : (f : Flow → Flow) (xs : List Flow) → ((x : Flow) → (f x).kind ≡ x.kind) → AllTyped xs → AllTyped (map f xs)
  mapped f [] same h = tt
  mapped f (x ∷ xs) same h = (subst IsKnown (sym (same x)) h.0, mapped f xs same h.1)

  pub typed_at : (xs : List Flow) (i : ℕ) (f : Flow) → AllTyped xs → slice_get xs i ≡ Some f → IsKnown f.kind
  typed_at [] i f h e = cc
  typed_at (x ∷ xs) zero f h e = subst (λ (f : Flow). IsKnown f.kind) (same_Some x f e) h.0
  typed_at (x ∷ xs) (suc i) f h e = typed_at xs i f h.1 e

  abbrev RootTyped : Root → Type 0
  RootTyped (own f) = IsKnown f.kind
  RootTyped (at i) = Unit {0}

  abbrev WalkTyped : Walking → Type 0
  WalkTyped w = (s : ℕ) → AllTyped (w s).inner × RootTyped (w s).root

  typed_leaf : (f : Flow) → IsKnown f.kind → WalkTyped (leaf f)
  typed_leaf f h s = (tt, h)

  typed_root : (root : Root) → RootTyped root → AllTyped (root_flows root)
  typed_root (own f) h = (h, tt)
  typed_root (at i) h = tt

  typed_after : (a : Walking) (rest : ℕ → Walking) → WalkTyped a → ((x : ℕ) → WalkTyped (rest x)) → WalkTyped (after a rest)
  typed_after a rest first then s =
      let w = a s in
      let f = first s in
      let g = then (place s w) (behind s w) in
      (joined (made w) (rest (place s w) (behind s w)).inner (joined w.inner (root_flows w.root) f.0 (typed_root w.root f.1)) g.0, g.1)

  module _ (lists : List (List Flow)) (node : NodeTree) (declares : DeclaresKnown node) (outputs : (f : List ℕ) (n : NodeTree) → node_called p f ≡ Some n → EachKnown n.outputs)
      (Under : List ℕ → Type 0) (below : (f : List ℕ) → Under f → AllTyped (list_of p lists f)) where
    typed : (e : Tree) → EachPart (PartKnown p) e → IsKnown (unwrap_or (type_of p node e) Ints)
    typed e h = or_int (type_of p node e) (type_known node declares outputs e h)

    instance_typed : (f : List ℕ) (k : Clock) (xs : List ℕ) → Under f → WalkTyped (instance p lists f k xs)
    instance_typed f k xs u s = (mapped (moved s k xs) (list_of p lists f) (λ x. refl) (below f u), tt)

    mutual
      walk_typed : (e : Tree) (k : Option Condition) (w : ℕ) → IsWell p node Under e w → EachPart (PartKnown p) e → WalkTyped (walk p lists node e k)
      walk_typed (tree.number n) k w well h = typed_leaf (flow_of p lists node (tree.number n) k (Constant (Int (pos n)))) (typed (tree.number n) h)
      walk_typed (tree.truth b) k w well h = typed_leaf (flow_of p lists node (tree.truth b) k (Constant (Truth b))) (typed (tree.truth b) h)
      walk_typed (tree.label l) k w well h = typed_leaf (flow_of p lists node (tree.label l) k (Constant (Name l.number))) (typed (tree.label l) h)
      walk_typed (tree.variable x) k w well h = λ s. (tt, tt)
      walk_typed (tree.unary (Data1 op) a) k w well h =
          let e = tree.unary (Data1 op) a in
          typed_after (walk p lists node a k) (λ x. leaf (flow_of p lists node e k (Unary op x))) (walk_typed a k 1 well h) (λ x. typed_leaf (flow_of p lists node e k (Unary op x)) (typed e h))
      walk_typed (tree.unary Before a) k w well h =
          let e = tree.unary Before a in
          typed_after (walk p lists node a k) (λ x. leaf (flow_of p lists node e k (Pre x))) (walk_typed a k 1 well h) (λ x. typed_leaf (flow_of p lists node e k (Pre x)) (typed e h))
      walk_typed (tree.binary (Data2 op) a b) k w well h =
          let e = tree.binary (Data2 op) a b in
          let root = λ (x y : ℕ). flow_of p lists node e k (Binary op x y) in
          typed_after (walk p lists node a k) (λ x. after (walk p lists node b k) (λ y. leaf (root x y))) (walk_typed a k 1 well.0 h.0)
          (λ x. typed_after (walk p lists node b k) (λ y. leaf (root x y)) (walk_typed b k 1 well.1 h.1) (λ y. typed_leaf (root x y) (typed e h)))
      walk_typed (tree.binary Starts a b) k w well h =
          let e = tree.binary Starts a b in
          let root = λ (x y : ℕ). flow_of p lists node e k (Arrow x y) in
          typed_after (walk p lists node a k) (λ x. after (walk p lists node b k) (λ y. leaf (root x y))) (walk_typed a k 1 well.0 h.0)
          (λ x. typed_after (walk p lists node b k) (λ y. leaf (root x y)) (walk_typed b k 1 well.1 h.1) (λ y. typed_leaf (root x y) (typed e h)))
      walk_typed (tree.binary FollowedBy a b) k w well h =
          let e = tree.binary FollowedBy a b in
          let pre = λ (y : ℕ). flow_of p lists node (tree.unary Before b) k (Pre y) in
          let root = λ (x z : ℕ). flow_of p lists node e k (Arrow x z) in
          typed_after (walk p lists node a k) (λ x. after (walk p lists node b k) (λ y. after (leaf (pre y)) (λ z. leaf (root x z)))) (walk_typed a k 1 well.0 h.0)
          (λ x. typed_after (walk p lists node b k) (λ y. after (leaf (pre y)) (λ z. leaf (root x z))) (walk_typed b k 1 well.1 h.1)
          (λ y. typed_after (leaf (pre y)) (λ z. leaf (root x z)) (typed_leaf (pre y) (typed (tree.unary Before b) h.1)) (λ z. typed_leaf (root x z) (typed e h))))
      walk_typed (tree.choice c a b) k w well h =
          let e = tree.choice c a b in
          let root = λ (x y z : ℕ). flow_of p lists node e k (If x y z) in
          typed_after (walk p lists node c k) (λ x. after (walk p lists node a k) (λ y. after (walk p lists node b k) (λ z. leaf (root x y z)))) (walk_typed c k 1 well.0 h.0)
          (λ x. typed_after (walk p lists node a k) (λ y. after (walk p lists node b k) (λ z. leaf (root x y z))) (walk_typed a k 1 well.1 h.1)
          (λ y. typed_after (walk p lists node b k) (λ z. leaf (root x y z)) (walk_typed b k 1 well.2 h.2) (λ z. typed_leaf (root x y z) (typed e h))))
      walk_typed (tree.when a c) k w well h =
          let e = tree.when a c in
          let kc = clock_of node c.variable in
          typed_after (walk p lists node a kc) (λ x. leaf (flow_of p lists node e (Some c) (When x))) (walk_typed a kc 1 well.1 h.0) (λ x. typed_leaf (flow_of p lists node e (Some c) (When x)) (typed e h))
      walk_typed (tree.current x) k w well h = typed_leaf (flow_of p lists node (tree.current x) k (Current (variable_place p lists node x))) (typed (tree.current x) h)
      walk_typed (tree.merge c ps all) k w well h =
          let e = tree.merge c ps all in
          let root = λ (xs : List ℕ). flow_of p lists node e k (Merge (variable_place p lists node c) xs) in
          branches_typed c ps all (λ xs. leaf (root xs)) well.1 h.1 (λ xs. typed_leaf (root xs) (typed e h))
      walk_typed (tree.call f all) k w well h =
          arguments_typed all k (λ xs. instance p lists f (clock_place node k) xs) well.1 h (λ xs. instance_typed f (clock_place node k) xs well.0.below)

      arguments_typed : (all : Trees) (k : Option Condition) (rest : List ℕ → Walking) → AllWell p node Under all → EachPartOf (PartKnown p) all → ((xs : List ℕ) → WalkTyped (rest xs)) → WalkTyped (walk_all p lists node all k rest)
      arguments_typed tree.none k rest well h then = then []
      arguments_typed (tree.more a all) k rest well h then =
          typed_after (walk p lists node a k) (λ x. walk_all p lists node all k (λ xs. rest (x ∷ xs))) (walk_typed a k 1 well.0 h.0)
          (λ x. arguments_typed all k (λ xs. rest (x ∷ xs)) well.1 h.1 (λ xs. then (x ∷ xs)))

      branches_typed : (c : List ℕ) (ps : List Pattern) (all : Trees) (rest : List ℕ → Walking) → AllWell p node Under all → EachPartOf (PartKnown p) all → ((xs : List ℕ) → WalkTyped (rest xs)) → WalkTyped (walk_branches p lists node c ps all rest)
      branches_typed c ps tree.none rest well h then = then []
      branches_typed c ps (tree.more a all) rest well h then =
          let k = condition c (first_pattern ps) in
          typed_after (walk p lists node a k) (λ x. walk_branches p lists node c (next_patterns ps) all (λ xs. rest (x ∷ xs))) (walk_typed a k 1 well.0 h.0)
          (λ x. branches_typed c (next_patterns ps) all (λ xs. rest (x ∷ xs)) well.1 h.1 (λ xs. then (x ∷ xs)))

    -- A NODE

    abbrev RightsTyped : List EquationTree → Type 0
    RightsTyped qs = (j : ℕ) (q : EquationTree) → slice_get qs j ≡ Some q → WalkTyped (walk_right p lists node q)

    pub rights_typed : (qs : List EquationTree) → ((j : ℕ) (q : EquationTree) → slice_get qs j ≡ Some q → IsWell p node Under q.right (length q.left)) → ((j : ℕ) (q : EquationTree) → slice_get qs j ≡ Some q → EachPart (PartKnown p) q.right) → RightsTyped qs
    rights_typed qs well h j q e = walk_typed q.right (left_clock p lists node q) (length q.left) (well j q e) (h j q e)

    inner_typed : (qs : List EquationTree) (s : ℕ) → RightsTyped qs → AllTyped (inner_flows p lists node qs s)
    inner_typed [] s h = tt
    inner_typed (q ∷ qs) s h =
        let w = walk_right p lists node q s in
        joined w.inner (inner_flows p lists node qs (s + length w.inner)) (h 0 q refl s).0 (inner_typed qs (s + length w.inner) (λ j q e. h (suc j) q e))

    root_flow_typed : (q : EquationTree) (root : Root) (j : ℕ) (x : List ℕ) → RootTyped root → IsKnown (root_flow p lists node q root j x).kind
    root_flow_typed q (own f) j x h = h
    root_flow_typed q (at i) j x h = or_int (kind_of node x) (kind_known node declares outputs x)

    variable_typed : (qs : List EquationTree) (s : ℕ) (x : List ℕ) → RightsTyped qs → IsKnown (variable_flow p lists node qs s x).kind
    variable_typed [] s x h = tt
    variable_typed (q ∷ qs) s x h = go (list_any (λ y. bytes_eq y x) q.left) (variable_typed qs (s + length (walk_right p lists node q s).inner) x (λ j q e. h (suc j) q e))
      where
        here : Flow
        here = root_flow p lists node q (walk_right p lists node q s).root (place_of q.left x) x

        later : Flow
        later = variable_flow p lists node qs (s + length (walk_right p lists node q s).inner) x

        go : (any : Bool) → IsKnown later.kind → IsKnown (cond any here later).kind
        go true rest = root_flow_typed q (walk_right p lists node q s).root (place_of q.left x) x (h 0 q refl s).1
        go false rest = rest

    others_typed : (xs : List (List ℕ)) → RightsTyped node.equations → AllTyped (map (variable_flow p lists node node.equations (variable_count p lists node)) xs)
    others_typed [] h = tt
    others_typed (x ∷ xs) h = (variable_typed node.equations (variable_count p lists node) x h, others_typed xs h)

    inputs_typed : (r : ℕ) (ds : List DeclarationTree) → EachKnown ds → AllTyped (input_flows p lists node r ds)
    inputs_typed r [] h = tt
    inputs_typed r (d ∷ ds) h = (h 0 d refl, inputs_typed (suc r) ds (λ j d e. h (suc j) d e))

    pub node_typed : EachKnown node.inputs → RightsTyped node.equations → AllTyped (node_flows p lists node)
    node_typed inputs h =
        joined (input_flows p lists node 0 node.inputs) _ (inputs_typed 0 node.inputs inputs)
        (joined _ (inner_flows p lists node node.equations (variable_count p lists node)) (others_typed _ h) (inner_typed node.equations (variable_count p lists node) h))

-- PROGRAMS

input_there : (n : NodeTree) (j : ℕ) (d : DeclarationTree) → slice_get n.inputs j ≡ Some d → slice_get (declarations_of n) j ≡ Some d
input_there n j d e = get-front n.inputs (n.outputs ++ n.locals) j (slice_get_within n.inputs j d e) ∙ e

output_there : (n : NodeTree) (j : ℕ) (d : DeclarationTree) → slice_get n.outputs j ≡ Some d → slice_get (declarations_of n) (length n.inputs + j) ≡ Some d
output_there n j d e =
    get-behind n.inputs (n.outputs ++ n.locals) (length n.inputs) j refl ∙ get-front n.outputs n.locals j (slice_get_within n.outputs j d e) ∙ e

module _ (p : ProgramTree) (lists : List (List Flow)) (are : AreLists p lists) (facts : (f : List ℕ) (n : NodeTree) → node_called p f ≡ Some n → NodeFacts p n) (rulings : (f : List ℕ) (n : NodeTree) → node_called p f ≡ Some n → Ruling p n) (never : (f : List ℕ) → ¬ Reaches p f f) where
  declares : (f : List ℕ) (n : NodeTree) → node_called p f ≡ Some n → DeclaresKnown p n
  declares f n e = (rulings f n e).types

  inputs_known : (f : List ℕ) (n : NodeTree) → node_called p f ≡ Some n → (j : ℕ) (d : DeclarationTree) → slice_get n.inputs j ≡ Some d → IsKnown p d.kind
  inputs_known f n e j d there = written_known p d.kind d.type_name (declares f n e j d (input_there n j d there))

  outputs_known : (f : List ℕ) (n : NodeTree) → node_called p f ≡ Some n → (j : ℕ) (d : DeclarationTree) → slice_get n.outputs j ≡ Some d → IsKnown p d.kind
  outputs_known f n e j d there = written_known p d.kind d.type_name (declares f n e (length n.inputs + j) d (output_there n j d there))

  step : (f : List ℕ) → ((g : List ℕ) → Calls p f g → AllTyped p (list_of p lists g)) → AllTyped p (list_of p lists f)
  step f h = go (node_called p f) refl
    where
      go : (o : Option NodeTree) → node_called p f ≡ o → AllTyped p (list_of p lists f)
      go None e = subst (λ o. AllTyped p (list_at lists o)) (sym (no_place p f e)) tt
      go (Some n) e =
          let under = λ (g : List ℕ) (b : Below n g). h g (n, e, b) in
          subst (AllTyped p) (sym (listed p lists are f n e))
          (node_typed p lists n (declares f n e) outputs_known (Below n) under (inputs_known f n e)
          (rights_typed p lists n (declares f n e) outputs_known (Below n) under n.equations (facts f n e).rights (rulings f n e).known))

  pub lists_typed : (f : List ℕ) → AllTyped p (list_of p lists f)
  lists_typed = by_calls p never (λ f. AllTyped p (list_of p lists f)) step
