-- What acceptance gives of an expression, form by form.
use Rattle.std.proofs.Common.{◌≡◌, ℕ, ◌<◌, List, [], ◌∷◌, ◌++◌, length, Option, Some, refl, sym, subst}
use Rattle.std.specs.Prelude.{All, IfSome, option_map}
use Rattle.lutree.specs.Tree.{Tree, Trees, list_of, EquationTree, NodeTree, ProgramTree}
use Rattle.lutree.specs.Tree as tree
use Rattle.lustat_rules.specs.Scope.{node_called}
use Rattle.lustat_rules.specs.Scope as rules
use Rattle.lustat_rules.specs.Naming.{Call, names_in, names_in_all, calls_in, calls_in_all, inner_calls, value_count}
use Rattle.lucore_laws.specs.Layout.{variable_place, variable_count}
use Rattle.lucore_laws.proofs.Names.{all_left, all_right, all_head, all_tail, is_some_at}

module _ (p : ProgramTree) (lists_node : NodeTree) (Below : List ℕ → Type 0) where
  abbrev node : NodeTree
  node = lists_node

  -- a variable of the node
  abbrev pub Known : List ℕ → Type 0
  Known x = variable_place p [] node x < variable_count p [] node

  -- a call with so many arguments is of a node with as many inputs and w outputs
  pub record CallIs (f : List ℕ) (arguments w : ℕ) : Type 0 where
    pub callee : NodeTree
    pub found : node_called p f ≡ Some callee
    pub arguments_are : arguments ≡ length callee.inputs
    pub outputs_are : length callee.outputs ≡ w
    pub below : Below f

  abbrev mutual
    -- an expression of w values
    pub IsWell : Tree → ℕ → Type 0
    IsWell (tree.number n) w = Unit {0}
    IsWell (tree.truth b) w = Unit {0}
    IsWell (tree.label x) w = Unit {0}
    IsWell (tree.variable x) w = (w ≡ 1) × Known x
    IsWell (tree.unary op a) w = IsWell a 1
    IsWell (tree.binary op a b) w = IsWell a 1 × IsWell b 1
    IsWell (tree.choice c a b) w = IsWell c 1 × IsWell a 1 × IsWell b 1
    IsWell (tree.when a c) w = Known c.variable × IsWell a 1
    IsWell (tree.current x) w = Known x
    IsWell (tree.merge c ps all) w = Known c × AllWell all
    IsWell (tree.call f all) w = CallIs f (length (list_of all)) w × AllWell all

    pub AllWell : Trees → Type 0
    AllWell tree.none = Unit {0}
    AllWell (tree.more a all) = IsWell a 1 × AllWell all

  abbrev CallFact : Call → Type 0
  CallFact c = CallIs c.node c.arguments 1

  mutual
    pub well : (e : Tree) → All Known (names_in e) → All CallFact (calls_in e) → IsWell e 1
    well (tree.number n) hn hc = tt
    well (tree.truth b) hn hc = tt
    well (tree.label x) hn hc = tt
    well (tree.variable x) hn hc = (refl, all_head Known x [] hn)
    well (tree.unary op a) hn hc = well a hn hc
    well (tree.binary op a b) hn hc =
        (well a (all_left Known (names_in a) (names_in b) hn) (all_left CallFact (calls_in a) (calls_in b) hc), well b (all_right Known (names_in a) (names_in b) hn) (all_right CallFact (calls_in a) (calls_in b) hc))
    well (tree.choice c a b) hn hc =
        let hn' = all_right Known (names_in c) (names_in a ++ names_in b) hn in
        let hc' = all_right CallFact (calls_in c) (calls_in a ++ calls_in b) hc in (
          well c (all_left Known (names_in c) (names_in a ++ names_in b) hn) (all_left CallFact (calls_in c) (calls_in a ++ calls_in b) hc),
          well a (all_left Known (names_in a) (names_in b) hn') (all_left CallFact (calls_in a) (calls_in b) hc'),
          well b (all_right Known (names_in a) (names_in b) hn') (all_right CallFact (calls_in a) (calls_in b) hc'),
        )
    well (tree.when a c) hn hc =
        (all_head Known c.variable [] (all_right Known (names_in a) (c.variable ∷ []) hn), well a (all_left Known (names_in a) (c.variable ∷ []) hn) hc)
    well (tree.current x) hn hc = all_head Known x [] hn
    well (tree.merge c ps all) hn hc =
        (all_head Known c (names_in_all all) hn, all_well all (all_tail Known c (names_in_all all) hn) hc)
    well (tree.call f all) hn hc =
        let c : Call = record { node = f; arguments = length (list_of all) } in
        (all_head CallFact c [] (all_right CallFact (calls_in_all all) (c ∷ []) hc), all_well all hn (all_left CallFact (calls_in_all all) (c ∷ []) hc))

    pub all_well : (all : Trees) → All Known (names_in_all all) → All CallFact (calls_in_all all) → AllWell all
    all_well tree.none hn hc = tt
    all_well (tree.more a all) hn hc = (
      well a (all_left Known (names_in a) (names_in_all all) hn) (all_left CallFact (calls_in a) (calls_in_all all) hc),
      all_well all (all_right Known (names_in a) (names_in_all all) hn) (all_right CallFact (calls_in a) (calls_in_all all) hc),
    )

  -- what the rules say of each call
  pub record Ruled (c : Call) : Type 0 where
    pub known : rules.IsNode p c.node
    pub arity : IfSome (rules.node_called p c.node) (λ n. c.arguments ≡ length n.inputs)
    pub below : Below c.node

  if_at : (o : Option NodeTree) (P : NodeTree → Type 0) (n : NodeTree) → o ≡ Some n → IfSome o P → P n
  if_at o P n e h = subst (λ o. IfSome o P) e h

  call_is : (c : Call) (w : ℕ) → Ruled c → IfSome (rules.node_called p c.node) (λ n. length n.outputs ≡ w) → CallIs c.node c.arguments w
  call_is c w r h =
      let n = is_some_at (rules.node_called p c.node) r.known in
      record {
        callee = n.0;
        found = n.1;
        arguments_are = if_at (rules.node_called p c.node) (λ n. c.arguments ≡ length n.inputs) n.0 n.1 r.arity;
        outputs_are = if_at (rules.node_called p c.node) (λ n. length n.outputs ≡ w) n.0 n.1 h;
        below = r.below;
      }

  both : (calls : List Call) → All Ruled calls → All (λ c. IfSome (rules.node_called p c.node) (λ n. length n.outputs ≡ 1)) calls → All CallFact calls
  both calls r h i d lt = call_is _ 1 (r i d lt) (h i d lt)

  pub right_well : (e : Tree) (w : ℕ) → All Known (names_in e) → All Ruled (calls_in e) → All (λ c. IfSome (rules.node_called p c.node) (λ n. length n.outputs ≡ 1)) (inner_calls e) → IfSome (value_count p e) (λ count. w ≡ count) → IsWell e w
  right_well (tree.number n) w hn hr hi hv = tt
  right_well (tree.truth b) w hn hr hi hv = tt
  right_well (tree.label x) w hn hr hi hv = tt
  right_well (tree.variable x) w hn hr hi hv = (hv, all_head Known x [] hn)
  right_well (tree.unary op a) w hn hr hi hv = well (tree.unary op a) hn (both (calls_in a) hr hi)
  right_well (tree.binary op a b) w hn hr hi hv = well (tree.binary op a b) hn (both (calls_in (tree.binary op a b)) hr hi)
  right_well (tree.choice c a b) w hn hr hi hv = well (tree.choice c a b) hn (both (calls_in (tree.choice c a b)) hr hi)
  right_well (tree.when a c) w hn hr hi hv = well (tree.when a c) hn (both (calls_in a) hr hi)
  right_well (tree.current x) w hn hr hi hv = all_head Known x [] hn
  right_well (tree.merge c ps all) w hn hr hi hv = well (tree.merge c ps all) hn (both (calls_in_all all) hr hi)
  right_well (tree.call f all) w hn hr hi hv =
      let c : Call = record { node = f; arguments = length (list_of all) } in
      let r = all_head Ruled c [] (all_right Ruled (calls_in_all all) (c ∷ []) hr) in
      let n = is_some_at (rules.node_called p f) r.known in
      let count : w ≡ length n.0.outputs = subst (λ (o : Option NodeTree). IfSome (option_map (λ (n : NodeTree). length n.outputs) o) (λ count. w ≡ count)) n.1 hv in
      let is : CallIs f (length (list_of all)) w = call_is c w r (subst (λ (o : Option NodeTree). IfSome o (λ n. length n.outputs ≡ w)) (sym n.1) (sym count)) in
      (is, all_well all hn (both (calls_in_all all) (all_left Ruled (calls_in_all all) (c ∷ []) hr) hi))
