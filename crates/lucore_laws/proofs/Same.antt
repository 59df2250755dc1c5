-- A program has at most one flat list.
use Rattle.std.proofs.Common.{◌≡◌, ℕ, zero, suc, ◌+◌, Bool, true, false, List, [], ◌∷◌, ◌++◌, length, map, replicate, Option, Some, None, refl, sym, ap, ◌∙◌, subst}
use Rattle.std.specs.Prelude.{slice_get, option_map, flat_map, Contains, All, if◌then◌else◌}
use Rattle.std.specs.List.{list_any}
use Rattle.std.specs.Str.{bytes_eq}
use Rattle.std.proofs.Math.Path.{fun_ext}
use Rattle.std.proofs.lemmas.Option.{same_Some, slice_get-map}
use Rattle.std.proofs.lemmas.List.Elements.{Contains-append_left, Contains-append_right}
use Rattle.lutree.specs.declared.expr.Pattern.{Pattern}
use Rattle.lutree.specs.declared.expr.Condition.{Condition}
use Rattle.lutree.specs.declared.expr.Prefix.TheVariants.{Data as Data1, Pre as Before}
use Rattle.lutree.specs.declared.expr.Infix.TheVariants.{Data as Data2, Arrow as Starts, FollowedBy}
use Rattle.lutree.specs.Tree.{Tree, Trees, list_of as trees_in, DeclarationTree, EquationTree, NodeTree, ProgramTree}
use Rattle.lutree.specs.Tree as tree
use Rattle.luflow.specs.declared.form.Form.TheVariants.{Unary, Binary, If, Pre, Arrow, When, Merge}
use Rattle.luflow.specs.declared.form.Flow.{Flow}
use Rattle.lusource.specs.Names.{variables_of, place_of, name_at, clock_of}
use Rattle.lustat_rules.specs.Scope.{names_of, first_named, node_called}
use Rattle.lusource.specs.Source.{condition, first_pattern, next_patterns}
use Rattle.lustat_rules.specs.Naming.{Call, Calls, Reaches, calls_in, calls_in_all, place_of_first, node_place}
use Rattle.lucore_laws.specs.Layout.{Walking, leaf, after, moved, instance, inputs_in, list_at, list_of, clock_place, flow_of, variable_place, walk, walk_all, walk_branches, walk_right, left_clock, root_flow, inner_flows, variable_flow, inner_owners, owner_of, variable_count, input_flows, node_flows, node_owners, AreLists, main_variables}
use Rattle.lucore_laws.specs.Layout.Root.{at}
use Rattle.lucore_laws.specs.ListLaws.{OneListLaw}
use Rattle.lucore_laws.proofs.Names.{all_left, all_right, all_head, all_of, contains_get, listed}
use Rattle.lucore_laws.proofs.Roots.{input}
use Rattle.lucore_laws.proofs.ByCalls.{by_calls, none_reaches}

module _ (p : ProgramTree) (a b : List (List Flow)) (node : NodeTree) where
  -- both have the same list of a node
  abbrev Same : Call → Type 0
  Same c = list_of p a c.node ≡ list_of p b c.node

  mutual
    walk_same : (e : Tree) (k : Option Condition) → All Same (calls_in e) → walk p a node e k ≡ walk p b node e k
    walk_same (tree.number n) k h = refl
    walk_same (tree.truth c) k h = refl
    walk_same (tree.label x) k h = refl
    walk_same (tree.variable x) k h = refl
    walk_same (tree.unary (Data1 op) x) k h = ap (λ w. after w (λ y. leaf (flow_of p a node (tree.unary (Data1 op) x) k (Unary op y)))) (walk_same x k h)
    walk_same (tree.unary Before x) k h = ap (λ w. after w (λ y. leaf (flow_of p a node (tree.unary Before x) k (Pre y)))) (walk_same x k h)
    walk_same (tree.binary (Data2 op) x y) k h =
        let root = λ (i j : ℕ). flow_of p a node (tree.binary (Data2 op) x y) k (Binary op i j) in
        ap (λ w. after w (λ i. after (walk p a node y k) (λ j. leaf (root i j)))) (walk_same x k (all_left Same (calls_in x) (calls_in y) h))
        ∙ ap (λ w. after (walk p b node x k) (λ i. after w (λ j. leaf (root i j)))) (walk_same y k (all_right Same (calls_in x) (calls_in y) h))
    walk_same (tree.binary Starts x y) k h =
        let root = λ (i j : ℕ). flow_of p a node (tree.binary Starts x y) k (Arrow i j) in
        ap (λ w. after w (λ i. after (walk p a node y k) (λ j. leaf (root i j)))) (walk_same x k (all_left Same (calls_in x) (calls_in y) h))
        ∙ ap (λ w. after (walk p b node x k) (λ i. after w (λ j. leaf (root i j)))) (walk_same y k (all_right Same (calls_in x) (calls_in y) h))
    walk_same (tree.binary FollowedBy x y) k h =
        let pre = λ (j : ℕ). leaf (flow_of p a node (tree.unary Before y) k (Pre j)) in
        let root = λ (i j : ℕ). flow_of p a node (tree.binary FollowedBy x y) k (Arrow i j) in
        ap (λ w. after w (λ i. after (walk p a node y k) (λ j. after (pre j) (λ l. leaf (root i l))))) (walk_same x k (all_left Same (calls_in x) (calls_in y) h))
        ∙ ap (λ w. after (walk p b node x k) (λ i. after w (λ j. after (pre j) (λ l. leaf (root i l))))) (walk_same y k (all_right Same (calls_in x) (calls_in y) h))
    walk_same (tree.choice c x y) k h =
        let root = λ (l i j : ℕ). flow_of p a node (tree.choice c x y) k (If l i j) in
        let h' = all_right Same (calls_in c) (calls_in x ++ calls_in y) h in
        ap (λ w. after w (λ l. after (walk p a node x k) (λ i. after (walk p a node y k) (λ j. leaf (root l i j))))) (walk_same c k (all_left Same (calls_in c) (calls_in x ++ calls_in y) h))
        ∙ ap (λ w. after (walk p b node c k) (λ l. after w (λ i. after (walk p a node y k) (λ j. leaf (root l i j))))) (walk_same x k (all_left Same (calls_in x) (calls_in y) h'))
        ∙ ap (λ w. after (walk p b node c k) (λ l. after (walk p b node x k) (λ i. after w (λ j. leaf (root l i j))))) (walk_same y k (all_right Same (calls_in x) (calls_in y) h'))
    walk_same (tree.when x c) k h = ap (λ w. after w (λ y. leaf (flow_of p a node (tree.when x c) (Some c) (When y)))) (walk_same x (clock_of node c.variable) h)
    walk_same (tree.current x) k h = refl
    walk_same (tree.merge c ps all) k h =
        walk_branches_same c ps all (λ xs. leaf (flow_of p a node (tree.merge c ps all) k (Merge (variable_place p a node c) xs))) h
    walk_same (tree.call f all) k h =
        let c : Call = record { node = f; arguments = length (trees_in all) } in
        let same = all_head Same c [] (all_right Same (calls_in_all all) (c ∷ []) h) in
        let ck = clock_place node k in
        walk_all_same all k (λ xs. instance p a f ck xs) (λ xs. instance p b f ck xs)
        (ap {B = List ℕ → Walking} (λ (l : List Flow) xs s. record { inner = map (moved s ck xs) l; root = at (s + inputs_in (node_called p f)) }) same)
        (all_left Same (calls_in_all all) (c ∷ []) h)

    walk_all_same : (all : Trees) (k : Option Condition) (rest rest' : List ℕ → Walking) → rest ≡ rest' → All Same (calls_in_all all) → walk_all p a node all k rest ≡ walk_all p b node all k rest'
    walk_all_same tree.none k rest rest' e h = ap (λ (r : List ℕ → Walking). r []) e
    walk_all_same (tree.more x all) k rest rest' e h =
        ap (λ w. after w (λ i. walk_all p a node all k (λ xs. rest (i ∷ xs)))) (walk_same x k (all_left Same (calls_in x) (calls_in_all all) h))
        ∙ ap (λ (r : ℕ → Walking). after (walk p b node x k) r) (fun_ext (λ i. walk_all_same all k (λ xs. rest (i ∷ xs)) (λ xs. rest' (i ∷ xs)) (ap {B = List ℕ → Walking} (λ (r : List ℕ → Walking) xs. r (i ∷ xs)) e) (all_right Same (calls_in x) (calls_in_all all) h)))

    walk_branches_same : (c : List ℕ) (ps : List Pattern) (all : Trees) (rest : List ℕ → Walking) → All Same (calls_in_all all) → walk_branches p a node c ps all rest ≡ walk_branches p b node c ps all rest
    walk_branches_same c ps tree.none rest h = refl
    walk_branches_same c ps (tree.more x all) rest h =
        let k = condition c (first_pattern ps) in
        let qs = next_patterns ps in
        ap (λ w. after w (λ i. walk_branches p a node c qs all (λ xs. rest (i ∷ xs)))) (walk_same x k (all_left Same (calls_in x) (calls_in_all all) h))
        ∙ ap (λ (r : ℕ → Walking). after (walk p b node x k) r) (fun_ext (λ i. walk_branches_same c qs all (λ xs. rest (i ∷ xs)) (all_right Same (calls_in x) (calls_in_all all) h)))

  abbrev AllSame : List EquationTree → Type 0
  AllSame qs = (j : ℕ) (q : EquationTree) → slice_get qs j ≡ Some q → All Same (calls_in q.right)

  right_same : (q : EquationTree) → All Same (calls_in q.right) → walk_right p a node q ≡ walk_right p b node q
  right_same q h = walk_same q.right (left_clock p a node q) h

  inner_same : (qs : List EquationTree) (s : ℕ) → AllSame qs → inner_flows p a node qs s ≡ inner_flows p b node qs s
  inner_same [] s h = refl
  inner_same (q ∷ qs) s h =
      ap (λ (w : Walking). (w s).inner ++ inner_flows p a node qs (s + length (w s).inner)) (right_same q (h 0 q refl))
      ∙ ap (λ l. (walk_right p b node q s).inner ++ l) (inner_same qs (s + length (walk_right p b node q s).inner) (λ j q e. h (suc j) q e))

  flow_same : (qs : List EquationTree) (s : ℕ) (x : List ℕ) → AllSame qs → variable_flow p a node qs s x ≡ variable_flow p b node qs s x
  flow_same [] s x h = refl
  flow_same (q ∷ qs) s x h =
      let here = list_any (λ y. bytes_eq y x) q.left in
      let j = place_of q.left x in
      ap (λ (w : Walking). if here then root_flow p a node q (w s).root j x else variable_flow p a node qs (s + length (w s).inner) x) (right_same q (h 0 q refl))
      ∙ ap (λ f. if here then root_flow p b node q (walk_right p b node q s).root j x else f) (flow_same qs (s + length (walk_right p b node q s).inner) x (λ j q e. h (suc j) q e))

  owners_same : (qs : List EquationTree) (s : ℕ) → AllSame qs → inner_owners p a node qs s ≡ inner_owners p b node qs s
  owners_same [] s h = refl
  owners_same (q ∷ qs) s h =
      let v = variable_place p a node (name_at q.left 0) in
      ap (λ (w : Walking). replicate (length (w s).inner) v ++ inner_owners p a node qs (s + length (w s).inner)) (right_same q (h 0 q refl))
      ∙ ap (λ l. replicate (length (walk_right p b node q s).inner) v ++ l) (owners_same qs (s + length (walk_right p b node q s).inner) (λ j q e. h (suc j) q e))

  inputs_same : (r : ℕ) (ds : List DeclarationTree) → input_flows p a node r ds ≡ input_flows p b node r ds
  inputs_same r [] = refl
  inputs_same r (d ∷ ds) = ap (λ l. input p a node r d.kind ∷ l) (inputs_same (suc r) ds)

  map_same : (f g : List ℕ → Flow) → ((x : List ℕ) → f x ≡ g x) → (xs : List (List ℕ)) → map f xs ≡ map g xs
  map_same f g h [] = refl
  map_same f g h (x ∷ xs) = ap (λ y. y ∷ map f xs) (h x) ∙ ap (λ l. g x ∷ l) (map_same f g h xs)

  pub nodes_same : AllSame node.equations → (node_flows p a node ≡ node_flows p b node) × (node_owners p a node ≡ node_owners p b node)
  nodes_same h =
      let nv = variable_count p a node in
      let names = names_of (node.outputs ++ node.locals) in (
        ap (λ l. l ++ (map (variable_flow p a node node.equations nv) names ++ inner_flows p a node node.equations nv)) (inputs_same 0 node.inputs)
            ∙ ap (λ l. input_flows p b node 0 node.inputs ++ (l ++ inner_flows p a node node.equations nv)) (map_same (variable_flow p a node node.equations nv) (variable_flow p b node node.equations nv) (λ x. flow_same node.equations nv x h) names)
            ∙ ap (λ l. input_flows p b node 0 node.inputs ++ (map (variable_flow p b node node.equations nv) names ++ l)) (inner_same node.equations nv h),
        ap (λ l. map (owner_of node node.equations) (variables_of node) ++ l) (owners_same node.equations nv h),
      )

place_step : (t : Bool) (n : NodeTree) (rest : Option NodeTree) (place : Option ℕ) → (rest ≡ None → place ≡ None) → (if t then Some n else rest) ≡ None → (if t then Some 0 else option_map suc place) ≡ None
place_step true n rest place h e = cc
place_step false n rest place h e = ap (option_map suc) (h e)

no_first : (ns : List NodeTree) (f : List ℕ) → first_named ns f ≡ None → place_of_first ns f ≡ None
no_first [] f e = refl
no_first (n ∷ ns) f e = place_step (bytes_eq n.name f) n (first_named ns f) (place_of_first ns f) (no_first ns f) e

pub no_place : (p : ProgramTree) (f : List ℕ) → node_called p f ≡ None → node_place p f ≡ None
no_place p f e = no_first p.nodes f e

pub called_in : (qs : List EquationTree) (j k : ℕ) (q : EquationTree) (c : Call) → slice_get qs j ≡ Some q → slice_get (calls_in q.right) k ≡ Some c → Contains (flat_map (λ (q : EquationTree). map (λ (c : Call). c.node) (calls_in q.right)) qs) c.node
called_in [] j k q c e f = cc
called_in (r ∷ qs) zero k q c e f =
    let same : r ≡ q = same_Some r q e in
    let here = contains_get (map (λ (c : Call). c.node) (calls_in q.right)) c.node k (slice_get-map (λ (c : Call). c.node) (calls_in q.right) k ∙ ap (option_map (λ (c : Call). c.node)) f) in
    Contains-append_left (map (λ (c : Call). c.node) (calls_in r.right)) _ c.node (subst (λ (q : EquationTree). Contains (map (λ (c : Call). c.node) (calls_in q.right)) c.node) (sym same) here)
called_in (r ∷ qs) (suc j) k q c e f = Contains-append_right (map (λ (c : Call). c.node) (calls_in r.right)) _ c.node (called_in qs j k q c e f)

module _ (p : ProgramTree) (a b : List (List Flow)) (are_a : AreLists p a) (are_b : AreLists p b) (never : (f : List ℕ) → ¬ Reaches p f f) where
  abbrev SameLists : List ℕ → Type 0
  SameLists f = list_of p a f ≡ list_of p b f

  calls_same : (f : List ℕ) (n : NodeTree) → node_called p f ≡ Some n → ((g : List ℕ) → Calls p f g → SameLists g) → AllSame p a b n n.equations
  calls_same f n e h j q here = all_of (Same p a b n) (calls_in q.right) (λ k c there. h c.node (n, e, called_in n.equations j k q c here there))

  step : (f : List ℕ) → ((g : List ℕ) → Calls p f g → SameLists g) → SameLists f
  step f h = go (node_called p f) refl
    where
      go : (o : Option NodeTree) → node_called p f ≡ o → SameLists f
      go None e = ap (list_at a) (no_place p f e) ∙ sym (ap (list_at b) (no_place p f e))
      go (Some n) e = listed p a are_a f n e ∙ (nodes_same p a b n (calls_same f n e h)).0 ∙ sym (listed p b are_b f n e)

  pub lists_same : (f : List ℕ) → SameLists f
  lists_same = by_calls p never SameLists step

  pub main_same : (f : List ℕ) (n : NodeTree) → node_called p f ≡ Some n → (node_flows p a n ≡ node_flows p b n) × (node_owners p a n ≡ node_owners p b n)
  main_same f n e = nodes_same p a b n (calls_same f n e (λ g call. lists_same g))

pub one_list : OneListLaw
one_list p main x y keeps out out' =
    let never = none_reaches p (λ i n e. keeps.nodes i n e) in
    let same : out.node ≡ out'.node = same_Some out.node out'.node (sym out.is_main ∙ out'.is_main) in
    let m = main_same p out.lists out'.lists out.are_lists out'.are_lists never main out.node out.is_main in
    record {
      flows = out.flows ∙ m.0 ∙ ap (node_flows p out'.lists) same ∙ sym out'.flows;
      owners = out.owners ∙ m.1 ∙ ap (node_owners p out'.lists) same ∙ sym out'.owners;
      variables = out.variables ∙ ap main_variables same ∙ sym out'.variables;
      types = out.types ∙ sym out'.types;
    }
