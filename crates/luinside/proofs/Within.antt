-- The calls of a node: inside its list, and of the nodes that its text calls.
use Rattle.std.proofs.Common.{◌≡◌, ◌≤◌, ◌+◌, ◌-◌, ℕ, List, [], ◌∷◌, ◌++◌, Option, map, length, refl, sym, ap, ◌∙◌, arith}
use Rattle.std.specs.Prelude.{All, flat_map}
use Rattle.std.proofs.lemmas.List.{map-append}
use Rattle.std.proofs.lemmas.List.Elements.{All-append, All-cons, All-nil}
use Rattle.lutree.specs.declared.expr.Infix.TheVariants.{Data, Arrow, FollowedBy}
use Rattle.lutree.specs.Tree.{Tree, Trees, EquationTree, NodeTree, ProgramTree}
use Rattle.lutree.specs.Tree as tree
use Rattle.lusource.specs.Names.{variables_of}
use Rattle.lustat_rules.specs.Naming.{Call, calls_in, calls_in_all, called_by, node_place}
use Rattle.lucore_laws.specs.Sizes.{size_at, root_size, made_size, all_size, equations_size, node_size}
use Rattle.lucore_laws.proofs.Names.{all_imp}
use Rattle.luinside.specs.declared.starts.CallStart.{CallStart}
use Rattle.luinside.specs.Starts.{starts, all_starts, equation_starts, node_starts}
use Rattle.luinside.proofs.Pushing.{root_within}

abbrev pub start_node : CallStart → Option ℕ
start_node c = c.node

abbrev call_name : Call → List ℕ
call_name c = c.node

module _ (p : ProgramTree) (s : List ℕ) where
  -- the instance of a call ends at this place or before it
  abbrev pub Inside : ℕ → CallStart → Type 0
  Inside n c = c.at + size_at s c.node ≤ n

  weaker : (m n : ℕ) (cs : List CallStart) → m ≤ n → All (Inside m) cs → All (Inside n) cs
  weaker m n cs le = all_imp (Inside m) (Inside n) cs (λ c h. omega (arith, le, h))

  two : (m n k : ℕ) (cs ds : List CallStart) → m ≤ k → n ≤ k → All (Inside m) cs → All (Inside n) ds → All (Inside k) (cs ++ ds)
  two m n k cs ds le le' all all' = All-append (Inside k) cs ds (weaker m k cs le all) (weaker n k ds le' all')

  -- behind the inner flows of an expression
  abbrev end : Tree → ℕ → ℕ
  end e at = at + (made_size p s e - root_size e)

  within_two : (e a b : Tree) (at : ℕ) → end a at ≤ end e at → end b (at + made_size p s a) ≤ end e at → All (Inside (end a at)) (starts p s a at)
      → All (Inside (end b (at + made_size p s a))) (starts p s b (at + made_size p s a)) → All (Inside (end e at)) (starts p s a at ++ starts p s b (at + made_size p s a))
  within_two e a b at le le' first second =
      two (end a at) (end b (at + made_size p s a)) (end e at) (starts p s a at) (starts p s b (at + made_size p s a)) le le' first second

  mutual
    within : (e : Tree) (at : ℕ) → All (Inside (end e at)) (starts p s e at)
    within (tree.number n) at = All-nil _
    within (tree.truth b) at = All-nil _
    within (tree.label x) at = All-nil _
    within (tree.variable x) at = All-nil _
    within (tree.unary op a) at = weaker (end a at) (end (tree.unary op a) at) (starts p s a at) (omega arith) (within a at)
    within (tree.binary (Data op) a b) at = within_two (tree.binary (Data op) a b) a b at (omega (arith, root_within p s a)) (omega (arith, root_within p s b)) (within a at) (within b (at + made_size p s a))
    within (tree.binary Arrow a b) at = within_two (tree.binary Arrow a b) a b at (omega (arith, root_within p s a)) (omega (arith, root_within p s b)) (within a at) (within b (at + made_size p s a))
    within (tree.binary FollowedBy a b) at = within_two (tree.binary FollowedBy a b) a b at (omega (arith, root_within p s a)) (omega (arith, root_within p s b)) (within a at) (within b (at + made_size p s a))
    within (tree.choice c a b) at =
        let e = tree.choice c a b in
        let at' = at + made_size p s c in
        let at'' = at' + made_size p s a in
        let n = end e at in
        two (end c at) n n (starts p s c at) (starts p s a at' ++ starts p s b at'') (omega arith) (omega arith) (within c at)
        (two (end a at') (end b at'') n (starts p s a at') (starts p s b at'') (omega arith) (omega arith) (within a at') (within b at''))
    within (tree.when a c) at = weaker (end a at) (end (tree.when a c) at) (starts p s a at) (omega arith) (within a at)
    within (tree.current x) at = All-nil _
    within (tree.merge c ps all) at = weaker (at + all_size p s all) (end (tree.merge c ps all) at) (all_starts p s all at) (omega arith) (within_all all at)
    within (tree.call f all) at =
        let n = end (tree.call f all) at in
        let here = at + all_size p s all in
        let c : CallStart = record { node = node_place p f; at = here } in
        two here n n (all_starts p s all at) (c ∷ []) (omega arith) (omega arith) (within_all all at)
        (All-cons (Inside n) c [] (omega arith) (All-nil (Inside n)))

    within_all : (all : Trees) (at : ℕ) → All (Inside (at + all_size p s all)) (all_starts p s all at)
    within_all tree.none at = All-nil _
    within_all (tree.more a all) at =
        let at' = at + made_size p s a in
        let n = at + all_size p s (tree.more a all) in
        two (end a at) (at' + all_size p s all) n (starts p s a at) (all_starts p s all at') (omega arith) (omega arith) (within a at) (within_all all at')

  within_equations : (qs : List EquationTree) (at : ℕ) → All (Inside (at + equations_size p s qs)) (equation_starts p s qs at)
  within_equations [] at = All-nil _
  within_equations (q ∷ qs) at =
      let at' = end q.right at in
      let n = at + equations_size p s (q ∷ qs) in
      two at' (at' + equations_size p s qs) n (starts p s q.right at) (equation_starts p s qs at') (omega arith) (omega arith) (within q.right at) (within_equations qs at')

  -- the instances of the calls lie inside the node's list
  pub within_node : (node : NodeTree) → All (Inside (node_size p s node)) (node_starts p s node)
  within_node node = within_equations node.equations (length (variables_of node))

  -- THEIR NODES

  abbrev Named : List CallStart → List Call → Type 0
  Named cs calls = map start_node cs ≡ map (node_place p) (map call_name calls)

  named_two : (cs ds : List CallStart) (xs ys : List Call) → Named cs xs → Named ds ys → Named (cs ++ ds) (xs ++ ys)
  named_two cs ds xs ys e f =
      map-append start_node cs ds ∙ ap (λ l. l ++ map start_node ds) e ∙ ap (λ l. map (node_place p) (map call_name xs) ++ l) f
      ∙ sym (map-append (node_place p) (map call_name xs) (map call_name ys)) ∙ sym (ap (map (node_place p)) (map-append call_name xs ys))

  mutual
    named : (e : Tree) (at : ℕ) → Named (starts p s e at) (calls_in e)
    named (tree.number n) at = refl
    named (tree.truth b) at = refl
    named (tree.label x) at = refl
    named (tree.variable x) at = refl
    named (tree.unary op a) at = named a at
    named (tree.binary op a b) at =
        named_two (starts p s a at) (starts p s b (at + made_size p s a)) (calls_in a) (calls_in b) (named a at) (named b (at + made_size p s a))
    named (tree.choice c a b) at =
        let at' = at + made_size p s c in
        let at'' = at' + made_size p s a in
        named_two (starts p s c at) (starts p s a at' ++ starts p s b at'') (calls_in c) (calls_in a ++ calls_in b) (named c at)
        (named_two (starts p s a at') (starts p s b at'') (calls_in a) (calls_in b) (named a at') (named b at''))
    named (tree.when a c) at = named a at
    named (tree.current x) at = refl
    named (tree.merge c ps all) at = named_all all at
    named (tree.call f all) at =
        named_two (all_starts p s all at) (record { node = node_place p f; at = at + all_size p s all } ∷ []) (calls_in_all all) (record { node = f; arguments = _ } ∷ []) (named_all all at) refl

    named_all : (all : Trees) (at : ℕ) → Named (all_starts p s all at) (calls_in_all all)
    named_all tree.none at = refl
    named_all (tree.more a all) at =
        named_two (starts p s a at) (all_starts p s all (at + made_size p s a)) (calls_in a) (calls_in_all all) (named a at) (named_all all (at + made_size p s a))

  named_equations : (qs : List EquationTree) (at : ℕ) → map start_node (equation_starts p s qs at) ≡ map (node_place p) (flat_map (λ (q : EquationTree). map call_name (calls_in q.right)) qs)
  named_equations [] at = refl
  named_equations (q ∷ qs) at =
      let at' = end q.right at in
      let names = map call_name (calls_in q.right) in
      let rest = flat_map (λ (q : EquationTree). map call_name (calls_in q.right)) qs in
      map-append start_node (starts p s q.right at) (equation_starts p s qs at') ∙ ap (λ l. l ++ map start_node (equation_starts p s qs at')) (named q.right at)
      ∙ ap (λ l. map (node_place p) names ++ l) (named_equations qs at') ∙ sym (map-append (node_place p) names rest)

  -- the calls are of the nodes that the text calls, in order
  pub named_node : (node : NodeTree) → map start_node (node_starts p s node) ≡ map (node_place p) (called_by node)
  named_node node = named_equations node.equations (length (variables_of node))
