-- What a flow of a node's list is of: an operator in the node's text, or a flow of a called node's list.
use Rattle.std.proofs.Common.{◌≡◌, ℕ, ◌+◌, ◌-◌, ◌<◌, ◌≤◌, ⊎_elim, List, [], length, map, get_or, Option, Some, None, sym, ap, ◌∙◌, subst, arith}
use Rattle.std.specs.Prelude.{slice_get, option_map, option_and_then}
use Rattle.std.proofs.lemmas.List.{append-nil}
use Rattle.std.proofs.lemmas.Option.{slice_get_within, slice_get-get_or}
use Rattle.lutree.specs.declared.expr.Condition.{Condition}
use Rattle.lutree.specs.declared.program.Kind.TheVariants.{Int as Ints}
use Rattle.lutree.specs.Tree.{Tree, Trees, list_of as trees_in, DeclarationTree, EquationTree, NodeTree, ProgramTree}
use Rattle.lutree.specs.Tree as tree
use Rattle.luflow.specs.declared.form.Flow.{Flow}
use Rattle.lusource.specs.Names.{variables_of, place_of}
use Rattle.lucore_laws.specs.Layout.{made, list_of, moved, clock_place, walk, root_flow, variable_flow, variable_count, node_flows}
use Rattle.lucore_laws.specs.Sizes.{made_size}
use Rattle.lucore_laws.proofs.Roots.{get-input, get-other, name_cases, others}
use Rattle.luinside.specs.Parts.{operands, operand_clock, calls_among}
use Rattle.luinside.specs.Owns.{Among, NoneDefines, InnerAt, RootAt, sum_made}
use Rattle.lueval.specs.Reads.{form_reads, reads_at}
use Rattle.luinside.specs.Reads.{moved_by, expression_reads}
use Rattle.luinside.proofs.Operands.{own_at, places_each, end_each}
use Rattle.luinside.proofs.Descent.{Counted, own_inside, flow_own, end_here}
use Rattle.luinside.proofs.Finding.{Located, located, NoCall, own_reads, moved_reads, inner_long}
use Rattle.luinside.proofs.Equations.{AllEquations, equations_all, equation_there, inner_at, variable_at, nowhere, root_reads, begins, before, clock}

module _ (p : ProgramTree) (lists : List (List Flow)) (node : NodeTree) (sizes : List ℕ) (sized : (a : Tree) (k : Option Condition) (s : ℕ) → Counted p lists node sizes a → length (made (walk p lists node a k s)) ≡ made_size p sizes a)
    (counted : (j : ℕ) (q : EquationTree) → slice_get node.equations j ≡ Some q → Counted p lists node sizes q.right) where
  abbrev C : Tree → Type 0
  C = Counted p lists node sizes

  abbrev F : List Flow
  F = node_flows p lists node

  pub all_counted : AllEquations (λ (q : EquationTree). C q.right) node.equations
  all_counted = equations_all (λ (q : EquationTree). C q.right) node.equations counted

  -- AN INNER FLOW

  module _ (target : ℕ) (numbers : List ℕ) (f : Tree) (b c : ℕ) (h : InnerAt p sizes node target numbers f b c) where
    abbrev pub q : EquationTree
    q = h.x.equation

    pub right_counted : C q.right
    right_counted = counted h.number q (equation_there node.equations h.number h.x)

    abbrev pub s : ℕ
    s = begins p lists node sizes sized all_counted h.number h.x

    abbrev pub i : ℕ
    i = before p lists node sizes sized all_counted h.number h.x

    abbrev pub k : Option Condition
    k = clock p lists node sizes sized all_counted h.number h.x

    module _ (G : Tree → Option Condition → ℕ → ℕ → Type 0)
        (down : (e : Tree) (k : Option Condition) (i s : ℕ) → C e → (n : ℕ) (x : Among (operands e) n) → G e k i s → G x.operand (operand_clock node e k n) (i + calls_among x.front) (s + sum_made p sizes x.front))
        (good : G q.right k i s) where
      abbrev pub Place : Type 0
      Place = Located p lists node sizes sized target G down q.right k i s h.rest f b c

      pub where_it_is : Place
      where_it_is = located p lists node sizes sized target G down h.rest q.right k i s f b c right_counted good h.is_own

      -- the target is an own flow of that part
      pub own_there : slice_get F target ≡ slice_get (made (own_at p lists node where_it_is.part.expression where_it_is.part.clock where_it_is.begins)) (target - b)
      own_there =
          let l = where_it_is in
          let e = l.part.expression in
          let low = l.above in
          let is = l.behind in
          let inside = own_low in
          let j = target - s in
          let z : target ≡ s + j = omega (arith, inside) in
          let size = inner_long p lists node sizes sized q.right k s right_counted in
          let high = h.inside in
          let lt : j < length (walk p lists node q.right k s).inner = omega (arith, size, high, inside) in
          let y : target - l.begins ≡ sum_made p sizes (operands e) + (target - b) = omega (arith, low, is) in
          ap (slice_get F) z ∙ inner_at p lists node sizes sized all_counted h.number h.x j lt ∙ l.same j z
          ∙ ap (slice_get (made (walk p lists node e l.part.clock l.begins))) y ∙ flow_own p lists node sizes sized e l.part.clock l.begins l.counted (target - b)
        where
          own_low : s ≤ target
          own_low = (own_inside p sizes target h.rest q.right s i f b c h.is_own).0

    abbrev Any : Tree → Option Condition → ℕ → ℕ → Type 0
    Any e k i s = Unit {0}

    abbrev l : Located p lists node sizes sized target Any (λ e k i s c n x g. tt) q.right k i s h.rest f b c
    l = where_it_is Any (λ e k i s c n x g. tt) tt

    -- what a flow of no call reads
    pub inner_reads : NoCall f → reads_at F target ≡ expression_reads p sizes node f b
    inner_reads quiet =
        let e = l.part.expression in
        let low = l.above in
        let high = l.below in
        ap (option_and_then (λ (flow : Flow). form_reads flow.form)) (own_there Any (λ e k i s c n x g. tt) tt)
        ∙ own_reads p lists node sizes sized e l.part.clock l.begins (target - b) b l.counted (subst NoCall l.found quiet) (omega (arith, low, high)) l.behind
        ∙ ap (λ e. expression_reads p sizes node e b) (sym l.found)

    -- what a flow of a called node reads
    pub called_reads : (g : List ℕ) (all : Trees) → f ≡ tree.call g all → reads_at F target ≡ option_map (moved_by b) (reads_at (list_of p lists g) (target - b))
    called_reads g all is =
        let e = tree.call g all in
        let k' = l.part.clock in
        let s' = l.begins in
        let same : l.part.expression ≡ e = sym l.found ∙ is in
        let kf = operand_clock node e k' in
        let E = end_each p lists node kf (operands e) s' in
        let xs = places_each p lists node kf (operands e) s' in
        let fl = list_of p lists g in
        let end : E ≡ b = end_here p lists node sizes sized e k' s' (subst C same l.counted) ∙ ap (λ e. s' + sum_made p sizes (operands e)) (sym same) ∙ sym l.behind in
        ap (option_and_then (λ (flow : Flow). form_reads flow.form)) (own_there Any (λ e k i s c n x g. tt) tt ∙ ap (λ e. slice_get (made (own_at p lists node e k' s')) (target - b)) same)
        ∙ ap (λ l. reads_at l (target - b)) (append-nil (map (moved E (clock_place node k') xs) fl)) ∙ moved_reads p lists node sizes sized E (clock_place node k') xs fl (target - b)
        ∙ ap (λ n. option_map (moved_by n) (reads_at fl (target - b))) end

  -- A VARIABLE

  -- an input reads nothing
  pub input_reads : (target : ℕ) → target < length node.inputs → reads_at F target ≡ None
  input_reads target lt =
      let d = get_or node.inputs target (record { name = []; kind = Ints; type_name = None; clock = None }) in
      ap (option_and_then (λ (flow : Flow). form_reads flow.form)) (get-input p lists node target d (slice_get-get_or node.inputs target _ lt))

  module _ (target : ℕ) (y : List ℕ) (named : slice_get (variables_of node) target ≡ Some y) (out : length node.inputs ≤ target) where
    -- any other has the flow that its equation gives
    pub variable_there : slice_get F target ≡ Some (variable_flow p lists node node.equations (variable_count p lists node) y)
    variable_there =
        ⊎_elim
        (λ (h : (d : DeclarationTree) × (slice_get node.inputs target ≡ Some d) × (d.name ≡ y)). let lt = slice_get_within node.inputs target h.0 h.1 in absurd (omega (arith, lt, out)))
        (λ (h : (j : ℕ) × (target ≡ length node.inputs + j) × (slice_get (others p lists node) j ≡ Some y)). ap (slice_get F) h.1 ∙ get-other p lists node h.0 y h.2)
        (name_cases p lists node target y named)

    pub nowhere_reads : NoneDefines y node.equations → reads_at F target ≡ None
    nowhere_reads none =
        ap (option_and_then (λ (flow : Flow). form_reads flow.form)) variable_there ∙ nowhere p lists node sizes sized y node.equations (variable_count p lists node) none

    module _ (numbers : List ℕ) (f : Tree) (b : ℕ) (h : RootAt p sizes node y numbers f b) where
      abbrev pub rq : EquationTree
      rq = h.x.equation

      pub root_counted : C rq.right
      root_counted = counted h.number rq (equation_there node.equations h.number h.x)

      abbrev pub rs : ℕ
      rs = begins p lists node sizes sized all_counted h.number h.x

      abbrev pub rk : Option Condition
      rk = clock p lists node sizes sized all_counted h.number h.x

      abbrev pub root : Flow
      root = root_flow p lists node rq (walk p lists node rq.right rk rs).root (place_of rq.left y) y

      pub root_there : slice_get F target ≡ Some root
      root_there = variable_there ∙ ap Some (variable_at p lists node sizes sized all_counted h.number h.x y h.first h.defines)

      pub root_at_reads : reads_at F target ≡ expression_reads p sizes node f b
      root_at_reads =
          ap (option_and_then (λ (flow : Flow). form_reads flow.form)) root_there
          ∙ root_reads p lists node sizes sized rq rq.right rk rs b (place_of rq.left y) y root_counted h.behind
          ∙ ap (λ e. expression_reads p sizes node e b) (sym h.found)
