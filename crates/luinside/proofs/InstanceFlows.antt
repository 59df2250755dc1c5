-- Where a flow of an instance is at fault, an operator in the text of its node is, or a flow of an instance of a call there.
use Rattle.std.proofs.Common.{◌≡◌, ℕ, ◌+◌, ◌-◌, ◌<◌, ◌≤◌, List, [], ◌∷◌, length, Option, Some, sym, ap, ◌∙◌, subst, arith}
use Rattle.std.specs.Prelude.{slice_get, option_map, option_and_then}
use Rattle.std.proofs.lemmas.Option.{same_Some}
use Rattle.lutree.specs.declared.expr.Condition.{Condition}
use Rattle.lutree.specs.declared.expr.Prefix.TheVariants.{Data as Data1, Pre as Before}
use Rattle.lutree.specs.declared.expr.Infix.TheVariants.{Data as Data2, Arrow as Starts, FollowedBy}
use Rattle.lutree.specs.Tree.{Tree, Trees, EquationTree, NodeTree, ProgramTree}
use Rattle.lutree.specs.Tree as tree
use Rattle.luflow.specs.declared.form.FaultKind.{FaultKind}
use Rattle.luflow.specs.declared.form.Flow.{Flow}
use Rattle.luflow.specs.Streams.{Stream, Streams, Ticks}
use Rattle.lusource.specs.Names.{variables_of, place_of, name_at, clock_of, AreDistinct}
use Rattle.lusource.specs.Source.{Path, SourceStreams, HoldsAt, If, ticks, sites_of, all_sites}
use Rattle.lusource.specs.Instances.{called_in}
use Rattle.lustat_rules.specs.Scope.{node_called}
use Rattle.lustat_rules.specs.Naming.{Reaches}
use Rattle.lucore_laws.specs.Layout.{made, list_of, clock_place, walk, root_flow, node_flows, variable_place, AreLists}
use Rattle.lucore_laws.specs.Sizes.{root_size, made_size}
use Rattle.lucore_laws.proofs.Each.{Each, each_all}
use Rattle.lucore_laws.proofs.Facts.{NodeFacts, Below}
use Rattle.lucore_laws.proofs.ListInstances.{HasInstances, spot_node, spot_named}
use Rattle.lucore_laws.proofs.Names.{listed}
use Rattle.lucore_laws.proofs.NodeFaults as nodes
use Rattle.lucore_laws.proofs.NodeFaults.{reported_all}
use Rattle.lucore_laws.proofs.Open.{Model, clock_ticks, FlowHolds, Solves}
use Rattle.lucore_laws.proofs.SourceFaults.{FlowFails, ReportsAndShows}
use Rattle.lucore_laws.proofs.Spots.{node_spots}
use Rattle.lucore_laws.proofs.Well.{Known}
use Rattle.luinside.specs.Parts.{Part, part_at, right_side, operands, operand_clock, calls_among, rights}
use Rattle.luinside.specs.Owns.{Among, EquationAmong, InnerAt, RootAt, own_size, sum_made}
use Rattle.lueval.specs.declared.faults.Reads.{Reads}
use Rattle.lueval.specs.Reads.{form_reads}
use Rattle.luinside.specs.Reads.{expression_reads}
use Rattle.luinside.specs.Sites.{FailsHere}
use Rattle.luinside.proofs.Operands.{own_at}
use Rattle.luinside.proofs.Descent.{Counted, made_is}
use Rattle.luinside.proofs.Finding.{NoCall, own_reads}
use Rattle.luinside.proofs.CallSites.{each_equation_site}
use Rattle.luinside.proofs.Equations.{AllEquations, equation_there, equations_before, each_inner, each_spots, begins, before, clock}
use Rattle.luinside.proofs.FlowOwners as standing
use Rattle.luinside.proofs.Failing as failing
use Rattle.luinside.proofs.Failing.{fails_reads, Good, fails_here, call_fails, Called}

module _ (p : ProgramTree) (lists : List (List Flow)) (are : AreLists p lists) (facts : (f : List ℕ) (n : NodeTree) → node_called p f ≡ Some n → NodeFacts p n) (never : (f : List ℕ) → ¬ Reaches p f f) (t : ℕ) (kind : FaultKind) (sizes : List ℕ)
    (sized : (node : NodeTree) (a : Tree) (k : Option Condition) (s : ℕ) → Counted p lists node sizes a → length (made (walk p lists node a k s)) ≡ made_size p sizes a) where
  -- Flow x of an instance of the node called f is at fault, where the instance begins at a place of the flat list, has these streams
  -- in a solution, and stands on a base clock.
  pub record Fails (f : List ℕ) (σ : SourceStreams) (τ : Streams) (start x : ℕ) : Type 0 where
    pub base : Ticks
    pub given : List Stream
    pub holds : (path : Path) → HoldsAt p f base given σ path
    pub model : Model
    pub moves : (y : ℕ) → model.on y ≡ τ (start + y)
    pub solves : Solves base model (list_of p lists f)
    pub instances : HasInstances p lists f model.on σ
    pub flow : Flow
    pub there : slice_get (list_of p lists f) x ≡ Some flow
    pub fails : FlowFails base model t kind flow

  module _ (f : List ℕ) (node : NodeTree) (found : node_called p f ≡ Some node) (counted : (j : ℕ) (q : EquationTree) → slice_get node.equations j ≡ Some q → Counted p lists node sizes q.right)
      (σ : SourceStreams) (τ : Streams) (start x : ℕ) (h : Fails f σ τ start x) where
    abbrev m : Model
    m = h.model

    apart : (f : List ℕ) (n : NodeTree) → node_called p f ≡ Some n → AreDistinct (variables_of n)
    apart = nodes.apart p lists are facts never t kind

    tells : (g : List ℕ) → Below node g → ReportsAndShows p lists t kind g
    tells g below = reported_all p lists are facts never t kind g

    agree : (y : List ℕ) → Known p node (Below node) y → m.on (variable_place p lists node y) ≡ σ [] y
    agree = nodes.agree p lists are facts never t kind f node found m.on σ h.instances

    abbrev S : (a : Tree) (k : Option Condition) (s : ℕ) → Counted p lists node sizes a → length (made (walk p lists node a k s)) ≡ made_size p sizes a
    S = sized node

    abbrev GoodHere : Tree → Option Condition → ℕ → ℕ → Type 0
    GoodHere = Good p lists node (Below node) h.base m σ t kind apart tells agree

    clock_known : (y : List ℕ) → failing.KnownClock p lists node (Below node) h.base m σ t kind apart tells agree (clock_of node y)
    clock_known = nodes.clock_known p lists node (facts f node found) h.base m σ t kind apart tells agree f found

    step : (e : Tree) (k : Option Condition) (i s : ℕ) → Counted p lists node sizes e → (n : ℕ) (x : Among (operands e) n) → GoodHere e k i s → GoodHere x.operand (operand_clock node e k n) (i + calls_among x.front) (s + sum_made p sizes x.front)
    step e k i s c n x g = failing.down p lists node (Below node) h.base m σ t kind apart tells agree clock_known sizes S e k i s c g n x

    solved : Solves h.base m (node_flows p lists node)
    solved = subst (Solves h.base m) (listed p lists are f node found) h.solves

    there : slice_get (node_flows p lists node) x ≡ Some h.flow
    there = ap (λ l. slice_get l x) (sym (listed p lists are f node found)) ∙ h.there

    abbrev all : AllEquations (λ (q : EquationTree). Counted p lists node sizes q.right) node.equations
    all = standing.all_counted p lists node sizes S counted

    itself : {A : Type 0} (xs : List A) → Each (λ n y. slice_get xs n ≡ Some y) 0 xs
    itself xs = each_all (λ n y. slice_get xs n ≡ Some y) 0 xs (λ j y e. let z : j ≡ 0 + j = omega arith in subst (λ n. slice_get xs n ≡ Some y) z e)

    -- the right side of an equation where it stands
    good_at : (j : ℕ) (x : EquationAmong node.equations j) → GoodHere x.equation.right (clock p lists node sizes S all j x) (before p lists node sizes S all j x) (begins p lists node sizes S all j x)
    good_at j x = record {
      width = length x.equation.left;
      well = (facts f node found).rights j x.equation (equation_there node.equations j x);
      known = clock_known (name_at x.equation.left 0);
      placed = each_spots p lists node sizes S all j x (failing.Placed p lists node (Below node) h.base m σ t kind apart tells agree) (nodes.all_placed p lists are facts never t kind f node found m.on σ h.instances);
      hold = each_inner p lists node sizes S all j x (FlowHolds h.base m) (nodes.inner_hold p lists node (facts f node found) h.base m σ t kind apart tells agree f found solved);
      spots_are = each_spots p lists node sizes S all j x (failing.IsSpot p lists node (Below node) h.base m σ t kind apart tells agree) (itself (node_spots p lists node));
      calls_are = each_equation_site p node h.base (σ []) (λ i. σ (i ∷ [])) (failing.IsSite p lists node (Below node) h.base m σ t kind apart tells agree) node.equations j x
          (itself (all_sites p node h.base (σ []) (λ i. σ (i ∷ [])) node.equations 0));
    }

    -- an operator of the node's text that is at fault, and what it reads
    pub record FaultPart (numbers : List ℕ) (e : Tree) (b : ℕ) : Type 0 where
      pub number : ℕ
      pub rest : List ℕ
      pub numbers_are : numbers ≡ number ∷ rest
      pub equation : EquationTree
      pub is_equation : slice_get node.equations number ≡ Some equation
      pub part : Part
      pub is_part : part_at node (right_side node number equation) rest ≡ Some part
      pub reads : Reads
      pub reads_are : expression_reads p sizes node e b ≡ Some reads
      pub at_fault : FailsHere p node h.base (σ []) (λ i. σ (i ∷ [])) m.on t kind reads part.expression part.clock part.before

    right_part : (j : ℕ) (x : EquationAmong node.equations j) (rest : List ℕ)
        → part_at node (right_side node j x.equation) rest ≡ part_at node (record { expression = x.equation.right; clock = clock p lists node sizes S all j x; before = before p lists node sizes S all j x }) rest
    right_part j x rest =
        ap (λ qs. part_at node (record { expression = x.equation.right; clock = clock p lists node sizes S all j x; before = calls_among (rights qs) }) rest) (equations_before node.equations j x)

    module _ (numbers : List ℕ) (e : Tree) (b c : ℕ) (a : InnerAt p sizes node x numbers e b c) where
      abbrev good : GoodHere a.x.equation.right (clock p lists node sizes S all a.number a.x) (before p lists node sizes S all a.number a.x) (begins p lists node sizes S all a.number a.x)
      good = good_at a.number a.x

      abbrev l : standing.Place p lists node sizes S counted x numbers e b c a GoodHere step good
      l = standing.where_it_is p lists node sizes S counted x numbers e b c a GoodHere step good

      own : slice_get (made (own_at p lists node l.part.expression l.part.clock l.begins)) (x - b) ≡ Some h.flow
      own = sym (standing.own_there p lists node sizes S counted x numbers e b c a GoodHere step good) ∙ there

      -- an inner flow of no call
      pub inner_fails : NoCall e → FaultPart numbers e b
      inner_fails quiet =
          let low = l.above in
          let high = l.below in
          let lt : x - b < own_size p sizes l.part.expression = omega (arith, low, high) in
          let some = fails_reads m.on t kind h.flow.form h.fails.1 in
          let own_read = own_reads p lists node sizes S l.part.expression l.part.clock l.begins (x - b) b l.counted (subst NoCall l.found quiet) lt l.behind in
          let reads = sym own_read ∙ ap (option_and_then (λ (flow : Flow). form_reads flow.form)) own ∙ some.1 in
          record {
            number = a.number;
            rest = a.rest;
            numbers_are = a.numbers_are;
            equation = a.x.equation;
            is_equation = equation_there node.equations a.number a.x;
            part = l.part;
            is_part = right_part a.number a.x a.rest ∙ l.is_part;
            reads = some.0;
            reads_are = ap (λ e. expression_reads p sizes node e b) l.found ∙ reads;
            at_fault = fails_here p lists node (Below node) h.base m σ t kind apart tells agree clock_known sizes S l.part.expression l.part.clock l.part.before l.begins l.counted l.good (x - b) b h.flow some.0 lt l.behind own h.fails reads;
          }

      -- a flow of a call
      pub call_next : (g : List ℕ) (args : Trees) → e ≡ tree.call g args → (slice_get (called_in (Some node)) c ≡ Some g) × Fails g (λ path. σ (c ∷ path)) τ (start + b) (x - b)
      call_next g args is =
          let same : l.part.expression ≡ tree.call g args = sym l.found ∙ is in
          let k = l.part.clock in
          let s = l.begins in
          let i = l.part.before in
          let behind : b ≡ s + sum_made p sizes (operands (tree.call g args)) = l.behind ∙ ap (λ e. s + sum_made p sizes (operands e)) same in
          let before : c ≡ i + calls_among (operands (tree.call g args)) = l.before ∙ ap (λ e. i + calls_among (operands e)) same in
          let called = call_fails p lists node (Below node) h.base m σ t kind apart tells agree clock_known sizes S g args k i s (x - b) b c h.flow
          (subst (Counted p lists node sizes) same l.counted) (subst (λ e. GoodHere e k i s) same l.good) behind before
          (subst (λ e. slice_get (made (own_at p lists node e k s)) (x - b) ≡ Some h.flow) same own) h.fails in
          let deep : (path : Path) → HoldsAt p g (ticks h.base (σ []) k) called.arguments (λ rest. σ (c ∷ rest)) path =
          λ path.
          let whole = subst (λ o. If (slice_get (sites_of p o h.base (σ []) (λ i. σ (i ∷ []))) c) (λ site. HoldsAt p site.node site.base site.arguments (λ rest. σ (c ∷ rest)) path)) found (h.holds (c ∷ path)) in
          subst (λ o. If o (λ site. HoldsAt p site.node site.base site.arguments (λ rest. σ (c ∷ rest)) path)) called.site whole in (
            spot_named p lists (Some node) c ∙ ap (option_map spot_node) called.spot,
            record {
              base = clock_ticks h.base m.on (clock_place node k);
              given = called.arguments;
              holds = λ path. subst (λ base. HoldsAt p g base called.arguments (λ rest. σ (c ∷ rest)) path) (sym called.clock_same) (deep path);
              model = called.model;
              moves = λ y. let z : start + (b + y) ≡ start + b + y = omega arith in called.moves y ∙ h.moves (b + y) ∙ ap τ z;
              solves = called.solves;
              instances = called.instances;
              flow = called.flow;
              there = called.there;
              fails = called.fails;
            },
          )

    -- the root of an equation's right side
    abbrev At : Reads → Tree → Option Condition → ℕ → Type 0
    At r = FailsHere p node h.base (σ []) (λ i. σ (i ∷ [])) m.on t kind r

    root_here : (q : EquationTree) (e : Tree) (k : Option Condition) (i s b n : ℕ) (y : List ℕ) (r : Reads) → Counted p lists node sizes e → GoodHere e k i s → b ≡ s + (made_size p sizes e - root_size e)
        → root_flow p lists node q (walk p lists node e k s).root n y ≡ h.flow → expression_reads p sizes node e b ≡ Some r → At r e k i
    root_here q (tree.number v) k i s b n y r c good is same reads = cc
    root_here q (tree.truth v) k i s b n y r c good is same reads = cc
    root_here q (tree.label v) k i s b n y r c good is same reads = cc
    root_here q (tree.variable v) k i s b n y r c good is same reads = cc
    root_here q (tree.unary (Data1 op) d) k i s b n y r c good is same reads =
        let e = tree.unary (Data1 op) d in
        let size = made_is p sizes e in
        fails_here p lists node (Below node) h.base m σ t kind apart tells agree clock_known sizes S e k i s c good 0 b h.flow r (omega arith) (omega (arith, is, size)) (ap Some same) h.fails reads
    root_here q (tree.unary Before d) k i s b n y r c good is same reads = cc
    root_here q (tree.binary (Data2 op) d d') k i s b n y r c good is same reads =
        let e = tree.binary (Data2 op) d d' in
        let size = made_is p sizes e in
        fails_here p lists node (Below node) h.base m σ t kind apart tells agree clock_known sizes S e k i s c good 0 b h.flow r (omega arith) (omega (arith, is, size)) (ap Some same) h.fails reads
    root_here q (tree.binary Starts d d') k i s b n y r c good is same reads = cc
    root_here q (tree.binary FollowedBy d d') k i s b n y r c good is same reads = cc
    root_here q (tree.choice d d' d'') k i s b n y r c good is same reads = cc
    root_here q (tree.when d v) k i s b n y r c good is same reads = cc
    root_here q (tree.current v) k i s b n y r c good is same reads = cc
    root_here q (tree.merge v ps ds) k i s b n y r c good is same reads = cc
    root_here q (tree.call g ds) k i s b n y r c good is same reads = cc

    -- the flow of a variable
    pub root_fails : (y : List ℕ) (named : slice_get (variables_of node) x ≡ Some y) (out : length node.inputs ≤ x) (numbers : List ℕ) (e : Tree) (b : ℕ) → RootAt p sizes node y numbers e b → FaultPart numbers e b
    root_fails y named out numbers e b a =
        let q = a.x.equation in
        let k = clock p lists node sizes S all a.number a.x in
        let s = begins p lists node sizes S all a.number a.x in
        let i = before p lists node sizes S all a.number a.x in
        let some = fails_reads m.on t kind h.flow.form h.fails.1 in
        let reads = sym (standing.root_at_reads p lists node sizes S counted x y named out numbers e b a) ∙ ap (option_and_then (λ (flow : Flow). form_reads flow.form)) there ∙ some.1 in
        let is = same_Some _ h.flow (sym (standing.root_there p lists node sizes S counted x y named out numbers e b a) ∙ there) in
        record {
          number = a.number;
          rest = [];
          numbers_are = a.numbers_are;
          equation = q;
          is_equation = equation_there node.equations a.number a.x;
          part = record { expression = q.right; clock = k; before = i };
          is_part = right_part a.number a.x [];
          reads = some.0;
          reads_are = reads;
          at_fault = root_here q q.right k i s b (place_of q.left y) y some.0 (standing.root_counted p lists node sizes S counted x y named out numbers e b a) (good_at a.number a.x) a.behind is
              (ap (λ e. expression_reads p sizes node e b) (sym a.found) ∙ reads);
        }
