-- On the way from the main node's instance to a flow.
use Rattle.std.proofs.Common.{◌≡◌, ℕ, ◌+◌, ◌-◌, ◌<◌, ◌≤◌, ◌⊎◌, inl, inr, ⊎_elim, List, [], ◌∷◌, ◌++◌, length, Option, Some, None, refl, sym, ap, ◌∙◌, subst, arith, append_assoc, length-append}
use Rattle.std.specs.Prelude.{slice_get, slice_index, option_map, option_and_then, All, Contains}
use Rattle.std.proofs.Math.Path.{fun_ext}
use Rattle.std.proofs.lemmas.List.{append-nil}
use Rattle.std.proofs.lemmas.Option.{same_Some, none-some, slice_get_past}
use Rattle.lutree.specs.declared.expr.Condition.{Condition}
use Rattle.lutree.specs.declared.expr.Prefix.TheVariants.{Data as Data1, Pre as Before}
use Rattle.lutree.specs.declared.expr.Infix.TheVariants.{Data as Data2, Arrow as Starts, FollowedBy}
use Rattle.lutree.specs.Tree.{Tree, Trees, list_of as trees_in, EquationTree, NodeTree, ProgramTree}
use Rattle.lutree.specs.Tree as tree
use Rattle.luflow.specs.declared.form.FaultKind.{FaultKind}
use Rattle.luflow.specs.declared.form.Flow.{Flow}
use Rattle.luflow.specs.Program.{FlatView, InputsView}
use Rattle.luflow.specs.Streams.{Streams, Ticks, base_clock}
use Rattle.luflow.specs.Solution.{IsSolution}
use Rattle.luflow.specs.Faults.{IsFault}
use Rattle.lusource.specs.Names.{variables_of, name_at}
use Rattle.lusource.specs.Source.{Named, Path, SourceStreams, InstanceHolds, If, IsSourceSolution, given_streams}
use Rattle.lusource.specs.Instances.{called_in, instance_at}
use Rattle.lustat_rules.specs.Scope.{node_called}
use Rattle.lustat_rules.specs.Naming as naming
use Rattle.lustat_rules.specs.Naming.{Call, called_by, node_place}
use Rattle.lustat_rules.proofs.Calling as calling
use Rattle.lutype.proofs.CallPlaces.{means}
use Rattle.lucore_laws.specs.Layout.{made, root_flows, list_at, list_of, walk, inner_flows, node_flows, variable_count}
use Rattle.lucore_laws.specs.Sizes.{size_at, size_of, made_size, node_size}
use Rattle.lucore_laws.proofs.Facts.{Below, NodeFacts, facts}
use Rattle.lucore_laws.proofs.Gate.{model, to_open}
use Rattle.lucore_laws.proofs.ListInstances.{HasInstances}
use Rattle.lucore_laws.proofs.ListToSource.{name_there}
use Rattle.lucore_laws.proofs.Names.{listed, all_at, all_of, all_head, all_right, contains_at}
use Rattle.lucore_laws.proofs.NodeFaults.{clock_same}
use Rattle.lucore_laws.proofs.Open.{Solves}
use Rattle.lucore_laws.proofs.Roots.{front, parts, length-front}
use Rattle.lucore_laws.proofs.Same.{called_in as among}
use Rattle.lucore_laws.proofs.SourceFaults.{form_fails}
use Rattle.lucore_laws.proofs.Well.{Known}
use Rattle.lucore_laws.proofs.Whole.{flat_fits, same_flow}
use Rattle.lucore_build.specs.Counted.{AreCounted}
use Rattle.lucore.specs.Result.{IsFlatOf}
use Rattle.luinside.proofs.Bounds.{bounds}
use Rattle.luinside.proofs.Fits.{fits}
use Rattle.luinside.proofs.Meaning as meaning
use Rattle.luinside.proofs.Standing as spots
use Rattle.luinside.proofs.Standing.{start_at}
use Rattle.lueval.specs.declared.faults.Reads.{Reads}
use Rattle.luinside.specs.declared.step.Inside.{Inside}
use Rattle.luinside.specs.Parts.{operands, calls_among, part_at, right_side}
use Rattle.luinside.specs.Owns.{Among, IsOwn, InnerAt, RootAt, sum_made}
use Rattle.lueval.specs.Reads.{form_reads, reads_at}
use Rattle.luinside.specs.Reads.{moved_by, expression_reads}
use Rattle.luinside.specs.Sites.{FailsHere, IsFaultSite, TellsFaults, ReadsAsItsFlow}
use Rattle.luinside.specs.declared.step.Step.TheVariants as steps
use Rattle.luinside.specs.Standing.{VariableAt}
use Rattle.luinside.specs.Steps.{called_place, IsOperator, IsCall, IsOther, StepIs}
use Rattle.luinside.proofs.Descent.{Counted, CallsHave, AllOf, operands_have, of_middle}
use Rattle.luinside.proofs.Finding.{NoCall}
use Rattle.luinside.proofs.Equations.{equation_there, inner_size}
use Rattle.luinside.proofs.Failing.{fails_reads}
use Rattle.luinside.proofs.InstanceFlows as instances
use Rattle.luinside.proofs.InstanceFlows.{Fails, FaultPart}
use Rattle.luinside.proofs.FlowOwners as standing

-- CALLS

call_or_not : (e : Tree) → NoCall e ⊎ ((g : List ℕ) × (args : Trees) × (e ≡ tree.call g args))
call_or_not (tree.number n) = inl tt
call_or_not (tree.truth b) = inl tt
call_or_not (tree.label x) = inl tt
call_or_not (tree.variable x) = inl tt
call_or_not (tree.unary op a) = inl tt
call_or_not (tree.binary op a b) = inl tt
call_or_not (tree.choice c a b) = inl tt
call_or_not (tree.when a c) = inl tt
call_or_not (tree.current x) = inl tt
call_or_not (tree.merge c ps all) = inl tt
call_or_not (tree.call f all) = inr (f, all, refl)

no_reads : (p : ProgramTree) (sizes : List ℕ) (node : NodeTree) (e : Tree) (b : ℕ) (r : Reads) → expression_reads p sizes node e b ≡ Some r → NoCall e
no_reads p sizes node e b r is =
    ⊎_elim (λ (h : NoCall e). h)
    (λ (h : (g : List ℕ) × (args : Trees) × (e ≡ tree.call g args)). absurd (none-some r (sym (ap (λ e. expression_reads p sizes node e b) h.2) ∙ is)))
    (call_or_not e)

calls_one : (p : ProgramTree) (e : Tree) (j : ℕ) → called_place p e ≡ Some j → (g : List ℕ) × (args : Trees) × (e ≡ tree.call g args) × (node_place p g ≡ Some j)
calls_one p (tree.number n) j is = cc
calls_one p (tree.truth b) j is = cc
calls_one p (tree.label x) j is = cc
calls_one p (tree.variable x) j is = cc
calls_one p (tree.unary op a) j is = cc
calls_one p (tree.binary op a b) j is = cc
calls_one p (tree.choice c a b) j is = cc
calls_one p (tree.when a c) j is = cc
calls_one p (tree.current x) j is = cc
calls_one p (tree.merge c ps all) j is = cc
calls_one p (tree.call f all) j is = (f, all, refl, is)

-- READS

moved_twice : (a b : ℕ) (o : Option Reads) → option_map (moved_by a) (option_map (moved_by b) o) ≡ option_map (moved_by (a + b)) o
moved_twice a b None = refl
moved_twice a b (Some r) = ap Some (both r.right)
  where
    left : a + (b + r.left) ≡ a + b + r.left
    left = omega arith

    both : (o : Option ℕ) → (let z : Reads = record { left = a + (b + r.left); right = option_map (λ x. a + x) (option_map (λ x. b + x) o) } in z) ≡ (let z : Reads = record { left = a + b + r.left; right = option_map (λ x. a + b + x) o } in z)
    both None = ap {B = Reads} (λ n. record { left = n; right = None }) left
    both (Some x) =
        let z : a + (b + x) ≡ a + b + x = omega arith in
        ap {B = Reads} (λ n. record { left = n; right = Some (a + (b + x)) }) left ∙ ap {B = Reads} (λ n. record { left = a + b + r.left; right = Some n }) z

moved_none : (o : Option Reads) → o ≡ option_map (moved_by 0) o
moved_none None = refl
moved_none (Some r) = ap Some (both r.right)
  where
    left : r.left ≡ 0 + r.left
    left = omega arith

    both : (o : Option ℕ) → (let z : Reads = record { left = r.left; right = o } in z) ≡ (let z : Reads = record { left = 0 + r.left; right = option_map (λ x. 0 + x) o } in z)
    both None = ap {B = Reads} (λ n. record { left = n; right = None }) left
    both (Some x) =
        let z : x ≡ 0 + x = omega arith in
        ap {B = Reads} (λ n. record { left = n; right = Some x }) left ∙ ap {B = Reads} (λ n. record { left = 0 + r.left; right = Some n }) z

-- an operator's operands have their streams where its list is moved
fails_moved : (p : ProgramTree) (node : NodeTree) (base : Ticks) (var : Named) (inner : ℕ → Named) (on τ : Streams) (start t : ℕ) (kind : FaultKind) (r : Reads) → ((y : ℕ) → on y ≡ τ (start + y))
    → (e : Tree) (k : Option Condition) (i : ℕ) → FailsHere p node base var inner on t kind r e k i → FailsHere p node base var inner τ t kind (moved_by start r) e k i
fails_moved p node base var inner on τ start t kind r moves (tree.number n) k i h = absurd h
fails_moved p node base var inner on τ start t kind r moves (tree.truth b) k i h = absurd h
fails_moved p node base var inner on τ start t kind r moves (tree.label x) k i h = absurd h
fails_moved p node base var inner on τ start t kind r moves (tree.variable x) k i h = absurd h
fails_moved p node base var inner on τ start t kind r moves (tree.unary (Data1 op) a) k i h = (h.0, sym (moves r.left) ∙ h.1, ap (option_map (λ x. start + x)) h.2)
fails_moved p node base var inner on τ start t kind r moves (tree.unary Before a) k i h = absurd h
fails_moved p node base var inner on τ start t kind r moves (tree.binary (Data2 op) a b) k i h =
    (h.0, sym (moves r.left) ∙ h.1, (start + h.2.0, ap (option_map (λ x. start + x)) h.2.1, sym (moves h.2.0) ∙ h.2.2))
fails_moved p node base var inner on τ start t kind r moves (tree.binary Starts a b) k i h = absurd h
fails_moved p node base var inner on τ start t kind r moves (tree.binary FollowedBy a b) k i h = absurd h
fails_moved p node base var inner on τ start t kind r moves (tree.choice c a b) k i h = absurd h
fails_moved p node base var inner on τ start t kind r moves (tree.when a c) k i h = absurd h
fails_moved p node base var inner on τ start t kind r moves (tree.current x) k i h = absurd h
fails_moved p node base var inner on τ start t kind r moves (tree.merge c ps all) k i h = absurd h
fails_moved p node base var inner on τ start t kind r moves (tree.call f all) k i h = absurd h

-- where the flow is no data operator, it is never at fault
pub nothing_told : (p : ProgramTree) (main : List ℕ) (place : ℕ) → ReadsAsItsFlow p main place None → TellsFaults p main place None
nothing_told p main place reads flat is inputs σ τ sol sol' t kind fault =
    let some = fails_reads τ t kind fault.flow.form (form_fails τ t kind fault.flow.form fault.fault) in
    let here : reads_at flat.flows place ≡ Some some.0 = ap (option_and_then (λ (flow : Flow). form_reads flow.form)) fault.there ∙ some.1 in
    none-some some.0 (reads flat is ∙ here)

pub told_none : (p : ProgramTree) (main : List ℕ) (place : ℕ) → ((flat : FlatView) → IsFlatOf p main flat → reads_at flat.flows place ≡ None) → ReadsAsItsFlow p main place None × TellsFaults p main place None
told_none p main place none = let reads : ReadsAsItsFlow p main place None = λ flat is. sym (none flat is) in (reads, nothing_told p main place reads)

-- where there is no main node, there is no flat program
pub no_main : (p : ProgramTree) (main : List ℕ) (place : ℕ) → node_place p main ≡ None → ReadsAsItsFlow p main place None × TellsFaults p main place None
no_main p main place none =
    told_none p main place (λ flat is.
    let h = calling.place_of p main is.laid_out.node is.laid_out.is_main in
    absurd (none-some h.place (sym none ∙ h.at_place)))

-- where the own flows of a part begin
own_bounds : (p : ProgramTree) (sizes : List ℕ) (target : ℕ) (rest : List ℕ) (e : Tree) (s i : ℕ) (f : Tree) (b c : ℕ) → IsOwn p sizes target e s i rest f b c → (s ≤ b) × (b ≤ target)
own_bounds p sizes target [] e s i f b c h = let is = h.1 in (omega (arith, is), h.3)
own_bounds p sizes target (n ∷ rest) e s i f b c (x, h) =
    let deep = own_bounds p sizes target rest x.operand (s + sum_made p sizes x.front) (i + calls_among x.front) f b c h in
    let low = deep.0 in
    (omega (arith, low), deep.1)

module _ (p : ProgramTree) (main : List ℕ) (flat : FlatView) (is : IsFlatOf p main flat) (counts : List ℕ) (counted : AreCounted p counts) where
  abbrev pub lists : List (List Flow)
  lists = is.laid_out.lists

  pub facts_of : (f : List ℕ) (n : NodeTree) → node_called p f ≡ Some n → NodeFacts p n
  facts_of = facts p main is.accepted (meaning.something p main flat is counts counted)

  pub sized : (node : NodeTree) (a : Tree) (k : Option Condition) (s : ℕ) → Counted p lists node counts a → length (made (walk p lists node a k s)) ≡ made_size p counts a
  sized node a k s h =
      let w = walk p lists node a k s in
      let f = fits p lists counts node a k h s in
      let e = f.0 in
      let r = f.1 in
      omega (arith, e, r, length-append w.inner (root_flows w.root))

  abbrev pub FailsAt : (t : ℕ) (kind : FaultKind) → List ℕ → SourceStreams → Streams → ℕ → ℕ → Type 0
  FailsAt t kind = Fails p lists is.laid_out.are_lists facts_of (meaning.never p main flat is counts counted) t kind counts sized

  -- The flow at a place of the flat list is the one behind the start of this instance: of the node at place i of the text.
  pub record Arrived (place : ℕ) (path : Path) (i start : ℕ) : Type 0 where
    pub f : List ℕ
    pub is_place : node_place p f ≡ Some i
    pub small : slice_index counts i ≤ 4096
    pub le : start ≤ place
    pub reads : reads_at flat.flows place ≡ option_map (moved_by start) (reads_at (list_of p lists f) (place - start))
    pub fails : (inputs : InputsView) (σ : SourceStreams) (τ : Streams) → IsSourceSolution p main inputs σ → IsSolution flat inputs τ → (t : ℕ) (kind : FaultKind) → IsFault flat inputs τ place t kind
        → FailsAt t kind f (λ rest. σ (path ++ rest)) τ start (place - start) × ((rest : Path) → instance_at p main (path ++ rest) ≡ instance_at p f rest)

  main_list : list_of p lists main ≡ flat.flows
  main_list = listed p lists is.laid_out.are_lists main is.laid_out.node is.laid_out.is_main ∙ sym is.laid_out.flows

  pub arrived_first : (place i : ℕ) → node_place p main ≡ Some i → Arrived place [] i 0
  arrived_first place i at_place =
      let z : place ≡ place - 0 = omega arith in
      record {
        f = main;
        is_place = at_place;
        small = meaning.few p main flat is counts counted i at_place;
        le = omega arith;
        reads = ap (λ l. reads_at l place) (sym main_list) ∙ ap (reads_at (list_of p lists main)) z ∙ moved_none (reads_at (list_of p lists main) (place - 0));
        fails = λ inputs σ τ sol sol' t kind fault.
            let out = is.laid_out in
            let some = meaning.something p main flat is counts counted in
            let m = model flat inputs (length out.node.inputs) (flat_fits p main flat is.accepted some out) τ in
            let solved = to_open flat inputs (length out.node.inputs) (flat_fits p main flat is.accepted some out) τ sol' in
            let has : HasInstances p lists main τ σ = λ path n x here c. fun_ext (λ t. sym (same_flow p main flat is.accepted some out inputs is.is_flat.ordered σ τ sol sol' path n x here c t)) in (
              record {
                base = base_clock inputs;
                given = given_streams inputs;
                holds = sol;
                model = m;
                moves = λ y. let w : y ≡ 0 + y = omega arith in ap τ w;
                solves = subst (Solves (base_clock inputs) m) (sym main_list) solved;
                instances = has;
                flow = fault.flow;
                there = ap (slice_get (list_of p lists main)) (sym z) ∙ ap (λ l. slice_get l place) main_list ∙ fault.there;
                fails = (sym (clock_same inputs τ fault.flow.clock t) ∙ fault.clock, form_fails τ t kind fault.flow.form fault.fault);
              },
              λ rest. refl,
            );
      }

  module _ (place : ℕ) (path : Path) (i start : ℕ) (h : Arrived place path i start) where
    abbrev target : ℕ
    target = place - start

    abbrev n : NodeTree
    n = (means p h.f i h.is_place).node

    pub node_there : slice_get p.nodes i ≡ Some n
    node_there = (means p h.f i h.is_place).there

    called : node_called p h.f ≡ Some n
    called = (means p h.f i h.is_place).called

    long : (f : List ℕ) → length (list_of p lists f) ≡ size_of p counted.0 f
    long = meaning.long p main flat is counts counted

    small_list : (g : List ℕ) → Contains (called_by n) g → length (list_of p lists g) ≡ size_of p counts g
    small_list = spots.called_small p lists is.laid_out.are_lists counts counted.0 counted.2 (bounds p counts counted) long h.f i h.is_place h.small

    -- the calls of an equation are of nodes that the node calls
    calls_of_node : (j : ℕ) (q : EquationTree) → slice_get n.equations j ≡ Some q → All (λ (c : Call). Contains (called_by n) c.node) (naming.calls_in q.right)
    calls_of_node j q here = all_of (λ (c : Call). Contains (called_by n) c.node) (naming.calls_in q.right) (λ k c at. among n.equations j k q c here at)

    node_counted : (j : ℕ) (q : EquationTree) → slice_get n.equations j ≡ Some q → Counted p lists n counts q.right
    node_counted j q here = all_of (λ (c : Call). length (list_of p lists c.node) ≡ size_of p counts c.node) (naming.calls_in q.right) (λ k c at. small_list c.node (among n.equations j k q c here at))

    list_is : list_of p lists h.f ≡ node_flows p lists n
    list_is = listed p lists is.laid_out.are_lists h.f n called

    node_long : length (node_flows p lists n) ≡ node_size p counts n
    node_long =
        let l = ap length (parts p lists n) in
        let f = length-front p lists n in
        let all = standing.all_counted p lists n counts (sized n) node_counted in
        let inner = inner_size p lists n counts (sized n) n.equations (variable_count p lists n) all in
        omega (arith, l, f, inner, length-append (front p lists n) (inner_flows p lists n n.equations (variable_count p lists n)))

    abbrev all : (j : ℕ) (q : EquationTree) → slice_get n.equations j ≡ Some q → Counted p lists n counts q.right
    all = node_counted

    -- what the node's list reads there, the flat list reads here
    reads_here : (o : Option Reads) → reads_at (node_flows p lists n) target ≡ o → reads_at flat.flows place ≡ option_map (moved_by start) o
    reads_here o e = h.reads ∙ ap (λ l. option_map (moved_by start) (reads_at l target)) list_is ∙ ap (option_map (moved_by start)) e

    -- NOTHING

    other_reads : (numbers : List ℕ) (e : Tree) (b c : ℕ) → IsOther p counts n target numbers e b c → reads_at (node_flows p lists n) target ≡ None
    other_reads numbers e b c o = go o.stands
      where
        go : ((name : List ℕ) × VariableAt n target name × RootAt p counts n name numbers e b) ⊎ (InnerAt p counts n target numbers e b c × (called_place p e ≡ None)) → reads_at (node_flows p lists n) target ≡ None
        go (inl (name, v, root)) = standing.root_at_reads p lists n counts (sized n) all target name v.named v.no_input numbers e b root ∙ o.reads_nothing
        go (inr (inner, no_call)) =
            ⊎_elim (λ (quiet : NoCall e). standing.inner_reads p lists n counts (sized n) all target numbers e b c inner quiet ∙ o.reads_nothing)
            (λ (k : (g : List ℕ) × (args : Trees) × (e ≡ tree.call g args)).
            let none : node_place p k.0 ≡ None = sym (ap (called_place p) k.2) ∙ no_call in
            standing.called_reads p lists n counts (sized n) all target numbers e b c inner k.0 k.1 k.2
            ∙ ap (λ o. option_map (moved_by b) (reads_at (list_at lists o) (target - b))) none)
            (call_or_not e)

    nothing_reads : StepIs p counts n target steps.Nothing → reads_at (node_flows p lists n) target ≡ None
    nothing_reads (inl (inl lt)) = standing.input_reads p lists n counts (sized n) all target lt
    nothing_reads (inl (inr (inl (name, v, none)))) = standing.nowhere_reads p lists n counts (sized n) all target name v.named v.no_input none
    nothing_reads (inl (inr (inr le))) =
        let l = node_long in
        ap (option_and_then (λ (flow : Flow). form_reads flow.form)) (slice_get_past (node_flows p lists n) target (omega (arith, l, le)))
    nothing_reads (inr (numbers, e, b, c, o)) = other_reads numbers e b c o

    pub nothing_found : StepIs p counts n target steps.Nothing → reads_at flat.flows place ≡ None
    nothing_found o = reads_here None (nothing_reads o)

    -- AN OPERATOR

    module _ (numbers : List ℕ) (r : Reads) (o : IsOperator p counts n target numbers r) where
      abbrev e : Tree
      e = o.expression

      abbrev b : ℕ
      b = o.behind

      operator_reads : reads_at (node_flows p lists n) target ≡ Some r
      operator_reads = go o.stands
        where
          go : ((name : List ℕ) × VariableAt n target name × RootAt p counts n name numbers e b) ⊎ InnerAt p counts n target numbers e b o.before → reads_at (node_flows p lists n) target ≡ Some r
          go (inl (name, v, root)) = standing.root_at_reads p lists n counts (sized n) all target name v.named v.no_input numbers e b root ∙ o.reads_are
          go (inr inner) = standing.inner_reads p lists n counts (sized n) all target numbers e b o.before inner (no_reads p counts n e b r o.reads_are) ∙ o.reads_are

      pub operator_found : reads_at flat.flows place ≡ Some (moved_by start r)
      operator_found = reads_here (Some r) operator_reads

      module _ (t : ℕ) (kind : FaultKind) (σ : SourceStreams) (τ : Streams) (fails : FailsAt t kind h.f (λ rest. σ (path ++ rest)) τ start target) where
        abbrev PartHere : Type 0
        PartHere = FaultPart p lists is.laid_out.are_lists facts_of (meaning.never p main flat is counts counted) t kind counts sized h.f n called all (λ rest. σ (path ++ rest)) τ start target fails numbers e b

        part_of : PartHere
        part_of = go o.stands
          where
            go : ((name : List ℕ) × VariableAt n target name × RootAt p counts n name numbers e b) ⊎ InnerAt p counts n target numbers e b o.before → PartHere
            go (inl (name, v, root)) =
                instances.root_fails p lists is.laid_out.are_lists facts_of (meaning.never p main flat is counts counted) t kind counts sized h.f n called all (λ rest. σ (path ++ rest)) τ start target fails name v.named v.no_input numbers e b root
            go (inr inner) =
                instances.inner_fails p lists is.laid_out.are_lists facts_of (meaning.never p main flat is counts counted) t kind counts sized h.f n called all (λ rest. σ (path ++ rest)) τ start target fails numbers e b o.before inner (no_reads p counts n e b r o.reads_are)

        pub operator_told : (j : ℕ) (rest : List ℕ) → numbers ≡ j ∷ rest → ((rest : Path) → instance_at p main (path ++ rest) ≡ instance_at p h.f rest)
            → IsFaultSite p main σ τ t kind (record { path = path; node = i; equation = j; part = rest; reads = moved_by start r })
        operator_told j rest are leads =
            let part = part_of in
            let heads : part.number ∷ part.rest ≡ j ∷ rest = sym part.numbers_are ∙ are in
            let same_number : part.number ≡ j = cc in
            let same_rest : part.rest ≡ rest = cc in
            let same_reads : part.reads ≡ r = same_Some part.reads r (sym part.reads_are ∙ o.reads_are) in
            let inner : ℕ → Named = λ i. σ (path ++ i ∷ []) in
            let there = subst (λ j. slice_get n.equations j ≡ Some part.equation) same_number part.is_equation in
            let here = subst (λ l. part_at n (right_side n j part.equation) l ≡ Some part.part) same_rest
            (subst (λ j. part_at n (right_side n j part.equation) part.rest ≡ Some part.part) same_number part.is_part) in
            let fails' = subst (λ r. FailsHere p n fails.base (σ (path ++ [])) inner fails.model.on t kind r part.part.expression part.part.clock part.part.before) same_reads part.at_fault in
            let moved = fails_moved p n fails.base (σ (path ++ [])) inner fails.model.on τ start t kind r fails.moves part.part.expression part.part.clock part.part.before fails' in
            let holds = subst (λ o. If o (λ node. InstanceHolds p node fails.base fails.given (σ (path ++ [])) inner)) called (fails.holds []) in
            record {
              node = n;
              is_node = node_there;
              at_path = ap (instance_at p main) (sym (append-nil path)) ∙ leads [] ∙ called;
              equation = part.equation;
              is_equation = there;
              part = part.part;
              is_part = here;
              base = fails.base;
              given = fails.given;
              holds = subst (λ q. InstanceHolds p n fails.base fails.given (σ q) inner) (append-nil path) holds;
              fails = subst (λ q. FailsHere p n fails.base (σ q) inner τ t kind (moved_by start r) part.part.expression part.part.clock part.part.before) (append-nil path) moved;
            }

    -- A CALL

    module _ (x : Inside) (o : IsCall p counts n target x) where
      abbrev one : (g : List ℕ) × (args : Trees) × (o.expression ≡ tree.call g args) × (node_place p g ≡ Some x.node)
      one = calls_one p o.expression x.node o.called

      equation_here : slice_get n.equations o.inner.number ≡ Some o.inner.x.equation
      equation_here = equation_there n.equations o.inner.number o.inner.x

      bounded : (length (variables_of n) ≤ x.at) × (x.at ≤ target)
      bounded =
          let le = own_bounds p counts target o.inner.rest o.inner.x.equation.right _ _ o.expression x.at x.number o.inner.is_own in
          let low = le.0 in
          (omega (arith, low), le.1)

      some_variables : 0 < length (variables_of n)
      some_variables =
          let fs = facts_of h.f n called in
          let q = o.inner.x.equation in
          let first = all_at (Known p n (Below n)) q.left 0 (name_at q.left 0) (fs.lefts o.inner.number q equation_here) (name_there q.left 0 (fs.some o.inner.number q equation_here)) in
          omega (arith, first)

      pub call_behind : 0 < x.at
      call_behind = let low = bounded.0 in let some = some_variables in omega (arith, low, some)

      abbrev Called : Call → Type 0
      Called c = Contains (called_by n) c.node

      down : (e : Tree) (k : Option Condition) (i s : ℕ) → Counted p lists n counts e → (m : ℕ) (y : Among (operands e) m) → CallsHave Called e → CallsHave Called y.operand
      down e k i s c m y g = of_middle (CallsHave Called) y.front y.operand y.back (subst (AllOf (CallsHave Called)) y.are (operands_have Called e g))

      has_called : Contains (called_by n) one.0
      has_called =
          let c : Call = record { node = one.0; arguments = length (trees_in one.1) } in
          let at = standing.where_it_is p lists n counts (sized n) all target o.numbers o.expression x.at x.number o.inner (λ e k i s. CallsHave Called e) down (calls_of_node o.inner.number o.inner.x.equation equation_here) in
          let have = subst (CallsHave Called) (sym at.found ∙ one.2) at.good in
          all_head Called c [] (all_right Called (naming.calls_in_all one.1) (c ∷ []) have)

      small_next : slice_index counts x.node ≤ 4096
      small_next =
          let at = contains_at (called_by n) one.0 has_called in
          let c = start_at p counts n at.0 one.0 at.1 in
          let e = spots.ends p lists is.laid_out.are_lists counts counted.0 counted.2 (bounds p counts counted) long h.f i h.is_place h.small at.0 c.0 c.1 in
          let size = ap (size_at counts) (c.2 ∙ one.3) in
          let few = h.small in
          omega (arith, e, size, few)

      pub arrived_next : Arrived place (path ++ x.number ∷ []) x.node (start + x.at)
      arrived_next =
          let low = bounded.1 in
          let before = h.le in
          let z : target - x.at ≡ place - (start + x.at) = omega arith in
          let g = one.0 in
          record {
            f = g;
            is_place = one.3;
            small = small_next;
            le = omega (arith, low, before);
            reads = reads_here _ (standing.called_reads p lists n counts (sized n) all target o.numbers o.expression x.at x.number o.inner g one.1 one.2)
                ∙ moved_twice start x.at (reads_at (list_of p lists g) (target - x.at)) ∙ ap (λ y. option_map (moved_by (start + x.at)) (reads_at (list_of p lists g) y)) z;
            fails = λ inputs σ τ sol sol' t kind fault.
                let now = h.fails inputs σ τ sol sol' t kind fault in
                let next = instances.call_next p lists is.laid_out.are_lists facts_of (meaning.never p main flat is counts counted) t kind counts sized h.f n called all (λ rest. σ (path ++ rest)) τ start target now.0 o.numbers o.expression x.at x.number o.inner g one.1 one.2 in
                let same : (let s : SourceStreams = λ rest. σ (path ++ x.number ∷ rest) in s) ≡ (λ rest. σ ((path ++ x.number ∷ []) ++ rest)) = fun_ext (λ rest. ap σ (sym (append_assoc path (x.number ∷ []) rest))) in (
                  subst (λ s. FailsAt t kind g s τ (start + x.at) (place - (start + x.at))) same (subst (FailsAt t kind g (λ rest. σ (path ++ x.number ∷ rest)) τ (start + x.at)) z next.1),
                  λ rest.
                      ap (instance_at p main) (append_assoc path (x.number ∷ []) rest) ∙ now.1 (x.number ∷ rest)
                      ∙ ap (λ o. option_and_then (λ g. instance_at p g rest) (slice_get (called_in o) x.number)) called ∙ ap (option_and_then (λ g. instance_at p g rest)) next.0,
                );
          }
