-- The flat program of an accepted program, with an order of rank, can be evaluated.
use Rattle.std.proofs.Common.{◌≡◌, ℕ, ◌+◌, ◌<◌, List, ◌++◌, length, Some, refl, sym, ap, ◌∙◌, subst}
use Rattle.std.specs.Prelude.{slice_get, slice_index, option_map, All}
use Rattle.std.proofs.lemmas.List.{length-map}
use Rattle.lutree.specs.Tree.{DeclarationTree, NodeTree, ProgramTree}
use Rattle.luflow.specs.declared.form.Clock.TheVariants.{Base}
use Rattle.luflow.specs.declared.form.Form.TheVariants.{Input}
use Rattle.luflow.specs.declared.form.Flow.{Flow}
use Rattle.luflow.specs.declared.variable.Variable.{Variable}
use Rattle.luflow.specs.declared.variable.Role.TheVariants as role
use Rattle.luflow.specs.Program.{FlatView, places, clock_reads}
use Rattle.luflow.specs.Variables.{inputs_of}
use Rattle.luflow.specs.Flats.{IsWithin, IsTypeAmong}
use Rattle.lusource.specs.Names.{variables_of}
use Rattle.lustat_rules.specs.Scope.{declarations_of, node_called}
use Rattle.lustat_rules.specs.Scope as rules
use Rattle.lustat_rules.specs.Naming.{Reaches}
use Rattle.lustat_rules.specs.Accepted.{IsAccepted}
use Rattle.lucore_laws.specs.Layout.{IsLaidOut, variable_count, variables_as, main_variables, list_of, node_flows}
use Rattle.lucore_laws.specs.ListLaws.{DefineSomething}
use Rattle.lucore_laws.proofs.Names.{listed, get-names, place_at}
use Rattle.lucore_laws.proofs.Roots.{input, get-input}
use Rattle.lucore_laws.proofs.Facts.{Below, NodeFacts, facts, never_round}
use Rattle.lucore_laws.proofs.Static.{AreFit, CopyFits, clock_on}
use Rattle.lucore_laws.proofs.NodeStatic.{lists_fit, output_on, first_is}
use Rattle.lucore_laws.proofs.Whole as whole
use Rattle.lucore_laws.proofs.Closed.{closed}
use Rattle.lucore_laws.specs.SoundLaws.{InsideLaw, FlatLaw}
use Rattle.lucore_laws.proofs.Owners.{FlowOwned, node_owned}
use Rattle.std.proofs.lemmas.Option.{same_Some}
use Rattle.lucore_laws.proofs.Types.{declared}
use Rattle.lucore_laws.proofs.Roles.{variable_of, input_at, input_variable, declared_at, inputs_are, main_declared}
use Rattle.lucore_laws.proofs.Programs.{sound}
use Rattle.lucore_laws.proofs.Ruling.{ruling}
use Rattle.lucore_laws.proofs.Variables.{variable_kind}
use Rattle.lucore_laws.proofs.FlowTypes.{lists_typed, typed_at}

module _ (p : ProgramTree) (main : List ℕ) (flat : FlatView) (accepted : IsAccepted p main) (some : DefineSomething p) (out : IsLaidOut p main flat) where
  abbrev node : NodeTree
  node = out.node

  fs : (f : List ℕ) (n : NodeTree) → node_called p f ≡ Some n → NodeFacts p n
  fs f n e = facts p main accepted some f n e

  never : (f : List ℕ) → ¬ Reaches p f f
  never f = never_round p main accepted some f

  callee_fits : (f : List ℕ) → Below node f → (callee : NodeTree) → node_called p f ≡ Some callee → AreFit (list_of p out.lists f) (length callee.inputs)
  callee_fits f below callee e x g there = (lists_fit p out.lists out.are_lists fs never f callee e x g there).0

  callee_outputs : (f : List ℕ) → Below node f → (callee : NodeTree) → node_called p f ≡ Some callee → (j : ℕ) → j < length callee.outputs → clock_on (list_of p out.lists f) (length callee.inputs + j) ≡ Some Base
  callee_outputs f below callee e j lt =
      let d = declared callee.outputs j lt in
      subst (λ l. clock_on l (length callee.inputs + j) ≡ Some Base) (sym (listed p out.lists out.are_lists f callee e))
      (output_on p out.lists callee (fs f callee e) j d.0 d.1 ((fs main node out.is_main).outputs f callee below e j d.0 d.1))

  count : variable_count p out.lists node ≡ length flat.variables
  count = ap length (sym (whole.main_names node)) ∙ length-map (main_variables node) (λ (x : Variable). x.name) ∙ sym (ap length out.variables)

  inner : (i : ℕ) (flow : Flow) → slice_get flat.flows i ≡ Some flow → All (IsWithin flat i) (places flow.form ++ clock_reads flow.clock)
  inner i flow e =
      let owned = node_owned p out.lists node (fs main node out.is_main) callee_fits callee_outputs i flow (ap (λ l. slice_get l i) (sym out.flows) ∙ e) in
      subst (λ n. FlowOwned flat.owners n (slice_index flat.owners i) flow) count
      (subst (λ O. FlowOwned O (variable_count p out.lists node) (slice_index O i) flow) (sym out.owners) owned)

  input_there : (i c : ℕ) (flow : Flow) → slice_get flat.flows i ≡ Some flow → flow.form ≡ Input c → (c ≡ i) × (x : Variable) × (slice_get flat.variables i ≡ Some x) × (x.role ≡ role.Input)
  input_there i c flow e form =
      let same : i ≡ c = whole.input_there p main flat accepted some out i flow c e form in
      let copy = subst (CopyFits flat.flows (length node.inputs) flow.clock) form (whole.flat_fits p main flat accepted some out i flow e).copy in
      let x = input_variable node c copy.1 in
      (sym same, x.0, ap (slice_get flat.variables) same ∙ ap (λ l. slice_get l c) out.variables ∙ x.1, x.2)

  input_is : (v : ℕ) (x : Variable) → slice_get flat.variables v ≡ Some x → x.role ≡ role.Input → (flow : Flow) × (slice_get flat.flows v ≡ Some flow) × (flow.form ≡ Input v) × (flow.kind ≡ x.kind)
  input_is v x e is =
      let lt = input_at node v x (ap (λ l. slice_get l v) (sym out.variables) ∙ e) is in
      let d = declared node.inputs v lt in
      (input p out.lists node v d.0.kind, ap (λ l. slice_get l v) out.flows ∙ get-input p out.lists node v d.0 d.1, refl, ap (λ (y : Variable). y.kind) (same_Some (variable_of role.Input d.0) x (sym (declared_at node v lt) ∙ ap (λ l. slice_get l v) (sym out.variables) ∙ e)))

  inputs_first : (rest : List Variable) × (flat.variables ≡ inputs_of flat.variables ++ rest)
  inputs_first =
      let rest = variables_as role.Output node.outputs ++ variables_as role.Local node.locals in
      (rest, out.variables ∙ ap (λ xs. xs ++ rest) (sym (ap inputs_of out.variables ∙ inputs_are node)))

  -- the list's flows have types of the program
  types : (i : ℕ) (flow : Flow) → slice_get flat.flows i ≡ Some flow → IsTypeAmong flat.types flow.kind
  types i flow e =
      let all = lists_typed p out.lists out.are_lists fs (λ f n e. ruling p main accepted f n e) never main in
      let there : slice_get (list_of p out.lists main) i ≡ Some flow = ap (λ l. slice_get l i) (listed p out.lists out.are_lists main node out.is_main ∙ sym out.flows) ∙ e in
      subst (λ ts. IsTypeAmong ts flow.kind) (sym out.types) (typed_at p (list_of p out.lists main) i flow all there)

  -- a main variable's flow has its type
  kinds : (v : ℕ) (x : Variable) (flow : Flow) → slice_get flat.variables v ≡ Some x → slice_get flat.flows v ≡ Some flow → flow.kind ≡ x.kind
  kinds v x flow e there =
      let d = main_declared node v x (ap (λ l. slice_get l v) (sym out.variables) ∙ e) in
      let facts = fs main node out.is_main in
      let named : slice_get (variables_of node) v ≡ Some d.0.name = get-names (declarations_of node) v ∙ ap (option_map (λ (d : DeclarationTree). d.name)) d.1 in
      let at = place_at (variables_of node) d.0.name v facts.apart named in
      let means : rules.meaning node d.0.name ≡ Some d.0 = first_is (declarations_of node) d.0.name ∙ ap (slice_get (declarations_of node)) at ∙ d.1 in
      let kind = variable_kind p out.lists node facts (ruling p main accepted main node out.is_main) d.0.name d.0.kind (ap (option_map (λ (d : DeclarationTree). d.kind)) means) in
      let here : option_map (λ (f : Flow). f.kind) (slice_get (node_flows p out.lists node) v) ≡ Some d.0.kind = ap (λ v. option_map (λ (f : Flow). f.kind) (slice_get (node_flows p out.lists node) v)) (sym at) ∙ kind in
      let flow_there : option_map (λ (f : Flow). f.kind) (slice_get (node_flows p out.lists node) v) ≡ Some flow.kind = ap (λ l. option_map (λ (f : Flow). f.kind) (slice_get l v)) (sym out.flows) ∙ ap (option_map (λ (f : Flow). f.kind)) there in
      same_Some flow.kind d.0.kind (sym flow_there ∙ here) ∙ d.2

pub inside : InsideLaw
inside p main flat accepted some out =
    record { inner = inner p main flat accepted some out; input_there = input_there p main flat accepted some out; input_is = input_is p main flat accepted some out; inputs_first = inputs_first p main flat accepted some out }

pub is_flat : FlatLaw
is_flat p main flat accepted some out ordered ranked few =
    let is_closed = closed p main flat accepted some out in
    record {
      ordered = ordered;
      ranked = ranked;
      sound = sound p main flat accepted some out;
      few = few;
      owners_len = is_closed.owners_len;
      owners_in = is_closed.owners_in;
      inner = inner p main flat accepted some out;
      main_clocks = is_closed.main_clocks;
      input_there = input_there p main flat accepted some out;
      input_is = input_is p main flat accepted some out;
      kinds = kinds p main flat accepted some out;
      types = types p main flat accepted some out;
      variables_first = is_closed.variables_first;
      inputs_first = inputs_first p main flat accepted some out;
    }
