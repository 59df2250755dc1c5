-- A laid out flat program has the solutions of its source.
use Rattle.std.proofs.Common.{◌≡◌, ℕ, zero, suc, ◌+◌, ◌<◌, List, [], ◌∷◌, ◌++◌, length, map, get_or, Some, refl, sym, ap, ◌∙◌, subst, arith}
use Rattle.std.specs.Prelude.{slice_get, option_map, Contains}
use Rattle.std.proofs.lemmas.Option.{slice_get_within, slice_get-map, same_Some}
use Rattle.lutree.specs.Tree.{DeclarationTree, NodeTree, ProgramTree}
use Rattle.luflow.specs.declared.form.Form.TheVariants.{Input}
use Rattle.luflow.specs.declared.form.Flow.{Flow}
use Rattle.luflow.specs.declared.variable.Variable.{Variable}
use Rattle.luflow.specs.declared.variable.Role.{Role}
use Rattle.luflow.specs.declared.variable.Role.TheVariants as role
use Rattle.luflow.specs.Program.{FlatView, InputsView, Column, IsOrdered, data_of}
use Rattle.luflow.specs.Streams.{Stream, Streams, base_clock}
use Rattle.luflow.specs.Values.{gives, under}
use Rattle.luflow.specs.Solution.{IsSolution}
use Rattle.luflow.proofs.Solutions.{solutions_same}
use Rattle.lusource.specs.Names.{variables_of, place_of}
use Rattle.lustat_rules.specs.Scope.{names_of, node_called}
use Rattle.lusource.specs.Source.{Path, SourceStreams, IsSourceSolution, given_streams}
use Rattle.lusource.specs.Instances.{instance_at}
use Rattle.lusource.specs.Agreement.{SameOnVariables, InstancesHaveFlows}
use Rattle.lustat_rules.specs.Naming.{Reaches}
use Rattle.lustat_rules.specs.Accepted.{IsAccepted}
use Rattle.lucore_laws.specs.Layout.{list_of, variables_as, main_variables, IsLaidOut}
use Rattle.lucore_laws.specs.ListLaws.{DefineSomething, HasColumns, AgreesLaw, InstancesLaw}
use Rattle.lucore_laws.proofs.Names.{place_at, listed}
use Rattle.lucore_laws.proofs.Open.{Model, nothing, Solves}
use Rattle.lucore_laws.proofs.Spots.{place_named, streams_of}
use Rattle.lucore_laws.proofs.ListInstances.{flow_place, HasInstances, place_inside}
use Rattle.lucore_laws.proofs.Facts.{NodeFacts, facts, never_round}
use Rattle.lucore_laws.proofs.NodeToSource.{reads}
use Rattle.lucore_laws.proofs.ListToFlat.{Has}
use Rattle.lucore_laws.proofs.NodeToFlat.{gives_all}
use Rattle.lucore_laws.proofs.Static.{AreFit}
use Rattle.lucore_laws.proofs.NodeStatic.{lists_fit}
use Rattle.lucore_laws.proofs.Gate.{model, to_open, from_open}

variable_names : (role : Role) (ds : List DeclarationTree) (rest : List Variable) (names : List (List ℕ)) → map (λ (x : Variable). x.name) rest ≡ names → map (λ (x : Variable). x.name) (variables_as role ds ++ rest) ≡ names_of ds ++ names
variable_names role [] rest names e = e
variable_names role (d ∷ ds) rest names e = ap (λ l. d.name ∷ l) (variable_names role ds rest names e)

local_names : (role : Role) (ds : List DeclarationTree) → map (λ (x : Variable). x.name) (variables_as role ds) ≡ names_of ds
local_names role [] = refl
local_names role (d ∷ ds) = ap (λ l. d.name ∷ l) (local_names role ds)

names_joined : (ds es : List DeclarationTree) → names_of (ds ++ es) ≡ names_of ds ++ names_of es
names_joined [] es = refl
names_joined (d ∷ ds) es = ap (λ l. d.name ∷ l) (names_joined ds es)

-- the main variables have the names of the node's variables
pub main_names : (node : NodeTree) → map (λ (x : Variable). x.name) (main_variables node) ≡ variables_of node
main_names node =
    variable_names role.Input node.inputs (variables_as role.Output node.outputs ++ variables_as role.Local node.locals) (names_of (node.outputs ++ node.locals))
    (variable_names role.Output node.outputs (variables_as role.Local node.locals) (names_of node.locals) (local_names role.Local node.locals) ∙ sym (names_joined node.outputs node.locals))
    ∙ sym (names_joined node.inputs (node.outputs ++ node.locals))

-- a list as streams by place has itself
pub has_itself : (l : List Stream) (s : ℕ) (m : Model) → ((x : ℕ) → m.on (s + x) ≡ get_or l x nothing) → Has m s l
has_itself [] s m h = tt
has_itself (t ∷ l) s m h =
    let z : s + 0 ≡ s = omega arith in
    (subst (λ n. m.on n ≡ t) z (h 0), has_itself l (suc s) m (λ x. let z : s + suc x ≡ suc s + x = omega arith in subst (λ n. m.on n ≡ get_or l x nothing) z (h (suc x))))

module _ (p : ProgramTree) (main : List ℕ) (flat : FlatView) (accepted : IsAccepted p main) (some : DefineSomething p) (out : IsLaidOut p main flat) where
  abbrev node : NodeTree
  node = out.node

  fs : (f : List ℕ) (n : NodeTree) → node_called p f ≡ Some n → NodeFacts p n
  fs f n e = facts p main accepted some f n e

  never : (f : List ℕ) → ¬ Reaches p f f
  never f = never_round p main accepted some f

  flows_are : list_of p out.lists main ≡ flat.flows
  flows_are = listed p out.lists out.are_lists main node out.is_main ∙ sym out.flows

  pub flat_fits : AreFit flat.flows (length node.inputs)
  flat_fits = subst (λ l. AreFit l (length node.inputs)) flows_are (λ x f e. (lists_fit p out.lists out.are_lists fs never main node out.is_main x f e).0)

  -- an input has its number as its place
  pub input_there : (x : ℕ) (f : Flow) (r : ℕ) → slice_get flat.flows x ≡ Some f → f.form ≡ Input r → x ≡ r
  input_there x f r e form = (lists_fit p out.lists out.are_lists fs never main node out.is_main x f (ap (λ l. slice_get l x) flows_are ∙ e)).1 r form

  -- the place of a main variable
  variable_at : (v : ℕ) (x : Variable) → slice_get flat.variables v ≡ Some x → (slice_get (variables_of node) v ≡ Some x.name) × (place_of (variables_of node) x.name ≡ v)
  variable_at v x e =
      let name : slice_get (variables_of node) v ≡ Some x.name =
      ap (λ l. slice_get l v) (sym (main_names node))
      ∙ slice_get-map (λ (x : Variable). x.name) (main_variables node) v
      ∙ ap (option_map (λ (x : Variable). x.name)) (ap (λ l. slice_get l v) (sym out.variables) ∙ e) in
      (name, place_at (variables_of node) x.name v (fs main node out.is_main).apart name)

  -- each variable of each instance stands in the list
  inside : (path : Path) (n : NodeTree) (x : List ℕ) → instance_at p main path ≡ Some n → Contains (variables_of n) x → flow_place p out.lists main path x < length flat.flows
  inside path n x here has =
      subst (λ l. flow_place p out.lists main path x < length l) flows_are (place_inside p out.lists out.are_lists path main n x here has)

  module _ (inputs : InputsView) where
    abbrev streamed : Column → Stream
    streamed column t = under (base_clock inputs t) (gives (slice_get column.values t))

    abbrev column_at : List Column → ℕ → Stream
    column_at columns r t = under (base_clock inputs t) (gives (slice_get (data_of (slice_get columns r)) t))

    given_is : (columns : List Column) (r : ℕ) (s : Stream) → slice_get (map streamed columns) r ≡ Some s → column_at columns r ≡ s
    given_is [] r s e = cc
    given_is (c ∷ columns) zero s e = same_Some (streamed c) s e
    given_is (c ∷ columns) (suc r) s e = given_is columns r s e

    given_there : (columns : List Column) (r : ℕ) → r < length columns → slice_get (map streamed columns) r ≡ Some (column_at columns r)
    given_there [] r lt = absurd (omega (arith, lt))
    given_there (c ∷ columns) zero lt = refl
    given_there (c ∷ columns) (suc r) lt = given_there columns r (omega (arith, lt))

    -- a solution of the source gives one of the list
    to_list : IsOrdered flat → (σ : SourceStreams) → IsSourceSolution p main inputs σ → (τ : Streams) × IsSolution flat inputs τ × ((x : List ℕ) → place_of (variables_of node) x < length (variables_of node) → τ (place_of (variables_of node) x) ≡ σ [] x) × HasInstances p out.lists main τ σ
    to_list ordered σ sol =
        let g = gives_all p out.lists out.are_lists fs never main node out.is_main (base_clock inputs) (given_streams inputs) σ sol in
        let τ : Streams = λ x. get_or g.0 x nothing in
        let m = model flat inputs (length node.inputs) flat_fits τ in
        let r = g.2 m (has_itself g.0 0 m (λ x. let z : 0 + x ≡ x = omega arith in ap τ z)) (λ r s e. given_is inputs.columns r s e) in
        (τ, from_open flat inputs (length node.inputs) flat_fits ordered τ (subst (Solves (base_clock inputs) m) flows_are r.0), r.1, r.2)

    pub to_flat : IsOrdered flat → (σ : SourceStreams) → IsSourceSolution p main inputs σ → (τ : Streams) × IsSolution flat inputs τ × SameOnVariables flat τ σ
    to_flat ordered σ sol =
        let f = to_list ordered σ sol in (
          f.0,
          f.1,
          λ v x e.
              let at = variable_at v x e in
              let lt = slice_get_within (variables_of node) v x.name at.0 in
              ap f.0 (sym at.1) ∙ f.2 x.name (subst (λ n. n < length (variables_of node)) (sym at.1) lt),
        )

    -- each variable of each instance has the stream of its flow, in each solution of either
    pub same_flow : IsOrdered flat → (σ : SourceStreams) (τ : Streams) → IsSourceSolution p main inputs σ → IsSolution flat inputs τ → (path : Path) (n : NodeTree) (x : List ℕ) → instance_at p main path ≡ Some n → Contains (variables_of n) x → (t : ℕ) → σ path x t ≡ τ (flow_place p out.lists main path x) t
    same_flow ordered σ τ sol sol' path n x here has t =
        let f = to_list ordered σ sol in
        sym (ap (λ (s : Stream). s t) (f.3 path n x here has)) ∙ solutions_same flat inputs f.0 τ ordered f.1 sol' (flow_place p out.lists main path x) t (inside path n x here has)

    pub to_source : HasColumns p main inputs → (τ : Streams) → IsSolution flat inputs τ → (σ : SourceStreams) × IsSourceSolution p main inputs σ × SameOnVariables flat τ σ
    to_source columns τ sol =
        let m = model flat inputs (length node.inputs) flat_fits τ in
        let open_sol = to_open flat inputs (length node.inputs) flat_fits τ sol in
        let le = columns node out.is_main in (
          streams_of p out.lists main τ,
          reads p out.lists out.are_lists fs never main node out.is_main (base_clock inputs) (given_streams inputs) m (subst (Solves (base_clock inputs) m) (sym flows_are) open_sol) (λ r lt. given_there inputs.columns r (omega (arith, lt, le))),
          λ v x e.
              let at = variable_at v x e in
              ap τ (sym at.1) ∙ ap (λ o. τ (place_named o x.name)) (sym out.is_main),
        )

  pub have_flows : IsOrdered flat → InstancesHaveFlows p main flat
  have_flows ordered path n x here has = (
    flow_place p out.lists main path x,
    record { is_flow = inside path n x here has; same = λ inputs σ τ sol sol' t. same_flow inputs ordered σ τ sol sol' path n x here has t },
  )

pub agrees : AgreesLaw
agrees p main inputs flat accepted some out ordered columns =
    record { to_flat = to_flat p main flat accepted some out inputs ordered; to_source = to_source p main flat accepted some out inputs columns }

pub instances_law : InstancesLaw
instances_law p main flat accepted some out ordered = have_flows p main flat accepted some out ordered
