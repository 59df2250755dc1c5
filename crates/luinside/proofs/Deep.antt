-- What the list of variables says, and what their columns are in the words of the source.
use Rattle.std.proofs.Common.{◌≡◌, ◌∙◌, ◌<◌, ◌≤◌, ◌+◌, ◌++◌, ◌∷◌, [], ℕ, zero, suc, List, take, length, map, Some, refl, sym, ap, ap₂, subst, arith, length-append}
use Rattle.std.specs.Prelude.{All, flat_map, option_map, slice_get}
use Rattle.std.proofs.lemmas.List.{map-append, length-map, take_all}
use Rattle.std.proofs.lemmas.List.Elements.{All-append, All-cons, All-nil}
use Rattle.std.proofs.lemmas.Option.{same_Some, slice_get-map}
use Rattle.lutree.specs.Tree.{DeclarationTree, NodeTree, ProgramTree}
use Rattle.luflow.specs.declared.variable.Variable.{Variable}
use Rattle.luflow.specs.declared.variable.Role.{Role}
use Rattle.luflow.specs.declared.variable.Role.TheVariants.{Input, Output, Local}
use Rattle.luflow.specs.Program.{FlatView, flows_of}
use Rattle.luflow.specs.Tables.{OutputColumn}
use Rattle.luflow.specs.Solution.{solution}
use Rattle.luflow.proofs.Solutions.{IsSolution-solution}
use Rattle.lusource.specs.Names.{variables_of}
use Rattle.lusource.specs.Source.{Path}
use Rattle.lusource.specs.Instances.{instance_at}
use Rattle.lusource.specs.Agreement.{IsFlowOf}
use Rattle.lustat_rules.specs.Scope.{names_of}
use Rattle.lustat_rules.specs.Accepted.{Rule}
use Rattle.lucore_laws.specs.Layout.{variables_as, main_variables}
use Rattle.lucore_laws.specs.ListLaws.{DefineSomething}
use Rattle.lucore_laws.proofs.Facts.{node_facts}
use Rattle.lucore_laws.proofs.Names.{all_at, all_of, contains_at, contains_get, place_at}
use Rattle.lucore.specs.Result.{IsFlatOf}
use Rattle.lueval_lines.proofs.Noting.{map_same}
use Rattle.luinside.specs.declared.listing.Instance.{Instance}
use Rattle.luinside.specs.Listed.{AreInstances, IsInstance, paths}
use Rattle.luinside.specs.declared.way.Level.{Level}
use Rattle.luinside.specs.declared.variables.DeepVariable.{DeepVariable}
use Rattle.luinside.specs.Variables.{InstanceVariable, variables_from, variables_in, instance_variables, all_variables, deep_variable, names_and_types, AreDeepVariables}
use Rattle.luinside.specs.Columns.{DeepColumnsLaw}
use Rattle.luinside.proofs.ListedVariables.{Passed}

abbrev name_of : Variable → List ℕ
name_of v = v.name

as_names : (role : Role) (ds : List DeclarationTree) → map (λ (v : Variable). v.name) (variables_as role ds) ≡ names_of ds
as_names role [] = refl
as_names role (d ∷ ds) = ap (λ l. d.name ∷ l) (as_names role ds)

-- the names of a node's variables
main_names : (node : NodeTree) → map (λ (v : Variable). v.name) (main_variables node) ≡ variables_of node
main_names node =
    let name = λ (v : Variable). v.name in
    let tree = λ (d : DeclarationTree). d.name in
    map-append name (variables_as Input node.inputs) (variables_as Output node.outputs ++ variables_as Local node.locals)
    ∙ ap₂ (λ (a b : List (List ℕ)). a ++ b) (as_names Input node.inputs)
    (map-append name (variables_as Output node.outputs) (variables_as Local node.locals) ∙ ap₂ (λ (a b : List (List ℕ)). a ++ b) (as_names Output node.outputs) (as_names Local node.locals) ∙ sym (map-append tree node.outputs node.locals))
    ∙ sym (map-append tree node.inputs (node.outputs ++ node.locals))

module _ (p : ProgramTree) (main : List ℕ) (flat : FlatView) where
  abbrev pub HasFlow : InstanceVariable → Type 0
  HasFlow x = IsFlowOf p main flat x.path x.variable.name x.flow

  flows_from : (path : Path) (s : ℕ) (xs : List Variable) → ((i : ℕ) (v : Variable) → slice_get xs i ≡ Some v → IsFlowOf p main flat path v.name (s + i)) → All HasFlow (variables_from path s xs)
  flows_from path s [] h = All-nil HasFlow
  flows_from path s (x ∷ xs) h =
      let z : s + 0 ≡ s = omega arith in
      All-cons HasFlow (record { path = path; variable = x; flow = s }) (variables_from path (suc s) xs) (subst (IsFlowOf p main flat path x.name) z (h 0 x refl))
      (flows_from path (suc s) xs (λ i v e. let y : s + suc i ≡ suc s + i = omega arith in subst (IsFlowOf p main flat path v.name) y (h (suc i) v e)))

  all_flat : (f : Instance → List InstanceVariable) (xs : List Instance) → ((k : ℕ) (x : Instance) → slice_get xs k ≡ Some x → All HasFlow (f x)) → All HasFlow (flat_map f xs)
  all_flat f [] h = All-nil HasFlow
  all_flat f (x ∷ xs) h = All-append HasFlow (f x) (flat_map f xs) (h 0 x refl) (all_flat f xs (λ k y e. h (suc k) y e))

  module _ (is : IsFlatOf p main flat) where
    something : DefineSomething p
    something i j node q n e = ((is.accepted Rule.wrong_arity).equations i j node q n e).some

    -- the flows of the variables of an instance
    instance_flows : (x : Instance) → IsInstance p main flat x → All HasFlow (instance_variables p x)
    instance_flows x inst =
        let node = inst.node in
        let facts = node_facts p main is.accepted something x.node node inst.is_node in
        subst (λ o. All HasFlow (variables_from x.path x.start (variables_in o))) (sym inst.is_node)
        (flows_from x.path x.start (main_variables node)
        (λ i v e.
        let at : slice_get (variables_of node) i ≡ Some v.name = ap (λ l. slice_get l i) (sym (main_names node)) ∙ slice_get-map (λ (v : Variable). v.name) (main_variables node) i ∙ ap (option_map (λ (v : Variable). v.name)) e in
        let place = place_at (variables_of node) v.name i facts.apart at in
        subst (λ n. IsFlowOf p main flat x.path v.name (x.start + n)) place (inst.flows v.name (contains_get (variables_of node) v.name i at))))

    flows : (list : List Instance) → AreInstances p main flat list → All HasFlow (all_variables p list)
    flows list are = all_flat (instance_variables p) list (λ k x e. instance_flows x (all_at (IsInstance p main flat) list k x are.each e))

    inside : (xs : List InstanceVariable) → All HasFlow xs → All (λ (d : DeepVariable). d.flow < flows_of flat) (map (deep_variable p main) xs)
    inside xs h =
        all_of (λ (d : DeepVariable). d.flow < flows_of flat) (map (deep_variable p main) xs) (λ i d e.
        let x = unmapped xs i d e in
        let here = (all_at HasFlow xs i x.0 h x.1).is_flow in
        subst (λ (d : DeepVariable). d.flow < flows_of flat) x.2 here)
      where
        unmapped : (xs : List InstanceVariable) (i : ℕ) (d : DeepVariable) → slice_get (map (deep_variable p main) xs) i ≡ Some d → (x : InstanceVariable) × (slice_get xs i ≡ Some x) × (deep_variable p main x ≡ d)
        unmapped [] i d e = cc
        unmapped (x ∷ xs) zero d e = (x, refl, same_Some (deep_variable p main x) d e)
        unmapped (x ∷ xs) (suc i) d e = unmapped xs i d e

    -- those of the main node are as they are declared
    main_same : (s : ℕ) (xs : List Variable) → names_and_types (map (deep_variable p main) (variables_from [] s xs)) ≡ xs
    main_same s [] = refl
    main_same s (x ∷ xs) = ap (λ l. x ∷ l) (main_same (suc s) xs)

    first_path : (x : Instance) (xs : List Instance) → AreInstances p main flat (x ∷ xs) → x.path ≡ []
    first_path x xs are =
        let at = contains_at (paths (x ∷ xs)) [] (are.all [] is.laid_out.node is.laid_out.is_main) in
        go at.0 at.1
      where
        go : (i : ℕ) → slice_get (paths (x ∷ xs)) i ≡ Some [] → x.path ≡ []
        go zero e = same_Some x.path [] e
        go (suc i) e = absurd (are.ordered 0 (suc i) x.path [] (omega arith) refl e)

    main_ones : (list : List Instance) → AreInstances p main flat list → (rest : List Variable) × (names_and_types (map (deep_variable p main) (all_variables p list)) ≡ flat.variables ++ rest)
    main_ones [] are = let at = contains_at (paths []) [] (are.all [] is.laid_out.node is.laid_out.is_main) in let e : slice_get (paths []) at.0 ≡ Some [] = at.1 in cc
    main_ones (x ∷ xs) are =
        let deep = deep_variable p main in
        let variable = λ (d : DeepVariable). d.variable in
        let inst = all_at (IsInstance p main flat) (x ∷ xs) 0 x are.each refl in
        let path = first_path x xs are in
        let node : inst.node ≡ is.laid_out.node = same_Some inst.node is.laid_out.node (sym inst.at_path ∙ ap (instance_at p main) path ∙ is.laid_out.is_main) in
        let own : instance_variables p x ≡ variables_from [] x.start flat.variables =
        ap₂ (λ (q : Path) (o : List Variable). variables_from q x.start o) path (ap variables_in inst.is_node ∙ ap main_variables node ∙ sym is.laid_out.variables) in
        let rest = all_variables p xs in (
          names_and_types (map deep rest),
          ap names_and_types (map-append deep (instance_variables p x) rest) ∙ map-append variable (map deep (instance_variables p x)) (map deep rest)
              ∙ ap (λ l. names_and_types (map deep l) ++ names_and_types (map deep rest)) own ∙ ap (λ l. l ++ names_and_types (map deep rest)) (main_same x.start flat.variables),
        )

    take_front : (xs ys : List Variable) → take (length xs) (xs ++ ys) ≡ xs
    take_front [] ys = refl
    take_front (x ∷ xs) ys = ap (λ l. x ∷ l) (take_front xs ys)

    -- all instances are passed
    pub listed : (list : List Instance) (k : ℕ) (way : List Level) (found : List DeepVariable) → AreInstances p main flat list → length list ≤ k → Passed p main list k way found → AreDeepVariables p main flat found
    listed list k way found are all passed =
        let made : found ≡ map (deep_variable p main) (all_variables p list) = passed.variables ∙ ap (λ xs. map (deep_variable p main) (all_variables p xs)) (take_all k list all) in
        let has = flows list are in
        let ones = main_ones list are in
        let names : names_and_types found ≡ flat.variables ++ ones.0 = ap names_and_types made ∙ ones.1 in
        record {
          instances = list;
          are_instances = are;
          are = made;
          flows = has;
          inside = subst (All (λ (d : DeepVariable). d.flow < flows_of flat)) (sym made) (inside (all_variables p list) has);
          main_first = ap (take (length flat.variables)) names ∙ take_front flat.variables ones.0;
          enough = let n = ap length names in let m = length-map found (λ (d : DeepVariable). d.variable) in omega (arith, n, m, length-append flat.variables ones.0);
        }

-- THE COLUMNS

-- the columns of all variables are those of all variables of all instances
pub deep_columns : DeepColumnsLaw
deep_columns p main flat inputs list columns is_flat deep are =
    let all = all_variables p deep.instances in
    let make = deep_variable p main in
    let name = λ (d : DeepVariable). d.variable.name in
    let columns_name = λ (c : OutputColumn). c.name in
    let long : length columns ≡ length list = sym (length-map columns columns_name) ∙ ap length are.names ∙ length-map list name in
    let τ = solution flat inputs in
    let sol = IsSolution-solution flat inputs is_flat.ordered in
    record {
      instances = deep.instances;
      are_instances = deep.are_instances;
      count = long ∙ ap length deep.are ∙ length-map all make;
      each = λ k x c there at.
          let made : slice_get list k ≡ Some (make x) = ap (λ l. slice_get l k) deep.are ∙ slice_get-map make all k ∙ ap (option_map make) there in
          let named : slice_get (map columns_name columns) k ≡ Some c.name = slice_get-map columns_name columns k ∙ ap (option_map columns_name) at in
          let wanted : slice_get (map name list) k ≡ Some (make x).variable.name = slice_get-map name list k ∙ ap (option_map name) made in
          let flow = all_at (HasFlow p main flat) all k x deep.flows there in
          record {
            name = same_Some c.name (make x).variable.name (sym named ∙ ap (λ l. slice_get l k) are.names ∙ wanted);
            stream = λ σ s. are.streams τ sol k (make x) c made at ∙ map_same (τ x.flow) (σ x.path x.variable.name) 0 inputs.instants (λ t. sym (flow.same inputs σ τ s sol t));
          };
    }
