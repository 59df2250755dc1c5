-- The flat list of an accepted program is closed.
use Rattle.std.proofs.Common.{◌-◌, ◌++◌, ⊎_elim, Option, None, ◌≡◌, ℕ, zero, suc, ◌+◌, ◌<◌, ◌≤◌, List, [], ◌∷◌, length, replicate, Some, refl, sym, ap, ◌∙◌, subst, arith, length-append, Bool, true, false, cond, map}
use Rattle.std.specs.Prelude.{slice_get, option_map, All}
use Rattle.std.specs.Str.{bytes_eq}
use Rattle.std.specs.List.{list_any}
use Rattle.std.proofs.lemmas.List.{length-map, length-replicate}
use Rattle.std.proofs.lemmas.List.Elements.{All-nil, All-append, All-replicate}
use Rattle.std.proofs.lemmas.Option.{same_Some, slice_get-map}
use Rattle.lutree.specs.declared.expr.Condition.{Condition}
use Rattle.lutree.specs.Tree.{DeclarationTree, EquationTree, NodeTree, ProgramTree}
use Rattle.luflow.specs.declared.form.Flow.{Flow}
use Rattle.luflow.specs.Program.{clock_reads}
use Rattle.luflow.specs.declared.variable.Variable.{Variable}
use Rattle.lusource.specs.Names.{variables_of, name_at, place_of}
use Rattle.lustat_rules.specs.Scope.{declarations_of}
use Rattle.lustat_rules.specs.Clocks.{HasClock}
use Rattle.lucore_laws.specs.Layout.{walk_right, inner_flows, inner_owners, variable_place, variable_count, clock_place, node_flows, node_owners, variables_as, main_variables, owner_of}
use Rattle.lucore_laws.specs.ListLaws.{ClosedLaw}
use Rattle.lucore_laws.proofs.Roots.{parts, front, length-front, get-input}
use Rattle.lucore_laws.proofs.Static.{all_cons, clock_on, CopyFits}
use Rattle.std.proofs.lemmas.Bool.{cases_lt}
use Rattle.luflow.specs.declared.variable.Role.{Role}
use Rattle.luflow.specs.declared.variable.Role.TheVariants as role
use Rattle.lucore_laws.proofs.Names.{get-front, get-behind, all_at, get-names, place_at, all_of, mapped_some, place_in}
use Rattle.lucore_laws.proofs.Well.{Known}
use Rattle.lucore_laws.proofs.ListToSource.{name_there}
use Rattle.lucore_laws.proofs.Facts.{Below, NodeFacts, facts}
use Rattle.lucore_laws.proofs.NodeStatic.{first_is, variables}
use Rattle.lucore_laws.proofs.Whole.{main_names, flat_fits, input_there}

module _ (p : ProgramTree) (lists : List (List Flow)) (node : NodeTree) where
  length-owners : (qs : List EquationTree) (s : ℕ) → length (inner_owners p lists node qs s) ≡ length (inner_flows p lists node qs s)
  length-owners [] s = refl
  length-owners (q ∷ qs) s =
      let w = (walk_right p lists node q s).inner in
      let v = variable_place p lists node (name_at q.left 0) in
      let h = length-owners qs (s + length w) in
      let r : length (replicate (length w) v) ≡ length w = length-replicate (length w) v in
      omega (arith, length-append (replicate (length w) v) (inner_owners p lists node qs (s + length w)), length-append w (inner_flows p lists node qs (s + length w)))

  pub owners_long : length (node_owners p lists node) ≡ length (node_flows p lists node)
  owners_long =
      let nv = variable_count p lists node in
      let h = length-owners node.equations nv in
      let f = length-front p lists node in
      let l = ap length (parts p lists node) in
      let r = length-map (variables_of node) (owner_of node node.equations) in
      omega (arith, length-append (map (owner_of node node.equations) (variables_of node)) (inner_owners p lists node node.equations nv), length-append (front p lists node) (inner_flows p lists node node.equations nv))

  pub variables_long : length (main_variables node) ≤ length (node_flows p lists node)
  variables_long =
      let f = length-front p lists node in
      let l = ap length (parts p lists node) in
      let m = ap length (main_names node) in
      omega (arith, length-map (main_variables node) (λ (x : Variable). x.name), length-append (front p lists node) (inner_flows p lists node node.equations (variable_count p lists node)))

pub declared : (ds : List DeclarationTree) (j : ℕ) → j < length ds → (d : DeclarationTree) × (slice_get ds j ≡ Some d)
declared [] j lt = absurd (omega (arith, lt))
declared (d ∷ ds) zero lt = (d, refl)
declared (d ∷ ds) (suc j) lt = declared ds j (omega (arith, lt))

-- the owners are variables of the node
module _ (p : ProgramTree) (lists : List (List Flow)) (node : NodeTree) (facts : NodeFacts p node) where
  abbrev IsVariable : ℕ → Type 0
  IsVariable v = v < variable_count p lists node

  inner_owners_in : (qs : List EquationTree) (s : ℕ) → ((j : ℕ) (q : EquationTree) → slice_get qs j ≡ Some q → (i : ℕ) × (slice_get node.equations i ≡ Some q)) → All IsVariable (inner_owners p lists node qs s)
  inner_owners_in [] s there = All-nil IsVariable
  inner_owners_in (q ∷ qs) s there =
      let t = there 0 q refl in
      let w = (walk_right p lists node q s).inner in
      let first = all_at (Known p node (Below node)) q.left 0 (name_at q.left 0) (facts.lefts t.0 q t.1) (name_there q.left 0 (facts.some t.0 q t.1)) in
      All-append IsVariable (replicate (length w) (variable_place p lists node (name_at q.left 0))) (inner_owners p lists node qs (s + length w))
      (All-replicate IsVariable (length w) (variable_place p lists node (name_at q.left 0)) first) (inner_owners_in qs (s + length w) (λ j q e. there (suc j) q e))

  chosen_in : (b : Bool) (first rest : ℕ) → IsVariable first → IsVariable rest → IsVariable (cond b first rest)
  chosen_in true first rest f r = f
  chosen_in false first rest f r = r

  owner_in : (qs : List EquationTree) → ((j : ℕ) (q : EquationTree) → slice_get qs j ≡ Some q → (i : ℕ) × (slice_get node.equations i ≡ Some q)) → (x : List ℕ) → IsVariable (place_of (variables_of node) x) → IsVariable (owner_of node qs x)
  owner_in [] there x h = h
  owner_in (q ∷ qs) there x h =
      let t = there 0 q refl in
      let first = all_at (Known p node (Below node)) q.left 0 (name_at q.left 0) (facts.lefts t.0 q t.1) (name_there q.left 0 (facts.some t.0 q t.1)) in
      chosen_in (list_any (λ y. bytes_eq y x) q.left) (place_of (variables_of node) (name_at q.left 0)) (owner_of node qs x) first (owner_in qs (λ j q e. there (suc j) q e) x h)

  variable_owner_in : (i v : ℕ) → slice_get (map (owner_of node node.equations) (variables_of node)) i ≡ Some v → IsVariable v
  variable_owner_in i v e =
      let m = mapped_some (owner_of node node.equations) (slice_get (variables_of node) i) v (sym (slice_get-map (owner_of node node.equations) (variables_of node) i) ∙ e) in
      subst IsVariable m.2 (owner_in node.equations (λ j q e. (j, e)) m.0 (place_in (variables_of node) m.0 i m.1))

  pub owners_within : All IsVariable (node_owners p lists node)
  owners_within =
      let nv = variable_count p lists node in
      All-append IsVariable (map (owner_of node node.equations) (variables_of node)) (inner_owners p lists node node.equations nv)
      (all_of IsVariable (map (owner_of node node.equations) (variables_of node)) variable_owner_in) (inner_owners_in node.equations nv (λ j q e. (j, e)))

  clock_in : (x : List ℕ) (k : Option Condition) → HasClock node x k → All IsVariable (clock_reads (clock_place node k))
  clock_in x None has = All-nil IsVariable
  clock_in x (Some c) has = all_cons IsVariable (variable_place p lists node c.variable) [] (facts.clocks x c has) (All-nil IsVariable)

  pub clocks_within : (v : ℕ) (f : Flow) → IsVariable v → slice_get (node_flows p lists node) v ≡ Some f → All IsVariable (clock_reads f.clock)
  clocks_within v f lt e =
      let ld = length-map (declarations_of node) (λ (d : DeclarationTree). d.name) in
      let d = declared (declarations_of node) v (omega arith) in
      let named : slice_get (variables_of node) v ≡ Some d.0.name = get-names (declarations_of node) v ∙ ap (option_map (λ (d : DeclarationTree). d.name)) d.1 in
      let here = place_at (variables_of node) d.0.name v facts.apart named in
      let has : HasClock node d.0.name d.0.clock = ap (option_map (λ (d : DeclarationTree). d.clock)) (first_is (declarations_of node) d.0.name ∙ ap (slice_get (declarations_of node)) here ∙ d.1) in
      let clock : Some (clock_place node d.0.clock) ≡ Some f.clock = sym (variables p lists node facts d.0.name d.0.clock has) ∙ ap (clock_on (node_flows p lists node)) here ∙ ap (option_map (λ (f : Flow). f.clock)) e in
      subst (λ k. All IsVariable (clock_reads k)) (same_Some (clock_place node d.0.clock) f.clock clock) (clock_in d.0.name d.0.clock has)

-- INPUTS

role_of : (r : Role) (ds : List DeclarationTree) (v : ℕ) (x : Variable) → slice_get (variables_as r ds) v ≡ Some x → x.role ≡ r
role_of r [] v x e = cc
role_of r (d ∷ ds) zero x e = ap (λ (x : Variable). x.role) (sym (same_Some (record { name = d.name; role = r; kind = d.kind }) x e))
role_of r (d ∷ ds) (suc v) x e = role_of r ds v x e

-- a variable of another role is no input
other_role : (node : NodeTree) (j : ℕ) (x : Variable) → slice_get (variables_as role.Output node.outputs ++ variables_as role.Local node.locals) j ≡ Some x → x.role ≡ role.Input → ⊥
other_role node j x e input =
    let O = variables_as role.Output node.outputs in
    let M = variables_as role.Local node.locals in
    ⊎_elim
    (λ (lt : j < length O). let h : role.Output ≡ role.Input = sym (role_of role.Output node.outputs j x (sym (get-front O M j lt) ∙ e)) ∙ input in cc)
    (λ (le : length O ≤ j).
    let z : length O + (j - length O) ≡ j = omega arith in
    let h : role.Local ≡ role.Input = sym (role_of role.Local node.locals (j - length O) x (sym (get-behind O M (length O) (j - length O) refl) ∙ ap (slice_get (O ++ M)) z ∙ e)) ∙ input in cc)
    (cases_lt j (length O))

input_low : (node : NodeTree) (v : ℕ) (x : Variable) → slice_get (main_variables node) v ≡ Some x → x.role ≡ role.Input → v < length node.inputs
input_low node v x e input =
    let I = variables_as role.Input node.inputs in
    let rest = variables_as role.Output node.outputs ++ variables_as role.Local node.locals in
    let l : length I ≡ length node.inputs = length-map node.inputs (λ (d : DeclarationTree). record { name = d.name; role = role.Input; kind = d.kind }) in
    ⊎_elim (λ (lt : v < length node.inputs). lt)
    (λ (le : length node.inputs ≤ v).
    let j = v - length node.inputs in
    let z : length node.inputs + j ≡ v = omega arith in
    absurd (other_role node j x (sym (get-behind I rest (length node.inputs) j l) ∙ ap (slice_get (I ++ rest)) z ∙ e) input))
    (cases_lt v (length node.inputs))

input_variable : (node : NodeTree) (r : ℕ) → r < length node.inputs → (x : Variable) × (slice_get (main_variables node) r ≡ Some x) × (x.role ≡ role.Input)
input_variable node r lt =
    let as_input : DeclarationTree → Variable = λ d. record { name = d.name; role = role.Input; kind = d.kind } in
    let I = variables_as role.Input node.inputs in
    let rest = variables_as role.Output node.outputs ++ variables_as role.Local node.locals in
    let d = declared node.inputs r lt in
    let l : length I ≡ length node.inputs = length-map node.inputs as_input in
    (as_input d.0, get-front I rest r (omega arith) ∙ slice_get-map as_input node.inputs r ∙ ap (option_map as_input) d.1, refl)

pub closed : ClosedLaw
closed p main flat accepted some out =
    let fits = flat_fits p main flat accepted some out in
    let node_facts = facts p main accepted some main out.node out.is_main in
    let count : variable_count p out.lists out.node ≡ length flat.variables =
    ap length (sym (main_names out.node)) ∙ length-map (main_variables out.node) (λ (x : Variable). x.name) ∙ sym (ap length out.variables) in
    record {
      places_in = λ i f e. (fits i f e).places_in;
      clocks_in = λ i f e. (fits i f e).clocks_in;
      owners_len = ap length out.owners ∙ owners_long p out.lists out.node ∙ sym (ap length out.flows);
      owners_in = subst (λ n. All (λ v. v < n) flat.owners) count (subst (All (λ v. v < variable_count p out.lists out.node)) (sym out.owners) (owners_within p out.lists out.node node_facts));
      main_clocks = λ v f lt e.
          subst (λ n. All (λ c. c < n) (clock_reads f.clock)) count
          (clocks_within p out.lists out.node node_facts v f (subst (λ n. v < n) (sym count) lt) (ap (λ l. slice_get l v) (sym out.flows) ∙ e));
      variables_first = (let a = ap length out.variables in let b = ap length out.flows in let c = variables_long p out.lists out.node in omega arith);
      input_there = λ i r f e form.
          let c = subst (CopyFits flat.flows (length out.node.inputs) f.clock) form (fits i f e).copy in
          let same = input_there p main flat accepted some out i f r e form in
          let x = input_variable out.node r c.1 in
          (sym same, c.0, x.0, ap (slice_get flat.variables) same ∙ ap (λ l. slice_get l r) out.variables ∙ x.1, x.2);
      input_is = λ v x e input.
          let lt = input_low out.node v x (ap (λ l. slice_get l v) (sym out.variables) ∙ e) input in
          let d = declared out.node.inputs v lt in
          (_, ap (λ l. slice_get l v) out.flows ∙ get-input p out.lists out.node v d.0 d.1, refl);
    }
