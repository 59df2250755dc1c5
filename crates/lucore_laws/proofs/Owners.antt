-- What a flow of a node's list names is a variable, or has the same owner.
use Rattle.std.proofs.Common.{◌≡◌, ℕ, suc, ◌+◌, ◌-◌, ◌<◌, ◌≤◌, ◌⊎◌, inl, inr, ⊎_elim, Bool, true, false, cond, List, [], ◌∷◌, ◌++◌, length, map, replicate, Option, Some, None, refl, sym, ap, ◌∙◌, subst, arith}
use Rattle.std.specs.Prelude.{slice_get, slice_index, option_map, All, Contains}
use Rattle.std.specs.List.{list_any}
use Rattle.std.specs.Str.{bytes_eq}
use Rattle.std.proofs.lemmas.List.{length-map, length-replicate, get_or-replicate}
use Rattle.std.proofs.lemmas.List.Elements.{All-nil, All-append}
use Rattle.std.proofs.lemmas.Option.{slice_get_within, slice_get-get_or, slice_get-map, get_or_from_slice_get}
use Rattle.lutree.specs.declared.expr.Condition.{Condition}
use Rattle.lutree.specs.Tree.{DeclarationTree, EquationTree, NodeTree, ProgramTree}
use Rattle.luflow.specs.declared.form.Clock.TheVariants.{Base}
use Rattle.luflow.specs.declared.form.Flow.{Flow}
use Rattle.luflow.specs.Program.{places, clock_reads}
use Rattle.lusource.specs.Names.{variables_of, place_of, name_at, clock_of}
use Rattle.lustat_rules.specs.Scope.{declarations_of, node_called}
use Rattle.lustat_rules.specs.Scope as rules
use Rattle.lucore_laws.specs.Layout.{Root, walk_right, left_clock, root_flow, inner_flows, variable_flow, owner_of, inner_owners, variable_place, variable_count, input_flows, list_of, node_flows, node_owners}
use Rattle.lucore_laws.specs.Layout.Root.{own, at}
use Rattle.lucore_laws.proofs.Each.{Each, each_left, each_right, each_join, each_all, each_at, each_map}
use Rattle.lucore_laws.proofs.Names.{get-front, get-behind, all_imp, contains_at, place_in, clock_cases}
use Rattle.lucore_laws.proofs.Roots.{any_cases, parts, length-front, length-inputs, front, others}
use Rattle.lucore_laws.proofs.Static.{AreFit, all_cons, clock_on}
use Rattle.lucore_laws.proofs.Facts.{Below, NodeFacts}
use Rattle.lucore_laws.proofs.Variables.{other_named}
use Rattle.lucore_laws.proofs.Near.{Near, FlowNear, RootNear, ClockKnown, clock_near, near}

-- one of the first nv places, or one whose owner is this
abbrev pub OwnedBy : List ℕ → ℕ → ℕ → ℕ → Type 0
OwnedBy O nv owner r = (r < nv) ⊎ (slice_index O r ≡ owner)

abbrev pub FlowOwned : List ℕ → ℕ → ℕ → Flow → Type 0
FlowOwned O nv owner f = All (OwnedBy O nv owner) (places f.form ++ clock_reads f.clock)

module _ (O : List ℕ) (nv s n owner : ℕ) (owners : Each (λ x v. slice_get O x ≡ Some v) s (replicate n owner)) where
  -- the places from s on have the owner
  owner_is : (j : ℕ) → j < n → slice_index O (s + j) ≡ owner
  owner_is j lt =
      let l = length-replicate n owner in
      let e : slice_get (replicate n owner) j ≡ Some owner = slice_get-get_or (replicate n owner) j 0 (omega arith) ∙ ap Some (get_or-replicate n j owner 0 lt) in
      get_or_from_slice_get O (s + j) owner 0 (each_at (λ x v. slice_get O x ≡ Some v) s (replicate n owner) j owner owners e)

  place_owned : (r : ℕ) → Near nv s (s + n) r → OwnedBy O nv owner r
  place_owned r near =
      ⊎_elim (λ (lt : r < nv). inl lt)
      (λ (h : (s ≤ r) × (r < s + n)).
      let z : s + (r - s) ≡ r = omega (arith, h.0) in
      inr (ap (slice_index O) (sym z) ∙ owner_is (r - s) (omega (arith, h.0, h.1))))
      near

  flow_owned : (f : Flow) → FlowNear nv s (s + n) f → FlowOwned O nv owner f
  flow_owned f h =
      All-append (OwnedBy O nv owner) (places f.form) (clock_reads f.clock) (all_imp (Near nv s (s + n)) (OwnedBy O nv owner) (places f.form) place_owned h.operands)
      (all_imp (Near nv s (s + n)) (OwnedBy O nv owner) (clock_reads f.clock) place_owned h.clock)

module _ (p : ProgramTree) (lists : List (List Flow)) (node : NodeTree) (facts : NodeFacts p node)
    (callee_fits : (f : List ℕ) → Below node f → (callee : NodeTree) → node_called p f ≡ Some callee → AreFit (list_of p lists f) (length callee.inputs))
    (callee_outputs : (f : List ℕ) → Below node f → (callee : NodeTree) → node_called p f ≡ Some callee → (j : ℕ) → j < length callee.outputs → clock_on (list_of p lists f) (length callee.inputs + j) ≡ Some Base) where
  abbrev nv : ℕ
  nv = variable_count p lists node

  abbrev m : ℕ
  m = length node.inputs

  abbrev IsKnown : Option Condition → Type 0
  IsKnown = ClockKnown p lists node (Below node) 0 0 callee_fits callee_outputs

  known_one : (x : List ℕ) (k : Option Condition) → option_map (λ (d : DeclarationTree). d.clock) (rules.meaning node x) ≡ Some k → IsKnown k
  known_one x None e = tt
  known_one x (Some c) e = facts.clocks x c e

  clock_known : (x : List ℕ) → IsKnown (clock_of node x)
  clock_known x =
      ⊎_elim (λ (h : clock_of node x ≡ None). subst IsKnown (sym h) tt)
      (λ (h : option_map (λ (d : DeclarationTree). d.clock) (rules.meaning node x) ≡ Some (clock_of node x)). known_one x (clock_of node x) h)
      (clock_cases (declarations_of node) x)

  root_near : (lo hi : ℕ) (q : EquationTree) (root : Root) (j : ℕ) (x : List ℕ) → j < length q.left → RootNear nv lo hi (length q.left) root → FlowNear nv lo hi (root_flow p lists node q root j x)
  root_near lo hi q (own f) j x lt h = h
  root_near lo hi q (at i) j x lt h =
      record {
        operands = all_cons (Near nv lo hi) (i + j) [] (h j lt) (All-nil (Near nv lo hi));
        clock = clock_near p lists node (Below node) lo hi callee_fits callee_outputs (left_clock p lists node q) (clock_known (name_at q.left 0));
      }

  module _ (O : List ℕ) where
    abbrev Owns : ℕ → List ℕ → Type 0
    Owns s vs = Each (λ x v. slice_get O x ≡ Some v) s vs

    abbrev IsOwned : ℕ → Flow → Type 0
    IsOwned owner f = FlowOwned O nv owner f

    variable_step : (q : EquationTree) (x : List ℕ) (first later : ℕ) (here : ℕ → Flow) (there : Flow) → ((j : ℕ) → j < length q.left → IsOwned first (here j)) → IsOwned later there → (b : Bool) → ((b ≡ true) × Contains q.left x) ⊎ ((b ≡ false) × (¬ Contains q.left x)) → IsOwned (cond b first later) (cond b (here (place_of q.left x)) there)
    variable_step q x first later here there h g true (inl c) = let at = contains_at q.left x c.1 in h (place_of q.left x) (place_in q.left x at.0 at.1)
    variable_step q x first later here there h g true (inr c) = let no : true ≡ false = c.0 in cc
    variable_step q x first later here there h g false c = g

    equations_owned : (qs : List EquationTree) (s : ℕ) → ((j : ℕ) (q : EquationTree) → slice_get qs j ≡ Some q → (i : ℕ) × (slice_get node.equations i ≡ Some q)) → Owns s (inner_owners p lists node qs s)
        → Each (λ x f. IsOwned (slice_index O x) f) s (inner_flows p lists node qs s) × ((x : List ℕ) → IsOwned (owner_of node qs x) (variable_flow p lists node qs s x))
    equations_owned [] s there owns = (tt, λ x. All-nil (OwnedBy O nv (place_of (variables_of node) x)))
    equations_owned (q ∷ qs) s there owns =
        let t = there 0 q refl in
        let w = walk_right p lists node q s in
        let n = length w.inner in
        let first = variable_place p lists node (name_at q.left 0) in
        let rest = inner_owners p lists node qs (s + n) in
        let owners = each_left (λ x v. slice_get O x ≡ Some v) s (replicate n first) rest owns in
        let l = length-replicate n first in
        let z : s + length (replicate n first) ≡ s + n = omega arith in
        let later = subst (λ y. Owns y rest) z (each_right (λ x v. slice_get O x ≡ Some v) s (replicate n first) rest owns) in
        let g = equations_owned qs (s + n) (λ j q e. there (suc j) q e) later in
        let h = near p lists node (Below node) s (s + n) callee_fits callee_outputs clock_known q.right (left_clock p lists node q) (length q.left) (clock_known (name_at q.left 0)) (facts.rights t.0 q t.1) s (omega arith) (omega arith) in (
          each_join (λ x f. IsOwned (slice_index O x) f) s w.inner (inner_flows p lists node qs (s + n))
              (each_all (λ x f. IsOwned (slice_index O x) f) s w.inner (λ j f e.
              subst (λ owner. IsOwned owner f) (sym (owner_is O nv s n first owners j (slice_get_within w.inner j f e))) (flow_owned O nv s n first owners f (each_at (λ x f. FlowNear nv s (s + n) f) s w.inner j f h.0 e)))) g.0,
          λ x.
              variable_step q x first (owner_of node qs x) (λ j. root_flow p lists node q w.root j x) (variable_flow p lists node qs (s + n) x)
              (λ j lt. flow_owned O nv s n first owners (root_flow p lists node q w.root j x) (root_near s (s + n) q w.root j x lt h.1)) (g.1 x) (list_any (λ y. bytes_eq y x) q.left) (any_cases q.left x (list_any (λ y. bytes_eq y x) q.left) refl),
        )

    inputs_owned : (r : ℕ) (ds : List DeclarationTree) → Each (λ x f. IsOwned (slice_index O x) f) r (input_flows p lists node r ds)
    inputs_owned r [] = tt
    inputs_owned r (d ∷ ds) = (All-nil (OwnedBy O nv (slice_index O r)), inputs_owned (suc r) ds)

  abbrev owners : List ℕ
  owners = node_owners p lists node

  -- the owner of a variable
  variable_owner : (v : ℕ) (x : List ℕ) → slice_get (variables_of node) v ≡ Some x → slice_index owners v ≡ owner_of node node.equations x
  variable_owner v x e =
      let F = owner_of node node.equations in
      let lt = slice_get_within (variables_of node) v x e in
      let l = length-map (variables_of node) F in
      get_or_from_slice_get owners v (F x) 0 (get-front (map F (variables_of node)) (inner_owners p lists node node.equations nv) v (omega arith) ∙ slice_get-map F (variables_of node) v ∙ ap (option_map F) e)

  pub node_owned : (x : ℕ) (f : Flow) → slice_get (node_flows p lists node) x ≡ Some f → FlowOwned owners nv (slice_index owners x) f
  node_owned x f e =
      let P = λ (x : ℕ) (f : Flow). FlowOwned owners nv (slice_index owners x) f in
      let F = owner_of node node.equations in
      let V = variable_flow p lists node node.equations nv in
      let ins = input_flows p lists node 0 node.inputs in
      let inner = inner_flows p lists node node.equations nv in
      let back = inner_owners p lists node node.equations nv in
      let owns = each_all (λ x v. slice_get owners x ≡ Some v) nv back (λ j v e. get-behind (map F (variables_of node)) back nv j (length-map (variables_of node) F) ∙ e) in
      let q = equations_owned owners node.equations nv (λ j q e. (j, e)) owns in
      let li = length-inputs p lists node 0 node.inputs in
      let lf = length-front p lists node in
      let y : m ≡ 0 + length ins = omega arith in
      let z : nv ≡ 0 + length (front p lists node) = omega arith in
      let vars : Each P m (map V (others p lists node)) =
      each_map P V m (others p lists node) (each_all (λ x name. P x (V name)) m (others p lists node) (λ j x e. subst (λ owner. FlowOwned owners nv owner (V x)) (sym (variable_owner (m + j) x (other_named p lists node j x e))) (q.1 x))) in
      let fronts = each_join P 0 ins (map V (others p lists node)) (inputs_owned owners 0 node.inputs) (subst (λ n. Each P n (map V (others p lists node))) y vars) in
      let all = each_join P 0 (front p lists node) inner fronts (subst (λ n. Each P n inner) z q.0) in
      let w : 0 + x ≡ x = omega arith in
      subst (λ x. P x f) w (each_at P 0 (node_flows p lists node) x f (subst (Each P 0) (sym (parts p lists node)) all) e)
