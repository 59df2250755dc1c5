-- The faults of a node's list are those of the node, and those of a flat program are those of its source.
use Rattle.std.proofs.Common.{◌≡◌, ℕ, zero, suc, ◌+◌, ◌-◌, ◌<◌, ◌≤◌, inl, inr, ⊎_elim, Bool, true, false, cond, List, [], ◌∷◌, ◌++◌, length, map, get_or, replicate, Option, Some, None, refl, sym, ap, ◌∙◌, subst, arith, ◌⊎◌, take}
use Rattle.std.specs.Prelude.{slice_get, option_map, option_and_then, All, Contains}
use Rattle.std.specs.List.{list_any}
use Rattle.std.specs.Str.{bytes_eq}
use Rattle.std.proofs.Math.Path.{fun_ext}
use Rattle.std.proofs.lemmas.Bool.{cases_lt}
use Rattle.std.proofs.lemmas.List.{length-map, length-replicate}
use Rattle.std.proofs.lemmas.Option.{slice_get-map, slice_get-get_or, same_Some, slice_get_within}
use Rattle.std.proofs.lemmas.List.Elements.{Contains-append_left, Contains-append_right}
use Rattle.luflow.specs.declared.form.Form.{Form}
use Rattle.luflow.specs.declared.form.Form.TheVariants.{Input, Constant, Copied, Unary, Binary, If, Pre, Arrow, When, Current, Merge}
use Rattle.luflow.specs.Faults.{IsFault, IsFaultOn}
use Rattle.lutree.specs.declared.expr.Condition.{Condition}
use Rattle.lutree.specs.Tree.{DeclarationTree, EquationTree, NodeTree, ProgramTree}
use Rattle.luflow.specs.declared.form.Clock.{Clock}
use Rattle.luflow.specs.declared.form.Clock.TheVariants.{Base, On}
use Rattle.luflow.specs.declared.form.FaultKind.{FaultKind}
use Rattle.luflow.specs.declared.form.Flow.{Flow}
use Rattle.luflow.specs.declared.variable.Variable.{Variable}
use Rattle.luflow.specs.Program.{InputsView}
use Rattle.luflow.specs.Streams.{Streams, Ticks, base_clock, clock_at}
use Rattle.lusource.specs.Names.{variables_of, place_of, clock_of, name_at, AreDistinct}
use Rattle.lusource.specs.Source.{SourceStreams, calls}
use Rattle.lusource.specs.Faults as faults
use Rattle.lusource.specs.Instances.{instance_at}
use Rattle.lustat_rules.specs.Scope.{names_of, declarations_of, node_called}
use Rattle.lustat_rules.specs.Scope as rules
use Rattle.lustat_rules.specs.Naming.{Calls, Reaches}
use Rattle.lucore_laws.specs.Layout.{Root, walk_right, left_clock, root_flow, inner_flows, inner_owners, owner_of, variable_flow, variable_place, variable_count, list_of, main_variables, node_flows, node_owners, AreLists}
use Rattle.lucore_laws.specs.Layout.Root.{own, at}
use Rattle.lucore_laws.specs.FaultLaws.{FaultsLaw, AllFaultsLaw}
use Rattle.lucore_laws.proofs.ByCalls.{by_calls}
use Rattle.lucore_laws.proofs.Each.{Each, each_left, each_right, each_all, each_at}
use Rattle.lucore_laws.proofs.Facts.{Below, NodeFacts, facts, never_round}
use Rattle.lucore_laws.proofs.Gate.{model, to_open}
use Rattle.lucore_laws.proofs.ListInstances.{spot_place, flow_place, HasInstances, spot_node, spot_named}
use Rattle.lucore_laws.proofs.Names.{get-front, get-behind, all_at, contains_get, get_place, clock_cases, listed, mapped_some}
use Rattle.lucore_laws.proofs.Open.{Model, clock_ticks, FlowHolds, Hold, Solves, solves_hold}
use Rattle.lucore_laws.proofs.Roots.{parts, length-front, front, others, get-input, get-other, name_cases, any_cases, LeftRoots, Roots, roots_stand, get-variable}
use Rattle.lucore_laws.proofs.SourceFaults as expressions
use Rattle.lucore_laws.proofs.SourceFaults.{FlowFails, form_fails, SomeFails, Owned, ReportsFlow, seen, ReportsAndShows, FormFails}
use Rattle.lucore_laws.proofs.Spots.{Spot, spots, equation_spots, node_spots, spots_in, length-spots, place_named}
use Rattle.lucore_laws.proofs.ListToSource.{name_there}
use Rattle.lucore_laws.proofs.Well.{IsWell, Known}
use Rattle.lucore_laws.proofs.Whole.{flat_fits, main_names, same_flow}

-- P of the members of two lists of one length, by their places
abbrev Pairs : {A B : Type 0} → (A → B → Type 0) → List A → List B → Type 0
Pairs P [] [] = Unit {0}
Pairs P [] (y ∷ ys) = ⊥
Pairs P (x ∷ xs) [] = ⊥
Pairs P (x ∷ xs) (y ∷ ys) = P x y × Pairs P xs ys

pairs_at : {A B : Type 0} (P : A → B → Type 0) (xs : List A) (ys : List B) (j : ℕ) (x : A) → Pairs P xs ys → slice_get xs j ≡ Some x → (y : B) × (slice_get ys j ≡ Some y) × P x y
pairs_at P [] ys j x h e = cc
pairs_at P (x ∷ xs) [] j z h e = absurd h
pairs_at P (x ∷ xs) (y ∷ ys) zero z h e = (y, refl, subst (λ x. P x y) (same_Some x z e) h.0)
pairs_at P (x ∷ xs) (y ∷ ys) (suc j) z h e = pairs_at P xs ys j z h.1 e

pairs_join : {A B : Type 0} (P : A → B → Type 0) (xs xs' : List A) (ys ys' : List B) → Pairs P xs ys → Pairs P xs' ys' → Pairs P (xs ++ xs') (ys ++ ys')
pairs_join P [] xs' [] ys' h g = g
pairs_join P [] xs' (y ∷ ys) ys' h g = absurd h
pairs_join P (x ∷ xs) xs' [] ys' h g = absurd h
pairs_join P (x ∷ xs) xs' (y ∷ ys) ys' h g = (h.0, pairs_join P xs xs' ys ys' h.1 g)

pairs_alike : {A B : Type 0} (P : A → B → Type 0) (y : B) (s : ℕ) (xs : List A) → Each (λ j x. P x y) s xs → Pairs P xs (replicate (length xs) y)
pairs_alike P y s [] h = tt
pairs_alike P y s (x ∷ xs) h = (h.0, pairs_alike P y (suc s) xs h.1)

-- a variable is owned by the first variable of the first equation that has it on its left side
owner_at : (node : NodeTree) (qs : List EquationTree) (j : ℕ) (q : EquationTree) (x : List ℕ) → slice_get qs j ≡ Some q → (¬ Contains (rules.lefts_of (take j qs)) x) → Contains q.left x → owner_of node qs x ≡ place_of (variables_of node) (name_at q.left 0)
owner_at node [] j q x e out has = cc
owner_at node (r ∷ qs) j q x e out has = go (λ i e out. owner_at node qs i q x e out has) j (any_cases r.left x (list_any (λ y. bytes_eq y x) r.left) refl) e out
  where
    go : ((i : ℕ) → slice_get qs i ≡ Some q → (¬ Contains (rules.lefts_of (take i qs)) x) → owner_of node qs x ≡ place_of (variables_of node) (name_at q.left 0)) → (j : ℕ) → (((list_any (λ y. bytes_eq y x) r.left) ≡ true) × Contains r.left x) ⊎ (((list_any (λ y. bytes_eq y x) r.left) ≡ false) × (¬ Contains r.left x)) → slice_get (r ∷ qs) j ≡ Some q → (¬ Contains (rules.lefts_of (take j (r ∷ qs))) x) → owner_of node (r ∷ qs) x ≡ place_of (variables_of node) (name_at q.left 0)
    go rest zero (inl here) e out = ap (λ b. cond b (place_of (variables_of node) (name_at r.left 0)) (owner_of node qs x)) here.0 ∙ ap (λ (q : EquationTree). place_of (variables_of node) (name_at q.left 0)) (same_Some r q e)
    go rest zero (inr none) e out = absurd (none.1 (subst (λ (q : EquationTree). Contains q.left x) (sym (same_Some r q e)) has))
    go rest (suc j) (inl here) e out = absurd (out (Contains-append_left r.left (rules.lefts_of (take j qs)) x here.1))
    go rest (suc j) (inr none) e out =
        ap (λ b. cond b (place_of (variables_of node) (name_at r.left 0)) (owner_of node qs x)) none.0
        ∙ rest j e (λ c. out (Contains-append_right r.left (rules.lefts_of (take j qs)) x c))

-- what stands at a place of equal members
same_member : {A B : Type 0} (xs : List A) (y : B) (j : ℕ) (x : A) → slice_get xs j ≡ Some x → slice_get (replicate (length xs) y) j ≡ Some y
same_member [] y j x e = cc
same_member (z ∷ xs) y zero x e = refl
same_member (z ∷ xs) y (suc j) x e = same_member xs y j x e

module _ (p : ProgramTree) (lists : List (List Flow)) (node : NodeTree) (facts : NodeFacts p node) (base : Ticks) (m : Model) (σ : SourceStreams) (t : ℕ) (kind : FaultKind) (apart : (f : List ℕ) (n : NodeTree) → node_called p f ≡ Some n → AreDistinct (variables_of n)) (reported : (f : List ℕ) → Below node f → ReportsAndShows p lists t kind f)
    (agree : (x : List ℕ) → Known p node (Below node) x → m.on (variable_place p lists node x) ≡ σ [] x) (f : List ℕ) (found : node_called p f ≡ Some node) where
  abbrev IsKnown : Option Condition → Type 0
  IsKnown = expressions.KnownClock p lists node (Below node) base m σ t kind apart reported agree

  abbrev IsPlaced : ℕ → Spot → Type 0
  IsPlaced = expressions.Placed p lists node (Below node) base m σ t kind apart reported agree

  known_one : (x : List ℕ) (k : Option Condition) → option_map (λ (d : DeclarationTree). d.clock) (rules.meaning node x) ≡ Some k → IsKnown k
  known_one x None e = tt
  known_one x (Some c) e = facts.clocks x c e

  pub clock_known : (x : List ℕ) → IsKnown (clock_of node x)
  clock_known x =
      ⊎_elim (λ (h : clock_of node x ≡ None). subst IsKnown (sym h) tt)
      (λ (h : option_map (λ (d : DeclarationTree). d.clock) (rules.meaning node x) ≡ Some (clock_of node x)). known_one x (clock_of node x) h)
      (clock_cases (declarations_of node) x)

  abbrev Fails : ℕ → List EquationTree → ℕ → List ℕ → Type 0
  Fails depth =
      faults.EquationFails p node base (σ []) (λ i. σ (i ∷ [])) t kind (expressions.CallFails p lists node (Below node) base m σ t kind apart reported agree depth)

  abbrev G : List ℕ → Type 0
  G v = SomeFails p t kind f base σ v

  -- a fault of this flow has this owner
  abbrev Says : Flow → ℕ → Type 0
  Says flow o = FlowFails base m t kind flow → Owned p node t kind f base σ o

  abbrev place : List ℕ → ℕ
  place x = place_of (variables_of node) x

  first_known : (q : EquationTree) → All (Known p node (Below node)) q.left → 0 < length q.left → place (name_at q.left 0) < length (variables_of node)
  first_known q lefts some =
      all_at (Known p node (Below node)) q.left 0 (name_at q.left 0) lefts (name_there q.left 0 some)

  root_says : (q : EquationTree) (root : Root) (j : ℕ) (x : List ℕ) → place (name_at q.left 0) < length (variables_of node) → expressions.RootReports p lists node (Below node) base m σ t kind apart reported agree (G (name_at q.left 0)) root → Says (root_flow p lists node q root j x) (place (name_at q.left 0))
  root_says q (own flow) j x known r h = (name_at q.left 0, known, refl, r h)
  root_says q (at i) j x known r h = absurd h.1

  abbrev Shown : List ℕ → Type 0
  Shown v = (x : ℕ) × (flow : Flow) × (slice_get (node_flows p lists node) x ≡ Some flow) × FlowFails base m t kind flow × (slice_get (node_owners p lists node) x ≡ Some (place v)) × (place v < length (variables_of node))

  -- a flow at fault among these, of which the owner is v
  abbrev Here : List Flow → List ℕ → List ℕ → Type 0
  Here flows owners v = (x : ℕ) × (flow : Flow) × (slice_get flows x ≡ Some flow) × FlowFails base m t kind flow × (slice_get owners x ≡ Some (place v))

  here_left : (xs ys : List Flow) (os : List ℕ) (v w : List ℕ) → w ≡ v → expressions.Found p lists node (Below node) base m σ t kind apart reported agree xs → Here (xs ++ ys) (replicate (length xs) (place w) ++ os) v
  here_left xs ys os v w same h =
      let lt = slice_get_within xs h.0 h.1 h.2 in
      let l = length-replicate (length xs) (place w) in
      (h.0, h.1, get-front xs ys h.0 lt ∙ h.2, h.3, get-front (replicate (length xs) (place w)) os h.0 (omega (arith, lt, l)) ∙ same_member xs (place w) h.0 h.1 h.2 ∙ ap (λ v. Some (place v)) same)

  here_right : (xs ys : List Flow) (os : List ℕ) (o : ℕ) (v : List ℕ) → Here ys os v → Here (xs ++ ys) (replicate (length xs) o ++ os) v
  here_right xs ys os o v h =
      (length xs + h.0, h.1, get-behind xs ys (length xs) h.0 refl ∙ h.2, h.3, get-behind (replicate (length xs) o) os (length xs) h.0 (length-replicate (length xs) o) ∙ h.4)

  -- a root that is at fault is the flow of its first variable
  root_here : (q : EquationTree) (root : Root) (v : List ℕ) → name_at q.left 0 ≡ v → 0 < length q.left → owner_of node node.equations (name_at q.left 0) ≡ place (name_at q.left 0) → place (name_at q.left 0) < length (variables_of node) → (¬ rules.IsInput node (name_at q.left 0))
      → LeftRoots p lists node (λ x f. variable_flow p lists node node.equations (variable_count p lists node) x ≡ f) q root → expressions.RootFound p lists node (Below node) base m σ t kind apart reported agree root → Shown v
  root_here q (own flow) v same some owner known out roots h =
      let x = name_at q.left 0 in
      let O = owner_of node node.equations in
      let first = name_there q.left 0 some in
      let is = each_at (λ j x. variable_flow p lists node node.equations (variable_count p lists node) x ≡ root_flow p lists node q (own flow) j x) 0 q.left 0 x roots first in
      let l = length-map (variables_of node) O in
      let owned : slice_get (node_owners p lists node) (place x) ≡ Some (place x) =
      get-front (map O (variables_of node)) (inner_owners p lists node node.equations (variable_count p lists node)) (place x) (omega (arith, known, l))
      ∙ slice_get-map O (variables_of node) (place x) ∙ ap (option_map O) (get_place (variables_of node) x known) ∙ ap Some owner in
      (place x, flow, get-variable p lists node x known out ∙ ap Some is, h, owned ∙ ap (λ v. Some (place v)) same, subst (λ v. place v < length (variables_of node)) same known)
  root_here q (at i) v same some owner known out roots h = absurd h

  -- what is asked of an equation
  pub record Sound (q : EquationTree) : Type 0 where
    pub some : 0 < length q.left
    pub known : place (name_at q.left 0) < length (variables_of node)
    pub owner : owner_of node node.equations (name_at q.left 0) ≡ place (name_at q.left 0)
    pub out : ¬ rules.IsInput node (name_at q.left 0)

  sound : (j : ℕ) (q : EquationTree) → slice_get node.equations j ≡ Some q → Sound q
  sound j q e =
      let some = facts.some j q e in
      let x = name_at q.left 0 in
      let first = name_there q.left 0 some in
      let anew = facts.anew j q e in
      record {
        some = some;
        known = first_known q (facts.lefts j q e) some;
        owner = owner_at node node.equations j q x e (all_at (λ x. ¬ Contains (rules.lefts_of (take j node.equations)) x) q.left 0 x anew.first first) (contains_get q.left x 0 first);
        out = all_at (λ x. ¬ rules.IsInput node x) q.left 0 x anew.no_input first;
      }

  equations_say : (qs : List EquationTree) (s i : ℕ) → ((j : ℕ) (q : EquationTree) → slice_get qs j ≡ Some q → IsWell p node (Below node) q.right (length q.left)) → ((j : ℕ) (q : EquationTree) → slice_get qs j ≡ Some q → Sound q) → Roots p lists node (λ x f. variable_flow p lists node node.equations (variable_count p lists node) x ≡ f) qs s
      → ((depth : ℕ) (v : List ℕ) → Fails depth qs i v → G v) → Each IsPlaced i (equation_spots p lists node qs s) → Hold base m s (inner_flows p lists node qs s)
      → Pairs Says (inner_flows p lists node qs s) (inner_owners p lists node qs s) × ((x : List ℕ) → Says (variable_flow p lists node qs s x) (owner_of node qs x)) × ((depth : ℕ) (v : List ℕ) → Fails depth qs i v → Here (inner_flows p lists node qs s) (inner_owners p lists node qs s) v ⊎ Shown v)
  equations_say [] s i well sound roots g placed hold = (tt, λ x h. absurd h.1, λ d v h. absurd h)
  equations_say (q ∷ qs) s i well sound roots g placed hold =
      let k = left_clock p lists node q in
      let w = walk_right p lists node q s in
      let s' = s + length w.inner in
      let S = spots p lists node q.right k s in
      let T = equation_spots p lists node qs s' in
      let v = name_at q.left 0 in
      let ok = sound 0 q refl in
      let here = ok.known in
      let r = seen p lists node (Below node) base m σ t kind apart reported agree clock_known q.right k i (length q.left) (G v) (clock_known v) (well 0 q refl) (λ d h. g d v (inl (refl, h))) s (each_left _ i S T placed) (each_left (FlowHolds base m) s w.inner (inner_flows p lists node qs s') hold) in
      let placed' = subst (λ n. Each IsPlaced (i + n) T) (length-spots p lists node q.right k s) (each_right _ i S T placed) in
      let rest = equations_say qs s' (i + calls q.right) (λ j q e. well (suc j) q e) (λ j q e. sound (suc j) q e) roots.1 (λ d v h. g d v (inr h)) placed' (each_right (FlowHolds base m) s w.inner (inner_flows p lists node qs s') hold) in (
        pairs_join Says w.inner (inner_flows p lists node qs s') (replicate (length w.inner) (place v)) (inner_owners p lists node qs s')
            (pairs_alike Says (place v) s w.inner (own_flows v here s w.inner r.1.0)) rest.0,
        λ x. either (list_any (λ y. bytes_eq y x) q.left) (root_flow p lists node q w.root (place_of q.left x) x) (variable_flow p lists node qs s' x) (place v) (owner_of node qs x) (root_says q w.root (place_of q.left x) x here r.1.1) (rest.1 x),
        λ d u h. ⊎_elim
            (λ (h : (v ≡ u) × expressions.Fails p lists node (Below node) base m σ t kind apart reported agree d q.right k i).
            expressions.both (here_left w.inner (inner_flows p lists node qs s') (inner_owners p lists node qs s') u v h.0) (root_here q w.root u h.0 ok.some ok.owner here ok.out roots.0) (r.2 (d, h.1)))
            (λ (h : Fails d qs (i + calls q.right) u).
            expressions.both (here_right w.inner (inner_flows p lists node qs s') (inner_owners p lists node qs s') (place v) u) (λ y. y) (rest.2 d u h))
            h,
      )
    where
      own_flows : (v : List ℕ) → place v < length (variables_of node) → (s : ℕ) (xs : List Flow) → Each (expressions.FlowReports p lists node (Below node) base m σ t kind apart reported agree (G v)) s xs → Each (λ j flow. Says flow (place v)) s xs
      own_flows v here s [] h = tt
      own_flows v here s (flow ∷ xs) h = (λ fails. (v, here, refl, h.0 fails), own_flows v here (suc s) xs h.1)

      either : (b : Bool) (a c : Flow) (o u : ℕ) → Says a o → Says c u → Says (cond b a c) (cond b o u)
      either true a c o u h g = h
      either false a c o u h g = g

  abbrev nv : ℕ
  nv = variable_count p lists node

  pub inner_hold : Solves base m (node_flows p lists node) → Hold base m nv (inner_flows p lists node node.equations nv)
  inner_hold sol =
      let inner = inner_flows p lists node node.equations nv in
      let h = subst (Hold base m 0) (parts p lists node) (solves_hold base m (node_flows p lists node) sol) in
      let l = length-front p lists node in
      let z : 0 + length (front p lists node) ≡ nv = omega arith in
      subst (λ n. Hold base m n inner) z (each_right (FlowHolds base m) 0 (front p lists node) inner h)

  node_fails : (depth : ℕ) (v : List ℕ) → Fails depth node.equations 0 v → G v
  node_fails depth v h =
      (suc depth, subst (λ o. faults.There o (λ node. faults.EquationFails p node base (σ []) (λ i. σ (i ∷ [])) t kind (λ g k i. (w : List ℕ) × faults.FailsWithin p t kind depth g k (λ path. σ (i ∷ path)) w) node.equations 0 v)) (sym found) h)

  parted : (depth : ℕ) (v : List ℕ) → faults.FailsWithin p t kind (suc depth) f base σ v → Fails depth node.equations 0 v
  parted depth v h =
      subst (λ o. faults.There o (λ node. faults.EquationFails p node base (σ []) (λ i. σ (i ∷ [])) t kind (λ g k i. (w : List ℕ) × faults.FailsWithin p t kind depth g k (λ path. σ (i ∷ path)) w) node.equations 0 v)) found h

  first_left : (depth : ℕ) (qs : List EquationTree) (i : ℕ) (v : List ℕ) → ((j : ℕ) (q : EquationTree) → slice_get qs j ≡ Some q → place (name_at q.left 0) < length (variables_of node)) → Fails depth qs i v → place v < length (variables_of node)
  first_left depth [] i v known h = absurd h
  first_left depth (q ∷ qs) i v known (inl h) = subst (λ v. place v < length (variables_of node)) h.0 (known 0 q refl)
  first_left depth (q ∷ qs) i v known (inr h) = first_left depth qs (i + calls q.right) v (λ j q e. known (suc j) q e) h

  -- an equation that fails has a flow at fault
  pub node_shows : Solves base m (node_flows p lists node) → Each IsPlaced 0 (node_spots p lists node) → (v : List ℕ) → SomeFails p t kind f base σ v → Shown v
  node_shows sol placed v (zero, h) = absurd h
  node_shows sol placed v (suc depth, h) =
      let eq = equations_say node.equations nv 0 facts.rights sound (roots_stand p lists node facts.anew) node_fails placed (inner_hold sol) in
      let inner = inner_flows p lists node node.equations nv in
      let owners = inner_owners p lists node node.equations nv in
      let O = owner_of node node.equations in
      ⊎_elim
      (λ (c : Here inner owners v). (
        nv + c.0,
        c.1,
        ap (λ l. slice_get l (nv + c.0)) (parts p lists node) ∙ get-behind (front p lists node) inner nv c.0 (length-front p lists node) ∙ c.2,
        c.3,
        get-behind (map O (variables_of node)) owners nv c.0 (length-map (variables_of node) O) ∙ c.4,
        first_left depth node.equations 0 v (λ j q e. (sound j q e).known) (parted depth v h),
      ))
      (λ (y : Shown v). y)
      (eq.2 depth v (parted depth v h))

  -- each flow has an owner, which a fault of the flow has
  pub node_says : Solves base m (node_flows p lists node) → Each IsPlaced 0 (node_spots p lists node) → (x : ℕ) (flow : Flow) → slice_get (node_flows p lists node) x ≡ Some flow → FlowFails base m t kind flow → (o : ℕ) × (slice_get (node_owners p lists node) x ≡ Some o) × Owned p node t kind f base σ o
  node_says sol placed x flow there fails =
      let eq = equations_say node.equations nv 0 facts.rights sound (roots_stand p lists node facts.anew) node_fails placed (inner_hold sol) in
      let inner = inner_flows p lists node node.equations nv in
      let owners = inner_owners p lists node node.equations nv in
      let O = owner_of node node.equations in
      let F = variable_flow p lists node node.equations nv in
      ⊎_elim
      (λ (lt : x < nv).
      let y = get_or (variables_of node) x [] in
      let name = slice_get-get_or (variables_of node) x [] lt in
      let l = length-map (variables_of node) O in
      let owner : slice_get (node_owners p lists node) x ≡ Some (O y) = get-front (map O (variables_of node)) owners x (omega (arith, lt)) ∙ slice_get-map O (variables_of node) x ∙ ap (option_map O) name in
      ⊎_elim
      (λ (h : (d : DeclarationTree) × (slice_get node.inputs x ≡ Some d) × (d.name ≡ y)).
      let same = same_Some _ flow (sym (get-input p lists node x h.0 h.1) ∙ there) in
      absurd (subst (FlowFails base m t kind) (sym same) fails).1)
      (λ (h : (j : ℕ) × (x ≡ length node.inputs + j) × (slice_get (others p lists node) j ≡ Some y)).
      let same = same_Some (F y) flow (sym (ap (slice_get (node_flows p lists node)) h.1 ∙ get-other p lists node h.0 y h.2) ∙ there) in
      (O y, owner, eq.1 y (subst (FlowFails base m t kind) (sym same) fails)))
      (name_cases p lists node x y name))
      (λ (ge : nv ≤ x).
      let j = x - nv in
      let z : x ≡ nv + j = omega (arith, ge) in
      let here = sym (ap (λ l. slice_get l x) (parts p lists node) ∙ ap (slice_get (front p lists node ++ inner)) z ∙ get-behind (front p lists node) inner nv j (length-front p lists node)) ∙ there in
      let r = pairs_at Says inner owners j flow eq.0 here in
      (r.0, ap (slice_get (node_owners p lists node)) z ∙ get-behind (map O (variables_of node)) owners nv j (length-map (variables_of node) O) ∙ r.1, r.2 fails))
      (cases_lt x nv)

module _ (p : ProgramTree) (lists : List (List Flow)) (are : AreLists p lists) (facts : (f : List ℕ) (n : NodeTree) → node_called p f ≡ Some n → NodeFacts p n) (never : (f : List ℕ) → ¬ Reaches p f f) (t : ℕ) (kind : FaultKind) where
  pub apart : (f : List ℕ) (n : NodeTree) → node_called p f ≡ Some n → AreDistinct (variables_of n)
  apart f n e = (facts f n e).apart

  -- the instance of each call stands at its spot
  pub placed : (f : List ℕ) (node : NodeTree) → node_called p f ≡ Some node → (τ : Streams) (σ : SourceStreams) → HasInstances p lists f τ σ → (i : ℕ) (spot : Spot) → slice_get (node_spots p lists node) i ≡ Some spot → HasInstances p lists spot.node (λ y. τ (spot.at + y)) (λ path. σ (i ∷ path))
  placed f node found τ σ has i spot e path n x here c =
      let there : slice_get (spots_in p lists (node_called p f)) i ≡ Some spot = ap (λ o. slice_get (spots_in p lists o) i) found ∙ e in
      let named = spot_named p lists (node_called p f) i ∙ ap (option_map spot_node) there in
      let h = has (i ∷ path) n x (ap (option_and_then (λ g. instance_at p g path)) named ∙ here) c in
      ap (λ o. τ (spot_place o (λ spot. spot.at + flow_place p lists spot.node path x))) (sym there) ∙ h

  pub agree : (f : List ℕ) (node : NodeTree) → node_called p f ≡ Some node → (τ : Streams) (σ : SourceStreams) → HasInstances p lists f τ σ → (x : List ℕ) → Known p node (Below node) x → τ (variable_place p lists node x) ≡ σ [] x
  agree f node found τ σ has x lt =
      ap (λ o. τ (place_named o x)) (sym found) ∙ has [] node x found (contains_get (variables_of node) x (place_of (variables_of node) x) (get_place (variables_of node) x lt))

  pub all_placed : (f : List ℕ) (node : NodeTree) → node_called p f ≡ Some node → (τ : Streams) (σ : SourceStreams) → HasInstances p lists f τ σ → Each (λ i spot. HasInstances p lists spot.node (λ y. τ (spot.at + y)) (λ path. σ (i ∷ path))) 0 (node_spots p lists node)
  all_placed f node found τ σ has =
      each_all (λ i spot. HasInstances p lists spot.node (λ y. τ (spot.at + y)) (λ path. σ (i ∷ path))) 0 (node_spots p lists node) (λ i spot e.
      let z : i ≡ 0 + i = omega arith in
      subst (λ i. HasInstances p lists spot.node (λ y. τ (spot.at + y)) (λ path. σ (i ∷ path))) z (placed f node found τ σ has i spot e))

  step : (f : List ℕ) → ((g : List ℕ) → Calls p f g → ReportsAndShows p lists t kind g) → ReportsAndShows p lists t kind f
  step f rest = (
    λ node found base m σ sol has x flow there fails.
        let l = listed p lists are f node found in
        node_says p lists node (facts f node found) base m σ t kind apart (λ g b. rest g (node, found, b)) (agree f node found m.on σ has) f found (subst (Solves base m) l sol) (all_placed f node found m.on σ has) x flow (ap (λ l. slice_get l x) (sym l) ∙ there) fails,
    λ node found base m σ sol has v h.
        let l = listed p lists are f node found in
        let r = node_shows p lists node (facts f node found) base m σ t kind apart (λ g b. rest g (node, found, b)) (agree f node found m.on σ has) f found (subst (Solves base m) l sol) (all_placed f node found m.on σ has) v h in
        (r.0, r.1, ap (λ l. slice_get l r.0) l ∙ r.2, r.3, r.4, r.5),
  )

  pub reported_all : (f : List ℕ) → ReportsAndShows p lists t kind f
  reported_all = by_calls p never (ReportsAndShows p lists t kind) step

pub clock_same : (inputs : InputsView) (τ : Streams) (c : Clock) (t : ℕ) → clock_at inputs τ c t ≡ clock_ticks (base_clock inputs) τ c t
clock_same inputs τ Base t = refl
clock_same inputs τ (On c d) t = refl

pub faults_reported : FaultsLaw
faults_reported p main inputs flat accepted some out ordered σ τ sol sol' i v t kind x fault owner variable =
    let node = out.node in
    let fs : (f : List ℕ) (n : NodeTree) → node_called p f ≡ Some n → NodeFacts p n = facts p main accepted some in
    let never = never_round p main accepted some in
    let are : list_of p out.lists main ≡ flat.flows = listed p out.lists out.are_lists main node out.is_main ∙ sym out.flows in
    let m = model flat inputs (length node.inputs) (flat_fits p main flat accepted some out) τ in
    let solved = to_open flat inputs (length node.inputs) (flat_fits p main flat accepted some out) τ sol' in
    let has : HasInstances p out.lists main τ σ = λ path n x here c. fun_ext (λ t. sym (same_flow p main flat accepted some out inputs ordered σ τ sol sol' path n x here c t)) in
    let r = (reported_all p out.lists out.are_lists fs never t kind main).0 node out.is_main (base_clock inputs) m σ (subst (Solves (base_clock inputs) m) (sym are) solved) has i fault.flow (ap (λ l. slice_get l i) are ∙ fault.there) (sym (clock_same inputs τ fault.flow.clock t) ∙ fault.clock, form_fails τ t kind fault.flow.form fault.fault) in
    let w = r.2.0 in
    let same : v ≡ r.0 = same_Some v r.0 (sym owner ∙ ap (λ l. slice_get l i) out.owners ∙ r.1) in
    let name : slice_get (variables_of node) v ≡ Some x.name =
    ap (λ l. slice_get l v) (sym (main_names node)) ∙ slice_get-map (λ (x : Variable). x.name) (main_variables node) v
    ∙ ap (option_map (λ (x : Variable). x.name)) (ap (λ l. slice_get l v) (sym out.variables) ∙ variable) in
    let also : slice_get (variables_of node) v ≡ Some w = ap (slice_get (variables_of node)) (same ∙ r.2.2) ∙ get_place (variables_of node) w r.2.1 in
    subst (λ v. faults.IsSourceFault p main inputs σ v t kind) (same_Some w x.name (sym also ∙ name)) r.2.3

-- a flow that is at fault is a fault
on_fault : (τ : Streams) (t : ℕ) (kind : FaultKind) (form : Form) → FormFails τ t kind form → IsFaultOn τ t form kind
on_fault τ t kind (Input r) h = absurd h
on_fault τ t kind (Constant d) h = absurd h
on_fault τ t kind (Copied a) h = absurd h
on_fault τ t kind (Unary op a) h = IsFaultOn.OnUnary op a h.0 kind h.1 h.2
on_fault τ t kind (Binary op a b) h = IsFaultOn.OnBinary op a b h.0 h.1 kind h.2 h.3 h.4
on_fault τ t kind (If c a b) h = absurd h
on_fault τ t kind (Pre a) h = absurd h
on_fault τ t kind (Arrow a b) h = absurd h
on_fault τ t kind (When a) h = absurd h
on_fault τ t kind (Current a) h = absurd h
on_fault τ t kind (Merge c xs) h = absurd h

pub faults_found : AllFaultsLaw
faults_found p main inputs flat accepted some out ordered σ τ sol sol' v t kind source =
    let node = out.node in
    let fs : (f : List ℕ) (n : NodeTree) → node_called p f ≡ Some n → NodeFacts p n = facts p main accepted some in
    let never = never_round p main accepted some in
    let are : list_of p out.lists main ≡ flat.flows = listed p out.lists out.are_lists main node out.is_main ∙ sym out.flows in
    let m = model flat inputs (length node.inputs) (flat_fits p main flat accepted some out) τ in
    let solved = to_open flat inputs (length node.inputs) (flat_fits p main flat accepted some out) τ sol' in
    let has : HasInstances p out.lists main τ σ = λ path n x here c. fun_ext (λ t. sym (same_flow p main flat accepted some out inputs ordered σ τ sol sol' path n x here c t)) in
    let r = (reported_all p out.lists out.are_lists fs never t kind main).1 node out.is_main (base_clock inputs) m σ (subst (Solves (base_clock inputs) m) (sym are) solved) has v source in
    let n = place_of (variables_of node) v in
    let named = mapped_some (λ (x : Variable). x.name) (slice_get (main_variables node) n) v (sym (slice_get-map (λ (x : Variable). x.name) (main_variables node) n) ∙ ap (λ l. slice_get l n) (main_names node) ∙ get_place (variables_of node) v r.5) in
    let fault : IsFault flat inputs τ r.0 t kind = record {
      flow = r.1;
      there = ap (λ l. slice_get l r.0) (sym are) ∙ r.2;
      clock = clock_same inputs τ r.1.clock t ∙ r.3.0;
      fault = on_fault τ t kind r.1.form r.3.1;
    } in
    (r.0, n, named.0, fault, ap (λ l. slice_get l r.0) out.owners ∙ r.4, ap (λ l. slice_get l n) out.variables ∙ named.1, named.2)
