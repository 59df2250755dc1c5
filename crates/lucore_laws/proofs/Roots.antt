-- Where the flows of a node's variables stand in its list.
use Rattle.std.proofs.Common.{◌≡◌, ℕ, zero, suc, ◌+◌, ◌-◌, ◌<◌, ◌≤◌, ◌⊎◌, inl, inr, ⊎_elim, Bool, true, false, ◌||◌, cond, List, [], ◌∷◌, ◌++◌, length, map, take, Some, refl, sym, ap, ◌∙◌, subst, arith, length-append, append_assoc}
use Rattle.std.specs.Prelude.{slice_get, option_map, Contains}
use Rattle.std.specs.List.{list_any}
use Rattle.std.specs.Str.{bytes_eq}
use Rattle.std.proofs.lemmas.Bool.{cases_lt}
use Rattle.std.proofs.lemmas.List.{length-map}
use Rattle.std.proofs.lemmas.List.Elements.{Contains-append_left, Contains-append_right, Contains-append_cases}
use Rattle.std.proofs.lemmas.Option.{slice_get_within, slice_get-map, same_Some}
use Rattle.std.proofs.lemmas.Slice.Eq.{bytes_eq-Decides}
use Rattle.lutree.specs.declared.program.Kind.{Kind}
use Rattle.lutree.specs.Tree.{DeclarationTree, EquationTree, NodeTree, ProgramTree}
use Rattle.luflow.specs.declared.form.Clock.TheVariants.{Base}
use Rattle.luflow.specs.declared.form.Form.TheVariants.{Input}
use Rattle.luflow.specs.declared.form.Flow.{Flow}
use Rattle.lusource.specs.Names.{variables_of, place_of, AreDistinct}
use Rattle.lustat_rules.specs.Scope.{names_of, declarations_of}
use Rattle.lustat_rules.specs.Scope as rules
use Rattle.lustat_rules.specs.Naming.{DefinesAnew}
use Rattle.lucore_laws.specs.Layout.{Root, walk_right, root_flow, inner_flows, variable_flow, variable_place, variable_count, input_flows, node_flows}
use Rattle.lucore_laws.proofs.Each.{Each, each_all, each_at, each_imp}
use Rattle.lucore_laws.proofs.Names.{get-front, get-behind, contains_get, contains_at, all_at, get-names, get_place, place_at, place_in, distinct, mapped_some}

-- NAMES IN A LEFT SIDE

either_true : (b c : Bool) → c ≡ true → (b || c) ≡ true
either_true true c e = refl
either_true false c e = e

any_in : (xs : List (List ℕ)) (x : List ℕ) (j : ℕ) → slice_get xs j ≡ Some x → list_any (λ y. bytes_eq y x) xs ≡ true
any_in [] x j e = cc
any_in (y ∷ xs) x zero e = ap (λ b. b || list_any (λ y. bytes_eq y x) xs) ((bytes_eq-Decides y x).1 (same_Some y x e))
any_in (y ∷ xs) x (suc j) e = either_true (bytes_eq y x) (list_any (λ y. bytes_eq y x) xs) (any_in xs x j e)

any_case : (y x : List ℕ) (xs : List (List ℕ)) (b : Bool) → bytes_eq y x ≡ b → (b || list_any (λ y. bytes_eq y x) xs) ≡ true → (list_any (λ y. bytes_eq y x) xs ≡ true → Contains xs x) → Contains (y ∷ xs) x
any_case y x xs true e h rest = (0, omega arith, (bytes_eq-Decides y x).0 e)
any_case y x xs false e h rest = let c = rest h in (suc c.0, omega (arith, c.1), c.2)

any_contains : (xs : List (List ℕ)) (x : List ℕ) → list_any (λ y. bytes_eq y x) xs ≡ true → Contains xs x
any_contains [] x e = cc
any_contains (y ∷ xs) x e = any_case y x xs (bytes_eq y x) refl e (any_contains xs x)

-- whether a name is on a left side
pub any_cases : (xs : List (List ℕ)) (x : List ℕ) (b : Bool) → list_any (λ y. bytes_eq y x) xs ≡ b → ((b ≡ true) × Contains xs x) ⊎ ((b ≡ false) × (¬ Contains xs x))
any_cases xs x true e = inl (refl, any_contains xs x e)
any_cases xs x false e = inr (refl, λ c. let a = contains_at xs x c in let h = any_in xs x a.0 a.1 in let no : true ≡ false = sym h ∙ e in cc)

-- ROOTS

abbrev pub NotIn : List EquationTree → List ℕ → Type 0
NotIn [] x = Unit {0}
NotIn (q ∷ qs) x = (¬ Contains q.left x) × NotIn qs x

not_in : (qs : List EquationTree) (x : List ℕ) → (¬ Contains (rules.lefts_of qs) x) → NotIn qs x
not_in [] x h = tt
not_in (q ∷ qs) x h =
    (λ c. h (Contains-append_left q.left (rules.lefts_of qs) x c), not_in qs x (λ c. h (Contains-append_right q.left (rules.lefts_of qs) x c)))

not_in_more : (qs : List EquationTree) (q : EquationTree) (x : List ℕ) → NotIn (qs ++ q ∷ []) x → NotIn qs x × (¬ Contains q.left x)
not_in_more [] q x h = (tt, h.0)
not_in_more (r ∷ qs) q x h = let t = not_in_more qs q x h.1 in ((h.0, t.0), t.1)

take_front : {A : Type 0} (xs ys : List A) → take (length xs) (xs ++ ys) ≡ xs
take_front [] ys = refl
take_front (x ∷ xs) ys = ap (λ l. x ∷ l) (take_front xs ys)

module _ (p : ProgramTree) (lists : List (List Flow)) (node : NodeTree) where
  -- P of each variable on a left side, with the flow that its root gives
  abbrev pub LeftRoots : (List ℕ → Flow → Type 0) → EquationTree → Root → Type 0
  LeftRoots P q root = Each (λ j x. P x (root_flow p lists node q root j x)) 0 q.left

  abbrev pub Roots : (List ℕ → Flow → Type 0) → List EquationTree → ℕ → Type 0
  Roots P [] s = Unit {0}
  Roots P (q ∷ qs) s =
      LeftRoots P q (walk_right p lists node q s).root × Roots P qs (s + length (walk_right p lists node q s).inner)

  pub roots_imp : (P Q : List ℕ → Flow → Type 0) → ((x : List ℕ) (f : Flow) → P x f → Q x f) → (qs : List EquationTree) (s : ℕ) → Roots P qs s → Roots Q qs s
  roots_imp P Q h [] s r = tt
  roots_imp P Q h (q ∷ qs) s r =
      (each_imp _ _ 0 q.left (λ j x a. h x _ a) r.0, roots_imp P Q h qs (s + length (walk_right p lists node q s).inner) r.1)

  -- the flow of a variable on the left side of the first equation, and of one that isn't there
  flow_here : (q : EquationTree) (qs : List EquationTree) (s j : ℕ) (x : List ℕ) → AreDistinct q.left → slice_get q.left j ≡ Some x → variable_flow p lists node (q ∷ qs) s x ≡ root_flow p lists node q (walk_right p lists node q s).root j x
  flow_here q qs s j x d e =
      ap (λ b. cond b (root_flow p lists node q (walk_right p lists node q s).root (place_of q.left x) x) (variable_flow p lists node qs (s + length (walk_right p lists node q s).inner) x)) (any_in q.left x j e)
      ∙ ap (λ j. root_flow p lists node q (walk_right p lists node q s).root j x) (place_at q.left x j d e)

  flow_later : (q : EquationTree) (qs : List EquationTree) (s : ℕ) (x : List ℕ) → (¬ Contains q.left x) → variable_flow p lists node (q ∷ qs) s x ≡ variable_flow p lists node qs (s + length (walk_right p lists node q s).inner) x
  flow_later q qs s x out =
      go (list_any (λ y. bytes_eq y x) q.left) refl
    where
      go : (b : Bool) → list_any (λ y. bytes_eq y x) q.left ≡ b → variable_flow p lists node (q ∷ qs) s x ≡ variable_flow p lists node qs (s + length (walk_right p lists node q s).inner) x
      go true e = absurd (out (any_contains q.left x e))
      go false e = ap (λ b. cond b (root_flow p lists node q (walk_right p lists node q s).root (place_of q.left x) x) (variable_flow p lists node qs (s + length (walk_right p lists node q s).inner) x)) e

  module _ (anew : (i : ℕ) (q : EquationTree) → slice_get node.equations i ≡ Some q → DefinesAnew node i q) where
    abbrev start : ℕ
    start = variable_count p lists node

    roots_from : (qs done : List EquationTree) (s : ℕ) → node.equations ≡ done ++ qs → ((x : List ℕ) → NotIn done x → variable_flow p lists node node.equations start x ≡ variable_flow p lists node qs s x) → Roots (λ x f. variable_flow p lists node node.equations start x ≡ f) qs s
    roots_from [] done s e h = tt
    roots_from (q ∷ qs) done s e h =
        let z : length done ≡ length done + 0 = omega arith in
        let there : slice_get node.equations (length done) ≡ Some q = ap (λ l. slice_get l (length done)) e ∙ ap (slice_get (done ++ q ∷ qs)) z ∙ get-behind done (q ∷ qs) (length done) 0 refl in
        let a = anew (length done) q there in
        let before : take (length done) node.equations ≡ done = ap (take (length done)) e ∙ take_front done (q ∷ qs) in
        let e' : node.equations ≡ (done ++ q ∷ []) ++ qs = e ∙ sym (append_assoc done (q ∷ []) qs) in (
          each_all (λ j x. variable_flow p lists node node.equations start x ≡ root_flow p lists node q (walk_right p lists node q s).root j x) 0 q.left (λ j x at.
              let fresh = all_at (λ x. ¬ Contains (rules.lefts_of (take (length done) node.equations)) x) q.left j x a.first at in
              let fresh' = subst (λ l. ¬ Contains (rules.lefts_of l) x) before fresh in
              let z : j ≡ 0 + j = omega arith in
              h x (not_in done x fresh') ∙ flow_here q qs s j x (distinct q.left a.once) at ∙ ap (λ j. root_flow p lists node q (walk_right p lists node q s).root j x) z),
          roots_from qs (done ++ q ∷ []) (s + length (walk_right p lists node q s).inner) e' (λ x out. let t = not_in_more done q x out in h x t.0 ∙ flow_later q qs s x t.1),
        )

    -- the flow of each variable on a left side is what its root gives
    pub roots_stand : Roots (λ x f. variable_flow p lists node node.equations start x ≡ f) node.equations start
    roots_stand = roots_from node.equations [] start refl (λ x h. refl)

  -- a variable that is on some left side has the flow of a root
  pub rooted : (P : List ℕ → Flow → Type 0) (qs : List EquationTree) (s : ℕ) (x : List ℕ) → Roots P qs s → Contains (rules.lefts_of qs) x → P x (variable_flow p lists node qs s x)
  rooted P [] s x r c = absurd (omega (arith, c.1))
  rooted P (q ∷ qs) s x r c =
      ⊎_elim
      (λ (h : (list_any (λ y. bytes_eq y x) q.left ≡ true) × Contains q.left x).
      let at = contains_at q.left x h.1 in
      let lt = place_in q.left x at.0 at.1 in
      let there = get_place q.left x lt in
      let z : 0 + place_of q.left x ≡ place_of q.left x = omega arith in
      let here = each_at (λ j x. P x (root_flow p lists node q (walk_right p lists node q s).root j x)) 0 q.left (place_of q.left x) x r.0 there in
      subst (λ b. P x (cond b (root_flow p lists node q (walk_right p lists node q s).root (place_of q.left x) x) (variable_flow p lists node qs (s + length (walk_right p lists node q s).inner) x))) (sym h.0)
      (subst (λ j. P x (root_flow p lists node q (walk_right p lists node q s).root j x)) z here))
      (λ (h : (list_any (λ y. bytes_eq y x) q.left ≡ false) × (¬ Contains q.left x)).
      let rest = ⊎_elim (λ (a : Contains q.left x). absurd (h.1 a)) (λ (b : Contains (rules.lefts_of qs) x). rooted P qs (s + length (walk_right p lists node q s).inner) x r.1 b) (Contains-append_cases q.left (rules.lefts_of qs) x c) in
      subst (λ b. P x (cond b (root_flow p lists node q (walk_right p lists node q s).root (place_of q.left x) x) (variable_flow p lists node qs (s + length (walk_right p lists node q s).inner) x))) (sym h.0) rest)
      (any_cases q.left x (list_any (λ y. bytes_eq y x) q.left) refl)

  -- THE PARTS OF A LIST

  pub length-inputs : (r : ℕ) (ds : List DeclarationTree) → length (input_flows p lists node r ds) ≡ length ds
  length-inputs r [] = refl
  length-inputs r (d ∷ ds) = ap suc (length-inputs (suc r) ds)

  abbrev pub input : ℕ → Kind → Flow
  input r kind = record { form = Input r; clock = Base; kind = kind }

  pub get-inputs : (r : ℕ) (ds : List DeclarationTree) (j : ℕ) (d : DeclarationTree) → slice_get ds j ≡ Some d → slice_get (input_flows p lists node r ds) j ≡ Some (input (r + j) d.kind)
  get-inputs r [] j d e = cc
  get-inputs r (c ∷ ds) zero d e =
      let z : r ≡ r + 0 = omega arith in
      let same : c ≡ d = same_Some c d e in
      ap (λ (d : DeclarationTree). Some (input r d.kind)) same ∙ ap (λ r. Some (input r d.kind)) z
  get-inputs r (c ∷ ds) (suc j) d e =
      let z : suc r + j ≡ r + suc j = omega arith in
      get-inputs (suc r) ds j d e ∙ ap (λ r. Some (input r d.kind)) z

  abbrev pub others : List (List ℕ)
  others = names_of (node.outputs ++ node.locals)

  -- the variables' flows
  abbrev pub front : List Flow
  front = input_flows p lists node 0 node.inputs ++ map (variable_flow p lists node node.equations (variable_count p lists node)) others

  pub parts : node_flows p lists node ≡ front ++ inner_flows p lists node node.equations (variable_count p lists node)
  parts = sym (append_assoc (input_flows p lists node 0 node.inputs) (map (variable_flow p lists node node.equations (variable_count p lists node)) others) (inner_flows p lists node node.equations (variable_count p lists node)))

  pub count : variable_count p lists node ≡ length node.inputs + length others
  count =
      let a = length-map (declarations_of node) (λ (d : DeclarationTree). d.name) in
      let b = length-map (node.outputs ++ node.locals) (λ (d : DeclarationTree). d.name) in
      omega (arith, length-append node.inputs (node.outputs ++ node.locals))

  pub length-front : length front ≡ variable_count p lists node
  length-front =
      let a = length-inputs 0 node.inputs in
      let b = length-map others (variable_flow p lists node node.equations (variable_count p lists node)) in
      let c = count in
      omega (arith, length-append (input_flows p lists node 0 node.inputs) (map (variable_flow p lists node node.equations (variable_count p lists node)) others))

  pub get-input : (j : ℕ) (d : DeclarationTree) → slice_get node.inputs j ≡ Some d → slice_get (node_flows p lists node) j ≡ Some (input j d.kind)
  get-input j d e =
      let l = length-inputs 0 node.inputs in
      let lt = slice_get_within node.inputs j d e in
      let z : 0 + j ≡ j = omega arith in
      get-front (input_flows p lists node 0 node.inputs) (map (variable_flow p lists node node.equations (variable_count p lists node)) others ++ inner_flows p lists node node.equations (variable_count p lists node)) j (omega arith)
      ∙ get-inputs 0 node.inputs j d e
      ∙ ap (λ r. Some (input r d.kind)) z

  pub get-other : (j : ℕ) (x : List ℕ) → slice_get others j ≡ Some x → slice_get (node_flows p lists node) (length node.inputs + j) ≡ Some (variable_flow p lists node node.equations (variable_count p lists node) x)
  get-other j x e =
      let F = variable_flow p lists node node.equations (variable_count p lists node) in
      let lt = slice_get_within others j x e in
      let l = length-map others F in
      get-behind (input_flows p lists node 0 node.inputs) (map F others ++ inner_flows p lists node node.equations (variable_count p lists node)) (length node.inputs) j (length-inputs 0 node.inputs)
      ∙ get-front (map F others) (inner_flows p lists node node.equations (variable_count p lists node)) j (omega arith)
      ∙ slice_get-map F others j
      ∙ ap (option_map F) e

  -- a name at a place is an input's or another's
  pub name_cases : (i : ℕ) (x : List ℕ) → slice_get (variables_of node) i ≡ Some x → ((d : DeclarationTree) × (slice_get node.inputs i ≡ Some d) × (d.name ≡ x)) ⊎ ((j : ℕ) × (i ≡ length node.inputs + j) × (slice_get others j ≡ Some x))
  name_cases i x e =
      let e' : option_map (λ (d : DeclarationTree). d.name) (slice_get (declarations_of node) i) ≡ Some x = sym (get-names (declarations_of node) i) ∙ e in
      ⊎_elim
      (λ (lt : i < length node.inputs).
      let h = mapped_some (λ (d : DeclarationTree). d.name) (slice_get node.inputs i) x (ap (option_map (λ (d : DeclarationTree). d.name)) (sym (get-front node.inputs (node.outputs ++ node.locals) i lt)) ∙ e') in
      inl h)
      (λ (ge : length node.inputs ≤ i).
      let j = i - length node.inputs in
      let z : i ≡ length node.inputs + j = omega arith in
      inr (j, z, get-names (node.outputs ++ node.locals) j ∙ ap (option_map (λ (d : DeclarationTree). d.name)) (sym (get-behind node.inputs (node.outputs ++ node.locals) (length node.inputs) j refl) ∙ ap (slice_get (declarations_of node)) (sym z)) ∙ e'))
      (cases_lt i (length node.inputs))

  -- the flow of a variable that is no input stands at its place
  pub get-variable : (x : List ℕ) → variable_place p lists node x < variable_count p lists node → (¬ rules.IsInput node x) → slice_get (node_flows p lists node) (variable_place p lists node x) ≡ Some (variable_flow p lists node node.equations (variable_count p lists node) x)
  get-variable x lt out =
      ⊎_elim
      (λ (h : (d : DeclarationTree) × (slice_get node.inputs (variable_place p lists node x) ≡ Some d) × (d.name ≡ x)).
      absurd (out (contains_get (names_of node.inputs) x (variable_place p lists node x) (get-names node.inputs (variable_place p lists node x) ∙ ap (option_map (λ (d : DeclarationTree). d.name)) h.1 ∙ ap Some h.2))))
      (λ (h : (j : ℕ) × (variable_place p lists node x ≡ length node.inputs + j) × (slice_get others j ≡ Some x)).
      ap (slice_get (node_flows p lists node)) h.1 ∙ get-other h.0 x h.2)
      (name_cases (variable_place p lists node x) x (get_place (variables_of node) x lt))
