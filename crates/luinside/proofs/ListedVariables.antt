-- The variables of instances, listed one instance after the other.
use Rattle.std.proofs.Common.{◌≡◌, ◌∙◌, ◌<◌, ◌≤◌, ◌+◌, ◌-◌, ◌++◌, ◌∷◌, [], ℕ, zero, suc, inl, inr, List, take, length, map, get_or, Option, Some, None, refl, sym, ap, ap₂, arith, append_assoc, length-append}
use Rattle.std.specs.Prelude.{◌⊎◌, option_map, slice_get, slice_index}
use Rattle.std.proofs.lemmas.Bool.{cases_lt}
use Rattle.std.proofs.lemmas.List.{append-nil, map-append, take_more, length-take-le, get_or_push}
use Rattle.std.proofs.lemmas.Option.{same_Some, slice_get-map, slice_get_within, get_or_from_slice_get}
use Rattle.lutree.specs.declared.program.Declaration.{Declaration}
use Rattle.lutree.specs.Tree.{NodeTree, ProgramTree, declarations_view}
use Rattle.luflow.specs.declared.variable.Variable.{Variable}
use Rattle.luflow.specs.declared.variable.Role.{Role}
use Rattle.luflow.specs.Program.{FlatView}
use Rattle.luflow.proofs.Solutions.{some_at}
use Rattle.lusource.specs.Names.{name_at}
use Rattle.lusource.specs.Source.{Path}
use Rattle.lusource.specs.Instances.{instance_at}
use Rattle.lucore_laws.specs.Layout.{variables_as, main_variables}
use Rattle.lucore_laws.proofs.Names.{all_at, contains_at}
use Rattle.luinside.specs.declared.listing.Instance.{Instance}
use Rattle.luinside.specs.Listed.{AreInstances, IsInstance, ComesBefore, paths}
use Rattle.luinside.specs.declared.way.Level.{Level}
use Rattle.luinside.specs.declared.variables.DeepVariable.{DeepVariable}
use Rattle.luinside.specs.Names.{steps_of, steps_in, prefix, role_at}
use Rattle.luinside.specs.Variables.{variables_from, variables_in, instance_variables, all_variables, deep_variable}
use Rattle.luinside.specs.Passing.{prefix_at, named_from, Passes}
use Rattle.luinside.proofs.Paths.{parent, prefix_more, last_of, between, never_back, never_same, level_of, way_from, way_at, way_more}

-- THE VARIABLES OF ONE INSTANCE

pub named_append : (pre : List ℕ) (path : Path) (i : ℕ) (xs ys : List Variable) → named_from pre path i (xs ++ ys) ≡ named_from pre path i xs ++ named_from pre path (i + length xs) ys
named_append pre path i [] ys = let z : i ≡ i + 0 = omega arith in ap (λ n. named_from pre path n ys) z
named_append pre path i (x ∷ xs) ys =
    let d : DeepVariable = record { variable = record { name = pre ++ x.name; role = role_at path x.role; kind = x.kind }; flow = i } in
    let z : suc i + length xs ≡ i + suc (length xs) = omega arith in
    ap (λ l. d ∷ l) (named_append pre path (suc i) xs ys ∙ ap (λ n. named_from pre path (suc i) xs ++ named_from pre path n ys) z)

-- some declared variables of one role
abbrev pub declared_as : Role → List Declaration → List Variable
declared_as role ds = variables_as role (declarations_view ds)

declared_append : (role : Role) (xs ys : List Declaration) → declared_as role (xs ++ ys) ≡ declared_as role xs ++ declared_as role ys
declared_append role [] ys = refl
declared_append role (x ∷ xs) ys = let v : Variable = record { name = x.name; role = role; kind = x.kind } in ap (λ l. v ∷ l) (declared_append role xs ys)

pub declared_long : (role : Role) (ds : List Declaration) → length (declared_as role ds) ≡ length ds
declared_long role [] = refl
declared_long role (d ∷ ds) = ap suc (declared_long role ds)

-- one more of them
pub declared_more : (pre : List ℕ) (path : Path) (role : Role) (start : ℕ) (ds : List Declaration) (i : ℕ) (d : Declaration) (v : DeepVariable) (old one two : List DeepVariable)
    → i < length ds → d ≡ get_or ds i d → v ≡ record { variable = record { name = pre ++ d.name; role = role_at path role; kind = d.kind }; flow = start + i }
    → one ≡ old ++ named_from pre path start (declared_as role (take i ds)) → two ≡ one ++ v ∷ [] → two ≡ old ++ named_from pre path start (declared_as role (take (i + 1) ds))
declared_more pre path role start ds i d v old one two lt is made before now =
    let here = declared_as role (take i ds) in
    let z : start + length here ≡ start + i = omega (arith, declared_long role (take i ds), length-take-le i ds) in
    let last = λ (n : ℕ). named_from pre path n (declared_as role (d ∷ [])) in
    let more : named_from pre path start (declared_as role (take (i + 1) ds)) ≡ named_from pre path start here ++ v ∷ [] =
    ap (λ xs. named_from pre path start (declared_as role xs)) (take_more ds i d lt ∙ ap (λ x. take i ds ++ x ∷ []) (sym is))
    ∙ ap (named_from pre path start) (declared_append role (take i ds) (d ∷ [])) ∙ named_append pre path start here (declared_as role (d ∷ []))
    ∙ ap (λ n. named_from pre path start here ++ last n) z ∙ ap (λ v. named_from pre path start here ++ v ∷ []) (sym made) in
    now ∙ ap (λ l. l ++ v ∷ []) before ∙ append_assoc old (named_from pre path start here) (v ∷ []) ∙ ap (λ l. old ++ l) (sym more)

-- three groups are the variables of a node
pub three : (pre : List ℕ) (path : Path) (i j k : ℕ) (xs ys zs : List Variable) (old one two last : List DeepVariable) → j ≡ i + length xs → k ≡ j + length ys
    → one ≡ old ++ named_from pre path i xs → two ≡ one ++ named_from pre path j ys → last ≡ two ++ named_from pre path k zs → last ≡ old ++ named_from pre path i (xs ++ (ys ++ zs))
three pre path i j k xs ys zs old one two last ej ek e f g =
    let a = named_from pre path i xs in
    let b = named_from pre path j ys in
    let c = named_from pre path k zs in
    let rest : named_from pre path j (ys ++ zs) ≡ b ++ c = named_append pre path j ys zs ∙ ap (λ n. b ++ named_from pre path n zs) (sym ek) in
    let all : named_from pre path i (xs ++ (ys ++ zs)) ≡ a ++ (b ++ c) = named_append pre path i xs (ys ++ zs) ∙ ap (λ n. a ++ named_from pre path n (ys ++ zs)) (sym ej) ∙ ap (λ l. a ++ l) rest in
    g ∙ ap (λ l. l ++ c) (f ∙ ap (λ l. l ++ b) e) ∙ append_assoc (old ++ a) b c ∙ append_assoc old a (b ++ c) ∙ ap (λ l. old ++ l) (sym all)

-- INSTANCE AFTER INSTANCE

module _ (p : ProgramTree) (main : List ℕ) where
  named_is : (path : Path) (i : ℕ) (xs : List Variable) → named_from (prefix p main path) path i xs ≡ map (deep_variable p main) (variables_from path i xs)
  named_is path i [] = refl
  named_is path i (x ∷ xs) = ap (λ l. deep_variable p main (record { path = path; variable = x; flow = i }) ∷ l) (named_is path (suc i) xs)

  all_append : (xs ys : List Instance) → all_variables p (xs ++ ys) ≡ all_variables p xs ++ all_variables p ys
  all_append [] ys = refl
  all_append (x ∷ xs) ys = ap (λ l. instance_variables p x ++ l) (all_append xs ys) ∙ sym (append_assoc (instance_variables p x) (all_variables p xs) (all_variables p ys))

  -- the first k instances are passed: their variables are listed, and the way leads to the last of them
  pub record Passed (list : List Instance) (k : ℕ) (way : List Level) (found : List DeepVariable) : Type 0 where
    pub variables : found ≡ map (deep_variable p main) (all_variables p (take k list))
    pub way_is : (j : ℕ) (x : Instance) → k ≡ suc j → slice_get list j ≡ Some x → way ≡ way_from p main [] x.path

  pub passed_none : (list : List Instance) (way : List Level) (found : List DeepVariable) → found ≡ [] → Passed list 0 way found
  passed_none list way found none = record { variables = none; way_is = λ j x e. absurd (omega (arith, e)) }

  -- the way to the instance before leads through the one that makes the last call
  way_before : (flat : FlatView) (list : List Instance) (k : ℕ) (way : List Level) (found : List DeepVariable) (x : Instance) → AreInstances p main flat list → Passed list k way found → slice_get list k ≡ Some x
      → (node : NodeTree) → instance_at p main x.path ≡ Some node → (r : Path) (m : ℕ) → x.path ≡ r ++ m ∷ [] → (s : Path) × (way ≡ way_from p main [] (r ++ s))
  way_before flat list k way found x are passed there node at_path r m is = go at.0 k at.1 passed here (below at.0 k at.1 here)
    where
      listed : (j : ℕ) (y : Instance) → slice_get list j ≡ Some y → slice_get (paths list) j ≡ Some y.path
      listed j y e = slice_get-map (λ (y : Instance). y.path) list j ∙ ap (option_map (λ (y : Instance). y.path)) e

      here : slice_get (paths list) k ≡ Some (r ++ m ∷ [])
      here = listed k x there ∙ ap Some is

      up : (n : NodeTree) × (instance_at p main r ≡ Some n)
      up = parent p r m main node (ap (instance_at p main) (sym is) ∙ at_path)

      at : (i : ℕ) × (slice_get (paths list) i ≡ Some r)
      at = contains_at (paths list) r (are.all r up.0 up.1)

      -- two paths at one place are the same
      one_place : (i j : ℕ) (a b : Path) → i ≡ j → slice_get (paths list) i ≡ Some a → slice_get (paths list) j ≡ Some b → a ≡ b
      one_place i j a b z e f = same_Some a b (sym e ∙ ap (slice_get (paths list)) z ∙ f)

      below : (i k : ℕ) → slice_get (paths list) i ≡ Some r → slice_get (paths list) k ≡ Some (r ++ m ∷ []) → i < k
      below i k e here = elim (cases_lt i k) [
        | inl lt ↦ lt
        | inr ge ↦ elim (cases_lt k i) [
          | inl lt ↦ absurd (never_back r m (are.ordered k i (r ++ m ∷ []) r lt here e))
          | inr le ↦ absurd (never_same r m (one_place k i (r ++ m ∷ []) r (omega (arith, ge, le)) here e))
        ]
      ]

      unmapped : (j : ℕ) (q : Path) → slice_get (paths list) j ≡ Some q → (y : Instance) × (slice_get list j ≡ Some y) × (y.path ≡ q)
      unmapped j q e = fit (slice_get list j) refl (sym (slice_get-map (λ (y : Instance). y.path) list j) ∙ e)
        where
          fit : (o : Option Instance) → slice_get list j ≡ o → option_map (λ (y : Instance). y.path) o ≡ Some q → (y : Instance) × (slice_get list j ≡ Some y) × (y.path ≡ q)
          fit None at e = cc
          fit (Some y) at e = (y, at, same_Some y.path q e)

      arrive : (j : ℕ) (y : Instance) (q s : Path) → Passed list (suc j) way found → slice_get list j ≡ Some y → y.path ≡ q → q ≡ r ++ s → way ≡ way_from p main [] (r ++ s)
      arrive j y q s passed at is goes = passed.way_is j y refl at ∙ ap (way_from p main []) (is ∙ goes)

      -- the way to an instance between the two
      step_from : (j : ℕ) (q : Path) → slice_get (paths list) j ≡ Some q → Passed list (suc j) way found → (q ≡ r) ⊎ ComesBefore r q → ComesBefore q (r ++ m ∷ []) → (s : Path) × (way ≡ way_from p main [] (r ++ s))
      step_from j q e passed from before =
          let y = unmapped j q e in
          let s = between r q m from before in
          (s.0, arrive j y.0 q s.0 passed y.1 y.2 s.1)

      go : (i k : ℕ) → slice_get (paths list) i ≡ Some r → Passed list k way found → slice_get (paths list) k ≡ Some (r ++ m ∷ []) → i < k → (s : Path) × (way ≡ way_from p main [] (r ++ s))
      go i zero e passed here lt = absurd (omega (arith, lt))
      go i (suc j) e passed here lt =
          let inside = slice_get_within (paths list) (suc j) (r ++ m ∷ []) here in
          let q = some_at (paths list) j (omega (arith, inside)) in
          let from : (q.0 ≡ r) ⊎ ComesBefore r q.0 = elim (cases_lt i j) [
            | inl l ↦ inr (are.ordered i j r q.0 l e q.1)
            | inr ge ↦ inl (one_place j i q.0 r (omega (arith, ge, lt)) q.1 e)
          ] in
          step_from j q.0 q.1 passed from (are.ordered j (suc j) q.0 (r ++ m ∷ []) (omega arith) q.1 here)

  -- what the names at a path begin with, and the way to it
  record Leads (path : Path) (pre : List ℕ) (way : List Level) : Type 0 where
    pub prefix_is : pre ≡ prefix p main path
    pub way_is : way ≡ way_from p main [] path

  nothing : (path : Path) → length path ≤ 0 → path ≡ []
  nothing [] le = refl
  nothing (k ∷ path) le = absurd (omega (arith, le))

  -- to the main node
  leads_first : (path : Path) (node : NodeTree) (pre : List ℕ) (way way' : List Level) → path ≡ [] → instance_at p main path ≡ Some node → pre ≡ [] → way' ≡ take (length path) way ++ record { prefix = pre; steps = steps_of node } ∷ [] → Leads path pre way'
  leads_first path node pre way way' is at_path none made =
      let level = λ (pre : List ℕ) (steps : List (List ℕ)). let l : Level = record { prefix = pre; steps = steps } in l ∷ [] in
      let steps : steps_of node ≡ steps_in (instance_at p main []) = ap steps_in (sym at_path ∙ ap (instance_at p main) is) in
      record {
        prefix_is = none ∙ ap (prefix p main) (sym is);
        way_is = made ∙ ap (λ q. take (length q) way ++ level pre (steps_of node)) is ∙ ap (λ x. level x (steps_of node)) none ∙ ap (level []) steps ∙ ap (way_from p main []) (sym is);
      }

  -- to the instance of a call
  leads_more : (path r s : Path) (m : ℕ) (node : NodeTree) (pre : List ℕ) (way way' : List Level) → path ≡ r ++ m ∷ [] → way ≡ way_from p main [] (r ++ s) → instance_at p main path ≡ Some node
      → pre ≡ prefix_at (slice_get way (length path - 1)) (slice_index path (length path - 1)) → way' ≡ take (length path) way ++ record { prefix = pre; steps = steps_of node } ∷ [] → Leads path pre way'
  leads_more path r s m node pre way way' is before at_path later made =
      let n : length path ≡ suc (length r) = ap length is ∙ omega (arith, length-append r (m ∷ [])) in
      let i : length path - 1 ≡ length r = omega (arith, n) in
      let up = parent p r m main node (ap (instance_at p main) (sym is) ∙ at_path) in
      let level : slice_get way (length path - 1) ≡ Some (level_of p main r) = ap₂ (λ (w : List Level) (i : ℕ). slice_get w i) before i ∙ way_at p main [] r s in
      let number : slice_index path (length path - 1) ≡ m = ap₂ (λ (q : Path) (i : ℕ). slice_index q i) is i ∙ get_or_push r m 0 (length r) refl in
      let pre_is : pre ≡ prefix p main (r ++ m ∷ []) =
      later ∙ ap₂ (λ (o : Option Level) (k : ℕ). prefix_at o k) level number ∙ ap (λ o. prefix p main r ++ (name_at (steps_in o) m ++ 46 ∷ [])) up.1 ∙ sym (prefix_more p r m main up.0 up.1) in
      let steps : steps_of node ≡ steps_in (instance_at p main (r ++ m ∷ [])) = ap steps_in (sym at_path ∙ ap (instance_at p main) is) in
      let last = λ (pre : List ℕ) (steps : List (List ℕ)). let l : Level = record { prefix = pre; steps = steps } in l ∷ [] in
      record {
        prefix_is = pre_is ∙ ap (prefix p main) (sym is);
        way_is = made ∙ ap (λ n. take n way ++ last pre (steps_of node)) n ∙ ap (λ w. take (suc (length r)) w ++ last pre (steps_of node)) before
            ∙ ap₂ (λ (x : List ℕ) (y : List (List ℕ)). take (suc (length r)) (way_from p main [] (r ++ s)) ++ last x y) pre_is steps ∙ way_more p main [] r s m ∙ ap (way_from p main []) (sym is);
      }

  -- one more instance
  pub passed_more : (flat : FlatView) (list : List Instance) (k : ℕ) (way way' : List Level) (found found' : List DeepVariable) (x : Instance) → AreInstances p main flat list → slice_get list k ≡ Some x → Passed list k way found
      → Passes p x way way' found found' → Passed list (k + 1) way' found'
  passed_more flat list k way way' found found' x are there passed passes =
      let inst = all_at (IsInstance p main flat) list k x are.each there in
      let made = passes.way_on inst.node inst.is_node in
      let leads : Leads x.path passes.prefix way' = elim (cases_lt 0 (length x.path)) [
        | inl lt ↦
            let last = last_of x.path lt in
            let w = way_before flat list k way found x are passed there inst.node inst.at_path last.0 last.1 last.2 in
            leads_more x.path last.0 w.0 last.1 inst.node passes.prefix way way' last.2 w.1 inst.at_path (passes.later lt) made
        | inr le ↦ leads_first x.path inst.node passes.prefix way way' (nothing x.path le) inst.at_path (passes.first (omega (arith, le))) made
      ] in
      let lt = slice_get_within list k x there in
      let deep = deep_variable p main in
      let one : take (k + 1) list ≡ take k list ++ x ∷ [] = take_more list k x lt ∙ ap (λ y. take k list ++ y ∷ []) (get_or_from_slice_get list k x x there) in
      let own : instance_variables p x ≡ variables_from x.path x.start (main_variables inst.node) = ap (λ o. variables_from x.path x.start (variables_in o)) inst.is_node in
      let all : all_variables p (take (k + 1) list) ≡ all_variables p (take k list) ++ variables_from x.path x.start (main_variables inst.node) =
      ap (all_variables p) one ∙ all_append (take k list) (x ∷ []) ∙ ap (λ l. all_variables p (take k list) ++ l) (append-nil (instance_variables p x) ∙ own) in
      record {
        variables = passes.variables inst.node inst.is_node ∙ ap₂ (λ (a b : List DeepVariable). a ++ b) passed.variables
            (ap (λ q. named_from q x.path x.start (main_variables inst.node)) leads.prefix_is ∙ named_is x.path x.start (main_variables inst.node))
            ∙ sym (ap (map deep) all ∙ map-append deep (all_variables p (take k list)) (variables_from x.path x.start (main_variables inst.node)));
        way_is = λ j y e at.
            let z : k ≡ j = omega (arith, e) in
            leads.way_is ∙ ap (λ (y : Instance). way_from p main [] y.path) (same_Some x y (sym there ∙ ap (slice_get list) z ∙ at));
      }
