-- The flows of variables, looked up by their names.
use Rattle.std.proofs.Common.{◌≡◌, ℕ, suc, ◌+◌, ◌<◌, Bool, true, false, ◌||◌, cond, List, [], ◌∷◌, ◌++◌, length, map, take, drop, get_or, Option, Some, None, refl, sym, ap, ◌∙◌, arith, append_assoc, length-take}
use Rattle.std.specs.Prelude.{option_map}
use Rattle.std.specs.List.{list_any}
use Rattle.std.specs.Str.{bytes_eq}
use Rattle.std.proofs.lemmas.List.{length-map, map-append, take_more}
use Rattle.std.proofs.lemmas.Slice.Eq.{bytes_eq-Decides}
use Rattle.lutree.specs.declared.program.Declaration.{Declaration}
use Rattle.lutree.specs.Tree.{DeclarationTree, EquationTree, NodeTree, ProgramTree, declaration_view, declarations_view}
use Rattle.luflow.specs.declared.form.Clock.{Clock}
use Rattle.luflow.specs.declared.form.Clock.TheVariants.{Base}
use Rattle.luflow.specs.declared.form.Form.TheVariants.{Input}
use Rattle.luflow.specs.declared.form.Flow.{Flow}
use Rattle.lusource.specs.Names.{place_of}
use Rattle.lustat_rules.specs.Scope.{lefts_of, names_of}
use Rattle.lubase.specs.Places.{first_place}
use Rattle.lustat_rules.proofs.Declared.{same_spellings}
use Rattle.lubase.proofs.Sought.{shifted_first}
use Rattle.lustat_rules.specs.Scopes.{spellings}
use Rattle.lucore_laws.specs.Layout.{Root, clock_place, left_clock, walk_right, root_flow, variable_flow, input_flows, inner_flows, variable_count, node_flows}
use Rattle.lucore_laws.specs.Layout.Root.{own, at}
use Rattle.lucore_build.specs.Nodes.{flow_named, flows_named, defined_flows, flow_at, flows_found, inputs_from}

pub drop_front : {A : Type 0} (c d : List A) (n : ℕ) → length c ≡ n → drop n (c ++ d) ≡ d
drop_front [] d n e = ap (λ i. drop i d) (sym e)
drop_front (x ∷ c) d n e = ap (λ i. drop i (x ∷ c ++ d)) (sym e) ∙ drop_front c d (length c) refl

-- INPUTS

inputs_more : (r : ℕ) (ds : List DeclarationTree) (d : DeclarationTree) → inputs_from r (ds ++ d ∷ []) ≡ inputs_from r ds ++ record { form = Input (r + length ds); clock = Base; kind = d.kind } ∷ []
inputs_more r [] d = let z : r ≡ r + 0 = omega arith in ap (λ i. inputs_from i (d ∷ [])) z
inputs_more r (e ∷ ds) d =
    let z : suc r + length ds ≡ r + suc (length ds) = omega arith in
    ap (λ l. record { form = Input r; clock = Base; kind = e.kind } ∷ l) (inputs_more (suc r) ds d ∙ ap (λ i. inputs_from (suc r) ds ++ record { form = Input i; clock = Base; kind = d.kind } ∷ []) z)

pub next_input : (ds : List Declaration) (i : ℕ) (d : Declaration) → i < length ds →
    inputs_from 0 (declarations_view (take (i + 1) ds)) ≡ inputs_from 0 (declarations_view (take i ds)) ++ record { form = Input i; clock = Base; kind = (get_or ds i d).kind } ∷ []
next_input ds i d lt =
    let first = declarations_view (take i ds) in
    let z : 0 + length first ≡ i = omega (arith, length-map (take i ds) declaration_view, length-take i ds) in
    ap (λ l. inputs_from 0 (declarations_view l)) (take_more ds i d lt) ∙ ap (inputs_from 0) (map-append declaration_view (take i ds) (get_or ds i d ∷ []))
    ∙ inputs_more 0 first (declaration_view (get_or ds i d)) ∙ ap (λ j. inputs_from 0 first ++ record { form = Input j; clock = Base; kind = (get_or ds i d).kind } ∷ []) z

-- LOOK-UPS

later : (f : Flow) (fs : List Flow) (o : Option ℕ) → flow_at (f ∷ fs) (option_map suc o) ≡ flow_at fs o
later f fs None = refl
later f fs (Some i) = refl

left_step : (n : NodeTree) (k : Clock) (r : Root) (j : ℕ) (y x : List ℕ) (fs : List Flow) (o : Option ℕ) (b c : Bool) (i : ℕ) (other : Flow) → bytes_eq y x ≡ b →
    flow_at fs o ≡ cond c (flow_named n k r (suc j + i) x) other →
    flow_at (flow_named n k r j y ∷ fs) (cond b (Some 0) (option_map suc o)) ≡ cond (b || c) (flow_named n k r (j + cond b 0 (suc i)) x) other
left_step n k r j y x fs o true c i other e h =
    let z : j ≡ j + 0 = omega arith in
    ap (flow_named n k r j) ((bytes_eq-Decides y x).0 e) ∙ ap (λ a. flow_named n k r a x) z
left_step n k r j y x fs o false c i other e h =
    let z : suc j + i ≡ j + suc i = omega arith in
    later (flow_named n k r j y) fs o ∙ h ∙ ap (λ a. cond c (flow_named n k r a x) other) z

left_found : (n : NodeTree) (k : Clock) (r : Root) (j : ℕ) (xs ys : List (List ℕ)) (fs : List Flow) (x : List ℕ) →
    flow_at (flows_named n k r j xs ++ fs) (first_place (xs ++ ys) x) ≡ cond (list_any (λ y. bytes_eq y x) xs) (flow_named n k r (j + place_of xs x) x) (flow_at fs (first_place ys x))
left_found n k r j [] ys fs x = refl
left_found n k r j (y ∷ xs) ys fs x =
    ap (λ o. flow_at (flow_named n k r j y ∷ (flows_named n k r (suc j) xs ++ fs)) (cond (bytes_eq y x) (Some 0) o)) (shifted_first (xs ++ ys) x)
    ∙ left_step n k r j y x (flows_named n k r (suc j) xs ++ fs) (first_place (xs ++ ys) x) (bytes_eq y x) (list_any (λ y. bytes_eq y x) xs) (place_of xs x) (flow_at fs (first_place ys x)) refl
    (left_found n k r (suc j) xs ys fs x)

module _ (p : ProgramTree) (l : List (List Flow)) (n : NodeTree) where
  rooted : (q : EquationTree) (r : Root) (j : ℕ) (x : List ℕ) → flow_named n (clock_place n (left_clock p l n q)) r j x ≡ root_flow p l n q r j x
  rooted q (own flow) j x = refl
  rooted q (at i) j x = refl

  -- the flow that is looked up is the variable's
  pub found : (qs : List EquationTree) (s : ℕ) (x : List ℕ) → flow_at (defined_flows p l n qs s) (first_place (lefts_of qs) x) ≡ variable_flow p l n qs s x
  found [] s x = refl
  found (q ∷ qs) s x =
      let r = (walk_right p l n q s).root in
      let t = s + length (walk_right p l n q s).inner in
      let here = list_any (λ y. bytes_eq y x) q.left in
      let z : 0 + place_of q.left x ≡ place_of q.left x = omega arith in
      left_found n (clock_place n (left_clock p l n q)) r 0 q.left (lefts_of qs) (defined_flows p l n qs t) x
      ∙ ap (λ i. cond here (flow_named n (clock_place n (left_clock p l n q)) r i x) (flow_at (defined_flows p l n qs t) (first_place (lefts_of qs) x))) z
      ∙ ap (λ f. cond here f (flow_at (defined_flows p l n qs t) (first_place (lefts_of qs) x))) (rooted q r (place_of q.left x) x)
      ∙ ap (cond here (root_flow p l n q r (place_of q.left x) x)) (found qs t x)

  pub all_found : (qs : List EquationTree) (s : ℕ) (xs : List (List ℕ)) → flows_found (lefts_of qs) (defined_flows p l n qs s) xs ≡ map (variable_flow p l n qs s) xs
  all_found qs s [] = refl
  all_found qs s (x ∷ xs) = ap (λ f. f ∷ flows_found (lefts_of qs) (defined_flows p l n qs s) xs) (found qs s x) ∙ ap (λ fs. variable_flow p l n qs s x ∷ fs) (all_found qs s xs)

  inputs_same : (r : ℕ) (ds : List DeclarationTree) → inputs_from r ds ≡ input_flows p l n r ds
  inputs_same r [] = refl
  inputs_same r (d ∷ ds) = ap (λ fs. record { form = Input r; clock = Base; kind = d.kind } ∷ fs) (inputs_same (suc r) ds)

  -- a list that has these parts one behind the other is the node's
  pub assembled : (outputs locals : List Declaration) (lefts : List (List ℕ)) (defined a b c d : List Flow) → declarations_view outputs ≡ n.outputs → declarations_view locals ≡ n.locals →
      lefts ≡ lefts_of n.equations → defined ≡ defined_flows p l n n.equations (variable_count p l n) →
      a ≡ inputs_from 0 n.inputs → b ≡ a ++ flows_found lefts defined (spellings outputs) → c ≡ b ++ flows_found lefts defined (spellings locals) →
      d ≡ c ++ inner_flows p l n n.equations (variable_count p l n) → d ≡ node_flows p l n
  assembled outputs locals lefts defined a b c d out loc is_left is_defined is_a is_b is_c is_d =
      let nv = variable_count p l n in
      let qs = n.equations in
      let f = variable_flow p l n qs nv in
      let ins = input_flows p l n 0 n.inputs in
      let inner = inner_flows p l n qs nv in
      let known = λ (ds : List Declaration) (ts : List DeclarationTree) (e : declarations_view ds ≡ ts).
      ap (λ names. flows_found names defined (spellings ds)) is_left ∙ ap (λ fs. flows_found (lefts_of qs) fs (spellings ds)) is_defined
      ∙ all_found qs nv (spellings ds) ∙ ap (map f) (same_spellings ds ∙ ap names_of e) in
      let both = map-append f (names_of n.outputs) (names_of n.locals) in
      let names = map-append (λ (d : DeclarationTree). d.name) n.outputs n.locals in
      let target : (ins ++ map f (names_of n.outputs)) ++ map f (names_of n.locals) ≡ ins ++ map f (names_of (n.outputs ++ n.locals)) =
      append_assoc ins (map f (names_of n.outputs)) (map f (names_of n.locals)) ∙ ap (λ xs. ins ++ xs) (sym both ∙ ap (map f) (sym names)) in
      is_d ∙ ap (λ xs. xs ++ inner) (is_c ∙ ap (λ xs. xs ++ flows_found lefts defined (spellings locals)) (is_b ∙ ap (λ xs. xs ++ flows_found lefts defined (spellings outputs)) (is_a ∙ inputs_same 0 n.inputs)
      ∙ ap (λ xs. ins ++ xs) (known outputs n.outputs out))
      ∙ ap (λ xs. (ins ++ map f (names_of n.outputs)) ++ xs) (known locals n.locals loc) ∙ target)
      ∙ append_assoc ins (map f (names_of (n.outputs ++ n.locals))) inner
