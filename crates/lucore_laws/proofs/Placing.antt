-- Where the flows of an expression's walk stand, what its occurrences read is read in the flat list.
use Rattle.std.proofs.Common.{◌≡◌, ℕ, zero, suc, ◌+◌, ◌<◌, inl, List, [], ◌∷◌, ◌++◌, length, map, Option, Some, None, refl, sym, ap, ◌∙◌, subst, arith}
use Rattle.std.specs.Prelude.{slice_get, slice_index}
use Rattle.std.proofs.lemmas.List.{append-nil, map-append}
use Rattle.std.proofs.lemmas.Option.{same_Some}
use Rattle.lutree.specs.declared.expr.Pattern.{Pattern}
use Rattle.lutree.specs.declared.expr.Condition.{Condition}
use Rattle.lutree.specs.declared.expr.Prefix.TheVariants.{Data as Data1, Pre as Before}
use Rattle.lutree.specs.declared.expr.Infix.TheVariants.{Data as Data2, Arrow as Starts, FollowedBy}
use Rattle.lutree.specs.Tree.{Tree, Trees, list_of as trees_in, EquationTree, NodeTree, ProgramTree}
use Rattle.lutree.specs.Tree as tree
use Rattle.luflow.specs.declared.form.Flow.{Flow}
use Rattle.luflow.specs.declared.form.Form.TheVariants.{Pre, Merge}
use Rattle.luflow.specs.Program.{FlatView}
use Rattle.lusource.specs.Names.{variables_of, clock_of, output_name, AreDistinct}
use Rattle.lustat_rules.specs.Scope.{node_called}
use Rattle.lusource.specs.Source.{condition, first_pattern, next_patterns}
use Rattle.lucore_laws.specs.Layout.{Root, Walking, Walk, root_flows, made, root_place, place, leaf, list_of, inputs_in, instance, clock_place, flow_of, variable_place, walk, walk_all, walk_branches}
use Rattle.lucore_laws.specs.Layout.Root.{own, at}
use Rattle.lucore_laws.proofs.Each.{each_left, each_right}
use Rattle.lucore_laws.proofs.Well.{IsWell, AllWell, CallIs}
use Rattle.lucore_laws.proofs.Spots.{place_named}
use Rattle.lucore_laws.proofs.ListToSource.{output_place}
use Rattle.lucore_laws.specs.Reads.{Position, Occurrence, Instance, Item, operand, if_there, clocked, output, value, values, items, items_in, branch_items}
use Rattle.lucore_laws.specs.Reads.Occurrence.{variable, operator}
use Rattle.lucore_laws.proofs.Graph.{Every, every_join, Model, clock_targets, moved_model, FlowHolds, Hold, instance_solves}
use Rattle.lucore_laws.proofs.Expressions.{ItemHolds}
use Rattle.lucore_laws.proofs.Places.{Spot, spot, next, argument_spot, branch_spot, arguments_end, operand_spot, spot_of, spot_place, operator_place, operator_named, called_name, called_start, Found, found_in, find, spotted, IsOperator, FlatReads, Step, Placed}

abbrev lone : Option ℕ → List ℕ
lone None = []
lone (Some x) = x ∷ []

lone_on : (on : ℕ → ℕ) (xs : List ℕ) (r : ℕ) → r < length xs → on (slice_index xs r) ∷ [] ≡ lone (slice_get (map on xs) r)
lone_on on [] r lt = absurd (omega (arith, lt))
lone_on on (x ∷ xs) zero lt = refl
lone_on on (x ∷ xs) (suc r) lt = lone_on on xs r (omega (arith, lt))

lone_there : (f : Occurrence → ℕ) (vs : List Occurrence) (r : ℕ) → lone (slice_get (map f vs) r) ≡ map f (if_there (slice_get vs r))
lone_there f [] r = refl
lone_there f (v ∷ vs) zero = refl
lone_there f (v ∷ vs) (suc r) = lone_there f vs r

same_given : (f : Occurrence → ℕ) (on : ℕ → ℕ) (xs : List ℕ) (vs : List Occurrence) (r : ℕ) → map f vs ≡ map on xs → r < length xs → on (slice_index xs r) ∷ [] ≡ map f (if_there (slice_get vs r))
same_given f on xs vs r e lt = lone_on on xs r lt ∙ ap (λ l. lone (slice_get l r)) (sym e) ∙ lone_there f vs r

module _ (p : ProgramTree) (lists : List (List Flow)) (main : List ℕ) (flat : FlatView) (node : NodeTree) (Below : List ℕ → Type 0) (here : Instance) (apart : (f : List ℕ) (n : NodeTree) → node_called p f ≡ Some n → AreDistinct (variables_of n))
    (node_is : node_called p here.node ≡ Some node) (m : Model ℕ) (found : find p lists main here.path ≡ record { node = here.node; on = m.on }) (base_is : m.base ≡ map (spotted p lists main) here.clock) where
  abbrev G : ℕ → ℕ → Type 0
  G = FlatReads p lists main flat

  abbrev at_place : Occurrence → ℕ
  at_place = spotted p lists main

  abbrev pub Good : Item → Type 0
  Good = ItemHolds (Step p lists main flat) (Placed p lists main flat)

  abbrev Steps : Occurrence → Occurrence → Type 0
  Steps = Step p lists main flat

  abbrev SpotOf : Position → Spot
  SpotOf t = spot_of p lists node t.operands t.equation

  abbrev op : Position → Occurrence
  op t = operator here.path t

  pub variable_spot : (x : List ℕ) → at_place (variable here.path x) ≡ m.on (variable_place p lists node x)
  variable_spot x =
      ap (λ (a : Found). a.on (place_named (node_called p a.node) x)) found ∙ ap (λ o. m.on (place_named o x)) node_is

  pub operator_spot : (t : Position) → at_place (op t) ≡ m.on (operator_place p lists node t.operands t.equation)
  operator_spot t =
      ap (λ (a : Found). a.on (operator_named p lists main (node_called p a.node) t)) found ∙ ap (λ o. m.on (operator_named p lists main o t)) node_is

  pub steps : (x : Occurrence) (y : ℕ) (vs : List Occurrence) (ts : List ℕ) → at_place x ≡ y → map at_place vs ≡ ts → Every (G y) ts → Every (Steps x) vs
  steps x y vs ts e same h = go vs (subst (Every (G y)) (sym same) h)
    where
      go : (vs : List Occurrence) → Every (G y) (map at_place vs) → Every (Steps x) vs
      go [] h = tt
      go (v ∷ vs) h = (inl (subst (λ n. G n (at_place v)) (sym e) h.0), go vs h.1)

  cons_same : (v : Occurrence) (x : ℕ) (vs : List Occurrence) (ts : List ℕ) → at_place v ≡ x → map at_place vs ≡ ts → map at_place (v ∷ vs) ≡ x ∷ ts
  cons_same v x vs ts e same = ap (λ n. n ∷ map at_place vs) e ∙ ap (λ l. x ∷ l) same

  pub clocked_same : (k : Option Condition) → map at_place (clocked p here node k) ≡ clock_targets m (clock_place node k)
  clocked_same None = sym base_is
  clocked_same (Some c) = ap (λ n. n ∷ []) (variable_spot c.variable)

  abbrev T : Option Condition → List ℕ
  T k = clock_targets m (clock_place node k)

  one_same : (k : Option Condition) (v : Occurrence) (x : ℕ) → at_place v ≡ x → map at_place (v ∷ clocked p here node k) ≡ x ∷ T k
  one_same k v x e = cons_same v x (clocked p here node k) (T k) e (clocked_same k)

  two_same : (k : Option Condition) (u v : Occurrence) (x y : ℕ) → at_place u ≡ x → at_place v ≡ y → map at_place (u ∷ v ∷ clocked p here node k) ≡ x ∷ y ∷ T k
  two_same k u v x y e f = cons_same u x (v ∷ clocked p here node k) (y ∷ T k) e (one_same k v y f)

  three_same : (k : Option Condition) (u v w : Occurrence) (x y z : ℕ) → at_place u ≡ x → at_place v ≡ y → at_place w ≡ z → map at_place (u ∷ v ∷ w ∷ clocked p here node k) ≡ x ∷ y ∷ z ∷ T k
  three_same k u v w x y z e f g = cons_same u x (v ∷ w ∷ clocked p here node k) (y ∷ z ∷ T k) e (two_same k v w y z f g)

  many_same : (k : Option Condition) (v : Occurrence) (vs : List Occurrence) (x : ℕ) (ys : List ℕ) → at_place v ≡ x → map at_place vs ≡ ys → map at_place (v ∷ (vs ++ clocked p here node k)) ≡ x ∷ (ys ++ T k)
  many_same k v vs x ys e f =
      cons_same v x (vs ++ clocked p here node k) (ys ++ T k) e
      (map-append at_place vs (clocked p here node k) ∙ ap (λ l. l ++ map at_place (clocked p here node k)) f ∙ ap (λ l. ys ++ l) (clocked_same k))

  -- how the root of an expression stands: its items are good, if a flow of its own holds where its operator stands
  abbrev pub RootGood : Tree → Option Condition → Position → ℕ → Root → Type 0
  RootGood e k t w (own f) =
      (y : ℕ) → at_place (op t) ≡ m.on y → FlowHolds G m y f → Every Good (items p here node e k t) × ((j : ℕ) → (at_place (output p here node e t j) ≡ m.on y) × IsOperator p lists main (output p here node e t j))
  RootGood e k t w (at a) =
      Every Good (items p here node e k t) × ((j : ℕ) → j < w → at_place (output p here node e t j) ≡ m.on (a + j))

  root_good : (e : Tree) (k : Option Condition) (t : Position) (s : ℕ) (inner : List Flow) (root : Root) → at_place (op t) ≡ m.on (root_place (s + length inner) root) → RootGood e k t 1 root → Hold G m s (inner ++ root_flows root) → Every Good (items p here node e k t) × (at_place (value p here node e t) ≡ m.on (root_place (s + length inner) root))
  root_good e k t s inner (own f) there r hold =
      let g = r (s + length inner) there (each_right (FlowHolds G m) s inner (f ∷ []) hold).0 in
      (g.0, (g.1 0).0)
  root_good e k t s inner (at a) there r hold = let z : a + 0 ≡ a = omega arith in (r.0, r.1 0 (omega arith) ∙ ap m.on z)

  abbrev IsAt : Position → Tree → Option Condition → ℕ → Type 0
  IsAt t e k s = SpotOf t ≡ spot e k s

  sub_at : (t : Position) (e : Tree) (k : Option Condition) (s n : ℕ) → IsAt t e k s → SpotOf (operand t n) ≡ operand_spot p lists node e k s n
  sub_at t e k s n h = ap (λ (a : Spot). operand_spot p lists node a.tree a.clock a.start n) h

  operand_there : (t : Position) (n : ℕ) (e : Tree) (k : Option Condition) (s : ℕ) → IsAt (operand t n) e k s → at_place (op (operand t n)) ≡ m.on (place s (walk p lists node e k s))
  operand_there t n e k s h = operator_spot (operand t n) ∙ ap (λ a. m.on (spot_place p lists node a)) h

  abbrev H : ℕ → List Flow → Type 0
  H s flows = Hold G m s flows

  abbrev W : Tree → Option Condition → ℕ → Walk
  W e k s = walk p lists node e k s

  abbrev it : Tree → Option Condition → Position → List Item
  it e k t = items p here node e k t

  -- an instance on the clock k
  instance_good : (f : List ℕ) (k : Option Condition) (t : Position) (xs : List ℕ) (b w : ℕ) (arguments : List Occurrence) → CallIs p node Below f (length xs) w → find p lists main (t ∷ here.path) ≡ record { node = f; on = λ y. m.on (b + y) } → map at_place arguments ≡ map m.on xs → H b (instance p lists f (clock_place node k) xs b).inner
      → Placed p lists main flat (record { path = t ∷ here.path; node = f; clock = clocked p here node k; arguments = arguments }) × ((j : ℕ) → j < w → at_place (variable (t ∷ here.path) (output_name p f j)) ≡ m.on (b + inputs_in (node_called p f) + j))
  instance_good f k t xs b w arguments is there given hold = (
    record {
      model = moved_model m b (clock_place node k) xs;
      found = there;
      base_is = sym (clocked_same k);
      given_are = λ n e r lt.
          let same : is.callee ≡ n = same_Some is.callee n (sym is.found ∙ e) in
          let l : length is.callee.inputs ≡ length n.inputs = ap (λ (n : NodeTree). length n.inputs) same in
          let a = is.arguments_are in
          same_given at_place m.on xs arguments r given (omega (arith, lt, l, a));
      solves = instance_solves G m b (clock_place node k) xs (list_of p lists f) hold;
    },
    λ j lt.
        let o = output_place p f is.callee j is.found (apart f is.callee is.found) (let e = is.outputs_are in omega (arith, lt, e)) in
        let z : b + (inputs_in (node_called p f) + j) ≡ b + inputs_in (node_called p f) + j = omega arith in
        ap (λ (a : Found). a.on (place_named (node_called p a.node) (output_name p f j))) there ∙ ap (λ n. m.on (b + n)) o ∙ ap m.on z,
  )

  find_call : (t : Position) (f : List ℕ) (all : Trees) (k : Option Condition) (s : ℕ) → IsAt t (tree.call f all) k s → find p lists main (t ∷ here.path) ≡ record { node = f; on = λ y. m.on (arguments_end p lists node all k s + y) }
  find_call t f all k s h =
      ap (λ (a : Found). found_in p lists main a t (node_called p a.node)) found
      ∙ ap (found_in p lists main (record { node = here.node; on = m.on }) t) node_is
      ∙ ap {B = Found} (λ (a : Spot). record { node = called_name p lists node a.tree; on = λ y. m.on (called_start p lists node a.tree a.clock a.start + y) }) h

  from_good : (e : Tree) (k : Option Condition) (t : Position) (n s : ℕ) → IsAt (operand t n) e k s → (H s (W e k s).inner → RootGood e k (operand t n) 1 (W e k s).root) → H s (made (W e k s)) → Every Good (it e k (operand t n)) × (at_place (value p here node e (operand t n)) ≡ m.on (place s (W e k s)))
  from_good e k t n s is g hold =
      root_good e k (operand t n) s (W e k s).inner (W e k s).root (operand_there t n e k s is) (g (each_left (FlowHolds G m) s (W e k s).inner (root_flows (W e k s).root) hold)) hold

  mutual
    pub good : (e : Tree) (k : Option Condition) (t : Position) (s w : ℕ) → IsWell p node Below e w → IsAt t e k s → H s (W e k s).inner → RootGood e k t w (W e k s).root
    good (tree.number n) k t s w well is hold = λ y e holds. ((steps (op t) (m.on y) (clocked p here node k) _ e (clocked_same k) holds, tt), λ j. (e, tt))
    good (tree.truth b) k t s w well is hold = λ y e holds. ((steps (op t) (m.on y) (clocked p here node k) _ e (clocked_same k) holds, tt), λ j. (e, tt))
    good (tree.label x) k t s w well is hold = λ y e holds. ((steps (op t) (m.on y) (clocked p here node k) _ e (clocked_same k) holds, tt), λ j. (e, tt))
    good (tree.variable x) k t s w well is hold =
        (tt, λ j lt. let e = well.0 in let z : variable_place p lists node x ≡ variable_place p lists node x + j = omega (arith, e, lt) in variable_spot x ∙ ap m.on z)
    good (tree.unary (Data1 o) a) k t s w well is hold = λ y e holds.
        let u = operand t 0 in
        let ga = from_good a k t 0 s (sub_at t (tree.unary (Data1 o) a) k s 0 is) (λ h. good a k (operand t 0) s 1 well (sub_at t (tree.unary (Data1 o) a) k s 0 is) h) (each_left (FlowHolds G m) s (made (W a k s)) [] hold) in
        ((steps (op t) (m.on y) (value p here node a u ∷ clocked p here node k) _ e (one_same k (value p here node a u) _ ga.1) holds, ga.0), λ j. (e, tt))
    good (tree.unary Before a) k t s w well is hold = λ y e holds.
        let ga = from_good a k t 0 s (sub_at t (tree.unary Before a) k s 0 is) (λ h. good a k (operand t 0) s 1 well (sub_at t (tree.unary Before a) k s 0 is) h) (each_left (FlowHolds G m) s (made (W a k s)) [] hold) in
        ((steps (op t) (m.on y) (clocked p here node k) _ e (clocked_same k) holds, ga.0), λ j. (e, tt))
    good (tree.binary (Data2 o) a b) k t s w well is hold = λ y e holds.
        let s' = next p lists node a k s in
        let hb = each_left (FlowHolds G m) s' (made (W b k s')) [] (each_right (FlowHolds G m) s (made (W a k s)) (made (W b k s') ++ []) hold) in
        let ga = from_good a k t 0 s (sub_at t (tree.binary (Data2 o) a b) k s 0 is) (λ h. good a k (operand t 0) s 1 well.0 (sub_at t (tree.binary (Data2 o) a b) k s 0 is) h) (each_left (FlowHolds G m) s (made (W a k s)) (made (W b k s') ++ []) hold) in
        let gb = from_good b k t 1 s' (sub_at t (tree.binary (Data2 o) a b) k s 1 is) (λ h. good b k (operand t 1) s' 1 well.1 (sub_at t (tree.binary (Data2 o) a b) k s 1 is) h) hb in
        let va = value p here node a (operand t 0) in
        let vb = value p here node b (operand t 1) in (
          (steps (op t) (m.on y) (va ∷ vb ∷ clocked p here node k) _ e (two_same k va vb _ _ ga.1 gb.1) holds, every_join Good (it a k (operand t 0)) (it b k (operand t 1)) ga.0 gb.0),
          λ j. (e, tt),
        )
    good (tree.binary Starts a b) k t s w well is hold = λ y e holds.
        let s' = next p lists node a k s in
        let hb = each_left (FlowHolds G m) s' (made (W b k s')) [] (each_right (FlowHolds G m) s (made (W a k s)) (made (W b k s') ++ []) hold) in
        let ga = from_good a k t 0 s (sub_at t (tree.binary Starts a b) k s 0 is) (λ h. good a k (operand t 0) s 1 well.0 (sub_at t (tree.binary Starts a b) k s 0 is) h) (each_left (FlowHolds G m) s (made (W a k s)) (made (W b k s') ++ []) hold) in
        let gb = from_good b k t 1 s' (sub_at t (tree.binary Starts a b) k s 1 is) (λ h. good b k (operand t 1) s' 1 well.1 (sub_at t (tree.binary Starts a b) k s 1 is) h) hb in
        let va = value p here node a (operand t 0) in
        let vb = value p here node b (operand t 1) in (
          (steps (op t) (m.on y) (va ∷ vb ∷ clocked p here node k) _ e (two_same k va vb _ _ ga.1 gb.1) holds, every_join Good (it a k (operand t 0)) (it b k (operand t 1)) ga.0 gb.0),
          λ j. (e, tt),
        )
    good (tree.binary FollowedBy a b) k t s w well is hold = λ y e holds.
        let s' = next p lists node a k s in
        let s'' = next p lists node b k s' in
        let pre = flow_of p lists node (tree.unary Before b) k (Pre (place s' (W b k s'))) in
        let h' = each_right (FlowHolds G m) s (made (W a k s)) (made (W b k s') ++ (pre ∷ [])) hold in
        let ga = from_good a k t 0 s (sub_at t (tree.binary FollowedBy a b) k s 0 is) (λ h. good a k (operand t 0) s 1 well.0 (sub_at t (tree.binary FollowedBy a b) k s 0 is) h) (each_left (FlowHolds G m) s (made (W a k s)) (made (W b k s') ++ (pre ∷ [])) hold) in
        let isp = sub_at t (tree.binary FollowedBy a b) k s 1 is in
        let gb = from_good b k (operand t 1) 0 s' (sub_at (operand t 1) (tree.unary Before b) k s' 0 isp) (λ h. good b k (operand (operand t 1) 0) s' 1 well.1 (sub_at (operand t 1) (tree.unary Before b) k s' 0 isp) h) (each_left (FlowHolds G m) s' (made (W b k s')) (pre ∷ []) h') in
        let hp = (each_right (FlowHolds G m) s' (made (W b k s')) (pre ∷ []) h').0 in
        let z : s' + length (made (W b k s') ++ []) ≡ s'' + 0 = (let l = ap length (append-nil (made (W b k s'))) in omega (arith, l)) in
        let z' : s'' + 0 ≡ s'' = omega arith in
        let there : at_place (op (operand t 1)) ≡ m.on (s'' + 0) = operand_there t 1 (tree.unary Before b) k s' isp ∙ ap m.on z in
        let va = value p here node a (operand t 0) in
        let vp = op (operand t 1) in (
          (
            steps (op t) (m.on y) (va ∷ vp ∷ clocked p here node k) _ e (two_same k va vp _ _ ga.1 there) holds,
            (steps vp (m.on s'') (clocked p here node k) _ (there ∙ ap m.on z') (clocked_same k) hp, every_join Good (it a k (operand t 0)) (it b k (operand (operand t 1) 0)) ga.0 gb.0),
          ),
          λ j. (e, tt),
        )
    good (tree.choice c a b) k t s w well is hold = λ y e holds.
        let s' = next p lists node c k s in
        let s'' = next p lists node a k s' in
        let h' = each_right (FlowHolds G m) s (made (W c k s)) (made (W a k s') ++ (made (W b k s'') ++ [])) hold in
        let h'' = each_right (FlowHolds G m) s' (made (W a k s')) (made (W b k s'') ++ []) h' in
        let gc = from_good c k t 0 s (sub_at t (tree.choice c a b) k s 0 is) (λ h. good c k (operand t 0) s 1 well.0 (sub_at t (tree.choice c a b) k s 0 is) h) (each_left (FlowHolds G m) s (made (W c k s)) (made (W a k s') ++ (made (W b k s'') ++ [])) hold) in
        let ga = from_good a k t 1 s' (sub_at t (tree.choice c a b) k s 1 is) (λ h. good a k (operand t 1) s' 1 well.1 (sub_at t (tree.choice c a b) k s 1 is) h) (each_left (FlowHolds G m) s' (made (W a k s')) (made (W b k s'') ++ []) h') in
        let gb = from_good b k t 2 s'' (sub_at t (tree.choice c a b) k s 2 is) (λ h. good b k (operand t 2) s'' 1 well.2 (sub_at t (tree.choice c a b) k s 2 is) h) (each_left (FlowHolds G m) s'' (made (W b k s'')) [] h'') in
        let vc = value p here node c (operand t 0) in
        let va = value p here node a (operand t 1) in
        let vb = value p here node b (operand t 2) in (
          (
            steps (op t) (m.on y) (vc ∷ va ∷ vb ∷ clocked p here node k) _ e (three_same k vc va vb _ _ _ gc.1 ga.1 gb.1) holds,
            every_join Good (it c k (operand t 0)) (it a k (operand t 1) ++ it b k (operand t 2)) gc.0 (every_join Good (it a k (operand t 1)) (it b k (operand t 2)) ga.0 gb.0),
          ),
          λ j. (e, tt),
        )
    good (tree.when a c) k t s w well is hold = λ y e holds.
        let kc = clock_of node c.variable in
        let u = operand t 0 in
        let ga = from_good a kc t 0 s (sub_at t (tree.when a c) k s 0 is) (λ h. good a kc (operand t 0) s 1 well.1 (sub_at t (tree.when a c) k s 0 is) h) (each_left (FlowHolds G m) s (made (W a kc s)) [] hold) in
        ((steps (op t) (m.on y) (value p here node a u ∷ clocked p here node (Some c)) _ e (one_same (Some c) (value p here node a u) _ ga.1) holds, ga.0), λ j. (e, tt))
    good (tree.current x) k t s w well is hold = λ y e holds.
        ((steps (op t) (m.on y) (variable here.path x ∷ clocked p here node k) _ e (one_same k (variable here.path x) _ (variable_spot x)) holds, tt), λ j. (e, tt))
    good (tree.merge c ps all) k t s w well is hold =
        let cp = variable_place p lists node c in
        let root = λ (xs : List ℕ). flow_of p lists node (tree.merge c ps all) k (Merge cp xs) in
        let vc = variable here.path c in
        let vs = values p here node all t 0 in
        let g = good_branches c ps all t 0 s (λ xs. leaf (root xs)) well.1 (λ j. let z : 0 + j ≡ j = omega arith in ap (λ n. SpotOf (operand t n)) z ∙ sub_at t (tree.merge c ps all) k s j is) hold in
        subst (RootGood (tree.merge c ps all) k t w) (sym g.4)
        (λ y e holds. ((steps (op t) (m.on y) (vc ∷ (vs ++ clocked p here node k)) _ e (many_same k vc vs _ _ (variable_spot c) g.2) holds, g.1), λ j. (e, tt)))
    good (tree.call f all) k t s w well is hold =
        let b = arguments_end p lists node all k s in
        let rest = λ (xs : List ℕ). instance p lists f (clock_place node k) xs in
        let g = good_all all k t 0 s rest well.1 (λ j. let z : 0 + j ≡ j = omega arith in ap (λ n. SpotOf (operand t n)) z ∙ sub_at t (tree.call f all) k s j is) hold in
        let i = instance_good f k t g.0 b w (values p here node all t 0) (subst (λ n. CallIs p node Below f n w) (sym g.1) well.0) (find_call t f all k s is) g.3 g.4 in
        subst (RootGood (tree.call f all) k t w) (sym g.5) ((i.0, g.2), i.1)

    pub good_all : (all : Trees) (k : Option Condition) (t : Position) (r s : ℕ) (rest : List ℕ → Walking) → AllWell p node Below all → ((j : ℕ) → SpotOf (operand t (r + j)) ≡ argument_spot p lists node all k s j) → H s (walk_all p lists node all k rest s).inner
        → (xs : List ℕ) × (length xs ≡ length (trees_in all)) × Every Good (items_in p here node all k t r) × (map at_place (values p here node all t r) ≡ map m.on xs) × H (arguments_end p lists node all k s) (rest xs (arguments_end p lists node all k s)).inner × ((walk_all p lists node all k rest s).root ≡ (rest xs (arguments_end p lists node all k s)).root)
    good_all tree.none k t r s rest well is hold = ([], refl, tt, refl, hold, refl)
    good_all (tree.more a all) k t r s rest well is hold =
        let s' = next p lists node a k s in
        let x = place s (W a k s) in
        let rest' = λ (xs : List ℕ). rest (x ∷ xs) in
        let inner = (walk_all p lists node all k rest' s').inner in
        let z : r ≡ r + 0 = omega arith in
        let ga = from_good a k t r s (ap (λ n. SpotOf (operand t n)) z ∙ is 0) (λ h. good a k (operand t r) s 1 well.0 (ap (λ n. SpotOf (operand t n)) z ∙ is 0) h) (each_left (FlowHolds G m) s (made (W a k s)) inner hold) in
        let g = good_all all k t (suc r) s' rest' well.1 (λ j. let y : suc r + j ≡ r + suc j = omega arith in ap (λ n. SpotOf (operand t n)) y ∙ is (suc j)) (each_right (FlowHolds G m) s (made (W a k s)) inner hold) in
        (x ∷ g.0, ap suc g.1, every_join Good (it a k (operand t r)) (items_in p here node all k t (suc r)) ga.0 g.2, ap (λ n. n ∷ map at_place (values p here node all t (suc r))) ga.1 ∙ ap (λ l. m.on x ∷ l) g.3, g.4, g.5)

    pub good_branches : (c : List ℕ) (ps : List Pattern) (all : Trees) (t : Position) (r s : ℕ) (rest : List ℕ → Walking) → AllWell p node Below all → ((j : ℕ) → SpotOf (operand t (r + j)) ≡ branch_spot p lists node c ps all s j) → H s (walk_branches p lists node c ps all rest s).inner
        → (xs : List ℕ) × Every Good (branch_items p here node c ps all t r) × (map at_place (values p here node all t r) ≡ map m.on xs) × (end : ℕ) × ((walk_branches p lists node c ps all rest s).root ≡ (rest xs end).root)
    good_branches c ps tree.none t r s rest well is hold = ([], tt, refl, s, refl)
    good_branches c ps (tree.more a all) t r s rest well is hold =
        let k = condition c (first_pattern ps) in
        let qs = next_patterns ps in
        let s' = next p lists node a k s in
        let x = place s (W a k s) in
        let rest' = λ (xs : List ℕ). rest (x ∷ xs) in
        let inner = (walk_branches p lists node c qs all rest' s').inner in
        let z : r ≡ r + 0 = omega arith in
        let ga = from_good a k t r s (ap (λ n. SpotOf (operand t n)) z ∙ is 0) (λ h. good a k (operand t r) s 1 well.0 (ap (λ n. SpotOf (operand t n)) z ∙ is 0) h) (each_left (FlowHolds G m) s (made (W a k s)) inner hold) in
        let g = good_branches c qs all t (suc r) s' rest' well.1 (λ j. let y : suc r + j ≡ r + suc j = omega arith in ap (λ n. SpotOf (operand t n)) y ∙ is (suc j)) (each_right (FlowHolds G m) s (made (W a k s)) inner hold) in
        (x ∷ g.0, every_join Good (it a k (operand t r)) (branch_items p here node c qs all t (suc r)) ga.0 g.1, ap (λ n. n ∷ map at_place (values p here node all t (suc r))) ga.1 ∙ ap (λ l. m.on x ∷ l) g.2, g.3, g.4)
