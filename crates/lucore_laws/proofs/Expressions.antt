-- Where all items of an expression hold, the flows of its walk are occurrences.
use Rattle.std.proofs.Common.{◌≡◌, ℕ, zero, suc, ◌+◌, ◌<◌, List, [], ◌∷◌, ◌++◌, length, map, Option, Some, None, refl, sym, ap, ◌∙◌, subst, arith}
use Rattle.std.specs.Prelude.{slice_get, slice_index, pos}
use Rattle.std.proofs.lemmas.List.{length-map}
use Rattle.lutree.specs.declared.expr.Pattern.{Pattern}
use Rattle.lutree.specs.declared.expr.Condition.{Condition}
use Rattle.lutree.specs.declared.expr.Prefix.TheVariants.{Data as Data1, Pre as Before}
use Rattle.lutree.specs.declared.expr.Infix.TheVariants.{Data as Data2, Arrow as Starts, FollowedBy}
use Rattle.lutree.specs.Tree.{Tree, Trees, list_of as trees_in, EquationTree, NodeTree, ProgramTree}
use Rattle.lutree.specs.Tree as tree
use Rattle.luflow.specs.declared.data.Datum.TheVariants.{Int, Bool as Truth, Name}
use Rattle.luflow.specs.declared.form.Flow.{Flow}
use Rattle.luflow.specs.declared.form.Form.TheVariants.{Constant, Unary, Binary, If, Pre, Arrow, When, Current, Merge}
use Rattle.lusource.specs.Names.{variables_of, place_of, clock_of, name_at, outputs_in, output_name, AreDistinct}
use Rattle.lustat_rules.specs.Scope.{node_called}
use Rattle.lusource.specs.Source.{condition, first_pattern, next_patterns}
use Rattle.lucore_laws.specs.Layout.{node_owners, Walking, leaf, after, list_of, inputs_in, instance, moved, clock_place, flow_of, variable_place, walk, walk_all, walk_branches}
use Rattle.lucore_laws.proofs.Each.{each_shift}
use Rattle.lucore_laws.proofs.Names.{place_in}
use Rattle.lucore_laws.proofs.Well.{Known, IsWell, AllWell, CallIs}
use Rattle.lucore_laws.proofs.Spots.{place_named}
use Rattle.lucore_laws.proofs.ListToSource.{output_place, output_there}
use Rattle.lucore_laws.specs.Reads.{Position, Occurrence, Instance, Item, operand, if_there, clocked, output, value, values, items, items_in, branch_items}
use Rattle.lucore_laws.specs.Owners.{owner}
use Rattle.lucore_laws.proofs.Owning.{Belongs}
use Rattle.lucore_laws.specs.Reads.Occurrence.{variable, operator}
use Rattle.lucore_laws.specs.Reads.Item.{reading, calling}
use Rattle.lucore_laws.proofs.Graph.{Every, every_imp, every_left, every_right, Model, clock_targets, moved_model, Solves, solved_instance}
use Rattle.lucore_laws.proofs.Makes.{Has, RootMakes, RootOwn, makes_leaf, makes_after, makes_one, makes_two}

-- an item is one of a relation, and of some instances
abbrev pub ItemHolds : (Occurrence → Occurrence → Type 0) → (Instance → Type 0) → Item → Type 0
ItemHolds G I (reading x all) = Every (G x) all
ItemHolds G I (calling a) = I a

-- the list of an instance's node, with occurrences as vertices
abbrev pub Gives : (Occurrence → Occurrence → Type 0) → ProgramTree → List (List Flow) → Instance → Type 0
Gives G p lists a =
    (n : NodeTree) → node_called p a.node ≡ Some n
    → (l : List Occurrence) × (length l ≡ length (list_of p lists a.node)) × Every (Belongs a.path) l × (a.path ≡ [] → map (owner n) l ≡ node_owners p lists n) × ((m : Model Occurrence) → Has m 0 l → m.base ≡ a.clock → ((r : ℕ) → r < length n.inputs → m.given r ≡ if_there (slice_get a.arguments r))
    → Solves G m (list_of p lists a.node) × ((x : List ℕ) → place_of (variables_of n) x < length (variables_of n) → m.on (place_of (variables_of n) x) ≡ variable a.path x))

arguments_at : (on : ℕ → Occurrence) (xs : List ℕ) (arguments : List Occurrence) (r : ℕ) → map on xs ≡ arguments → r < length xs → on (slice_index xs r) ∷ [] ≡ if_there (slice_get arguments r)
arguments_at on xs arguments r e lt = go xs r lt ∙ ap (λ l. if_there (slice_get l r)) e
  where
    go : (xs : List ℕ) (r : ℕ) → r < length xs → on (slice_index xs r) ∷ [] ≡ if_there (slice_get (map on xs) r)
    go [] r lt = absurd (omega (arith, lt))
    go (x ∷ xs) zero lt = refl
    go (x ∷ xs) (suc r) lt = go xs r (omega (arith, lt))

module _ (G : Occurrence → Occurrence → Type 0) (I : Instance → Type 0) (p : ProgramTree) (lists : List (List Flow)) (node : NodeTree) (Below : List ℕ → Type 0) (here : Instance)
    (apart : (f : List ℕ) (n : NodeTree) → node_called p f ≡ Some n → AreDistinct (variables_of n)) (gives : (a : Instance) → Below a.node → I a → Gives G p lists a) where
  abbrev pub KnownClock : Option Condition → Type 0
  KnownClock None = Unit {0}
  KnownClock (Some c) = Known p node Below c.variable

  -- the model has the instance's own variables and clock
  abbrev pub Agree : Model Occurrence → Type 0
  Agree m =
      (m.base ≡ here.clock) × ((x : List ℕ) → Known p node Below x → m.on (variable_place p lists node x) ≡ variable here.path x)

  abbrev pub Holds : Item → Type 0
  Holds = ItemHolds G I

  pub clock_agree : (m : Model Occurrence) (k : Option Condition) → KnownClock k → Agree m → clocked p here node k ≡ clock_targets m (clock_place node k)
  clock_agree m None known agree = sym agree.0
  clock_agree m (Some c) known agree = ap (λ v. v ∷ []) (sym (agree.1 c.variable known))

  abbrev K : Option Condition → List Occurrence
  K k = clocked p here node k

  abbrev out : Tree → Position → ℕ → Occurrence
  out e t j = output p here node e t j

  abbrev T : Model Occurrence → Option Condition → List Occurrence
  T m k = clock_targets m (clock_place node k)

  none_read : (m : Model Occurrence) (k : Option Condition) (v : Occurrence) → KnownClock k → Agree m → Every (G v) (K k) → Every (G v) (T m k)
  none_read m k v known agree h = subst (Every (G v)) (clock_agree m k known agree) h

  one_read : (m : Model Occurrence) (k : Option Condition) (v a : Occurrence) (x : ℕ) → KnownClock k → Agree m → m.on x ≡ a → Every (G v) (a ∷ K k) → Every (G v) (m.on x ∷ T m k)
  one_read m k v a x known agree e h = (subst (G v) (sym e) h.0, none_read m k v known agree h.1)

  two_read : (m : Model Occurrence) (k : Option Condition) (v a b : Occurrence) (x y : ℕ) → KnownClock k → Agree m → m.on x ≡ a → m.on y ≡ b → Every (G v) (a ∷ b ∷ K k) → Every (G v) (m.on x ∷ m.on y ∷ T m k)
  two_read m k v a b x y known agree e e' h = (subst (G v) (sym e) h.0, one_read m k v b y known agree e' h.1)

  three_read : (m : Model Occurrence) (k : Option Condition) (v a b c : Occurrence) (x y z : ℕ) → KnownClock k → Agree m → m.on x ≡ a → m.on y ≡ b → m.on z ≡ c → Every (G v) (a ∷ b ∷ c ∷ K k) → Every (G v) (m.on x ∷ m.on y ∷ m.on z ∷ T m k)
  three_read m k v a b c x y z known agree e e' e'' h = (subst (G v) (sym e) h.0, two_read m k v b c y z known agree e' e'' h.1)

  many_read : (m : Model Occurrence) (k : Option Condition) (v a : Occurrence) (vs : List Occurrence) (x : ℕ) (xs : List ℕ) → KnownClock k → Agree m → m.on x ≡ a → map m.on xs ≡ vs → Every (G v) (a ∷ (vs ++ K k)) → Every (G v) (m.on x ∷ (map m.on xs ++ T m k))
  many_read m k v a vs x xs known agree e e' h =
      (subst (G v) (sym e) h.0, subst (λ l. Every (G v) (l ++ T m k)) (sym e') (subst (λ l. Every (G v) (vs ++ l)) (clock_agree m k known agree) h.1))

  makes_instance : (Own : Occurrence → Type 0) (A : Model Occurrence → Type 0) (f : List ℕ) (k : Option Condition) (xs : List ℕ) (w : ℕ) (spot : Position) (arguments : List Occurrence) → ((m : Model Occurrence) → A m → Agree m × (map m.on xs ≡ arguments)) → KnownClock k → CallIs p node Below f (length xs) w → ((x : Occurrence) → Belongs (spot ∷ here.path) x → Own x)
      → I (record { path = spot ∷ here.path; node = f; clock = K k; arguments = arguments }) → RootMakes G Own A (instance p lists f (clock_place node k) xs) w (λ j. variable (spot ∷ here.path) (output_name p f j))
  makes_instance Own A f k xs w spot arguments agree known is mine good s =
      let a : Instance = record { path = spot ∷ here.path; node = f; clock = K k; arguments = arguments } in
      let g = gives a is.below good is.callee is.found in
      let fl = list_of p lists f in
      let ck = clock_place node k in (
        g.0,
        (let e = g.1 in omega (arith, length-map fl (moved s ck xs))),
        every_imp (Belongs (spot ∷ here.path)) Own g.0 mine g.2,
        λ m am h.
            let z : s ≡ s + 0 = omega arith in
            let ag = agree m am in
            let mm = moved_model m s ck xs in
            let r = g.4 mm (each_shift (λ x t. m.on x ≡ t) s 0 g.0 (subst (λ n. Has m n g.0) z h)) (sym (clock_agree m k known ag.0))
            (λ r lt. let e = is.arguments_are in arguments_at m.on xs arguments r ag.1 (omega (arith, lt, e))) in (
              solved_instance G m s ck xs fl r.0,
              λ j lt.
                  let lo : j < length is.callee.outputs = (let e = is.outputs_are in omega arith) in
                  let here' = output_place p f is.callee j is.found (apart f is.callee is.found) lo in
                  let y : s + inputs_in (node_called p f) + j ≡ s + (inputs_in (node_called p f) + j) = omega arith in
                  let name : place_named (node_called p f) (output_name p f j) ≡ place_of (variables_of is.callee) (output_name p f j) = ap (λ o. place_named o (output_name p f j)) is.found in
                  let there = subst (λ o. slice_get (variables_of is.callee) (length is.callee.inputs + j) ≡ Some (name_at (outputs_in o) j)) (sym is.found) (output_there is.callee j lo) in
                  ap m.on y ∙ ap (λ n. m.on (s + n)) (sym here' ∙ name) ∙ r.1 (output_name p f j) (place_in (variables_of is.callee) (output_name p f j) (length is.callee.inputs + j) there),
            ),
      )

  module _ (clock_known : (x : List ℕ) → KnownClock (clock_of node x)) (Own : Occurrence → Type 0) (n : ℕ) (own_operator : (t : Position) → t.equation ≡ n → Own (operator here.path t)) (own_instance : (t : Position) → t.equation ≡ n → (x : Occurrence) → Belongs (t ∷ here.path) x → Own x) where
    own_all : (all : Trees) (k : Option Condition) (rest : List ℕ → Walking) (v : Occurrence) → ((xs : List ℕ) (s : ℕ) → RootOwn G Own (rest xs s).root v) → (s : ℕ) → RootOwn G Own (walk_all p lists node all k rest s).root v
    own_all tree.none k rest v h s = h [] s
    own_all (tree.more a all) k rest v h s = own_all all k _ v (λ xs s. h _ s) _

    own_branches : (c : List ℕ) (ps : List Pattern) (all : Trees) (rest : List ℕ → Walking) (v : Occurrence) → ((xs : List ℕ) (s : ℕ) → RootOwn G Own (rest xs s).root v) → (s : ℕ) → RootOwn G Own (walk_branches p lists node c ps all rest s).root v
    own_branches c ps tree.none rest v h s = h [] s
    own_branches c ps (tree.more a all) rest v h s = own_branches c (next_patterns ps) all _ v (λ xs s. h _ s) _

    -- an expression's own root is an operator there
    root_own : (e : Tree) (k : Option Condition) (t : Position) → t.equation ≡ n → (s : ℕ) → RootOwn G Own (walk p lists node e k s).root (value p here node e t)
    root_own (tree.number a) k t te s = own_operator t te
    root_own (tree.truth b) k t te s = own_operator t te
    root_own (tree.label x) k t te s = own_operator t te
    root_own (tree.variable x) k t te s = tt
    root_own (tree.unary (Data1 op) a) k t te s = own_operator t te
    root_own (tree.unary Before a) k t te s = own_operator t te
    root_own (tree.binary (Data2 op) a b) k t te s = own_operator t te
    root_own (tree.binary Starts a b) k t te s = own_operator t te
    root_own (tree.binary FollowedBy a b) k t te s = own_operator t te
    root_own (tree.choice c a b) k t te s = own_operator t te
    root_own (tree.when a c) k t te s = own_operator t te
    root_own (tree.current x) k t te s = own_operator t te
    root_own (tree.merge c ps all) k t te s = own_branches c ps all _ (value p here node (tree.merge c ps all) t) (λ xs s. own_operator t te) s
    root_own (tree.call f all) k t te s = own_all all k _ (value p here node (tree.call f all) t) (λ xs s. tt) s

    mutual
      pub makes : (A : Model Occurrence → Type 0) → ((m : Model Occurrence) → A m → Agree m) → (e : Tree) (k : Option Condition) (spot : Position) (w : ℕ) → spot.equation ≡ n → KnownClock k → IsWell p node Below e w → Every Holds (items p here node e k spot) → RootMakes G Own A (walk p lists node e k) w (out e spot)
      makes A ag (tree.number n) k t w te known well h = makes_leaf G Own A (flow_of p lists node (tree.number n) k (Constant (Int (pos n)))) w (out (tree.number n) t) (λ m a j. none_read m k (operator here.path t) known (ag m a) h.0)
      makes A ag (tree.truth b) k t w te known well h = makes_leaf G Own A (flow_of p lists node (tree.truth b) k (Constant (Truth b))) w (out (tree.truth b) t) (λ m a j. none_read m k (operator here.path t) known (ag m a) h.0)
      makes A ag (tree.label x) k t w te known well h = makes_leaf G Own A (flow_of p lists node (tree.label x) k (Constant (Name x.number))) w (out (tree.label x) t) (λ m a j. none_read m k (operator here.path t) known (ag m a) h.0)
      makes A ag (tree.variable x) k t w te known well h = λ s. (
        [],
        refl,
        tt,
        λ m a has.
            (tt, λ j lt. let e = well.0 in let z : variable_place p lists node x + j ≡ variable_place p lists node x = omega arith in ap m.on z ∙ (ag m a).1 x well.1),
      )
      makes A ag (tree.unary (Data1 op) a) k t w te known well h =
          makes_one G Own A (walk p lists node a k) (λ x. flow_of p lists node (tree.unary (Data1 op) a) k (Unary op x)) w (out a (operand t 0)) (out (tree.unary (Data1 op) a) t) (root_own a k (operand t 0) te) (makes A ag a k (operand t 0) 1 te known well h.1)
          (λ x m am e j. one_read m k (operator here.path t) (value p here node a (operand t 0)) x known (ag m am) e h.0)
      makes A ag (tree.unary Before a) k t w te known well h =
          makes_one G Own A (walk p lists node a k) (λ x. flow_of p lists node (tree.unary Before a) k (Pre x)) w (out a (operand t 0)) (out (tree.unary Before a) t) (root_own a k (operand t 0) te) (makes A ag a k (operand t 0) 1 te known well h.1)
          (λ x m am e j. none_read m k (operator here.path t) known (ag m am) h.0)
      makes A ag (tree.binary (Data2 op) a b) k t w te known well h =
          makes_two G Own A (walk p lists node a k) (walk p lists node b k) (λ x y. flow_of p lists node (tree.binary (Data2 op) a b) k (Binary op x y)) w (out a (operand t 0)) (out b (operand t 1)) (out (tree.binary (Data2 op) a b) t) (root_own a k (operand t 0) te) (root_own b k (operand t 1) te)
          (makes A ag a k (operand t 0) 1 te known well.0 (every_left Holds (items p here node a k (operand t 0)) (items p here node b k (operand t 1)) h.1)) (makes A ag b k (operand t 1) 1 te known well.1 (every_right Holds (items p here node a k (operand t 0)) (items p here node b k (operand t 1)) h.1))
          (λ x y m am e e' j. two_read m k (operator here.path t) (value p here node a (operand t 0)) (value p here node b (operand t 1)) x y known (ag m am) e e' h.0)
      makes A ag (tree.binary Starts a b) k t w te known well h =
          makes_two G Own A (walk p lists node a k) (walk p lists node b k) (λ x y. flow_of p lists node (tree.binary Starts a b) k (Arrow x y)) w (out a (operand t 0)) (out b (operand t 1)) (out (tree.binary Starts a b) t) (root_own a k (operand t 0) te) (root_own b k (operand t 1) te)
          (makes A ag a k (operand t 0) 1 te known well.0 (every_left Holds (items p here node a k (operand t 0)) (items p here node b k (operand t 1)) h.1)) (makes A ag b k (operand t 1) 1 te known well.1 (every_right Holds (items p here node a k (operand t 0)) (items p here node b k (operand t 1)) h.1))
          (λ x y m am e e' j. two_read m k (operator here.path t) (value p here node a (operand t 0)) (value p here node b (operand t 1)) x y known (ag m am) e e' h.0)
      makes A ag (tree.binary FollowedBy a b) k t w te known well h =
          let pre = λ (y : ℕ). flow_of p lists node (tree.unary Before b) k (Pre y) in
          let root = λ (x z : ℕ). flow_of p lists node (tree.binary FollowedBy a b) k (Arrow x z) in
          let va = value p here node a (operand t 0) in
          let vb = value p here node b (operand (operand t 1) 0) in
          let vp = operator here.path (operand t 1) in
          let ia = items p here node a k (operand t 0) in
          let ib = items p here node b k (operand (operand t 1) 0) in
          makes_after G Own A (walk p lists node a k) (λ x. after (walk p lists node b k) (λ y. after (leaf (pre y)) (λ z. leaf (root x z)))) w (out a (operand t 0)) (out (tree.binary FollowedBy a b) t) (root_own a k (operand t 0) te)
          (makes A ag a k (operand t 0) 1 te known well.0 (every_left Holds ia ib h.1.1))
          (λ x. makes_after G Own (λ m. A m × (m.on x ≡ va)) (walk p lists node b k) (λ y. after (leaf (pre y)) (λ z. leaf (root x z))) w (out b (operand (operand t 1) 0)) (out (tree.binary FollowedBy a b) t) (root_own b k (operand (operand t 1) 0) te)
          (makes (λ m. A m × (m.on x ≡ va)) (λ m q. ag m q.0) b k (operand (operand t 1) 0) 1 te known well.1 (every_right Holds ia ib h.1.1))
          (λ y. makes_one G Own (λ m. (A m × (m.on x ≡ va)) × (m.on y ≡ vb)) (leaf (pre y)) (root x) w (λ j. vp) (out (tree.binary FollowedBy a b) t) (λ s. own_operator (operand t 1) te)
          (makes_leaf G Own (λ m. (A m × (m.on x ≡ va)) × (m.on y ≡ vb)) (pre y) 1 (λ j. vp) (λ m q j. none_read m k vp known (ag m q.0.0) h.1.0))
          (λ z m q e j. two_read m k (operator here.path t) va vp x z known (ag m q.0.0) q.0.1 e h.0)))
      makes A ag (tree.choice c a b) k t w te known well h =
          let root = λ (x y z : ℕ). flow_of p lists node (tree.choice c a b) k (If x y z) in
          let vc = value p here node c (operand t 0) in
          let ic = items p here node c k (operand t 0) in
          let ia = items p here node a k (operand t 1) in
          let ib = items p here node b k (operand t 2) in
          let hab = every_right Holds ic (ia ++ ib) h.1 in
          makes_after G Own A (walk p lists node c k) (λ x. after (walk p lists node a k) (λ y. after (walk p lists node b k) (λ z. leaf (root x y z)))) w (out c (operand t 0)) (out (tree.choice c a b) t) (root_own c k (operand t 0) te)
          (makes A ag c k (operand t 0) 1 te known well.0 (every_left Holds ic (ia ++ ib) h.1))
          (λ x. makes_two G Own (λ m. A m × (m.on x ≡ vc)) (walk p lists node a k) (walk p lists node b k) (root x) w (out a (operand t 1)) (out b (operand t 2)) (out (tree.choice c a b) t) (root_own a k (operand t 1) te) (root_own b k (operand t 2) te)
          (makes (λ m. A m × (m.on x ≡ vc)) (λ m q. ag m q.0) a k (operand t 1) 1 te known well.1 (every_left Holds ia ib hab))
          (makes (λ m. A m × (m.on x ≡ vc)) (λ m q. ag m q.0) b k (operand t 2) 1 te known well.2 (every_right Holds ia ib hab))
          (λ y z m q e e' j. three_read m k (operator here.path t) vc (value p here node a (operand t 1)) (value p here node b (operand t 2)) x y z known (ag m q.0) q.1 e e' h.0))
      makes A ag (tree.when a c) k t w te known well h =
          let kc = clock_of node c.variable in
          makes_one G Own A (walk p lists node a kc) (λ x. flow_of p lists node (tree.when a c) (Some c) (When x)) w (out a (operand t 0)) (out (tree.when a c) t) (root_own a kc (operand t 0) te) (makes A ag a kc (operand t 0) 1 te (clock_known c.variable) well.1 h.1)
          (λ x m am e j. one_read m (Some c) (operator here.path t) (value p here node a (operand t 0)) x well.0 (ag m am) e h.0)
      makes A ag (tree.current x) k t w te known well h =
          makes_leaf G Own A (flow_of p lists node (tree.current x) k (Current (variable_place p lists node x))) w (out (tree.current x) t)
          (λ m a j. one_read m k (operator here.path t) (variable here.path x) (variable_place p lists node x) known (ag m a) ((ag m a).1 x well) h.0)
      makes A ag (tree.merge c ps all) k t w te known well h =
          let cp = variable_place p lists node c in
          let root = λ (xs : List ℕ). flow_of p lists node (tree.merge c ps all) k (Merge cp xs) in
          makes_branches A ag c ps all t 0 w (λ xs. leaf (root xs)) (out (tree.merge c ps all) t) te well.0 well.1 h.1
          (λ B ba xs e. makes_leaf G Own B (root xs) w (out (tree.merge c ps all) t)
          (λ m b j. many_read m k (operator here.path t) (variable here.path c) (values p here node all t 0) cp xs known (ag m (ba m b)) ((ag m (ba m b)).1 c well.0) (e m b) h.0))
      makes A ag (tree.call f all) k t w te known well h =
          makes_all A ag all k t 0 w (λ xs. instance p lists f (clock_place node k) xs) (λ j. variable (t ∷ here.path) (output_name p f j)) te known well.1 h.1
          (λ B ba xs l e. makes_instance Own B f k xs w t (values p here node all t 0) (λ m b. (ag m (ba m b), e m b)) known (subst (λ n. CallIs p node Below f n w) (sym l) well.0) (own_instance t te) h.0)

      pub makes_all : (A : Model Occurrence → Type 0) → ((m : Model Occurrence) → A m → Agree m) → (all : Trees) (k : Option Condition) (spot : Position) (r w : ℕ) (rest : List ℕ → Walking) (val : ℕ → Occurrence) → spot.equation ≡ n → KnownClock k → AllWell p node Below all → Every Holds (items_in p here node all k spot r)
          → ((B : Model Occurrence → Type 0) → ((m : Model Occurrence) → B m → A m) → (xs : List ℕ) → length xs ≡ length (trees_in all) → ((m : Model Occurrence) → B m → map m.on xs ≡ values p here node all spot r) → RootMakes G Own B (rest xs) w val)
          → RootMakes G Own A (walk_all p lists node all k rest) w val
      makes_all A ag tree.none k t r w rest val te known well h then = then A (λ m a. a) [] refl (λ m a. refl)
      makes_all A ag (tree.more a all) k t r w rest val te known well h then =
          let ia = items p here node a k (operand t r) in
          let ir = items_in p here node all k t (suc r) in
          let va = value p here node a (operand t r) in
          makes_after G Own A (walk p lists node a k) (λ x. walk_all p lists node all k (λ xs. rest (x ∷ xs))) w (out a (operand t r)) val (root_own a k (operand t r) te) (makes A ag a k (operand t r) 1 te known well.0 (every_left Holds ia ir h))
          (λ x. makes_all (λ m. A m × (m.on x ≡ va)) (λ m q. ag m q.0) all k t (suc r) w (λ xs. rest (x ∷ xs)) val te known well.1 (every_right Holds ia ir h)
          (λ B ba xs l e. then B (λ m b. (ba m b).0) (x ∷ xs) (ap suc l) (λ m b. ap (λ y. y ∷ map m.on xs) (ba m b).1 ∙ ap (λ ys. va ∷ ys) (e m b))))

      pub makes_branches : (A : Model Occurrence → Type 0) → ((m : Model Occurrence) → A m → Agree m) → (c : List ℕ) (ps : List Pattern) (all : Trees) (spot : Position) (r w : ℕ) (rest : List ℕ → Walking) (val : ℕ → Occurrence) → spot.equation ≡ n → Known p node Below c → AllWell p node Below all → Every Holds (branch_items p here node c ps all spot r)
          → ((B : Model Occurrence → Type 0) → ((m : Model Occurrence) → B m → A m) → (xs : List ℕ) → ((m : Model Occurrence) → B m → map m.on xs ≡ values p here node all spot r) → RootMakes G Own B (rest xs) w val)
          → RootMakes G Own A (walk_branches p lists node c ps all rest) w val
      makes_branches A ag c ps tree.none t r w rest val te known well h then = then A (λ m a. a) [] (λ m a. refl)
      makes_branches A ag c ps (tree.more a all) t r w rest val te known well h then =
          let k = condition c (first_pattern ps) in
          let qs = next_patterns ps in
          let ia = items p here node a k (operand t r) in
          let ir = branch_items p here node c qs all t (suc r) in
          let va = value p here node a (operand t r) in
          makes_after G Own A (walk p lists node a k) (λ x. walk_branches p lists node c qs all (λ xs. rest (x ∷ xs))) w (out a (operand t r)) val (root_own a k (operand t r) te) (makes A ag a k (operand t r) 1 te known well.0 (every_left Holds ia ir h))
          (λ x. makes_branches (λ m. A m × (m.on x ≡ va)) (λ m q. ag m q.0) c qs all t (suc r) w (λ xs. rest (x ∷ xs)) val te known well.1 (every_right Holds ia ir h)
          (λ B ba xs e. then B (λ m b. (ba m b).0) (x ∷ xs) (λ m b. ap (λ y. y ∷ map m.on xs) (ba m b).1 ∙ ap (λ ys. va ∷ ys) (e m b))))
