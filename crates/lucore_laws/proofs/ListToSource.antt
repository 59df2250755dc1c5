-- A solution of a node's open list is a solution of the node.
use Rattle.std.proofs.Common.{◌≡◌, ℕ, zero, suc, ◌+◌, ◌<◌, List, [], ◌∷◌, ◌++◌, length, map, Option, Some, None, refl, sym, ap, ◌∙◌, subst, arith, append_assoc}
use Rattle.std.specs.Prelude.{slice_get, slice_index, pos, option_map}
use Rattle.std.proofs.lemmas.List.{append-nil, length-map}
use Rattle.std.proofs.lemmas.Option.{same_Some}
use Rattle.lutree.specs.declared.expr.Pattern.{Pattern}
use Rattle.lutree.specs.declared.expr.Condition.{Condition}
use Rattle.lutree.specs.declared.expr.Prefix.TheVariants.{Data as Data1, Pre as Before}
use Rattle.lutree.specs.declared.expr.Infix.TheVariants.{Data as Data2, Arrow as Starts, FollowedBy}
use Rattle.lutree.specs.Tree.{Tree, Trees, list_of as trees_in, DeclarationTree, EquationTree, NodeTree, ProgramTree}
use Rattle.lutree.specs.Tree as tree
use Rattle.luflow.specs.declared.data.Datum.TheVariants.{Int, Bool as Truth, Name}
use Rattle.luflow.specs.declared.form.Flow.{Flow}
use Rattle.luflow.specs.declared.form.Form.TheVariants.{Constant, Unary, Binary, If, Pre, Arrow, When, Current, Merge}
use Rattle.luflow.specs.Streams.{Stream, Ticks}
use Rattle.lusource.specs.Names.{variables_of, place_of, clock_of, name_at, output_name, outputs_in, AreDistinct}
use Rattle.lustat_rules.specs.Scope.{names_of, declarations_of, node_called}
use Rattle.lusource.specs.StreamOperators.{constant_stream, unary_stream, binary_stream, choice_stream, pre_stream, arrow_stream, when_stream, current_stream, merge_stream}
use Rattle.lusource.specs.Source.{Named, CallInstance, condition, first_pattern, next_patterns, ticks, calls, calls_in, value, values, branches, output, sites, sites_in, branch_sites}
use Rattle.lucore_laws.specs.Layout.{Root, Walking, root_flows, made, root_place, place, behind, leaf, after, list_of, inputs_in, instance, clock_place, flow_of, variable_place, walk, walk_all, walk_branches}
use Rattle.lucore_laws.specs.Layout.Root.{own, at}
use Rattle.lucore_laws.proofs.Each.{Each, each_left, each_right, each_join, mapped_at}
use Rattle.lucore_laws.proofs.Names.{get-front, get-behind, get-names, place_at}
use Rattle.lucore_laws.proofs.Open.{Model, clock_ticks, flow_stream, FlowHolds, Hold, Solves, root_stream, instance_solves}
use Rattle.lucore_laws.proofs.Spots.{Spot, spots_after, no_spots, spot_at, spots, spots_all, spots_branches, length-spots, length-sites, place_named, of_spot}
use Rattle.lucore_laws.proofs.Well.{IsWell, AllWell, CallIs}

-- the stream of a clock of a node
pub ticks_are : (node : NodeTree) (base : Ticks) (m : Model) (k : Option Condition) → clock_ticks base m.on (clock_place node k) ≡ ticks base (λ x. m.on (place_of (variables_of node) x)) k
ticks_are node base m None = refl
ticks_are node base m (Some c) = refl

-- the first stream of a right side is its value
pub output_value : (p : ProgramTree) (node : NodeTree) (base : Ticks) (var : Named) (inner : ℕ → Named) (e : Tree) (k : Option Condition) (i : ℕ) → output p node base var inner e k i 0 ≡ value p node base var inner e k i
output_value p node base var inner (tree.number n) k i = refl
output_value p node base var inner (tree.truth b) k i = refl
output_value p node base var inner (tree.label x) k i = refl
output_value p node base var inner (tree.variable x) k i = refl
output_value p node base var inner (tree.unary op a) k i = refl
output_value p node base var inner (tree.binary op a b) k i = refl
output_value p node base var inner (tree.choice c a b) k i = refl
output_value p node base var inner (tree.when a c) k i = refl
output_value p node base var inner (tree.current x) k i = refl
output_value p node base var inner (tree.merge c ps all) k i = refl
output_value p node base var inner (tree.call f all) k i = refl

pub name_there : (xs : List (List ℕ)) (j : ℕ) → j < length xs → slice_get xs j ≡ Some (name_at xs j)
name_there [] j lt = absurd (omega arith)
name_there (x ∷ xs) zero lt = refl
name_there (x ∷ xs) (suc j) lt = name_there xs j (omega arith)

-- the outputs of a node stand behind its inputs
pub output_there : (n : NodeTree) (j : ℕ) → j < length n.outputs → slice_get (variables_of n) (length n.inputs + j) ≡ Some (name_at (names_of n.outputs) j)
output_there n j lt =
    let l : length (names_of n.outputs) ≡ length n.outputs = length-map n.outputs (λ (d : DeclarationTree). d.name) in
    get-names (declarations_of n) (length n.inputs + j)
    ∙ ap (option_map (λ (d : DeclarationTree). d.name)) (get-behind n.inputs (n.outputs ++ n.locals) (length n.inputs) j refl ∙ get-front n.outputs n.locals j lt)
    ∙ sym (get-names n.outputs j)
    ∙ name_there (names_of n.outputs) j (omega arith)

pub output_place : (p : ProgramTree) (f : List ℕ) (n : NodeTree) (j : ℕ) → node_called p f ≡ Some n → AreDistinct (variables_of n) → j < length n.outputs → place_named (node_called p f) (output_name p f j) ≡ inputs_in (node_called p f) + j
output_place p f n j found d lt =
    subst (λ o. place_named o (name_at (outputs_in o) j) ≡ inputs_in o + j) (sym found)
    (place_at (variables_of n) (name_at (names_of n.outputs) j) (length n.inputs + j) d (output_there n j lt))

module _ (p : ProgramTree) (lists : List (List Flow)) (node : NodeTree) (Below : List ℕ → Type 0) (base : Ticks) (m : Model) (all_spots : List Spot) (apart : (f : List ℕ) (n : NodeTree) → node_called p f ≡ Some n → AreDistinct (variables_of n)) where
  abbrev pub var : Named
  var x = m.on (variable_place p lists node x)

  -- the instance of a call, as it stands in the list
  abbrev pub within : ℕ → Named
  within i x = of_spot (slice_get all_spots i) (λ spot. m.on (spot.at + place_named (node_called p spot.node) x))

  -- the call of this number has a solution of its node's list
  pub record Served (i : ℕ) (c : CallInstance) : Type 0 where
    pub spot : Spot
    pub there : slice_get all_spots i ≡ Some spot
    pub same : c.node ≡ spot.node
    pub callee : NodeTree
    pub found : node_called p c.node ≡ Some callee
    pub below : Below c.node
    pub given : ℕ → Stream
    pub given_are : (n : NodeTree) → node_called p c.node ≡ Some n → (r : ℕ) → r < length n.inputs → slice_get c.arguments r ≡ Some (given r)
    pub solves : Solves c.base (record { on = λ x. m.on (spot.at + x); given = given }) (list_of p lists c.node)

  abbrev pub Stand : ℕ → List Spot → Type 0
  Stand i xs = Each (λ j x. slice_get all_spots j ≡ Some x) i xs

  -- Where the instances stand and the inner flows hold, the root has these streams, and these calls are served.
  abbrev pub Means : Walking → (ℕ → List Spot) → ℕ → ℕ → (ℕ → Stream) → List CallInstance → Type 0
  Means w sp i width val found =
      (s : ℕ) → Stand i (sp s) → Hold base m s (w s).inner → ((j : ℕ) → j < width → root_stream base m (w s).root j ≡ val j) × Each Served i found

  means_leaf : (f : Flow) (i w : ℕ) (val : ℕ → Stream) → ((j : ℕ) → j < w → flow_stream base m f ≡ val j) → Means (leaf f) no_spots i w val []
  means_leaf f i w val h s stand hold = (h, tt)

  operand_at : (s : ℕ) (inner : List Flow) (root : Root) (v : Stream) → Hold base m s (inner ++ root_flows root) → root_stream base m root 0 ≡ v → m.on (root_place (s + length inner) root) ≡ v
  operand_at s inner (own f) v hold e = (each_right (FlowHolds base m) s inner (f ∷ []) hold).0 ∙ e
  operand_at s inner (at a) v hold e = let z : a ≡ a + 0 = omega arith in ap m.on z ∙ e

  means_after : (a : Walking) (rest : ℕ → Walking) (spa spr : ℕ → List Spot) (i na w : ℕ) (va val : ℕ → Stream) (A B C : List CallInstance)
      → ((s : ℕ) → length (spa s) ≡ na) → length A ≡ na → C ≡ A ++ B → Means a spa i 1 va A
      → ((x : ℕ) → m.on x ≡ va 0 → Means (rest x) spr (i + na) w val B) → Means (after a rest) (spots_after a spa spr) i w val C
  means_after a rest spa spr i na w va val A B C ls la joined first then s stand hold =
      let r = rest (place s (a s)) (behind s (a s)) in
      let h = each_left (FlowHolds base m) s (made (a s)) r.inner hold in
      let f = first s (each_left _ i (spa s) (spr (behind s (a s))) stand) (each_left (FlowHolds base m) s (a s).inner (root_flows (a s).root) h) in
      let x = operand_at s (a s).inner (a s).root (va 0) h (f.0 0 (omega arith)) in
      let stand' = subst (λ n. Stand (i + n) (spr (behind s (a s)))) (ls s) (each_right _ i (spa s) (spr (behind s (a s))) stand) in
      let t = then (place s (a s)) x (behind s (a s)) stand' (each_right (FlowHolds base m) s (made (a s)) r.inner hold) in
      (t.0, subst (Each Served i) (sym joined) (each_join Served i A B f.1 (subst (λ n. Each Served (i + n) B) (sym la) t.1)))

  -- an operator with one operand, and with two
  means_one : (a : Walking) (operator : ℕ → Flow) (spa : ℕ → List Spot) (i na w : ℕ) (va val : ℕ → Stream) (A : List CallInstance)
      → ((s : ℕ) → length (spa s) ≡ na) → length A ≡ na → Means a spa i 1 va A
      → ((x : ℕ) → m.on x ≡ va 0 → (j : ℕ) → flow_stream base m (operator x) ≡ val j) → Means (after a (λ x. leaf (operator x))) (spots_after a spa no_spots) i w val A
  means_one a operator spa i na w va val A ls la first h =
      means_after a (λ x. leaf (operator x)) spa no_spots i na w va val A [] A ls la (sym (append-nil A)) first (λ x e. means_leaf (operator x) (i + na) w val (λ j lt. h x e j))

  means_two : (a b : Walking) (operator : ℕ → ℕ → Flow) (spa spb : ℕ → List Spot) (i na nb w : ℕ) (va vb val : ℕ → Stream) (A B : List CallInstance)
      → ((s : ℕ) → length (spa s) ≡ na) → length A ≡ na → ((s : ℕ) → length (spb s) ≡ nb) → length B ≡ nb → Means a spa i 1 va A → Means b spb (i + na) 1 vb B
      → ((x y : ℕ) → m.on x ≡ va 0 → m.on y ≡ vb 0 → (j : ℕ) → flow_stream base m (operator x y) ≡ val j)
      → Means (after a (λ x. after b (λ y. leaf (operator x y)))) (spots_after a spa (spots_after b spb no_spots)) i w val (A ++ B)
  means_two a b operator spa spb i na nb w va vb val A B ls la ls' lb first second h =
      means_after a (λ x. after b (λ y. leaf (operator x y))) spa (spots_after b spb no_spots) i na w va val A B (A ++ B) ls la refl first
      (λ x e. means_one b (operator x) spb (i + na) nb w vb val B ls' lb second (λ y e' j. h x y e e' j))

  means_instance : (f : List ℕ) (k : Option Condition) (xs : List ℕ) (i w : ℕ) (arguments : List Stream) → CallIs p node Below f (length xs) w → map m.on xs ≡ arguments
      → Means (instance p lists f (clock_place node k) xs) (spot_at f) i w (λ j. within i (output_name p f j)) (record { node = f; base = ticks base var k; arguments = arguments } ∷ [])
  means_instance f k xs i w arguments is given s stand hold =
      let spot : Spot = record { node = f; at = s } in
      let solved = instance_solves base m s (clock_place node k) xs (list_of p lists f) hold in
      let solved' = subst (λ c. Solves c (record { on = λ x. m.on (s + x); given = λ r. m.on (slice_index xs r) }) (list_of p lists f)) (ticks_are node base m k) solved in (
        λ j lt.
            let here = output_place p f is.callee j is.found (apart f is.callee is.found) (let e = is.outputs_are in omega arith) in
            let z : s + inputs_in (node_called p f) + j ≡ s + (inputs_in (node_called p f) + j) = omega arith in
            ap m.on z ∙ ap (λ n. m.on (s + n)) (sym here) ∙ sym (ap (λ o. of_spot o (λ spot. m.on (spot.at + place_named (node_called p spot.node) (output_name p f j)))) stand.0),
        (
          record {
            spot = spot;
            there = stand.0;
            same = refl;
            callee = is.callee;
            found = is.found;
            below = is.below;
            given = λ r. m.on (slice_index xs r);
            given_are = λ n found r lt.
                let same : is.callee ≡ n = same_Some is.callee n (sym is.found ∙ found) in
                let l : length is.callee.inputs ≡ length n.inputs = ap (λ (n : NodeTree). length n.inputs) same in
                let e = is.arguments_are in
                ap (λ l. slice_get l r) (sym given) ∙ mapped_at m.on xs r (omega arith);
            solves = solved';
          },
          tt,
        ),
      )

  abbrev K : Option Condition → Ticks
  K k = ticks base var k

  abbrev val : Tree → Option Condition → ℕ → Stream
  val e k i = value p node base var within e k i

  is_value : (e : Tree) (k : Option Condition) (i x : ℕ) → m.on x ≡ output p node base var within e k i 0 → m.on x ≡ val e k i
  is_value e k i x h = h ∙ output_value p node base var within e k i

  mutual
    pub means : (e : Tree) (k : Option Condition) (i w : ℕ) → IsWell p node Below e w → Means (walk p lists node e k) (spots p lists node e k) i w (output p node base var within e k i) (sites p node base var within e k i)
    means (tree.number n) k i w well =
        means_leaf (flow_of p lists node (tree.number n) k (Constant (Int (pos n)))) i w (λ j. val (tree.number n) k i) (λ j lt. ap (constant_stream (Int (pos n))) (ticks_are node base m k))
    means (tree.truth b) k i w well =
        means_leaf (flow_of p lists node (tree.truth b) k (Constant (Truth b))) i w (λ j. val (tree.truth b) k i) (λ j lt. ap (constant_stream (Truth b)) (ticks_are node base m k))
    means (tree.label x) k i w well =
        means_leaf (flow_of p lists node (tree.label x) k (Constant (Name x.number))) i w (λ j. val (tree.label x) k i) (λ j lt. ap (constant_stream (Name x.number)) (ticks_are node base m k))
    means (tree.variable x) k i w well = λ s stand hold.
        (λ j lt. let e = well.0 in let z : variable_place p lists node x + j ≡ variable_place p lists node x = omega arith in ap m.on z, tt)
    means (tree.unary (Data1 op) a) k i w well =
        means_one (walk p lists node a k) (λ x. flow_of p lists node (tree.unary (Data1 op) a) k (Unary op x)) (spots p lists node a k) i (calls a) w (output p node base var within a k i) (λ j. val (tree.unary (Data1 op) a) k i) (sites p node base var within a k i)
        (length-spots p lists node a k) (length-sites p node base var within a k i) (means a k i 1 well)
        (λ x e j. ap (λ c. unary_stream op c (m.on x)) (ticks_are node base m k) ∙ ap (unary_stream op (K k)) (is_value a k i x e))
    means (tree.unary Before a) k i w well =
        means_one (walk p lists node a k) (λ x. flow_of p lists node (tree.unary Before a) k (Pre x)) (spots p lists node a k) i (calls a) w (output p node base var within a k i) (λ j. val (tree.unary Before a) k i) (sites p node base var within a k i)
        (length-spots p lists node a k) (length-sites p node base var within a k i) (means a k i 1 well)
        (λ x e j. ap (λ c. pre_stream c (m.on x)) (ticks_are node base m k) ∙ ap (pre_stream (K k)) (is_value a k i x e))
    means (tree.binary (Data2 op) a b) k i w well =
        means_two (walk p lists node a k) (walk p lists node b k) (λ x y. flow_of p lists node (tree.binary (Data2 op) a b) k (Binary op x y)) (spots p lists node a k) (spots p lists node b k) i (calls a) (calls b) w
        (output p node base var within a k i) (output p node base var within b k (i + calls a)) (λ j. val (tree.binary (Data2 op) a b) k i) (sites p node base var within a k i) (sites p node base var within b k (i + calls a))
        (length-spots p lists node a k) (length-sites p node base var within a k i) (length-spots p lists node b k) (length-sites p node base var within b k (i + calls a)) (means a k i 1 well.0) (means b k (i + calls a) 1 well.1)
        (λ x y e e' j. ap (λ c. binary_stream op c (m.on x) (m.on y)) (ticks_are node base m k) ∙ ap (λ u. binary_stream op (K k) u (m.on y)) (is_value a k i x e) ∙ ap (binary_stream op (K k) (val a k i)) (is_value b k (i + calls a) y e'))
    means (tree.binary Starts a b) k i w well =
        means_two (walk p lists node a k) (walk p lists node b k) (λ x y. flow_of p lists node (tree.binary Starts a b) k (Arrow x y)) (spots p lists node a k) (spots p lists node b k) i (calls a) (calls b) w
        (output p node base var within a k i) (output p node base var within b k (i + calls a)) (λ j. val (tree.binary Starts a b) k i) (sites p node base var within a k i) (sites p node base var within b k (i + calls a))
        (length-spots p lists node a k) (length-sites p node base var within a k i) (length-spots p lists node b k) (length-sites p node base var within b k (i + calls a)) (means a k i 1 well.0) (means b k (i + calls a) 1 well.1)
        (λ x y e e' j. ap (λ c. arrow_stream c (m.on x) (m.on y)) (ticks_are node base m k) ∙ ap (λ u. arrow_stream (K k) u (m.on y)) (is_value a k i x e) ∙ ap (arrow_stream (K k) (val a k i)) (is_value b k (i + calls a) y e'))
    means (tree.binary FollowedBy a b) k i w well =
        means_after (walk p lists node a k) (λ x. after (walk p lists node b k) (λ y. after (leaf (flow_of p lists node (tree.unary Before b) k (Pre y))) (λ z. leaf (flow_of p lists node (tree.binary FollowedBy a b) k (Arrow x z))))) (spots p lists node a k) (spots_after (walk p lists node b k) (spots p lists node b k) no_spots) i (calls a) w
        (output p node base var within a k i) (λ j. val (tree.binary FollowedBy a b) k i) (sites p node base var within a k i) (sites p node base var within b k (i + calls a)) (sites p node base var within (tree.binary FollowedBy a b) k i)
        (length-spots p lists node a k) (length-sites p node base var within a k i) refl (means a k i 1 well.0)
        (λ x e.
        means_after (walk p lists node b k) (λ y. after (leaf (flow_of p lists node (tree.unary Before b) k (Pre y))) (λ z. leaf (flow_of p lists node (tree.binary FollowedBy a b) k (Arrow x z)))) (spots p lists node b k) no_spots (i + calls a) (calls b) w
        (output p node base var within b k (i + calls a)) (λ j. val (tree.binary FollowedBy a b) k i) (sites p node base var within b k (i + calls a)) [] (sites p node base var within b k (i + calls a))
        (length-spots p lists node b k) (length-sites p node base var within b k (i + calls a)) (sym (append-nil (sites p node base var within b k (i + calls a)))) (means b k (i + calls a) 1 well.1)
        (λ y e'.
        means_one (leaf (flow_of p lists node (tree.unary Before b) k (Pre y))) (λ z. flow_of p lists node (tree.binary FollowedBy a b) k (Arrow x z)) no_spots (i + calls a + calls b) 0 w
        (λ j. pre_stream (K k) (val b k (i + calls a))) (λ j. val (tree.binary FollowedBy a b) k i) [] (λ s. refl) refl
        (means_leaf (flow_of p lists node (tree.unary Before b) k (Pre y)) (i + calls a + calls b) 1 (λ j. pre_stream (K k) (val b k (i + calls a))) (λ j lt. ap (λ c. pre_stream c (m.on y)) (ticks_are node base m k) ∙ ap (pre_stream (K k)) (is_value b k (i + calls a) y e')))
        (λ z e'' j. ap (λ c. arrow_stream c (m.on x) (m.on z)) (ticks_are node base m k) ∙ ap (λ u. arrow_stream (K k) u (m.on z)) (is_value a k i x e) ∙ ap (arrow_stream (K k) (val a k i)) e'')))
    means (tree.choice c a b) k i w well =
        means_after (walk p lists node c k) (λ x. after (walk p lists node a k) (λ y. after (walk p lists node b k) (λ z. leaf (flow_of p lists node (tree.choice c a b) k (If x y z))))) (spots p lists node c k) (spots_after (walk p lists node a k) (spots p lists node a k) (spots_after (walk p lists node b k) (spots p lists node b k) no_spots)) i (calls c) w
        (output p node base var within c k i) (λ j. val (tree.choice c a b) k i) (sites p node base var within c k i) (sites p node base var within a k (i + calls c) ++ sites p node base var within b k (i + calls c + calls a)) (sites p node base var within (tree.choice c a b) k i)
        (length-spots p lists node c k) (length-sites p node base var within c k i) refl (means c k i 1 well.0)
        (λ x e.
        means_two (walk p lists node a k) (walk p lists node b k) (λ y z. flow_of p lists node (tree.choice c a b) k (If x y z)) (spots p lists node a k) (spots p lists node b k) (i + calls c) (calls a) (calls b) w
        (output p node base var within a k (i + calls c)) (output p node base var within b k (i + calls c + calls a)) (λ j. val (tree.choice c a b) k i) (sites p node base var within a k (i + calls c)) (sites p node base var within b k (i + calls c + calls a))
        (length-spots p lists node a k) (length-sites p node base var within a k (i + calls c)) (length-spots p lists node b k) (length-sites p node base var within b k (i + calls c + calls a)) (means a k (i + calls c) 1 well.1) (means b k (i + calls c + calls a) 1 well.2)
        (λ y z e' e'' j. ap (λ t. choice_stream t (m.on x) (m.on y) (m.on z)) (ticks_are node base m k) ∙ ap (λ u. choice_stream (K k) u (m.on y) (m.on z)) (is_value c k i x e) ∙ ap (λ u. choice_stream (K k) (val c k i) u (m.on z)) (is_value a k (i + calls c) y e') ∙ ap (choice_stream (K k) (val c k i) (val a k (i + calls c))) (is_value b k (i + calls c + calls a) z e'')))
    means (tree.when a c) k i w well =
        let kc = clock_of node c.variable in
        means_one (walk p lists node a kc) (λ x. flow_of p lists node (tree.when a c) (Some c) (When x)) (spots p lists node a kc) i (calls a) w (output p node base var within a kc i) (λ j. val (tree.when a c) k i) (sites p node base var within a kc i)
        (length-spots p lists node a kc) (length-sites p node base var within a kc i) (means a kc i 1 well.1)
        (λ x e j. ap (when_stream (K (Some c))) (is_value a kc i x e))
    means (tree.current x) k i w well =
        means_leaf (flow_of p lists node (tree.current x) k (Current (variable_place p lists node x))) i w (λ j. val (tree.current x) k i) (λ j lt. ap (λ c. current_stream c (var x)) (ticks_are node base m k))
    means (tree.merge c ps all) k i w well =
        let root = λ (xs : List ℕ). flow_of p lists node (tree.merge c ps all) k (Merge (variable_place p lists node c) xs) in
        let C = branch_sites p node base var within c ps all i in
        means_branches c ps all i w (λ xs. leaf (root xs)) no_spots (λ j. val (tree.merge c ps all) k i) [] C well.1 (sym (append-nil C))
        (λ xs e. means_leaf (root xs) (i + calls_in all) w (λ j. val (tree.merge c ps all) k i)
        (λ j lt. ap (λ t. merge_stream t (var c) (map m.on xs)) (ticks_are node base m k) ∙ ap (merge_stream (K k) (var c)) e))
    means (tree.call f all) k i w well =
        means_all all k i w (λ xs. instance p lists f (clock_place node k) xs) (spot_at f) (output p node base var within (tree.call f all) k i) (record { node = f; base = K k; arguments = values p node base var within all k i } ∷ []) (sites p node base var within (tree.call f all) k i) well.1 refl
        (λ xs l e. means_instance f k xs (i + calls_in all) w (values p node base var within all k i) (subst (λ n. CallIs p node Below f n w) (sym l) well.0) e)

    -- the arguments of a call, and the rest
    pub means_all : (all : Trees) (k : Option Condition) (i w : ℕ) (rest : List ℕ → Walking) (spr : ℕ → List Spot) (result : ℕ → Stream) (B C : List CallInstance) → AllWell p node Below all → C ≡ sites_in p node base var within all k i ++ B
        → ((xs : List ℕ) → length xs ≡ length (trees_in all) → map m.on xs ≡ values p node base var within all k i → Means (rest xs) spr (i + calls_in all) w result B)
        → Means (walk_all p lists node all k rest) (spots_all p lists node all k spr) i w result C
    means_all tree.none k i w rest spr result B C well joined h =
        let z : i + 0 ≡ i = omega arith in
        subst (λ c. Means (rest []) spr i w result c) (sym joined) (subst (λ n. Means (rest []) spr n w result B) z (h [] refl refl))
    means_all (tree.more a all) k i w rest spr result B C well joined h =
        let A = sites p node base var within a k i in
        let R = sites_in p node base var within all k (i + calls a) in
        means_after (walk p lists node a k) (λ x. walk_all p lists node all k (λ xs. rest (x ∷ xs))) (spots p lists node a k) (spots_all p lists node all k spr) i (calls a) w (output p node base var within a k i) result A (R ++ B) C
        (length-spots p lists node a k) (length-sites p node base var within a k i) (joined ∙ append_assoc A R B) (means a k i 1 well.0)
        (λ x e. means_all all k (i + calls a) w (λ xs. rest (x ∷ xs)) spr result B (R ++ B) well.1 refl
        (λ xs l e'.
        let z : i + calls_in (tree.more a all) ≡ i + calls a + calls_in all = omega arith in
        subst (λ n. Means (rest (x ∷ xs)) spr n w result B) z (h (x ∷ xs) (ap suc l) (ap (λ y. y ∷ map m.on xs) (is_value a k i x e) ∙ ap (λ ys. val a k i ∷ ys) e'))))

    -- the branches of a merge, and the rest
    pub means_branches : (c : List ℕ) (ps : List Pattern) (all : Trees) (i w : ℕ) (rest : List ℕ → Walking) (spr : ℕ → List Spot) (result : ℕ → Stream) (B C : List CallInstance) → AllWell p node Below all → C ≡ branch_sites p node base var within c ps all i ++ B
        → ((xs : List ℕ) → map m.on xs ≡ branches p node base var within c ps all i → Means (rest xs) spr (i + calls_in all) w result B)
        → Means (walk_branches p lists node c ps all rest) (spots_branches p lists node c ps all spr) i w result C
    means_branches c ps tree.none i w rest spr result B C well joined h =
        let z : i + 0 ≡ i = omega arith in
        subst (λ c. Means (rest []) spr i w result c) (sym joined) (subst (λ n. Means (rest []) spr n w result B) z (h [] refl))
    means_branches c ps (tree.more a all) i w rest spr result B C well joined h =
        let k = condition c (first_pattern ps) in
        let qs = next_patterns ps in
        let A = sites p node base var within a k i in
        let R = branch_sites p node base var within c qs all (i + calls a) in
        means_after (walk p lists node a k) (λ x. walk_branches p lists node c qs all (λ xs. rest (x ∷ xs))) (spots p lists node a k) (spots_branches p lists node c qs all spr) i (calls a) w (output p node base var within a k i) result A (R ++ B) C
        (length-spots p lists node a k) (length-sites p node base var within a k i) (joined ∙ append_assoc A R B) (means a k i 1 well.0)
        (λ x e. means_branches c qs all (i + calls a) w (λ xs. rest (x ∷ xs)) spr result B (R ++ B) well.1 refl
        (λ xs e'.
        let z : i + calls_in (tree.more a all) ≡ i + calls a + calls_in all = omega arith in
        subst (λ n. Means (rest (x ∷ xs)) spr n w result B) z (h (x ∷ xs) (ap (λ y. y ∷ map m.on xs) (is_value a k i x e) ∙ ap (λ ys. val a k i ∷ ys) e'))))
