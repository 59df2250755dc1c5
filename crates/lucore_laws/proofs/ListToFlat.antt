-- A solution of a node gives a solution of its open list.
use Rattle.std.proofs.Common.{◌≡◌, ℕ, suc, ◌+◌, ◌<◌, List, [], ◌∷◌, ◌++◌, length, map, Option, Some, None, refl, sym, ap, ◌∙◌, subst, arith, length-append}
use Rattle.std.specs.Prelude.{slice_get, pos}
use Rattle.std.proofs.lemmas.List.{append-nil, length-map}
use Rattle.lutree.specs.declared.expr.Pattern.{Pattern}
use Rattle.lutree.specs.declared.expr.Condition.{Condition}
use Rattle.lutree.specs.declared.expr.Prefix.TheVariants.{Data as Data1, Pre as Before}
use Rattle.lutree.specs.declared.expr.Infix.TheVariants.{Data as Data2, Arrow as Starts, FollowedBy}
use Rattle.lutree.specs.Tree.{Tree, Trees, list_of as trees_in, EquationTree, NodeTree, ProgramTree}
use Rattle.lutree.specs.Tree as tree
use Rattle.luflow.specs.declared.data.Datum.TheVariants.{Int, Bool as Truth, Name}
use Rattle.luflow.specs.declared.form.Flow.{Flow}
use Rattle.luflow.specs.declared.form.Form.TheVariants.{Constant, Unary, Binary, If, Pre, Arrow, When, Current, Merge}
use Rattle.luflow.specs.Streams.{Stream, Ticks, truth_in}
use Rattle.lusource.specs.Names.{variables_of, place_of, clock_of, name_at, outputs_in, output_name, AreDistinct}
use Rattle.lustat_rules.specs.Scope.{node_called}
use Rattle.lusource.specs.StreamOperators.{constant_stream, unary_stream, binary_stream, choice_stream, pre_stream, arrow_stream, when_stream, current_stream, merge_stream}
use Rattle.lusource.specs.Source.{Named, CallInstance, Path, SourceStreams, HoldsAt, condition, first_pattern, next_patterns, pattern_value, ticks, calls, calls_in, value, values, branches, output, sites, sites_in, branch_sites}
use Rattle.lucore_laws.specs.Layout.{Root, Walking, root_flows, made, root_place, place, behind, leaf, after, list_of, inputs_in, instance, moved, clock_place, flow_of, variable_place, walk, walk_all, walk_branches}
use Rattle.lucore_laws.specs.Layout.Root.{own, at}
use Rattle.lucore_laws.proofs.Each.{Each, each_left, each_right, each_join, each_shift, mapped}
use Rattle.lucore_laws.proofs.Open.{Model, clock_ticks, flow_stream, FlowHolds, Hold, Solves, root_stream, moved_model, solved_instance}
use Rattle.lucore_laws.proofs.Spots.{Spot, spots_after, no_spots, spot_at, spots, spots_all, spots_branches, length-spots, length-sites, length-sites_in, place_named}
use Rattle.lucore_laws.proofs.ListInstances.{HasInstances}
use Rattle.lucore_laws.proofs.Well.{Known, IsWell, AllWell, CallIs}
use Rattle.lucore_laws.proofs.ListToSource.{output_value, output_place, output_there}
use Rattle.lucore_laws.proofs.Names.{place_in}

-- the model has these streams from place s on
abbrev pub Has : Model → ℕ → List Stream → Type 0
Has m s l = Each (λ x t. m.on x ≡ t) s l

-- There are streams for these flows from place s on: wherever A holds and they stand there, the flows hold, and Q.
abbrev pub Makes : Ticks → (Model → Type 0) → ℕ → List Flow → (Model → Type 0) → Type 0
Makes base A s flows Q =
    (l : List Stream) × (length l ≡ length flows) × ((m : Model) → A m → Has m s l → Hold base m s flows × Q m)

module _ (base : Ticks) where
  pub makes_none : (A Q : Model → Type 0) (s : ℕ) → ((m : Model) → A m → Q m) → Makes base A s [] Q
  makes_none A Q s q = ([], refl, λ m a h. (tt, q m a))

  makes_flow : (A Q : Model → Type 0) (s : ℕ) (f : Flow) (v : Stream) → ((m : Model) → A m → m.on s ≡ v → FlowHolds base m s f × Q m) → Makes base A s (f ∷ []) Q
  makes_flow A Q s f v q = (v ∷ [], refl, λ m a h. (((q m a h.0).0, tt), (q m a h.0).1))

  pub makes_join : (A Q R : Model → Type 0) (s : ℕ) (xs ys : List Flow) → Makes base A s xs Q → Makes base (λ m. A m × Q m) (s + length xs) ys R → Makes base A s (xs ++ ys) (λ m. Q m × R m)
  makes_join A Q R s xs ys f g = (
    f.0 ++ g.0,
    (let e = f.1 in let e' = g.1 in omega (arith, length-append f.0 g.0, length-append xs ys)),
    λ m a h.
        let x = f.2 m a (each_left _ s f.0 g.0 h) in
        let z : s + length f.0 ≡ s + length xs = ap (λ n. s + n) f.1 in
        let y = g.2 m (a, x.1) (subst (λ n. Has m n g.0) z (each_right _ s f.0 g.0 h)) in
        (each_join (FlowHolds base m) s xs ys x.0 y.0, (x.1, y.1)),
  )

  pub makes_imp : (A Q R : Model → Type 0) (s : ℕ) (xs : List Flow) → ((m : Model) → A m → Q m → R m) → Makes base A s xs Q → Makes base A s xs R
  makes_imp A Q R s xs q f = (f.0, f.1, λ m a h. let x = f.2 m a h in (x.0, q m a x.1))

  pub makes_under : (A B Q : Model → Type 0) (s : ℕ) (xs : List Flow) → ((m : Model) → B m → A m) → Makes base A s xs Q → Makes base B s xs Q
  makes_under A B Q s xs q f = (f.0, f.1, λ m b h. f.2 m (q m b) h)

module _ (base : Ticks) (Placed : Model → ℕ → Spot → Type 0) where
  -- wherever a walk begins, its inner flows have streams with which the root has these streams, and each call is placed
  abbrev pub RootMakes : (Model → Type 0) → Walking → (ℕ → List Spot) → ℕ → ℕ → (ℕ → Stream) → Type 0
  RootMakes A w sp i width val =
      (s : ℕ) → Makes base A s (w s).inner (λ m. ((j : ℕ) → j < width → root_stream base m (w s).root j ≡ val j) × Each (Placed m) i (sp s))

  roots_under : (A B : Model → Type 0) (w : Walking) (sp : ℕ → List Spot) (i width : ℕ) (val : ℕ → Stream) → ((m : Model) → B m → A m) → RootMakes A w sp i width val → RootMakes B w sp i width val
  roots_under A B w sp i width val q f s = makes_under base A B _ s (w s).inner q (f s)

  makes_leaf : (A : Model → Type 0) (f : Flow) (i w : ℕ) (val : ℕ → Stream) → ((m : Model) → A m → (j : ℕ) → flow_stream base m f ≡ val j) → RootMakes A (leaf f) no_spots i w val
  makes_leaf A f i w val h s = makes_none base A _ s (λ m a. (λ j lt. h m a j, tt))

  makes_operand : (A E : Model → Type 0) (s : ℕ) (inner : List Flow) (root : Root) (v : Stream) → Makes base A s inner (λ m. (root_stream base m root 0 ≡ v) × E m) → Makes base A s (inner ++ root_flows root) (λ m. (m.on (root_place (s + length inner) root) ≡ v) × E m)
  makes_operand A E s inner (own f) v h =
      makes_imp base A _ _ s (inner ++ f ∷ []) (λ m a q. (q.1, q.0.1))
      (makes_join base A (λ m. (flow_stream base m f ≡ v) × E m) (λ m. m.on (s + length inner) ≡ v) s inner (f ∷ []) h
      (makes_flow base (λ m. A m × ((flow_stream base m f ≡ v) × E m)) (λ m. m.on (s + length inner) ≡ v) (s + length inner) f v (λ m a e. (e ∙ sym a.1.0, e))))
  makes_operand A E s inner (at x) v h =
      let z : x ≡ x + 0 = omega arith in
      subst (λ l. Makes base A s l (λ m. (m.on x ≡ v) × E m)) (sym (append-nil inner)) (makes_imp base A _ _ s inner (λ m a q. (ap m.on z ∙ q.0, q.1)) h)

  makes_after : (A : Model → Type 0) (a : Walking) (rest : ℕ → Walking) (spa spr : ℕ → List Spot) (i na w : ℕ) (va val : ℕ → Stream) → ((s : ℕ) → length (spa s) ≡ na) → RootMakes A a spa i 1 va → ((x : ℕ) → RootMakes (λ m. A m × (m.on x ≡ va 0)) (rest x) spr (i + na) w val) → RootMakes A (after a rest) (spots_after a spa spr) i w val
  makes_after A a rest spa spr i na w va val ls first then s =
      let S = behind s (a s) in
      let x = place s (a s) in
      let r = rest x S in
      let E : Model → Type 0 = λ m. Each (Placed m) i (spa s) in
      let Q : Model → Type 0 = λ m. (m.on x ≡ va 0) × E m in
      let R : Model → Type 0 = λ m. ((j : ℕ) → j < w → root_stream base m r.root j ≡ val j) × Each (Placed m) (i + na) (spr S) in
      let f = makes_operand A E s (a s).inner (a s).root (va 0) (makes_imp base A _ _ s (a s).inner (λ m a q. (q.0 0 (omega arith), q.1)) (first s)) in
      let t = makes_under base (λ m. A m × (m.on x ≡ va 0)) (λ m. A m × Q m) R S r.inner (λ m b. (b.0, b.1.0)) (then x S) in
      makes_imp base A (λ m. Q m × R m) _ s (made (a s) ++ r.inner) (λ m a q. (q.1.0, each_join (Placed m) i (spa s) (spr S) q.0.1 (subst (λ n. Each (Placed m) (i + n) (spr S)) (sym (ls s)) q.1.1)))
      (makes_join base A Q R s (made (a s)) r.inner f t)

  makes_one : (A : Model → Type 0) (a : Walking) (operator : ℕ → Flow) (spa : ℕ → List Spot) (i na w : ℕ) (va val : ℕ → Stream) → ((s : ℕ) → length (spa s) ≡ na) → RootMakes A a spa i 1 va → ((x : ℕ) (m : Model) → A m → m.on x ≡ va 0 → (j : ℕ) → flow_stream base m (operator x) ≡ val j) → RootMakes A (after a (λ x. leaf (operator x))) (spots_after a spa no_spots) i w val
  makes_one A a operator spa i na w va val ls first h =
      makes_after A a (λ x. leaf (operator x)) spa no_spots i na w va val ls first (λ x. makes_leaf (λ m. A m × (m.on x ≡ va 0)) (operator x) (i + na) w val (λ m q j. h x m q.0 q.1 j))

  makes_two : (A : Model → Type 0) (a b : Walking) (operator : ℕ → ℕ → Flow) (spa spb : ℕ → List Spot) (i na nb w : ℕ) (va vb val : ℕ → Stream) → ((s : ℕ) → length (spa s) ≡ na) → ((s : ℕ) → length (spb s) ≡ nb) → RootMakes A a spa i 1 va → RootMakes A b spb (i + na) 1 vb
      → ((x y : ℕ) (m : Model) → A m → m.on x ≡ va 0 → m.on y ≡ vb 0 → (j : ℕ) → flow_stream base m (operator x y) ≡ val j) → RootMakes A (after a (λ x. after b (λ y. leaf (operator x y)))) (spots_after a spa (spots_after b spb no_spots)) i w val
  makes_two A a b operator spa spb i na nb w va vb val ls ls' first second h =
      makes_after A a (λ x. after b (λ y. leaf (operator x y))) spa (spots_after b spb no_spots) i na w va val ls first
      (λ x. makes_one (λ m. A m × (m.on x ≡ va 0)) b (operator x) spb (i + na) nb w vb val ls' (roots_under A (λ m. A m × (m.on x ≡ va 0)) b spb (i + na) 1 vb (λ m q. q.0) second) (λ y m q e j. h x y m q.0 q.1 e j))

-- There are streams for these flows with which the flows hold, and the node's variables and those of its instances have their
-- streams.
abbrev pub ListHas : ProgramTree → List (List Flow) → List ℕ → NodeTree → Ticks → List Stream → SourceStreams → List Flow → Type 0
ListHas p lists f n base given σ flows =
    (l : List Stream) × (length l ≡ length flows) × ((m : Model) → Has m 0 l → ((r : ℕ) (s : Stream) → slice_get given r ≡ Some s → m.given r ≡ s)
    → Solves base m flows × ((x : List ℕ) → place_of (variables_of n) x < length (variables_of n) → m.on (place_of (variables_of n) x) ≡ σ [] x) × HasInstances p lists f m.on σ)

-- what a node's list gives for each of its solutions
abbrev pub Gives : ProgramTree → List (List Flow) → List ℕ → Type 0
Gives p lists f =
    (n : NodeTree) → node_called p f ≡ Some n → (base : Ticks) (given : List Stream) (σ : SourceStreams) → ((path : Path) → HoldsAt p f base given σ path)
    → ListHas p lists f n base given σ (list_of p lists f)

module _ (p : ProgramTree) (lists : List (List Flow)) (node : NodeTree) (Below : List ℕ → Type 0) (base : Ticks) (σ : SourceStreams) (apart : (f : List ℕ) (n : NodeTree) → node_called p f ≡ Some n → AreDistinct (variables_of n)) (gives : (f : List ℕ) → Below f → Gives p lists f) where
  abbrev pub KnownClock : Option Condition → Type 0
  KnownClock None = Unit {0}
  KnownClock (Some c) = Known p node Below c.variable

  -- the model has the instance's own streams
  abbrev pub Agree : Model → Type 0
  Agree m = (x : List ℕ) → Known p node Below x → m.on (variable_place p lists node x) ≡ σ [] x

  abbrev pub var : Named
  var = σ []

  abbrev pub below : ℕ → Named
  below i = σ (i ∷ [])

  -- the instance of a call stands at its spot
  abbrev pub Placed : Model → ℕ → Spot → Type 0
  Placed m i spot = HasInstances p lists spot.node (λ y. m.on (spot.at + y)) (λ path. σ (i ∷ path))

  abbrev pub Solved : ℕ → List CallInstance → Type 0
  Solved i xs = Each (λ j c. (path : Path) → HoldsAt p c.node c.base c.arguments (λ ρ. σ (j ∷ ρ)) path) i xs

  pub solved_then : (i : ℕ) (a b : List CallInstance) (n : ℕ) → length a ≡ n → Solved i (a ++ b) → Solved (i + n) b
  solved_then i a b n e h = subst (λ n. Solved (i + n) b) e (each_right _ i a b h)

  ticks_agree : (m : Model) (k : Option Condition) → KnownClock k → Agree m → clock_ticks base m.on (clock_place node k) ≡ ticks base var k
  ticks_agree m None known agree = refl
  ticks_agree m (Some c) known agree = ap {B = Ticks} (λ (s : Stream) t. truth_in (pattern_value c.pattern) (s t)) (agree c.variable known)

  makes_instance : (A : Model → Type 0) (f : List ℕ) (k : Option Condition) (xs : List ℕ) (i w : ℕ) (arguments : List Stream) → ((m : Model) → A m → Agree m × (map m.on xs ≡ arguments)) → KnownClock k → CallIs p node Below f (length xs) w
      → ((path : Path) → HoldsAt p f (ticks base var k) arguments (λ ρ. σ (i ∷ ρ)) path) → RootMakes base Placed A (instance p lists f (clock_place node k) xs) (spot_at f) i w (λ j. below i (output_name p f j))
  makes_instance A f k xs i w arguments agree known is sol s =
      let g = gives f is.below is.callee is.found (ticks base var k) arguments (λ ρ. σ (i ∷ ρ)) sol in
      let fl = list_of p lists f in
      let ck = clock_place node k in (
        g.0,
        (let e = g.1 in omega (arith, length-map fl (moved s ck xs))),
        λ m a h.
            let z : s ≡ s + 0 = omega arith in
            let ag = agree m a in
            let mm = moved_model m s xs in
            let r = g.2 mm (each_shift (λ x t. m.on x ≡ t) s 0 g.0 (subst (λ n. Has m n g.0) z h))
            (λ r t e. mapped m.on xs r t (ap (λ l. slice_get l r) ag.1 ∙ e)) in
            let solves = subst (λ c. Solves c mm fl) (sym (ticks_agree m k known ag.0)) r.0 in (
              solved_instance base m s ck xs fl solves,
              (
                λ j lt.
                    let lo : j < length is.callee.outputs = (let e = is.outputs_are in omega arith) in
                    let here = output_place p f is.callee j is.found (apart f is.callee is.found) lo in
                    let y : s + inputs_in (node_called p f) + j ≡ s + (inputs_in (node_called p f) + j) = omega arith in
                    let name : place_named (node_called p f) (output_name p f j) ≡ place_of (variables_of is.callee) (output_name p f j) = ap (λ o. place_named o (output_name p f j)) is.found in
                    let there = subst (λ o. slice_get (variables_of is.callee) (length is.callee.inputs + j) ≡ Some (name_at (outputs_in o) j)) (sym is.found) (output_there is.callee j lo) in
                    ap m.on y ∙ ap (λ n. m.on (s + n)) (sym here ∙ name) ∙ r.1 (output_name p f j) (place_in (variables_of is.callee) (output_name p f j) (length is.callee.inputs + j) there),
                (r.2, tt),
              ),
            ),
      )

  abbrev K : Option Condition → Ticks
  K k = ticks base var k

  abbrev val : Tree → Option Condition → ℕ → Stream
  val e k i = value p node base var below e k i

  is_value : (e : Tree) (k : Option Condition) (i x : ℕ) (m : Model) → m.on x ≡ output p node base var below e k i 0 → m.on x ≡ val e k i
  is_value e k i x m h = h ∙ output_value p node base var below e k i

  module _ (clock_known : (x : List ℕ) → KnownClock (clock_of node x)) where
    mutual
      pub makes : (A : Model → Type 0) → ((m : Model) → A m → Agree m) → (e : Tree) (k : Option Condition) (i w : ℕ) → KnownClock k → IsWell p node Below e w → Solved i (sites p node base var below e k i) → RootMakes base Placed A (walk p lists node e k) (spots p lists node e k) i w (output p node base var below e k i)
      makes A ag (tree.number n) k i w known well sol =
          makes_leaf base Placed A (flow_of p lists node (tree.number n) k (Constant (Int (pos n)))) i w (λ j. val (tree.number n) k i) (λ m a j. ap (constant_stream (Int (pos n))) (ticks_agree m k known (ag m a)))
      makes A ag (tree.truth b) k i w known well sol =
          makes_leaf base Placed A (flow_of p lists node (tree.truth b) k (Constant (Truth b))) i w (λ j. val (tree.truth b) k i) (λ m a j. ap (constant_stream (Truth b)) (ticks_agree m k known (ag m a)))
      makes A ag (tree.label x) k i w known well sol =
          makes_leaf base Placed A (flow_of p lists node (tree.label x) k (Constant (Name x.number))) i w (λ j. val (tree.label x) k i) (λ m a j. ap (constant_stream (Name x.number)) (ticks_agree m k known (ag m a)))
      makes A ag (tree.variable x) k i w known well sol = λ s.
          makes_none base A _ s (λ m a. (λ j lt. let e = well.0 in let z : variable_place p lists node x + j ≡ variable_place p lists node x = omega arith in ap m.on z ∙ ag m a x well.1, tt))
      makes A ag (tree.unary (Data1 op) a) k i w known well sol =
          makes_one base Placed A (walk p lists node a k) (λ x. flow_of p lists node (tree.unary (Data1 op) a) k (Unary op x)) (spots p lists node a k) i (calls a) w (output p node base var below a k i) (λ j. val (tree.unary (Data1 op) a) k i) (length-spots p lists node a k) (makes A ag a k i 1 known well sol)
          (λ x m q e j. ap (λ c. unary_stream op c (m.on x)) (ticks_agree m k known (ag m q)) ∙ ap (unary_stream op (K k)) (is_value a k i x m e))
      makes A ag (tree.unary Before a) k i w known well sol =
          makes_one base Placed A (walk p lists node a k) (λ x. flow_of p lists node (tree.unary Before a) k (Pre x)) (spots p lists node a k) i (calls a) w (output p node base var below a k i) (λ j. val (tree.unary Before a) k i) (length-spots p lists node a k) (makes A ag a k i 1 known well sol)
          (λ x m q e j. ap (λ c. pre_stream c (m.on x)) (ticks_agree m k known (ag m q)) ∙ ap (pre_stream (K k)) (is_value a k i x m e))
      makes A ag (tree.binary (Data2 op) a b) k i w known well sol =
          let sa = each_left _ i (sites p node base var below a k i) (sites p node base var below b k (i + calls a)) sol in
          let sb = solved_then i (sites p node base var below a k i) (sites p node base var below b k (i + calls a)) (calls a) (length-sites p node base var below a k i) sol in
          makes_two base Placed A (walk p lists node a k) (walk p lists node b k) (λ x y. flow_of p lists node (tree.binary (Data2 op) a b) k (Binary op x y)) (spots p lists node a k) (spots p lists node b k) i (calls a) (calls b) w (output p node base var below a k i) (output p node base var below b k (i + calls a)) (λ j. val (tree.binary (Data2 op) a b) k i)
          (length-spots p lists node a k) (length-spots p lists node b k)
          (makes A ag a k i 1 known well.0 sa) (makes A ag b k (i + calls a) 1 known well.1 sb)
          (λ x y m q e e' j. ap (λ c. binary_stream op c (m.on x) (m.on y)) (ticks_agree m k known (ag m q)) ∙ ap (λ u. binary_stream op (K k) u (m.on y)) (is_value a k i x m e) ∙ ap (binary_stream op (K k) (val a k i)) (is_value b k (i + calls a) y m e'))
      makes A ag (tree.binary Starts a b) k i w known well sol =
          let sa = each_left _ i (sites p node base var below a k i) (sites p node base var below b k (i + calls a)) sol in
          let sb = solved_then i (sites p node base var below a k i) (sites p node base var below b k (i + calls a)) (calls a) (length-sites p node base var below a k i) sol in
          makes_two base Placed A (walk p lists node a k) (walk p lists node b k) (λ x y. flow_of p lists node (tree.binary Starts a b) k (Arrow x y)) (spots p lists node a k) (spots p lists node b k) i (calls a) (calls b) w (output p node base var below a k i) (output p node base var below b k (i + calls a)) (λ j. val (tree.binary Starts a b) k i)
          (length-spots p lists node a k) (length-spots p lists node b k)
          (makes A ag a k i 1 known well.0 sa) (makes A ag b k (i + calls a) 1 known well.1 sb)
          (λ x y m q e e' j. ap (λ c. arrow_stream c (m.on x) (m.on y)) (ticks_agree m k known (ag m q)) ∙ ap (λ u. arrow_stream (K k) u (m.on y)) (is_value a k i x m e) ∙ ap (arrow_stream (K k) (val a k i)) (is_value b k (i + calls a) y m e'))
      makes A ag (tree.binary FollowedBy a b) k i w known well sol =
          let sa = each_left _ i (sites p node base var below a k i) (sites p node base var below b k (i + calls a)) sol in
          let sb = solved_then i (sites p node base var below a k i) (sites p node base var below b k (i + calls a)) (calls a) (length-sites p node base var below a k i) sol in
          let pre = λ (y : ℕ). flow_of p lists node (tree.unary Before b) k (Pre y) in
          let root = λ (x z : ℕ). flow_of p lists node (tree.binary FollowedBy a b) k (Arrow x z) in
          let vb = output p node base var below b k (i + calls a) in
          let vp = λ (j : ℕ). pre_stream (K k) (val b k (i + calls a)) in
          let va = output p node base var below a k i in
          makes_after base Placed A (walk p lists node a k) (λ x. after (walk p lists node b k) (λ y. after (leaf (pre y)) (λ z. leaf (root x z)))) (spots p lists node a k) (spots_after (walk p lists node b k) (spots p lists node b k) no_spots) i (calls a) w va (λ j. val (tree.binary FollowedBy a b) k i) (length-spots p lists node a k) (makes A ag a k i 1 known well.0 sa)
          (λ x. makes_after base Placed (λ m. A m × (m.on x ≡ va 0)) (walk p lists node b k) (λ y. after (leaf (pre y)) (λ z. leaf (root x z))) (spots p lists node b k) no_spots (i + calls a) (calls b) w vb (λ j. val (tree.binary FollowedBy a b) k i) (length-spots p lists node b k) (makes (λ m. A m × (m.on x ≡ va 0)) (λ m q. ag m q.0) b k (i + calls a) 1 known well.1 sb)
          (λ y. makes_one base Placed (λ m. (A m × (m.on x ≡ va 0)) × (m.on y ≡ vb 0)) (leaf (pre y)) (root x) no_spots (i + calls a + calls b) 0 w vp (λ j. val (tree.binary FollowedBy a b) k i) (λ s. refl)
          (makes_leaf base Placed (λ m. (A m × (m.on x ≡ va 0)) × (m.on y ≡ vb 0)) (pre y) (i + calls a + calls b) 1 vp (λ m q j. ap (λ c. pre_stream c (m.on y)) (ticks_agree m k known (ag m q.0.0)) ∙ ap (pre_stream (K k)) (is_value b k (i + calls a) y m q.1)))
          (λ z m q e j. ap (λ c. arrow_stream c (m.on x) (m.on z)) (ticks_agree m k known (ag m q.0.0)) ∙ ap (λ u. arrow_stream (K k) u (m.on z)) (is_value a k i x m q.0.1) ∙ ap (arrow_stream (K k) (val a k i)) e)))
      makes A ag (tree.choice c a b) k i w known well sol =
          let C = sites p node base var below c k i in
          let ia = i + calls c in
          let ib = i + calls c + calls a in
          let SA = sites p node base var below a k ia in
          let SB = sites p node base var below b k ib in
          let sc = each_left _ i C (SA ++ SB) sol in
          let sr = solved_then i C (SA ++ SB) (calls c) (length-sites p node base var below c k i) sol in
          let sa = each_left _ ia SA SB sr in
          let sb = solved_then ia SA SB (calls a) (length-sites p node base var below a k ia) sr in
          let root = λ (x y z : ℕ). flow_of p lists node (tree.choice c a b) k (If x y z) in
          let vc = output p node base var below c k i in
          makes_after base Placed A (walk p lists node c k) (λ x. after (walk p lists node a k) (λ y. after (walk p lists node b k) (λ z. leaf (root x y z)))) (spots p lists node c k) (spots_after (walk p lists node a k) (spots p lists node a k) (spots_after (walk p lists node b k) (spots p lists node b k) no_spots)) i (calls c) w vc (λ j. val (tree.choice c a b) k i) (length-spots p lists node c k) (makes A ag c k i 1 known well.0 sc)
          (λ x. makes_two base Placed (λ m. A m × (m.on x ≡ vc 0)) (walk p lists node a k) (walk p lists node b k) (root x) (spots p lists node a k) (spots p lists node b k) ia (calls a) (calls b) w (output p node base var below a k ia) (output p node base var below b k ib) (λ j. val (tree.choice c a b) k i)
          (length-spots p lists node a k) (length-spots p lists node b k)
          (makes (λ m. A m × (m.on x ≡ vc 0)) (λ m q. ag m q.0) a k ia 1 known well.1 sa) (makes (λ m. A m × (m.on x ≡ vc 0)) (λ m q. ag m q.0) b k ib 1 known well.2 sb)
          (λ y z m q e e' j. ap (λ t. choice_stream t (m.on x) (m.on y) (m.on z)) (ticks_agree m k known (ag m q.0)) ∙ ap (λ u. choice_stream (K k) u (m.on y) (m.on z)) (is_value c k i x m q.1) ∙ ap (λ u. choice_stream (K k) (val c k i) u (m.on z)) (is_value a k ia y m e) ∙ ap (choice_stream (K k) (val c k i) (val a k ia)) (is_value b k ib z m e')))
      makes A ag (tree.when a c) k i w known well sol =
          let kc = clock_of node c.variable in
          makes_one base Placed A (walk p lists node a kc) (λ x. flow_of p lists node (tree.when a c) (Some c) (When x)) (spots p lists node a kc) i (calls a) w (output p node base var below a kc i) (λ j. val (tree.when a c) k i) (length-spots p lists node a kc) (makes A ag a kc i 1 (clock_known c.variable) well.1 sol)
          (λ x m q e j. ap (λ t. when_stream t (m.on x)) (ticks_agree m (Some c) well.0 (ag m q)) ∙ ap (when_stream (K (Some c))) (is_value a kc i x m e))
      makes A ag (tree.current x) k i w known well sol =
          makes_leaf base Placed A (flow_of p lists node (tree.current x) k (Current (variable_place p lists node x))) i w (λ j. val (tree.current x) k i)
          (λ m a j. ap (λ c. current_stream c (m.on (variable_place p lists node x))) (ticks_agree m k known (ag m a)) ∙ ap (current_stream (K k)) (ag m a x well))
      makes A ag (tree.merge c ps all) k i w known well sol =
          let cp = variable_place p lists node c in
          let root = λ (xs : List ℕ). flow_of p lists node (tree.merge c ps all) k (Merge cp xs) in
          makes_branches A ag c ps all i w (λ xs. leaf (root xs)) no_spots (λ j. val (tree.merge c ps all) k i) well.0 well.1 sol
          (λ xs. makes_leaf base Placed (λ m. A m × (map m.on xs ≡ branches p node base var below c ps all i)) (root xs) (i + calls_in all) w (λ j. val (tree.merge c ps all) k i)
          (λ m q j. ap (λ t. merge_stream t (m.on cp) (map m.on xs)) (ticks_agree m k known (ag m q.0)) ∙ ap (λ u. merge_stream (K k) u (map m.on xs)) (ag m q.0 c well.0) ∙ ap (merge_stream (K k) (var c)) q.1))
      makes A ag (tree.call f all) k i w known well sol =
          let SA = sites_in p node base var below all k i in
          let site : CallInstance = record { node = f; base = K k; arguments = values p node base var below all k i } in
          let last = (solved_then i SA (site ∷ []) (calls_in all) (length-sites_in p node base var below all k i) sol).0 in
          makes_all A ag all k i w (λ xs. instance p lists f (clock_place node k) xs) (spot_at f) (output p node base var below (tree.call f all) k i) known well.1 (each_left _ i SA (site ∷ []) sol)
          (λ xs l. makes_instance (λ m. A m × (map m.on xs ≡ values p node base var below all k i)) f k xs (i + calls_in all) w (values p node base var below all k i) (λ m q. (ag m q.0, q.1)) known (subst (λ n. CallIs p node Below f n w) (sym l) well.0) last)

      -- the arguments of a call, and the rest
      pub makes_all : (A : Model → Type 0) → ((m : Model) → A m → Agree m) → (all : Trees) (k : Option Condition) (i w : ℕ) (rest : List ℕ → Walking) (spr : ℕ → List Spot) (result : ℕ → Stream) → KnownClock k → AllWell p node Below all → Solved i (sites_in p node base var below all k i)
          → ((xs : List ℕ) → length xs ≡ length (trees_in all) → RootMakes base Placed (λ m. A m × (map m.on xs ≡ values p node base var below all k i)) (rest xs) spr (i + calls_in all) w result)
          → RootMakes base Placed A (walk_all p lists node all k rest) (spots_all p lists node all k spr) i w result
      makes_all A ag tree.none k i w rest spr result known well sol h =
          let z : i + 0 ≡ i = omega arith in
          let none : Model → Type 0 = λ m. A m × (map m.on [] ≡ values p node base var below tree.none k i) in
          roots_under base Placed none A (rest []) spr i w result (λ m a. (a, refl)) (subst (λ n. RootMakes base Placed none (rest []) spr n w result) z (h [] refl))
      makes_all A ag (tree.more a all) k i w rest spr result known well sol h =
          let SA = sites p node base var below a k i in
          let SR = sites_in p node base var below all k (i + calls a) in
          let sa = each_left _ i SA SR sol in
          let sr = solved_then i SA SR (calls a) (length-sites p node base var below a k i) sol in
          let va = output p node base var below a k i in
          let z : i + calls_in (tree.more a all) ≡ i + calls a + calls_in all = omega arith in
          let All = λ (xs : List ℕ) (m : Model). A m × (map m.on xs ≡ values p node base var below (tree.more a all) k i) in
          makes_after base Placed A (walk p lists node a k) (λ x. walk_all p lists node all k (λ xs. rest (x ∷ xs))) (spots p lists node a k) (spots_all p lists node all k spr) i (calls a) w va result (length-spots p lists node a k) (makes A ag a k i 1 known well.0 sa)
          (λ x. makes_all (λ m. A m × (m.on x ≡ va 0)) (λ m q. ag m q.0) all k (i + calls a) w (λ xs. rest (x ∷ xs)) spr result known well.1 sr
          (λ xs l. roots_under base Placed (All (x ∷ xs)) (λ m. (A m × (m.on x ≡ va 0)) × (map m.on xs ≡ values p node base var below all k (i + calls a))) (rest (x ∷ xs)) spr (i + calls a + calls_in all) w result
          (λ m q. (q.0.0, ap (λ y. y ∷ map m.on xs) (is_value a k i x m q.0.1) ∙ ap (λ ys. val a k i ∷ ys) q.1))
          (subst (λ n. RootMakes base Placed (All (x ∷ xs)) (rest (x ∷ xs)) spr n w result) z (h (x ∷ xs) (ap suc l)))))

      -- the branches of a merge, and the rest
      pub makes_branches : (A : Model → Type 0) → ((m : Model) → A m → Agree m) → (c : List ℕ) (ps : List Pattern) (all : Trees) (i w : ℕ) (rest : List ℕ → Walking) (spr : ℕ → List Spot) (result : ℕ → Stream) → Known p node Below c → AllWell p node Below all → Solved i (branch_sites p node base var below c ps all i)
          → ((xs : List ℕ) → RootMakes base Placed (λ m. A m × (map m.on xs ≡ branches p node base var below c ps all i)) (rest xs) spr (i + calls_in all) w result)
          → RootMakes base Placed A (walk_branches p lists node c ps all rest) (spots_branches p lists node c ps all spr) i w result
      makes_branches A ag c ps tree.none i w rest spr result known well sol h =
          let z : i + 0 ≡ i = omega arith in
          let none : Model → Type 0 = λ m. A m × (map m.on [] ≡ branches p node base var below c ps tree.none i) in
          roots_under base Placed none A (rest []) spr i w result (λ m a. (a, refl)) (subst (λ n. RootMakes base Placed none (rest []) spr n w result) z (h []))
      makes_branches A ag c ps (tree.more a all) i w rest spr result known well sol h =
          let k = condition c (first_pattern ps) in
          let qs = next_patterns ps in
          let SA = sites p node base var below a k i in
          let SR = branch_sites p node base var below c qs all (i + calls a) in
          let sa = each_left _ i SA SR sol in
          let sr = solved_then i SA SR (calls a) (length-sites p node base var below a k i) sol in
          let va = output p node base var below a k i in
          let z : i + calls_in (tree.more a all) ≡ i + calls a + calls_in all = omega arith in
          let All = λ (xs : List ℕ) (m : Model). A m × (map m.on xs ≡ branches p node base var below c ps (tree.more a all) i) in
          makes_after base Placed A (walk p lists node a k) (λ x. walk_branches p lists node c qs all (λ xs. rest (x ∷ xs))) (spots p lists node a k) (spots_branches p lists node c qs all spr) i (calls a) w va result (length-spots p lists node a k) (makes A ag a k i 1 known well.0 sa)
          (λ x. makes_branches (λ m. A m × (m.on x ≡ va 0)) (λ m q. ag m q.0) c qs all (i + calls a) w (λ xs. rest (x ∷ xs)) spr result known well.1 sr
          (λ xs. roots_under base Placed (All (x ∷ xs)) (λ m. (A m × (m.on x ≡ va 0)) × (map m.on xs ≡ branches p node base var below c qs all (i + calls a))) (rest (x ∷ xs)) spr (i + calls a + calls_in all) w result
          (λ m q. (q.0.0, ap (λ y. y ∷ map m.on xs) (is_value a k i x m q.0.1) ∙ ap (λ ys. val a k i ∷ ys) q.1))
          (subst (λ n. RootMakes base Placed (All (x ∷ xs)) (rest (x ∷ xs)) spr n w result) z (h (x ∷ xs)))))
