-- What the flows of an expression name is a variable of the node, or a flow of the same expression.
use Rattle.std.proofs.Common.{◌≡◌, ℕ, suc, ◌+◌, ◌<◌, ◌≤◌, ◌⊎◌, inl, inr, true, false, List, [], ◌∷◌, ◌++◌, length, map, Option, Some, None, refl, sym, ap, subst, arith, length-append}
use Rattle.std.specs.Prelude.{slice_index, pos, All}
use Rattle.std.proofs.lemmas.List.{length-map}
use Rattle.std.proofs.lemmas.List.Elements.{All-nil, All-map, All-weaker}
use Rattle.lutree.specs.declared.expr.Pattern.{Pattern}
use Rattle.lutree.specs.declared.expr.Condition.{Condition}
use Rattle.lutree.specs.declared.expr.Prefix.TheVariants.{Data as Data1, Pre as Before}
use Rattle.lutree.specs.declared.expr.Infix.TheVariants.{Data as Data2, Arrow as Starts, FollowedBy}
use Rattle.lutree.specs.Tree.{Tree, Trees, list_of as trees_in, NodeTree, ProgramTree}
use Rattle.lutree.specs.Tree as tree
use Rattle.luflow.specs.declared.data.Datum.TheVariants.{Int, Bool as Truth, Name}
use Rattle.luflow.specs.declared.form.Clock.{Clock}
use Rattle.luflow.specs.declared.form.Clock.TheVariants.{Base, On as Sampled}
use Rattle.luflow.specs.declared.form.Form.{Form}
use Rattle.luflow.specs.declared.form.Form.TheVariants.{Input, Constant, Copied, Unary, Binary, If, Pre, Arrow, When, Current, Merge}
use Rattle.luflow.specs.declared.form.Flow.{Flow}
use Rattle.luflow.specs.Program.{places, clock_reads}
use Rattle.lusource.specs.Names.{clock_of}
use Rattle.lustat_rules.specs.Scope.{node_called}
use Rattle.lusource.specs.Source.{condition, first_pattern, next_patterns}
use Rattle.lucore_laws.specs.Layout.{Root, Walking, root_flows, made, root_place, place, behind, leaf, after, moved_form, moved_clock, moved, list_of, inputs_in, instance, clock_place, flow_of, variable_place, variable_count, walk, walk_all, walk_branches}
use Rattle.lucore_laws.specs.Layout.Root.{own, at}
use Rattle.lucore_laws.proofs.Each.{Each, each_join, each_all, each_map}
use Rattle.lucore_laws.proofs.Names.{all_head, all_tail}
use Rattle.lucore_laws.proofs.Well.{Known, IsWell, AllWell, CallIs}
use Rattle.lucore_laws.proofs.Static.{InList, all_cons, clock_on, clock_within, CopyFits, FlowFits, AreFit}

-- one of the first nv places, or one from lo on and before hi
abbrev pub Near : ℕ → ℕ → ℕ → ℕ → Type 0
Near nv lo hi r = (r < nv) ⊎ ((lo ≤ r) × (r < hi))

pub record FlowNear (nv lo hi : ℕ) (f : Flow) : Type 0 where
  pub operands : All (Near nv lo hi) (places f.form)
  pub clock : All (Near nv lo hi) (clock_reads f.clock)

abbrev pub RootNear : ℕ → ℕ → ℕ → ℕ → Root → Type 0
RootNear nv lo hi w (own f) = FlowNear nv lo hi f
RootNear nv lo hi w (at i) = (j : ℕ) → j < w → Near nv lo hi (i + j)

module _ (nv lo hi : ℕ) where
  abbrev pub AllNear : ℕ → List Flow → Type 0
  AllNear s xs = Each (λ x f. FlowNear nv lo hi f) s xs

  -- where the inner flows of a walk have places from lo on and before hi
  abbrev pub Inside : Walking → ℕ → Type 0
  Inside w width = (s : ℕ) → lo ≤ s → s + length (w s).inner ≤ hi → AllNear s (w s).inner × RootNear nv lo hi width (w s).root

  near_leaf : (f : Flow) (w : ℕ) → FlowNear nv lo hi f → Inside (leaf f) w
  near_leaf f w near s low high = (tt, near)

  near_operand : (s : ℕ) (inner : List Flow) (root : Root) → lo ≤ s → s + length (inner ++ root_flows root) ≤ hi → AllNear s inner → RootNear nv lo hi 1 root → AllNear s (inner ++ root_flows root) × Near nv lo hi (root_place (s + length inner) root)
  near_operand s inner (own f) low high all near = (
    each_join (λ x f. FlowNear nv lo hi f) s inner (f ∷ []) all (near, tt),
    inr (omega (arith, low), omega (arith, high, length-append inner (f ∷ []))),
  )
  near_operand s inner (at i) low high all near =
      let z : i + 0 ≡ i = omega arith in
      (each_join (λ x f. FlowNear nv lo hi f) s inner [] all tt, subst (Near nv lo hi) z (near 0 (omega arith)))

  near_after : (a : Walking) (rest : ℕ → Walking) (w : ℕ) → Inside a 1 → ((x : ℕ) → Near nv lo hi x → Inside (rest x) w) → Inside (after a rest) w
  near_after a rest w first then s low high =
      let r = rest (place s (a s)) (behind s (a s)) in
      let la = length-append (made (a s)) r.inner in
      let lm = length-append (a s).inner (root_flows (a s).root) in
      let f = first s low (omega (arith, high)) in
      let o = near_operand s (a s).inner (a s).root low (omega (arith, high)) f.0 f.1 in
      let g = then (place s (a s)) o.1 (behind s (a s)) (omega (arith, low)) (omega (arith, high)) in
      (each_join (λ x f. FlowNear nv lo hi f) s (made (a s)) r.inner o.0 g.0, g.1)

  none_near : All (Near nv lo hi) []
  none_near = All-nil (Near nv lo hi)

  one_near : (x : ℕ) → Near nv lo hi x → All (Near nv lo hi) (x ∷ [])
  one_near x h = all_cons (Near nv lo hi) x [] h none_near

  two_near : (x y : ℕ) → Near nv lo hi x → Near nv lo hi y → All (Near nv lo hi) (x ∷ y ∷ [])
  two_near x y h g = all_cons (Near nv lo hi) x (y ∷ []) h (one_near y g)

  three_near : (x y z : ℕ) → Near nv lo hi x → Near nv lo hi y → Near nv lo hi z → All (Near nv lo hi) (x ∷ y ∷ z ∷ [])
  three_near x y z h g f = all_cons (Near nv lo hi) x (y ∷ z ∷ []) h (two_near y z g f)

  -- A MOVED LIST

  module _ (fl : List Flow) (n s : ℕ) (k : Clock) (xs : List ℕ) (low : lo ≤ s) (high : s + length fl ≤ hi) (clock : All (Near nv lo hi) (clock_reads k)) (arguments : (r : ℕ) → r < n → Near nv lo hi (slice_index xs r)) where
    moved_near : (x : ℕ) → x < length fl → Near nv lo hi (s + x)
    moved_near x lt = inr (omega (arith, low), omega (arith, high, lt))

    moved_one : (a : ℕ) → All (InList fl) (a ∷ []) → All (Near nv lo hi) ((s + a) ∷ [])
    moved_one a h = one_near (s + a) (moved_near a (all_head (InList fl) a [] h))

    moved_two : (a b : ℕ) → All (InList fl) (a ∷ b ∷ []) → All (Near nv lo hi) ((s + a) ∷ (s + b) ∷ [])
    moved_two a b h = all_cons (Near nv lo hi) (s + a) ((s + b) ∷ []) (moved_near a (all_head (InList fl) a (b ∷ []) h)) (moved_one b (all_tail (InList fl) a (b ∷ []) h))

    moved_three : (a b c : ℕ) → All (InList fl) (a ∷ b ∷ c ∷ []) → All (Near nv lo hi) ((s + a) ∷ (s + b) ∷ (s + c) ∷ [])
    moved_three a b c h =
        all_cons (Near nv lo hi) (s + a) ((s + b) ∷ (s + c) ∷ []) (moved_near a (all_head (InList fl) a (b ∷ c ∷ []) h)) (moved_two b c (all_tail (InList fl) a (b ∷ c ∷ []) h))

    moved_operands : (f : Form) (c : Clock) → CopyFits fl n c f → All (InList fl) (places f) → All (Near nv lo hi) (places (moved_form s xs f))
    moved_operands (Input r) c copy h = one_near (slice_index xs r) (arguments r copy.1)
    moved_operands (Constant d) c copy h = none_near
    moved_operands (Copied a) c copy h = moved_one a h
    moved_operands (Unary op a) c copy h = moved_one a h
    moved_operands (Binary op a b) c copy h = moved_two a b h
    moved_operands (If c a b) _ copy h = moved_three c a b h
    moved_operands (Pre a) c copy h = moved_one a h
    moved_operands (Arrow a b) c copy h = moved_two a b h
    moved_operands (When a) c copy h = moved_one a h
    moved_operands (Current a) c copy h = moved_one a h
    moved_operands (Merge v ys) _ copy h =
        all_cons (Near nv lo hi) (s + v) (map (λ x. s + x) ys) (moved_near v (all_head (InList fl) v ys h))
        (All-map (Near nv lo hi) (λ x. s + x) ys (All-weaker (InList fl) (λ x. Near nv lo hi (s + x)) moved_near ys (all_tail (InList fl) v ys h)))

    moved_clocks : (c : Clock) → All (InList fl) (clock_reads c) → All (Near nv lo hi) (clock_reads (moved_clock s k c))
    moved_clocks Base h = clock
    moved_clocks (Sampled c d) h = moved_one c h

    moved_flow : (f : Flow) → FlowFits fl n f → FlowNear nv lo hi (moved s k xs f)
    moved_flow f h = record { operands = moved_operands f.form f.clock h.copy h.places_in; clock = moved_clocks f.clock h.clocks_in }

-- EXPRESSIONS

module _ (p : ProgramTree) (lists : List (List Flow)) (node : NodeTree) (Below : List ℕ → Type 0) (lo hi : ℕ)
    (callee_fits : (f : List ℕ) → Below f → (callee : NodeTree) → node_called p f ≡ Some callee → AreFit (list_of p lists f) (length callee.inputs))
    (callee_outputs : (f : List ℕ) → Below f → (callee : NodeTree) → node_called p f ≡ Some callee → (j : ℕ) → j < length callee.outputs → clock_on (list_of p lists f) (length callee.inputs + j) ≡ Some Base) where
  abbrev nv : ℕ
  nv = variable_count p lists node

  abbrev pub ClockKnown : Option Condition → Type 0
  ClockKnown None = Unit {0}
  ClockKnown (Some c) = Known p node Below c.variable

  pub clock_near : (k : Option Condition) → ClockKnown k → All (Near nv lo hi) (clock_reads (clock_place node k))
  clock_near None known = none_near nv lo hi
  clock_near (Some c) known = one_near nv lo hi (variable_place p lists node c.variable) (inl known)

  own_near : (e : Tree) (k : Option Condition) (form : Form) → ClockKnown k → All (Near nv lo hi) (places form) → FlowNear nv lo hi (flow_of p lists node e k form)
  own_near e k form known h = record { operands = h; clock = clock_near k known }

  near_instance : (f : List ℕ) (k : Option Condition) (xs : List ℕ) (w : ℕ) → ClockKnown k → CallIs p node Below f (length xs) w → All (Near nv lo hi) xs → Inside nv lo hi (instance p lists f (clock_place node k) xs) w
  near_instance f k xs w known is near s low high =
      let fl = list_of p lists f in
      let ck = clock_place node k in
      let n = length is.callee.inputs in
      let l = length-map fl (moved s ck xs) in
      let high' : s + length fl ≤ hi = omega (arith, high) in
      let arguments : (r : ℕ) → r < n → Near nv lo hi (slice_index xs r) = λ r lt. (let e = is.arguments_are in near r 0 (omega arith)) in (
        each_map (λ x g. FlowNear nv lo hi g) (moved s ck xs) s fl
            (each_all (λ x g. FlowNear nv lo hi (moved s ck xs g)) s fl (λ x g e. moved_flow nv lo hi fl n s ck xs low high' (clock_near k known) arguments g (callee_fits f is.below is.callee is.found x g e))),
        λ j lt.
            let lo' : j < length is.callee.outputs = (let e = is.outputs_are in omega arith) in
            let i : inputs_in (node_called p f) ≡ n = ap inputs_in is.found in
            let within = clock_within fl (n + j) Base (callee_outputs f is.below is.callee is.found j lo') in
            inr (omega (arith, low), omega (arith, high', within, i)),
      )

  module _ (clock_known : (x : List ℕ) → ClockKnown (clock_of node x)) where
    mutual
      pub near : (e : Tree) (k : Option Condition) (w : ℕ) → ClockKnown k → IsWell p node Below e w → Inside nv lo hi (walk p lists node e k) w
      near (tree.number a) k w known well = near_leaf nv lo hi (flow_of p lists node (tree.number a) k (Constant (Int (pos a)))) w (own_near (tree.number a) k (Constant (Int (pos a))) known (none_near nv lo hi))
      near (tree.truth b) k w known well = near_leaf nv lo hi (flow_of p lists node (tree.truth b) k (Constant (Truth b))) w (own_near (tree.truth b) k (Constant (Truth b)) known (none_near nv lo hi))
      near (tree.label x) k w known well = near_leaf nv lo hi (flow_of p lists node (tree.label x) k (Constant (Name x.number))) w (own_near (tree.label x) k (Constant (Name x.number)) known (none_near nv lo hi))
      near (tree.variable x) k w known well = λ s low high.
          (tt, λ j lt. let e = well.0 in let z : variable_place p lists node x ≡ variable_place p lists node x + j = omega arith in subst (Near nv lo hi) z (inl well.1))
      near (tree.unary (Data1 op) a) k w known well =
          near_after nv lo hi (walk p lists node a k) (λ x. leaf (flow_of p lists node (tree.unary (Data1 op) a) k (Unary op x))) w (near a k 1 known well)
          (λ x h. near_leaf nv lo hi (flow_of p lists node (tree.unary (Data1 op) a) k (Unary op x)) w (own_near (tree.unary (Data1 op) a) k (Unary op x) known (one_near nv lo hi x h)))
      near (tree.unary Before a) k w known well =
          near_after nv lo hi (walk p lists node a k) (λ x. leaf (flow_of p lists node (tree.unary Before a) k (Pre x))) w (near a k 1 known well)
          (λ x h. near_leaf nv lo hi (flow_of p lists node (tree.unary Before a) k (Pre x)) w (own_near (tree.unary Before a) k (Pre x) known (one_near nv lo hi x h)))
      near (tree.binary (Data2 op) a b) k w known well =
          let e = tree.binary (Data2 op) a b in
          let root = λ (x y : ℕ). flow_of p lists node e k (Binary op x y) in
          near_after nv lo hi (walk p lists node a k) (λ x. after (walk p lists node b k) (λ y. leaf (root x y))) w (near a k 1 known well.0)
          (λ x h. near_after nv lo hi (walk p lists node b k) (λ y. leaf (root x y)) w (near b k 1 known well.1)
          (λ y g. near_leaf nv lo hi (root x y) w (own_near e k (Binary op x y) known (two_near nv lo hi x y h g))))
      near (tree.binary Starts a b) k w known well =
          let e = tree.binary Starts a b in
          let root = λ (x y : ℕ). flow_of p lists node e k (Arrow x y) in
          near_after nv lo hi (walk p lists node a k) (λ x. after (walk p lists node b k) (λ y. leaf (root x y))) w (near a k 1 known well.0)
          (λ x h. near_after nv lo hi (walk p lists node b k) (λ y. leaf (root x y)) w (near b k 1 known well.1)
          (λ y g. near_leaf nv lo hi (root x y) w (own_near e k (Arrow x y) known (two_near nv lo hi x y h g))))
      near (tree.binary FollowedBy a b) k w known well =
          let e = tree.binary FollowedBy a b in
          let pre = λ (y : ℕ). leaf (flow_of p lists node (tree.unary Before b) k (Pre y)) in
          let root = λ (x y : ℕ). flow_of p lists node e k (Arrow x y) in
          near_after nv lo hi (walk p lists node a k) (λ x. after (walk p lists node b k) (λ y. after (pre y) (λ z. leaf (root x z)))) w (near a k 1 known well.0)
          (λ x h. near_after nv lo hi (walk p lists node b k) (λ y. after (pre y) (λ z. leaf (root x z))) w (near b k 1 known well.1)
          (λ y g. near_after nv lo hi (pre y) (λ z. leaf (root x z)) w (near_leaf nv lo hi (flow_of p lists node (tree.unary Before b) k (Pre y)) 1 (own_near (tree.unary Before b) k (Pre y) known (one_near nv lo hi y g)))
          (λ z f. near_leaf nv lo hi (root x z) w (own_near e k (Arrow x z) known (two_near nv lo hi x z h f)))))
      near (tree.choice c a b) k w known well =
          let e = tree.choice c a b in
          let root = λ (x y z : ℕ). flow_of p lists node e k (If x y z) in
          near_after nv lo hi (walk p lists node c k) (λ x. after (walk p lists node a k) (λ y. after (walk p lists node b k) (λ z. leaf (root x y z)))) w (near c k 1 known well.0)
          (λ x h. near_after nv lo hi (walk p lists node a k) (λ y. after (walk p lists node b k) (λ z. leaf (root x y z))) w (near a k 1 known well.1)
          (λ y g. near_after nv lo hi (walk p lists node b k) (λ z. leaf (root x y z)) w (near b k 1 known well.2)
          (λ z f. near_leaf nv lo hi (root x y z) w (own_near e k (If x y z) known (three_near nv lo hi x y z h g f)))))
      near (tree.when a c) k w known well =
          let kc = clock_of node c.variable in
          let root = λ (x : ℕ). flow_of p lists node (tree.when a c) (Some c) (When x) in
          near_after nv lo hi (walk p lists node a kc) (λ x. leaf (root x)) w (near a kc 1 (clock_known c.variable) well.1)
          (λ x h. near_leaf nv lo hi (root x) w (own_near (tree.when a c) (Some c) (When x) well.0 (one_near nv lo hi x h)))
      near (tree.current x) k w known well =
          near_leaf nv lo hi (flow_of p lists node (tree.current x) k (Current (variable_place p lists node x))) w (own_near (tree.current x) k (Current (variable_place p lists node x)) known (one_near nv lo hi (variable_place p lists node x) (inl well)))
      near (tree.merge c ps all) k w known well =
          let e = tree.merge c ps all in
          let cp = variable_place p lists node c in
          let root = λ (xs : List ℕ). flow_of p lists node e k (Merge cp xs) in
          near_branches c ps all w (λ xs. leaf (root xs)) well.0 well.1
          (λ xs places. near_leaf nv lo hi (root xs) w (own_near e k (Merge cp xs) known (all_cons (Near nv lo hi) cp xs (inl well.0) places)))
      near (tree.call f all) k w known well =
          near_all all k w (λ xs. instance p lists f (clock_place node k) xs) known well.1
          (λ xs l places. near_instance f k xs w known (subst (λ n. CallIs p node Below f n w) (sym l) well.0) places)

      pub near_all : (all : Trees) (k : Option Condition) (w : ℕ) (rest : List ℕ → Walking) → ClockKnown k → AllWell p node Below all
          → ((xs : List ℕ) → length xs ≡ length (trees_in all) → All (Near nv lo hi) xs → Inside nv lo hi (rest xs) w) → Inside nv lo hi (walk_all p lists node all k rest) w
      near_all tree.none k w rest known well h = h [] refl (none_near nv lo hi)
      near_all (tree.more a all) k w rest known well h =
          near_after nv lo hi (walk p lists node a k) (λ x. walk_all p lists node all k (λ xs. rest (x ∷ xs))) w (near a k 1 known well.0)
          (λ x g. near_all all k w (λ xs. rest (x ∷ xs)) known well.1 (λ xs l places. h (x ∷ xs) (ap suc l) (all_cons (Near nv lo hi) x xs g places)))

      pub near_branches : (c : List ℕ) (ps : List Pattern) (all : Trees) (w : ℕ) (rest : List ℕ → Walking) → Known p node Below c → AllWell p node Below all
          → ((xs : List ℕ) → All (Near nv lo hi) xs → Inside nv lo hi (rest xs) w) → Inside nv lo hi (walk_branches p lists node c ps all rest) w
      near_branches c ps tree.none w rest known well h = h [] (none_near nv lo hi)
      near_branches c ps (tree.more a all) w rest known well h =
          let k = condition c (first_pattern ps) in
          near_after nv lo hi (walk p lists node a k) (λ x. walk_branches p lists node c (next_patterns ps) all (λ xs. rest (x ∷ xs))) w (near a k 1 known well.0)
          (λ x g. near_branches c (next_patterns ps) all w (λ xs. rest (x ∷ xs)) known well.1 (λ xs places. h (x ∷ xs) (all_cons (Near nv lo hi) x xs g places)))
