-- Flows name flows, and a copy stands on the clock of what it copies.
use Rattle.std.proofs.Common.{◌≡◌, ℕ, zero, suc, ◌+◌, ◌<◌, ◌≤◌, List, [], ◌∷◌, ◌++◌, length, map, get_or, Option, Some, None, refl, sym, ap, ◌∙◌, subst, arith}
use Rattle.std.specs.Prelude.{slice_get, slice_index, pos, option_map, All}
use Rattle.std.proofs.lemmas.List.Elements.{All-nil, All-map, All-weaker}
use Rattle.std.proofs.lemmas.Option.{slice_get_within, slice_get-get_or}
use Rattle.lutree.specs.declared.expr.Pattern.{Pattern}
use Rattle.lutree.specs.declared.expr.Condition.{Condition}
use Rattle.lutree.specs.declared.expr.Prefix.TheVariants.{Data as Data1, Pre as Before}
use Rattle.lutree.specs.declared.expr.Infix.TheVariants.{Data as Data2, Arrow as Starts, FollowedBy}
use Rattle.lutree.specs.Tree.{Tree, Trees, list_of as trees_in, EquationTree, NodeTree, ProgramTree}
use Rattle.lutree.specs.Tree as tree
use Rattle.lutree.specs.declared.program.Kind.TheVariants.{Int as Ints}
use Rattle.luflow.specs.declared.data.Datum.TheVariants.{Int, Bool as Truth, Name}
use Rattle.luflow.specs.declared.form.Clock.{Clock}
use Rattle.luflow.specs.declared.form.Clock.TheVariants.{Base, On}
use Rattle.luflow.specs.declared.form.Form.{Form}
use Rattle.luflow.specs.declared.form.Form.TheVariants.{Input, Constant, Copied, Unary, Binary, If, Pre, Arrow, When, Current, Merge}
use Rattle.luflow.specs.declared.form.Flow.{Flow}
use Rattle.luflow.specs.Program.{places, clock_reads}
use Rattle.lusource.specs.Names.{clock_of}
use Rattle.lustat_rules.specs.Scope.{declarations_of, node_called}
use Rattle.lusource.specs.Source.{condition}
use Rattle.lustat_rules.specs.Clocks.{HasClock, FitsClockInside, AllFitInside, BranchesFitInside}
use Rattle.lucore_laws.specs.Layout.{Root, Walking, root_flows, made, root_place, place, behind, leaf, after, moved_form, moved_clock, moved, list_of, inputs_in, instance, clock_place, flow_of, variable_place, variable_count, walk, walk_all, walk_branches}
use Rattle.lucore_laws.specs.Layout.Root.{own, at}
use Rattle.lucore_laws.proofs.Each.{Each, each_left, each_right, each_join, each_all, each_at, each_map, each_unmap}
use Rattle.lucore_laws.proofs.Names.{all_head, all_tail, mapped_some, clock_named}
use Rattle.lucore_laws.proofs.Well.{Known, IsWell, AllWell, CallIs}

pub all_cons : {A : Type 0} (P : A → Type 0) (x : A) (xs : List A) → P x → All P xs → All P (x ∷ xs)
all_cons P x xs h t zero d lt = h
all_cons P x xs h t (suc k) d lt = t k d (omega (arith, lt))

-- the clock of the flow at a place
abbrev pub clock_on : List Flow → ℕ → Option Clock
clock_on L a = option_map (λ (f : Flow). f.clock) (slice_get L a)

pub clock_within : (L : List Flow) (a : ℕ) (k : Clock) → clock_on L a ≡ Some k → a < length L
clock_within L a k e = let f = mapped_some (λ (f : Flow). f.clock) (slice_get L a) k e in slice_get_within L a f.0 f.1

abbrev pub InList : List Flow → ℕ → Type 0
InList L r = r < length L

-- an input is one of n, on the base clock, and a copy stands on the clock of what it copies
abbrev pub CopyFits : List Flow → ℕ → Clock → Form → Type 0
CopyFits L n k (Input r) = (k ≡ Base) × (r < n)
CopyFits L n k (Constant d) = Unit {0}
CopyFits L n k (Copied a) = clock_on L a ≡ Some k
CopyFits L n k (Unary op a) = Unit {0}
CopyFits L n k (Binary op a b) = Unit {0}
CopyFits L n k (If c a b) = Unit {0}
CopyFits L n k (Pre a) = Unit {0}
CopyFits L n k (Arrow a b) = Unit {0}
CopyFits L n k (When a) = Unit {0}
CopyFits L n k (Current a) = Unit {0}
CopyFits L n k (Merge c xs) = Unit {0}

pub record FlowFits (L : List Flow) (n : ℕ) (f : Flow) : Type 0 where
  pub places_in : All (InList L) (places f.form)
  pub clocks_in : All (InList L) (clock_reads f.clock)
  pub copy : CopyFits L n f.clock f.form

abbrev pub AreFit : List Flow → ℕ → Type 0
AreFit L n = (x : ℕ) (f : Flow) → slice_get L x ≡ Some f → FlowFits L n f

-- how a root stands on the clock k
abbrev pub RootFits : List Flow → ℕ → Clock → ℕ → Root → Type 0
RootFits L n k w (own f) = FlowFits L n f × (f.clock ≡ k)
RootFits L n k w (at a) = (j : ℕ) → j < w → clock_on L (a + j) ≡ Some k

module _ (L : List Flow) (n : ℕ) where
  abbrev pub Stands : ℕ → List Flow → Type 0
  Stands s xs = Each (λ x f. slice_get L x ≡ Some f) s xs

  abbrev pub Fit : ℕ → List Flow → Type 0
  Fit s xs = Each (λ x f. FlowFits L n f) s xs

  -- where the inner flows of a walk stand in the list, they fit, and so does its root
  abbrev pub Static : Walking → ℕ → Clock → Type 0
  Static w width k = (s : ℕ) → Stands s (w s).inner → Fit s (w s).inner × RootFits L n k width (w s).root

  static_operand : (s : ℕ) (inner : List Flow) (root : Root) (k : Clock) → Stands s (inner ++ root_flows root) → Fit s inner → RootFits L n k 1 root → Fit s (inner ++ root_flows root) × (clock_on L (root_place (s + length inner) root) ≡ Some k)
  static_operand s inner (own f) k stand fit root =
      let here = (each_right (λ x f. slice_get L x ≡ Some f) s inner (f ∷ []) stand).0 in
      (each_join (λ x f. FlowFits L n f) s inner (f ∷ []) fit (root.0, tt), ap (option_map (λ (f : Flow). f.clock)) here ∙ ap Some root.1)
  static_operand s inner (at a) k stand fit root =
      let z : a ≡ a + 0 = omega arith in
      (each_join (λ x f. FlowFits L n f) s inner [] fit tt, ap (clock_on L) z ∙ root 0 (omega arith))

  pub static_leaf : (f : Flow) (w : ℕ) (k : Clock) → FlowFits L n f → f.clock ≡ k → Static (leaf f) w k
  static_leaf f w k fits clock s stand = (tt, (fits, clock))

  pub static_after : (a : Walking) (rest : ℕ → Walking) (w : ℕ) (ka k : Clock) → Static a 1 ka → ((x : ℕ) → clock_on L x ≡ Some ka → Static (rest x) w k) → Static (after a rest) w k
  static_after a rest w ka k first then s stand =
      let r = rest (place s (a s)) (behind s (a s)) in
      let h = each_left (λ x f. slice_get L x ≡ Some f) s (made (a s)) r.inner stand in
      let f = first s (each_left (λ x f. slice_get L x ≡ Some f) s (a s).inner (root_flows (a s).root) h) in
      let o = static_operand s (a s).inner (a s).root ka h f.0 f.1 in
      let t = then (place s (a s)) o.1 (behind s (a s)) (each_right (λ x f. slice_get L x ≡ Some f) s (made (a s)) r.inner stand) in
      (each_join (λ x f. FlowFits L n f) s (made (a s)) r.inner o.0 t.0, t.1)

-- A MOVED LIST

module _ (L fl : List Flow) (n m s : ℕ) (k : Clock) (xs : List ℕ) (here : (x : ℕ) (f : Flow) → slice_get fl x ≡ Some f → slice_get L (s + x) ≡ Some (moved s k xs f)) (clock_in : All (InList L) (clock_reads k)) (arguments : (r : ℕ) → r < m → clock_on L (slice_index xs r) ≡ Some k) where
  moved_in : (r : ℕ) → r < length fl → s + r < length L
  moved_in r lt =
      let d : Flow = record { form = Input 0; clock = Base; kind = Ints } in
      slice_get_within L (s + r) (moved s k xs (get_or fl r d)) (here r (get_or fl r d) (slice_get-get_or fl r d lt))

  moved_one : (a : ℕ) → All (InList fl) (a ∷ []) → All (InList L) ((s + a) ∷ [])
  moved_one a h = all_cons (InList L) (s + a) [] (moved_in a (all_head (InList fl) a [] h)) (All-nil (InList L))

  moved_two : (a b : ℕ) → All (InList fl) (a ∷ b ∷ []) → All (InList L) ((s + a) ∷ (s + b) ∷ [])
  moved_two a b h = all_cons (InList L) (s + a) ((s + b) ∷ []) (moved_in a (all_head (InList fl) a (b ∷ []) h)) (moved_one b (all_tail (InList fl) a (b ∷ []) h))

  moved_three : (a b c : ℕ) → All (InList fl) (a ∷ b ∷ c ∷ []) → All (InList L) ((s + a) ∷ (s + b) ∷ (s + c) ∷ [])
  moved_three a b c h =
      all_cons (InList L) (s + a) ((s + b) ∷ (s + c) ∷ []) (moved_in a (all_head (InList fl) a (b ∷ c ∷ []) h)) (moved_two b c (all_tail (InList fl) a (b ∷ c ∷ []) h))

  moved_places : (f : Form) (c : Clock) → CopyFits fl m c f → All (InList fl) (places f) → All (InList L) (places (moved_form s xs f))
  moved_places (Input r) c copy h = all_cons (InList L) (slice_index xs r) [] (clock_within L (slice_index xs r) k (arguments r copy.1)) (All-nil (InList L))
  moved_places (Constant d) c copy h = All-nil (InList L)
  moved_places (Copied a) c copy h = moved_one a h
  moved_places (Unary op a) c copy h = moved_one a h
  moved_places (Binary op a b) c copy h = moved_two a b h
  moved_places (If c a b) _ copy h = moved_three c a b h
  moved_places (Pre a) c copy h = moved_one a h
  moved_places (Arrow a b) c copy h = moved_two a b h
  moved_places (When a) c copy h = moved_one a h
  moved_places (Current a) c copy h = moved_one a h
  moved_places (Merge v ys) _ copy h =
      all_cons (InList L) (s + v) (map (λ x. s + x) ys) (moved_in v (all_head (InList fl) v ys h))
      (All-map (InList L) (λ x. s + x) ys (All-weaker (InList fl) (λ x. InList L (s + x)) moved_in ys (all_tail (InList fl) v ys h)))

  moved_clocks : (c : Clock) → All (InList fl) (clock_reads c) → All (InList L) (clock_reads (moved_clock s k c))
  moved_clocks Base h = clock_in
  moved_clocks (On c d) h = moved_one c h

  moved_clock_on : (a : ℕ) (c : Clock) → clock_on fl a ≡ Some c → clock_on L (s + a) ≡ Some (moved_clock s k c)
  moved_clock_on a c e =
      let f = mapped_some (λ (f : Flow). f.clock) (slice_get fl a) c e in
      ap (option_map (λ (f : Flow). f.clock)) (here a f.0 f.1) ∙ ap (λ c. Some (moved_clock s k c)) f.2

  moved_copy : (f : Form) (c : Clock) → CopyFits fl m c f → CopyFits L n (moved_clock s k c) (moved_form s xs f)
  moved_copy (Input r) c copy = arguments r copy.1 ∙ ap (λ c. Some (moved_clock s k c)) (sym copy.0)
  moved_copy (Constant d) c copy = tt
  moved_copy (Copied a) c copy = moved_clock_on a c copy
  moved_copy (Unary op a) c copy = tt
  moved_copy (Binary op a b) c copy = tt
  moved_copy (If c a b) _ copy = tt
  moved_copy (Pre a) c copy = tt
  moved_copy (Arrow a b) c copy = tt
  moved_copy (When a) c copy = tt
  moved_copy (Current a) c copy = tt
  moved_copy (Merge v ys) _ copy = tt

  pub moved_fits : (f : Flow) → FlowFits fl m f → FlowFits L n (moved s k xs f)
  moved_fits f h =
      record { places_in = moved_places f.form f.clock h.copy h.places_in; clocks_in = moved_clocks f.clock h.clocks_in; copy = moved_copy f.form f.clock h.copy }

  pub moved_output : (a : ℕ) → clock_on fl a ≡ Some Base → clock_on L (s + a) ≡ Some k
  moved_output a e = moved_clock_on a Base e

-- EXPRESSIONS

module _ (p : ProgramTree) (lists : List (List Flow)) (node : NodeTree) (Below : List ℕ → Type 0) (L : List Flow) (n : ℕ) (long : variable_count p lists node ≤ length L)
    (variables : (x : List ℕ) (c : Option Condition) → HasClock node x c → clock_on L (variable_place p lists node x) ≡ Some (clock_place node c))
    (callee_fits : (f : List ℕ) → Below f → (callee : NodeTree) → node_called p f ≡ Some callee → AreFit (list_of p lists f) (length callee.inputs))
    (callee_outputs : (f : List ℕ) → Below f → (callee : NodeTree) → node_called p f ≡ Some callee → (j : ℕ) → j < length callee.outputs → clock_on (list_of p lists f) (length callee.inputs + j) ≡ Some Base) where
  abbrev pub KnownClock : Option Condition → Type 0
  KnownClock None = Unit {0}
  KnownClock (Some c) = Known p node Below c.variable

  clock_there : (k : Option Condition) → KnownClock k → All (InList L) (clock_reads (clock_place node k))
  clock_there None known = All-nil (InList L)
  clock_there (Some c) known = all_cons (InList L) (variable_place p lists node c.variable) [] (omega (arith, known, long)) (All-nil (InList L))

  one_in : (x : ℕ) (k : Clock) → clock_on L x ≡ Some k → All (InList L) (x ∷ [])
  one_in x k e = all_cons (InList L) x [] (clock_within L x k e) (All-nil (InList L))

  two_in : (x y : ℕ) (k j : Clock) → clock_on L x ≡ Some k → clock_on L y ≡ Some j → All (InList L) (x ∷ y ∷ [])
  two_in x y k j e f = all_cons (InList L) x (y ∷ []) (clock_within L x k e) (one_in y j f)

  static_instance : (f : List ℕ) (k : Option Condition) (xs : List ℕ) (w : ℕ) → KnownClock k → CallIs p node Below f (length xs) w → All (λ x. clock_on L x ≡ Some (clock_place node k)) xs → Static L n (instance p lists f (clock_place node k) xs) w (clock_place node k)
  static_instance f k xs w known is places s stand =
      let fl = list_of p lists f in
      let ck = clock_place node k in
      let m = length is.callee.inputs in
      let fits = callee_fits f is.below is.callee is.found in
      let here : (x : ℕ) (g : Flow) → slice_get fl x ≡ Some g → slice_get L (s + x) ≡ Some (moved s ck xs g) = λ x g e.
      each_at (λ x g. slice_get L x ≡ Some (moved s ck xs g)) s fl x g (each_unmap (λ x g. slice_get L x ≡ Some g) (moved s ck xs) s fl stand) e in
      let arguments : (r : ℕ) → r < m → clock_on L (slice_index xs r) ≡ Some ck = λ r lt. (let e = is.arguments_are in places r 0 (omega arith)) in (
        each_map (λ x g. FlowFits L n g) (moved s ck xs) s fl (each_all (λ x g. FlowFits L n (moved s ck xs g)) s fl (λ x g e. moved_fits L fl n m s ck xs here (clock_there k known) arguments g (fits x g e))),
        λ j lt.
            let lo : j < length is.callee.outputs = (let e = is.outputs_are in omega arith) in
            let i : inputs_in (node_called p f) ≡ m = ap inputs_in is.found in
            let z : s + inputs_in (node_called p f) + j ≡ s + (m + j) = omega arith in
            ap (clock_on L) z ∙ moved_output L fl n m s ck xs here (clock_there k known) arguments (m + j) (callee_outputs f is.below is.callee is.found j lo),
      )

  module _ (clock_known : (x : List ℕ) → KnownClock (clock_of node x)) where
    mutual
      pub static : (e : Tree) (k : Option Condition) (w : ℕ) → KnownClock k → IsWell p node Below e w → FitsClockInside node e k → Static L n (walk p lists node e k) w (clock_place node k)
      static (tree.number a) k w known well fits =
          static_leaf L n (flow_of p lists node (tree.number a) k (Constant (Int (pos a)))) w (clock_place node k) (record { places_in = All-nil (InList L); clocks_in = clock_there k known; copy = tt }) refl
      static (tree.truth b) k w known well fits =
          static_leaf L n (flow_of p lists node (tree.truth b) k (Constant (Truth b))) w (clock_place node k) (record { places_in = All-nil (InList L); clocks_in = clock_there k known; copy = tt }) refl
      static (tree.label x) k w known well fits =
          static_leaf L n (flow_of p lists node (tree.label x) k (Constant (Name x.number))) w (clock_place node k) (record { places_in = All-nil (InList L); clocks_in = clock_there k known; copy = tt }) refl
      static (tree.variable x) k w known well fits = λ s stand.
          (tt, λ j lt. let e = well.0 in let z : variable_place p lists node x + j ≡ variable_place p lists node x = omega arith in ap (clock_on L) z ∙ variables x k fits)
      static (tree.unary (Data1 op) a) k w known well fits =
          static_after L n (walk p lists node a k) (λ x. leaf (flow_of p lists node (tree.unary (Data1 op) a) k (Unary op x))) w (clock_place node k) (clock_place node k) (static a k 1 known well fits)
          (λ x e. static_leaf L n (flow_of p lists node (tree.unary (Data1 op) a) k (Unary op x)) w (clock_place node k) (record { places_in = one_in x (clock_place node k) e; clocks_in = clock_there k known; copy = tt }) refl)
      static (tree.unary Before a) k w known well fits =
          static_after L n (walk p lists node a k) (λ x. leaf (flow_of p lists node (tree.unary Before a) k (Pre x))) w (clock_place node k) (clock_place node k) (static a k 1 known well fits)
          (λ x e. static_leaf L n (flow_of p lists node (tree.unary Before a) k (Pre x)) w (clock_place node k) (record { places_in = one_in x (clock_place node k) e; clocks_in = clock_there k known; copy = tt }) refl)
      static (tree.binary (Data2 op) a b) k w known well fits =
          let ck = clock_place node k in
          let root = λ (x y : ℕ). flow_of p lists node (tree.binary (Data2 op) a b) k (Binary op x y) in
          static_after L n (walk p lists node a k) (λ x. after (walk p lists node b k) (λ y. leaf (root x y))) w ck ck (static a k 1 known well.0 fits.0)
          (λ x e. static_after L n (walk p lists node b k) (λ y. leaf (root x y)) w ck ck (static b k 1 known well.1 fits.1)
          (λ y e'. static_leaf L n (root x y) w ck (record { places_in = two_in x y ck ck e e'; clocks_in = clock_there k known; copy = tt }) refl))
      static (tree.binary Starts a b) k w known well fits =
          let ck = clock_place node k in
          let root = λ (x y : ℕ). flow_of p lists node (tree.binary Starts a b) k (Arrow x y) in
          static_after L n (walk p lists node a k) (λ x. after (walk p lists node b k) (λ y. leaf (root x y))) w ck ck (static a k 1 known well.0 fits.0)
          (λ x e. static_after L n (walk p lists node b k) (λ y. leaf (root x y)) w ck ck (static b k 1 known well.1 fits.1)
          (λ y e'. static_leaf L n (root x y) w ck (record { places_in = two_in x y ck ck e e'; clocks_in = clock_there k known; copy = tt }) refl))
      static (tree.binary FollowedBy a b) k w known well fits =
          let ck = clock_place node k in
          let pre = λ (y : ℕ). flow_of p lists node (tree.unary Before b) k (Pre y) in
          let root = λ (x z : ℕ). flow_of p lists node (tree.binary FollowedBy a b) k (Arrow x z) in
          static_after L n (walk p lists node a k) (λ x. after (walk p lists node b k) (λ y. after (leaf (pre y)) (λ z. leaf (root x z)))) w ck ck (static a k 1 known well.0 fits.0)
          (λ x e. static_after L n (walk p lists node b k) (λ y. after (leaf (pre y)) (λ z. leaf (root x z))) w ck ck (static b k 1 known well.1 fits.1)
          (λ y e'. static_after L n (leaf (pre y)) (λ z. leaf (root x z)) w ck ck (static_leaf L n (pre y) 1 ck (record { places_in = one_in y ck e'; clocks_in = clock_there k known; copy = tt }) refl)
          (λ z e''. static_leaf L n (root x z) w ck (record { places_in = two_in x z ck ck e e''; clocks_in = clock_there k known; copy = tt }) refl)))
      static (tree.choice c a b) k w known well fits =
          let ck = clock_place node k in
          let root = λ (x y z : ℕ). flow_of p lists node (tree.choice c a b) k (If x y z) in
          static_after L n (walk p lists node c k) (λ x. after (walk p lists node a k) (λ y. after (walk p lists node b k) (λ z. leaf (root x y z)))) w ck ck (static c k 1 known well.0 fits.0)
          (λ x e. static_after L n (walk p lists node a k) (λ y. after (walk p lists node b k) (λ z. leaf (root x y z))) w ck ck (static a k 1 known well.1 fits.1)
          (λ y e'. static_after L n (walk p lists node b k) (λ z. leaf (root x y z)) w ck ck (static b k 1 known well.2 fits.2)
          (λ z e''. static_leaf L n (root x y z) w ck (record { places_in = all_cons (InList L) x (y ∷ z ∷ []) (clock_within L x ck e) (two_in y z ck ck e' e''); clocks_in = clock_there k known; copy = tt }) refl)))
      static (tree.when a c) k w known well fits =
          let kc = clock_of node c.variable in
          let same : kc ≡ fits.1.0 = clock_named (declarations_of node) c.variable fits.1.0 fits.1.1 in
          let root = λ (x : ℕ). flow_of p lists node (tree.when a c) (Some c) (When x) in
          static_after L n (walk p lists node a kc) (λ x. leaf (root x)) w (clock_place node kc) (clock_place node k) (static a kc 1 (clock_known c.variable) well.1 (subst (FitsClockInside node a) (sym same) fits.1.2))
          (λ x e. static_leaf L n (root x) w (clock_place node k) (record { places_in = one_in x (clock_place node kc) e; clocks_in = clock_there (Some c) well.0; copy = tt }) (ap (clock_place node) (sym fits.0)))
      static (tree.current x) k w known well fits =
          static_leaf L n (flow_of p lists node (tree.current x) k (Current (variable_place p lists node x))) w (clock_place node k)
          (record { places_in = all_cons (InList L) (variable_place p lists node x) [] (omega (arith, well, long)) (All-nil (InList L)); clocks_in = clock_there k known; copy = tt }) refl
      static (tree.merge c ps all) k w known well fits =
          let cp = variable_place p lists node c in
          let root = λ (xs : List ℕ). flow_of p lists node (tree.merge c ps all) k (Merge cp xs) in
          static_branches c ps all k w (λ xs. leaf (root xs)) well.0 well.1 fits.1
          (λ xs inside. static_leaf L n (root xs) w (clock_place node k) (record { places_in = all_cons (InList L) cp xs (omega (arith, well.0, long)) inside; clocks_in = clock_there k known; copy = tt }) refl)
      static (tree.call f all) k w known well fits =
          static_all all k w (λ xs. instance p lists f (clock_place node k) xs) known well.1 fits
          (λ xs l places. static_instance f k xs w known (subst (λ n. CallIs p node Below f n w) (sym l) well.0) places)

      pub static_all : (all : Trees) (k : Option Condition) (w : ℕ) (rest : List ℕ → Walking) → KnownClock k → AllWell p node Below all → AllFitInside node all k
          → ((xs : List ℕ) → length xs ≡ length (trees_in all) → All (λ x. clock_on L x ≡ Some (clock_place node k)) xs → Static L n (rest xs) w (clock_place node k)) → Static L n (walk_all p lists node all k rest) w (clock_place node k)
      static_all tree.none k w rest known well fits h = h [] refl (All-nil (λ x. clock_on L x ≡ Some (clock_place node k)))
      static_all (tree.more a all) k w rest known well fits h =
          static_after L n (walk p lists node a k) (λ x. walk_all p lists node all k (λ xs. rest (x ∷ xs))) w (clock_place node k) (clock_place node k) (static a k 1 known well.0 fits.0)
          (λ x e. static_all all k w (λ xs. rest (x ∷ xs)) known well.1 fits.1 (λ xs l places. h (x ∷ xs) (ap suc l) (all_cons (λ x. clock_on L x ≡ Some (clock_place node k)) x xs e places)))

      pub static_branches : (c : List ℕ) (ps : List Pattern) (all : Trees) (k : Option Condition) (w : ℕ) (rest : List ℕ → Walking) → Known p node Below c → AllWell p node Below all → BranchesFitInside node c ps all
          → ((xs : List ℕ) → All (InList L) xs → Static L n (rest xs) w (clock_place node k)) → Static L n (walk_branches p lists node c ps all rest) w (clock_place node k)
      static_branches c [] tree.none k w rest known well fits h = h [] (All-nil (InList L))
      static_branches c (q ∷ ps) tree.none k w rest known well fits h = absurd fits
      static_branches c [] (tree.more a all) k w rest known well fits h = absurd fits
      static_branches c (q ∷ ps) (tree.more a all) k w rest known well fits h =
          let ka = condition c q in
          static_after L n (walk p lists node a ka) (λ x. walk_branches p lists node c ps all (λ xs. rest (x ∷ xs))) w (clock_place node ka) (clock_place node k) (static a ka 1 known well.0 fits.0)
          (λ x e. static_branches c ps all k w (λ xs. rest (x ∷ xs)) known well.1 fits.1
          (λ xs inside. h (x ∷ xs) (all_cons (InList L) x xs (clock_within L x (clock_place node ka) e) inside)))
