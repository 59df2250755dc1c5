-- Where an own flow of a part is at fault, the operator that stands there is at fault in the source.
use Rattle.std.proofs.Common.{◌≡◌, ℕ, zero, suc, ◌+◌, ◌<◌, List, [], ◌∷◌, length, map, Option, Some, refl, sym, ap, ◌∙◌, subst, arith}
use Rattle.std.specs.Prelude.{true, slice_get}
use Rattle.std.proofs.lemmas.List.{append-nil}
use Rattle.std.proofs.lemmas.Option.{slice_get-map, same_Some}
use Rattle.lutree.specs.declared.expr.Condition.{Condition}
use Rattle.lutree.specs.declared.expr.Prefix.TheVariants.{Data as Data1, Pre as Before}
use Rattle.lutree.specs.declared.expr.Infix.TheVariants.{Data as Data2, Arrow as Starts, FollowedBy}
use Rattle.lutree.specs.Tree.{Tree, Trees, list_of as trees_in, NodeTree, ProgramTree}
use Rattle.lutree.specs.Tree as tree
use Rattle.luflow.specs.declared.form.FaultKind.{FaultKind}
use Rattle.luflow.specs.declared.form.Form.{Form}
use Rattle.luflow.specs.declared.form.Form.TheVariants.{Input, Constant, Copied, Unary, Binary, If, Pre, Arrow, When, Current, Merge}
use Rattle.luflow.specs.declared.form.Flow.{Flow}
use Rattle.luflow.specs.Streams.{Stream, Streams, Ticks}
use Rattle.lusource.specs.Names.{variables_of, clock_of, AreDistinct}
use Rattle.lusource.specs.Source.{SourceStreams, CallInstance, calls, ticks, value, values, sites, all_sites}
use Rattle.lustat_rules.specs.Scope.{node_called}
use Rattle.lucore_laws.specs.Layout.{made, root_flows, place, list_of, moved, clock_place, variable_place, walk}
use Rattle.lucore_laws.specs.Sizes.{made_size}
use Rattle.lucore_laws.proofs.Each.{Each, each_left}
use Rattle.lucore_laws.proofs.Names.{mapped_some}
use Rattle.lucore_laws.proofs.Open.{Model, clock_ticks, FlowHolds, Hold, Solves, moved_model, instance_solves}
use Rattle.lucore_laws.proofs.Spots.{Spot, spots, node_spots}
use Rattle.lucore_laws.proofs.ListInstances.{HasInstances}
use Rattle.lucore_laws.proofs.SourceFaults as expressions
use Rattle.lucore_laws.proofs.SourceFaults.{FlowFails, FormFails, ReportsAndShows, flow_moved, seen}
use Rattle.lucore_laws.proofs.Well.{Known, IsWell}
use Rattle.luinside.specs.Parts.{operands, operand_clock, calls_among}
use Rattle.luinside.specs.Owns.{Among, own_size, sum_made}
use Rattle.lueval.specs.declared.faults.Reads.{Reads}
use Rattle.lueval.specs.Reads.{one, two, form_reads}
use Rattle.luinside.specs.Reads.{expression_reads}
use Rattle.luinside.specs.Sites.{FailsHere}
use Rattle.luinside.proofs.Operands.{places_each, end_each, own_at}
use Rattle.luinside.proofs.Descent.{Counted, WellOne, wells, of_middle, AllOf, counted_inside, each_operand, each_spot, each_own, each_own_spot, end_here, start, clock}
use Rattle.luinside.proofs.Finding.{own_reads}
use Rattle.luinside.proofs.CallSites.{each_operand_site, each_own_site}

-- a flow that is at fault reads something
pub fails_reads : (τ : Streams) (t : ℕ) (kind : FaultKind) (form : Form) → FormFails τ t kind form → (r : Reads) × (form_reads form ≡ Some r)
fails_reads τ t kind (Input r) h = absurd h
fails_reads τ t kind (Constant d) h = absurd h
fails_reads τ t kind (Copied a) h = absurd h
fails_reads τ t kind (Unary op a) h = (one a, refl)
fails_reads τ t kind (Binary op a b) h = (two a b, refl)
fails_reads τ t kind (If c a b) h = absurd h
fails_reads τ t kind (Pre a) h = absurd h
fails_reads τ t kind (Arrow a b) h = absurd h
fails_reads τ t kind (When a) h = absurd h
fails_reads τ t kind (Current a) h = absurd h
fails_reads τ t kind (Merge c xs) h = absurd h

module _ (p : ProgramTree) (lists : List (List Flow)) (node : NodeTree) (Below : List ℕ → Type 0) (base : Ticks) (m : Model) (σ : SourceStreams) (t : ℕ) (kind : FaultKind) (apart : (f : List ℕ) (n : NodeTree) → node_called p f ≡ Some n → AreDistinct (variables_of n)) (tells : (f : List ℕ) → Below f → ReportsAndShows p lists t kind f)
    (agree : (x : List ℕ) → Known p node Below x → m.on (variable_place p lists node x) ≡ σ [] x) where
  abbrev pub KnownClock : Option Condition → Type 0
  KnownClock = expressions.KnownClock p lists node Below base m σ t kind apart tells agree

  abbrev pub Placed : ℕ → Spot → Type 0
  Placed = expressions.Placed p lists node Below base m σ t kind apart tells agree

  abbrev stream : Tree → Option Condition → ℕ → Stream
  stream = value p node base (σ []) (λ i. σ (i ∷ []))

  -- this is the call of the node of this number
  abbrev pub IsSite : ℕ → CallInstance → Type 0
  IsSite n site = slice_get (all_sites p node base (σ []) (λ i. σ (i ∷ [])) node.equations 0) n ≡ Some site

  -- this is the spot of the call of this number
  abbrev pub IsSpot : ℕ → Spot → Type 0
  IsSpot n spot = slice_get (node_spots p lists node) n ≡ Some spot

  -- what is known of an expression where it stands
  pub record Good (e : Tree) (k : Option Condition) (i s : ℕ) : Type 0 where
    pub width : ℕ
    pub well : IsWell p node Below e width
    pub known : KnownClock k
    pub placed : Each Placed i (spots p lists node e k s)
    pub hold : Hold base m s (walk p lists node e k s).inner
    pub spots_are : Each IsSpot i (spots p lists node e k s)
    pub calls_are : Each IsSite i (sites p node base (σ []) (λ i. σ (i ∷ [])) e k i)

  module _ (clock_known : (x : List ℕ) → KnownClock (clock_of node x)) (sizes : List ℕ) (sized : (a : Tree) (k : Option Condition) (s : ℕ) → Counted p lists node sizes a → length (made (walk p lists node a k s)) ≡ made_size p sizes a) where
    abbrev C : Tree → Type 0
    C = Counted p lists node sizes

    operand_known : (e : Tree) (k : Option Condition) (w n : ℕ) → IsWell p node Below e w → KnownClock k → KnownClock (operand_clock node e k n)
    operand_known (tree.number c) k w n well known = known
    operand_known (tree.truth b) k w n well known = known
    operand_known (tree.label x) k w n well known = known
    operand_known (tree.variable x) k w n well known = known
    operand_known (tree.unary op a) k w n well known = known
    operand_known (tree.binary op a b) k w n well known = known
    operand_known (tree.choice c a b) k w n well known = known
    operand_known (tree.when a c) k w n well known = clock_known c.variable
    operand_known (tree.current x) k w n well known = known
    operand_known (tree.merge c ps all) k w n well known = well.0
    operand_known (tree.call f all) k w n well known = known

    module _ (e : Tree) (k : Option Condition) (i s : ℕ) (counted : C e) (good : Good e k i s) (n : ℕ) (x : Among (operands e) n) where
      abbrev s' : ℕ
      s' = start p lists node sizes sized e k s counted n x

      abbrev k' : Option Condition
      k' = clock p lists node sizes sized e k s counted n x

      abbrev i' : ℕ
      i' = i + calls_among x.front

      operand_well : IsWell p node Below x.operand 1
      operand_well = of_middle (WellOne p node Below) x.front x.operand x.back (subst (AllOf (WellOne p node Below)) x.are (wells p node Below e good.width good.well))

      operand_hold : Hold base m s' (made (walk p lists node x.operand k' s'))
      operand_hold = each_operand p lists node sizes sized e k s counted n x (FlowHolds base m) good.hold

      pub down : Good x.operand k' i' s'
      down =
          let w = walk p lists node x.operand k' s' in
          record {
            width = 1;
            well = operand_well;
            known = operand_known e k good.width n good.well good.known;
            placed = each_spot p lists node sizes sized e k s counted n x Placed i good.placed;
            hold = each_left (FlowHolds base m) s' w.inner (root_flows w.root) operand_hold;
            spots_are = each_spot p lists node sizes sized e k s counted n x IsSpot i good.spots_are;
            calls_are = each_operand_site p node base (σ []) (λ i. σ (i ∷ [])) IsSite e k i n x good.calls_are;
          }

      -- an operand has its stream at its place
      pub operand_value : m.on (place s' (walk p lists node x.operand k' s')) ≡ stream x.operand k' i'
      operand_value =
          let w = walk p lists node x.operand k' s' in
          let g = down in
          let h = seen p lists node Below base m σ t kind apart tells agree clock_known x.operand k' i' 1 (Unit {0}) g.known operand_well (λ d h. tt) s' g.placed g.hold in
          let v = expressions.operand_at p lists node Below base m σ t kind apart tells agree s' w.inner w.root _ operand_hold (h.0 0 (omega arith)) in
          expressions.is_value p lists node Below base m σ t kind apart tells agree x.operand k' i' (place s' w) v

    abbrev pub Fails : Reads → Tree → Option Condition → ℕ → Type 0
    Fails r = FailsHere p node base (σ []) (λ i. σ (i ∷ [])) m.on t kind r

    clock_then : (k : Option Condition) → KnownClock k → clock_ticks base m.on (clock_place node k) t ≡ Some true → ticks base (σ []) k t ≡ Some true
    clock_then = expressions.clock_then p lists node Below base m σ t kind apart tells agree

    -- a data operator whose own flow is at fault
    pub fails_here : (e : Tree) (k : Option Condition) (i s : ℕ) → C e → Good e k i s → (j b : ℕ) (flow : Flow) (r : Reads) → j < own_size p sizes e → b ≡ s + sum_made p sizes (operands e)
        → slice_get (made (own_at p lists node e k s)) j ≡ Some flow → FlowFails base m t kind flow → expression_reads p sizes node e b ≡ Some r → Fails r e k i
    fails_here (tree.number c) k i s h good j b flow r lt is there fails reads = cc
    fails_here (tree.truth v) k i s h good j b flow r lt is there fails reads = cc
    fails_here (tree.label x) k i s h good j b flow r lt is there fails reads = cc
    fails_here (tree.variable x) k i s h good j b flow r lt is there fails reads = cc
    fails_here (tree.unary (Data1 op) a) k i s h good zero b flow r lt is there fails reads =
        let e = tree.unary (Data1 op) a in
        let x : Among (operands e) 0 = record { front = []; operand = a; back = []; are = refl; number = refl } in
        let f = subst (FlowFails base m t kind) (sym (same_Some _ flow there)) fails in
        let z : s + 0 ≡ s = omega arith in
        let y : i + 0 ≡ i = omega arith in
        let v = subst (λ s. m.on (place s (walk p lists node a k s)) ≡ stream a k (i + 0)) z (operand_value e k i s h good 0 x) ∙ ap (stream a k) y in
        let same = same_Some (one (place s (walk p lists node a k s))) r (own_reads p lists node sizes sized e k s 0 b h tt (omega arith) is ∙ reads) in
        subst (λ r. Fails r e k i) same
        (record { clock = clock_then k good.known f.0; x = f.1.0; operand = ap (λ (u : Stream). u t) (sym v) ∙ f.1.1; fault = f.1.2 }, v, refl)
    fails_here (tree.unary Before a) k i s h good j b flow r lt is there fails reads = cc
    fails_here (tree.binary (Data2 op) a c) k i s h good zero b flow r lt is there fails reads =
        let e = tree.binary (Data2 op) a c in
        let x : Among (operands e) 0 = record { front = []; operand = a; back = c ∷ []; are = refl; number = refl } in
        let x' : Among (operands e) 1 = record { front = a ∷ []; operand = c; back = []; are = refl; number = refl } in
        let f = subst (FlowFails base m t kind) (sym (same_Some _ flow there)) fails in
        let z : s + 0 ≡ s = omega arith in
        let y : i + 0 ≡ i = omega arith in
        let S = s + length (made (walk p lists node a k s)) in
        let ma = sized a k s (counted_inside p lists node sizes sized e k s h 0 x) in
        let z' : s + (made_size p sizes a + 0) ≡ S = omega (arith, ma) in
        let y' : i + calls_among (a ∷ []) ≡ i + calls a = omega arith in
        let v = subst (λ s. m.on (place s (walk p lists node a k s)) ≡ stream a k (i + 0)) z (operand_value e k i s h good 0 x) ∙ ap (stream a k) y in
        let v' = subst (λ s. m.on (place s (walk p lists node c k s)) ≡ stream c k (i + calls_among (a ∷ []))) z' (operand_value e k i s h good 1 x') ∙ ap (stream c k) y' in
        let same = same_Some (two (place s (walk p lists node a k s)) (place S (walk p lists node c k S))) r (own_reads p lists node sizes sized e k s 0 b h tt (omega arith) is ∙ reads) in
        subst (λ r. Fails r e k i) same (
          record { clock = clock_then k good.known f.0; x = f.1.0; y = f.1.1; left = ap (λ (u : Stream). u t) (sym v) ∙ f.1.2; right = ap (λ (u : Stream). u t) (sym v') ∙ f.1.3; fault = f.1.4 },
          v,
          (place S (walk p lists node c k S), refl, v'),
        )
    fails_here (tree.binary Starts a c) k i s h good j b flow r lt is there fails reads = cc
    fails_here (tree.binary FollowedBy a c) k i s h good j b flow r lt is there fails reads = cc
    fails_here (tree.choice c a d) k i s h good j b flow r lt is there fails reads = cc
    fails_here (tree.when a c) k i s h good j b flow r lt is there fails reads = cc
    fails_here (tree.current x) k i s h good j b flow r lt is there fails reads = cc
    fails_here (tree.merge c ps all) k i s h good j b flow r lt is there fails reads = cc
    fails_here (tree.call f all) k i s h good j b flow r lt is there fails reads = cc
    fails_here (tree.unary (Data1 op) a) k i s h good (suc j) b flow r lt is there fails reads = absurd (omega (arith, lt))
    fails_here (tree.binary (Data2 op) a c) k i s h good (suc j) b flow r lt is there fails reads = absurd (omega (arith, lt))

    -- a call one of whose flows is at fault: so is the flow of the called node's list
    pub record Called (f : List ℕ) (k : Option Condition) (b c j : ℕ) : Type 0 where
      pub arguments : List Stream
      pub spot : IsSpot c (record { node = f; at = b })
      pub site : IsSite c (record { node = f; base = ticks base (σ []) k; arguments = arguments })
      pub clock_same : clock_ticks base m.on (clock_place node k) ≡ ticks base (σ []) k
      pub flow : Flow
      pub there : slice_get (list_of p lists f) j ≡ Some flow
      pub model : Model
      pub moves : (y : ℕ) → model.on y ≡ m.on (b + y)
      pub solves : Solves (clock_ticks base m.on (clock_place node k)) model (list_of p lists f)
      pub instances : HasInstances p lists f model.on (λ path. σ (c ∷ path))
      pub fails : FlowFails (clock_ticks base m.on (clock_place node k)) model t kind flow

    pub call_fails : (f : List ℕ) (all : Trees) (k : Option Condition) (i s j b c : ℕ) (flow : Flow) → C (tree.call f all) → Good (tree.call f all) k i s → b ≡ s + sum_made p sizes (trees_in all) → c ≡ i + calls_among (trees_in all)
        → slice_get (made (own_at p lists node (tree.call f all) k s)) j ≡ Some flow → FlowFails base m t kind flow → Called f k b c j
    call_fails f all k i s j b c flow h good is before there fails =
        let e = tree.call f all in
        let ck = clock_place node k in
        let kf = operand_clock node e k in
        let E = end_each p lists node kf (operands e) s in
        let xs = places_each p lists node kf (operands e) s in
        let fl = list_of p lists f in
        let end : E ≡ b = end_here p lists node sizes sized e k s h ∙ sym is in
        let at = sym (slice_get-map (moved E ck xs) fl j) ∙ ap (λ l. slice_get l j) (sym (append-nil (map (moved E ck xs) fl))) ∙ there in
        let found = mapped_some (moved E ck xs) (slice_get fl j) flow at in
        let hold = subst (λ n. Hold base m n (map (moved E ck xs) fl)) (sym (end_here p lists node sizes sized e k s h)) (each_own p lists node sizes sized e k s h (FlowHolds base m) good.hold) in
        let spot = (each_own_spot p lists node sizes sized e k s h Placed i good.placed).0 in
        record {
          arguments = values p node base (σ []) (λ i. σ (i ∷ [])) all k i;
          spot = subst (λ c. IsSpot c (record { node = f; at = b })) (sym before)
              (subst (λ b. IsSpot (i + calls_among (trees_in all)) (record { node = f; at = b })) (sym is) (each_own_spot p lists node sizes sized e k s h IsSpot i good.spots_are).0);
          site = subst (λ c. IsSite c (record { node = f; base = ticks base (σ []) k; arguments = values p node base (σ []) (λ i. σ (i ∷ [])) all k i })) (sym before)
              (each_own_site p node base (σ []) (λ i. σ (i ∷ [])) IsSite e k i good.calls_are).0;
          clock_same = expressions.ticks_agree p lists node Below base m σ t kind apart tells agree k good.known;
          flow = found.0;
          there = found.1;
          model = moved_model m E xs;
          moves = λ y. ap (λ n. m.on (n + y)) end;
          solves = instance_solves base m E ck xs fl hold;
          instances = subst (λ c. HasInstances p lists f (λ y. m.on (E + y)) (λ path. σ (c ∷ path))) (sym before)
              (subst (λ n. HasInstances p lists f (λ y. m.on (n + y)) (λ path. σ ((i + calls_among (trees_in all)) ∷ path))) (sym (end_here p lists node sizes sized e k s h)) spot);
          fails = flow_moved base m t kind E ck xs found.0 (subst (FlowFails base m t kind) (sym found.2) fails);
        }
