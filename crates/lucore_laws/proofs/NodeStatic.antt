-- Every flow of every node's list names flows of that list, and a copy stands on the clock of what it copies.
use Rattle.std.proofs.Common.{◌≡◌, ℕ, zero, suc, ◌+◌, ◌<◌, ◌≤◌, ⊎_elim, Bool, true, false, cond, List, [], ◌∷◌, ◌++◌, length, map, Option, Some, None, refl, sym, ap, ◌∙◌, subst, arith, length-append}
use Rattle.std.specs.Prelude.{slice_get, option_map, All}
use Rattle.std.specs.Str.{bytes_eq}
use Rattle.std.proofs.lemmas.List.Elements.{All-nil}
use Rattle.std.proofs.lemmas.Option.{slice_get_within, same_Some}
use Rattle.lutree.specs.declared.expr.Pattern.{Pattern}
use Rattle.lutree.specs.declared.expr.Condition.{Condition}
use Rattle.lutree.specs.declared.expr.Prefix.TheVariants.{Data as Data1, Pre as Before}
use Rattle.lutree.specs.declared.expr.Infix.TheVariants.{Data as Data2, Arrow as Starts, FollowedBy}
use Rattle.lutree.specs.Tree.{Tree, Trees, DeclarationTree, EquationTree, NodeTree, ProgramTree}
use Rattle.lutree.specs.Tree as tree
use Rattle.luflow.specs.declared.form.Clock.{Clock}
use Rattle.luflow.specs.declared.form.Clock.TheVariants.{Base}
use Rattle.luflow.specs.declared.form.Form.{Form}
use Rattle.luflow.specs.declared.form.Form.TheVariants.{Input, Constant, Copied, Unary, Binary, If, Pre, Arrow, When, Current, Merge}
use Rattle.luflow.specs.declared.form.Flow.{Flow}
use Rattle.luflow.specs.Program.{clock_reads}
use Rattle.lusource.specs.Names.{variables_of, place_of, name_at, clock_of}
use Rattle.lusource.specs.Source.{next_patterns}
use Rattle.lustat_rules.specs.Scope.{names_of, declarations_of, node_called}
use Rattle.lustat_rules.specs.Scope as rules
use Rattle.lustat_rules.specs.Naming.{Calls, Reaches}
use Rattle.lustat_rules.specs.Clocks.{HasClock, FitsClockInside}
use Rattle.lustat_rules.proofs.Fitting.{inside}
use Rattle.lucore_laws.specs.Layout.{Root, Walking, walk, walk_all, walk_branches, walk_right, left_clock, root_flow, inner_flows, variable_flow, variable_place, variable_count, clock_place, input_flows, list_of, node_flows, AreLists}
use Rattle.lucore_laws.specs.Layout.Root.{own, at}
use Rattle.lucore_laws.proofs.Each.{Each, each_left, each_right, each_join, each_all, each_at, each_map, each_imp}
use Rattle.lucore_laws.proofs.Names.{get-front, get-behind, all_at, mapped_some, get-names, get_place, place_at, first_at, clock_named, clock_cases, listed}
use Rattle.lucore_laws.proofs.Roots.{Roots, rooted, parts, length-front, front, others, name_cases, get-input, get-other}
use Rattle.lucore_laws.proofs.ListToSource.{name_there}
use Rattle.lucore_laws.proofs.Facts.{Below, NodeFacts}
use Rattle.lucore_laws.proofs.ByCalls.{by_calls}
use Rattle.lucore_laws.proofs.NodeToFlat.{other_has_equation}
use Rattle.lucore_laws.proofs.Static.{clock_on, clock_within, all_cons, InList, CopyFits, FlowFits, AreFit, RootFits, Stands, Fit, KnownClock, static}

-- a flow at the root of an expression stands on the clock of its place
abbrev RootClock : Clock → Root → Type 0
RootClock k (own f) = f.clock ≡ k
RootClock k (at i) = Unit {0}

module _ (p : ProgramTree) (lists : List (List Flow)) (node : NodeTree) where
  all_root : (P : Root → Type 0) (all : Trees) (k : Option Condition) (rest : List ℕ → Walking) → ((xs : List ℕ) (s : ℕ) → P (rest xs s).root) → (s : ℕ) → P (walk_all p lists node all k rest s).root
  all_root P tree.none k rest h s = h [] s
  all_root P (tree.more a all) k rest h s = all_root P all k _ (λ xs s. h _ s) _

  branch_root : (P : Root → Type 0) (c : List ℕ) (ps : List Pattern) (all : Trees) (rest : List ℕ → Walking) → ((xs : List ℕ) (s : ℕ) → P (rest xs s).root) → (s : ℕ) → P (walk_branches p lists node c ps all rest s).root
  branch_root P c ps tree.none rest h s = h [] s
  branch_root P c ps (tree.more a all) rest h s = branch_root P c (next_patterns ps) all _ (λ xs s. h _ s) _

  root_clock : (e : Tree) (k : Option Condition) (s : ℕ) → FitsClockInside node e k → RootClock (clock_place node k) (walk p lists node e k s).root
  root_clock (tree.number n) k s fits = refl
  root_clock (tree.truth b) k s fits = refl
  root_clock (tree.label x) k s fits = refl
  root_clock (tree.variable x) k s fits = tt
  root_clock (tree.unary (Data1 op) a) k s fits = refl
  root_clock (tree.unary Before a) k s fits = refl
  root_clock (tree.binary (Data2 op) a b) k s fits = refl
  root_clock (tree.binary Starts a b) k s fits = refl
  root_clock (tree.binary FollowedBy a b) k s fits = refl
  root_clock (tree.choice c a b) k s fits = refl
  root_clock (tree.when a c) k s fits = ap (clock_place node) (sym fits.0)
  root_clock (tree.current x) k s fits = refl
  root_clock (tree.merge c ps all) k s fits = branch_root (RootClock (clock_place node k)) c ps all _ (λ xs s. refl) s
  root_clock (tree.call f all) k s fits = all_root (RootClock (clock_place node k)) all k _ (λ xs s. tt) s

first_step : (d : DeclarationTree) (ds : List DeclarationTree) (x : List ℕ) (b : Bool) → rules.first_declared ds x ≡ slice_get ds (place_of (names_of ds) x) → cond b (Some d) (rules.first_declared ds x) ≡ slice_get (d ∷ ds) (cond b 0 (suc (place_of (names_of ds) x)))
first_step d ds x true h = refl
first_step d ds x false h = h

-- what a name means is what stands at its place
pub first_is : (ds : List DeclarationTree) (x : List ℕ) → rules.first_declared ds x ≡ slice_get ds (place_of (names_of ds) x)
first_is [] x = refl
first_is (d ∷ ds) x = first_step d ds x (bytes_eq d.name x) (first_is ds x)

abbrev number_of : Form → ℕ
number_of (Input r) = r
number_of form = 0

same_input : (r i : ℕ) → Input r ≡ Input i → r ≡ i
same_input r i e = ap number_of e

module _ (p : ProgramTree) (lists : List (List Flow)) (node : NodeTree) (facts : NodeFacts p node) where
  abbrev L : List Flow
  L = node_flows p lists node

  abbrev n : ℕ
  n = length node.inputs

  abbrev nv : ℕ
  nv = variable_count p lists node

  -- the clock of a left side
  left_is : (j : ℕ) (q : EquationTree) → slice_get node.equations j ≡ Some q → (k : Option Condition) × All (λ x. HasClock node x k) q.left × FitsClockInside node q.right k × (left_clock p lists node q ≡ k)
  left_is j q e =
      let a = facts.agree j q e in
      let first = all_at (λ x. HasClock node x a.0) q.left 0 (name_at q.left 0) a.1 (name_there q.left 0 (facts.some j q e)) in
      (a.0, a.1, inside a.2, clock_named (declarations_of node) (name_at q.left 0) a.0 first)

  -- the flow of each variable with an equation stands on its declared clock
  abbrev OnClock : List ℕ → Flow → Type 0
  OnClock x f = (c : Option Condition) → HasClock node x c → f.clock ≡ clock_place node c

  left_on : (q : EquationTree) (root : Root) (j : ℕ) (x : List ℕ) (k : Option Condition) → HasClock node x k → left_clock p lists node q ≡ k → RootClock (clock_place node k) root → OnClock x (root_flow p lists node q root j x)
  left_on q (own f) j x k has same rc c hc = let e : k ≡ c = same_Some k c (sym has ∙ hc) in rc ∙ ap (clock_place node) e
  left_on q (at i) j x k has same rc c hc = let e : k ≡ c = same_Some k c (sym has ∙ hc) in ap (clock_place node) (same ∙ e)

  clocks_from : (qs : List EquationTree) (s : ℕ) → ((j : ℕ) (q : EquationTree) → slice_get qs j ≡ Some q → (i : ℕ) × (slice_get node.equations i ≡ Some q)) → Roots p lists node OnClock qs s
  clocks_from [] s there = tt
  clocks_from (q ∷ qs) s there =
      let t = there 0 q refl in
      let l = left_is t.0 q t.1 in
      let root = (walk_right p lists node q s).root in
      let rc = root_clock p lists node q.right (left_clock p lists node q) s (subst (FitsClockInside node q.right) (sym l.3) l.2) in
      let rc' = subst (λ k. RootClock (clock_place node k) root) l.3 rc in (
        each_all (λ j x. OnClock x (root_flow p lists node q root j x)) 0 q.left (λ j x e. left_on q root (0 + j) x l.0 (all_at (λ x. HasClock node x l.0) q.left j x l.1 e) l.3 rc'),
        clocks_from qs (s + length (walk_right p lists node q s).inner) (λ j q e. there (suc j) q e),
      )

  -- each variable's flow stands at its place, on its clock
  pub variables : (x : List ℕ) (c : Option Condition) → HasClock node x c → clock_on L (variable_place p lists node x) ≡ Some (clock_place node c)
  variables x c has =
      let d = mapped_some (λ (d : DeclarationTree). d.clock) (rules.meaning node x) c has in
      let there = first_at (declarations_of node) x d.0 d.1 in
      let v = variable_place p lists node x in
      let lt : v < length (variables_of node) = slice_get_within (variables_of node) v d.0.name (get-names (declarations_of node) v ∙ ap (option_map (λ (d : DeclarationTree). d.name)) there) in
      ⊎_elim
      (λ (h : (e : DeclarationTree) × (slice_get node.inputs v ≡ Some e) × (e.name ≡ x)).
      let same : d.0 ≡ h.0 = same_Some d.0 h.0 (sym there ∙ get-front node.inputs (node.outputs ++ node.locals) v (slice_get_within node.inputs v h.0 h.1) ∙ h.1) in
      let none : c ≡ None = sym d.2 ∙ ap (λ (d : DeclarationTree). d.clock) same ∙ facts.inputs v h.0 h.1 in
      ap (option_map (λ (f : Flow). f.clock)) (get-input p lists node v h.0 h.1) ∙ ap (λ c. Some (clock_place node c)) (sym none))
      (λ (h : (j : ℕ) × (v ≡ length node.inputs + j) × (slice_get (others p lists node) j ≡ Some x)).
      let on = rooted p lists node OnClock node.equations nv x (clocks_from node.equations nv (λ j q e. (j, e))) (other_has_equation p lists node facts h.0 x h.2) in
      ap (clock_on L) h.1 ∙ ap (option_map (λ (f : Flow). f.clock)) (get-other p lists node h.0 x h.2) ∙ ap Some (on c has))
      (name_cases p lists node v x (get_place (variables_of node) x lt))

  -- an output on the base clock has a flow on it
  pub output_on : (j : ℕ) (d : DeclarationTree) → slice_get node.outputs j ≡ Some d → d.clock ≡ None → clock_on L (length node.inputs + j) ≡ Some Base
  output_on j d e none =
      let at : slice_get (declarations_of node) (length node.inputs + j) ≡ Some d =
      get-behind node.inputs (node.outputs ++ node.locals) (length node.inputs) j refl ∙ get-front node.outputs node.locals j (slice_get_within node.outputs j d e) ∙ e in
      let named : slice_get (variables_of node) (length node.inputs + j) ≡ Some d.name = get-names (declarations_of node) (length node.inputs + j) ∙ ap (option_map (λ (d : DeclarationTree). d.name)) at in
      let place = place_at (variables_of node) d.name (length node.inputs + j) facts.apart named in
      let has : HasClock node d.name None = ap (option_map (λ (d : DeclarationTree). d.clock)) (first_is (declarations_of node) d.name ∙ ap (slice_get (declarations_of node)) place ∙ at) ∙ ap Some none in
      ap (clock_on L) (sym place) ∙ variables d.name None has

  module _ (callee_fits : (f : List ℕ) → Below node f → (callee : NodeTree) → node_called p f ≡ Some callee → AreFit (list_of p lists f) (length callee.inputs))
      (callee_outputs : (f : List ℕ) → Below node f → (callee : NodeTree) → node_called p f ≡ Some callee → (j : ℕ) → j < length callee.outputs → clock_on (list_of p lists f) (length callee.inputs + j) ≡ Some Base) where
    long : nv ≤ length L
    long = let a = ap length (parts p lists node) in let b = length-front p lists node in omega (arith, length-append (front p lists node) (inner_flows p lists node node.equations nv))

    abbrev IsKnown : Option Condition → Type 0
    IsKnown = KnownClock p lists node (Below node) L 0 long variables callee_fits callee_outputs

    known_one : (x : List ℕ) (k : Option Condition) → option_map (λ (d : DeclarationTree). d.clock) (rules.meaning node x) ≡ Some k → IsKnown k
    known_one x None e = tt
    known_one x (Some c) e = facts.clocks x c e

    clock_known : (x : List ℕ) → IsKnown (clock_of node x)
    clock_known x =
        ⊎_elim (λ (h : clock_of node x ≡ None). subst IsKnown (sym h) tt)
        (λ (h : option_map (λ (d : DeclarationTree). d.clock) (rules.meaning node x) ≡ Some (clock_of node x)). known_one x (clock_of node x) h)
        (clock_cases (declarations_of node) x)

    clock_there : (k : Option Condition) → IsKnown k → All (InList L) (clock_reads (clock_place node k))
    clock_there None known = All-nil (InList L)
    clock_there (Some c) known = let l = long in all_cons (InList L) (variable_place p lists node c.variable) [] (omega (arith, known)) (All-nil (InList L))

    abbrev FlowFitsList : List ℕ → Flow → Type 0
    FlowFitsList x f = FlowFits L 0 f

    left_fits : (q : EquationTree) (root : Root) (j w : ℕ) (x : List ℕ) → j < w → RootFits L 0 (clock_place node (left_clock p lists node q)) w root → FlowFits L 0 (root_flow p lists node q root j x)
    left_fits q (own f) j w x lt h = h.0
    left_fits q (at i) j w x lt h =
        record {
          places_in = all_cons (InList L) (i + j) [] (clock_within L (i + j) (clock_place node (left_clock p lists node q)) (h j lt)) (All-nil (InList L));
          clocks_in = clock_there (left_clock p lists node q) (clock_known (name_at q.left 0));
          copy = h j lt;
        }

    equations_fit : (qs : List EquationTree) (s : ℕ) → ((j : ℕ) (q : EquationTree) → slice_get qs j ≡ Some q → (i : ℕ) × (slice_get node.equations i ≡ Some q)) → Stands L 0 s (inner_flows p lists node qs s) → Fit L 0 s (inner_flows p lists node qs s) × Roots p lists node FlowFitsList qs s
    equations_fit [] s there stand = (tt, tt)
    equations_fit (q ∷ qs) s there stand =
        let t = there 0 q refl in
        let l = left_is t.0 q t.1 in
        let k = left_clock p lists node q in
        let w = walk_right p lists node q s in
        let s' = s + length w.inner in
        let rest = inner_flows p lists node qs s' in
        let r = static p lists node (Below node) L 0 long variables callee_fits callee_outputs clock_known q.right k (length q.left) (clock_known (name_at q.left 0)) (facts.rights t.0 q t.1) (subst (FitsClockInside node q.right) (sym l.3) l.2) s (each_left (λ x f. slice_get L x ≡ Some f) s w.inner rest stand) in
        let e = equations_fit qs s' (λ j q e. there (suc j) q e) (each_right (λ x f. slice_get L x ≡ Some f) s w.inner rest stand) in (
          each_join (λ x f. FlowFits L 0 f) s w.inner rest r.0 e.0,
          (each_all (λ j x. FlowFitsList x (root_flow p lists node q w.root j x)) 0 q.left (λ j x at. let lt = slice_get_within q.left j x at in left_fits q w.root (0 + j) (length q.left) x (omega (arith, lt)) r.1), e.1),
        )

    -- a flow of the list fits, and one that is an input has its number as its place
    abbrev At : ℕ → Flow → Type 0
    At x f = FlowFits L n f × ((r : ℕ) → f.form ≡ Input r → x ≡ r)

    more_copy : (k : Clock) (form : Form) → CopyFits L 0 k form → CopyFits L n k form
    more_copy k (Input r) h = absurd (omega (arith, h.1))
    more_copy k (Constant d) h = tt
    more_copy k (Copied a) h = h
    more_copy k (Unary op a) h = tt
    more_copy k (Binary op a b) h = tt
    more_copy k (If c a b) h = tt
    more_copy k (Pre a) h = tt
    more_copy k (Arrow a b) h = tt
    more_copy k (When a) h = tt
    more_copy k (Current a) h = tt
    more_copy k (Merge c xs) h = tt

    at_inner : (x : ℕ) (f : Flow) → FlowFits L 0 f → At x f
    at_inner x f h = (
      record { places_in = h.places_in; clocks_in = h.clocks_in; copy = more_copy f.clock f.form h.copy },
      λ r e. let c = subst (CopyFits L 0 f.clock) e h.copy in absurd (omega (arith, c.1)),
    )

    inputs_fit : (ds : List DeclarationTree) (r : ℕ) → r + length ds ≤ n → Each At r (input_flows p lists node r ds)
    inputs_fit [] r le = tt
    inputs_fit (d ∷ ds) r le =
        ((record { places_in = All-nil (InList L); clocks_in = All-nil (InList L); copy = (refl, omega (arith, le)) }, λ i e. same_input r i e), inputs_fit ds (suc r) (omega (arith, le)))

    pub node_fits : (x : ℕ) (f : Flow) → slice_get L x ≡ Some f → At x f
    node_fits x f e =
        let inner = inner_flows p lists node node.equations nv in
        let ins = input_flows p lists node 0 node.inputs in
        let F = variable_flow p lists node node.equations nv in
        let stands = each_all (λ x f. slice_get L x ≡ Some f) 0 L (λ j f e. let z : 0 + j ≡ j = omega arith in ap (slice_get L) z ∙ e) in
        let stands' = subst (Stands L 0 0) (parts p lists node) stands in
        let lf = length-front p lists node in
        let z : 0 + length (front p lists node) ≡ nv = omega arith in
        let inner_stands = subst (λ s. Stands L 0 s inner) z (each_right (λ x f. slice_get L x ≡ Some f) 0 (front p lists node) inner stands') in
        let q = equations_fit node.equations nv (λ j q e. (j, e)) inner_stands in
        let vars = each_map At F (0 + length ins) (others p lists node) (each_all (λ x name. At x (F name)) (0 + length ins) (others p lists node) (λ j x e. at_inner _ (F x) (rooted p lists node FlowFitsList node.equations nv x q.1 (other_has_equation p lists node facts j x e)))) in
        let fronts = each_join At 0 ins (map F (others p lists node)) (inputs_fit node.inputs 0 (omega arith)) vars in
        let inner_fit = each_imp (λ x f. FlowFits L 0 f) At nv inner at_inner q.0 in
        let all = each_join At 0 (front p lists node) inner fronts (subst (λ s. Each At s inner) (sym z) inner_fit) in
        let y : 0 + x ≡ x = omega arith in
        subst (λ x. At x f) y (each_at At 0 L x f (subst (Each At 0) (sym (parts p lists node)) all) e)

module _ (p : ProgramTree) (lists : List (List Flow)) (are : AreLists p lists) (facts : (f : List ℕ) (n : NodeTree) → node_called p f ≡ Some n → NodeFacts p n) (never : (f : List ℕ) → ¬ Reaches p f f) where
  -- the list of a node fits, and its inputs stand at their numbers
  abbrev pub ListFits : List ℕ → Type 0
  ListFits f =
      (node : NodeTree) → node_called p f ≡ Some node → (x : ℕ) (g : Flow) → slice_get (list_of p lists f) x ≡ Some g
      → FlowFits (list_of p lists f) (length node.inputs) g × ((r : ℕ) → g.form ≡ Input r → x ≡ r)

  step : (f : List ℕ) → ((g : List ℕ) → Calls p f g → ListFits g) → ListFits f
  step f rest node found =
      subst (λ l. (x : ℕ) (g : Flow) → slice_get l x ≡ Some g → FlowFits l (length node.inputs) g × ((r : ℕ) → g.form ≡ Input r → x ≡ r)) (sym (listed p lists are f node found))
      (node_fits p lists node (facts f node found)
      (λ g b callee e x h at. (rest g (node, found, b) callee e x h at).0)
      (λ g b callee e j lt.
      let d = declared callee.outputs j lt in
      subst (λ l. clock_on l (length callee.inputs + j) ≡ Some Base) (sym (listed p lists are g callee e)) (output_on p lists callee (facts g callee e) j d.0 d.1 ((facts f node found).outputs g callee b e j d.0 d.1))))
    where
      declared : (ds : List DeclarationTree) (j : ℕ) → j < length ds → (d : DeclarationTree) × (slice_get ds j ≡ Some d)
      declared [] j lt = absurd (omega (arith, lt))
      declared (d ∷ ds) zero lt = (d, refl)
      declared (d ∷ ds) (suc j) lt = declared ds j (omega (arith, lt))

  pub lists_fit : (f : List ℕ) → ListFits f
  lists_fit = by_calls p never ListFits step
