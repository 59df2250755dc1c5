-- The flows of a node's variables stand on their clocks, with their types.
use Rattle.std.proofs.Common.{◌≡◌, ℕ, zero, suc, ◌+◌, ◌<◌, ⊎_elim, List, [], ◌∷◌, ◌++◌, length, map, Option, Some, None, refl, sym, ap, ◌∙◌, subst, arith}
use Rattle.std.specs.Prelude.{slice_get, option_map, unwrap_or}
use Rattle.std.proofs.lemmas.Option.{slice_get_within, slice_get-map, same_Some}
use Rattle.lutree.specs.declared.expr.Pattern.{Pattern}
use Rattle.lutree.specs.declared.expr.Pattern.TheVariants as patterns
use Rattle.lutree.specs.declared.expr.Condition.{Condition}
use Rattle.lutree.specs.declared.expr.Prefix.TheVariants.{Data as Data1, Pre as Before}
use Rattle.lutree.specs.declared.expr.Infix.TheVariants.{Data as Data2, Arrow as Starts, FollowedBy}
use Rattle.lutree.specs.declared.program.Kind.{Kind}
use Rattle.lutree.specs.declared.program.Kind.TheVariants.{Int as Ints}
use Rattle.lutree.specs.Tree.{Tree, Trees, DeclarationTree, EquationTree, NodeTree, ProgramTree}
use Rattle.lutree.specs.Tree as tree
use Rattle.luflow.specs.declared.form.Clock.TheVariants.{Base}
use Rattle.luflow.specs.declared.form.Form.{Form}
use Rattle.luflow.specs.declared.form.Form.TheVariants.{Constant, Arrow}
use Rattle.luflow.specs.declared.form.Flow.{Flow}
use Rattle.lusource.specs.Names.{variables_of}
use Rattle.lusource.specs.Source.{next_patterns, pattern_value}
use Rattle.lustat_rules.specs.Scope.{declarations_of}
use Rattle.lustat_rules.specs.Scope as rules
use Rattle.lustat_rules.specs.Typing.{type_of, right_types}
use Rattle.lustat_rules.specs.Clocks.{pattern_kind, HasClock}
use Rattle.lustat_rules.specs.Classes.{StartsWith, IsTrueAtFirst}
use Rattle.lucore_laws.specs.Layout.{Root, Walking, walk, walk_all, walk_branches, walk_right, left_clock, root_flow, inner_flows, variable_flow, variable_place, variable_count, clock_place, flow_of, node_flows}
use Rattle.lucore_laws.specs.Layout.Root.{own, at}
use Rattle.lucore_laws.proofs.Each.{Each, each_left, each_right, each_at, each_all}
use Rattle.lucore_laws.proofs.Names.{get-front, get-behind, contains_at, all_at, mapped_some, get-names, get_place, place_at, first_at}
use Rattle.lucore_laws.proofs.Roots.{LeftRoots, Roots, roots_stand, rooted, parts, length-front, front, others, name_cases, get-input, get-other, get-variable}
use Rattle.lucore_laws.proofs.Well.{Known}
use Rattle.lucore_laws.proofs.Facts.{Below, NodeFacts}
use Rattle.lucore_laws.proofs.NodeToFlat.{other_has_equation}
use Rattle.lucore_laws.proofs.NodeStatic.{first_is, variables}
use Rattle.lucore_laws.proofs.Types.{single_kinds}
use Rattle.lucore_laws.proofs.Fitting.{IsSampled, On, Begins}
use Rattle.lucore_laws.proofs.Ruling.{Ruling}

-- a flow at the root of a right side has the type of its one value
abbrev RightKind : List Kind → Root → Type 0
RightKind kinds (own f) = kinds ≡ f.kind ∷ []
RightKind kinds (at i) = Unit {0}

-- the second operand of an arrow
abbrev second : Form → ℕ
second (Arrow x y) = y
second form = 0

abbrev second_of : Root → ℕ
second_of (own f) = second f.form
second_of (at i) = 0

-- the type of a variable on a left side, by its place
pub left_kind : (node : NodeTree) (left : List (List ℕ)) (kinds : List Kind) → map (rules.kind_of node) left ≡ map Some kinds → (j : ℕ) (x : List ℕ) → slice_get left j ≡ Some x → (t : Kind) × (slice_get kinds j ≡ Some t) × (Some t ≡ rules.kind_of node x)
left_kind node left kinds same j x e =
    mapped_some {B = Option Kind} Some (slice_get kinds j) (rules.kind_of node x)
    (sym (slice_get-map {B = Option Kind} Some kinds j) ∙ ap (λ (l : List (Option Kind)). slice_get l j) (sym same) ∙ slice_get-map (rules.kind_of node) left j ∙ ap (option_map (rules.kind_of node)) e)

one_kind : (k u : Kind) (j : ℕ) → slice_get (k ∷ []) j ≡ Some u → k ≡ u
one_kind k u zero e = same_Some k u e
one_kind k u (suc j) e = cc

module _ (p : ProgramTree) (lists : List (List Flow)) (node : NodeTree) where
  -- the name of a variable that is no input, by its place
  pub other_named : (j : ℕ) (x : List ℕ) → slice_get (others p lists node) j ≡ Some x → slice_get (variables_of node) (length node.inputs + j) ≡ Some x
  other_named j x e =
      get-names (declarations_of node) (length node.inputs + j)
      ∙ ap (option_map (λ (d : DeclarationTree). d.name)) (get-behind node.inputs (node.outputs ++ node.locals) (length node.inputs) j refl)
      ∙ sym (get-names (node.outputs ++ node.locals) j) ∙ e

  call_root : (kinds : List Kind) (all : Trees) (k : Option Condition) (rest : List ℕ → Walking) → ((xs : List ℕ) (s : ℕ) → RightKind kinds (rest xs s).root) → (s : ℕ) → RightKind kinds (walk_all p lists node all k rest s).root
  call_root kinds tree.none k rest h s = h [] s
  call_root kinds (tree.more a all) k rest h s = call_root kinds all k _ (λ xs s. h _ s) _

  merge_root : (kinds : List Kind) (c : List ℕ) (ps : List Pattern) (all : Trees) (rest : List ℕ → Walking) → ((xs : List ℕ) (s : ℕ) → RightKind kinds (rest xs s).root) → (s : ℕ) → RightKind kinds (walk_branches p lists node c ps all rest s).root
  merge_root kinds c ps tree.none rest h s = h [] s
  merge_root kinds c ps (tree.more a all) rest h s = merge_root kinds c (next_patterns ps) all _ (λ xs s. h _ s) _

  right_kind : (e : Tree) (k : Option Condition) (s : ℕ) (kinds : List Kind) → right_types p node e ≡ Some kinds → RightKind kinds (walk p lists node e k s).root
  right_kind (tree.number n) k s kinds h = single_kinds (type_of p node (tree.number n)) kinds h
  right_kind (tree.truth b) k s kinds h = single_kinds (type_of p node (tree.truth b)) kinds h
  right_kind (tree.label x) k s kinds h = single_kinds (type_of p node (tree.label x)) kinds h
  right_kind (tree.variable x) k s kinds h = tt
  right_kind (tree.unary (Data1 op) a) k s kinds h = single_kinds _ kinds h
  right_kind (tree.unary Before a) k s kinds h = single_kinds _ kinds h
  right_kind (tree.binary (Data2 op) a b) k s kinds h = single_kinds _ kinds h
  right_kind (tree.binary Starts a b) k s kinds h = single_kinds _ kinds h
  right_kind (tree.binary FollowedBy a b) k s kinds h = single_kinds _ kinds h
  right_kind (tree.choice c a b) k s kinds h = single_kinds _ kinds h
  right_kind (tree.when a c) k s kinds h = single_kinds _ kinds h
  right_kind (tree.current x) k s kinds h = single_kinds _ kinds h
  right_kind (tree.merge c ps all) k s kinds h = merge_root kinds c ps all _ (λ xs s. single_kinds _ kinds h) s
  right_kind (tree.call f all) k s kinds h = call_root kinds all k _ (λ xs s. tt) s

  -- `true -> e` and `true fby e` are an arrow at the root, whose first operand is the constant; likewise for a name of an enumeration
  pub starting : (L : List Flow) (pattern : Pattern) (e : Tree) (k : Option Condition) (s : ℕ) → StartsWith pattern e → Each (λ x f. slice_get L x ≡ Some f) s (walk p lists node e k s).inner
      → ((walk p lists node e k s).root ≡ own (flow_of p lists node e k (Arrow (s + 0) (second_of (walk p lists node e k s).root)))) × (slice_get L (s + 0) ≡ Some (record { form = Constant (pattern_value pattern); clock = clock_place node k; kind = pattern_kind pattern }))
  starting L (patterns.Truth sign) _ k s (StartsWith.arrow e) stand =
      let z : s ≡ s + 0 = omega arith in
      (refl, ap (slice_get L) (sym z) ∙ stand.0)
  starting L (patterns.Truth sign) _ k s (StartsWith.followed e) stand =
      let z : s ≡ s + 0 = omega arith in
      (refl, ap (slice_get L) (sym z) ∙ stand.0)
  starting L (patterns.Label x) _ k s (StartsWith.arrow e) stand =
      let z : s ≡ s + 0 = omega arith in
      (refl, ap (slice_get L) (sym z) ∙ stand.0)
  starting L (patterns.Label x) _ k s (StartsWith.followed e) stand =
      let z : s ≡ s + 0 = omega arith in
      (refl, ap (slice_get L) (sym z) ∙ stand.0)

module _ (p : ProgramTree) (lists : List (List Flow)) (node : NodeTree) (facts : NodeFacts p node) (ruling : Ruling p node) where
  abbrev L : List Flow
  L = node_flows p lists node

  abbrev nv : ℕ
  nv = variable_count p lists node

  -- TYPES

  abbrev IsOfKind : List ℕ → Flow → Type 0
  IsOfKind x f = (t : Kind) → rules.kind_of node x ≡ Some t → f.kind ≡ t

  left_of_kind : (q : EquationTree) (root : Root) (i j : ℕ) (x : List ℕ) (kinds : List Kind) → RightKind kinds root → map (rules.kind_of node) q.left ≡ map Some kinds → slice_get q.left j ≡ Some x → IsOfKind x (root_flow p lists node q root i x)
  left_of_kind q (own f) i j x kinds h same e t ty =
      let l = left_kind node q.left kinds same j x e in
      let one : slice_get (f.kind ∷ []) j ≡ Some l.0 = ap (λ (l : List Kind). slice_get l j) (sym h) ∙ l.1 in
      one_kind f.kind l.0 j one ∙ same_Some l.0 t (l.2 ∙ ty)
  left_of_kind q (at a) i j x kinds h same e t ty = ap (λ (o : Option Kind). unwrap_or o Ints) ty

  kinds_from : (qs : List EquationTree) (s : ℕ) → ((j : ℕ) (q : EquationTree) → slice_get qs j ≡ Some q → (i : ℕ) × (slice_get node.equations i ≡ Some q)) → Roots p lists node IsOfKind qs s
  kinds_from [] s there = tt
  kinds_from (q ∷ qs) s there =
      let t = there 0 q refl in
      let ty = ruling.typed t.0 q t.1 in
      let root = (walk_right p lists node q s).root in (
        each_all (λ j x. IsOfKind x (root_flow p lists node q root j x)) 0 q.left (λ j x e. left_of_kind q root (0 + j) j x ty.0 (right_kind p lists node q.right (left_clock p lists node q) s ty.0 ty.1) ty.2 e),
        kinds_from qs (s + length (walk_right p lists node q s).inner) (λ j q e. there (suc j) q e),
      )

  pub variable_kind : (x : List ℕ) (t : Kind) → rules.kind_of node x ≡ Some t → option_map (λ (f : Flow). f.kind) (slice_get L (variable_place p lists node x)) ≡ Some t
  variable_kind x t ty =
      let d = mapped_some (λ (d : DeclarationTree). d.kind) (rules.meaning node x) t ty in
      let there = first_at (declarations_of node) x d.0 d.1 in
      let v = variable_place p lists node x in
      let lt : v < length (variables_of node) = slice_get_within (variables_of node) v d.0.name (get-names (declarations_of node) v ∙ ap (option_map (λ (d : DeclarationTree). d.name)) there) in
      ⊎_elim
      (λ (h : (e : DeclarationTree) × (slice_get node.inputs v ≡ Some e) × (e.name ≡ x)).
      let same : d.0 ≡ h.0 = same_Some d.0 h.0 (sym there ∙ get-front node.inputs (node.outputs ++ node.locals) v (slice_get_within node.inputs v h.0 h.1) ∙ h.1) in
      ap (option_map (λ (f : Flow). f.kind)) (get-input p lists node v h.0 h.1) ∙ ap (λ (d : DeclarationTree). Some d.kind) (sym same) ∙ ap Some d.2)
      (λ (h : (j : ℕ) × (v ≡ length node.inputs + j) × (slice_get (others p lists node) j ≡ Some x)).
      let of_kind = rooted p lists node IsOfKind node.equations nv x (kinds_from node.equations nv (λ j q e. (j, e))) (other_has_equation p lists node facts h.0 x h.2) in
      ap (λ v. option_map (λ (f : Flow). f.kind) (slice_get L v)) h.1 ∙ ap (option_map (λ (f : Flow). f.kind)) (get-other p lists node h.0 x h.2) ∙ ap Some (of_kind t ty))
      (name_cases p lists node v x (get_place (variables_of node) x lt))

  pub variables_on : (x : List ℕ) (k : Option Condition) (t : Kind) → HasClock node x k → rules.kind_of node x ≡ Some t → On L (clock_place node k) t (variable_place p lists node x)
  variables_on x k t has ty =
      let v = variable_place p lists node x in
      let f = mapped_some (λ (f : Flow). f.clock) (slice_get L v) (clock_place node k) (variables p lists node facts x k has) in
      let kind : f.0.kind ≡ t = same_Some f.0.kind t (ap (option_map (λ (f : Flow). f.kind)) (sym f.1) ∙ variable_kind x t ty) in
      subst (λ k. On L k t v) f.2 (subst (λ t. On L f.0.clock t v) kind (record { form = f.0.form; there = f.1 }))

  -- an output on the base clock
  pub outputs_on : (j : ℕ) (d : DeclarationTree) → slice_get node.outputs j ≡ Some d → d.clock ≡ None → On L Base d.kind (length node.inputs + j)
  outputs_on j d e none =
      let at : slice_get (declarations_of node) (length node.inputs + j) ≡ Some d =
      get-behind node.inputs (node.outputs ++ node.locals) (length node.inputs) j refl ∙ get-front node.outputs node.locals j (slice_get_within node.outputs j d e) ∙ e in
      let named : slice_get (variables_of node) (length node.inputs + j) ≡ Some d.name = get-names (declarations_of node) (length node.inputs + j) ∙ ap (option_map (λ (d : DeclarationTree). d.name)) at in
      let place = place_at (variables_of node) d.name (length node.inputs + j) facts.apart named in
      let means : rules.meaning node d.name ≡ Some d = first_is (declarations_of node) d.name ∙ ap (slice_get (declarations_of node)) place ∙ at in
      let has : HasClock node d.name None = ap (option_map (λ (d : DeclarationTree). d.clock)) means ∙ ap Some none in
      subst (On L Base d.kind) place (variables_on d.name None d.kind has (ap (option_map (λ (d : DeclarationTree). d.kind)) means))

  -- BEGINNINGS

  -- where an equation's flows stand
  record Stood (q : EquationTree) : Type 0 where
    start : ℕ
    stand : Each (λ x f. slice_get L x ≡ Some f) start (walk_right p lists node q start).inner
    roots : LeftRoots p lists node (λ x f. variable_flow p lists node node.equations nv x ≡ f) q (walk_right p lists node q start).root

  stood : (qs : List EquationTree) (s : ℕ) → Each (λ x f. slice_get L x ≡ Some f) s (inner_flows p lists node qs s) → Roots p lists node (λ x f. variable_flow p lists node node.equations nv x ≡ f) qs s → (i : ℕ) (q : EquationTree) → slice_get qs i ≡ Some q → Stood q
  stood [] s stand roots i q e = cc
  stood (r ∷ qs) s stand roots zero q e =
      let here : Stood r = record { start = s; stand = each_left (λ x f. slice_get L x ≡ Some f) s (walk_right p lists node r s).inner (inner_flows p lists node qs (s + length (walk_right p lists node r s).inner)) stand; roots = roots.0 } in
      subst Stood (same_Some r q e) here
  stood (r ∷ qs) s stand roots (suc i) q e =
      stood qs (s + length (walk_right p lists node r s).inner) (each_right (λ x f. slice_get L x ≡ Some f) s (walk_right p lists node r s).inner (inner_flows p lists node qs (s + length (walk_right p lists node r s).inner)) stand) roots.1 i q e

  -- the inner flows stand behind the variables
  pub inner_stand : Each (λ x f. slice_get L x ≡ Some f) nv (inner_flows p lists node node.equations nv)
  inner_stand =
      let stands = each_all (λ x f. slice_get L x ≡ Some f) 0 L (λ j f e. let z : 0 + j ≡ j = omega arith in ap (slice_get L) z ∙ e) in
      let stands' = subst (λ l. Each (λ x f. slice_get L x ≡ Some f) 0 l) (parts p lists node) stands in
      let lf = length-front p lists node in
      let z : 0 + length (front p lists node) ≡ nv = omega arith in
      subst (λ s. Each (λ x f. slice_get L x ≡ Some f) s (inner_flows p lists node node.equations nv)) z (each_right (λ x f. slice_get L x ≡ Some f) 0 (front p lists node) (inner_flows p lists node node.equations nv) stands')

  pub beginnings : (c : Condition) (k : Option Condition) → IsTrueAtFirst node c → HasClock node c.variable k → IsSampled node c → Begins L (clock_place node k) (pattern_value c.pattern) (variable_place p lists node c.variable)
  beginnings c k first has sampled =
      let q = first.0 in
      let x = c.variable in
      let v = variable_place p lists node x in
      let at = contains_at node.equations q first.1 in
      let s = stood node.equations nv inner_stand (roots_stand p lists node facts.anew) at.0 q at.1 in
      let named : slice_get q.left 0 ≡ Some x = ap (λ (l : List (List ℕ)). slice_get l 0) first.2 in
      let lk = left_clock p lists node q in
      let w = walk_right p lists node q s.start in
      let g = starting p lists node L c.pattern q.right lk s.start first.3 s.stand in
      let f = flow_of p lists node q.right lk (Arrow (s.start + 0) (second_of w.root)) in
      let no_input = all_at (λ x. ¬ rules.IsInput node x) q.left 0 x (facts.anew at.0 q at.1).no_input named in
      let u = pattern_kind c.pattern in
      let on = variables_on x k u has sampled.0 in
      let lt = all_at (Known p node (Below node)) q.left 0 x (facts.lefts at.0 q at.1) named in
      let root : variable_flow p lists node node.equations nv x ≡ f =
      each_at (λ j x. variable_flow p lists node node.equations nv x ≡ root_flow p lists node q w.root j x) 0 q.left 0 x s.roots named ∙ ap (λ r. root_flow p lists node q r (0 + 0) x) g.0 in
      let there : slice_get L v ≡ Some f = get-variable p lists node x lt no_input ∙ ap Some root in
      let same : f ≡ record { form = on.form; clock = clock_place node k; kind = u } = same_Some f _ (sym there ∙ on.there) in
      record {
        kind = u;
        first = s.start + 0;
        then = second_of w.root;
        there = on.there ∙ ap (λ (form : Form). Some (record { form = form; clock = clock_place node k; kind = u })) (sym (ap (λ (f : Flow). f.form) same));
        constant = g.1 ∙ ap (λ c'. Some (record { form = Constant (pattern_value c.pattern); clock = c'; kind = u })) (ap (λ (f : Flow). f.clock) same);
        pattern = sampled.1;
      }
