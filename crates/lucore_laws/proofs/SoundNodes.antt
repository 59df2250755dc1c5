-- The open list of a node that keeps the rules is sound, where those of the nodes that it calls are.
use Rattle.std.proofs.Common.{◌≡◌, ℕ, suc, ◌+◌, ⊎_elim, Bool, true, false, List, [], ◌∷◌, ◌++◌, length, map, Option, Some, None, refl, sym, ap, ◌∙◌, subst, arith, length-append}
use Rattle.std.specs.Prelude.{slice_get, option_map, unwrap_or}
use Rattle.std.proofs.lemmas.List.{length-map}
use Rattle.std.proofs.lemmas.Option.{slice_get_within, slice_get-map, get_or_from_slice_get}
use Rattle.lutree.specs.declared.expr.Condition.{Condition}
use Rattle.lutree.specs.declared.program.Kind.{Kind}
use Rattle.lutree.specs.declared.program.Kind.TheVariants.{Int as Ints}
use Rattle.lutree.specs.Tree.{DeclarationTree, EquationTree, NodeTree, ProgramTree}
use Rattle.luflow.specs.declared.form.Clock.TheVariants.{Base}
use Rattle.luflow.specs.declared.form.Form.TheVariants.{Input}
use Rattle.luflow.specs.declared.form.Flow.{Flow}
use Rattle.luflow.specs.Sound.{AtMost}
use Rattle.lusource.specs.Names.{variables_of, name_at, clock_of}
use Rattle.lustat_rules.specs.Scope.{names_of, declarations_of, node_called}
use Rattle.lustat_rules.specs.Scope as rules
use Rattle.lustat_rules.specs.Naming.{Calls, Reaches}
use Rattle.lustat_rules.specs.Clocks.{HasClock, FitsClockInside}
use Rattle.lustat_rules.specs.Classes.{is_one, IsHeld, IsRaised, NeedsMet}
use Rattle.lustat_rules.proofs.Fitting.{inside}
use Rattle.lucore_laws.specs.Layout.{Root, walk_right, left_clock, root_flow, inner_flows, variable_flow, variable_place, variable_count, clock_place, input_flows, list_of, node_flows, AreLists}
use Rattle.lucore_laws.specs.Layout.Root.{own, at}
use Rattle.lucore_laws.proofs.Each.{Each, each_left, each_right, each_join, each_all, each_at, each_map}
use Rattle.lucore_laws.proofs.Names.{get-front, get-behind, all_at, contains_get, get-names, get_place, clock_named, clock_cases, listed}
use Rattle.lucore_laws.proofs.Roots.{Roots, rooted, parts, length-front, length-inputs, front, others}
use Rattle.lucore_laws.proofs.ListToSource.{name_there}
use Rattle.lucore_laws.proofs.Facts.{Below, NodeFacts}
use Rattle.lucore_laws.proofs.ByCalls.{by_calls}
use Rattle.lucore_laws.proofs.NodeToFlat.{other_has_equation}
use Rattle.lucore_laws.proofs.Types.{declared}
use Rattle.lucore_laws.proofs.Fitting.{On, FlowSound, raised}
use Rattle.lucore_laws.proofs.SoundWalks.{RootOn, Classing, Marks, AllSound, RootMost, class_in, OpenSound}
use Rattle.lucore_laws.proofs.Ruling.{Ruling}
use Rattle.lucore_laws.proofs.Variables.{left_kind, other_named, variables_on, outputs_on, inner_stand, beginnings}
use Rattle.lucore_laws.proofs.SoundExpressions as expressions

module _ (p : ProgramTree) (lists : List (List Flow)) (node : NodeTree) (facts : NodeFacts p node) (ruling : Ruling p node)
    (callee_sound : (f : List ℕ) → Below node f → (callee : NodeTree) → node_called p f ≡ Some callee → OpenSound (list_of p lists f) callee.inputs (length callee.outputs))
    (callee_outputs : (f : List ℕ) → Below node f → (callee : NodeTree) → node_called p f ≡ Some callee → (j : ℕ) (d : DeclarationTree) → slice_get callee.outputs j ≡ Some d → On (list_of p lists f) Base d.kind (length callee.inputs + j)) where
  abbrev L : List Flow
  L = node_flows p lists node

  abbrev nv : ℕ
  nv = variable_count p lists node

  abbrev m : ℕ
  m = length node.inputs

  abbrev a : List ℕ → Bool
  a = ruling.class

  abbrev IsClocked : Option Condition → Type 0
  IsClocked = expressions.Clocked p lists node (Below node) a L node.inputs (variables_on p lists node facts ruling) (beginnings p lists node facts ruling) ruling.sampled callee_sound callee_outputs

  abbrev HasClasses : Classing → Type 0
  HasClasses = expressions.Assigned p lists node (Below node) a L node.inputs (variables_on p lists node facts ruling) (beginnings p lists node facts ruling) ruling.sampled callee_sound callee_outputs

  clocked_one : (x : List ℕ) (k : Option Condition) → HasClock node x k → IsClocked k
  clocked_one x None has = tt
  clocked_one x (Some c) has = (facts.clocks x c has, ruling.above x c has, ruling.sampled x c has, ruling.zero x c has)

  clocked_by : (x : List ℕ) → IsClocked (clock_of node x)
  clocked_by x =
      ⊎_elim (λ (h : clock_of node x ≡ None). subst IsClocked (sym h) tt)
      (λ (h : option_map (λ (d : DeclarationTree). d.clock) (rules.meaning node x) ≡ Some (clock_of node x)). clocked_one x (clock_of node x) h)
      (clock_cases (declarations_of node) x)

  -- EQUATIONS

  -- the clock of a left side
  left_fits : (j : ℕ) (q : EquationTree) → slice_get node.equations j ≡ Some q → FitsClockInside node q.right (left_clock p lists node q)
  left_fits j q e =
      let k = facts.agree j q e in
      let first = all_at (λ x. HasClock node x k.0) q.left 0 (name_at q.left 0) k.1 (name_there q.left 0 (facts.some j q e)) in
      subst (FitsClockInside node q.right) (sym (clock_named (declarations_of node) (name_at q.left 0) k.0 first)) (inside k.2)

  left_sound : (class : Classing) (q : EquationTree) (kinds : List Kind) (e : Bool) (root : Root) → HasClasses class → RootOn L (clock_place node (left_clock p lists node q)) kinds root → RootMost L node.inputs class kinds e root
      → map (rules.kind_of node) q.left ≡ map Some kinds → (j : ℕ) (x : List ℕ) → slice_get q.left j ≡ Some x → AtMost e (a x) → FlowSound L node.inputs class (a x) (root_flow p lists node q root (0 + j) x)
  left_sound class q kinds e (own f) assigned on most same j x there le = raised L node.inputs class e (a x) f le most
  left_sound class q kinds e (at i) assigned on most same j x there le =
      let k = left_clock p lists node q in
      let t = left_kind node q.left kinds same j x there in
      let z : i + j ≡ i + (0 + j) = omega arith in
      let kind : t.0 ≡ unwrap_or (rules.kind_of node x) Ints = ap (λ (o : Option Kind). unwrap_or o Ints) t.2 in
      record {
        form = (
          subst (On L (clock_place node k) (unwrap_or (rules.kind_of node x) Ints)) z (subst (λ t. On L (clock_place node k) t (i + j)) kind (on j t.0 t.1)),
          subst (λ y. AtMost (class y) (a x)) z (λ h. le (most j (slice_get_within kinds j t.0 t.1) h)),
        );
        clock = expressions.clock_sound p lists node (Below node) a L node.inputs (variables_on p lists node facts ruling) (beginnings p lists node facts ruling) ruling.sampled callee_sound callee_outputs class k assigned (clocked_by (name_at q.left 0));
      }

  equations_sound : (qs : List EquationTree) (s : ℕ) → ((j : ℕ) (q : EquationTree) → slice_get qs j ≡ Some q → (i : ℕ) × (slice_get node.equations i ≡ Some q)) → Each (λ x f. slice_get L x ≡ Some f) s (inner_flows p lists node qs s)
      → (cs : List Bool) × (length cs ≡ length (inner_flows p lists node qs s)) × ((class : Classing) → HasClasses class → Marks class s cs → AllSound L node.inputs class s (inner_flows p lists node qs s) × Roots p lists node (λ x f. FlowSound L node.inputs class (a x) f) qs s)
  equations_sound [] s there stand = ([], refl, λ class h marks. (tt, tt))
  equations_sound (q ∷ qs) s there stand =
      let t = there 0 q refl in
      let k = left_clock p lists node q in
      let w = walk_right p lists node q s in
      let s' = s + length w.inner in
      let rest = inner_flows p lists node qs s' in
      let ty = ruling.typed t.0 q t.1 in
      let e = is_one a q.right in
      let r = expressions.sound_right p lists node (Below node) a L node.inputs (variables_on p lists node facts ruling) (beginnings p lists node facts ruling) ruling.sampled callee_sound callee_outputs clocked_by q.right k (length q.left) ty.0
      (record { clocked = clocked_by (name_at q.left 0); well = facts.rights t.0 q t.1; fits = left_fits t.0 q t.1; needs = all_at (λ (q : EquationTree). NeedsMet a q.right) node.equations t.0 q ruling.meets.needs t.1; zeros = ruling.zeros t.0 q t.1; parts = ruling.parts t.0 q t.1; starts = ruling.starts t.0 q t.1 }) ty.1
      s (each_left (λ x f. slice_get L x ≡ Some f) s w.inner rest stand) in
      let raise = all_at (IsRaised a) node.equations t.0 q ruling.meets.raised t.1 in
      let g = equations_sound qs s' (λ j q e. there (suc j) q e) (each_right (λ x f. slice_get L x ≡ Some f) s w.inner rest stand) in
      let lr = r.1.1 in
      let lg = g.1 in
      let z : s + length r.1.0 ≡ s' = omega arith in (
        r.1.0 ++ g.0,
        omega (arith, length-append r.1.0 g.0, length-append w.inner rest),
        λ class h marks.
            let x = r.1.2 class h (each_left (λ x b. class x ≡ b) s r.1.0 g.0 marks) in
            let y = g.2 class h (subst (λ n. Marks class n g.0) z (each_right (λ x b. class x ≡ b) s r.1.0 g.0 marks)) in (
              each_join (λ x f. FlowSound L node.inputs class (class x) f) s w.inner rest x.0 y.0,
              (
                each_all (λ j x. FlowSound L node.inputs class (a x) (root_flow p lists node q w.root j x)) 0 q.left (λ j v here. left_sound class q ty.0 e w.root h r.0 x.1 ty.2 j v here (λ one. all_at (λ x. a x ≡ true) q.left j v (raise one) here)),
                y.1,
              ),
            ),
      )

  -- THE LIST

  input_one : (class : Classing) (r : ℕ) (b : Bool) (d : DeclarationTree) → slice_get node.inputs r ≡ Some d → FlowSound L node.inputs class b (record { form = Input r; clock = Base; kind = d.kind })
  input_one class r b d e = record { form = (refl, d, e, refl); clock = tt }

  inputs_sound : (class : Classing) (ds : List DeclarationTree) (r : ℕ) → ((j : ℕ) (d : DeclarationTree) → slice_get ds j ≡ Some d → slice_get node.inputs (r + j) ≡ Some d) → AllSound L node.inputs class r (input_flows p lists node r ds)
  inputs_sound class [] r there = tt
  inputs_sound class (d ∷ ds) r there =
      let z : r + 0 ≡ r = omega arith in
      let here = ap (slice_get node.inputs) (sym z) ∙ there 0 d refl in
      (input_one class r (class r) d here, inputs_sound class ds (suc r) (λ j c e. let z : suc r + j ≡ r + suc j = omega arith in ap (slice_get node.inputs) z ∙ there (suc j) c e))

  output_there : (j : ℕ) (d : DeclarationTree) → slice_get node.outputs j ≡ Some d → slice_get (declarations_of node) (m + j) ≡ Some d
  output_there j d e = get-behind node.inputs (node.outputs ++ node.locals) m j refl ∙ get-front node.outputs node.locals j (slice_get_within node.outputs j d e) ∙ e

  output_zero : (j : ℕ) (d : DeclarationTree) → slice_get node.outputs j ≡ Some d → a d.name ≡ false
  output_zero j d e =
      (all_at (IsHeld a node) (declarations_of node) (m + j) d ruling.meets.held (output_there j d e)).output
      (contains_get (names_of node.outputs) d.name j (get-names node.outputs j ∙ ap (option_map (λ (d : DeclarationTree). d.name)) e))

  module _ (cs : List Bool) where
    abbrev all_classes : List Bool
    all_classes = map a (variables_of node) ++ cs

    abbrev class : Classing
    class = class_in all_classes

    variable_class : (v : ℕ) (x : List ℕ) → slice_get (variables_of node) v ≡ Some x → class v ≡ a x
    variable_class v x e =
        let lt = slice_get_within (variables_of node) v x e in
        let l = length-map (variables_of node) a in
        get_or_from_slice_get all_classes v (a x) false (get-front (map a (variables_of node)) cs v (omega arith) ∙ slice_get-map a (variables_of node) v ∙ ap (option_map a) e)

    assigned : HasClasses class
    assigned x known = variable_class (variable_place p lists node x) x (get_place (variables_of node) x known)

    marked : Marks class nv cs
    marked =
        each_all (λ x b. class x ≡ b) nv cs
        (λ j b e. get_or_from_slice_get all_classes (nv + j) b false (get-behind (map a (variables_of node)) cs nv j (length-map (variables_of node) a) ∙ e))

  pub node_sound : OpenSound L node.inputs (length node.outputs)
  node_sound =
      let q = equations_sound node.equations nv (λ j q e. (j, e)) (inner_stand p lists node facts ruling) in
      let cs = q.0 in
      let c = class cs in
      let s = q.2 c (assigned cs) (marked cs) in
      let F = variable_flow p lists node node.equations nv in
      let ins = input_flows p lists node 0 node.inputs in
      let inner = inner_flows p lists node node.equations nv in
      let li = length-inputs p lists node 0 node.inputs in
      let lf = length-front p lists node in
      let lp = ap length (parts p lists node) in
      let lm = length-map (variables_of node) a in
      let lq = q.1 in
      let y : m ≡ 0 + length ins = omega arith in
      let z : nv ≡ 0 + length (front p lists node) = omega arith in
      let vars : Each (λ x f. FlowSound L node.inputs c (c x) f) m (map F (others p lists node)) =
      each_map (λ x f. FlowSound L node.inputs c (c x) f) F m (others p lists node)
      (each_all (λ x name. FlowSound L node.inputs c (c x) (F name)) m (others p lists node)
      (λ j x e. subst (λ b. FlowSound L node.inputs c b (F x)) (sym (variable_class cs (m + j) x (other_named p lists node j x e))) (rooted p lists node (λ x f. FlowSound L node.inputs c (a x) f) node.equations nv x s.1 (other_has_equation p lists node facts j x e)))) in
      let fronts = each_join (λ x f. FlowSound L node.inputs c (c x) f) 0 ins (map F (others p lists node)) (inputs_sound c node.inputs 0 (λ j d e. let z : 0 + j ≡ j = omega arith in ap (slice_get node.inputs) z ∙ e)) (subst (λ n. Each (λ x f. FlowSound L node.inputs c (c x) f) n (map F (others p lists node))) y vars) in
      let all = each_join (λ x f. FlowSound L node.inputs c (c x) f) 0 (front p lists node) inner fronts (subst (λ n. Each (λ x f. FlowSound L node.inputs c (c x) f) n inner) z s.0) in
      record {
        classes = all_classes cs;
        long = omega (arith, length-append (map a (variables_of node)) cs, length-append (front p lists node) inner);
        flows = λ x f e.
            let w : 0 + x ≡ x = omega arith in
            subst (λ x. FlowSound L node.inputs c (c x) f) w (each_at (λ x f. FlowSound L node.inputs c (c x) f) 0 L x f (subst (Each (λ x f. FlowSound L node.inputs c (c x) f) 0) (sym (parts p lists node)) all) e);
        outputs = λ j lt.
            let d = declared node.outputs j lt in
            let named : slice_get (variables_of node) (m + j) ≡ Some d.0.name = get-names (declarations_of node) (m + j) ∙ ap (option_map (λ (d : DeclarationTree). d.name)) (output_there j d.0 d.1) in
            variable_class cs (m + j) d.0.name named ∙ output_zero j d.0 d.1;
      }

module _ (p : ProgramTree) (lists : List (List Flow)) (are : AreLists p lists) (facts : (f : List ℕ) (n : NodeTree) → node_called p f ≡ Some n → NodeFacts p n) (rulings : (f : List ℕ) (n : NodeTree) → node_called p f ≡ Some n → Ruling p n) (never : (f : List ℕ) → ¬ Reaches p f f) where
  abbrev pub ListSound : List ℕ → Type 0
  ListSound f = (node : NodeTree) → node_called p f ≡ Some node → OpenSound (list_of p lists f) node.inputs (length node.outputs)

  step : (f : List ℕ) → ((g : List ℕ) → Calls p f g → ListSound g) → ListSound f
  step f rest node found =
      subst (λ l. OpenSound l node.inputs (length node.outputs)) (sym (listed p lists are f node found))
      (node_sound p lists node (facts f node found) (rulings f node found)
      (λ g b callee e. rest g (node, found, b) callee e)
      (λ g b callee e j d here.
      subst (λ l. On l Base d.kind (length callee.inputs + j)) (sym (listed p lists are g callee e)) (outputs_on p lists callee (facts g callee e) (rulings g callee e) j d here ((facts f node found).outputs g callee b e j d here))))

  pub lists_sound : (f : List ℕ) → ListSound f
  lists_sound = by_calls p never ListSound step
