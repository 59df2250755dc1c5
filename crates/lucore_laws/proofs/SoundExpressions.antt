-- The flows of an expression that keeps the rules fit.
use Rattle.std.proofs.Common.{◌≡◌, ◌≢◌, ℕ, zero, suc, ◌+◌, Bool, true, false, ◌||◌, List, [], ◌∷◌, ◌++◌, length, map, Option, Some, None, refl, sym, ap, ◌∙◌, subst, arith}
use Rattle.std.specs.Prelude.{slice_get, pos, option_map, unwrap_or, All}
use Rattle.std.proofs.lemmas.List.{length-map}
use Rattle.std.proofs.lemmas.Option.{same_Some}
use Rattle.lutree.specs.declared.expr.Pattern.{Pattern}
use Rattle.lutree.specs.declared.expr.Condition.{Condition}
use Rattle.lutree.specs.declared.expr.Prefix.TheVariants.{Data as Data1, Pre as Before}
use Rattle.lutree.specs.declared.expr.Infix.TheVariants.{Data as Data2, Arrow as Starts, FollowedBy}
use Rattle.lutree.specs.declared.program.Kind.{Kind}
use Rattle.lutree.specs.declared.program.Kind.TheVariants.{Int as Ints, Bool as Truths}
use Rattle.lutree.specs.Tree.{Tree, Trees, list_of as trees_in, DeclarationTree, EquationTree, NodeTree, ProgramTree}
use Rattle.lutree.specs.Tree as tree
use Rattle.luflow.specs.declared.data.Datum.{Datum}
use Rattle.luflow.specs.declared.data.Datum.TheVariants.{Int, Bool as Truth, Name}
use Rattle.luflow.specs.declared.form.Clock.{Clock}
use Rattle.luflow.specs.declared.form.Clock.TheVariants.{Base, On as Sampled}
use Rattle.luflow.specs.declared.form.Form.{Form}
use Rattle.luflow.specs.declared.form.Form.TheVariants.{Constant, Unary, Binary, If, Pre, Arrow, When, Current, Merge}
use Rattle.luflow.specs.declared.form.Flow.{Flow}
use Rattle.luflow.specs.Sound.{AtMost, IsConstantOf, clock_values}
use Rattle.lusource.specs.Names.{clock_of}
use Rattle.lustat_rules.specs.Scope.{declarations_of, node_called}
use Rattle.lusource.specs.Source.{condition, pattern_value}
use Rattle.lustat_rules.specs.Scope as rules
use Rattle.lustat_rules.specs.Typing.{agreed_all, type_of, types_of, call_kinds, right_types}
use Rattle.lustat_rules.specs.Parts.{EachPart, EachPartOf}
use Rattle.lustat_rules.specs.Clocks.{pattern_kind, HasClock, FitsClockInside, AllFitInside, BranchesFitInside, clocks_in, clocks_in_all}
use Rattle.lustat_rules.specs.Classes.{Classes, is_one, NeedsMet, AllReady, currents_in, currents_in_all, IsTrueAtFirst, ClockIsTrueAtFirst}
use Rattle.lucore_laws.specs.Layout.{Walking, leaf, after, list_of, inputs_in, instance, moved, clock_place, flow_of, variable_place, walk, walk_all, walk_branches}
use Rattle.lucore_laws.specs.Layout.Root.{at}
use Rattle.lucore_laws.proofs.Names.{all_left, all_right, all_head, all_tail, clock_named}
use Rattle.lucore_laws.proofs.Well.{Known, IsWell, AllWell, CallIs}
use Rattle.lucore_laws.proofs.Types.{agreed_is, EachIs, agreed_all_is, sort_is, double_is, choice_is, kinds_of, call_is, only_is, single_is}
use Rattle.lucore_laws.proofs.Fitting.{IsSampled, zero_class, same_class, On, Begins, BranchesSound, FormSound, ClockSound, FlowSound}
use Rattle.lucore_laws.proofs.Parts.{branch_clock, IsGoodPart}
use Rattle.lucore_laws.proofs.SoundWalks.{RootOn, Classing, RootMost, Sound, weaken, sound_leaf, sound_after, OpenSound, OnAll, AllZero, instance_on, instance_sound, instance_most}

left_most : (b c e : Bool) → AtMost b c → AtMost b (c || e)
left_most b true e h x = refl
left_most b false e h x = let no : false ≡ true = h x in cc

right_most : (b c e : Bool) → AtMost b e → AtMost b (c || e)
right_most b true e h x = refl
right_most b false e h x = h x

typed : (o : Option Kind) (t : Kind) → o ≡ Some t → unwrap_or o Ints ≡ t
typed o t e = ap (λ (o : Option Kind). unwrap_or o Ints) e

zero_from : (b c : Bool) → AtMost b c → c ≡ false → b ≡ false
zero_from b c h z = zero_class b (λ x. let no : false ≡ true = sym z ∙ h x in cc)

abbrev first_type : List (Option Kind) → Option Kind
first_type [] = None
first_type (o ∷ os) = o

abbrev later_types : List (Option Kind) → List (Option Kind)
later_types [] = []
later_types (o ∷ os) = os

one_value : (L : List Flow) (i : ℕ) (k : Clock) (t : Kind) (j : ℕ) (u : Kind) → slice_get (t ∷ []) j ≡ Some u → On L k t i → On L k u (i + j)
one_value L i k t zero u e on =
    let z : i ≡ i + 0 = omega arith in
    subst (On L k u) z (subst (λ t. On L k t i) (same_Some t u e) on)
one_value L i k t (suc j) u e on = cc

module _ (p : ProgramTree) (lists : List (List Flow)) (node : NodeTree) (Below : List ℕ → Type 0) (a : Classes) (L : List Flow) (ins : List DeclarationTree)
    (variables : (x : List ℕ) (k : Option Condition) (t : Kind) → HasClock node x k → rules.kind_of node x ≡ Some t → On L (clock_place node k) t (variable_place p lists node x))
    (begins : (c : Condition) (k : Option Condition) → IsTrueAtFirst node c → HasClock node c.variable k → IsSampled node c → Begins L (clock_place node k) (pattern_value c.pattern) (variable_place p lists node c.variable))
    (declared_clock : (x : List ℕ) (c : Condition) → HasClock node x (Some c) → IsSampled node c)
    (callee_sound : (f : List ℕ) → Below f → (callee : NodeTree) → node_called p f ≡ Some callee → OpenSound (list_of p lists f) callee.inputs (length callee.outputs))
    (callee_outputs : (f : List ℕ) → Below f → (callee : NodeTree) → node_called p f ≡ Some callee → (j : ℕ) (d : DeclarationTree) → slice_get callee.outputs j ≡ Some d → On (list_of p lists f) Base d.kind (length callee.inputs + j)) where
  -- a clock whose variable is a bool of class 0
  abbrev pub Clocked : Option Condition → Type 0
  Clocked None = Unit {0}
  Clocked (Some c) = Known p node Below c.variable × ((j : Option Condition) × HasClock node c.variable j) × IsSampled node c × (a c.variable ≡ false)

  -- the variables have their classes
  abbrev pub Assigned : Classing → Type 0
  Assigned class = (x : List ℕ) → Known p node Below x → class (variable_place p lists node x) ≡ a x

  pub clock_sound : (class : Classing) (k : Option Condition) → Assigned class → Clocked k → ClockSound L class (clock_place node k)
  clock_sound class None assigned clocked = tt
  clock_sound class (Some c) assigned clocked =
      (clock_place node clocked.1.0, pattern_kind c.pattern, clocked.2.1, variables c.variable clocked.1.0 (pattern_kind c.pattern) clocked.1.1 clocked.2.0, assigned c.variable clocked.0 ∙ clocked.3)

  abbrev SoundIn : (Classing → Type 0) → Walking → Clock → List Kind → Bool → Type 0
  SoundIn = Sound L ins

  sound_instance : (P : Classing → Type 0) → ((class : Classing) → P class → Assigned class) → (f : List ℕ) (k : Option Condition) (xs : List ℕ) (w : ℕ) (arguments : ℕ) → Clocked k → (is : CallIs p node Below f arguments w) → OnAll L (clock_place node k) (kinds_of is.callee.inputs) xs
      → SoundIn (λ class. P class × AllZero class xs) (instance p lists f (clock_place node k) xs) (clock_place node k) (kinds_of is.callee.outputs) false
  sound_instance P assigned f k xs w arguments clocked is places s stand =
      let fl = list_of p lists f in
      let ck = clock_place node k in
      let sound = callee_sound f is.below is.callee is.found in
      let on = callee_outputs f is.below is.callee is.found in
      let i : length is.callee.inputs ≡ inputs_in (node_called p f) = sym (ap inputs_in is.found) in
      let root_on = instance_on L fl ins is.callee.inputs is.callee.outputs sound on ck xs places s stand in (
        subst (λ n. RootOn L ck (kinds_of is.callee.outputs) (at (s + n))) i root_on,
        (
          sound.classes,
          sound.long ∙ sym (long fl s ck xs),
          λ class q marks.
              let clock = clock_sound class k (assigned class q.0) clocked in (
                instance_sound L fl ins is.callee.inputs is.callee.outputs sound on ck xs places s stand class clock q.1 marks,
                subst (λ n. RootMost L ins class (kinds_of is.callee.outputs) false (at (s + n))) i (instance_most L fl ins is.callee.inputs is.callee.outputs sound on ck xs places s stand class clock q.1 marks false),
              ),
        ),
      )
    where
      long : (fl : List Flow) (s : ℕ) (k : Clock) (xs : List ℕ) → length (map (moved s k xs) fl) ≡ length fl
      long fl s k xs = length-map fl (moved s k xs)

  module _ (clocked_by : (x : List ℕ) → Clocked (clock_of node x)) where
    -- what `when` or `merge` may name is of class 0
    abbrev pub IsZero : List ℕ → Type 0
    IsZero x = a x ≡ false

    -- what the rules ask of an expression at its place
    pub record Keeps (e : Tree) (k : Option Condition) (w : ℕ) : Type 0 where
      pub clocked : Clocked k
      pub well : IsWell p node Below e w
      pub fits : FitsClockInside node e k
      pub needs : NeedsMet a e
      pub zeros : All IsZero (clocks_in e)
      pub parts : EachPart (IsGoodPart node) e
      pub starts : All (ClockIsTrueAtFirst node) (currents_in e)

    pub record AllKeep (all : Trees) (k : Option Condition) : Type 0 where
      pub clocked : Clocked k
      pub well : AllWell p node Below all
      pub fits : AllFitInside node all k
      pub needs : AllReady a all
      pub zeros : All IsZero (clocks_in_all all)
      pub parts : EachPartOf (IsGoodPart node) all
      pub starts : All (ClockIsTrueAtFirst node) (currents_in_all all)

    -- what the rules ask of the branches of a merge
    pub record BranchesKeep (c : List ℕ) (ps : List Pattern) (all : Trees) : Type 0 where
      pub variable : Known p node Below c × ((j : Option Condition) × HasClock node c j) × (a c ≡ false)
      pub sampled : All (λ x. IsSampled node (branch_clock c x)) ps
      pub well : AllWell p node Below all
      pub fits : BranchesFitInside node c ps all
      pub needs : AllReady a all
      pub zeros : All IsZero (clocks_in_all all)
      pub parts : EachPartOf (IsGoodPart node) all
      pub starts : All (ClockIsTrueAtFirst node) (currents_in_all all)

    -- the branches of a merge stand where its variable has these values
    abbrev OnBranches : Kind → ℕ → List Datum → List ℕ → Type 0
    OnBranches t c [] [] = Unit {0}
    OnBranches t c [] (x ∷ xs) = ⊥
    OnBranches t c (d ∷ ds) [] = ⊥
    OnBranches t c (d ∷ ds) (x ∷ xs) = On L (Sampled c d) t x × OnBranches t c ds xs

    branches_sound : (class : Classing) (t : Kind) (c : ℕ) (ds : List Datum) (xs : List ℕ) → OnBranches t c ds xs → AllZero class xs → BranchesSound L class t c ds xs
    branches_sound class t c [] [] on zeros = tt
    branches_sound class t c [] (x ∷ xs) on zeros = absurd on
    branches_sound class t c (d ∷ ds) [] on zeros = absurd on
    branches_sound class t c (d ∷ ds) (x ∷ xs) on zeros = (on.0, zeros.0, branches_sound class t c ds xs on.1 zeros.1)

    -- a merge that has a type has a branch
    some_branches : (c : List ℕ) (ps : List Pattern) (all : Trees) (kind t : Kind) → agreed_all (types_of p node all) ≡ Some t → BranchesFitInside node c ps all → map pattern_value ps ≡ clock_values kind → clock_values kind ≢ []
    some_branches c ps tree.none kind t ty fits values = cc
    some_branches c [] (tree.more b all) kind t ty fits values = absurd fits
    some_branches c (q ∷ ps) (tree.more b all) kind t ty fits values = λ none. let no : map pattern_value (q ∷ ps) ≡ [] = values ∙ none in cc

    -- a flow of the expression's own
    flow_sound : (class : Classing) (e : Tree) (k : Option Condition) (t : Kind) (form : Form) (b : Bool) → Assigned class → Clocked k → type_of p node e ≡ Some t → FormSound L ins class (clock_place node k) t b form → FlowSound L ins class b (flow_of p lists node e k form)
    flow_sound class e k t form b assigned clocked ty h =
        record {
          form = subst (λ t. FormSound L ins class (clock_place node k) t b form) (sym (typed (type_of p node e) t ty)) h;
          clock = clock_sound class k assigned clocked;
        }

    own_leaf : (P : Classing → Type 0) (e : Tree) (k : Option Condition) (t : Kind) (form : Form) (b : Bool) → type_of p node e ≡ Some t → Clocked k → ((class : Classing) → P class → Assigned class × FormSound L ins class (clock_place node k) t b form) → SoundIn P (leaf (flow_of p lists node e k form)) (clock_place node k) (t ∷ []) b
    own_leaf P e k t form b ty clocked h =
        sound_leaf L ins P (flow_of p lists node e k form) (clock_place node k) t b refl (typed (type_of p node e) t ty)
        (λ class q. let r = h class q in flow_sound class e k t form b r.0 clocked ty r.1)

    abbrev IsExpressionSound : Tree → Option Condition → Kind → Type 0
    IsExpressionSound e k t = SoundIn Assigned (walk p lists node e k) (clock_place node k) (t ∷ []) (is_one a e)

    -- the arguments at these places have class 0
    abbrev Given : List ℕ → Classing → Type 0
    Given done class = Assigned class × AllZero class done

    -- what is shown of the arguments of a call
    abbrev EverySound : Trees → Option Condition → Type 0
    EverySound all k =
        (ts kinds : List Kind) (rest : List ℕ → Walking) → AllKeep all k → types_of p node all ≡ map Some ts
        → ((xs : List ℕ) → OnAll L (clock_place node k) ts xs → SoundIn (λ class. Given [] class × AllZero class xs) (rest xs) (clock_place node k) kinds false)
        → SoundIn (Given []) (walk_all p lists node all k rest) (clock_place node k) kinds false

    -- a call with its values' types
    sound_call : (f : List ℕ) (all : Trees) (k : Option Condition) (w : ℕ) (kinds : List Kind) → EverySound all k → Keeps (tree.call f all) k w → call_kinds (rules.node_called p f) (types_of p node all) ≡ Some kinds → SoundIn Assigned (walk p lists node (tree.call f all) k) (clock_place node k) kinds false
    sound_call f all k w kinds every keeps ty =
        let ck = clock_place node k in
        let is = keeps.well.0 in
        let found : rules.node_called p f ≡ Some is.callee = is.found in
        let c = call_is is.callee (types_of p node all) kinds (ap (λ (o : Option NodeTree). call_kinds o (types_of p node all)) (sym found) ∙ ty) in
        subst (λ kinds. SoundIn Assigned (walk p lists node (tree.call f all) k) ck kinds false) (sym c.1)
        (weaken L ins (Given []) Assigned (walk p lists node (tree.call f all) k) ck (kinds_of is.callee.outputs) false (λ class q. (q, tt))
        (every (kinds_of is.callee.inputs) (kinds_of is.callee.outputs) (λ xs. instance p lists f ck xs)
        (record { clocked = keeps.clocked; well = keeps.well.1; fits = keeps.fits; needs = keeps.needs; zeros = keeps.zeros; parts = keeps.parts; starts = keeps.starts }) c.0
        (λ xs places. sound_instance (Given []) (λ class q. q.0) f k xs w (length (trees_in all)) keeps.clocked is places)))

    mutual
      pub sound : (e : Tree) (k : Option Condition) (t : Kind) → Keeps e k 1 → type_of p node e ≡ Some t → IsExpressionSound e k t
      sound (tree.number n) k t keeps ty =
          own_leaf Assigned (tree.number n) k t (Constant (Int (pos n))) false ty keeps.clocked
          (λ class q. (q, subst (λ t. IsConstantOf t (Int (pos n))) (same_Some Ints t ty) (tt, λ no. cc)))
      sound (tree.truth b) k t keeps ty =
          own_leaf Assigned (tree.truth b) k t (Constant (Truth b)) false ty keeps.clocked
          (λ class q. (q, subst (λ t. IsConstantOf t (Truth b)) (same_Some Truths t ty) (tt, λ no. cc)))
      sound (tree.label x) k t keeps ty =
          own_leaf Assigned (tree.label x) k t (Constant (Name x.number)) false ty keeps.clocked
          (λ class q. (q, subst (λ t. IsConstantOf t (Name x.number)) (same_Some x.kind t ty) keeps.parts))
      sound (tree.variable x) k t keeps ty = λ s stand. (
        λ j u e.
            one_value L (variable_place p lists node x) (clock_place node k) t j u e (variables x k t keeps.fits ty),
        (
          [],
          refl,
          λ class q marks. (tt, λ j lt. let z : variable_place p lists node x ≡ variable_place p lists node x + j = omega arith in subst (λ v. AtMost (class v) (a x)) z (same_class (class (variable_place p lists node x)) (a x) (q x keeps.well.1))),
        ),
      )
      sound (tree.unary (Data1 op) b) k t keeps ty =
          let ck = clock_place node k in
          let h = agreed_is _ _ t ty in
          let kind : t ≡ _ = same_Some _ _ (sym h.0) ∙ sort_is op in
          sound_after L ins Assigned (walk p lists node b k) (λ x. leaf (flow_of p lists node (tree.unary (Data1 op) b) k (Unary op x))) ck ck t (t ∷ []) (is_one a b) (is_one a b)
          (sound b k t (record { clocked = keeps.clocked; well = keeps.well; fits = keeps.fits; needs = keeps.needs; zeros = keeps.zeros; parts = keeps.parts; starts = keeps.starts }) h.1)
          (λ x on. own_leaf (λ class. Assigned class × AtMost (class x) (is_one a b)) (tree.unary (Data1 op) b) k t (Unary op x) (is_one a b) ty keeps.clocked (λ class q. (q.0, (kind, on, q.1))))
      sound (tree.unary Before b) k t keeps ty =
          let ck = clock_place node k in
          sound_after L ins Assigned (walk p lists node b k) (λ x. leaf (flow_of p lists node (tree.unary Before b) k (Pre x))) ck ck t (t ∷ []) (is_one a b) true
          (sound b k t (record { clocked = keeps.clocked; well = keeps.well; fits = keeps.fits; needs = keeps.needs.1; zeros = keeps.zeros; parts = keeps.parts; starts = keeps.starts }) ty)
          (λ x on. own_leaf (λ class. Assigned class × AtMost (class x) (is_one a b)) (tree.unary Before b) k t (Pre x) true ty keeps.clocked (λ class q. (q.0, (on, zero_from (class x) (is_one a b) q.1 keeps.needs.0, refl))))
      sound (tree.binary (Data2 op) b c) k t keeps ty =
          let ck = clock_place node k in
          let e = tree.binary (Data2 op) b c in
          let h = double_is op _ _ t ty in
          let u = h.0 in
          let P1 = λ (x : ℕ) (class : Classing). Assigned class × AtMost (class x) (is_one a b) in
          sound_after L ins Assigned (walk p lists node b k) (λ x. after (walk p lists node c k) (λ y. leaf (flow_of p lists node e k (Binary op x y)))) ck ck u (t ∷ []) (is_one a b) (is_one a e)
          (sound b k u (record { clocked = keeps.clocked; well = keeps.well.0; fits = keeps.fits.0; needs = keeps.needs.0; zeros = all_left IsZero (clocks_in b) (clocks_in c) keeps.zeros; parts = keeps.parts.0; starts = all_left (ClockIsTrueAtFirst node) (currents_in b) (currents_in c) keeps.starts }) h.1)
          (λ x on. sound_after L ins (P1 x) (walk p lists node c k) (λ y. leaf (flow_of p lists node e k (Binary op x y))) ck ck u (t ∷ []) (is_one a c) (is_one a e)
          (weaken L ins Assigned (P1 x) (walk p lists node c k) ck (u ∷ []) (is_one a c) (λ class q. q.0)
          (sound c k u (record { clocked = keeps.clocked; well = keeps.well.1; fits = keeps.fits.1; needs = keeps.needs.1; zeros = all_right IsZero (clocks_in b) (clocks_in c) keeps.zeros; parts = keeps.parts.1; starts = all_right (ClockIsTrueAtFirst node) (currents_in b) (currents_in c) keeps.starts }) h.2))
          (λ y on'. own_leaf (λ class. P1 x class × AtMost (class y) (is_one a c)) e k t (Binary op x y) (is_one a e) ty keeps.clocked
          (λ class q. (q.0.0, (u, h.3, h.4, on, on', left_most (class x) (is_one a b) (is_one a c) q.0.1, right_most (class y) (is_one a b) (is_one a c) q.1)))))
      sound (tree.binary Starts b c) k t keeps ty =
          let ck = clock_place node k in
          let e = tree.binary Starts b c in
          let h = agreed_is _ _ t ty in
          let P1 = λ (x : ℕ) (class : Classing). Assigned class × AtMost (class x) (is_one a b) in
          sound_after L ins Assigned (walk p lists node b k) (λ x. after (walk p lists node c k) (λ y. leaf (flow_of p lists node e k (Arrow x y)))) ck ck t (t ∷ []) (is_one a b) (is_one a e)
          (sound b k t (record { clocked = keeps.clocked; well = keeps.well.0; fits = keeps.fits.0; needs = keeps.needs.0; zeros = all_left IsZero (clocks_in b) (clocks_in c) keeps.zeros; parts = keeps.parts.0; starts = all_left (ClockIsTrueAtFirst node) (currents_in b) (currents_in c) keeps.starts }) h.0)
          (λ x on. sound_after L ins (P1 x) (walk p lists node c k) (λ y. leaf (flow_of p lists node e k (Arrow x y))) ck ck t (t ∷ []) (is_one a c) (is_one a e)
          (weaken L ins Assigned (P1 x) (walk p lists node c k) ck (t ∷ []) (is_one a c) (λ class q. q.0)
          (sound c k t (record { clocked = keeps.clocked; well = keeps.well.1; fits = keeps.fits.1; needs = keeps.needs.1; zeros = all_right IsZero (clocks_in b) (clocks_in c) keeps.zeros; parts = keeps.parts.1; starts = all_right (ClockIsTrueAtFirst node) (currents_in b) (currents_in c) keeps.starts }) h.1))
          (λ y on'. own_leaf (λ class. P1 x class × AtMost (class y) (is_one a c)) e k t (Arrow x y) (is_one a e) ty keeps.clocked
          (λ class q. (q.0.0, (on, on', q.0.1)))))
      sound (tree.binary FollowedBy b c) k t keeps ty =
          let ck = clock_place node k in
          let e = tree.binary FollowedBy b c in
          let h = agreed_is _ _ t ty in
          let pre = λ (y : ℕ). leaf (flow_of p lists node (tree.unary Before c) k (Pre y)) in
          let root = λ (x z : ℕ). leaf (flow_of p lists node e k (Arrow x z)) in
          let P1 = λ (x : ℕ) (class : Classing). Assigned class × AtMost (class x) (is_one a b) in
          let P2 = λ (x y : ℕ) (class : Classing). P1 x class × AtMost (class y) (is_one a c) in
          sound_after L ins Assigned (walk p lists node b k) (λ x. after (walk p lists node c k) (λ y. after (pre y) (λ z. root x z))) ck ck t (t ∷ []) (is_one a b) (is_one a e)
          (sound b k t (record { clocked = keeps.clocked; well = keeps.well.0; fits = keeps.fits.0; needs = keeps.needs.0; zeros = all_left IsZero (clocks_in b) (clocks_in c) keeps.zeros; parts = keeps.parts.0; starts = all_left (ClockIsTrueAtFirst node) (currents_in b) (currents_in c) keeps.starts }) h.0)
          (λ x on. sound_after L ins (P1 x) (walk p lists node c k) (λ y. after (pre y) (λ z. root x z)) ck ck t (t ∷ []) (is_one a c) (is_one a e)
          (weaken L ins Assigned (P1 x) (walk p lists node c k) ck (t ∷ []) (is_one a c) (λ class q. q.0)
          (sound c k t (record { clocked = keeps.clocked; well = keeps.well.1; fits = keeps.fits.1; needs = keeps.needs.2; zeros = all_right IsZero (clocks_in b) (clocks_in c) keeps.zeros; parts = keeps.parts.1; starts = all_right (ClockIsTrueAtFirst node) (currents_in b) (currents_in c) keeps.starts }) h.1))
          (λ y on'. sound_after L ins (P2 x y) (pre y) (λ z. root x z) ck ck t (t ∷ []) true (is_one a e)
          (own_leaf (P2 x y) (tree.unary Before c) k t (Pre y) true h.1 keeps.clocked (λ class q. (q.0.0, (on', zero_from (class y) (is_one a c) q.1 keeps.needs.1, refl))))
          (λ z on''. own_leaf (λ class. P2 x y class × AtMost (class z) true) e k t (Arrow x z) (is_one a e) ty keeps.clocked
          (λ class q. (q.0.0.0, (on, on'', q.0.0.1))))))
      sound (tree.choice v b c) k t keeps ty =
          let ck = clock_place node k in
          let e = tree.choice v b c in
          let h = choice_is _ _ _ t ty in
          let root = λ (x y z : ℕ). leaf (flow_of p lists node e k (If x y z)) in
          let P1 = λ (x : ℕ) (class : Classing). Assigned class × AtMost (class x) (is_one a v) in
          let P2 = λ (x y : ℕ) (class : Classing). P1 x class × AtMost (class y) (is_one a b) in
          let zeros' = all_right IsZero (clocks_in v) (clocks_in b ++ clocks_in c) keeps.zeros in
          let starts' = all_right (ClockIsTrueAtFirst node) (currents_in v) (currents_in b ++ currents_in c) keeps.starts in
          sound_after L ins Assigned (walk p lists node v k) (λ x. after (walk p lists node b k) (λ y. after (walk p lists node c k) (λ z. root x y z))) ck ck Truths (t ∷ []) (is_one a v) (is_one a e)
          (sound v k Truths (record { clocked = keeps.clocked; well = keeps.well.0; fits = keeps.fits.0; needs = keeps.needs.0; zeros = all_left IsZero (clocks_in v) (clocks_in b ++ clocks_in c) keeps.zeros; parts = keeps.parts.0; starts = all_left (ClockIsTrueAtFirst node) (currents_in v) (currents_in b ++ currents_in c) keeps.starts }) h.0)
          (λ x on. sound_after L ins (P1 x) (walk p lists node b k) (λ y. after (walk p lists node c k) (λ z. root x y z)) ck ck t (t ∷ []) (is_one a b) (is_one a e)
          (weaken L ins Assigned (P1 x) (walk p lists node b k) ck (t ∷ []) (is_one a b) (λ class q. q.0)
          (sound b k t (record { clocked = keeps.clocked; well = keeps.well.1; fits = keeps.fits.1; needs = keeps.needs.1; zeros = all_left IsZero (clocks_in b) (clocks_in c) zeros'; parts = keeps.parts.1; starts = all_left (ClockIsTrueAtFirst node) (currents_in b) (currents_in c) starts' }) h.1))
          (λ y on'. sound_after L ins (P2 x y) (walk p lists node c k) (λ z. root x y z) ck ck t (t ∷ []) (is_one a c) (is_one a e)
          (weaken L ins Assigned (P2 x y) (walk p lists node c k) ck (t ∷ []) (is_one a c) (λ class q. q.0.0)
          (sound c k t (record { clocked = keeps.clocked; well = keeps.well.2; fits = keeps.fits.2; needs = keeps.needs.2; zeros = all_right IsZero (clocks_in b) (clocks_in c) zeros'; parts = keeps.parts.2; starts = all_right (ClockIsTrueAtFirst node) (currents_in b) (currents_in c) starts' }) h.2))
          (λ z on''. own_leaf (λ class. P2 x y class × AtMost (class z) (is_one a c)) e k t (If x y z) (is_one a e) ty keeps.clocked
          (λ class q. (
            q.0.0.0,
            (
              on,
              on',
              on'',
              left_most (class x) (is_one a v) (is_one a b || is_one a c) q.0.0.1,
              right_most (class y) (is_one a v) (is_one a b || is_one a c) (left_most (class y) (is_one a b) (is_one a c) q.0.1),
              right_most (class z) (is_one a v) (is_one a b || is_one a c) (right_most (class z) (is_one a b) (is_one a c) q.1),
            ),
          )))))
      sound (tree.when b c) k t keeps ty =
          let e = tree.when b c in
          let kc = clock_of node c.variable in
          let fits = keeps.fits in
          let same : kc ≡ fits.1.0 = clock_named (declarations_of node) c.variable fits.1.0 fits.1.1 in
          let has : HasClock node c.variable kc = subst (HasClock node c.variable) (sym same) fits.1.1 in
          let zero = all_head IsZero c.variable [] (all_right IsZero (clocks_in b) (c.variable ∷ []) keeps.zeros) in
          let sampled = keeps.parts.1 in
          let cv = variable_place p lists node c.variable in
          let clocked : Clocked (Some c) = (keeps.well.0, (kc, has), sampled, zero) in
          subst (λ k. SoundIn Assigned (walk p lists node e k) (clock_place node k) (t ∷ []) (is_one a e)) (sym fits.0)
          (sound_after L ins Assigned (walk p lists node b kc) (λ x. leaf (flow_of p lists node e (Some c) (When x))) (clock_place node kc) (clock_place node (Some c)) t (t ∷ []) (is_one a b) (is_one a e)
          (sound b kc t (record { clocked = clocked_by c.variable; well = keeps.well.1; fits = subst (FitsClockInside node b) (sym same) fits.1.2; needs = keeps.needs; zeros = all_left IsZero (clocks_in b) (c.variable ∷ []) keeps.zeros; parts = keeps.parts.0; starts = keeps.starts }) ty)
          (λ x on. own_leaf (λ class. Assigned class × AtMost (class x) (is_one a b)) e (Some c) t (When x) (is_one a e) ty clocked
          (λ class q. (q.0, (cv, pattern_value c.pattern, pattern_kind c.pattern, clock_place node kc, refl, variables c.variable kc (pattern_kind c.pattern) has sampled.0, on, q.1)))))
      sound (tree.current x) k t keeps ty =
          let f = keeps.fits in
          let c = f.0 in
          let v = variable_place p lists node x in
          own_leaf Assigned (tree.current x) k t (Current v) false ty keeps.clocked
          (λ class q. (
            q,
            (
              variable_place p lists node c.variable,
              pattern_value c.pattern,
              variables x (Some c) t f.1 ty,
              q x keeps.well ∙ keeps.needs,
              begins c k (all_head (ClockIsTrueAtFirst node) x [] keeps.starts c f.1) f.2 (declared_clock x c f.1),
            ),
          ))
      sound (tree.merge c ps all) k t keeps ty =
          let ck = clock_place node k in
          let e = tree.merge c ps all in
          let cp = variable_place p lists node c in
          let good = keeps.parts.0 in
          let zero = all_head IsZero c (clocks_in_all all) keeps.zeros in
          let root = λ (xs : List ℕ). leaf (flow_of p lists node e k (Merge cp xs)) in
          let some = some_branches c ps all good.kind t ty keeps.fits.1 good.values in
          weaken L ins (Given []) Assigned (walk p lists node e k) ck (t ∷ []) false (λ class q. (q, tt))
          (sound_branches c ps all t (t ∷ []) ck root []
          (record { variable = (keeps.well.0, (k, keeps.fits.0), zero); sampled = good.sampled; well = keeps.well.1; fits = keeps.fits.1; needs = keeps.needs; zeros = all_tail IsZero c (clocks_in_all all) keeps.zeros; parts = keeps.parts.1; starts = keeps.starts })
          (agreed_all_is (types_of p node all) t ty)
          (λ xs places. own_leaf (λ class. Given [] class × AllZero class xs) e k t (Merge cp xs) false ty keeps.clocked
          (λ class q. (
            q.0.0,
            (
              good.kind,
              some,
              variables c k good.kind keeps.fits.0 good.typed,
              q.0.0 c keeps.well.0 ∙ zero,
              subst (λ ds. BranchesSound L class t cp ds xs) good.values (branches_sound class t cp (map pattern_value ps) xs places q.1),
            ),
          ))))
      sound (tree.call f all) k t keeps ty =
          sound_call f all k 1 (t ∷ []) (λ ts kinds rest keep same h. sound_all all k ts kinds rest [] keep same h) keeps (only_is _ t ty)

      pub sound_all : (all : Trees) (k : Option Condition) (ts kinds : List Kind) (rest : List ℕ → Walking) (done : List ℕ) → AllKeep all k → types_of p node all ≡ map Some ts
          → ((xs : List ℕ) → OnAll L (clock_place node k) ts xs → SoundIn (λ class. Given done class × AllZero class xs) (rest xs) (clock_place node k) kinds false) → SoundIn (Given done) (walk_all p lists node all k rest) (clock_place node k) kinds false
      sound_all tree.none k [] kinds rest done keep ty h =
          weaken L ins (λ class. Given done class × AllZero class []) (Given done) (rest []) (clock_place node k) kinds false (λ class q. (q, tt)) (h [] tt)
      sound_all tree.none k (t ∷ ts) kinds rest done keep ty h = cc
      sound_all (tree.more b all) k [] kinds rest done keep ty h = cc
      sound_all (tree.more b all) k (t ∷ ts) kinds rest done keep ty h =
          let ck = clock_place node k in
          let here : type_of p node b ≡ Some t = ap first_type ty in
          let later : types_of p node all ≡ map Some ts = ap later_types ty in
          sound_after L ins (Given done) (walk p lists node b k) (λ x. walk_all p lists node all k (λ xs. rest (x ∷ xs))) ck ck t kinds (is_one a b) false
          (weaken L ins Assigned (Given done) (walk p lists node b k) ck (t ∷ []) (is_one a b) (λ class q. q.0)
          (sound b k t (record { clocked = keep.clocked; well = keep.well.0; fits = keep.fits.0; needs = keep.needs.1; zeros = all_left IsZero (clocks_in b) (clocks_in_all all) keep.zeros; parts = keep.parts.0; starts = all_left (ClockIsTrueAtFirst node) (currents_in b) (currents_in_all all) keep.starts }) here))
          (λ x on.
          weaken L ins (Given (x ∷ done)) (λ class. Given done class × AtMost (class x) (is_one a b)) (walk_all p lists node all k (λ xs. rest (x ∷ xs))) ck kinds false
          (λ class q. (q.0.0, (zero_from (class x) (is_one a b) q.1 keep.needs.0, q.0.1)))
          (sound_all all k ts kinds (λ xs. rest (x ∷ xs)) (x ∷ done)
          (record { clocked = keep.clocked; well = keep.well.1; fits = keep.fits.1; needs = keep.needs.2; zeros = all_right IsZero (clocks_in b) (clocks_in_all all) keep.zeros; parts = keep.parts.1; starts = all_right (ClockIsTrueAtFirst node) (currents_in b) (currents_in_all all) keep.starts }) later
          (λ xs places.
          weaken L ins (λ class. Given done class × AllZero class (x ∷ xs)) (λ class. Given (x ∷ done) class × AllZero class xs) (rest (x ∷ xs)) ck kinds false
          (λ class q. ((q.0.0, q.0.1.1), (q.0.1.0, q.1))) (h (x ∷ xs) (on, places)))))

      pub sound_branches : (c : List ℕ) (ps : List Pattern) (all : Trees) (t : Kind) (kinds : List Kind) (ck : Clock) (rest : List ℕ → Walking) (done : List ℕ) → BranchesKeep c ps all → EachIs t (types_of p node all)
          → ((xs : List ℕ) → OnBranches t (variable_place p lists node c) (map pattern_value ps) xs → SoundIn (λ class. Given done class × AllZero class xs) (rest xs) ck kinds false) → SoundIn (Given done) (walk_branches p lists node c ps all rest) ck kinds false
      sound_branches c [] tree.none t kinds ck rest done keep ty h =
          weaken L ins (λ class. Given done class × AllZero class []) (Given done) (rest []) ck kinds false (λ class q. (q, tt)) (h [] tt)
      sound_branches c (x ∷ ps) tree.none t kinds ck rest done keep ty h = absurd keep.fits
      sound_branches c [] (tree.more b all) t kinds ck rest done keep ty h = absurd keep.fits
      sound_branches c (q ∷ ps) (tree.more b all) t kinds ck rest done keep ty h =
          let k = condition c q in
          let kc = clock_place node k in
          let v = keep.variable in
          let clocked : Clocked k = (v.0, v.1, all_head (λ x. IsSampled node (branch_clock c x)) q ps keep.sampled, v.2) in
          sound_after L ins (Given done) (walk p lists node b k) (λ x. walk_branches p lists node c ps all (λ xs. rest (x ∷ xs))) kc ck t kinds (is_one a b) false
          (weaken L ins Assigned (Given done) (walk p lists node b k) kc (t ∷ []) (is_one a b) (λ class q. q.0)
          (sound b k t (record { clocked = clocked; well = keep.well.0; fits = keep.fits.0; needs = keep.needs.1; zeros = all_left IsZero (clocks_in b) (clocks_in_all all) keep.zeros; parts = keep.parts.0; starts = all_left (ClockIsTrueAtFirst node) (currents_in b) (currents_in_all all) keep.starts }) ty.0))
          (λ x on.
          weaken L ins (Given (x ∷ done)) (λ class. Given done class × AtMost (class x) (is_one a b)) (walk_branches p lists node c ps all (λ xs. rest (x ∷ xs))) ck kinds false
          (λ class q. (q.0.0, (zero_from (class x) (is_one a b) q.1 keep.needs.0, q.0.1)))
          (sound_branches c ps all t kinds ck (λ xs. rest (x ∷ xs)) (x ∷ done)
          (record { variable = v; sampled = all_tail (λ x. IsSampled node (branch_clock c x)) q ps keep.sampled; well = keep.well.1; fits = keep.fits.1; needs = keep.needs.2; zeros = all_right IsZero (clocks_in b) (clocks_in_all all) keep.zeros; parts = keep.parts.1; starts = all_right (ClockIsTrueAtFirst node) (currents_in b) (currents_in_all all) keep.starts }) ty.1
          (λ xs places.
          weaken L ins (λ class. Given done class × AllZero class (x ∷ xs)) (λ class. Given (x ∷ done) class × AllZero class xs) (rest (x ∷ xs)) ck kinds false
          (λ class q. ((q.0.0, q.0.1.1), (q.0.1.0, q.1))) (h (x ∷ xs) (on, places)))))

    -- a right side with the types of its values
    single_right : (e : Tree) (k : Option Condition) (kinds : List Kind) → Keeps e k 1 → option_map (λ t. t ∷ []) (type_of p node e) ≡ Some kinds → SoundIn Assigned (walk p lists node e k) (clock_place node k) kinds (is_one a e)
    single_right e k kinds keeps ty =
        let h = single_is (type_of p node e) kinds ty in
        subst (λ kinds. SoundIn Assigned (walk p lists node e k) (clock_place node k) kinds (is_one a e)) h.2 (sound e k h.0 keeps h.1)

    one_wide : (e : Tree) (k : Option Condition) (w : ℕ) → IsWell p node Below e 1 → Keeps e k w → Keeps e k 1
    one_wide e k w well keeps =
        record { clocked = keeps.clocked; well = well; fits = keeps.fits; needs = keeps.needs; zeros = keeps.zeros; parts = keeps.parts; starts = keeps.starts }

    pub sound_right : (e : Tree) (k : Option Condition) (w : ℕ) (kinds : List Kind) → Keeps e k w → right_types p node e ≡ Some kinds → SoundIn Assigned (walk p lists node e k) (clock_place node k) kinds (is_one a e)
    sound_right (tree.number n) k w kinds keeps ty = single_right (tree.number n) k kinds (one_wide (tree.number n) k w keeps.well keeps) ty
    sound_right (tree.label x) k w kinds keeps ty = single_right (tree.label x) k kinds (one_wide (tree.label x) k w keeps.well keeps) ty
    sound_right (tree.truth b) k w kinds keeps ty = single_right (tree.truth b) k kinds (one_wide (tree.truth b) k w keeps.well keeps) ty
    sound_right (tree.variable x) k w kinds keeps ty = single_right (tree.variable x) k kinds (one_wide (tree.variable x) k w (refl, keeps.well.1) keeps) ty
    sound_right (tree.unary op b) k w kinds keeps ty = single_right (tree.unary op b) k kinds (one_wide (tree.unary op b) k w keeps.well keeps) ty
    sound_right (tree.binary op b c) k w kinds keeps ty = single_right (tree.binary op b c) k kinds (one_wide (tree.binary op b c) k w keeps.well keeps) ty
    sound_right (tree.choice v b c) k w kinds keeps ty = single_right (tree.choice v b c) k kinds (one_wide (tree.choice v b c) k w keeps.well keeps) ty
    sound_right (tree.when b c) k w kinds keeps ty = single_right (tree.when b c) k kinds (one_wide (tree.when b c) k w keeps.well keeps) ty
    sound_right (tree.current x) k w kinds keeps ty = single_right (tree.current x) k kinds (one_wide (tree.current x) k w keeps.well keeps) ty
    sound_right (tree.merge c ps all) k w kinds keeps ty = single_right (tree.merge c ps all) k kinds (one_wide (tree.merge c ps all) k w keeps.well keeps) ty
    sound_right (tree.call f all) k w kinds keeps ty =
        sound_call f all k w kinds (λ ts kinds rest keep same h. sound_all all k ts kinds rest [] keep same h) keeps ty
