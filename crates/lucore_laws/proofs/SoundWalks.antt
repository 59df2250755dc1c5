-- A walk makes flows that fit, with classes of their own: operands, and what stands behind them.
use Rattle.std.proofs.Common.{◌≡◌, ℕ, zero, suc, ◌+◌, ◌<◌, Bool, false, List, [], ◌∷◌, ◌++◌, length, map, get_or, Some, refl, sym, ap, ◌∙◌, subst, arith, length-append}
use Rattle.std.specs.Prelude.{slice_get, slice_index}
use Rattle.std.proofs.lemmas.List.{length-map}
use Rattle.std.proofs.lemmas.Option.{slice_get_within, slice_get-get_or, same_Some}
use Rattle.lutree.specs.declared.program.Kind.{Kind}
use Rattle.lutree.specs.declared.program.Kind.TheVariants.{Int as Ints}
use Rattle.lutree.specs.Tree.{DeclarationTree}
use Rattle.luflow.specs.declared.form.Clock.{Clock}
use Rattle.luflow.specs.declared.form.Clock.TheVariants.{Base}
use Rattle.luflow.specs.declared.form.Flow.{Flow}
use Rattle.luflow.specs.Sound.{AtMost}
use Rattle.lucore_laws.specs.Layout.{Root, Walking, root_flows, made, root_place, place, behind, leaf, after, moved}
use Rattle.lucore_laws.specs.Layout.Root.{own, at}
use Rattle.lucore_laws.proofs.Each.{Each, each_left, each_right, each_join, each_at, each_all, each_map, each_unmap}
use Rattle.lucore_laws.proofs.Types.{kinds_of, declared}
use Rattle.lucore_laws.proofs.Fitting.{no_more, same_class, On, ClockSound, FlowSound, on_there, moved_sound, moved_output}

-- the first of some types
abbrev first_kind : List Kind → Kind
first_kind [] = Ints
first_kind (t ∷ ts) = t

-- how a root stands, with the types of its values
abbrev pub RootOn : List Flow → Clock → List Kind → Root → Type 0
RootOn L k kinds (own f) = (f.clock ≡ k) × (kinds ≡ f.kind ∷ [])
RootOn L k kinds (at i) = (j : ℕ) (t : Kind) → slice_get kinds j ≡ Some t → On L k t (i + j)

-- an assignment of classes
abbrev pub Classing : Type 0
Classing = ℕ → Bool

-- the class of a root is at most e
abbrev pub RootMost : List Flow → List DeclarationTree → Classing → List Kind → Bool → Root → Type 0
RootMost L ins class kinds e (own f) = FlowSound L ins class e f
RootMost L ins class kinds e (at i) = (j : ℕ) → j < length kinds → AtMost (class (i + j)) e

-- the class of the root's own flow
abbrev root_marks : Bool → Root → List Bool
root_marks e (own f) = e ∷ []
root_marks e (at i) = []

-- the places from s on have these classes
abbrev pub Marks : Classing → ℕ → List Bool → Type 0
Marks class s cs = Each (λ x b. class x ≡ b) s cs

module _ (L : List Flow) (ins : List DeclarationTree) where
  abbrev pub Stands : ℕ → List Flow → Type 0
  Stands s xs = Each (λ x f. slice_get L x ≡ Some f) s xs

  abbrev pub AllSound : Classing → ℕ → List Flow → Type 0
  AllSound class s xs = Each (λ x f. FlowSound L ins class (class x) f) s xs

  -- Where the inner flows of a walk stand in the list, its root stands right, and there are classes of these flows at which
  -- they fit, and the root is of class e at most, wherever the rest of the assignment has P.
  abbrev pub Sound : (Classing → Type 0) → Walking → Clock → List Kind → Bool → Type 0
  Sound P w k kinds e =
      (s : ℕ) → Stands s (w s).inner
      → RootOn L k kinds (w s).root
      × ((cs : List Bool) × (length cs ≡ length (w s).inner) × ((class : Classing) → P class → Marks class s cs → AllSound class s (w s).inner × RootMost L ins class kinds e (w s).root))

  pub weaken : (P Q : Classing → Type 0) (w : Walking) (k : Clock) (kinds : List Kind) (e : Bool) → ((class : Classing) → Q class → P class) → Sound P w k kinds e → Sound Q w k kinds e
  weaken P Q w k kinds e h sound s stand = let r = sound s stand in (r.0, (r.1.0, r.1.1, λ class q marks. r.1.2 class (h class q) marks))

  pub sound_leaf : (P : Classing → Type 0) (f : Flow) (k : Clock) (t : Kind) (e : Bool) → f.clock ≡ k → f.kind ≡ t → ((class : Classing) → P class → FlowSound L ins class e f) → Sound P (leaf f) k (t ∷ []) e
  sound_leaf P f k t e clock kind h s stand = ((clock, ap (λ (t : Kind). t ∷ []) (sym kind)), ([], refl, λ class q marks. (tt, h class q)))

  -- an operand
  operand_on : (s : ℕ) (inner : List Flow) (root : Root) (k : Clock) (t : Kind) → Stands s (inner ++ root_flows root) → RootOn L k (t ∷ []) root → On L k t (root_place (s + length inner) root)
  operand_on s inner (own f) k t stand on =
      let here = (each_right (λ x f. slice_get L x ≡ Some f) s inner (f ∷ []) stand).0 in
      on_there L (s + length inner) f k t here on.0 (sym (ap first_kind on.1))
  operand_on s inner (at i) k t stand on =
      let z : i + 0 ≡ i = omega arith in
      subst (On L k t) z (on 0 t refl)

  operand_sound : (class : Classing) (s : ℕ) (inner : List Flow) (root : Root) (t : Kind) (e : Bool) → AllSound class s inner → RootMost L ins class (t ∷ []) e root → Marks class (s + length inner) (root_marks e root)
      → AllSound class s (inner ++ root_flows root) × AtMost (class (root_place (s + length inner) root)) e
  operand_sound class s inner (own f) t e all most marks = (
    each_join (λ x f. FlowSound L ins class (class x) f) s inner (f ∷ []) all (subst (λ b. FlowSound L ins class b f) (sym marks.0) most, tt),
    same_class (class (s + length inner)) e marks.0,
  )
  operand_sound class s inner (at i) t e all most marks =
      let z : i + 0 ≡ i = omega arith in
      (each_join (λ x f. FlowSound L ins class (class x) f) s inner [] all tt, subst (λ x. AtMost (class x) e) z (most 0 (omega arith)))

  length-root_marks : (e : Bool) (root : Root) → length (root_marks e root) ≡ length (root_flows root)
  length-root_marks e (own f) = refl
  length-root_marks e (at i) = refl

  pub sound_after : (P : Classing → Type 0) (a : Walking) (rest : ℕ → Walking) (ka k : Clock) (t : Kind) (kinds : List Kind) (ea e : Bool) → Sound P a ka (t ∷ []) ea → ((x : ℕ) → On L ka t x → Sound (λ class. P class × AtMost (class x) ea) (rest x) k kinds e) → Sound P (after a rest) k kinds e
  sound_after P a rest ka k t kinds ea e first then s stand =
      let w = a s in
      let r = rest (place s w) (behind s w) in
      let front = each_left (λ x f. slice_get L x ≡ Some f) s (made w) r.inner stand in
      let f = first s (each_left (λ x f. slice_get L x ≡ Some f) s w.inner (root_flows w.root) front) in
      let on = operand_on s w.inner w.root ka t front f.0 in
      let g = then (place s w) on (behind s w) (each_right (λ x f. slice_get L x ≡ Some f) s (made w) r.inner stand) in
      let cs = f.1.0 in
      let cr = root_marks ea w.root in
      let ds = g.1.0 in
      let lf = f.1.1 in
      let lg = g.1.1 in
      let lr = length-root_marks ea w.root in
      let la : length (cs ++ cr) ≡ length (made w) = omega (arith, length-append cs cr, length-append w.inner (root_flows w.root)) in
      let z : s + length (cs ++ cr) ≡ behind s w = omega arith in
      let z' : s + length cs ≡ s + length w.inner = omega arith in (
        g.0,
        (
          (cs ++ cr) ++ ds,
          omega (arith, length-append (cs ++ cr) ds, length-append (made w) r.inner),
          λ class p marks.
              let m = each_left (λ x b. class x ≡ b) s (cs ++ cr) ds marks in
              let md = subst (λ n. Marks class n ds) z (each_right (λ x b. class x ≡ b) s (cs ++ cr) ds marks) in
              let mr = subst (λ n. Marks class n cr) z' (each_right (λ x b. class x ≡ b) s cs cr m) in
              let x = f.1.2 class p (each_left (λ x b. class x ≡ b) s cs cr m) in
              let o = operand_sound class s w.inner w.root t ea x.0 x.1 mr in
              let y = g.1.2 class (p, o.1) md in
              (each_join (λ x f. FlowSound L ins class (class x) f) s (made w) r.inner o.0 y.0, y.1),
        ),
      )

-- CALLED NODES

-- the class at a place of a list of classes
abbrev pub class_in : List Bool → Classing
class_in cs x = get_or cs x false

-- the flows of a node's open list fit with some classes, and the outputs have class 0
pub record OpenSound (fl : List Flow) (ins : List DeclarationTree) (outs : ℕ) : Type 0 where
  pub classes : List Bool
  pub long : length classes ≡ length fl
  pub flows : (x : ℕ) (f : Flow) → slice_get fl x ≡ Some f → FlowSound fl ins (class_in classes) (class_in classes x) f
  pub outputs : (j : ℕ) → j < outs → class_in classes (length ins + j) ≡ false

-- flows that stand on one clock and have these types
abbrev pub OnAll : List Flow → Clock → List Kind → List ℕ → Type 0
OnAll L k [] [] = Unit {0}
OnAll L k [] (x ∷ xs) = ⊥
OnAll L k (t ∷ ts) [] = ⊥
OnAll L k (t ∷ ts) (x ∷ xs) = On L k t x × OnAll L k ts xs

abbrev pub AllZero : Classing → List ℕ → Type 0
AllZero class [] = Unit {0}
AllZero class (x ∷ xs) = (class x ≡ false) × AllZero class xs

on_at : (L : List Flow) (k : Clock) (ds : List DeclarationTree) (xs : List ℕ) (r : ℕ) (d : DeclarationTree) → OnAll L k (kinds_of ds) xs → slice_get ds r ≡ Some d → On L k d.kind (slice_index xs r)
on_at L k [] xs r d on e = cc
on_at L k (c ∷ ds) [] r d on e = absurd on
on_at L k (c ∷ ds) (x ∷ xs) zero d on e =
    let same : c ≡ d = same_Some c d e in
    subst (λ (d : DeclarationTree). On L k d.kind x) same on.0
on_at L k (c ∷ ds) (x ∷ xs) (suc r) d on e = on_at L k ds xs r d on.1 e

zero_at : (L : List Flow) (k : Clock) (class : Classing) (ds : List DeclarationTree) (xs : List ℕ) (r : ℕ) (d : DeclarationTree) → OnAll L k (kinds_of ds) xs → AllZero class xs → slice_get ds r ≡ Some d → class (slice_index xs r) ≡ false
zero_at L k class [] xs r d on z e = cc
zero_at L k class (c ∷ ds) [] r d on z e = absurd on
zero_at L k class (c ∷ ds) (x ∷ xs) zero d on z e = z.0
zero_at L k class (c ∷ ds) (x ∷ xs) (suc r) d on z e = zero_at L k class ds xs r d on.1 z.1 e

-- the types of outputs, by place
kind_at : (ds : List DeclarationTree) (j : ℕ) (t : Kind) → slice_get (kinds_of ds) j ≡ Some t → (d : DeclarationTree) × (slice_get ds j ≡ Some d) × (d.kind ≡ t)
kind_at [] j t e = cc
kind_at (d ∷ ds) zero t e = (d, refl, same_Some d.kind t e)
kind_at (d ∷ ds) (suc j) t e = kind_at ds j t e

module _ (L fl : List Flow) (ins : List DeclarationTree) (inputs outputs : List DeclarationTree) (sound : OpenSound fl inputs (length outputs))
    (on : (j : ℕ) (d : DeclarationTree) → slice_get outputs j ≡ Some d → On fl Base d.kind (length inputs + j)) (k : Clock) (xs : List ℕ) (arguments : OnAll L k (kinds_of inputs) xs)
    (s : ℕ) (stand : Each (λ x f. slice_get L x ≡ Some f) s (map (moved s k xs) fl)) where
  here : (x : ℕ) (f : Flow) → slice_get fl x ≡ Some f → slice_get L (s + x) ≡ Some (moved s k xs f)
  here x f e = each_at (λ x f. slice_get L x ≡ Some (moved s k xs f)) s fl x f (each_unmap (λ x f. slice_get L x ≡ Some f) (moved s k xs) s fl stand) e

  pub instance_on : RootOn L k (kinds_of outputs) (at (s + length inputs))
  instance_on j t e =
      let d = kind_at outputs j t e in
      let z : s + (length inputs + j) ≡ s + length inputs + j = omega arith in
      subst (On L k t) z (subst (λ t. On L k t (s + (length inputs + j))) d.2 (moved_output L fl s k xs here (length inputs + j) d.0.kind (on j d.0 d.1)))

  module _ (class : Classing) (clock : ClockSound L class k) (zeros : AllZero class xs) (marks : Marks class s sound.classes) where
    same : (x : ℕ) → x < length fl → class (s + x) ≡ class_in sound.classes x
    same x lt = let l = sound.long in each_at (λ x b. class x ≡ b) s sound.classes x (class_in sound.classes x) marks (slice_get-get_or sound.classes x false (omega arith))

    pub instance_sound : AllSound L ins class s (map (moved s k xs) fl)
    instance_sound =
        each_map (λ x f. FlowSound L ins class (class x) f) (moved s k xs) s fl
        (each_all (λ x f. FlowSound L ins class (class x) (moved s k xs f)) s fl (λ x f e.
        subst (λ b. FlowSound L ins class b (moved s k xs f)) (sym (same x (slice_get_within fl x f e)))
        (moved_sound L fl inputs ins class (class_in sound.classes) s k xs here same clock (λ r d e. on_at L k inputs xs r d arguments e) (λ r d e. zero_at L k class inputs xs r d arguments zeros e) (class_in sound.classes x) f (sound.flows x f e))))

    pub instance_most : (e : Bool) → RootMost L ins class (kinds_of outputs) e (at (s + length inputs))
    instance_most e j lt =
        let lo = length-map outputs (λ (d : DeclarationTree). d.kind) in
        let lt' : j < length outputs = omega arith in
        let zero = sound.outputs j lt' in
        let there = within j lt' in
        let z : s + (length inputs + j) ≡ s + length inputs + j = omega arith in
        subst (λ x. AtMost (class x) e) z (no_more (class (s + (length inputs + j))) e (same (length inputs + j) there ∙ zero))
      where
        within : (j : ℕ) → j < length outputs → length inputs + j < length fl
        within j lt =
            let d = declared outputs j lt in
            let o = on j d.0 d.1 in
            slice_get_within fl (length inputs + j) (record { form = o.form; clock = Base; kind = d.0.kind }) o.there
