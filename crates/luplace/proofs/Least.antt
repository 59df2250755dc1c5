-- The classes that are worked out by rank are the least that meet the rules of initialisation.
use Rattle.std.proofs.Common.{◌≡◌, ◌≢◌, ℕ, zero, suc, ◌+◌, ◌<◌, ◌⊎◌, inl, inr, Bool, true, false, cond, length-set, List, [], ◌∷◌, length, take, Option, Some, None, refl, sym, ap, ap₂, ◌∙◌, subst, arith}
use Rattle.std.specs.Prelude.{◌||◌, Contains, All, slice_get, slice_index, slice_set}
use Rattle.std.proofs.lemmas.Bool.{true≢false, false≢true, cases_lt, cases_eq}
use Rattle.std.proofs.lemmas.List.{get_or-set_same, get_or-set_other}
use Rattle.std.proofs.lemmas.Option.{slice_get_within, same_Some}
use Rattle.std.proofs.lemmas.List.Elements.{All-get_or, All-weaker}
use Rattle.luflow.specs.declared.data.Datum.{Datum}
use Rattle.lutree.specs.declared.program.Kind.{Kind}
use Rattle.luflow.specs.declared.form.Clock.{Clock}
use Rattle.luflow.specs.declared.form.Clock.TheVariants.{Base, On}
use Rattle.luflow.specs.declared.form.Flow.{Flow}
use Rattle.luflow.specs.declared.form.Form.{Form}
use Rattle.luflow.specs.declared.form.Form.TheVariants.{Input, Constant, Copied, Unary, Binary, If, Pre, Arrow, When, Current, Merge}
use Rattle.luflow.specs.Program.{FlatView, flow_at, flows_of, places, clock_reads, form_reads}
use Rattle.luflow.specs.Flats.{IsFlat}
use Rattle.luflow.specs.Sound.{IsSound, FormFits, ClockFits, BranchesFit}
use Rattle.luflow.proofs.Solutions.{first_of_all, second_of_all, third_of_all, rest_of_all, all_left, all_at, place_of, rank_of}
use Rattle.luplace.specs.Classes.{AreClasses, ClassFits, ClockClass, class_in}
use Rattle.luplace.specs.Nils.{nil_by, nil_at, looked, AreNilsTo, AreLeast}

-- a choice of two is true where one is
or_cases : (b c : Bool) → (b || c) ≡ true → (b ≡ true) ⊎ (c ≡ true)
or_cases true c e = inl refl
or_cases false c e = inr e

or_left : (b c : Bool) → b ≡ true → (b || c) ≡ true
or_left true c e = refl
or_left false c e = absurd (false≢true e)

or_right : (b c : Bool) → c ≡ true → (b || c) ≡ true
or_right true c e = refl
or_right false c e = e

not_true : (b : Bool) → (b ≡ true → ⊥) → b ≡ false
not_true true h = absurd (h refl)
not_true false h = refl

-- WHAT A FORM ASKS FOR

-- where the operands must have their class, so must a flow that they make nil
forced : (nils class : ℕ → Bool) (e : Bool) (form : Form) → All (λ r. nils r ≡ true → class r ≡ true) (places form) → ClassFits class e form → nil_by nils form ≡ true → e ≡ true
forced nils class e (Input c) must fits h = absurd (false≢true h)
forced nils class e (Constant d) must fits h = absurd (false≢true h)
forced nils class e (Copied a) must fits h = fits (first_of_all (λ r. nils r ≡ true → class r ≡ true) a [] must h)
forced nils class e (Unary op a) must fits h = fits (first_of_all (λ r. nils r ≡ true → class r ≡ true) a [] must h)
forced nils class e (Binary op a b) must fits h = elim (or_cases (nils a) (nils b) h) [
  | inl x ↦ fits.0 (first_of_all (λ r. nils r ≡ true → class r ≡ true) a (b ∷ []) must x)
  | inr x ↦ fits.1 (second_of_all (λ r. nils r ≡ true → class r ≡ true) a b [] must x)
]
forced nils class e (If c a b) must fits h = elim (or_cases (nils c) (nils a || nils b) h) [
  | inl x ↦ fits.0 (first_of_all (λ r. nils r ≡ true → class r ≡ true) c (a ∷ b ∷ []) must x)
  | inr x ↦ elim (or_cases (nils a) (nils b) x) [
    | inl y ↦ fits.1 (second_of_all (λ r. nils r ≡ true → class r ≡ true) c a (b ∷ []) must y)
    | inr y ↦ fits.2 (third_of_all (λ r. nils r ≡ true → class r ≡ true) c a b [] must y)
  ]
]
forced nils class e (Pre a) must fits h = fits.1
forced nils class e (Arrow a b) must fits h = fits (first_of_all (λ r. nils r ≡ true → class r ≡ true) a (b ∷ []) must h)
forced nils class e (When a) must fits h = fits (first_of_all (λ r. nils r ≡ true → class r ≡ true) a [] must h)
forced nils class e (Current a) must fits h = absurd (false≢true h)
forced nils class e (Merge c xs) must fits h = absurd (false≢true h)

-- what is said of a form depends on what it reads at the same instant
nil_by-same : (f g : ℕ → Bool) (form : Form) → All (λ r. f r ≡ g r) (form_reads form) → nil_by f form ≡ nil_by g form
nil_by-same f g (Input c) same = refl
nil_by-same f g (Constant d) same = refl
nil_by-same f g (Copied a) same = first_of_all (λ r. f r ≡ g r) a [] same
nil_by-same f g (Unary op a) same = first_of_all (λ r. f r ≡ g r) a [] same
nil_by-same f g (Binary op a b) same = ap₂ (λ x y. x || y) (first_of_all (λ r. f r ≡ g r) a (b ∷ []) same) (second_of_all (λ r. f r ≡ g r) a b [] same)
nil_by-same f g (If c a b) same =
    ap₂ (λ x y. x || y) (first_of_all (λ r. f r ≡ g r) c (a ∷ b ∷ []) same)
    (ap₂ (λ x y. x || y) (second_of_all (λ r. f r ≡ g r) c a (b ∷ []) same) (third_of_all (λ r. f r ≡ g r) c a b [] same))
nil_by-same f g (Pre a) same = refl
nil_by-same f g (Arrow a b) same = first_of_all (λ r. f r ≡ g r) a (b ∷ []) same
nil_by-same f g (When a) same = first_of_all (λ r. f r ≡ g r) a [] same
nil_by-same f g (Current a) same = refl
nil_by-same f g (Merge c xs) same = refl

-- classes below some that meet the rules meet them too, where each flow that its form makes nil has class true
below : (nils class : ℕ → Bool) (e d : Bool) (form : Form) → All (λ r. class r ≡ false → nils r ≡ false) (places form) → ClassFits class d form → (nil_by nils form ≡ true → e ≡ true) → ClassFits nils e form
below nils class e d (Input c) less fits closed = tt
below nils class e d (Constant x) less fits closed = tt
below nils class e d (Copied a) less fits closed = closed
below nils class e d (Unary op a) less fits closed = closed
below nils class e d (Binary op a b) less fits closed = ((λ h. closed (or_left (nils a) (nils b) h)), (λ h. closed (or_right (nils a) (nils b) h)))
below nils class e d (If c a b) less fits closed = (
  (λ h. closed (or_left (nils c) (nils a || nils b) h)),
  (λ h. closed (or_right (nils c) (nils a || nils b) (or_left (nils a) (nils b) h))),
  (λ h. closed (or_right (nils c) (nils a || nils b) (or_right (nils a) (nils b) h))),
)
below nils class e d (Pre a) less fits closed = (first_of_all (λ r. class r ≡ false → nils r ≡ false) a [] less fits.0, closed refl)
below nils class e d (Arrow a b) less fits closed = closed
below nils class e d (When a) less fits closed = closed
below nils class e d (Current a) less fits closed = first_of_all (λ r. class r ≡ false → nils r ≡ false) a [] less fits
below nils class e d (Merge c xs) less fits closed = (
  first_of_all (λ r. class r ≡ false → nils r ≡ false) c xs less fits.0,
  (λ k x at. all_at (λ r. class r ≡ false → nils r ≡ false) xs k x (rest_of_all (λ r. class r ≡ false → nils r ≡ false) c xs less) at (fits.1 k x at)),
)

clock_below : (nils class : ℕ → Bool) (clock : Clock) → All (λ r. class r ≡ false → nils r ≡ false) (clock_reads clock) → ClockClass class clock → ClockClass nils clock
clock_below nils class Base less fits = tt
clock_below nils class (On c d) less fits = first_of_all (λ r. class r ≡ false → nils r ≡ false) c [] less fits

-- THE CLASSES OF A SOUND PROGRAM

branches_false : (flat : FlatView) (class : ℕ → Bool) (s : Kind) (c : ℕ) (ds : List Datum) (xs : List ℕ) → BranchesFit flat class s c ds xs → (k x : ℕ) → slice_get xs k ≡ Some x → class x ≡ false
branches_false flat class s c [] [] fit k x at = absurd cc
branches_false flat class s c [] (y ∷ xs) fit k x at = absurd fit
branches_false flat class s c (d ∷ ds) [] fit k x at = absurd fit
branches_false flat class s c (d ∷ ds) (y ∷ xs) fit zero x at = let e : y ≡ x = cc in subst (λ z. class z ≡ false) e fit.1
branches_false flat class s c (d ∷ ds) (y ∷ xs) fit (suc k) x at = branches_false flat class s c ds xs fit.2 k x at

class_from : (flat : FlatView) (class : ℕ → Bool) (k : Clock) (s : Kind) (e : Bool) (form : Form) → FormFits flat class k s e form → ClassFits class e form
class_from flat class k s e (Input c) fit = tt
class_from flat class k s e (Constant d) fit = tt
class_from flat class k s e (Copied a) fit = fit.1
class_from flat class k s e (Unary op a) fit = fit.2
class_from flat class k s e (Binary op a b) (u, t, m, on, there, f, h) = (f, h)
class_from flat class k s e (If c a b) (on, there, here, f, h, i) = (f, h, i)
class_from flat class k s e (Pre a) (on, f, h) = (f, h)
class_from flat class k s e (Arrow a b) (on, there, f) = f
class_from flat class k s e (When a) (c, d, u, k', is, on, there, f) = f
class_from flat class k s e (Current a) (c, d, on, f, begins) = f
class_from flat class k s e (Merge c xs) (u, some, on, f, fit) = (f, branches_false flat class s c _ xs fit)

clock_from : (flat : FlatView) (class : ℕ → Bool) (clock : Clock) → ClockFits flat class clock → ClockClass class clock
clock_from flat class Base fit = tt
clock_from flat class (On c d) (k, u, there, on, f) = f

-- a sound program has classes that meet the rules
pub sound_classes : (flat : FlatView) (sound : IsSound flat) → AreClasses flat sound.class
sound_classes flat sound = record {
  forms = λ i flow here. class_from flat sound.class flow.clock flow.kind (sound.class i) flow.form (sound.forms i flow here);
  clocks = λ i flow here. clock_from flat sound.class flow.clock (sound.clocks i flow here);
  outputs = sound.outputs;
}

-- BY RANK

module _ (flat : FlatView) (ok : IsFlat flat) where
  -- the flow of a rank
  abbrev at_rank : ℕ → ℕ
  at_rank p = slice_index flat.order p

  rank_inside : (p : ℕ) → p < length flat.order → at_rank p < flows_of flat
  rank_inside p lt = All-get_or (λ i. i < flows_of flat) flat.order p 0 lt ok.ordered.only_flows

  -- what the flow of an earlier rank reads at the same instant isn't the flow of a later one
  reads_others : (p q : ℕ) (flow : Flow) → q < p → p < length flat.order → flow_at flat (at_rank q) ≡ Some flow → All (λ r. r ≢ at_rank p) (form_reads flow.form)
  reads_others p q flow lq lp here =
      let before : All (λ r. Contains (take q flat.order) r) (form_reads flow.form) =
      all_left (λ r. Contains (take q flat.order) r) (form_reads flow.form) (clock_reads flow.clock) (ok.ordered.reads_first q flow (omega arith) here) in
      All-weaker (λ r. Contains (take q flat.order) r) (λ r. r ≢ at_rank p) other (form_reads flow.form) before
    where
      other : (r : ℕ) → Contains (take q flat.order) r → r ≢ at_rank p
      other r c e =
          let k = place_of flat.order q r c in
          let s : k.0 ≡ p = ok.ordered.once k.0 p k.2 lp (k.3 ∙ e) in
          omega (arith, s, k.1)

  module _ (p : ℕ) (nils : List Bool) (lp : p < length flat.order) (before : AreNilsTo flat p nils) where
    abbrev set : List Bool
    set = slice_set nils (at_rank p) true

    set_same : class_in set (at_rank p) ≡ true
    set_same = get_or-set_same nils (at_rank p) true true (omega (arith, before.long, rank_inside p lp))

    set_other : (r : ℕ) → r ≢ at_rank p → class_in set r ≡ class_in nils r
    set_other r ne = get_or-set_other nils (at_rank p) r true true ne

    set_keeps : (r : ℕ) → class_in nils r ≡ true → class_in set r ≡ true
    set_keeps r h = elim (cases_eq r (at_rank p)) [
      | inl e ↦ ap (class_in set) e ∙ set_same
      | inr ne ↦ set_other r ne ∙ h
    ]

    must_at : (flow : Flow) → flow_at flat (at_rank p) ≡ Some flow → nil_by (class_in nils) flow.form ≡ true → (class : ℕ → Bool) → AreClasses flat class → class (at_rank p) ≡ true
    must_at flow here nil class are =
        forced (class_in nils) class (class (at_rank p)) flow.form
        (All-weaker (λ r. r < flows_of flat) (λ r. class_in nils r ≡ true → class r ≡ true) (λ r lr h. before.must class are r lr h) (places flow.form) (ok.ordered.places_in (at_rank p) flow here))
        (are.forms (at_rank p) flow here) nil

    nils_set : (flow : Flow) → flow_at flat (at_rank p) ≡ Some flow → nil_by (class_in nils) flow.form ≡ true → AreNilsTo flat (p + 1) set
    nils_set flow here nil = record {
      long = length-set nils (at_rank p) true ∙ before.long;
      must = λ class are i lt h. elim (cases_eq i (at_rank p)) [
        | inl e ↦ ap class e ∙ must_at flow here nil class are
        | inr ne ↦ before.must class are i lt (sym (set_other i ne) ∙ h)
      ];
      closed = λ q other lq lo there h. elim (cases_lt q p) [
        | inl l ↦
            let same : All (λ r. class_in nils r ≡ class_in set r) (form_reads other.form) =
            All-weaker (λ r. r ≢ at_rank p) (λ r. class_in nils r ≡ class_in set r) (λ r ne. sym (set_other r ne)) (form_reads other.form) (reads_others p q other l lp there) in
            set_keeps (at_rank q) (before.closed q other l lo there (nil_by-same (class_in nils) (class_in set) other.form same ∙ h))
        | inr g ↦ let e : q ≡ p = omega arith in ap (λ x. class_in set (at_rank x)) e ∙ set_same
      ];
    }

    nils_kept : ((flow : Flow) → flow_at flat (at_rank p) ≡ Some flow → nil_by (class_in nils) flow.form ≡ false) → AreNilsTo flat (p + 1) nils
    nils_kept none = record {
      long = before.long;
      must = before.must;
      closed = λ q other lq lo there h. elim (cases_lt q p) [
        | inl l ↦ before.closed q other l lo there h
        | inr g ↦
            let e : q ≡ p = omega arith in
            absurd (true≢false (sym h ∙ none other (ap (λ x. flow_at flat (at_rank x)) (sym e) ∙ there)))
      ];
    }

    pub nils_step : AreNilsTo flat (p + 1) (looked flat p nils)
    nils_step = go (flow_at flat (at_rank p)) refl
      where
        choose : (flow : Flow) → flow_at flat (at_rank p) ≡ Some flow → (b : Bool) → nil_by (class_in nils) flow.form ≡ b → AreNilsTo flat (p + 1) (cond b set nils)
        choose flow here true e = nils_set flow here e
        choose flow here false e = nils_kept (λ other there. let s : flow ≡ other = same_Some flow other (sym here ∙ there) in subst (λ (f : Flow). nil_by (class_in nils) f.form ≡ false) s e)

        go : (o : Option Flow) → flow_at flat (at_rank p) ≡ o → AreNilsTo flat (p + 1) (cond (nil_at (class_in nils) o) set nils)
        go None e = nils_kept (λ flow here. absurd cc)
        go (Some flow) e = choose flow e (nil_by (class_in nils) flow.form) refl

  module _ (nils : List Bool) (all : AreNilsTo flat (length flat.order) nils) where
    closed_all : (i : ℕ) (flow : Flow) → flow_at flat i ≡ Some flow → nil_by (class_in nils) flow.form ≡ true → class_in nils i ≡ true
    closed_all i flow here h =
        let k = rank_of flat ok.ordered i (slice_get_within flat.flows i flow here) in
        sym (ap (class_in nils) k.2) ∙ all.closed k.0 flow k.1 k.1 (ap (flow_at flat) k.2 ∙ here) h

    less : (r : ℕ) → r < flows_of flat → ok.sound.class r ≡ false → class_in nils r ≡ false
    less r lr f = not_true (class_in nils r) (λ h. true≢false (sym (all.must ok.sound.class (sound_classes flat ok.sound) r lr h) ∙ f))

    -- those of all ranks are the least classes
    pub least_from : AreLeast flat nils
    least_from =
        let class = ok.sound.class in
        let are = sound_classes flat ok.sound in
        record {
          meet = record {
            forms = λ i flow here.
                below (class_in nils) class (class_in nils i) (class i) flow.form
                (All-weaker (λ r. r < flows_of flat) (λ r. class r ≡ false → class_in nils r ≡ false) less (places flow.form) (ok.ordered.places_in i flow here))
                (are.forms i flow here) (closed_all i flow here);
            clocks = λ i flow here.
                clock_below (class_in nils) class flow.clock
                (All-weaker (λ r. r < flows_of flat) (λ r. class r ≡ false → class_in nils r ≡ false) less (clock_reads flow.clock) (ok.ordered.clocks_in i flow here))
                (are.clocks i flow here);
            outputs = λ v x at role. less v (let lt = slice_get_within flat.variables v x at in omega (arith, ok.variables_first)) (are.outputs v x at role);
          };
          must = all.must;
        }
