-- Open lists as graphs: what a flow looks at, wherever the list stands.
use Rattle.std.proofs.Common.{◌≡◌, ℕ, zero, suc, ◌+◌, List, [], ◌∷◌, ◌++◌, map, Some, refl, sym, ap, ◌∙◌, subst, arith}
use Rattle.std.specs.Prelude.{slice_get, slice_index, Contains}
use Rattle.std.proofs.lemmas.Simd.{map-map}
use Rattle.luflow.specs.declared.form.Clock.{Clock}
use Rattle.luflow.specs.declared.form.Clock.TheVariants.{Base, On}
use Rattle.luflow.specs.declared.form.Form.{Form}
use Rattle.luflow.specs.declared.form.Form.TheVariants.{Input, Constant, Copied, Unary, Binary, If, Pre, Arrow, When, Current, Merge}
use Rattle.luflow.specs.declared.form.Flow.{Flow}
use Rattle.lucore_laws.specs.Layout.{Root, moved_form, moved_clock, moved}
use Rattle.lucore_laws.specs.Layout.Root.{own, at}
use Rattle.lucore_laws.proofs.Each.{Each, each_unmap, each_map, each_shift, each_unshift, each_at, each_all}

-- P OF EACH MEMBER

abbrev pub Every : {A : Type 0} → (A → Type 0) → List A → Type 0
Every P [] = Unit {0}
Every P (x ∷ xs) = P x × Every P xs

pub every_left : {A : Type 0} (P : A → Type 0) (xs ys : List A) → Every P (xs ++ ys) → Every P xs
every_left P [] ys h = tt
every_left P (x ∷ xs) ys h = (h.0, every_left P xs ys h.1)

pub every_right : {A : Type 0} (P : A → Type 0) (xs ys : List A) → Every P (xs ++ ys) → Every P ys
every_right P [] ys h = h
every_right P (x ∷ xs) ys h = every_right P xs ys h.1

pub every_join : {A : Type 0} (P : A → Type 0) (xs ys : List A) → Every P xs → Every P ys → Every P (xs ++ ys)
every_join P [] ys h g = g
every_join P (x ∷ xs) ys h g = (h.0, every_join P xs ys h.1 g)

pub every_imp : {A : Type 0} (P Q : A → Type 0) (xs : List A) → ((x : A) → P x → Q x) → Every P xs → Every Q xs
every_imp P Q [] f h = tt
every_imp P Q (x ∷ xs) f h = (f x h.0, every_imp P Q xs f h.1)

pub every_get : {A : Type 0} (P : A → Type 0) (xs : List A) (x : A) → Every P xs → Contains xs x → P x
every_get P [] x h c = absurd (omega (arith, c.1))
every_get P (y ∷ xs) x h (zero, lt, e) = subst P e h.0
every_get P (y ∷ xs) x h (suc k, lt, e) = every_get P xs x h.1 (k, omega (arith, lt), e)

pub every_of : {A : Type 0} (P : A → Type 0) (xs : List A) → ((x : A) → Contains xs x → P x) → Every P xs
every_of P [] h = tt
every_of P (x ∷ xs) h = (h x (0, omega arith, refl), every_of P xs (λ y c. h y (suc c.0, omega (arith, c.1), c.2)))

-- WHAT A FLOW LOOKS AT

-- a vertex for each place of a list, those for each input, and those of the base clock
pub record Model (V : Type 0) : Type 0 where
  pub on : ℕ → V
  pub given : ℕ → List V
  pub base : List V

module _ {V : Type 0} where
  abbrev pub form_targets : Model V → Form → List V
  form_targets m (Input r) = m.given r
  form_targets m (Constant d) = []
  form_targets m (Copied a) = m.on a ∷ []
  form_targets m (Unary op a) = m.on a ∷ []
  form_targets m (Binary op a b) = m.on a ∷ m.on b ∷ []
  form_targets m (If c a b) = m.on c ∷ m.on a ∷ m.on b ∷ []
  form_targets m (Pre a) = []
  form_targets m (Arrow a b) = m.on a ∷ m.on b ∷ []
  form_targets m (When a) = m.on a ∷ []
  form_targets m (Current a) = m.on a ∷ []
  form_targets m (Merge c xs) = m.on c ∷ map m.on xs

  abbrev pub clock_targets : Model V → Clock → List V
  clock_targets m Base = m.base
  clock_targets m (On c d) = m.on c ∷ []

  abbrev pub targets : Model V → Flow → List V
  targets m f = form_targets m f.form ++ clock_targets m f.clock

  -- the same of an instance at place b, on the clock k
  abbrev pub moved_model : Model V → ℕ → Clock → List ℕ → Model V
  moved_model m b k xs =
      record { on = λ x. m.on (b + x); given = λ r. m.on (slice_index xs r) ∷ []; base = clock_targets m k }

  form_moved : (m : Model V) (b : ℕ) (k : Clock) (xs : List ℕ) (f : Form) → form_targets m (moved_form b xs f) ≡ form_targets (moved_model m b k xs) f
  form_moved m b k xs (Input r) = refl
  form_moved m b k xs (Constant d) = refl
  form_moved m b k xs (Copied a) = refl
  form_moved m b k xs (Unary op x) = refl
  form_moved m b k xs (Binary op x y) = refl
  form_moved m b k xs (If c x y) = refl
  form_moved m b k xs (Pre x) = refl
  form_moved m b k xs (Arrow x y) = refl
  form_moved m b k xs (When x) = refl
  form_moved m b k xs (Current x) = refl
  form_moved m b k xs (Merge c ys) = ap (λ l. m.on (b + c) ∷ l) (map-map m.on (λ x. b + x) ys)

  clock_moved : (m : Model V) (b : ℕ) (k : Clock) (xs : List ℕ) (c : Clock) → clock_targets m (moved_clock b k c) ≡ clock_targets (moved_model m b k xs) c
  clock_moved m b k xs Base = refl
  clock_moved m b k xs (On c d) = refl

  pub flow_moved : (m : Model V) (b : ℕ) (k : Clock) (xs : List ℕ) (f : Flow) → targets m (moved b k xs f) ≡ targets (moved_model m b k xs) f
  flow_moved m b k xs f =
      ap (λ l. l ++ clock_targets m (moved_clock b k f.clock)) (form_moved m b k xs f.form)
      ∙ ap (λ l. form_targets (moved_model m b k xs) f.form ++ l) (clock_moved m b k xs f.clock)

  -- each vertex is joined to what its flow looks at
  module _ (G : V → V → Type 0) where
    abbrev pub FlowHolds : Model V → ℕ → Flow → Type 0
    FlowHolds m x f = Every (G (m.on x)) (targets m f)

    abbrev pub Hold : Model V → ℕ → List Flow → Type 0
    Hold m s flows = Each (FlowHolds m) s flows

    abbrev pub Solves : Model V → List Flow → Type 0
    Solves m flows = (x : ℕ) (f : Flow) → slice_get flows x ≡ Some f → FlowHolds m x f

    pub solves_hold : (m : Model V) (flows : List Flow) → Solves m flows → Hold m 0 flows
    solves_hold m flows h = each_all (FlowHolds m) 0 flows (λ j f e. let z : j ≡ 0 + j = omega arith in subst (λ n. FlowHolds m n f) z (h j f e))

    pub hold_solves : (m : Model V) (flows : List Flow) → Hold m 0 flows → Solves m flows
    hold_solves m flows h j f e = let z : 0 + j ≡ j = omega arith in subst (λ n. FlowHolds m n f) z (each_at (FlowHolds m) 0 flows j f h e)

    -- an instance that holds is one of the node's list
    pub instance_solves : (m : Model V) (b : ℕ) (k : Clock) (xs : List ℕ) (flows : List Flow) → Hold m b (map (moved b k xs) flows) → Solves (moved_model m b k xs) flows
    instance_solves m b k xs flows h x f e =
        let z : b + 0 ≡ b = omega arith in
        let P = λ (j : ℕ) (g : Flow). FlowHolds m j (moved b k xs g) in
        let h' = each_shift P b 0 flows (subst (λ n. Each P n flows) (sym z) (each_unmap (FlowHolds m) (moved b k xs) b flows h)) in
        let y : 0 + x ≡ x = omega arith in
        subst (Every (G (m.on (b + x)))) (flow_moved m b k xs f) (subst (λ n. P (b + n) f) y (each_at (λ j g. P (b + j) g) 0 flows x f h' e))

    -- and the other way round
    pub solved_instance : (m : Model V) (b : ℕ) (k : Clock) (xs : List ℕ) (flows : List Flow) → Solves (moved_model m b k xs) flows → Hold m b (map (moved b k xs) flows)
    solved_instance m b k xs flows h =
        let z : b + 0 ≡ b = omega arith in
        let P = λ (j : ℕ) (g : Flow). FlowHolds m j (moved b k xs g) in
        let each = each_all (λ j g. P (b + j) g) 0 flows (λ j g e.
        let y : j ≡ 0 + j = omega arith in
        subst (λ n. P (b + n) g) y (subst (Every (G (m.on (b + j)))) (sym (flow_moved m b k xs g)) (h j g e))) in
        each_map (FlowHolds m) (moved b k xs) b flows (subst (λ n. Each P n flows) z (each_unshift P b 0 flows each))

    -- what is read at the j-th variable on a left side, by the root of the right side
    abbrev pub RootIs : Model V → Root → ℕ → V → Type 0
    RootIs m (own f) j v = Every (G v) (targets m f)
    RootIs m (at a) j v = m.on (a + j) ≡ v
