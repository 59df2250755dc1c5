-- Vertices for the flows of a walk, wherever it begins.
use Rattle.std.proofs.Common.{◌≡◌, ℕ, ◌+◌, ◌<◌, List, [], ◌∷◌, ◌++◌, length, refl, sym, ap, ◌∙◌, subst, arith, length-append}
use Rattle.std.proofs.lemmas.List.{append-nil}
use Rattle.luflow.specs.declared.form.Flow.{Flow}
use Rattle.lucore_laws.specs.Layout.{Root, Walking, root_flows, made, root_place, place, behind, leaf, after}
use Rattle.lucore_laws.specs.Layout.Root.{own, at}
use Rattle.lucore_laws.proofs.Each.{Each, each_left, each_right, each_join}
use Rattle.lucore_laws.proofs.Graph.{Every, every_join, every_imp, Model, targets, FlowHolds, Hold, RootIs}

-- the model has these vertices from place s on
abbrev pub Has : {V : Type 0} → Model V → ℕ → List V → Type 0
Has m s l = Each (λ x v. m.on x ≡ v) s l

module _ {V : Type 0} (G : V → V → Type 0) (Own : V → Type 0) where
  -- There are vertices of a kind for these flows from place s on: wherever A holds and they stand there, the flows hold, and Q.
  abbrev pub Makes : (Model V → Type 0) → ℕ → List Flow → (Model V → Type 0) → Type 0
  Makes A s flows Q =
      (l : List V) × (length l ≡ length flows) × Every Own l × ((m : Model V) → A m → Has m s l → Hold G m s flows × Q m)

  abbrev pub makes_none : (A Q : Model V → Type 0) (s : ℕ) → ((m : Model V) → A m → Q m) → Makes A s [] Q
  makes_none A Q s q = ([], refl, tt, λ m a h. (tt, q m a))

  makes_flow : (A Q : Model V → Type 0) (s : ℕ) (f : Flow) (v : V) → Own v → ((m : Model V) → A m → m.on s ≡ v → FlowHolds G m s f × Q m) → Makes A s (f ∷ []) Q
  makes_flow A Q s f v ok q = (v ∷ [], refl, (ok, tt), λ m a h. (((q m a h.0).0, tt), (q m a h.0).1))

  abbrev pub makes_join : (A Q R : Model V → Type 0) (s : ℕ) (xs ys : List Flow) → Makes A s xs Q → Makes (λ m. A m × Q m) (s + length xs) ys R → Makes A s (xs ++ ys) (λ m. Q m × R m)
  makes_join A Q R s xs ys f g = (
    f.0 ++ g.0,
    (let e = f.1 in let e' = g.1 in omega (arith, length-append f.0 g.0, length-append xs ys)),
    every_join Own f.0 g.0 f.2 g.2,
    λ m a h.
        let x = f.3 m a (each_left _ s f.0 g.0 h) in
        let z : s + length f.0 ≡ s + length xs = ap (λ n. s + n) f.1 in
        let y = g.3 m (a, x.1) (subst (λ n. Has m n g.0) z (each_right _ s f.0 g.0 h)) in
        (each_join (FlowHolds G m) s xs ys x.0 y.0, (x.1, y.1)),
  )

  abbrev pub makes_imp : (A Q R : Model V → Type 0) (s : ℕ) (xs : List Flow) → ((m : Model V) → A m → Q m → R m) → Makes A s xs Q → Makes A s xs R
  makes_imp A Q R s xs q f = (f.0, f.1, f.2, λ m a h. let x = f.3 m a h in (x.0, q m a x.1))

  abbrev pub makes_under : (A B Q : Model V → Type 0) (s : ℕ) (xs : List Flow) → ((m : Model V) → B m → A m) → Makes A s xs Q → Makes B s xs Q
  makes_under A B Q s xs q f = (f.0, f.1, f.2, λ m b h. f.3 m (q m b) h)

  -- wherever a walk begins, its inner flows have vertices with which the root is these
  abbrev pub RootMakes : (Model V → Type 0) → Walking → ℕ → (ℕ → V) → Type 0
  RootMakes A w width val =
      (s : ℕ) → Makes A s (w s).inner (λ m. (j : ℕ) → j < width → RootIs G m (w s).root j (val j))

  pub roots_under : (A B : Model V → Type 0) (w : Walking) (width : ℕ) (val : ℕ → V) → ((m : Model V) → B m → A m) → RootMakes A w width val → RootMakes B w width val
  roots_under A B w width val q f s = makes_under A B _ s (w s).inner q (f s)

  pub makes_leaf : (A : Model V → Type 0) (f : Flow) (w : ℕ) (val : ℕ → V) → ((m : Model V) → A m → (j : ℕ) → Every (G (val j)) (targets m f)) → RootMakes A (leaf f) w val
  makes_leaf A f w val h s = makes_none A _ s (λ m a j lt. h m a j)

  -- a root of its own is of the kind
  abbrev pub RootOwn : Root → V → Type 0
  RootOwn (own f) v = Own v
  RootOwn (at a) v = Unit {0}

  makes_operand : (A : Model V → Type 0) (s : ℕ) (inner : List Flow) (root : Root) (v : V) → RootOwn root v → Makes A s inner (λ m. RootIs G m root 0 v) → Makes A s (inner ++ root_flows root) (λ m. m.on (root_place (s + length inner) root) ≡ v)
  makes_operand A s inner (own f) v ok h =
      makes_imp A _ _ s (inner ++ f ∷ []) (λ m a q. q.1)
      (makes_join A (λ m. Every (G v) (targets m f)) (λ m. m.on (s + length inner) ≡ v) s inner (f ∷ []) h
      (makes_flow (λ m. A m × Every (G v) (targets m f)) (λ m. m.on (s + length inner) ≡ v) (s + length inner) f v ok (λ m a e. (subst (λ u. Every (G u) (targets m f)) (sym e) a.1, e))))
  makes_operand A s inner (at x) v ok h =
      let z : x ≡ x + 0 = omega arith in
      subst (λ l. Makes A s l (λ m. m.on x ≡ v)) (sym (append-nil inner)) (makes_imp A _ _ s inner (λ m a q. ap m.on z ∙ q) h)

  pub makes_after : (A : Model V → Type 0) (a : Walking) (rest : ℕ → Walking) (w : ℕ) (va val : ℕ → V) → ((s : ℕ) → RootOwn (a s).root (va 0)) → RootMakes A a 1 va → ((x : ℕ) → RootMakes (λ m. A m × (m.on x ≡ va 0)) (rest x) w val) → RootMakes A (after a rest) w val
  makes_after A a rest w va val ok first then s =
      let r = rest (place s (a s)) (behind s (a s)) in
      let f = makes_operand A s (a s).inner (a s).root (va 0) (ok s) (makes_imp A _ _ s (a s).inner (λ m a q. q 0 (omega arith)) (first s)) in
      makes_imp A _ _ s (made (a s) ++ r.inner) (λ m a q. q.1)
      (makes_join A (λ m. m.on (place s (a s)) ≡ va 0) (λ m. (j : ℕ) → j < w → RootIs G m r.root j (val j)) s (made (a s)) r.inner f (then (place s (a s)) (behind s (a s))))

  pub makes_one : (A : Model V → Type 0) (a : Walking) (operator : ℕ → Flow) (w : ℕ) (va val : ℕ → V) → ((s : ℕ) → RootOwn (a s).root (va 0)) → RootMakes A a 1 va → ((x : ℕ) (m : Model V) → A m → m.on x ≡ va 0 → (j : ℕ) → Every (G (val j)) (targets m (operator x))) → RootMakes A (after a (λ x. leaf (operator x))) w val
  makes_one A a operator w va val ok first h =
      makes_after A a (λ x. leaf (operator x)) w va val ok first (λ x. makes_leaf (λ m. A m × (m.on x ≡ va 0)) (operator x) w val (λ m q j. h x m q.0 q.1 j))

  pub makes_two : (A : Model V → Type 0) (a b : Walking) (operator : ℕ → ℕ → Flow) (w : ℕ) (va vb val : ℕ → V) → ((s : ℕ) → RootOwn (a s).root (va 0)) → ((s : ℕ) → RootOwn (b s).root (vb 0)) → RootMakes A a 1 va → RootMakes A b 1 vb → ((x y : ℕ) (m : Model V) → A m → m.on x ≡ va 0 → m.on y ≡ vb 0 → (j : ℕ) → Every (G (val j)) (targets m (operator x y))) → RootMakes A (after a (λ x. after b (λ y. leaf (operator x y)))) w val
  makes_two A a b operator w va vb val ok ok' first second h =
      makes_after A a (λ x. after b (λ y. leaf (operator x y))) w va val ok first
      (λ x. makes_one (λ m. A m × (m.on x ≡ va 0)) b (operator x) w vb val ok' (roots_under A (λ m. A m × (m.on x ≡ va 0)) b 1 vb (λ m q. q.0) second) (λ y m q e j. h x y m q.0 q.1 e j))

-- the same, of whatever kind
abbrev pub makes_any : {V : Type 0} (G : V → V → Type 0) (Own : V → Type 0) (A Q : Model V → Type 0) (s : ℕ) (xs : List Flow) → Makes G Own A s xs Q → Makes G (λ v. Unit {0}) A s xs Q
makes_any G Own A Q s xs f = (f.0, f.1, every_imp Own (λ v. Unit {0}) f.0 (λ v h. tt) f.2, f.3)
