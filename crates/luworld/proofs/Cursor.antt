-- Where an item stands in a script.
use Rattle.std.proofs.Common.{◌≡◌, ℕ, zero, suc, ◌+◌, ◌*◌, ◌-◌, ◌<◌, ◌≤◌, Bool, true, false, cond, List, [], ◌∷◌, ◌++◌, length, take, drop, get_or, map, Option, Some, None, refl, sym, ap, ap₂, ◌∙◌, subst, arith, count_by, add-one, length-append, append_assoc}
use Rattle.std.specs.Prelude.{slice_get, slice_index, All, Contains}
use Rattle.std.specs.List.{flat_map, range_with_len}
use Rattle.std.proofs.lemmas.List.{take_more, take_all, append-nil}
use Rattle.std.proofs.lemmas.List.Elements.{All-push, All-get_or}
use Rattle.std.proofs.lemmas.List.Concat.{flat_map-append}
use Rattle.std.proofs.lemmas.Option.{slice_get_within, get_or_from_slice_get, slice_get-get_or}
use Rattle.luworld.specs.Needs.{home}
use Rattle.luworld.specs.Jobs.{JobView, cell, round, endless, items_before, outline, carried, receiver_of}
use Rattle.luflow.specs.Streams.{Streams}
use Rattle.luworld.specs.Systems.{Item, Compute, Puts, Takes, puts, takes}
use Rattle.luworld.specs.Outline.{IsOutline, shows, full_script, round as outline_round}
use Rattle.luworld.proofs.Rounds.{rounds_are, rounds_before, put_number, take_number}

pub slice_get-append_left : {X : Type 0} (xs ys : List X) (j : ℕ) → j < length xs → slice_get (xs ++ ys) j ≡ slice_get xs j
slice_get-append_left [] ys j l = absurd (omega arith)
slice_get-append_left (x ∷ xs) ys zero l = refl
slice_get-append_left (x ∷ xs) ys (suc j) l = slice_get-append_left xs ys j (omega arith)

pub slice_get-append_right : {X : Type 0} (xs ys : List X) (j : ℕ) → slice_get (xs ++ ys) (length xs + j) ≡ slice_get ys j
slice_get-append_right [] ys j = let e : 0 + j ≡ j = omega arith in ap (slice_get ys) e
slice_get-append_right (x ∷ xs) ys j =
    let e : suc (length xs) + j ≡ suc (length xs + j) = omega arith in
    ap (slice_get (x ∷ (xs ++ ys))) e ∙ slice_get-append_right xs ys j

-- item j of the i-th piece stands after the pieces before it
pub slice_get-flat_map : {X Y : Type 0} (f : X → List Y) (xs : List X) (i j : ℕ) (x : X) → slice_get xs i ≡ Some x → j < length (f x) → slice_get (flat_map f xs) (length (flat_map f (take i xs)) + j) ≡ slice_get (f x) j
slice_get-flat_map f [] i j x e l = cc
slice_get-flat_map f (y ∷ xs) zero j x e l =
    let same : y ≡ x = cc in
    let n : 0 + j ≡ j = omega arith in
    ap (slice_get (f y ++ flat_map f xs)) n
    ∙ ap (λ z. slice_get (f z ++ flat_map f xs) j) same
    ∙ slice_get-append_left (f x) (flat_map f xs) j l
slice_get-flat_map f (y ∷ xs) (suc i) j x e l =
    let n : length (f y ++ flat_map f (take i xs)) + j ≡ length (f y) + (length (flat_map f (take i xs)) + j) = omega (arith, length-append (f y) (flat_map f (take i xs))) in
    ap (slice_get (f y ++ flat_map f xs)) n
    ∙ slice_get-append_right (f y) (flat_map f xs) (length (flat_map f (take i xs)) + j)
    ∙ slice_get-flat_map f xs i j x e l

pub in_flat_map : {X Y : Type 0} (f : X → List Y) (xs : List X) (i j : ℕ) (x : X) → slice_get xs i ≡ Some x → j < length (f x) → length (flat_map f (take i xs)) + j < length (flat_map f xs)
in_flat_map f [] i j x e l = cc
in_flat_map f (y ∷ xs) zero j x e l =
    let same : y ≡ x = cc in
    let n = ap (λ z. length (f z)) same in
    omega (arith, n, length-append (f y) (flat_map f xs))
in_flat_map f (y ∷ xs) (suc i) j x e l =
    omega (arith, in_flat_map f xs i j x e l, length-append (f y) (flat_map f xs), length-append (f y) (flat_map f (take i xs)))

take_range : (a n k : ℕ) → k ≤ n → take k (range_with_len a n) ≡ range_with_len a k
take_range a n zero l = refl
take_range a zero (suc k) l = absurd (omega arith)
take_range a (suc n) (suc k) l = ap (λ xs. a ∷ xs) (take_range (a + 1) n k (omega arith))

at_range : (a n k : ℕ) → k < n → slice_get (range_with_len a n) k ≡ Some (a + k)
at_range a zero k l = absurd (omega arith)
at_range a (suc n) zero l = let e : a ≡ a + 0 = omega arith in ap Some e
at_range a (suc n) (suc k) l = let e : a + 1 + k ≡ a + suc k = omega arith in at_range (a + 1) n k (omega arith) ∙ ap Some e

range_more : (a n : ℕ) → range_with_len a (n + 1) ≡ range_with_len a n ++ (a + n) ∷ []
range_more a zero = let e : a ≡ a + 0 = omega arith in ap (λ x. x ∷ []) e
range_more a (suc n) =
    let e : a + 1 + n ≡ a + suc n = omega arith in
    let c : suc n + 1 ≡ suc (n + 1) = omega arith in
    ap (range_with_len a) c ∙ ap (λ xs. a ∷ xs) (range_more (a + 1) n ∙ ap (λ x. range_with_len (a + 1) n ++ x ∷ []) e)

-- one more piece
flat_map_more_length : {X Y : Type 0} (f : X → List Y) (xs : List X) (x : X) → length (flat_map f (xs ++ x ∷ [])) ≡ length (flat_map f xs) + length (f x)
flat_map_more_length f xs x =
    ap length (flat_map-append f xs (x ∷ [])) ∙ length-append (flat_map f xs) (flat_map f (x ∷ [])) ∙ ap (λ ys. length (flat_map f xs) + length ys) (append-nil (f x))

module _ (job : JobView) (σ : Streams) (s : ℕ) where
  pub endless_rounds : endless job σ s ≡ flat_map (round job σ s) (range_with_len 0 (job.inputs.instants + 1))
  unfolding endless cell
  endless_rounds = rounds_are (outline job σ) s

  pub item_at : (t p j : ℕ) → t ≤ job.inputs.instants → p < length job.plan.flat.order → j < length (cell job σ s t (slice_index job.plan.flat.order p)) → slice_get (endless job σ s) (items_before job σ s t p j) ≡ slice_get (cell job σ s t (slice_index job.plan.flat.order p)) j
  unfolding items_before
  item_at t p j lt lp lj =
      let order = job.plan.flat.order in
      let i = slice_index order p in
      let rounds = range_with_len 0 (job.inputs.instants + 1) in
      let at_p : slice_get order p ≡ Some i = slice_get-get_or order p 0 lp in
      let inner = slice_get-flat_map (cell job σ s t) order p j i at_p lj in
      let n = length (flat_map (cell job σ s t) (take p order)) + j in
      let at_t : slice_get rounds t ≡ Some t = at_range 0 (job.inputs.instants + 1) t (omega arith) ∙ ap Some (omega arith) in
      let within : n < length (round job σ s t) = in_flat_map (cell job σ s t) order p j i at_p lj in
      let outer = slice_get-flat_map (round job σ s) rounds t n t at_t within in
      ap (λ ys. slice_get ys (length (flat_map (round job σ s) (range_with_len 0 t)) + n)) endless_rounds
      ∙ ap (λ ys. slice_get (flat_map (round job σ s) rounds) (length (flat_map (round job σ s) ys) + n)) (sym (take_range 0 (job.inputs.instants + 1) t (omega arith)))
      ∙ outer
      ∙ inner

  pub before_next_flow : (t p : ℕ) → p < length job.plan.flat.order → items_before job σ s t (p + 1) 0 ≡ items_before job σ s t p (length (cell job σ s t (slice_index job.plan.flat.order p)))
  unfolding items_before
  before_next_flow t p lp =
      let order = job.plan.flat.order in
      let e = ap (λ xs. length (flat_map (cell job σ s t) xs)) (take_more order p 0 lp) ∙ flat_map_more_length (cell job σ s t) (take p order) (slice_index order p) in
      omega (arith, e)

  pub before_next_instant : (t : ℕ) → items_before job σ s (t + 1) 0 0 ≡ items_before job σ s t (length job.plan.flat.order) 0
  unfolding items_before
  before_next_instant t =
      let order = job.plan.flat.order in
      let e = ap (λ xs. length (flat_map (round job σ s) xs)) (range_more 0 t) ∙ flat_map_more_length (round job σ s) (range_with_len 0 t) (0 + t) in
      let n : 0 + t ≡ t = omega arith in
      let e' = ap (λ u. length (round job σ s u)) n in
      let all = ap (λ xs. length (flat_map (cell job σ s t) xs)) (take_all (length order) order (omega arith)) in
      omega (arith, e, e', all)

  pub before_end : items_before job σ s job.inputs.instants (length job.plan.flat.order) 0 ≡ length (endless job σ s)
  unfolding items_before
  before_end =
      let order = job.plan.flat.order in
      let t = job.inputs.instants in
      let e = ap (λ xs. length (flat_map (round job σ s) xs)) (range_more 0 t) ∙ flat_map_more_length (round job σ s) (range_with_len 0 t) (0 + t) in
      let n : 0 + t ≡ t = omega arith in
      let e' = ap (λ u. length (round job σ s u)) n in
      let all = ap (λ xs. length (flat_map (cell job σ s t) xs)) (take_all (length order) order (omega arith)) in
      let z = ap length endless_rounds in
      omega (arith, e, e', all, z)

  pub before_step : (t p j : ℕ) → items_before job σ s t p (j + 1) ≡ items_before job σ s t p j + 1
  unfolding items_before
  before_step t p j = omega arith

  pub before_start : items_before job σ s 0 0 0 ≡ 0
  unfolding items_before
  before_start = refl

  -- the item at hand, within its instant
  in_instant : (t p j : ℕ) → p < length job.plan.flat.order → j < length (cell job σ s t (slice_index job.plan.flat.order p)) → slice_get (round job σ s t) (length (flat_map (cell job σ s t) (take p job.plan.flat.order)) + j) ≡ slice_get (cell job σ s t (slice_index job.plan.flat.order p)) j
  in_instant t p j lp lj =
      let order = job.plan.flat.order in
      slice_get-flat_map (cell job σ s t) order p j (slice_index order p) (slice_get-get_or order p 0 lp) lj

-- the number of the message that a put (take) at hand is about
module _ (job : JobView) (σ : Streams) (ok : IsOutline (outline job σ)) (s t p j l : ℕ) (lt : t ≤ job.inputs.instants) (lp : p < length job.plan.flat.order) (listed : l < length job.plan.links) where
  pub puts_done : home job.plan (carried job.plan l) ≡ s → slice_get (cell job σ s t (slice_index job.plan.flat.order p)) j ≡ Some (Puts l) → count_by (puts l) (take (items_before job σ s t p j) (endless job σ s)) ≡ shows (outline job σ) (carried job.plan l) t
  unfolding items_before endless cell
  puts_done at_home at =
      let n = length (flat_map (cell job σ s t) (take p job.plan.flat.order)) + j in
      let item = in_instant job σ s t p j lp (slice_get_within (cell job σ s t (slice_index job.plan.flat.order p)) j (Puts l) at) ∙ at in
      subst (λ (h : ℕ). slice_get (outline_round (outline job σ) h t) n ≡ Some (Puts l) → count_by (puts l) (take (length (rounds_before (outline job σ) h t) + n) (full_script (outline job σ) h)) ≡ shows (outline job σ) (carried job.plan l) t) at_home (put_number (outline job σ) ok l t n listed lt) item

  pub takes_done : receiver_of job.plan l ≡ s → slice_get (cell job σ s t (slice_index job.plan.flat.order p)) j ≡ Some (Takes l) → count_by (takes l) (take (items_before job σ s t p j) (endless job σ s)) ≡ shows (outline job σ) (carried job.plan l) t
  unfolding items_before endless cell
  takes_done home at =
      let n = length (flat_map (cell job σ s t) (take p job.plan.flat.order)) + j in
      let item = in_instant job σ s t p j lp (slice_get_within (cell job σ s t (slice_index job.plan.flat.order p)) j (Takes l) at) ∙ at in
      subst (λ (h : ℕ). slice_get (outline_round (outline job σ) h t) n ≡ Some (Takes l) → count_by (takes l) (take (length (rounds_before (outline job σ) h t) + n) (full_script (outline job σ) h)) ≡ shows (outline job σ) (carried job.plan l) t) home (take_number (outline job σ) ok l t n listed lt) item
