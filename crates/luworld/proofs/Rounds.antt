-- A script by its instants, and the number of the message that an item puts or takes.
use Rattle.std.proofs.Common.{◌≡◌, ℕ, zero, suc, ◌+◌, ◌<◌, ◌≤◌, Bool, true, false, cond, List, [], ◌∷◌, ◌++◌, map, length, take, flat_map, count_by, slice_get, Some, refl, sym, ap, ap₂, ◌∙◌, subst, arith, append_assoc, append-nil, add-one, length-append, ⊎_elim, take_all}
use Rattle.std.specs.Prelude.{nat_lt}
use Rattle.std.specs.List.{range_with_len}
use Rattle.std.proofs.lemmas.Grind.{flat_map-append}
use Rattle.std.proofs.lemmas.List.Folds.{flat_map-map}
use Rattle.std.proofs.lemmas.List.Sums.{sum_by-append}
use Rattle.std.proofs.lemmas.Option.{slice_get_within}
use Rattle.std.proofs.lemmas.Bool.{lt-ltb, cases_lt, ltb-true}
use Rattle.luworld.specs.Systems.{Item, Puts, Takes, puts, takes}
use Rattle.luworld.specs.Outline.{Outline, IsOutline, shown_items, cell_at, close_cell, full_script, message_items, round_cell, round, shows, Event, part, message_events, events_at}
use Rattle.luworld.proofs.Parts.{flat_map_twice, flat_map_same, event_parts, message_parts}
use Rattle.luworld.proofs.Passing.{passes, one_if, sent, received}
use Rattle.luworld.proofs.Exact.{at_instant, closes}
use Rattle.luworld.proofs.Counts.{count_after}
use Rattle.luworld.proofs.Steps.{puts_self, takes_self}

pub range_more : (a n : ℕ) → range_with_len a (n + 1) ≡ range_with_len a n ++ (a + n) ∷ []
range_more a zero = let e : a ≡ a + 0 = omega arith in ap (λ (x : ℕ). x ∷ []) e
range_more a (suc n) =
    let e : a + 1 + n ≡ a + suc n = omega arith in
    let c : suc n + 1 ≡ suc (n + 1) = omega arith in
    ap (range_with_len a) c ∙ ap (λ (xs : List ℕ). a ∷ xs) (range_more (a + 1) n ∙ ap (λ (x : ℕ). range_with_len (a + 1) n ++ x ∷ []) e)

same_below : {Y : Type 0} (f g : ℕ → List Y) (a n m : ℕ) → a + n ≤ m → ((t : ℕ) → t < m → f t ≡ g t) → flat_map f (range_with_len a n) ≡ flat_map g (range_with_len a n)
same_below f g a zero m le h = refl
same_below f g a (suc n) m le h = ap₂ (λ ys zs. ys ++ zs) (h a (omega arith)) (same_below f g (a + 1) n m (omega arith) h)

lt-false : (a b : ℕ) → b ≤ a → nat_lt a b ≡ false
lt-false a b le = go (nat_lt a b) refl
  where
    go : (c : Bool) → nat_lt a b ≡ c → c ≡ false
    go true e = let l = ltb-true a b e in absurd (omega arith)
    go false e = refl

pub one_more : {X Y : Type 0} (f : X → List Y) (xs : List X) (x : X) → flat_map f (xs ++ x ∷ []) ≡ flat_map f xs ++ f x
one_more f xs x = flat_map-append f xs (x ∷ []) ∙ ap (λ ys. flat_map f xs ++ ys) (append-nil (f x))

-- a prefix of a list made of pieces
pub take_pieces : {X Y : Type 0} (f : X → List Y) (xs : List X) (i k : ℕ) (x : X) → slice_get xs i ≡ Some x → k ≤ length (f x) → take (length (flat_map f (take i xs)) + k) (flat_map f xs) ≡ flat_map f (take i xs) ++ take k (f x)
take_pieces f [] i k x e le = cc
take_pieces f (y ∷ xs) zero k x e le =
    let same : x ≡ y = cc in
    subst (λ z. k ≤ length (f z) → take (0 + k) (f y ++ flat_map f xs) ≡ take k (f z)) (sym same) (λ l. front (f y) (flat_map f xs) k l) le
  where
    front : {Y : Type 0} (us vs : List Y) (k : ℕ) → k ≤ length us → take (0 + k) (us ++ vs) ≡ take k us
    front [] vs k le = let e : k ≡ 0 = omega arith in ap (λ n. take (0 + n) vs) e ∙ sym (ap (λ n. take n []) e)
    front (a ∷ us) vs zero le = refl
    front (a ∷ us) vs (suc k) le =
        let e : 0 + suc k ≡ suc (0 + k) = omega arith in
        ap (λ n. take n (a ∷ us ++ vs)) e ∙ ap (λ ys. a ∷ ys) (front us vs k (omega arith))
take_pieces f (y ∷ xs) (suc i) k x e le =
    let n : length (f y ++ flat_map f (take i xs)) + k ≡ length (f y) + (length (flat_map f (take i xs)) + k) = omega (arith, length-append (f y) (flat_map f (take i xs))) in
    ap (λ m. take m (f y ++ flat_map f xs)) n
    ∙ past (f y) (flat_map f xs) (length (flat_map f (take i xs)) + k)
    ∙ ap (λ ys. f y ++ ys) (take_pieces f xs i k x e le)
    ∙ sym (append_assoc (f y) (flat_map f (take i xs)) (take k (f x)))
  where
    past : {Y : Type 0} (us vs : List Y) (k : ℕ) → take (length us + k) (us ++ vs) ≡ us ++ take k vs
    past [] vs k = let e : 0 + k ≡ k = omega arith in ap (λ n. take n vs) e
    past (a ∷ us) vs k =
        let e : suc (length us) + k ≡ suc (length us + k) = omega arith in
        ap (λ n. take n (a ∷ us ++ vs)) e ∙ ap (λ ys. a ∷ ys) (past us vs k)

take_range : (a n k : ℕ) → k ≤ n → take k (range_with_len a n) ≡ range_with_len a k
take_range a n zero l = refl
take_range a zero (suc k) l = absurd (omega arith)
take_range a (suc n) (suc k) l = ap (λ xs. a ∷ xs) (take_range (a + 1) n k (omega arith))

at_range : (a n k : ℕ) → k < n → slice_get (range_with_len a n) k ≡ Some (a + k)
at_range a zero k l = absurd (omega arith)
at_range a (suc n) zero l = let e : a ≡ a + 0 = omega arith in ap Some e
at_range a (suc n) (suc k) l = let e : a + 1 + k ≡ a + suc k = omega arith in at_range (a + 1) n k (omega arith) ∙ ap Some e

module _ (plan : Outline) (site : ℕ) where
  -- the items before an instant
  abbrev pub rounds_before : ℕ → List Item
  rounds_before t = flat_map (round plan site) (range_with_len 0 t)

  round_early : (t : ℕ) → t < plan.instants → flat_map shown_items (map (cell_at plan site t) plan.ranked) ≡ round plan site t
  round_early t lt =
      flat_map-map shown_items (cell_at plan site t) plan.ranked
      ∙ flat_map_same (λ flow. shown_items (cell_at plan site t flow)) (round_cell plan site t) (λ flow. ap (λ (b : Bool). cond b (shown_items (cell_at plan site t flow)) (message_items plan site flow)) (sym (lt-ltb t plan.instants lt))) plan.ranked

  round_late : (t : ℕ) → plan.instants ≤ t → flat_map (message_items plan site) plan.ranked ≡ round plan site t
  round_late t le =
      flat_map_same (message_items plan site) (round_cell plan site t) (λ flow. ap (λ (b : Bool). cond b (shown_items (cell_at plan site t flow)) (message_items plan site flow)) (sym (lt-false t plan.instants le))) plan.ranked

  pub rounds_are : full_script plan site ≡ flat_map (round plan site) (range_with_len 0 (plan.instants + 1))
  rounds_are =
      let r = range_with_len 0 plan.instants in
      let n = plan.instants in
      let z : 0 + n ≡ n = omega arith in
      flat_map-append shown_items (flat_map (λ instant. map (cell_at plan site instant) plan.ranked) r) (map (close_cell plan site) plan.ranked)
      ∙ ap₂ (λ (xs : List Item) (ys : List Item). xs ++ ys)
      (flat_map_twice shown_items (λ instant. map (cell_at plan site instant) plan.ranked) r ∙ same_below (λ t. flat_map shown_items (map (cell_at plan site t) plan.ranked)) (round plan site) 0 n n (omega arith) round_early)
      (flat_map-map shown_items (close_cell plan site) plan.ranked ∙ round_late n (omega arith) ∙ ap (round plan site) (sym z))
      ∙ sym (ap (flat_map (round plan site)) (range_more 0 n) ∙ one_more (round plan site) r (0 + n))

  pub rounds_next : (t : ℕ) → rounds_before (t + 1) ≡ rounds_before t ++ round plan site t
  rounds_next t =
      let z : 0 + t ≡ t = omega arith in
      ap (flat_map (round plan site)) (range_more 0 t) ∙ one_more (round plan site) (range_with_len 0 t) (0 + t) ∙ ap (λ (u : ℕ). rounds_before t ++ round plan site u) z

  pub script_take : (t k : ℕ) → t ≤ plan.instants → k ≤ length (round plan site t) → take (length (rounds_before t) + k) (full_script plan site) ≡ rounds_before t ++ take k (round plan site t)
  script_take t k lt le =
      let rs = range_with_len 0 (plan.instants + 1) in
      let at : slice_get rs t ≡ Some t = at_range 0 (plan.instants + 1) t (omega arith) ∙ ap Some (omega arith) in
      let e = take_range 0 (plan.instants + 1) t (omega arith) in
      ap (take (length (rounds_before t) + k)) rounds_are
      ∙ ap (λ (xs : List ℕ). take (length (flat_map (round plan site) xs) + k) (flat_map (round plan site) rs)) (sym e)
      ∙ take_pieces (round plan site) rs t k t at le
      ∙ ap (λ (xs : List ℕ). flat_map (round plan site) xs ++ take k (round plan site t)) e

  early_events : (t : ℕ) → t < plan.instants → round plan site t ≡ flat_map (part plan site) (flat_map (events_at plan t) plan.ranked)
  early_events t lt =
      sym (round_early t lt) ∙ flat_map-map shown_items (cell_at plan site t) plan.ranked
      ∙ flat_map_same (λ flow. shown_items (cell_at plan site t flow)) (λ flow. flat_map (part plan site) (events_at plan t flow)) (λ flow. sym (event_parts plan site flow t)) plan.ranked
      ∙ sym (flat_map_twice (part plan site) (events_at plan t) plan.ranked)

  late_events : (t : ℕ) → plan.instants ≤ t → round plan site t ≡ flat_map (part plan site) (flat_map (message_events plan) plan.ranked)
  late_events t le =
      sym (round_late t le)
      ∙ flat_map_same (message_items plan site) (λ flow. flat_map (part plan site) (message_events plan flow)) (λ flow. sym (message_parts plan site flow)) plan.ranked
      ∙ sym (flat_map_twice (part plan site) (message_events plan) plan.ranked)

  -- one end of a link
  module _ (ok : IsOutline plan) (link : ℕ) (listed : link < plan.links) (p : Item → Bool) (one : (evs : List Event) → count_by p (flat_map (part plan site) evs) ≡ count_by (passes link) evs) where
    in_round : (t : ℕ) → t < plan.instants → count_by p (round plan site t) ≡ one_if (plan.present (plan.flow_of link) t)
    in_round t lt = ap (count_by p) (early_events t lt) ∙ one (flat_map (events_at plan t) plan.ranked) ∙ at_instant plan ok link listed t

    one_le : (b : Bool) → one_if b ≤ 1
    one_le true = omega arith
    one_le false = omega arith

    in_any : (t : ℕ) → count_by p (round plan site t) ≤ 1
    in_any t = ⊎_elim
        (λ lt. let e = in_round t lt in let l = one_le (plan.present (plan.flow_of link) t) in omega (arith, e, l))
        (λ ge. let e = ap (count_by p) (late_events t ge) ∙ one (flat_map (message_events plan) plan.ranked) ∙ closes plan ok link listed plan.ranked ∙ ok.linked_once link listed in omega (arith, e))
        (cases_lt t plan.instants)

    in_rounds : (t : ℕ) → t ≤ plan.instants → count_by p (rounds_before t) ≡ shows plan (plan.flow_of link) t
    in_rounds zero le = refl
    in_rounds (suc t) le =
        let a = sum_by-append (λ (i : Item). one_if (p i)) (rounds_before t) (round plan site t) in
        let e = ap (λ (u : ℕ). count_by p (rounds_before u)) (sym (add-one t)) ∙ ap (count_by p) (rounds_next t) in
        omega (arith, a, e, in_rounds t (omega arith), in_round t (omega arith))

    -- the number of the item at a place is the number of instants before at which its flow was present
    number_of : (t k : ℕ) (x : Item) → t ≤ plan.instants → slice_get (round plan site t) k ≡ Some x → p x ≡ true → count_by p (take (length (rounds_before t) + k) (full_script plan site)) ≡ shows plan (plan.flow_of link) t
    number_of t k x le at is =
        let within = slice_get_within (round plan site t) k x at in
        let c = count_after p (round plan site t) k (length (round plan site t)) x at is within in
        let w = ap (count_by p) (take_all (length (round plan site t)) (round plan site t) (omega arith)) in
        let a = sum_by-append (λ (i : Item). one_if (p i)) (rounds_before t) (take k (round plan site t)) in
        let e = ap (count_by p) (script_take t k le (omega (arith, within))) in
        omega (arith, a, e, c, w, in_any t, in_rounds t le)

pub put_number : (plan : Outline) → IsOutline plan → (link t k : ℕ) → link < plan.links → t ≤ plan.instants → slice_get (round plan (plan.home (plan.flow_of link)) t) k ≡ Some (Puts link) → count_by (puts link) (take (length (rounds_before plan (plan.home (plan.flow_of link)) t) + k) (full_script plan (plan.home (plan.flow_of link)))) ≡ shows plan (plan.flow_of link) t
put_number plan ok link t k listed le at =
    number_of plan (plan.home (plan.flow_of link)) ok link listed (puts link) (sent plan ok link) t k (Puts link) le at (puts_self link)

pub take_number : (plan : Outline) → IsOutline plan → (link t k : ℕ) → link < plan.links → t ≤ plan.instants → slice_get (round plan (plan.receiver link) t) k ≡ Some (Takes link) → count_by (takes link) (take (length (rounds_before plan (plan.receiver link) t) + k) (full_script plan (plan.receiver link))) ≡ shows plan (plan.flow_of link) t
take_number plan ok link t k listed le at =
    number_of plan (plan.receiver link) ok link listed (takes link) (received plan ok link listed) t k (Takes link) le at (takes_self link)
