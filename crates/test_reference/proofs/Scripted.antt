-- Items that are made piece by piece are those of the definitions.
use Rattle.std.proofs.Common.{◌≡◌, ◌≢◌, ℕ, zero, suc, ◌+◌, ◌-◌, ◌<◌, ◌≤◌, Bool, true, false, cond, nat_eq, List, [], ◌∷◌, ◌++◌, length, map, take, get_or, filter, flat_map, count_by, Result, Ok, Err, Vec, Global, sym, ap, ap₂, ◌∙◌, arith, append_assoc, append-nil}
use Rattle.std.specs.Prelude.{IfOk}
use Rattle.std.specs.List.{range_with_len}
use Rattle.std.specs.declared.alloc.AllocError.{AllocError}
use Rattle.std.proofs.lemmas.Bool.{eq-eqb, ne_eqb}
use Rattle.std.proofs.lemmas.List.{map-append}
use Rattle.std.proofs.lemmas.Simd.{map-map}
use Rattle.std.proofs.lemmas.List.Folds.{fold-map}
use Rattle.luworld.specs.Systems as world
use Rattle.luworld.specs.Outline.{Outline, message_items, messages_from}
use Rattle.luworld.specs.Needs.{PlanView, home}
use Rattle.luworld.specs.Jobs.{JobView, outline, streams_of, carriers, receiver_of}
use Rattle.luworld.proofs.Rounds.{range_more, one_more}
use Rattle.test_reference.specs.declared.item.Item.{Item}
use Rattle.test_reference.specs.declared.item.Item.TheVariants.{Put, Take}
use Rattle.test_reference.specs.AsItem.{as_item}

module _ (job : JobView) (site flow : ℕ) where
  pub puts_are : (links : List ℕ) (r : Result (Vec Item Global) AllocError) → links ≡ carriers job.plan flow → home job.plan flow ≡ site → IfOk r (λ items. items.items ≡ map (λ link. Put link) links) → IfOk r (λ items. map as_item items.items ≡ message_items (outline job (streams_of job)) site flow)
  puts_are links (Err e) l h are = tt
  puts_are links (Ok items) l h are =
      let takes = map world.Takes (filter (λ link. nat_eq (receiver_of job.plan link) site) (carriers job.plan flow)) in
      ap (map as_item) are ∙ map-map as_item (λ link. Put link) links ∙ ap (map world.Puts) l
      ∙ sym (ap (λ b. cond b (map world.Puts (carriers job.plan flow)) takes) (eq-eqb (home job.plan flow) site h))

  pub takes_are : (plan : PlanView) (links : List ℕ) (r : Result (Vec Item Global) AllocError) → plan ≡ job.plan → links ≡ carriers job.plan flow → home job.plan flow ≢ site → IfOk r (λ items. items.items ≡ map (λ link. Take link) (filter (λ link. nat_eq (receiver_of plan link) site) links)) → IfOk r (λ items. map as_item items.items ≡ message_items (outline job (streams_of job)) site flow)
  takes_are plan links (Err e) p l h are = tt
  takes_are plan links (Ok items) p l h are =
      let into : PlanView → List ℕ → List ℕ = λ d ls. filter (λ link. nat_eq (receiver_of d link) site) ls in
      ap (map as_item) are ∙ map-map as_item (λ link. Take link) (into plan links) ∙ ap₂ (λ d ls. map world.Takes (into d ls)) p l
      ∙ sym (ap (λ b. cond b (map world.Puts (carriers job.plan flow)) (map world.Takes (into job.plan (carriers job.plan flow)))) (ne_eqb (home job.plan flow) site h))

-- the messages of a flow from an instant on
pub messages_step : (o : Outline) (i t n : ℕ) → t < n → messages_from o i t (n - t) ≡ cond (o.broken i t) 0 (cond (o.present i t) 1 0 + messages_from o i (t + 1) (n - (t + 1)))
messages_step o i t n l = let e : n - t ≡ suc (n - (t + 1)) = omega arith in ap (messages_from o i t) e

pub counted_broken : (o : Outline) (i t n count : ℕ) → t < n → messages_from o i 0 n ≡ count + messages_from o i t (n - t) → o.broken i t ≡ true → count ≡ messages_from o i 0 n
counted_broken o i t n count l so b =
    let rest = messages_from o i (t + 1) (n - (t + 1)) in
    let e : messages_from o i t (n - t) ≡ 0 = messages_step o i t n l ∙ ap (λ v. cond v 0 (cond (o.present i t) 1 0 + rest)) b in
    omega (arith, so, e)

pub counted_more : (o : Outline) (i t n count one : ℕ) → t < n → messages_from o i 0 n ≡ count + messages_from o i t (n - t) → o.broken i t ≡ false → one ≡ cond (o.present i t) 1 0 → messages_from o i 0 n ≡ count + one + messages_from o i (t + 1) (n - (t + 1))
counted_more o i t n count one l so b is =
    let rest = messages_from o i (t + 1) (n - (t + 1)) in
    let e : messages_from o i t (n - t) ≡ cond (o.present i t) 1 0 + rest = messages_step o i t n l ∙ ap (λ v. cond v 0 (cond (o.present i t) 1 0 + rest)) b in
    omega (arith, so, e, is)

pub counted_all : (o : Outline) (i t n count : ℕ) → n ≤ t → messages_from o i 0 n ≡ count + messages_from o i t (n - t) → count + 1 ≡ messages_from o i 0 n
counted_all o i t n count l so =
    let z : n - t ≡ 0 = omega arith in
    let e : messages_from o i t (n - t) ≡ 1 = ap (messages_from o i t) z in
    omega (arith, so, e)

one_at_most : (b : Bool) (n : ℕ) → n ≡ cond b 1 0 → n ≤ 1
one_at_most true n e = omega arith
one_at_most false n e = omega arith

pub few_more : (b : Bool) (count one t : ℕ) → count ≤ t → one ≡ cond b 1 0 → count + one ≤ t + 1
few_more b count one t l e = let o = one_at_most b one e in omega arith

-- items in pieces, one for each number of a list
take_flat : {Y : Type 0} (f : ℕ → List Y) (xs : List ℕ) (k : ℕ) → k < length xs → flat_map f (take (suc k) xs) ≡ flat_map f (take k xs) ++ f (get_or xs k 0)
take_flat f [] k l = absurd (omega arith)
take_flat f (x ∷ xs) zero l = simp append-nil
take_flat f (x ∷ xs) (suc k) l = ap (λ ys. f x ++ ys) (take_flat f xs k (omega arith)) ∙ sym (append_assoc (f x) (flat_map f (take k xs)) (f (get_or xs k 0)))

pub pieces_more : (f : ℕ → List world.Item) (xs : List ℕ) (k : ℕ) (old new more : List Item) → k < length xs → new ≡ old ++ more → map as_item old ≡ flat_map f (take k xs) → map as_item more ≡ f (get_or xs k 0) → map as_item new ≡ flat_map f (take (k + 1) xs)
pieces_more f xs k old new more l pushed before here =
    let s : suc k ≡ k + 1 = omega arith in
    ap (map as_item) pushed ∙ map-append as_item old more ∙ ap₂ (λ ys zs. ys ++ zs) before here
    ∙ sym (take_flat f xs k l) ∙ ap (λ n. flat_map f (take n xs)) s

pub range_pieces : (f : ℕ → List world.Item) (k : ℕ) (old new more : List Item) → new ≡ old ++ more → map as_item old ≡ flat_map f (range_with_len 0 k) → map as_item more ≡ f k → map as_item new ≡ flat_map f (range_with_len 0 (k + 1))
range_pieces f k old new more pushed before here =
    let z : 0 + k ≡ k = omega arith in
    ap (map as_item) pushed ∙ map-append as_item old more ∙ ap₂ (λ ys zs. ys ++ zs) before here
    ∙ sym (ap (flat_map f) (range_more 0 k) ∙ one_more f (range_with_len 0 k) (0 + k) ∙ ap (λ n. flat_map f (range_with_len 0 k) ++ f n) z)

pub count_by-map : {X Y : Type 0} (p : Y → Bool) (f : X → Y) (xs : List X) → count_by p (map f xs) ≡ count_by (λ x. p (f x)) xs
count_by-map p f xs = fold-map (λ a y. a + cond (p y) 1 0) f 0 xs
