-- The stations of a job as they are made: one link more.
use Rattle.std.proofs.Common.{◌≡◌, ◌≢◌, ℕ, zero, suc, ◌+◌, ◌<◌, Bool, cond, nat_eq, List, [], ◌∷◌, ◌++◌, length, map, filter, flat_map, set, Option, Some, inl, inr, refl, sym, ap, ap₂, ◌∙◌, subst, arith, append-nil, length-append}
use Rattle.std.specs.Prelude.{slice_get, slice_set, unwrap_or}
use Rattle.std.specs.List.{range_with_len}
use Rattle.std.specs.Option.{option_map}
use Rattle.std.proofs.lemmas.Bool.{cases_eq, eq-eqb, ne_eqb}
use Rattle.std.proofs.lemmas.List.{length-set, map-append}
use Rattle.std.proofs.lemmas.Option.{slice_get_within}
use Rattle.luflow.proofs.Solutions.{some_at}
use Rattle.luworld.specs.declared.link.Link.{Link}
use Rattle.luworld.specs.Needs.{PlanView, sites_of, home, IsPlan, links_of_variable, is_linked}
use Rattle.luworld.specs.Jobs.{JobView, IsCoherent}
use Rattle.lusite_program.proofs.Written.{slice_get-set_same, slice_get-set_other}
use Rattle.lusite_program.proofs.Ranges.{filter_more}
use Rattle.atomic_table.specs.Seated.{TableId}
use Rattle.lulink.specs.Views.{SenderView, ReceiverView, AreOfOneRing}
use Rattle.lurun.specs.declared.opening.Ends.{Ends}
use Rattle.lulink.specs.Views.{IsUnusedSender, IsUnusedReceiver}
use Rattle.lurun.specs.Ends.{sender_at, receiver_at, sent_below, taken_below, sent_links, taken_links, AreUnusedEnds, IsLinkedBy, AreEndsOf}
use Rattle.lurun.specs.Making.{IsEnds, AreAllEnds, IsSenderAdded, IsReceiverAdded}
use Rattle.lurun.proofs.Acts.{same_Some}

pushed : {A : Type 0} (P : A → Type 0) (xs : List A) (y : A) → P y → ((k : ℕ) (x : A) → slice_get xs k ≡ Some x → P x) → (k : ℕ) (x : A) → slice_get (xs ++ y ∷ []) k ≡ Some x → P x
pushed P [] y here each zero x e = subst P (same_Some y x e) here
pushed P [] y here each (suc k) x e = absurd cc
pushed P (z ∷ xs) y here each zero x e = each zero x e
pushed P (z ∷ xs) y here each (suc k) x e = pushed P xs y here (λ j w h. each (suc j) w h) k x e

behind : {X : Type 0} (xs : List X) (y : X) → slice_get (xs ++ y ∷ []) (length xs) ≡ Some y
behind [] y = refl
behind (x ∷ xs) y = behind xs y

ahead : {X : Type 0} (xs : List X) (y : X) (k : ℕ) (x : X) → slice_get xs k ≡ Some x → slice_get (xs ++ y ∷ []) k ≡ Some x
ahead [] y k x e = absurd cc
ahead (z ∷ xs) y zero x e = e
ahead (z ∷ xs) y (suc k) x e = ahead xs y k x e

-- ends by rings are ends by those and one more
one_more : (rings : List TableId) (ring : TableId) (capacity : ℕ) (txs : List SenderView) (rxs : List ReceiverView) → AreEndsOf rings capacity txs rxs → AreEndsOf (rings ++ ring ∷ []) capacity txs rxs
one_more rings ring capacity txs rxs are = record {
  senders = λ k t e. (let x = are.senders k t e in (ahead rings ring t.link t.ring x.0, x.1));
  receivers = λ k t e. (let x = are.receivers k t e in (ahead rings ring t.link t.ring x.0, x.1));
}

pub no_ends : (rings : List TableId) (capacity : ℕ) → AreEndsOf rings capacity [] []
no_ends rings capacity = record { senders = λ k t e. absurd cc; receivers = λ k t e. absurd cc }

-- a numbered fact of each element, where one is another now
one_set : {A : Type 0} (P Q : ℕ → A → Type 0) (xs : List A) (i : ℕ) (x y : A) → slice_get xs i ≡ Some x → Q i y → ((s : ℕ) (z : A) → s ≢ i → P s z → Q s z) → ((s : ℕ) (z : A) → slice_get xs s ≡ Some z → P s z)
    → (s : ℕ) (z : A) → slice_get (slice_set xs i y) s ≡ Some z → Q s z
one_set P Q xs i x y here new other each s z e = elim (cases_eq s i) [
  | inl is ↦
      let same : y ≡ z = same_Some y z (sym (ap (slice_get (set xs i y)) is ∙ slice_get-set_same xs i y (slice_get_within xs i x here)) ∙ e) in
      subst (Q s) same (subst (λ (n : ℕ). Q n y) (sym is) new)
  | inr ne ↦ other s z ne (each s z (sym (slice_get-set_other xs i s y ne) ∙ e))
]

module _ (job : JobView) (l : ℕ) (rings : List TableId) (ring : TableId) where
  abbrev more : List TableId
  more = rings ++ ring ∷ []

  -- site s has the sender's end of link l too, if it is its own
  record Half (s : ℕ) (b : Ends) : Type 0 where
    pub sent : sent_links b.txs.items ≡ sent_below job.plan s (l + 1)
    pub taken : taken_links b.rxs.items ≡ taken_below job.plan s l
    pub senders : (k : ℕ) (t : SenderView) → slice_get b.txs.items k ≡ Some t → IsUnusedSender job t
    pub receivers : (k : ℕ) (t : ReceiverView) → slice_get b.rxs.items k ≡ Some t → IsUnusedReceiver job t
    pub linked : AreEndsOf more job.plan.capacity b.txs.items b.rxs.items

  sent_here : (s : ℕ) → sender_at job.plan l ≡ s → sent_below job.plan s (l + 1) ≡ sent_below job.plan s l ++ l ∷ []
  sent_here s e = filter_more (λ n. nat_eq (sender_at job.plan n) s) l ∙ ap (λ (b : Bool). sent_below job.plan s l ++ cond b (l ∷ []) []) (eq-eqb (sender_at job.plan l) s e)

  sent_there : (s : ℕ) → s ≢ sender_at job.plan l → sent_below job.plan s (l + 1) ≡ sent_below job.plan s l
  sent_there s ne = filter_more (λ n. nat_eq (sender_at job.plan n) s) l ∙ ap (λ (b : Bool). sent_below job.plan s l ++ cond b (l ∷ []) []) (ne_eqb (sender_at job.plan l) s (λ e. ne (sym e))) ∙ append-nil (sent_below job.plan s l)

  taken_here : (s : ℕ) → receiver_at job.plan l ≡ s → taken_below job.plan s (l + 1) ≡ taken_below job.plan s l ++ l ∷ []
  taken_here s e = filter_more (λ n. nat_eq (receiver_at job.plan n) s) l ∙ ap (λ (b : Bool). taken_below job.plan s l ++ cond b (l ∷ []) []) (eq-eqb (receiver_at job.plan l) s e)

  taken_there : (s : ℕ) → s ≢ receiver_at job.plan l → taken_below job.plan s (l + 1) ≡ taken_below job.plan s l
  taken_there s ne = filter_more (λ n. nat_eq (receiver_at job.plan n) s) l ∙ ap (λ (b : Bool). taken_below job.plan s l ++ cond b (l ∷ []) []) (ne_eqb (receiver_at job.plan l) s (λ e. ne (sym e))) ∙ append-nil (taken_below job.plan s l)

  half_other : (s : ℕ) (b : Ends) → s ≢ sender_at job.plan l → IsEnds job rings l s b → Half s b
  half_other s b ne is = record { sent = is.sent ∙ sym (sent_there s ne); taken = is.taken; senders = is.senders; receivers = is.receivers; linked = one_more rings ring job.plan.capacity b.txs.items b.rxs.items is.linked }

  whole_other : (s : ℕ) (b : Ends) → s ≢ receiver_at job.plan l → Half s b → IsEnds job more (l + 1) s b
  whole_other s b ne is = record { sent = is.sent; taken = is.taken ∙ sym (taken_there s ne); senders = is.senders; receivers = is.receivers; linked = is.linked }

  module _ (all half whole : List Ends) (len : length all ≡ sites_of job.plan) (links : length rings ≡ l) (each : (s : ℕ) (b : Ends) → slice_get all s ≡ Some b → IsEnds job rings l s b)
      (tx : SenderView) (rx : ReceiverView) (tx_job : tx.job ≡ job) (tx_link : tx.link ≡ l) (tx_put : tx.put ≡ []) (rx_job : rx.job ≡ job) (rx_link : rx.link ≡ l) (rx_taken : rx.taken ≡ [])
      (tx_ring : tx.ring ≡ ring) (rx_ring : rx.ring ≡ ring) (tx_capacity : tx.capacity ≡ job.plan.capacity) (rx_capacity : rx.capacity ≡ job.plan.capacity)
      (ls : sender_at job.plan l < length all) (lr : receiver_at job.plan l < length all)
      (first : (b : Ends) → slice_get all (sender_at job.plan l) ≡ Some b → IsSenderAdded all (sender_at job.plan l) b tx half)
      (second : (b : Ends) → slice_get half (receiver_at job.plan l) ≡ Some b → IsReceiverAdded half (receiver_at job.plan l) b rx whole) where
    half_len : length half ≡ length all
    half_len = let w = some_at all (sender_at job.plan l) ls in let a = first w.0 w.1 in ap length a.is ∙ length-set all (sender_at job.plan l) a.ends

    linked_here : (link : ℕ) (of : TableId) (capacity : ℕ) → link ≡ l → of ≡ ring → capacity ≡ job.plan.capacity → IsLinkedBy more job.plan.capacity link of capacity
    linked_here link of capacity el eo ec = (ap (slice_get more) (el ∙ sym links) ∙ behind rings ring ∙ ap Some (sym eo), ec)

    half_each : (s : ℕ) (b : Ends) → slice_get half s ≡ Some b → Half s b
    half_each s b e =
        let i = sender_at job.plan l in
        let w = some_at all i ls in
        let a = first w.0 w.1 in
        let old = each i w.0 w.1 in
        let wide = one_more rings ring job.plan.capacity w.0.txs.items w.0.rxs.items old.linked in
        let new : Half i a.ends = record {
          sent = ap sent_links a.txs ∙ map-append (λ (t : SenderView). t.link) w.0.txs.items (tx ∷ []) ∙ ap₂ (λ (xs : List ℕ) (n : ℕ). xs ++ n ∷ []) old.sent tx_link ∙ sym (sent_here i refl);
          taken = ap (λ v. taken_links v.items) a.rxs ∙ old.taken;
          senders = λ k t h. pushed (IsUnusedSender job) w.0.txs.items tx (record { job_is = tx_job; unused = tx_put }) old.senders k t (ap (λ ts. slice_get ts k) (sym a.txs) ∙ h);
          receivers = λ k t h. old.receivers k t (ap (λ v. slice_get v.items k) (sym a.rxs) ∙ h);
          linked = record {
            senders = λ k t h. pushed (λ (u : SenderView). IsLinkedBy more job.plan.capacity u.link u.ring u.capacity) w.0.txs.items tx (linked_here tx.link tx.ring tx.capacity tx_link tx_ring tx_capacity) wide.senders k t (ap (λ ts. slice_get ts k) (sym a.txs) ∙ h);
            receivers = λ k t h. wide.receivers k t (ap (λ v. slice_get v.items k) (sym a.rxs) ∙ h);
          };
        } in
        one_set (IsEnds job rings l) Half all i w.0 a.ends w.1 new half_other each s b (ap (λ bs. slice_get bs s) (sym a.is) ∙ e)

    lr' : receiver_at job.plan l < length half
    lr' = omega (arith, lr, half_len)

    pub whole_are : AreAllEnds job (l + 1) whole
    whole_are =
        let i = receiver_at job.plan l in
        let w = some_at half i lr' in
        let a = second w.0 w.1 in
        let old = half_each i w.0 w.1 in
        let new : IsEnds job more (l + 1) i a.ends = record {
          sent = ap (λ v. sent_links v.items) a.txs ∙ old.sent;
          taken = ap taken_links a.rxs ∙ map-append (λ (t : ReceiverView). t.link) w.0.rxs.items (rx ∷ []) ∙ ap₂ (λ (xs : List ℕ) (n : ℕ). xs ++ n ∷ []) old.taken rx_link ∙ sym (taken_here i refl);
          senders = λ k t h. old.senders k t (ap (λ v. slice_get v.items k) (sym a.txs) ∙ h);
          receivers = λ k t h. pushed (IsUnusedReceiver job) w.0.rxs.items rx (record { job_is = rx_job; unused = rx_taken }) old.receivers k t (ap (λ ts. slice_get ts k) (sym a.rxs) ∙ h);
          linked = record {
            senders = λ k t h. old.linked.senders k t (ap (λ v. slice_get v.items k) (sym a.txs) ∙ h);
            receivers = λ k t h. pushed (λ (u : ReceiverView). IsLinkedBy more job.plan.capacity u.link u.ring u.capacity) w.0.rxs.items rx (linked_here rx.link rx.ring rx.capacity rx_link rx_ring rx_capacity) old.linked.receivers k t (ap (λ ts. slice_get ts k) (sym a.rxs) ∙ h);
          };
        } in
        record {
          len = ap length a.is ∙ length-set half i a.ends ∙ half_len ∙ len;
          rings = more;
          links = (let n = length-append rings (ring ∷ []) in omega (arith, n, links));
          each = λ s b e. one_set Half (IsEnds job more (l + 1)) half i w.0 a.ends w.1 new whole_other half_each s b (ap (λ bs. slice_get bs s) (sym a.is) ∙ e);
        }

pub link_added : (job : JobView) (l i j : ℕ) (all half whole : List Ends) → AreAllEnds job l all → (tx : SenderView) (rx : ReceiverView) → (tx.job ≡ job) × (tx.link ≡ l) × (tx.put ≡ []) → (rx.job ≡ job) × (rx.link ≡ l) × (rx.taken ≡ [])
    → AreOfOneRing tx rx → (tx.capacity ≡ job.plan.capacity) × (rx.capacity ≡ job.plan.capacity) → i ≡ sender_at job.plan l → j ≡ receiver_at job.plan l → i < sites_of job.plan → j < sites_of job.plan
    → ((b : Ends) → slice_get all i ≡ Some b → IsSenderAdded all i b tx half) → ((b : Ends) → slice_get half j ≡ Some b → IsReceiverAdded half j b rx whole) → AreAllEnds job (l + 1) whole
link_added job l i j all half whole are tx rx t r one room ei ej li lj first second =
    whole_are job l are.rings tx.ring all half whole are.len are.links are.each tx rx t.0 t.1 t.2 r.0 r.1 r.2 refl (sym one.0) room.0 room.1
    (let n = are.len in omega (arith, li, ei, n)) (let n = are.len in omega (arith, lj, ej, n))
    (subst (λ (n : ℕ). (b : Ends) → slice_get all n ≡ Some b → IsSenderAdded all n b tx half) ei first)
    (subst (λ (n : ℕ). (b : Ends) → slice_get half n ≡ Some b → IsReceiverAdded half n b rx whole) ej second)

pub half_length : (all half : List Ends) (i : ℕ) (tx : SenderView) → i < length all → ((b : Ends) → slice_get all i ≡ Some b → IsSenderAdded all i b tx half) → length half ≡ length all
half_length all half i tx l first = let w = some_at all i l in let a = first w.0 w.1 in ap length a.is ∙ length-set all i a.ends

-- ---- the ends of a link are sites

abbrev Each : {X : Type 0} → (X → Type 0) → List X → Type 0
Each {X} P xs = (k : ℕ) (x : X) → slice_get xs k ≡ Some x → P x

each_append : {X : Type 0} (P : X → Type 0) (xs ys : List X) → Each P xs → Each P ys → Each P (xs ++ ys)
each_append P [] ys a b k x e = b k x e
each_append P (z ∷ xs) ys a b zero x e = a zero x e
each_append P (z ∷ xs) ys a b (suc k) x e = each_append P xs ys (λ j w h. a (suc j) w h) b k x e

each_map : {X Y : Type 0} (P : Y → Type 0) (f : X → Y) (xs : List X) → ((x : X) → P (f x)) → Each P (map f xs)
each_map P f [] h k x e = absurd cc
each_map P f (z ∷ xs) h zero x e = subst P (same_Some (f z) x e) (h z)
each_map P f (z ∷ xs) h (suc k) x e = each_map P f xs h k x e

each_flat : {X Y : Type 0} (P : Y → Type 0) (f : X → List Y) (xs : List X) → ((x : X) → Each P (f x)) → Each P (flat_map f xs)
each_flat P f [] h k x e = absurd cc
each_flat P f (z ∷ xs) h k x e = each_append P (f z) (flat_map f xs) (h z) (each_flat P f xs h) k x e

pub from_inside : (plan : PlanView) → IsPlan plan → IsCoherent plan → (l : ℕ) (k : Link) → slice_get plan.links l ≡ Some k → k.from < sites_of plan
from_inside plan is fits l k e =
    let P : Link → Type 0 = λ k. k.from < sites_of plan in
    each_flat P (links_of_variable plan) (range_with_len 0 (length plan.flat.variables)) (λ v. each_map P (λ s. record { flow = v; from = home plan v; to = s }) (filter (is_linked plan v) (range_with_len 0 (sites_of plan))) (λ s. fits.homes v)) l k (ap (λ ks. slice_get ks l) (sym is.links_are) ∙ e)

pub to_inside : (plan : PlanView) → IsCoherent plan → (l : ℕ) (k : Link) → slice_get plan.links l ≡ Some k → k.to < sites_of plan
to_inside plan fits l k e = subst (λ (o : Option Link). unwrap_or (option_map (λ (x : Link). x.to) o) 0 < sites_of plan) e (fits.receivers l)

-- the ends of all links of a site are its unused ends
pub unused_ends : (job : JobView) (rings : List TableId) (s : ℕ) (b : Ends) → IsEnds job rings (length job.plan.links) s b → AreUnusedEnds job s b.txs.items b.rxs.items
unused_ends job rings s b is = record { sent = is.sent; taken = is.taken; senders = is.senders; receivers = is.receivers }

-- no ends yet
pub empty_ends : (job : JobView) (s : ℕ) (b : Ends) → b.txs.items ≡ [] → b.rxs.items ≡ [] → IsEnds job [] 0 s b
empty_ends job s b no_tx no_rx = record {
  sent = ap sent_links no_tx;
  taken = ap taken_links no_rx;
  senders = λ k t h. (let z = ap (λ (xs : List SenderView). slice_get xs k) (sym no_tx) ∙ h in absurd cc);
  receivers = λ k t h. (let z = ap (λ (xs : List ReceiverView). slice_get xs k) (sym no_rx) ∙ h in absurd cc);
  linked = record {
    senders = λ k t h. (let z = ap (λ (xs : List SenderView). slice_get xs k) (sym no_tx) ∙ h in absurd cc);
    receivers = λ k t h. (let z = ap (λ (xs : List ReceiverView). slice_get xs k) (sym no_rx) ∙ h in absurd cc);
  };
}
