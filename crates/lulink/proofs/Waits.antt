-- Looks that find nothing, and what comes after them.
use Rattle.std.proofs.Common.{◌≡◌, ◌+◌, ◌-◌, ◌<◌, ◌⊎◌, ◌==◌, if◌then◌else◌, ℕ, true, List, [], ◌∷◌, ◌++◌, inl, inr, length, Option, Some, None, sym, refl, ap, ◌∙◌, subst, append_assoc, arith}
use Rattle.std.proofs.Math.Nat.{le-max_left}
use Rattle.std.proofs.lemmas.Bool.Decides.{nat_tests}
use Rattle.std.proofs.lemmas.List.Elements.{All-tail}
use Rattle.luflow.specs.declared.message.Msg.{Msg}
use Rattle.luworld.specs.Jobs.{JobView}
use Rattle.lulink.specs.Words.{number, has_left, IsFinal, HasSeen}
use Rattle.lulink.specs.Lists.{list_of, IsNextOf}
use Rattle.lulink.specs.declared.sender.Offer.{Offer}
use Rattle.lulink.specs.declared.sender.Offer.TheVariants.{Done, Full}
use Rattle.lulink.specs.Views.{SenderView, ReceiverView, IsNextToTake, HasPut, HasPutNothing, HasTaken, HasTakenNothing, PutOrBack, TakenOrNot}
use Rattle.lulink.specs.declared.counts.Counts.{Counts}
use Rattle.lulink.specs.Counts.{counted, showed, WentWell, WaitsOnce, CountsOnce}
use Rattle.lulink.specs.Seen.{put_none, took_none, put_ahead, put_behind, put_waits, take_waits, PutOne, HadRoom, WasFull, Offered, Polled, FoundRoom, FoundFullAndGone, FoundOne, FoundNothingLeft}

-- nothing was put, and some words were seen
pub record Waited (s t : SenderView) : Type 0 where
  pub job : t.job ≡ s.job
  pub link : t.link ≡ s.link
  pub capacity : t.capacity ≡ s.capacity
  pub ring : t.ring ≡ s.ring
  pub put : t.put ≡ s.put
  pub words : List ℕ
  pub seen : t.seen ≡ s.seen ++ words
  pub counts : CountsOnce (length s.put) s.counts t.counts

-- nothing was taken, and some words were seen
pub record Listened (g h : ReceiverView) : Type 0 where
  pub job : h.job ≡ g.job
  pub link : h.link ≡ g.link
  pub capacity : h.capacity ≡ g.capacity
  pub ring : h.ring ≡ g.ring
  pub taken : h.taken ≡ g.taken
  pub words : List ℕ
  pub seen : h.seen ≡ g.seen ++ words
  pub counts : CountsOnce (length g.taken) g.counts h.counts

-- a message that had to wait, and is tried again
waits_again : (n k : ℕ) (c d : Counts) → WaitsOnce n c d → WaitsOnce n c (counted n (showed k d))
waits_again n k c d (inl e) = inr ((λ i. if e.1 i == n + 1 then e.0 i else e.0 i + 1), refl)
waits_again n k c d (inr e) = inr (ap (λ m. if m == n + 1 then d.waited else d.waited + 1) e.1 ∙ same ∙ e.0, refl)
  where
    same : (if n + 1 == n + 1 then d.waited else d.waited + 1) ≡ d.waited
    same = grind (arith, nat_tests)

counted_again : (n k : ℕ) (c d : Counts) → CountsOnce n c d → CountsOnce n c (counted n (showed k d))
counted_again n k c d once = let before = once.most in let more = le-max_left d.most k in record { waits = waits_again n k c d once.waits; most = omega arith }

-- a try that went well after it
counted_well : (n k : ℕ) (c d e : Counts) (before : List ℕ) (w : ℕ) (after : List ℕ) → CountsOnce n c d → WentWell k before w after d e → CountsOnce n c e
counted_well n k c d e before w after once (inl still) = subst (λ x. CountsOnce n c x) (sym still.1) once
counted_well n k c d e before w after once (inr more) =
    let start = once.most in
    let higher = le-max_left d.most k in
    subst (λ x. CountsOnce n c x) (sym more.1) record { waits = once.waits; most = omega arith }

nothing_more : (xs : List ℕ) → xs ≡ xs ++ []
nothing_more [] = refl
nothing_more (x ∷ xs) = ap (λ l. x ∷ l) (nothing_more xs)

pub waited_not : (s : SenderView) → Waited s s
waited_not s = record { job = refl; link = refl; capacity = refl; ring = refl; put = refl; words = []; seen = nothing_more s.seen; counts = record { waits = inl (refl, refl); most = omega arith } }

pub listened_not : (g : ReceiverView) → Listened g g
listened_not g = record { job = refl; link = refl; capacity = refl; ring = refl; taken = refl; words = []; seen = nothing_more g.seen; counts = record { waits = inl (refl, refl); most = omega arith } }

pub waited_again : (s t u : SenderView) (w : ℕ) → Waited s t → u ≡ put_none t w → Waited s u
waited_again s t u w l e = record {
  job = ap (λ (x : SenderView). x.job) e ∙ l.job;
  link = ap (λ (x : SenderView). x.link) e ∙ l.link;
  capacity = ap (λ (x : SenderView). x.capacity) e ∙ l.capacity;
  ring = ap (λ (x : SenderView). x.ring) e ∙ l.ring;
  put = ap (λ (x : SenderView). x.put) e ∙ l.put;
  words = l.words ++ w ∷ [];
  seen = ap (λ (x : SenderView). x.seen) e ∙ ap (λ xs. xs ++ w ∷ []) l.seen ∙ append_assoc s.seen l.words (w ∷ []);
  counts = subst (λ c. CountsOnce (length s.put) s.counts c) (sym (ap (λ (x : SenderView). x.counts) e)) l.counts;
}

-- the ring was full after some waiting
pub waited_full : (s t : SenderView) (w : ℕ) → Waited s t → Waited s (put_waits t w)
waited_full s t w l = record {
  job = l.job;
  link = l.link;
  capacity = l.capacity;
  ring = l.ring;
  put = l.put;
  words = l.words;
  seen = l.seen;
  counts =
      subst (λ (xs : List Msg). CountsOnce (length s.put) s.counts (counted (length xs) (showed (length xs - number w) t.counts))) (sym l.put)
      (counted_again (length s.put) (length s.put - number w) s.counts t.counts l.counts);
}

-- the ring was empty after some waiting
pub listened_empty : (g h : ReceiverView) (w : ℕ) → Listened g h → Listened g (take_waits h w)
listened_empty g h w l = record {
  job = l.job;
  link = l.link;
  capacity = l.capacity;
  ring = l.ring;
  taken = l.taken;
  words = l.words;
  seen = l.seen;
  counts =
      subst (λ (xs : List Msg). CountsOnce (length g.taken) g.counts (counted (length xs) (showed (number w - length xs) h.counts))) (sym l.taken)
      (counted_again (length g.taken) (number w - length g.taken) g.counts h.counts l.counts);
}

pub listened_again : (g h i : ReceiverView) (w : ℕ) → Listened g h → i ≡ took_none h w → Listened g i
listened_again g h i w l e = record {
  job = ap (λ (x : ReceiverView). x.job) e ∙ l.job;
  link = ap (λ (x : ReceiverView). x.link) e ∙ l.link;
  capacity = ap (λ (x : ReceiverView). x.capacity) e ∙ l.capacity;
  ring = ap (λ (x : ReceiverView). x.ring) e ∙ l.ring;
  taken = ap (λ (x : ReceiverView). x.taken) e ∙ l.taken;
  words = l.words ++ w ∷ [];
  seen = ap (λ (x : ReceiverView). x.seen) e ∙ ap (λ xs. xs ++ w ∷ []) l.seen ∙ append_assoc g.seen l.words (w ∷ []);
  counts = subst (λ c. CountsOnce (length g.taken) g.counts c) (sym (ap (λ (x : ReceiverView). x.counts) e)) l.counts;
}

-- what was loaded while waiting, and in the call after it
seen_more : (a b c : List ℕ) (w : ℕ) (words : List ℕ) → b ≡ a ++ words → (c ≡ b) ⊎ HasSeen b w c → (ws : List ℕ) × (c ≡ a ++ ws)
seen_more a b c w words waited (inl still) = (words, still ∙ waited)
seen_more a b c w words waited (inr more) = (words ++ w ∷ [], more ∙ ap (λ xs. xs ++ w ∷ []) waited ∙ append_assoc a words (w ∷ []))

-- after some waiting there was room
pub put_done : (s t u : SenderView) (m : Msg) (w : ℕ) → Waited s t → PutOne m t w u → HadRoom t w → HasPut m s u × FoundRoom s u × CountsOnce (length s.put) s.counts u.counts
put_done s t u m w l p room =
    let more = seen_more s.seen t.seen u.seen w l.words l.seen p.2.1 in (
      (p.0.0 ∙ l.job, p.0.1 ∙ l.link, p.0.2 ∙ ap (λ xs. xs ++ m ∷ []) l.put, p.0.3 ∙ l.ring),
      (more.0, w, p.1 ∙ l.capacity, more.1, p.2.0, subst (λ (y : List Msg × ℕ). length y.0 < number w + y.1) (λ i. (l.put i, l.capacity i)) room),
      counted_well (length s.put) (put_ahead t w) s.counts t.counts u.counts t.seen w u.seen l.counts p.3,
    )

-- after some waiting the ring was full, and then the receiver had left
pub put_gone : (s t u v : SenderView) (full gone : ℕ) → Waited s t → u ≡ put_none (put_waits t full) full → WasFull t full → v ≡ put_none u gone → has_left gone ≡ true → HasPutNothing s v × FoundFullAndGone s v × CountsOnce (length s.put) s.counts v.counts
put_gone s t u v full gone l e is_full g left =
    let w = waited_again s u v gone (waited_again s (put_waits t full) u full (waited_full s t full l) e) g in (
      (w.job, w.link, w.put, w.ring),
      (
        l.words,
        full,
        gone,
        w.capacity,
        ap (λ (x : SenderView). x.seen) g ∙ ap (λ (x : SenderView). x.seen ++ gone ∷ []) e ∙ append_assoc t.seen (full ∷ []) (gone ∷ []) ∙ ap (λ xs. xs ++ full ∷ gone ∷ []) l.seen,
        subst (λ (y : List Msg × ℕ). length y.0 ≡ number full + y.1) (λ i. (l.put i, l.capacity i)) is_full,
        left,
      ),
      w.counts,
    )

-- after some waiting there was a message
pub take_done : (g h i : ReceiverView) (m : Msg) (w : ℕ) → Listened g h → Polled (Some m) h w i → (HasTaken m g i × IsNextToTake g m) × FoundOne g i × CountsOnce (length g.taken) g.counts i.counts
take_done g h i m w l p =
    let took = p.0 in
    let more = seen_more g.seen h.seen i.seen w l.words l.seen took.2.1 in (
      (
        (took.0.0 ∙ l.job, took.0.1 ∙ l.link, took.0.2 ∙ ap (λ xs. xs ++ m ∷ []) l.taken, took.0.3 ∙ l.ring),
        subst (λ (y : JobView × (ℕ × List Msg)). IsNextOf (list_of y.0 y.1.0) (length y.1.1) m) (λ k. (l.job k, (l.link k, l.taken k))) p.1,
      ),
      (more.0, w, took.1 ∙ l.capacity, more.1, took.2.0, subst (λ (xs : List Msg). length xs < number w) l.taken p.2),
      counted_well (length g.taken) (put_behind h w) g.counts h.counts i.counts h.seen w i.seen l.counts took.3,
    )

-- a word that says that the end has left is the last that was seen
pub final_last : (seen : List ℕ) (w v : ℕ) → IsFinal (seen ++ w ∷ []) v → has_left w ≡ true → w ≡ v
final_last [] w v f on = f 0 0 (omega arith) on
final_last (u ∷ us) w v f on = final_last us w v (All-tail (λ x. has_left x ≡ true → x ≡ v) u (us ++ w ∷ []) f) on

-- after some waiting the sender had left, and then nothing was there
pub take_gone : (g h i j : ReceiverView) (gone w : ℕ) → Listened g h → i ≡ took_none h gone → has_left gone ≡ true → Polled None i w j → IsFinal i.seen w → HasTakenNothing g j × FoundNothingLeft g j × CountsOnce (length g.taken) g.counts j.counts
take_gone g h i j gone w l e left p f =
    let m = listened_again g h i gone l e in
    let n = listened_again g (take_waits i w) j w (listened_empty g i w m) p.0 in
    let same : gone ≡ w = final_last h.seen gone w (subst (λ xs. IsFinal xs w) (ap (λ (x : ReceiverView). x.seen) e) f) left in (
      (n.job, n.link, n.taken, n.ring),
      (
        m.words,
        w,
        n.capacity,
        ap (λ (x : ReceiverView). x.seen) p.0 ∙ ap (λ xs. xs ++ w ∷ []) m.seen,
        subst (λ (xs : List Msg). length xs ≡ number w) m.taken p.1,
        subst (λ u. has_left u ≡ true) same left,
      ),
      n.counts,
    )

-- a poll that gave no message
pub polled_none : (o : Option Msg) (g : ReceiverView) (w : ℕ) (h : ReceiverView) → ((m : Msg) → o ≡ Some m → ⊥) → Polled o g w h → h ≡ took_none (take_waits g w) w
polled_none (Some m) g w h never p = absurd (never m refl)
polled_none None g w h never p = p.0

-- more waiting, by a poll that gave no message
pub listened_none : (g h i : ReceiverView) (w : ℕ) → Listened g h → i ≡ took_none (take_waits h w) w → Listened g i
listened_none g h i w l e = listened_again g (take_waits h w) i w (listened_empty g h w l) e

-- an offer without the word by which it went
pub offered_put : (o : Offer) (m : Msg) (s : SenderView) (w : ℕ) (t : SenderView) → Offered o m s w t → PutOrBack o m s t
offered_put Done m s w t h = h.0.0
offered_put (Full back) m s w t h = (h.1, (ap (λ (x : SenderView). x.job) h.0, ap (λ (x : SenderView). x.link) h.0, ap (λ (x : SenderView). x.put) h.0, ap (λ (x : SenderView). x.ring) h.0))

-- a poll without the word by which it went
pub polled_taken : (o : Option Msg) (r : ReceiverView) (w : ℕ) (q : ReceiverView) → Polled o r w q → TakenOrNot o r q
polled_taken (Some m) r w q h = (h.0.0, h.1)
polled_taken None r w q h = (ap (λ (x : ReceiverView). x.job) h.0, ap (λ (x : ReceiverView). x.link) h.0, ap (λ (x : ReceiverView). x.taken) h.0, ap (λ (x : ReceiverView). x.ring) h.0)
