-- What each call of an end of a ring learns by the other end's word. A call that finds the ring full, or
-- empty, or that asks whether the other end has left, goes by a word that was loaded in that call.
use Rattle.std.specs.Prelude.{◌≡◌, ℕ, ◌+◌, ◌-◌, ◌<◌, ◌≤◌, List, [], ◌∷◌, ◌++◌, true, length, Option, Some, None}
use Rattle.luflow.specs.declared.message.Msg.{Msg}
use Rattle.lulink.specs.declared.sender.Offer.{Offer}
use Rattle.lulink.specs.declared.sender.Offer.TheVariants.{Done, Full}
use Rattle.lulink.specs.Counts.{counted, showed, WentWell}
use Rattle.lulink.specs.Words.{number, has_left, IsLastSeen, HasSeen, RestsOn}
use Rattle.lulink.specs.Views.{SenderView, ReceiverView, IsNextToTake, HasPut, HasTaken}

-- one word was loaded and nothing was put
abbrev pub put_none : SenderView → ℕ → SenderView
put_none s w = record {
  job = s.job;
  link = s.link;
  capacity = s.capacity;
  ring = s.ring;
  put = s.put;
  seen = s.seen ++ w ∷ [];
  counts = s.counts;
}

-- one word was loaded and nothing was taken
abbrev pub took_none : ReceiverView → ℕ → ReceiverView
took_none r w = record {
  job = r.job;
  link = r.link;
  capacity = r.capacity;
  ring = r.ring;
  taken = r.taken;
  seen = r.seen ++ w ∷ [];
  counts = r.counts;
}

-- how many messages are in the link by the word
abbrev pub put_ahead : SenderView → ℕ → ℕ
put_ahead s w = length s.put - number w

abbrev pub put_behind : ReceiverView → ℕ → ℕ
put_behind r w = number w - length r.taken

-- the next message has to wait, by the word
abbrev pub put_waits : SenderView → ℕ → SenderView
put_waits s w = record {
  job = s.job;
  link = s.link;
  capacity = s.capacity;
  ring = s.ring;
  put = s.put;
  seen = s.seen;
  counts = counted (length s.put) (showed (put_ahead s w) s.counts);
}

abbrev pub take_waits : ReceiverView → ℕ → ReceiverView
take_waits r w = record {
  job = r.job;
  link = r.link;
  capacity = r.capacity;
  ring = r.ring;
  taken = r.taken;
  seen = r.seen;
  counts = counted (length r.taken) (showed (put_behind r w) r.counts);
}

-- just the message was put, by the word that was loaded last: in this call, or in an earlier one
abbrev pub PutOne : Msg → SenderView → ℕ → SenderView → Type 0
PutOne m s w t = HasPut m s t × (t.capacity ≡ s.capacity) × RestsOn s.seen w t.seen
    × WentWell (put_ahead s w) s.seen w t.seen s.counts t.counts

-- just the message was taken, by the word that was loaded last: in this call, or in an earlier one
abbrev pub TookOne : Msg → ReceiverView → ℕ → ReceiverView → Type 0
TookOne m r w q = HasTaken m r q × (q.capacity ≡ r.capacity) × RestsOn r.seen w q.seen
    × WentWell (put_behind r w) r.seen w q.seen r.counts q.counts

-- by the word there was room, or the ring was full
abbrev pub HadRoom : SenderView → ℕ → Type 0
HadRoom s w = length s.put < number w + s.capacity

abbrev pub WasFull : SenderView → ℕ → Type 0
WasFull s w = length s.put ≡ number w + s.capacity

-- by the word a message was put that isn't taken, or all that was put is taken
abbrev pub HadOne : ReceiverView → ℕ → Type 0
HadOne r w = length r.taken < number w

abbrev pub WasEmpty : ReceiverView → ℕ → Type 0
WasEmpty r w = length r.taken ≡ number w

-- the message was put, or the ring was full at the load and the message comes back
abbrev pub Offered : Offer → Msg → SenderView → ℕ → SenderView → Type 0
Offered Done m s w t = PutOne m s w t × HadRoom s w
Offered (Full back) m s w t = (t ≡ put_none (put_waits s w) w) × (back ≡ m) × WasFull s w

-- the next message of the list was taken, or the ring was empty at the load
abbrev pub Polled : Option Msg → ReceiverView → ℕ → ReceiverView → Type 0
Polled (Some m) r w q = TookOne m r w q × IsNextToTake r m × HadOne r w
Polled None r w q = (q ≡ took_none (take_waits r w) w) × WasEmpty r w

-- by the word there was room for n messages, or n messages were put that aren't taken
abbrev pub HadRoomFor : ℕ → SenderView → ℕ → Type 0
HadRoomFor n s w = length s.put + n ≤ number w + s.capacity

abbrev pub HadSome : ℕ → ReceiverView → ℕ → Type 0
HadSome n r w = length r.taken + n ≤ number w

-- By the word that was loaded last there was room for the n messages that were put. Where more were offered,
-- it was loaded in this call and the ring was full then; where none was offered, it was loaded too. Where some
-- were offered and none was put, the first has to wait.
pub record OfferedRun (all n : ℕ) (s : SenderView) (w : ℕ) (t : SenderView) : Type 0 where
  pub capacity : t.capacity ≡ s.capacity
  pub rests : RestsOn s.seen w t.seen
  pub room : HadRoomFor n s w
  pub full : n < all → HasSeen s.seen w t.seen × WasFull t w
  pub look : all ≡ 0 → HasSeen s.seen w t.seen
  pub idle : all ≡ 0 → t.counts ≡ s.counts
  pub well : 0 < n → WentWell (put_ahead s w) s.seen w t.seen s.counts t.counts
  pub waits : 0 < all → n ≡ 0 → t.counts ≡ (put_waits s w).counts

-- By the word that was loaded last the n messages that were taken were there. Where more were asked for, it
-- was loaded in this call and the ring was empty then; where none was asked for, it was loaded too. Where some
-- were asked for and none was taken, the first has to wait.
pub record PolledRun (most n : ℕ) (r : ReceiverView) (w : ℕ) (q : ReceiverView) : Type 0 where
  pub capacity : q.capacity ≡ r.capacity
  pub rests : RestsOn r.seen w q.seen
  pub there : HadSome n r w
  pub empty : n < most → HasSeen r.seen w q.seen × WasEmpty q w
  pub look : most ≡ 0 → HasSeen r.seen w q.seen
  pub idle : most ≡ 0 → q.counts ≡ r.counts
  pub well : 0 < n → WentWell (put_behind r w) r.seen w q.seen r.counts q.counts
  pub waits : 0 < most → n ≡ 0 → q.counts ≡ (take_waits r w).counts

-- by the last word that was loaded, in this call or in an earlier one, there was room
abbrev pub FoundRoom : SenderView → SenderView → Type 0
FoundRoom s t = (ws : List ℕ) × (w : ℕ) × (t.capacity ≡ s.capacity) × (t.seen ≡ s.seen ++ ws)
    × IsLastSeen t.seen w × HadRoom s w

-- words were loaded: at the last but one the ring was full, and the last said that the receiver had left
abbrev pub FoundFullAndGone : SenderView → SenderView → Type 0
FoundFullAndGone s t = (ws : List ℕ) × (full : ℕ) × (gone : ℕ) × (t.capacity ≡ s.capacity)
    × (t.seen ≡ (s.seen ++ ws) ++ full ∷ gone ∷ []) × WasFull s full × (has_left gone ≡ true)

-- by the last word that was loaded, in this call or in an earlier one, there was a message
abbrev pub FoundOne : ReceiverView → ReceiverView → Type 0
FoundOne r q = (ws : List ℕ) × (w : ℕ) × (q.capacity ≡ r.capacity) × (q.seen ≡ r.seen ++ ws)
    × IsLastSeen q.seen w × HadOne r w

-- words were loaded: the last said that the sender had left, and all that was put is taken
abbrev pub FoundNothingLeft : ReceiverView → ReceiverView → Type 0
FoundNothingLeft r q = (ws : List ℕ) × (w : ℕ) × (q.capacity ≡ r.capacity)
    × (q.seen ≡ (r.seen ++ ws) ++ w ∷ []) × WasEmpty r w × (has_left w ≡ true)
