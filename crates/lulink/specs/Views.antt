-- What contracts see of an end of a link, and what each call changes of what was put or taken. Nothing here
-- knows what a link is made of, but that its two ends go by the words of one table.
use Rattle.std.specs.Prelude.{◌≡◌, ℕ, ◌+◌, List, [], ◌∷◌, ◌++◌, length, Option, Some, None, slice_get}
use Rattle.atomic_table.specs.Seated.{TableId}
use Rattle.luflow.specs.declared.message.Msg.{Msg}
use Rattle.luflow.specs.declared.message.Body.TheVariants.{Close}
use Rattle.luworld.specs.Jobs.{JobView}
use Rattle.lulink.specs.declared.counts.Counts.{Counts}
use Rattle.lulink.specs.declared.sender.Offer.{Offer}
use Rattle.lulink.specs.declared.sender.Offer.TheVariants.{Done, Full}
use Rattle.lulink.specs.Lists.{list_of, IsNextOf}

-- The run, the link, the capacity, which ring the end is of, what was put, the words of the receiver's that
-- the loads of this end gave, one for each load, and what it counted at them.
pub record SenderView : Type 0 where
  pub job : JobView
  pub link : ℕ
  pub capacity : ℕ
  pub ring : TableId
  pub put : List Msg
  pub seen : List ℕ
  pub counts : Counts

-- The run, the link, the capacity, which ring the end is of, what was taken, the words of the sender's that
-- the loads of this end gave, one for each load, and what it counted at them.
pub record ReceiverView : Type 0 where
  pub job : JobView
  pub link : ℕ
  pub capacity : ℕ
  pub ring : TableId
  pub taken : List Msg
  pub seen : List ℕ
  pub counts : Counts

-- the two ends of one ring
abbrev pub AreOfOneRing : SenderView → ReceiverView → Type 0
AreOfOneRing s r = (s.ring ≡ r.ring) × (s.job ≡ r.job) × (s.link ≡ r.link) × (s.capacity ≡ r.capacity)

-- the ends of links of this job, unused
pub record IsUnusedSender (job : JobView) (t : SenderView) : Type 0 where
  pub job_is : t.job ≡ job
  pub unused : t.put ≡ []

pub record IsUnusedReceiver (job : JobView) (t : ReceiverView) : Type 0 where
  pub job_is : t.job ≡ job
  pub unused : t.taken ≡ []

-- the message is the next to be put
abbrev pub IsNextToPut : SenderView → Msg → Type 0
IsNextToPut s m = IsNextOf (list_of s.job s.link) (length s.put) m

-- the message is the next to be taken
abbrev pub IsNextToTake : ReceiverView → Msg → Type 0
IsNextToTake r m = IsNextOf (list_of r.job r.link) (length r.taken) m

-- the messages are the next to be put, in this order
abbrev pub AreNextToPut : SenderView → List Msg → Type 0
AreNextToPut s ms = (k : ℕ) (m : Msg) → slice_get ms k ≡ Some m → IsNextOf (list_of s.job s.link)
    (length s.put + k) m

-- the messages are the next to be taken, in this order
abbrev pub AreNextToTake : ReceiverView → List Msg → Type 0
AreNextToTake r ms = (k : ℕ) (m : Msg) → slice_get ms k ≡ Some m → IsNextOf (list_of r.job r.link)
    (length r.taken + k) m

-- just this message was put
abbrev pub HasPut : Msg → SenderView → SenderView → Type 0
HasPut m s t = (t.job ≡ s.job) × (t.link ≡ s.link) × (t.put ≡ s.put ++ m ∷ []) × (t.ring ≡ s.ring)

abbrev pub HasPutNothing : SenderView → SenderView → Type 0
HasPutNothing s t = (t.job ≡ s.job) × (t.link ≡ s.link) × (t.put ≡ s.put) × (t.ring ≡ s.ring)

-- just these messages were put
abbrev pub HasPutAll : List Msg → SenderView → SenderView → Type 0
HasPutAll ms s t = (t.job ≡ s.job) × (t.link ≡ s.link) × (t.put ≡ s.put ++ ms) × (t.ring ≡ s.ring)

-- just this message was taken
abbrev pub HasTaken : Msg → ReceiverView → ReceiverView → Type 0
HasTaken m r q = (q.job ≡ r.job) × (q.link ≡ r.link) × (q.taken ≡ r.taken ++ m ∷ []) × (q.ring ≡ r.ring)

abbrev pub HasTakenNothing : ReceiverView → ReceiverView → Type 0
HasTakenNothing r q = (q.job ≡ r.job) × (q.link ≡ r.link) × (q.taken ≡ r.taken) × (q.ring ≡ r.ring)

-- just these messages were taken
abbrev pub HasTakenAll : List Msg → ReceiverView → ReceiverView → Type 0
HasTakenAll ms r q = (q.job ≡ r.job) × (q.link ≡ r.link) × (q.taken ≡ r.taken ++ ms) × (q.ring ≡ r.ring)

-- just the message was put, or nothing was and it comes back
abbrev pub PutOrBack : Offer → Msg → SenderView → SenderView → Type 0
PutOrBack Done m s t = HasPut m s t
PutOrBack (Full back) m s t = (back ≡ m) × HasPutNothing s t

-- just the next message of the list was taken, or nothing was
abbrev pub TakenOrNot : Option Msg → ReceiverView → ReceiverView → Type 0
TakenOrNot (Some m) r q = HasTaken m r q × IsNextToTake r m
TakenOrNot None r q = HasTakenNothing r q

-- nothing follows the close: where it was taken, all of the list was
abbrev pub IsWholeAt : Msg → ReceiverView → Type 0
IsWholeAt m r = m.body ≡ Close → r.taken ≡ list_of r.job r.link

-- so many messages were taken, the next of the list, and stand behind what the buffer had
abbrev pub IsRunTaken : ℕ → List Msg → List Msg → ReceiverView → ReceiverView → Type 0
IsRunTaken n before after r q = (got : List Msg) × (length got ≡ n) × (after ≡ before ++ got)
    × HasTakenAll got r q × AreNextToTake r got

-- where the close is among what was taken, all of the list was
abbrev pub IsWholeAtClose : ReceiverView → Type 0
IsWholeAtClose r = (k : ℕ) (m : Msg) → slice_get r.taken k ≡ Some m → IsWholeAt m r
