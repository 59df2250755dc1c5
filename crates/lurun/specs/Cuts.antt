-- Where a site stops: at the end of its script, or at a link whose other end has left.
use Rattle.std.specs.Prelude.{◌≡◌, ℕ, ◌+◌, true, List, [], ◌∷◌, ◌++◌, length, Some, slice_get}
use Rattle.luflow.specs.declared.message.Msg.{Msg}
use Rattle.lulink.specs.Words.{number, has_left}
use Rattle.lulink.specs.Views.{SenderView, ReceiverView}
use Rattle.lusite.specs.declared.next.Next.TheVariants.{Put, Take, Ended, Faulted}
use Rattle.lusite.specs.Sites.{SiteView}
use Rattle.lusite.specs.Machine.{IsNext}

-- the last two words that a sender saw: by the one the link was full, by the other the receiver had left
pub record FoundReceiverGone (t : SenderView) : Type 0 where
  pub earlier : List ℕ
  pub full : ℕ
  pub gone : ℕ
  pub seen : t.seen ≡ earlier ++ full ∷ gone ∷ []
  pub was_full : length t.put ≡ number full + t.capacity
  pub left : has_left gone ≡ true

-- the last word that a receiver saw: the sender had left, and all that it had put was taken
pub record FoundSenderGone (t : ReceiverView) : Type 0 where
  pub earlier : List ℕ
  pub gone : ℕ
  pub seen : t.seen ≡ earlier ++ gone ∷ []
  pub all : length t.taken ≡ number gone
  pub left : has_left gone ≡ true

abbrev pub IsCutAtPut : List SenderView → ℕ → Type 0
IsCutAtPut txs l = (k : ℕ) × (t : SenderView) × (slice_get txs k ≡ Some t) × (t.link ≡ l) × FoundReceiverGone t

abbrev pub IsCutAtTake : List ReceiverView → ℕ → Type 0
IsCutAtTake rxs l = (k : ℕ) × (t : ReceiverView) × (slice_get rxs k ≡ Some t) × (t.link ≡ l) × FoundSenderGone t

-- A site stops: it has done its script, or its next item is a put, or a take, over a link whose other end has
-- left.
pub data IsOver (v : SiteView) (txs : List SenderView) (rxs : List ReceiverView) : Type 0 where
  has_ended : IsNext v.job v.site v.done Ended → IsOver v txs rxs
  has_faulted : IsNext v.job v.site v.done Faulted → IsOver v txs rxs
  is_cut_at_put : (l : ℕ) (m : Msg) → IsNext v.job v.site v.done (Put l m) → IsCutAtPut txs l → IsOver v txs rxs
  is_cut_at_take : (l : ℕ) → IsNext v.job v.site v.done (Take l) → IsCutAtTake rxs l → IsOver v txs rxs
