-- How the ends of a job's links are made: link by link they go to their sites.
use Rattle.std.specs.Prelude.{◌≡◌, ℕ, List, [], ◌∷◌, ◌++◌, length, Some, slice_get, slice_set}
use Rattle.atomic_table.specs.Seated.{TableId}
use Rattle.luworld.specs.Needs.{sites_of}
use Rattle.luworld.specs.Jobs.{JobView}
use Rattle.lulink.specs.Views.{SenderView, ReceiverView, IsUnusedSender, IsUnusedReceiver}
use Rattle.lurun.specs.declared.opening.Ends.{Ends}
use Rattle.lurun.specs.Ends.{sent_below, taken_below, sent_links, taken_links, AreEndsOf}

-- the unused ends of a site's links below a number, in order, by these rings
pub record IsEnds (job : JobView) (rings : List TableId) (n s : ℕ) (ends : Ends) : Type 0 where
  pub sent : sent_links ends.txs.items ≡ sent_below job.plan s n
  pub taken : taken_links ends.rxs.items ≡ taken_below job.plan s n
  pub senders : (k : ℕ) (t : SenderView) → slice_get ends.txs.items k ≡ Some t → IsUnusedSender job t
  pub receivers : (k : ℕ) (t : ReceiverView) → slice_get ends.rxs.items k ≡ Some t → IsUnusedReceiver job t
  pub linked : AreEndsOf rings job.plan.capacity ends.txs.items ends.rxs.items

-- the ends of each site, and a ring for each link below a number
pub record AreAllEnds (job : JobView) (n : ℕ) (all : List Ends) : Type 0 where
  pub len : length all ≡ sites_of job.plan
  pub rings : List TableId
  pub links : length rings ≡ n
  pub each : (s : ℕ) (ends : Ends) → slice_get all s ≡ Some ends → IsEnds job rings n s ends

-- one end more at site s
pub record IsSenderAdded (all : List Ends) (s : ℕ) (b : Ends) (t : SenderView) (all' : List Ends) : Type 0 where
  pub ends : Ends
  pub is : all' ≡ slice_set all s ends
  pub txs : ends.txs.items ≡ b.txs.items ++ t ∷ []
  pub rxs : ends.rxs ≡ b.rxs

pub record IsReceiverAdded (all : List Ends) (s : ℕ) (b : Ends) (t : ReceiverView) (all' : List Ends) : Type 0 where
  pub ends : Ends
  pub is : all' ≡ slice_set all s ends
  pub txs : ends.txs ≡ b.txs
  pub rxs : ends.rxs.items ≡ b.rxs.items ++ t ∷ []
