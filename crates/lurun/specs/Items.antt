-- A site that goes item by item, and the ends of its links.
use Rattle.std.specs.Prelude.{◌≡◌, ◌+◌, ℕ, Bool, true, false, List, length, Option, Some, None, slice_get, slice_set}
use Rattle.luflow.specs.declared.message.Msg.{Msg}
use Rattle.luworld.specs.Systems.{puts_before, takes_before}
use Rattle.luworld.specs.Jobs.{system_of}
use Rattle.lulink.specs.Views.{SenderView, ReceiverView, HasPut, HasPutNothing, HasTaken, HasTakenNothing}
use Rattle.lulink.specs.Views.{IsNextToTake}
use Rattle.lusite.specs.Sites.{SiteView}
use Rattle.lurun.specs.Ends.{links_from, links_into, sent_links, taken_links, AreUnusedEnds}

-- how far the site is, and what its ends have put and taken
pub record ItemsView : Type 0 where
  pub at : SiteView
  pub txs : List SenderView
  pub rxs : List ReceiverView

-- an end is of the site's job, and has put, or taken, as many messages as the site has done puts, or takes,
-- of its link
pub record SendsAs (v : SiteView) (t : SenderView) : Type 0 where
  pub job : t.job ≡ v.job
  pub count : length t.put ≡ puts_before (system_of v.job) t.link v.site v.done

pub record TakesAs (v : SiteView) (t : ReceiverView) : Type 0 where
  pub job : t.job ≡ v.job
  pub count : length t.taken ≡ takes_before (system_of v.job) t.link v.site v.done

-- the ends of all links that the site sends, and of all that it takes, in order
pub record AreSenders (v : SiteView) (txs : List SenderView) : Type 0 where
  pub links : sent_links txs ≡ links_from v.job.plan v.site
  pub each : (k : ℕ) (t : SenderView) → slice_get txs k ≡ Some t → SendsAs v t

pub record AreReceivers (v : SiteView) (rxs : List ReceiverView) : Type 0 where
  pub links : taken_links rxs ≡ links_into v.job.plan v.site
  pub each : (k : ℕ) (t : ReceiverView) → slice_get rxs k ≡ Some t → TakesAs v t

pub record EndsAgree (v : SiteView) (txs : List SenderView) (rxs : List ReceiverView) : Type 0 where
  pub senders : AreSenders v txs
  pub receivers : AreReceivers v rxs

-- a new site, and the unused ends of all its links, in order
pub record IsNewSite (v : SiteView) (txs : List SenderView) (rxs : List ReceiverView) : Type 0 where
  pub new : v.done ≡ 0
  pub ends : AreUnusedEnds v.job v.site txs rxs

abbrev pub IsSameSite : SiteView → SiteView → Type 0
IsSameSite v w = (w.job ≡ v.job) × (w.site ≡ v.site)

-- a site has done one item more, or stands where it stood
abbrev pub Moves : Bool → SiteView → SiteView → Type 0
Moves true v w = w.done ≡ v.done + 1
Moves false v w = w.done ≡ v.done

-- what a put changes of the ends: one is another now, which has put the message, or nothing
abbrev pub PutAs : Bool → Msg → SenderView → SenderView → Type 0
PutAs true m t u = HasPut m t u
PutAs false m t u = HasPutNothing t u

abbrev pub IsPutAt : List SenderView → ℕ → Bool → Msg → List SenderView → Type 0
IsPutAt txs i done m txs' = (t : SenderView) → slice_get txs i ≡ Some t
    → (u : SenderView) × (txs' ≡ slice_set txs i u) × PutAs done m t u

-- what a take changes of the ends
abbrev pub TakenAs : Option Msg → ReceiverView → ReceiverView → Type 0
TakenAs (Some m) t u = HasTaken m t u × IsNextToTake t m
TakenAs None t u = HasTakenNothing t u

abbrev pub IsTakenAt : List ReceiverView → ℕ → Option Msg → List ReceiverView → Type 0
IsTakenAt rxs i found rxs' = (t : ReceiverView) → slice_get rxs i ≡ Some t
    → (u : ReceiverView) × (rxs' ≡ slice_set rxs i u) × TakenAs found t u
