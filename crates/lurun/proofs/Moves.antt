-- What a put, a take and a computation change of a site and its ends.
use Rattle.std.proofs.Common.{◌≡◌, ◌≢◌, ℕ, ◌+◌, false, nat_eq, List, [], ◌∷◌, ◌++◌, length, length-append, Some, sym, ap, ◌∙◌, subst}
use Rattle.std.specs.Prelude.{slice_get, slice_set}
use Rattle.std.proofs.lemmas.Bool.{eq-eqb, ne_eqb}
use Rattle.luflow.specs.declared.message.Msg.{Msg}
use Rattle.luworld.specs.Systems.{Item, Puts, Takes, puts, takes, puts_before, takes_before}
use Rattle.luworld.specs.Needs.{PlanView}
use Rattle.luworld.specs.Jobs.{JobView, streams_of, system_of, script, link_list}
use Rattle.lulink.specs.Views.{SenderView, ReceiverView, IsNextToPut, IsNextToTake, HasPut, HasPutNothing, HasTaken, HasTakenNothing}
use Rattle.lusite.specs.declared.next.Next.TheVariants.{Put, Take}
use Rattle.lusite.specs.Sites.{SiteView}
use Rattle.lusite.specs.Machine.{IsNext, IsTakeNext}
use Rattle.lurun.specs.Ends.{sender_at, receiver_at, links_from, links_into}
use Rattle.lurun.specs.Items.{SendsAs, TakesAs, AreSenders, AreReceivers, EndsAgree, IsNewSite, IsSameSite}
use Rattle.lurun.proofs.Acts.{all_kept, one_moved, one_kept, links_kept, one_end}

abbrev sent_len : SenderView → ℕ
sent_len t = length t.put

abbrev taken_len : ReceiverView → ℕ
taken_len t = length t.taken

one_more : {X : Type 0} (xs ys : List X) (x : X) → ys ≡ xs ++ x ∷ [] → length ys ≡ length xs + 1
one_more xs ys x e = ap length e ∙ length-append xs (x ∷ [])

-- where the site goes on, its links are the same
links_on : (f : PlanView → ℕ → List ℕ) (v w : SiteView) → IsSameSite v w → f v.job.plan v.site ≡ f w.job.plan w.site
links_on f v w same = ap (λ (j : JobView). f j.plan v.site) (sym same.0) ∙ ap (f w.job.plan) (sym same.1)

module _ (v w : SiteView) (same : IsSameSite v w) (more : w.done ≡ v.done + 1) where
  abbrev Next : Item → Type 0
  Next item = slice_get (script v.job (streams_of v.job) v.site) v.done ≡ Some item

  -- an item that is no put, or no take
  pub senders_kept : (txs : List SenderView) (item : Item) → Next item → ((l : ℕ) → puts l item ≡ false) → AreSenders v txs → AreSenders w txs
  senders_kept txs item at none is =
      let each = all_kept (λ (t : SenderView). t.job) (λ (t : SenderView). t.link) sent_len puts v w txs item same more at none (λ k t e. let x = is.each k t e in (x.job, x.count)) in
      record { links = is.links ∙ links_on links_from v w same; each = λ k t e. let x = each k t e in record { job = x.0; count = x.1 } }

  pub receivers_kept : (rxs : List ReceiverView) (item : Item) → Next item → ((l : ℕ) → takes l item ≡ false) → AreReceivers v rxs → AreReceivers w rxs
  receivers_kept rxs item at none is =
      let each = all_kept (λ (t : ReceiverView). t.job) (λ (t : ReceiverView). t.link) taken_len takes v w rxs item same more at none (λ k t e. let x = is.each k t e in (x.job, x.count)) in
      record { links = is.links ∙ links_on links_into v w same; each = λ k t e. let x = each k t e in record { job = x.0; count = x.1 } }

  pub put_moves : (txs txs' : List SenderView) (l i : ℕ) (m : Msg) (t u : SenderView) → Next (Puts l) → slice_get txs i ≡ Some t → t.link ≡ l → HasPut m t u → txs' ≡ slice_set txs i u → AreSenders v txs → AreSenders w txs'
  put_moves txs txs' l i m t u at here of put e is =
      let links = λ (x : SenderView). x.link in
      let rest = λ (k : ℕ) (x : SenderView) (ek : slice_get txs k ≡ Some x) (other : k ≢ i). ne_eqb l x.link (λ same_link. other (one_end (λ (y : SenderView). y.job) links sent_len puts (λ n. nat_eq (sender_at v.job.plan n) v.site) (length v.job.plan.links) txs is.links k i x t ek here (sym same_link ∙ sym of))) in
      let each = one_moved (λ (x : SenderView). x.job) links sent_len puts v w txs (Puts l) i t u same more at here put.0 put.1 (one_more t.put u.put m put.2) (eq-eqb l t.link (sym of)) rest (λ k x ek. let y = is.each k x ek in (y.job, y.count)) in
      subst (AreSenders w) (sym e) (record {
        links = links_kept (λ (x : SenderView). x.job) links sent_len puts txs i t u here put.1 ∙ is.links ∙ links_on links_from v w same;
        each = λ k x ek. let y = each k x ek in record { job = y.0; count = y.1 };
      })

  pub take_moves : (rxs rxs' : List ReceiverView) (l i : ℕ) (m : Msg) (t u : ReceiverView) → Next (Takes l) → slice_get rxs i ≡ Some t → t.link ≡ l → HasTaken m t u → rxs' ≡ slice_set rxs i u → AreReceivers v rxs → AreReceivers w rxs'
  take_moves rxs rxs' l i m t u at here of took e is =
      let links = λ (x : ReceiverView). x.link in
      let rest = λ (k : ℕ) (x : ReceiverView) (ek : slice_get rxs k ≡ Some x) (other : k ≢ i). ne_eqb l x.link (λ same_link. other (one_end (λ (y : ReceiverView). y.job) links taken_len takes (λ n. nat_eq (receiver_at v.job.plan n) v.site) (length v.job.plan.links) rxs is.links k i x t ek here (sym same_link ∙ sym of))) in
      let each = one_moved (λ (x : ReceiverView). x.job) links taken_len takes v w rxs (Takes l) i t u same more at here took.0 took.1 (one_more t.taken u.taken m took.2) (eq-eqb l t.link (sym of)) rest (λ k x ek. let y = is.each k x ek in (y.job, y.count)) in
      subst (AreReceivers w) (sym e) (record {
        links = links_kept (λ (x : ReceiverView). x.job) links taken_len takes rxs i t u here took.1 ∙ is.links ∙ links_on links_into v w same;
        each = λ k x ek. let y = each k x ek in record { job = y.0; count = y.1 };
      })

-- an end that was tried in vain
pub put_none_moves : (v : SiteView) (txs txs' : List SenderView) (i : ℕ) (t u : SenderView) → slice_get txs i ≡ Some t → HasPutNothing t u → txs' ≡ slice_set txs i u → AreSenders v txs → AreSenders v txs'
put_none_moves v txs txs' i t u here none e is =
    let each = one_kept (λ (x : SenderView). x.job) (λ (x : SenderView). x.link) sent_len puts v txs i t u here none.0 none.1 (ap length none.2) (λ k x ek. let y = is.each k x ek in (y.job, y.count)) in
    subst (AreSenders v) (sym e) (record {
      links = links_kept (λ (x : SenderView). x.job) (λ (x : SenderView). x.link) sent_len puts txs i t u here none.1 ∙ is.links;
      each = λ k x ek. let y = each k x ek in record { job = y.0; count = y.1 };
    })

pub take_none_moves : (v : SiteView) (rxs rxs' : List ReceiverView) (i : ℕ) (t u : ReceiverView) → slice_get rxs i ≡ Some t → HasTakenNothing t u → rxs' ≡ slice_set rxs i u → AreReceivers v rxs → AreReceivers v rxs'
take_none_moves v rxs rxs' i t u here none e is =
    let each = one_kept (λ (x : ReceiverView). x.job) (λ (x : ReceiverView). x.link) taken_len takes v rxs i t u here none.0 none.1 (ap length none.2) (λ k x ek. let y = is.each k x ek in (y.job, y.count)) in
    subst (AreReceivers v) (sym e) (record {
      links = links_kept (λ (x : ReceiverView). x.job) (λ (x : ReceiverView). x.link) taken_len takes rxs i t u here none.1 ∙ is.links;
      each = λ k x ek. let y = each k x ek in record { job = y.0; count = y.1 };
    })

-- the message at hand is the next of its end's list
pub next_to_put : (v : SiteView) (l : ℕ) (m : Msg) (t : SenderView) → IsNext v.job v.site v.done (Put l m) → SendsAs v t → t.link ≡ l → IsNextToPut t m
next_to_put v l m t next is of =
    ap (λ (j : JobView). slice_get (link_list j (streams_of j) t.link) (length t.put)) is.job
    ∙ ap (slice_get (link_list v.job (streams_of v.job) t.link)) is.count
    ∙ ap (λ (k : ℕ). slice_get (link_list v.job (streams_of v.job) k) (puts_before (system_of v.job) k v.site v.done)) of
    ∙ next.1

pub next_to_take : (v : SiteView) (l : ℕ) (m : Msg) (t : ReceiverView) → IsNext v.job v.site v.done (Take l) → TakesAs v t → t.link ≡ l → IsNextToTake t m → IsTakeNext v.job v.site v.done m
next_to_take v l m t next is of found = (
  l,
  next.0,
  sym (ap (λ (j : JobView). slice_get (link_list j (streams_of j) t.link) (length t.taken)) is.job
      ∙ ap (slice_get (link_list v.job (streams_of v.job) t.link)) is.count
      ∙ ap (λ (k : ℕ). slice_get (link_list v.job (streams_of v.job) k) (takes_before (system_of v.job) k v.site v.done)) of)
      ∙ found,
)

-- the ends of a new station fit its site
pub new_fits : (v : SiteView) (txs : List SenderView) (rxs : List ReceiverView) → IsNewSite v txs rxs → EndsAgree v txs rxs
new_fits v txs rxs is = record {
  senders = record {
    links = is.ends.sent;
    each = λ k t e. let x = is.ends.senders k t e in record { job = x.job_is; count = ap length x.unused ∙ sym (ap (puts_before (system_of v.job) t.link v.site) is.new) };
  };
  receivers = record {
    links = is.ends.taken;
    each = λ k t e. let x = is.ends.receivers k t e in record { job = x.job_is; count = ap length x.unused ∙ sym (ap (takes_before (system_of v.job) t.link v.site) is.new) };
  };
}
