-- What is taken is what the flow shows, and what it shows is what may be put.
use Rattle.std.proofs.Common.{◌≡◌, ℕ, zero, suc, ◌+◌, ◌<◌, true, List, [], ◌∷◌, length, Option, Some, None, refl, sym, subst, ap, ap₂, ◌∙◌, arith, add-one, length-append}
use Rattle.std.specs.Prelude.{slice_get}
use Rattle.std.proofs.lemmas.Option.{same_Some}
use Rattle.luflow.specs.declared.data.Datum.{Datum}
use Rattle.luflow.specs.declared.data.Datum.TheVariants.{Nil}
use Rattle.luflow.specs.declared.data.Status.{Status}
use Rattle.luflow.specs.declared.data.Status.TheVariants.{Absent, Present}
use Rattle.luflow.specs.declared.form.Outcome.{Outcome}
use Rattle.luflow.specs.declared.form.Outcome.TheVariants.{Gives, Faults, Stuck}
use Rattle.luflow.specs.declared.form.Flow.{Flow}
use Rattle.luflow.specs.declared.message.Msg.{Msg}
use Rattle.luflow.specs.declared.message.Body.TheVariants.{Value, Close}
use Rattle.luflow.specs.Program.{flow_at}
use Rattle.luflow.specs.Streams.{Mark, Known, Broken, Stream, before, newer, clock_at}
use Rattle.luflow.specs.Values.{mark_of, under, value_at}
use Rattle.luflow.specs.Messages.{marks, messages, once_if, presents}
use Rattle.luworld.specs.Jobs.{JobView, IsJobView, carried, link_list, messages_of, streams_of}
use Rattle.luworld.proofs.Messages.{message_at, no_message_at, close_at}
use Rattle.luworld.proofs.Outlines.{flow_of_carried}
use Rattle.lulink.specs.Lists.{list_of}
use Rattle.lulink.specs.Views.{SenderView, ReceiverView, HasPut, HasPutNothing, HasTaken, HasTakenNothing, IsNextToPut, IsNextToTake}
use Rattle.lulist.specs.Lists.{Brings, Sends, IsSound}
use Rattle.lulist.proofs.Moving.{equation}

-- THE LIST OF A LINK

pub list_is : (job : JobView) (l : ℕ) → l < length job.plan.links → link_list job (streams_of job) l ≡ messages 0 (marks (streams_of job (carried job.plan l)) job.inputs.instants)
unfolding link_list
list_is job l lt = ap (messages_of job (streams_of job)) (flow_of_carried job.plan l (carried job.plan l) lt refl)

newer_there : (m : Mark) (s : Status) (o : Option Datum) (d : Datum) → m ≡ Known s → o ≡ Some d → (e : Datum) × (newer m o ≡ Some e)
newer_there m Absent o d e h = (d, ap₂ newer e h)
newer_there m (Present x) o d e h = (x, ap₂ newer e h)

-- a flow that is broken nowhere before t has a last value there
pub sound_before : (job : JobView) (i t : ℕ) → IsSound job t i → (d : Datum) × (before (streams_of job i) t ≡ Some d)
sound_before job i zero h = (Nil, refl)
sound_before job i (suc t) h =
    let b = sound_before job i t (λ u l. h u (omega (arith, l))) in
    let s = h t (omega arith) in
    newer_there (streams_of job i t) s.0 (before (streams_of job i) t) b.0 s.1 b.1

-- how often it is present before t + 1
pub presents_next : (s : Stream) (t : ℕ) (m : Mark) → s t ≡ m → presents s (t + 1) ≡ presents s t + once_if m
presents_next s t m e = ap (presents s) (add-one t) ∙ ap (λ (x : Mark). presents s t + once_if x) e

pub no_absent : (v : Outcome) → mark_of v ≡ Known Absent → ⊥
no_absent (Gives d) e = cc
no_absent (Faults kind) e = cc
no_absent Stuck e = cc

same_value : (x d : Datum) → Value x ≡ Value d → x ≡ d
same_value x d e = cc

-- WHAT IS TAKEN

module _ (job : JobView) (run : IsJobView job) (places : List ℕ) (k t : ℕ) (early : t < job.inputs.instants) (r : ReceiverView) (b : Brings job places k t r) (i : ℕ) (place : slice_get places k ≡ Some i) (sound : IsSound job t i) (flow : Flow) (there : flow_at job.plan.flat i ≡ Some flow) (on : clock_at job.inputs (streams_of job) flow.clock t ≡ Some true) (m : Msg) (d : Datum) (body : m.body ≡ Value d) (next : IsNextToTake r m) where
  abbrev s : Stream
  s = streams_of job i

  same : carried job.plan r.link ≡ i
  same = same_Some (carried job.plan r.link) i (sym b.flow_is ∙ place)

  found : slice_get (messages 0 (marks s job.inputs.instants)) (presents s t) ≡ Some m
  found =
      let here : slice_get (list_of job r.link) (length r.taken) ≡ Some m = subst (λ (j : JobView). slice_get (list_of j r.link) (length r.taken) ≡ Some m) b.job_is next in
      let count : length r.taken ≡ presents s t = b.count ∙ ap (λ (j : ℕ). presents (streams_of job j) t) same in
      let list : list_of job r.link ≡ messages 0 (marks s job.inputs.instants) = list_is job r.link b.listed ∙ ap (λ (j : ℕ). messages 0 (marks (streams_of job j) job.inputs.instants)) same in
      sym (ap₂ slice_get list count) ∙ here

  mark_on : s t ≡ mark_of (value_at job.inputs (streams_of job) flow.clock flow.form t)
  mark_on = equation job run i t flow there ∙ ap (λ c. under c (value_at job.inputs (streams_of job) flow.clock flow.form t)) on

  by_mark : (x : Mark) → s t ≡ x → s t ≡ Known (Present d)
  by_mark Broken e =
      let last = sound_before job i t sound in
      let none = no_message_at s job.inputs.instants t last.0 early last.1 e in
      absurd (let f : None ≡ Some m = sym none ∙ found in cc)
  by_mark (Known Absent) e = absurd (no_absent (value_at job.inputs (streams_of job) flow.clock flow.form t) (sym mark_on ∙ e))
  by_mark (Known (Present y)) e =
      let last = sound_before job i t sound in
      let here = message_at s job.inputs.instants t last.0 y early last.1 e in
      let one : record { no = presents s t; body = Value y } ≡ m = same_Some (record { no = presents s t; body = Value y }) m (sym here ∙ found) in
      let value : y ≡ d = same_value y d (ap (λ (z : Msg). z.body) one ∙ body) in
      e ∙ ap (λ (z : Datum). Known (Present z)) value

  -- the message that was taken is what the flow shows
  pub taken_is : s t ≡ Known (Present d)
  taken_is = by_mark (s t) refl

  -- and the end has all of this instant
  pub brings_more : (q : ReceiverView) → HasTaken m r q → Brings job places k (t + 1) q
  brings_more q has = record {
    job_is = has.0 ∙ b.job_is;
    listed = subst (λ (l : ℕ). l < length job.plan.links) (sym has.1) b.listed;
    flow_is = b.flow_is ∙ ap (λ (l : ℕ). Some (carried job.plan l)) (sym has.1);
    count =
        let long : length q.taken ≡ length r.taken + 1 = ap length has.2 ∙ length-append r.taken (m ∷ []) in
        let more : presents s (t + 1) ≡ presents s t + 1 = presents_next s t (Known (Present d)) taken_is in
        let count : length r.taken ≡ presents s t = b.count ∙ ap (λ (j : ℕ). presents (streams_of job j) t) same in
        let all : length q.taken ≡ presents s (t + 1) = omega (arith, long, more, count) in
        all ∙ ap (λ (j : ℕ). presents (streams_of job j) (t + 1)) (sym same ∙ ap (carried job.plan) (sym has.1));
  }

-- an absent flow has brought nothing
pub brings_absent : (job : JobView) (places : List ℕ) (k i t : ℕ) (r : ReceiverView) → slice_get places k ≡ Some i → streams_of job i t ≡ Known Absent → Brings job places k t r → Brings job places k (t + 1) r
brings_absent job places k i t r place absent b =
    let same : carried job.plan r.link ≡ i = same_Some (carried job.plan r.link) i (sym b.flow_is ∙ place) in
    let more : presents (streams_of job i) (t + 1) ≡ presents (streams_of job i) t + 0 = presents_next (streams_of job i) t (Known Absent) absent in
    let count : length r.taken ≡ presents (streams_of job i) t = b.count ∙ ap (λ (j : ℕ). presents (streams_of job j) t) same in
    let all : length r.taken ≡ presents (streams_of job i) (t + 1) = omega (arith, more, count) in
    record { job_is = b.job_is; listed = b.listed; flow_is = b.flow_is; count = all ∙ ap (λ (j : ℕ). presents (streams_of job j) (t + 1)) (sym same) }

-- nothing was taken
pub brings_still : (job : JobView) (places : List ℕ) (k t : ℕ) (r q : ReceiverView) → HasTakenNothing r q → Brings job places k t r → Brings job places k t q
brings_still job places k t r q has b = record {
  job_is = has.0 ∙ b.job_is;
  listed = subst (λ (l : ℕ). l < length job.plan.links) (sym has.1) b.listed;
  flow_is = b.flow_is ∙ ap (λ (l : ℕ). Some (carried job.plan l)) (sym has.1);
  count = ap length has.2 ∙ b.count ∙ ap (λ (l : ℕ). presents (streams_of job (carried job.plan l)) t) (sym has.1);
}

-- WHAT IS PUT

-- the next message of an end is the value that its flow shows
pub may_put : (job : JobView) (places : List ℕ) (k t number : ℕ) (r : SenderView) → t < job.inputs.instants → Sends job places k t number r → (i : ℕ) → slice_get places k ≡ Some i → IsSound job t i → (d : Datum) → streams_of job i t ≡ Known (Present d) → IsNextToPut r (record { no = number; body = Value d })
may_put job places k t number r early b i place sound d mark =
    let same : carried job.plan r.link ≡ i = same_Some (carried job.plan r.link) i (sym b.flow_is ∙ place) in
    let last = sound_before job i t sound in
    let here = message_at (streams_of job i) job.inputs.instants t last.0 d early last.1 mark in
    let count : length r.put ≡ presents (streams_of job i) t = b.count ∙ ap (λ (j : ℕ). presents (streams_of job j) t) same in
    let list : list_of job r.link ≡ messages 0 (marks (streams_of job i) job.inputs.instants) = list_is job r.link b.listed ∙ ap (λ (j : ℕ). messages 0 (marks (streams_of job j) job.inputs.instants)) same in
    subst (λ (j : JobView). slice_get (list_of j r.link) (length r.put) ≡ Some (record { no = number; body = Value d })) (sym b.job_is)
    (ap₂ slice_get list count ∙ here ∙ ap (λ (n : ℕ). Some (record { no = n; body = Value d })) (sym count ∙ sym b.numbered))

-- behind the last instant it is the close
pub may_close : (job : JobView) (places : List ℕ) (k t number : ℕ) (r : SenderView) → t ≡ job.inputs.instants → Sends job places k t number r → (i : ℕ) → slice_get places k ≡ Some i → IsSound job t i → IsNextToPut r (record { no = number; body = Close })
may_close job places k t number r late b i place sound =
    let same : carried job.plan r.link ≡ i = same_Some (carried job.plan r.link) i (sym b.flow_is ∙ place) in
    let last = sound_before job i t sound in
    let n = job.inputs.instants in
    let here = close_at (streams_of job i) n last.0 (ap (before (streams_of job i)) (sym late) ∙ last.1) in
    let count : length r.put ≡ presents (streams_of job i) n = b.count ∙ ap (λ (j : ℕ). presents (streams_of job j) t) same ∙ ap (presents (streams_of job i)) late in
    let list : list_of job r.link ≡ messages 0 (marks (streams_of job i) n) = list_is job r.link b.listed ∙ ap (λ (j : ℕ). messages 0 (marks (streams_of job j) n)) same in
    subst (λ (j : JobView). slice_get (list_of j r.link) (length r.put) ≡ Some (record { no = number; body = Close })) (sym b.job_is)
    (ap₂ slice_get list count ∙ here ∙ ap (λ (m : ℕ). Some (record { no = m; body = Close })) (sym count ∙ sym b.numbered))

-- one value more was put
pub sends_more : (job : JobView) (places : List ℕ) (k t number number' : ℕ) (r q : SenderView) → Sends job places k t number r → (i : ℕ) → slice_get places k ≡ Some i → (m : Msg) (d : Datum) → streams_of job i t ≡ Known (Present d) → number' ≡ number + 1 → HasPut m r q → Sends job places k (t + 1) number' q
sends_more job places k t number number' r q b i place m d mark up has =
    let same : carried job.plan r.link ≡ i = same_Some (carried job.plan r.link) i (sym b.flow_is ∙ place) in
    let long : length q.put ≡ length r.put + 1 = ap length has.2 ∙ length-append r.put (m ∷ []) in
    let more : presents (streams_of job i) (t + 1) ≡ presents (streams_of job i) t + 1 = presents_next (streams_of job i) t (Known (Present d)) mark in
    let count : length r.put ≡ presents (streams_of job i) t = b.count ∙ ap (λ (j : ℕ). presents (streams_of job j) t) same in
    let numbered = b.numbered in
    record {
      job_is = has.0 ∙ b.job_is;
      listed = subst (λ (l : ℕ). l < length job.plan.links) (sym has.1) b.listed;
      flow_is = b.flow_is ∙ ap (λ (l : ℕ). Some (carried job.plan l)) (sym has.1);
      count = let all : length q.put ≡ presents (streams_of job i) (t + 1) = omega (arith, long, more, count) in all ∙ ap (λ (j : ℕ). presents (streams_of job j) (t + 1)) (sym same ∙ ap (carried job.plan) (sym has.1));
      numbered = omega (arith, up, numbered, long);
    }

-- an absent flow has nothing to put
pub sends_absent : (job : JobView) (places : List ℕ) (k t number : ℕ) (r : SenderView) → Sends job places k t number r → (i : ℕ) → slice_get places k ≡ Some i → streams_of job i t ≡ Known Absent → Sends job places k (t + 1) number r
sends_absent job places k t number r b i place mark =
    let same : carried job.plan r.link ≡ i = same_Some (carried job.plan r.link) i (sym b.flow_is ∙ place) in
    let more : presents (streams_of job i) (t + 1) ≡ presents (streams_of job i) t + 0 = presents_next (streams_of job i) t (Known Absent) mark in
    let count : length r.put ≡ presents (streams_of job i) t = b.count ∙ ap (λ (j : ℕ). presents (streams_of job j) t) same in
    let all : length r.put ≡ presents (streams_of job i) (t + 1) = omega (arith, more, count) in
    record {
      job_is = b.job_is;
      listed = b.listed;
      flow_is = b.flow_is;
      count = all ∙ ap (λ (j : ℕ). presents (streams_of job j) (t + 1)) (sym same);
      numbered = b.numbered;
    }

-- nothing was put
pub sends_still : (job : JobView) (places : List ℕ) (k t number : ℕ) (r q : SenderView) → HasPutNothing r q → Sends job places k t number r → Sends job places k t number q
sends_still job places k t number r q has b = record {
  job_is = has.0 ∙ b.job_is;
  listed = subst (λ (l : ℕ). l < length job.plan.links) (sym has.1) b.listed;
  flow_is = b.flow_is ∙ ap (λ (l : ℕ). Some (carried job.plan l)) (sym has.1);
  count = ap length has.2 ∙ b.count ∙ ap (λ (l : ℕ). presents (streams_of job (carried job.plan l)) t) (sym has.1);
  numbered = b.numbered ∙ sym (ap length has.2);
}
