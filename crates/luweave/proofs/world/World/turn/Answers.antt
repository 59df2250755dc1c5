use Rattle.std.proofs.Common.{◌≡◌, ℕ, List, refl, sym, ap, ◌∙◌, subst, arith}
use Rattle.std.proofs.lemmas.Option.{same_Some}
use Rattle.luworld.specs.declared.turn.Turn.{Turn}
use Rattle.luworld.specs.declared.turn.Turn.TheVariants.{Moved, Blocked, Over}
use Rattle.luworld.specs.Systems.{Compute, Puts, Takes, turn, step, world_after}
use Rattle.luworld.specs.Jobs.{JobView}
use Rattle.lusite.specs.declared.next.Next.TheVariants.{Local, Take, Put, Ended, Faulted}
use Rattle.lusite.specs.Sites.{SiteView}
use Rattle.lusite.specs.Machine.{IsTakeNext}
use Rattle.luworld.specs.Jobs.{system_of}
use Rattle.luweave.specs.Worlds.{IsWorld, dones_of}
use Rattle.luworld.specs.WorldViews.{WorldView}
use Rattle.luweave.proofs.Worlds.{offer, along, turn_over, moved_is, step_is, world_work, put_blocked, take_blocked, may_put, may_take, put_room, world_put, take_some, no_site, link_queue_order}
use Rattle.luweave.proofs.world.World.turn.Goals as goal

abbrev TurnIs : Turn → ℕ → WorldView → Type 0
TurnIs t s x = t ≡ turn (system_of x.job) x.dones s

abbrev StepIs : List ℕ → ℕ → WorldView → Type 0
StepIs ds s x = ds ≡ step (system_of x.job) x.dones s

stay : (t : Turn) (job : JobView) (dones : List ℕ) (s : ℕ) → turn (system_of job) dones s ≡ t → world_after t dones s ≡ dones → dones ≡ step (system_of job) dones s
stay t job dones s e h = sym (ap (λ (u : Turn). world_after u dones s) e ∙ h)

pub returns-then-s-len-clause-turn : goal.returns-then-s-len-clause-turn
returns-then-s-len-clause-turn c =
    let a = c.self.inside in
    let j = a.first.value.job in
    let e = no_site j a.sites.items a.link_queues.items a.capacity c.self.invariant c.args.site (omega (arith, c.len.ensures)) in
    along (TurnIs Over c.args.site) c.args.self.now (record { job = j; dones = dones_of a.sites.items }) c.self.view_is (sym e)

pub returns-then-s-len-clause-dones : goal.returns-then-s-len-clause-dones
returns-then-s-len-clause-dones c =
    let a = c.self.inside in
    let j = a.first.value.job in
    let e = no_site j a.sites.items a.link_queues.items a.capacity c.self.invariant c.args.site (omega (arith, c.len.ensures)) in
    along (λ x. x.dones ≡ step (system_of x.job) x.dones c.args.site) c.args.self.now (record { job = j; dones = dones_of a.sites.items }) c.self.view_is (stay Over j (dones_of a.sites.items) c.args.site e refl)

pub invariant_of-self : goal.invariant_of-self
invariant_of-self c =
    let a = c.self.inside in
    let j = a.first.value.job in
    let o = offer j a.sites.items a.link_queues.items a.capacity c.args.site c.next_of.result (Local) c.self.invariant (omega (arith, c.len.ensures)) c.next_of.ensures c.in-Local.is in
    subst (λ (xs : List SiteView). IsWorld j xs a.link_queues.items a.capacity) (sym (c.work_at.ensures o.site o.there)) (world_work j a.sites.items a.link_queues.items a.capacity c.args.site o.site c.self.invariant o.there o.next.0 o.next.1 o.next.2)

pub returns-in-Local-clause-turn : goal.returns-in-Local-clause-turn
returns-in-Local-clause-turn c =
    let a = c.self.inside in
    let j = a.first.value.job in
    let o = offer j a.sites.items a.link_queues.items a.capacity c.args.site c.next_of.result (Local) c.self.invariant (omega (arith, c.len.ensures)) c.next_of.ensures c.in-Local.is in
    along (TurnIs Moved c.args.site) c.args.self.now (record { job = j; dones = dones_of a.sites.items }) c.self.view_is (sym (moved_is j a.sites.items a.link_queues.items a.capacity c.args.site o.site c.self.invariant o.there (Compute o.next.0 o.next.1) o.next.2 tt))

pub returns-in-Local-clause-dones : goal.returns-in-Local-clause-dones
returns-in-Local-clause-dones c =
    let a = c.self.inside in
    let j = a.first.value.job in
    let o = offer j a.sites.items a.link_queues.items a.capacity c.args.site c.next_of.result (Local) c.self.invariant (omega (arith, c.len.ensures)) c.next_of.ensures c.in-Local.is in
    along (StepIs (dones_of c.work_at.new.sites.items) c.args.site) c.args.self.now (record { job = j; dones = dones_of a.sites.items }) c.self.view_is (ap dones_of (c.work_at.ensures o.site o.there) ∙ step_is j a.sites.items a.link_queues.items a.capacity c.args.site o.site c.self.invariant o.there (Compute o.next.0 o.next.1) o.next.2 tt)

pub has_room-requires : goal.has_room-requires
has_room-requires c =
    let a = c.self.inside in
    record { lens = link_queue_order a.first.value.job a.sites.items a.link_queues.items a.capacity c.self.invariant c.in-Put.l }

pub returns-then-not-has_room-clause-turn : goal.returns-then-not-has_room-clause-turn
returns-then-not-has_room-clause-turn c =
    let a = c.self.inside in
    let j = a.first.value.job in
    let o = offer j a.sites.items a.link_queues.items a.capacity c.args.site c.next_of.result (Put c.in-Put.l c.in-Put.msg) c.self.invariant (omega (arith, c.len.ensures)) c.next_of.ensures c.in-Put.is in
    let shut = sym c.has_room.ensures ∙ c.if-not-has_room.true in
    along (TurnIs Blocked c.args.site) c.args.self.now (record { job = j; dones = dones_of a.sites.items }) c.self.view_is (sym (put_blocked j a.sites.items a.link_queues.items a.capacity c.args.site o.site c.self.invariant o.there c.in-Put.l c.in-Put.msg o.next shut))

pub returns-then-not-has_room-clause-dones : goal.returns-then-not-has_room-clause-dones
returns-then-not-has_room-clause-dones c =
    let a = c.self.inside in
    let j = a.first.value.job in
    let o = offer j a.sites.items a.link_queues.items a.capacity c.args.site c.next_of.result (Put c.in-Put.l c.in-Put.msg) c.self.invariant (omega (arith, c.len.ensures)) c.next_of.ensures c.in-Put.is in
    let shut = sym c.has_room.ensures ∙ c.if-not-has_room.true in
    along (λ x. x.dones ≡ step (system_of x.job) x.dones c.args.site) c.args.self.now (record { job = j; dones = dones_of a.sites.items }) c.self.view_is (stay Blocked j (dones_of a.sites.items) c.args.site (put_blocked j a.sites.items a.link_queues.items a.capacity c.args.site o.site c.self.invariant o.there c.in-Put.l c.in-Put.msg o.next shut) refl)

pub put_at-requires-clause-within : goal.put_at-requires-clause-within
put_at-requires-clause-within c =
    let a = c.self.inside in
    let j = a.first.value.job in
    let o = offer j a.sites.items a.link_queues.items a.capacity c.args.site c.next_of.result (Put c.in-Put.l c.in-Put.msg) c.self.invariant (omega (arith, c.len.ensures)) c.next_of.ensures c.in-Put.is in
    (put_room j a.sites.items a.link_queues.items a.capacity c.args.site o.site c.self.invariant o.there c.in-Put.l c.in-Put.msg o.next).0

pub put_at-requires-clause-room : goal.put_at-requires-clause-room
put_at-requires-clause-room c =
    let a = c.self.inside in
    let j = a.first.value.job in
    let o = offer j a.sites.items a.link_queues.items a.capacity c.args.site c.next_of.result (Put c.in-Put.l c.in-Put.msg) c.self.invariant (omega (arith, c.len.ensures)) c.next_of.ensures c.in-Put.is in
    (put_room j a.sites.items a.link_queues.items a.capacity c.args.site o.site c.self.invariant o.there c.in-Put.l c.in-Put.msg o.next).1

pub invariant_of-self-in-Put : goal.invariant_of-self-in-Put
invariant_of-self-in-Put c =
    let a = c.self.inside in
    let j = a.first.value.job in
    let o = offer j a.sites.items a.link_queues.items a.capacity c.args.site c.next_of.result (Put c.in-Put.l c.in-Put.msg) c.self.invariant (omega (arith, c.len.ensures)) c.next_of.ensures c.in-Put.is in
    let may = sym c.has_room.ensures ∙ c.if-not-has_room.false in
    subst (λ (xs : List SiteView). IsWorld j xs c.put_at.new.link_queues.items a.capacity) (sym (c.sent_at.ensures o.site o.there)) (world_put j a.sites.items a.link_queues.items a.capacity c.args.site o.site c.self.invariant o.there c.in-Put.l c.in-Put.msg c.put_at.new.link_queues.items o.next may c.put_at.ensures)

pub returns-else-not-has_room-clause-turn : goal.returns-else-not-has_room-clause-turn
returns-else-not-has_room-clause-turn c =
    let a = c.self.inside in
    let j = a.first.value.job in
    let o = offer j a.sites.items a.link_queues.items a.capacity c.args.site c.next_of.result (Put c.in-Put.l c.in-Put.msg) c.self.invariant (omega (arith, c.len.ensures)) c.next_of.ensures c.in-Put.is in
    let may = sym c.has_room.ensures ∙ c.if-not-has_room.false in
    along (TurnIs Moved c.args.site) c.args.self.now (record { job = j; dones = dones_of a.sites.items }) c.self.view_is (sym (moved_is j a.sites.items a.link_queues.items a.capacity c.args.site o.site c.self.invariant o.there (Puts c.in-Put.l) o.next.0 (may_put j a.sites.items a.link_queues.items a.capacity c.args.site o.site c.self.invariant o.there c.in-Put.l c.in-Put.msg o.next may)))

pub returns-else-not-has_room-clause-dones : goal.returns-else-not-has_room-clause-dones
returns-else-not-has_room-clause-dones c =
    let a = c.self.inside in
    let j = a.first.value.job in
    let o = offer j a.sites.items a.link_queues.items a.capacity c.args.site c.next_of.result (Put c.in-Put.l c.in-Put.msg) c.self.invariant (omega (arith, c.len.ensures)) c.next_of.ensures c.in-Put.is in
    let may = sym c.has_room.ensures ∙ c.if-not-has_room.false in
    along (StepIs (dones_of c.sent_at.new.sites.items) c.args.site) c.args.self.now (record { job = j; dones = dones_of a.sites.items }) c.self.view_is (ap dones_of (c.sent_at.ensures o.site o.there) ∙ step_is j a.sites.items a.link_queues.items a.capacity c.args.site o.site c.self.invariant o.there (Puts c.in-Put.l) o.next.0 (may_put j a.sites.items a.link_queues.items a.capacity c.args.site o.site c.self.invariant o.there c.in-Put.l c.in-Put.msg o.next may))

pub returns-then-not-has_some-clause-turn : goal.returns-then-not-has_some-clause-turn
returns-then-not-has_some-clause-turn c =
    let a = c.self.inside in
    let j = a.first.value.job in
    let o = offer j a.sites.items a.link_queues.items a.capacity c.args.site c.next_of.result (Take c.in-Take.l) c.self.invariant (omega (arith, c.len.ensures)) c.next_of.ensures c.in-Take.is in
    let shut = sym c.has_some.ensures ∙ c.if-not-has_some.true in
    along (TurnIs Blocked c.args.site) c.args.self.now (record { job = j; dones = dones_of a.sites.items }) c.self.view_is (sym (take_blocked j a.sites.items a.link_queues.items a.capacity c.args.site o.site c.self.invariant o.there c.in-Take.l o.next shut))

pub returns-then-not-has_some-clause-dones : goal.returns-then-not-has_some-clause-dones
returns-then-not-has_some-clause-dones c =
    let a = c.self.inside in
    let j = a.first.value.job in
    let o = offer j a.sites.items a.link_queues.items a.capacity c.args.site c.next_of.result (Take c.in-Take.l) c.self.invariant (omega (arith, c.len.ensures)) c.next_of.ensures c.in-Take.is in
    let shut = sym c.has_some.ensures ∙ c.if-not-has_some.true in
    along (λ x. x.dones ≡ step (system_of x.job) x.dones c.args.site) c.args.self.now (record { job = j; dones = dones_of a.sites.items }) c.self.view_is (stay Blocked j (dones_of a.sites.items) c.args.site (take_blocked j a.sites.items a.link_queues.items a.capacity c.args.site o.site c.self.invariant o.there c.in-Take.l o.next shut) refl)

pub take_at-msg-requires-clause-within : goal.take_at-msg-requires-clause-within
take_at-msg-requires-clause-within c =
    let a = c.self.inside in
    let j = a.first.value.job in
    let o = offer j a.sites.items a.link_queues.items a.capacity c.args.site c.next_of.result (Take c.in-Take.l) c.self.invariant (omega (arith, c.len.ensures)) c.next_of.ensures c.in-Take.is in
    (let lt = o.next.1 in omega (arith, lt, c.self.invariant.link_queues_len))

pub given_at-requires-clause-next : goal.given_at-requires-clause-next
given_at-requires-clause-next c v at =
    let a = c.self.inside in
    let j = a.first.value.job in
    let o = offer j a.sites.items a.link_queues.items a.capacity c.args.site c.next_of.result (Take c.in-Take.l) c.self.invariant (omega (arith, c.len.ensures)) c.next_of.ensures c.in-Take.is in
    let may = sym c.has_some.ensures ∙ c.if-not-has_some.false in
    let t = (take_some j a.sites.items a.link_queues.items a.capacity c.args.site o.site c.self.invariant o.there c.in-Take.l o.next may c.take_at-msg.result c.take_at-msg.new.link_queues.items c.take_at-msg.ensures).0 in
    let e = c.self.invariant.sites_are c.args.site o.site o.there in
    let t' = subst (λ (n : ℕ). IsTakeNext o.site.job n o.site.done c.take_at-msg.result) (sym e.1) (subst (λ (k : JobView). IsTakeNext k c.args.site o.site.done c.take_at-msg.result) (sym e.0) t) in
    subst (λ (w : SiteView). IsTakeNext w.job w.site w.done c.take_at-msg.result) (same_Some o.site v (sym o.there ∙ at)) t'

pub invariant_of-self-in-Take : goal.invariant_of-self-in-Take
invariant_of-self-in-Take c =
    let a = c.self.inside in
    let j = a.first.value.job in
    let o = offer j a.sites.items a.link_queues.items a.capacity c.args.site c.next_of.result (Take c.in-Take.l) c.self.invariant (omega (arith, c.len.ensures)) c.next_of.ensures c.in-Take.is in
    let may = sym c.has_some.ensures ∙ c.if-not-has_some.false in
    subst (λ (xs : List SiteView). IsWorld j xs c.take_at-msg.new.link_queues.items a.capacity) (sym (c.given_at.ensures o.site o.there)) (take_some j a.sites.items a.link_queues.items a.capacity c.args.site o.site c.self.invariant o.there c.in-Take.l o.next may c.take_at-msg.result c.take_at-msg.new.link_queues.items c.take_at-msg.ensures).1

pub returns-else-not-has_some-clause-turn : goal.returns-else-not-has_some-clause-turn
returns-else-not-has_some-clause-turn c =
    let a = c.self.inside in
    let j = a.first.value.job in
    let o = offer j a.sites.items a.link_queues.items a.capacity c.args.site c.next_of.result (Take c.in-Take.l) c.self.invariant (omega (arith, c.len.ensures)) c.next_of.ensures c.in-Take.is in
    let may = sym c.has_some.ensures ∙ c.if-not-has_some.false in
    along (TurnIs Moved c.args.site) c.args.self.now (record { job = j; dones = dones_of a.sites.items }) c.self.view_is (sym (moved_is j a.sites.items a.link_queues.items a.capacity c.args.site o.site c.self.invariant o.there (Takes c.in-Take.l) o.next.0 (may_take j a.sites.items a.link_queues.items a.capacity c.args.site o.site c.self.invariant o.there c.in-Take.l o.next may)))

pub returns-else-not-has_some-clause-dones : goal.returns-else-not-has_some-clause-dones
returns-else-not-has_some-clause-dones c =
    let a = c.self.inside in
    let j = a.first.value.job in
    let o = offer j a.sites.items a.link_queues.items a.capacity c.args.site c.next_of.result (Take c.in-Take.l) c.self.invariant (omega (arith, c.len.ensures)) c.next_of.ensures c.in-Take.is in
    let may = sym c.has_some.ensures ∙ c.if-not-has_some.false in
    along (StepIs (dones_of c.given_at.new.sites.items) c.args.site) c.args.self.now (record { job = j; dones = dones_of a.sites.items }) c.self.view_is (ap dones_of (c.given_at.ensures o.site o.there) ∙ step_is j a.sites.items a.link_queues.items a.capacity c.args.site o.site c.self.invariant o.there (Takes c.in-Take.l) o.next.0 (may_take j a.sites.items a.link_queues.items a.capacity c.args.site o.site c.self.invariant o.there c.in-Take.l o.next may))

pub returns-in-Ended-clause-turn : goal.returns-in-Ended-clause-turn
returns-in-Ended-clause-turn c =
    let a = c.self.inside in
    let j = a.first.value.job in
    let o = offer j a.sites.items a.link_queues.items a.capacity c.args.site c.next_of.result (Ended) c.self.invariant (omega (arith, c.len.ensures)) c.next_of.ensures c.in-Ended.is in
    along (TurnIs Over c.args.site) c.args.self.now (record { job = j; dones = dones_of a.sites.items }) c.self.view_is (sym (turn_over j a.sites.items a.link_queues.items a.capacity c.args.site o.site c.self.invariant o.there o.next.0))

pub returns-in-Ended-clause-dones : goal.returns-in-Ended-clause-dones
returns-in-Ended-clause-dones c =
    let a = c.self.inside in
    let j = a.first.value.job in
    let o = offer j a.sites.items a.link_queues.items a.capacity c.args.site c.next_of.result (Ended) c.self.invariant (omega (arith, c.len.ensures)) c.next_of.ensures c.in-Ended.is in
    along (λ x. x.dones ≡ step (system_of x.job) x.dones c.args.site) c.args.self.now (record { job = j; dones = dones_of a.sites.items }) c.self.view_is (stay Over j (dones_of a.sites.items) c.args.site (turn_over j a.sites.items a.link_queues.items a.capacity c.args.site o.site c.self.invariant o.there o.next.0) refl)

pub returns-in-Faulted-clause-turn : goal.returns-in-Faulted-clause-turn
returns-in-Faulted-clause-turn c =
    let a = c.self.inside in
    let j = a.first.value.job in
    let o = offer j a.sites.items a.link_queues.items a.capacity c.args.site c.next_of.result (Faulted) c.self.invariant (omega (arith, c.len.ensures)) c.next_of.ensures c.in-Faulted.is in
    along (TurnIs Over c.args.site) c.args.self.now (record { job = j; dones = dones_of a.sites.items }) c.self.view_is (sym (turn_over j a.sites.items a.link_queues.items a.capacity c.args.site o.site c.self.invariant o.there o.next.0))

pub returns-in-Faulted-clause-dones : goal.returns-in-Faulted-clause-dones
returns-in-Faulted-clause-dones c =
    let a = c.self.inside in
    let j = a.first.value.job in
    let o = offer j a.sites.items a.link_queues.items a.capacity c.args.site c.next_of.result (Faulted) c.self.invariant (omega (arith, c.len.ensures)) c.next_of.ensures c.in-Faulted.is in
    along (λ x. x.dones ≡ step (system_of x.job) x.dones c.args.site) c.args.self.now (record { job = j; dones = dones_of a.sites.items }) c.self.view_is (stay Over j (dones_of a.sites.items) c.args.site (turn_over j a.sites.items a.link_queues.items a.capacity c.args.site o.site c.self.invariant o.there o.next.0) refl)
