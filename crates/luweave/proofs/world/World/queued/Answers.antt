use Rattle.std.proofs.Common.{◌≡◌, ◌<◌, ◌≤◌, ◌++◌, [], List, length, sym, subst, take, drop}
use Rattle.luworld.specs.Jobs.{link_list, system_of, streams_of}
use Rattle.luworld.specs.Systems.{put_count, taken_count}
use Rattle.luflow.specs.declared.message.Msg.{Msg}
use Rattle.lusource.specs.Source.{SourceStreams}
use Rattle.lusource.specs.RunSources.{IsMeant, source_list}
use Rattle.luweave.specs.Worlds.{dones_of}
use Rattle.luworld.specs.WorldViews.{WorldView, IsPrefixOf, AllEnded}
use Rattle.luweave.proofs.Worlds.{along, both_begin, link_queue_order, queued_view, queued_fits}
use Rattle.luweave.proofs.Headlines.{none_waits, queued_source}
use Rattle.luweave.proofs.world.World.queued.Goals as goal

pub queued_at-requires-clause-order : goal.queued_at-requires-clause-order
queued_at-requires-clause-order c =
    let a = c.self.inside in
    let j = a.first.value.job in
    link_queue_order j a.sites.items a.link_queues.items a.capacity c.self.invariant c.args.link

pub returns-clause-exact : goal.returns-clause-exact
returns-clause-exact c =
    let a = c.self.inside in
    let j = a.first.value.job in
    let lt = subst (λ (x : WorldView). c.args.link < length x.job.plan.links) (sym c.self.view_is) c.requires in
    along (λ x. c.queued_at.result.now ≡ drop (taken_count (system_of x.job) x.dones c.args.link) (take (put_count (system_of x.job) x.dones c.args.link) (link_list x.job (streams_of x.job) c.args.link))) c.args.self.now (record { job = j; dones = dones_of a.sites.items }) c.self.view_is (queued_view j a.sites.items a.link_queues.items a.capacity c.self.invariant c.args.link lt c.queued_at.result.now c.queued_at.ensures)

pub returns-clause-within : goal.returns-clause-within
returns-clause-within c =
    let a = c.self.inside in
    let j = a.first.value.job in
    let lt = subst (λ (x : WorldView). c.args.link < length x.job.plan.links) (sym c.self.view_is) c.requires in
    along (λ x. length c.queued_at.result.now ≤ x.job.plan.capacity) c.args.self.now (record { job = j; dones = dones_of a.sites.items }) c.self.view_is (queued_fits j a.sites.items a.link_queues.items a.capacity c.self.invariant c.args.link lt c.queued_at.result.now c.queued_at.ensures)

pub returns-clause-follows : goal.returns-clause-follows
returns-clause-follows c =
    let a = c.self.inside in
    let j = a.first.value.job in
    let ds = dones_of a.sites.items in
    let lt = subst (λ (x : WorldView). c.args.link < length x.job.plan.links) (sym c.self.view_is) c.requires in
    let e = queued_view j a.sites.items a.link_queues.items a.capacity c.self.invariant c.args.link lt c.queued_at.result.now c.queued_at.ensures in
    let n = taken_count (system_of j) ds c.args.link in
    let list = link_list j (streams_of j) c.args.link in
    along (λ x. IsPrefixOf (take (taken_count (system_of x.job) x.dones c.args.link) (link_list x.job (streams_of x.job) c.args.link) ++ c.queued_at.result.now) (link_list x.job (streams_of x.job) c.args.link)) c.args.self.now (record { job = j; dones = ds }) c.self.view_is
    (subst (λ (xs : List Msg). IsPrefixOf (take n list ++ xs) list) (sym e) (both_begin n (put_count (system_of j) ds c.args.link) list (c.self.invariant.good.taken_put c.args.link)))

pub returns-clause-none : goal.returns-clause-none
returns-clause-none c =
    let a = c.self.inside in
    let j = a.first.value.job in
    let lt = subst (λ (x : WorldView). c.args.link < length x.job.plan.links) (sym c.self.view_is) c.requires in
    let e = queued_view j a.sites.items a.link_queues.items a.capacity c.self.invariant c.args.link lt c.queued_at.result.now c.queued_at.ensures in
    along (λ x. AllEnded x.job x.dones → c.queued_at.result.now ≡ []) c.args.self.now (record { job = j; dones = dones_of a.sites.items }) c.self.view_is
    (λ all. none_waits j a.sites.items a.link_queues.items a.capacity c.self.invariant c.args.link c.queued_at.result.now lt e all)

pub returns-clause-source : goal.returns-clause-source
returns-clause-source c =
    let a = c.self.inside in
    let j = a.first.value.job in
    let lt = subst (λ (x : WorldView). c.args.link < length x.job.plan.links) (sym c.self.view_is) c.requires in
    let e = queued_view j a.sites.items a.link_queues.items a.capacity c.self.invariant c.args.link lt c.queued_at.result.now c.queued_at.ensures in
    along (λ x. (σ : SourceStreams) → IsMeant x.job σ → IsPrefixOf (take (taken_count (system_of x.job) x.dones c.args.link) (source_list x.job σ c.args.link) ++ c.queued_at.result.now) (source_list x.job σ c.args.link)) c.args.self.now (record { job = j; dones = dones_of a.sites.items }) c.self.view_is
    (λ σ meant. queued_source j a.sites.items a.link_queues.items a.capacity c.self.invariant σ meant c.args.link c.queued_at.result.now lt e)
