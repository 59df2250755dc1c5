use Rattle.std.proofs.Common.{◌≡◌, ◌<◌, List, length, sym, subst, take}
use Rattle.luworld.specs.Jobs.{link_list, system_of, streams_of}
use Rattle.luworld.specs.Systems.{taken_count}
use Rattle.luflow.specs.declared.message.Msg.{Msg}
use Rattle.lusource.specs.Source.{SourceStreams}
use Rattle.lusource.specs.RunSources.{IsMeant, source_list}
use Rattle.luweave.specs.Worlds.{dones_of}
use Rattle.luworld.specs.WorldViews.{WorldView, IsPrefixOf, AllEnded}
use Rattle.luweave.proofs.Worlds.{along, take_begins, link_queue_order, taken_view}
use Rattle.luweave.proofs.Headlines.{taken_whole, taken_source, taken_source_whole}
use Rattle.luweave.proofs.world.World.taken.Goals as goal

pub taken_at-requires-clause-order : goal.taken_at-requires-clause-order
taken_at-requires-clause-order c =
    let a = c.self.inside in
    let j = a.first.value.job in
    link_queue_order j a.sites.items a.link_queues.items a.capacity c.self.invariant c.args.link

pub returns-clause-exact : goal.returns-clause-exact
returns-clause-exact c =
    let a = c.self.inside in
    let j = a.first.value.job in
    let lt = subst (λ (x : WorldView). c.args.link < length x.job.plan.links) (sym c.self.view_is) c.requires in
    along (λ x. c.taken_at.result.now ≡ take (taken_count (system_of x.job) x.dones c.args.link) (link_list x.job (streams_of x.job) c.args.link)) c.args.self.now (record { job = j; dones = dones_of a.sites.items }) c.self.view_is (taken_view j a.sites.items a.link_queues.items a.capacity c.self.invariant c.args.link lt c.taken_at.result.now c.taken_at.ensures)

pub returns-clause-begins : goal.returns-clause-begins
returns-clause-begins c =
    let a = c.self.inside in
    let j = a.first.value.job in
    let lt = subst (λ (x : WorldView). c.args.link < length x.job.plan.links) (sym c.self.view_is) c.requires in
    let e = taken_view j a.sites.items a.link_queues.items a.capacity c.self.invariant c.args.link lt c.taken_at.result.now c.taken_at.ensures in
    along (λ x. IsPrefixOf c.taken_at.result.now (link_list x.job (streams_of x.job) c.args.link)) c.args.self.now (record { job = j; dones = dones_of a.sites.items }) c.self.view_is
    (subst (λ (xs : List Msg). IsPrefixOf xs (link_list j (streams_of j) c.args.link)) (sym e) (take_begins (taken_count (system_of j) (dones_of a.sites.items) c.args.link) (link_list j (streams_of j) c.args.link)))

pub returns-clause-whole : goal.returns-clause-whole
returns-clause-whole c =
    let a = c.self.inside in
    let j = a.first.value.job in
    let lt = subst (λ (x : WorldView). c.args.link < length x.job.plan.links) (sym c.self.view_is) c.requires in
    let e = taken_view j a.sites.items a.link_queues.items a.capacity c.self.invariant c.args.link lt c.taken_at.result.now c.taken_at.ensures in
    along (λ x. AllEnded x.job x.dones → c.taken_at.result.now ≡ link_list x.job (streams_of x.job) c.args.link) c.args.self.now (record { job = j; dones = dones_of a.sites.items }) c.self.view_is
    (λ all. taken_whole j a.sites.items a.link_queues.items a.capacity c.self.invariant c.args.link c.taken_at.result.now lt e all)

pub returns-clause-source : goal.returns-clause-source
returns-clause-source c =
    let a = c.self.inside in
    let j = a.first.value.job in
    let lt = subst (λ (x : WorldView). c.args.link < length x.job.plan.links) (sym c.self.view_is) c.requires in
    let e = taken_view j a.sites.items a.link_queues.items a.capacity c.self.invariant c.args.link lt c.taken_at.result.now c.taken_at.ensures in
    along (λ x. (σ : SourceStreams) → IsMeant x.job σ → IsPrefixOf c.taken_at.result.now (source_list x.job σ c.args.link)) c.args.self.now (record { job = j; dones = dones_of a.sites.items }) c.self.view_is
    (λ σ meant. taken_source j a.sites.items a.link_queues.items a.capacity c.self.invariant σ meant c.args.link c.taken_at.result.now lt e)

pub returns-clause-source_whole : goal.returns-clause-source_whole
returns-clause-source_whole c =
    let a = c.self.inside in
    let j = a.first.value.job in
    let lt = subst (λ (x : WorldView). c.args.link < length x.job.plan.links) (sym c.self.view_is) c.requires in
    let e = taken_view j a.sites.items a.link_queues.items a.capacity c.self.invariant c.args.link lt c.taken_at.result.now c.taken_at.ensures in
    along (λ x. (σ : SourceStreams) → IsMeant x.job σ → AllEnded x.job x.dones → c.taken_at.result.now ≡ source_list x.job σ c.args.link) c.args.self.now (record { job = j; dones = dones_of a.sites.items }) c.self.view_is
    (λ σ meant all. taken_source_whole j a.sites.items a.link_queues.items a.capacity c.self.invariant σ meant c.args.link c.taken_at.result.now lt e all)
