use Rattle.std.proofs.Common.{◌≡◌, true}
use Rattle.luworld.specs.Jobs.{NoFault}
use Rattle.lusource.specs.Source.{SourceStreams}
use Rattle.lusource.specs.RunSources.{IsMeant, NoneBreaks}
use Rattle.luweave.specs.Worlds.{dones_of}
use Rattle.luworld.specs.WorldViews.{AllEnded}
use Rattle.luweave.proofs.Worlds.{along}
use Rattle.luweave.proofs.Endings.{done_all, all_done, no_fault}
use Rattle.luweave.proofs.Headlines.{ended_source}
use Rattle.luweave.proofs.world.World.ended.Goals as goal

pub returns-clause-only : goal.returns-clause-only
returns-clause-only c =
    let a = c.self.inside in
    let j = a.first.value.job in
    along (λ x. c.all_ended.result ≡ true → AllEnded x.job x.dones) c.args.self.now (record { job = j; dones = dones_of a.sites.items }) c.self.view_is
    (λ e. done_all j a.sites.items a.link_queues.items a.capacity c.self.invariant (c.all_ended.ensures.only e))

pub returns-clause-all : goal.returns-clause-all
returns-clause-all c =
    let a = c.self.inside in
    let j = a.first.value.job in
    along (λ x. AllEnded x.job x.dones → c.all_ended.result ≡ true) c.args.self.now (record { job = j; dones = dones_of a.sites.items }) c.self.view_is
    (λ all. c.all_ended.ensures.all (all_done j a.sites.items a.link_queues.items a.capacity c.self.invariant all))

pub returns-clause-sound : goal.returns-clause-sound
returns-clause-sound c =
    let a = c.self.inside in
    let j = a.first.value.job in
    along (λ x. c.all_ended.result ≡ true → NoFault x.job) c.args.self.now (record { job = j; dones = dones_of a.sites.items }) c.self.view_is
    (λ e. no_fault j c.self.invariant.is_job (dones_of a.sites.items) (done_all j a.sites.items a.link_queues.items a.capacity c.self.invariant (c.all_ended.ensures.only e)))

pub returns-clause-source : goal.returns-clause-source
returns-clause-source c =
    let a = c.self.inside in
    let j = a.first.value.job in
    along (λ x. (σ : SourceStreams) → IsMeant x.job σ → c.all_ended.result ≡ true → NoneBreaks x.job σ) c.args.self.now (record { job = j; dones = dones_of a.sites.items }) c.self.view_is
    (λ σ meant e. ended_source j a.sites.items a.link_queues.items a.capacity c.self.invariant σ meant (done_all j a.sites.items a.link_queues.items a.capacity c.self.invariant (c.all_ended.ensures.only e)))
