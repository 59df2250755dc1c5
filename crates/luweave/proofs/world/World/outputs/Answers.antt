use Rattle.std.proofs.Common.{◌≡◌, [], None}
use Rattle.std.specs.Prelude.{slice_get}
use Rattle.luworld.specs.Jobs.{outputs_of}
use Rattle.lusource.specs.Source.{SourceStreams}
use Rattle.lusource.specs.RunSources.{IsMeant}
use Rattle.luweave.specs.Worlds.{dones_of}
use Rattle.luworld.specs.WorldViews.{IsCollected}
use Rattle.luweave.specs.Headline.{IsCollectedOf}
use Rattle.luweave.proofs.Worlds.{along}
use Rattle.luweave.proofs.Endings.{collected, none_beyond}
use Rattle.luweave.proofs.Headlines.{collected_source}
use Rattle.luweave.proofs.world.World.outputs.Goals as goal

pub returns-clause-collected : goal.returns-clause-collected
returns-clause-collected c =
    let a = c.self.inside in
    let j = a.first.value.job in
    along (λ x. IsCollected x.job x.dones c.args.k c.outputs_in.result.now) c.args.self.now (record { job = j; dones = dones_of a.sites.items }) c.self.view_is
    (collected j a.sites.items a.link_queues.items a.capacity c.self.invariant c.args.k c.outputs_in.result.now c.outputs_in.ensures)

pub returns-clause-source : goal.returns-clause-source
returns-clause-source c =
    let a = c.self.inside in
    let j = a.first.value.job in
    let ok = c.self.invariant in
    along (λ x. (σ : SourceStreams) → IsMeant x.job σ → IsCollectedOf x.job x.dones σ c.args.k c.outputs_in.result.now) c.args.self.now (record { job = j; dones = dones_of a.sites.items }) c.self.view_is
    (λ σ meant. collected_source j a.sites.items a.link_queues.items a.capacity ok σ meant c.args.k c.outputs_in.result.now (collected j a.sites.items a.link_queues.items a.capacity ok c.args.k c.outputs_in.result.now c.outputs_in.ensures))

pub returns-clause-beyond : goal.returns-clause-beyond
returns-clause-beyond c =
    let a = c.self.inside in
    let j = a.first.value.job in
    along (λ x. slice_get (outputs_of x.job.plan) c.args.k ≡ None → c.outputs_in.result.now ≡ []) c.args.self.now (record { job = j; dones = dones_of a.sites.items }) c.self.view_is
    (none_beyond j a.sites.items a.link_queues.items a.capacity c.self.invariant c.args.k c.outputs_in.result.now c.outputs_in.ensures)
