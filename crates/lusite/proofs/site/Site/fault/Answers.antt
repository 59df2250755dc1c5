use Rattle.std.proofs.Common.{◌≡◌, ◌↔◌, length, subst}
use Rattle.std.specs.Prelude.{IsSome}
use Rattle.luworld.specs.Jobs.{streams_of, script, HasNoStop}
use Rattle.lusite.specs.Sites.{SiteView}
use Rattle.lusite.proofs.FaultsReported.{reported_stopped, stopped_reported}
use Rattle.lusite.proofs.site.Site.fault.Goals as goal

pub returns-clause-when : goal.returns-clause-when
returns-clause-when c =
    let a = c.self.inside.state in
    let i = c.self.invariant in
    let P : SiteView → Type 0 = λ v. IsSome a.fault ↔ ((v.done ≡ length (script v.job (streams_of v.job) v.site)) × (HasNoStop v.job v.site → ⊥)) in
    subst P c.self.view_is (reported_stopped a i.in_order.stands, stopped_reported a i.in_order.set i.in_order.stands i.ready)
