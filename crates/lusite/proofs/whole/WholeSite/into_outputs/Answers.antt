use Rattle.std.proofs.Common.{◌≡◌, length, subst}
use Rattle.std.specs.Prelude.{slice_get}
use Rattle.luworld.specs.Jobs.{outputs_of}
use Rattle.lusite_program.specs.Logs.{row_items}
use Rattle.lusite.specs.Logs.{IsOutput}
use Rattle.lusite.specs.Sites.{SiteView}
use Rattle.lusite.proofs.Wholes.{whole_len, whole_output}
use Rattle.lusite.proofs.whole.WholeSite.into_outputs.Goals as goal

pub returns-clause-len : goal.returns-clause-len
returns-clause-len c =
    let a = c.self.inside in
    subst (λ (v : SiteView). length a.rows.items ≡ length (outputs_of v.job.plan)) c.self.view_is (whole_len a.job.value a.site a.sites a.instants a.names a.rows.items c.self.invariant)

pub returns-clause-each : goal.returns-clause-each
returns-clause-each c k =
    let a = c.self.inside in
    subst (λ (v : SiteView). IsOutput v.job v.site v.done k (row_items (slice_get a.rows.items k))) c.self.view_is (whole_output a.job.value a.site a.sites a.instants a.names a.rows.items c.self.invariant k)
