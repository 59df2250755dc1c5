use Rattle.std.proofs.Common.{◌≡◌, ℕ, Bool, Vec, Global, Result, Ok, Err, IfOk, subst}
use Rattle.std.specs.Prelude.{slice_get}
use Rattle.luworld.specs.Jobs.{outputs_of}
use Rattle.lusite.specs.declared.state.SiteState.{SiteState}
use Rattle.lusite.specs.Sites.{SiteView, IsSite, site_at}
use Rattle.lusite.specs.Logs.{IsOutput, log_at}
use Rattle.lusite_program.specs.Logs.{Log, row_items}
use Rattle.lusite.proofs.Outputs.{output_is}
use Rattle.lusite.proofs.site.Site.into_outputs.Goals as goal

given : {E : Type 0} (a : SiteState) (v : SiteView) → {l : Bool} → IsSite a l → site_at a ≡ v → (result : Result (Vec Log Global) E) → IfOk result (λ rows. (k : ℕ) → row_items (slice_get rows.items k) ≡ log_at a (slice_get (outputs_of a.program.plan) k))
    → IfOk result (λ rows. (k : ℕ) → IsOutput v.job v.site v.done k (row_items (slice_get rows.items k)))
given a v i is (Ok rows) each = λ k. subst (λ (w : SiteView). IsOutput w.job w.site w.done k (row_items (slice_get rows.items k))) is (output_is a i.in_order.set i.in_order.stands i.in_order.logged i.ready k (row_items (slice_get rows.items k)) (each k))
given a v i is (Err e) each = tt

pub returns-clause-each : goal.returns-clause-each
returns-clause-each c = given c.self.inside.state c.args.self c.self.invariant c.self.view_is c.drawn.result c.drawn.ensures.each
