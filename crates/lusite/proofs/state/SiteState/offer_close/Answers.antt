use Rattle.std.proofs.Common.{◌≡◌, ℕ, List, ap, sym, ◌∙◌}
use Rattle.std.specs.Prelude.{slice_get, slice_index, unwrap_or}
use Rattle.lusite.specs.Machine.{count_kept, pasts_of}
use Rattle.lusite.proofs.Moves.{offered_close}
use Rattle.lusite.proofs.SiteFlows.{outs_is, sent_is}
use Rattle.lusite.proofs.Rows.{count_row}
use Rattle.lusite.proofs.Reported.{lt-false}
use Rattle.lusite_program.specs.Programs.{part_at}
use Rattle.lusite.proofs.state.SiteState.offer_close.Goals as goal

pub returns : goal.returns
returns c =
    let a = c.args.self.now in
    let r = c.requires in
    let site_flow = c.args.site_flow.now in
    let i = slice_index a.program.plan.flat.order a.place.value in
    let n : c.count_at-no.result ≡ count_kept (pasts_of a) i = c.count_at-no.ensures ∙ ap (λ (xs : List ℕ). unwrap_or (slice_get xs a.row) 0) c.deref.ensures.value ∙ sym (count_row a c.requires.set c.requires.within) in
    offered_close a i (part_at a.program i).to c.link_of-link.result c.count_at-no.result
    (lt-false a.instant a.inputs.job.inputs.instants c.requires.late)
    (c.link_of-link.ensures (part_at a.program i).to (outs_is a r.set site_flow r.site_flow.0 c.args.links.now r.site_flow.1 r.within) (sent_is a r.set site_flow r.site_flow.0 c.args.links.now r.site_flow.1 r.within))
    n
