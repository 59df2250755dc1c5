use Rattle.std.proofs.Common.{◌≡◌, ℕ, List, ap, ap₂, sym, ◌∙◌, arith}
use Rattle.std.specs.Prelude.{slice_get, slice_index, unwrap_or}
use Rattle.std.proofs.lemmas.Bool.{lt-ltb, ne_eqb}
use Rattle.luflow.specs.declared.data.Datum.TheVariants.{Nil}
use Rattle.lueval_lines.specs.declared.cell.Cell.{Cell}
use Rattle.lueval_lines.specs.Cells.{statuses}
use Rattle.lueval_lines.specs.Frames.{datum_in}
use Rattle.lusite.specs.Machine.{count_kept, pasts_of}
use Rattle.lusite.proofs.Moves.{offered_value}
use Rattle.lusite.proofs.SiteFlows.{outs_is, place_is, sent_is}
use Rattle.lusite.proofs.Rows.{count_row, datum_row}
use Rattle.lusite_program.specs.Programs.{part_at}
use Rattle.lusite.proofs.state.SiteState.offer_value.Goals as goal

pub returns : goal.returns
returns c =
    let a = c.args.self.now in
    let r = c.requires in
    let site_flow = c.args.site_flow.now in
    let i = slice_index a.program.plan.flat.order a.place.value in
    let n : c.count_at-no.result ≡ count_kept (pasts_of a) i = c.count_at-no.ensures ∙ ap (λ (xs : List ℕ). unwrap_or (slice_get xs a.row) 0) c.deref.ensures.value ∙ sym (count_row a r.set r.within) in
    offered_value a i (part_at a.program i).to c.link_of-link.result c.count_at-no.result c.datum_of.result
    (lt-ltb a.instant a.inputs.job.inputs.instants r.early)
    (ne_eqb a.step 0 (λ e. let some = r.some in omega (arith, e, some)))
    (c.link_of-link.ensures (part_at a.program i).to (outs_is a r.set site_flow r.site_flow.0 c.args.links.now r.site_flow.1 r.within) (sent_is a r.set site_flow r.site_flow.0 c.args.links.now r.site_flow.1 r.within))
    n
    (c.datum_of.ensures ∙ ap (λ o. unwrap_or o Nil) (c.cell_at.ensures ∙ ap₂ (λ (xs : List Cell) k. datum_in (statuses xs) k) c.deref-2.ensures.value (place_is a r.set site_flow r.site_flow.0 c.args.links.now r.site_flow.1 r.within)) ∙ sym (datum_row a r.set r.within))
