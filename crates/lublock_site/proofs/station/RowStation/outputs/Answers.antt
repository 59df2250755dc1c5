use Rattle.std.proofs.Common.{Vec, map, subst, ◌∙◌}
use Rattle.std.specs.Prelude.{IfSome}
use Rattle.std.specs.declared.alloc.Global.{Global}
use Rattle.luworld.specs.Sites.{AreWholeOutputs, SiteOfJob}
use Rattle.lublock.specs.Shown.{Column}
use Rattle.lublock_site.specs.Reporting.{AreOutputRows}
use Rattle.lublock_site.proofs.Ended.{if_some, whole_outputs}
use Rattle.lublock_site.proofs.station.RowStation.outputs.Goals as goal

pub returns-clause-whole : goal.returns-clause-whole
returns-clause-whole c =
    let x = c.self.inside.inner in
    let going = c.self.invariant.going c.if-self.false in
    let all = c.has_ended.ensures c.if-not-has_ended.false in
    subst (λ (v : SiteOfJob). IfSome c.output_rows.result (λ (rows : Vec Column Global). AreWholeOutputs v.job v.site (map (λ (row : Column). row.items) rows.items))) c.self.view_is
    (if_some c.output_rows.result (λ (rows : Vec Column Global). AreOutputRows x.columns.items x.frame.instants c.as_slice.result.now rows.items) (λ (rows : Vec Column Global). AreWholeOutputs x.job.value x.site (map (λ (row : Column). row.items) rows.items))
    (λ rows made. whole_outputs x going all c.as_slice.result.now rows.items (c.as_slice.ensures.value ∙ c.self.invariant.outputs) made) c.output_rows.ensures)
