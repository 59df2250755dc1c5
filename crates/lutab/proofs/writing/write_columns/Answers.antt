use Rattle.std.proofs.Common.{◌∙◌, ap, sym, subst, vec_len}
use Rattle.std.specs.declared.vec.Vec.{Vec}
use Rattle.std.specs.declared.string.String.{String}
use Rattle.std.specs.declared.alloc.Global.{Global}
use Rattle.luflow.specs.declared.data.Status.{Status}
use Rattle.luflow.specs.Tables.{AreOutputs}
use Rattle.lutab.proofs.Written.{all_long}
use Rattle.lutab.proofs.writing.write_columns.Goals as goal

pub write_lines-requires : goal.write_lines-requires
write_lines-requires c =
    let all = all_long c.columns-columns.result.now c.first-item.result (subst AreOutputs (sym c.columns-columns.ensures.columns) c.columns-columns.ensures.outputs) in
    λ k d lt. all k d lt ∙ sym (c.len.ensures ∙ ap (λ (x : String Global × Vec Status Global). vec_len x.1) c.first-item.is)
