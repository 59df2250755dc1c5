use Rattle.std.proofs.Common.{◌∷◌, ◌++◌, [], List, Option, ℕ, Vec, sym, ap, ap₂, ◌∙◌}
use Rattle.std.specs.declared.alloc.Global.{Global}
use Rattle.luflow.specs.Program.{FlatView}
use Rattle.luflow.specs.Variables.{is_output_of}
use Rattle.lublock_site.specs.Codes.{output_at}
use Rattle.lublock_site.proofs.Coded.{none_more, one_more}
use Rattle.lublock_site.proofs.code_marks.outputs_at.Goals.{then-is_output+in_ok-push, else-is_output}
use Rattle.lublock_site.proofs.code_marks.outputs_at.Goals as goal

pub loop-v-preserved : goal.loop-v-preserved
loop-v-preserved c =
    let plan = c.args.plan.now in
    let v = c.loop-v.v in
    let is = ap (λ (flat : FlatView). is_output_of flat v) (sym c.flat-in-loop-v.ensures.flat) ∙ sym c.is_output.ensures in
    elim c.if-is_output.branch [
      | then-is_output+in_ok-push w ↦
          ap (λ (x : Vec (Option ℕ) Global). x.items) w.outputs-is ∙ w.in_ok-push.ensures.items
          ∙ ap₂ (λ (xs : List (Option ℕ)) (o : Option ℕ). xs ++ o ∷ []) c.loop-v.invariant w.output_at.ensures
          ∙ sym (one_more (output_at plan c.args.site) (is_output_of plan.flat) v (is ∙ w.if-is_output.true))
      | else-is_output w ↦
          ap (λ (x : Vec (Option ℕ) Global). x.items) w.outputs-is ∙ c.loop-v.invariant
          ∙ sym (none_more (output_at plan c.args.site) (is_output_of plan.flat) v (is ∙ w.if-is_output.false))
    ]
