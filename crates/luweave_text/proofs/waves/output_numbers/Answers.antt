use Rattle.std.proofs.Common.{ℕ, Bool, List, [], ◌∷◌, ◌++◌, cond, sym, ap₂, ◌∙◌}
use Rattle.luflow.specs.Variables.{is_output_of}
use Rattle.lusite_program.proofs.Ranges.{filter_more}
use Rattle.luweave_text.proofs.waves.output_numbers.Goals as goal

pub loop-v-preserved : goal.loop-v-preserved
loop-v-preserved c =
    c.in_ok-push_if.ensures ∙ ap₂ (λ (xs : List ℕ) (b : Bool). xs ++ cond b (c.loop-v.v ∷ []) []) c.loop-v.invariant c.is_output.ensures
    ∙ sym (filter_more (is_output_of c.flat-flat.result.now) c.loop-v.v)
