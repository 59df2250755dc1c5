use Rattle.std.proofs.Common.{ℕ, Bool, List, [], ◌∷◌, ◌++◌, cond, sym, ap₂, ◌∙◌}
use Rattle.lusite_program.specs.Programs.{role_at}
use Rattle.lusite_program.proofs.Ranges.{filter_more}
use Rattle.lusite_program.proofs.projecting.reported_places.Goals as goal

pub loop-i-preserved : goal.loop-i-preserved
loop-i-preserved c =
    c.in_ok-push_if.ensures ∙ ap₂ (λ (xs : List ℕ) (b : Bool). xs ++ cond b (c.loop-i.i ∷ []) []) c.loop-i.invariant c.is_reported.ensures
    ∙ sym (filter_more (role_at c.args.variables.now) c.loop-i.i)
