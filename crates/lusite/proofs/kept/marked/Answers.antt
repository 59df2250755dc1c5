use Rattle.std.proofs.Common.{ℕ, Bool, false, List, [], ◌∷◌, ◌++◌, cond, sym, ap, ap₂, ◌∙◌}
use Rattle.std.specs.Prelude.{unwrap_or}
use Rattle.std.proofs.lemmas.Option.{slice_get-get_or}
use Rattle.lusite_program.proofs.Ranges.{filter_more}
use Rattle.lusite.specs.KeptFlows.{is_marked}
use Rattle.lusite.proofs.kept.marked.Goals as goal

pub loop-k-preserved : goal.loop-k-preserved
loop-k-preserved c =
    let marks = c.args.marks.now in
    let k = c.loop-k.k in
    c.in_ok-push_if.ensures
    ∙ ap₂ (λ (xs : List ℕ) (b : Bool). xs ++ cond b (k ∷ []) []) c.loop-k.invariant (sym (ap (λ o. unwrap_or o false) (slice_get-get_or marks k false c.loop-k-test.true)))
    ∙ sym (filter_more (is_marked marks) k)
