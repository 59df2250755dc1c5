use Rattle.std.proofs.Common.{◌++◌, ◌∷◌, [], ℕ, List, Vec, Global, ap, sym, ◌∙◌}
use Rattle.luplace.proofs.Ending.{marked_one, marked_none}
use Rattle.luplace.proofs.way.marked.Goals as goal
use Rattle.luplace.proofs.way.marked.Goals.{then-is_marked+in_ok-push, else-is_marked}

pub loop-v-preserved : goal.loop-v-preserved
loop-v-preserved c =
    let marks = c.args.marks.now in
    let from = c.args.from in
    let v = c.loop-v.v in
    elim c.if-is_marked.branch [
      | then-is_marked+in_ok-push w ↦
          ap (λ (xs : Vec ℕ Global). xs.items) w.places-is
          ∙ w.in_ok-push.ensures.items
          ∙ ap (λ (xs : List ℕ). xs ++ v ∷ []) c.loop-v.invariant
          ∙ marked_one marks from v (sym c.is_marked.ensures ∙ w.if-is_marked.true)
      | else-is_marked w ↦
          ap (λ (xs : Vec ℕ Global). xs.items) w.places-is
          ∙ c.loop-v.invariant
          ∙ marked_none marks from v (sym c.is_marked.ensures ∙ w.if-is_marked.false)
    ]
