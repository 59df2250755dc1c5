use Rattle.std.proofs.Common.{ℕ, List, [], ◌∷◌, ◌++◌, take, get_or, sym, ap, ◌∙◌, append_assoc}
use Rattle.std.proofs.lemmas.List.{take_more, take_all}
use Rattle.lusite_program.proofs.projecting.put_links.Goals as goal

pub loop-link-preserved : goal.loop-link-preserved
loop-link-preserved c =
    let old = c.args.links.now.items in
    let more = c.args.more.now in
    let k = c.loop-link.link-index in
    c.in_ok-push.ensures.items
    ∙ ap (λ (xs : List ℕ). xs ++ get_or more k 0 ∷ []) c.loop-link.invariant
    ∙ append_assoc old (take k more) (get_or more k 0 ∷ [])
    ∙ ap (λ (xs : List ℕ). old ++ xs) (sym (take_more more k 0 c.loop-link-test.true))

pub returns : goal.returns
returns c = c.loop-link.invariant ∙ ap (λ (xs : List ℕ). c.args.links.now.items ++ xs) (take_all c.loop-link.link-index c.args.more.now c.loop-link-test.false)
