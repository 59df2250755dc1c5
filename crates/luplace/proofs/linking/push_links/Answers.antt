use Rattle.std.proofs.Common.{◌++◌, ◌∷◌, [], ap, ap₂, sym, ◌∙◌, ℕ, List, Vec, Global}
use Rattle.luworld.specs.declared.link.Link.{Link}
use Rattle.luplace.proofs.Linked.{one_taken, none_taken}
use Rattle.luplace.proofs.linking.push_links.Goals as goal
use Rattle.luplace.proofs.linking.push_links.Goals.{then-is_taken+in_ok-push, else-is_taken}

pub loop-site-preserved : goal.loop-site-preserved
loop-site-preserved c =
    let rows = c.args.rows.now in
    let owners = c.args.owners.now in
    let placed = c.args.placed.now in
    let v = c.args.variable in
    let s = c.loop-site.site in
    let before = c.args.links.now.items in
    elim c.if-is_taken.branch [
      | then-is_taken+in_ok-push w ↦
          ap (λ (xs : Vec Link Global). xs.items) w.links-is
          ∙ w.in_ok-push.ensures.items
          ∙ ap₂ (λ (xs : List Link) (h : ℕ). xs ++ record { flow = v; from = h; to = s } ∷ []) c.loop-site.invariant w.home_of-from.ensures
          ∙ one_taken rows owners placed v s before (sym c.is_taken.ensures ∙ w.if-is_taken.true)
      | else-is_taken w ↦
          ap (λ (xs : Vec Link Global). xs.items) w.links-is
          ∙ c.loop-site.invariant
          ∙ none_taken rows owners placed v s before (sym c.is_taken.ensures ∙ w.if-is_taken.false)
    ]
