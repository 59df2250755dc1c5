use Rattle.std.proofs.Common.{◌++◌, List, length, ap, ◌∙◌}
use Rattle.luworld.specs.declared.link.Link.{Link}
use Rattle.luplace.specs.Marks.{some_links}
use Rattle.luplace.proofs.Linked.{below_more}
use Rattle.luplace.proofs.linking.links_of.Goals as goal

pub loop-variable-preserved : goal.loop-variable-preserved
loop-variable-preserved c =
    let rows = c.args.rows.now in
    let owners = c.args.owners.now in
    let placed = c.args.placed.now in
    let v = c.loop-variable.variable in
    c.in_ok-push_links.ensures ∙ ap (λ (xs : List Link). xs ++ some_links rows owners placed v (length rows)) c.loop-variable.invariant ∙ below_more rows owners placed v
