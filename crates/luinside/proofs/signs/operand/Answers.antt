use Rattle.std.proofs.Common.{sym, ap, ◌∙◌}
use Rattle.std.specs.Prelude.{slice_get}
use Rattle.lutree.specs.Tree.{view, views}
use Rattle.lutree.proofs.Views.{viewed-Merge, viewed-Call}
use Rattle.luinside.specs.Parts.{operands}
use Rattle.luinside.proofs.Signing.{got}
use Rattle.luinside.proofs.signs.operand.Goals as goal

pub returns-in-Merge : goal.returns-in-Merge
returns-in-Merge c =
    let n = c.args.number in
    let es = c.in-Merge.branches.items in
    c.one_among.ensures ∙ ap (λ es. slice_get (views es) n) c.deref-in-Merge.ensures.value ∙ sym (got es n)
    ∙ ap (λ t. slice_get (operands t) n) (sym (ap view c.in-Merge.is ∙ viewed-Merge c.in-Merge.field-0 c.in-Merge.field-1 c.in-Merge.branches))

pub returns-in-Call : goal.returns-in-Call
returns-in-Call c =
    let n = c.args.number in
    let es = c.in-Call.arguments.items in
    c.one_among-in-Call.ensures ∙ ap (λ es. slice_get (views es) n) c.deref-in-Call.ensures.value ∙ sym (got es n)
    ∙ ap (λ t. slice_get (operands t) n) (sym (ap view c.in-Call.is ∙ viewed-Call c.in-Call.field-0 c.in-Call.arguments))
