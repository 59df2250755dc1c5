use Rattle.lutree.specs.Tree.{program_view, view}
use Rattle.lutype.specs.declared.calls.CallRule.TheVariants.{Arguments}
use Rattle.lutype.specs.CallRules.{CallKeeps}
use Rattle.lutype.proofs.Forms.{each_call}
use Rattle.lutype.proofs.calls.arguments_are_right.Goals as goal

pub returns : goal.returns
returns c =
    let law = each_call (CallKeeps (program_view c.args.catalog.now) Arguments) (view c.args.e.now) in
    (λ h. law.0 (c.calls_keep.ensures.0 h), λ h. c.calls_keep.ensures.1 (law.1 h))
