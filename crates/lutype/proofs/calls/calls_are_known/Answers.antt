use Rattle.lutree.specs.Tree.{program_view, view}
use Rattle.lutype.specs.declared.calls.CallRule.TheVariants.{Known}
use Rattle.lutype.specs.CallRules.{CallKeeps}
use Rattle.lutype.proofs.Forms.{each_call}
use Rattle.lutype.proofs.calls.calls_are_known.Goals as goal

pub returns : goal.returns
returns c =
    let law = each_call (CallKeeps (program_view c.args.catalog.now) Known) (view c.args.equation.now.right) in
    (λ h. law.0 (c.calls_keep.ensures.0 h), λ h. c.calls_keep.ensures.1 (law.1 h))
