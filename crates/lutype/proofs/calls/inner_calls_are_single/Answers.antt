use Rattle.lutree.specs.Tree.{program_view, view, views, trees_of}
use Rattle.lutype.specs.declared.calls.CallRule.TheVariants.{OneOutput}
use Rattle.lutype.specs.CallRules.{CallKeeps}
use Rattle.lutype.proofs.Forms.{inner_of_call, inner_of_other}
use Rattle.lutype.proofs.calls.inner_calls_are_single.Goals as goal

pub returns-in-None : goal.returns-in-None
returns-in-None c =
    let law = inner_of_other (CallKeeps (program_view c.args.catalog.now) OneOutput) (view c.args.e.now) c.in-None.ensures.none in
    (λ h. law.0 (c.calls_keep.ensures.0 h), λ h. c.calls_keep.ensures.1 (law.1 h))

pub returns-in-Some : goal.returns-in-Some
returns-in-Some c =
    let law = inner_of_call (CallKeeps (program_view c.args.catalog.now) OneOutput) (view c.args.e.now) c.in-Some.field-0-0.now (trees_of (views c.in-Some.arguments.now)) c.in-Some.ensures.some in
    (λ h. law.0 (c.all_calls_keep.ensures.0 h), λ h. c.all_calls_keep.ensures.1 (law.1 h))
