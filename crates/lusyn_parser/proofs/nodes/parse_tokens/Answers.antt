use Rattle.lusyn_parser.proofs.Whole.{same_tree, none_spelled, is_wrong, same_place, not_wrong}
use Rattle.lusyn_parser.proofs.nodes.parse_tokens.Goals as goal

pub returns-in-Ok-clause-only : goal.returns-in-Ok-clause-only
returns-in-Ok-clause-only c = λ tree spelled. same_tree _ _ tree c.in-Ok.ensures.program spelled

pub returns-in-Ok-clause-refuses : goal.returns-in-Ok-clause-refuses
returns-in-Ok-clause-refuses c = λ byte wrong. not_wrong _ _ byte _ c.in-Ok.ensures.program wrong

pub returns-in-Err-Refused-clause-only : goal.returns-in-Err-Refused-clause-only
returns-in-Err-Refused-clause-only c = λ tree spelled. let refused = rw c.in-Err-Refused.field-0-is at c.in-Err-Refused.ensures.program in none_spelled _ _ tree refused spelled

pub returns-in-Err-Refused-clause-refused : goal.returns-in-Err-Refused-clause-refused
returns-in-Err-Refused-clause-refused c = let refused = rw c.in-Err-Refused.field-0-is at c.in-Err-Refused.ensures.program in is_wrong _ _ _ _ c.byte_of.ensures refused

pub returns-in-Err-Refused-clause-refuses : goal.returns-in-Err-Refused-clause-refuses
returns-in-Err-Refused-clause-refuses c = λ byte wrong.
    let refused = rw c.in-Err-Refused.field-0-is at c.in-Err-Refused.ensures.program in
    same_place _ _ byte _ wrong (is_wrong _ _ _ _ c.byte_of.ensures refused)
