use Rattle.test_reference.proofs.Steps.{parts}
use Rattle.test_reference.proofs.rule.part.Goals as goal

pub another-requires-clause-rule : goal.another-requires-clause-rule
another-requires-clause-rule g c = parts _ _ _ _ c.requires.channel.1
