use Rattle.std.proofs.Common.{◌∙◌, sym}
use Rattle.std.proofs.lemmas.Bool.{cond-true, cond-false}
use Rattle.lutype.proofs.faults.with_recursion.Goals as goal

pub returns-then-is_reported_before : goal.returns-then-is_reported_before
returns-then-is_reported_before c = rw c.in-Some.is (sym (cond-true _ _ _ (sym c.is_reported_before.ensures ∙ c.if-is_reported_before.true)))

pub returns-else-is_reported_before : goal.returns-else-is_reported_before
returns-else-is_reported_before c = rw c.in-Some.is (sym (cond-false _ _ _ (sym c.is_reported_before.ensures ∙ c.if-is_reported_before.false)))
