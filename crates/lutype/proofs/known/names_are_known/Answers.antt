use Rattle.std.proofs.Common.{◌∙◌, sym, true≢false}
use Rattle.lutype.proofs.known.names_are_known.Goals as goal

pub returns-then-variables_are_known : goal.returns-then-variables_are_known
returns-then-variables_are_known c = (
  λ h.
      let known = c.variables_are_known.ensures.0 c.if-variables_are_known.true in
      record { left = known.0; right = known.1; parts = c.labels_are_known.ensures.0 h },
  λ k. c.labels_are_known.ensures.1 k.parts,
)

pub returns-else-variables_are_known : goal.returns-else-variables_are_known
returns-else-variables_are_known c = (
  λ h. absurd (true≢false (sym h ∙ c.if-variables_are_known.false)),
  λ k. c.variables_are_known.ensures.1 (k.left, k.right),
)
