use Rattle.std.proofs.Common.{ap, sym, ◌∙◌, inr}
use Rattle.std.specs.Prelude.{nat_eq}
use Rattle.std.specs.List.{list_any}
use Rattle.luexplain.specs.declared.refused.SyntaxRefusal.{SyntaxRefusal}
use Rattle.luexplain.proofs.refused.push_refusal.Goals as goal

pub returns-clause-next : goal.returns-clause-next
returns-clause-next c =
    inr (
      _,
      c.in_ok-push.ensures.items,
      record { long = c.requires.long; refused = c.requires.refused; byte = c.byte_of-byte.ensures; explained = c.in_ok-reason.ensures },
      ap (list_any (λ (q : SyntaxRefusal). nat_eq c.byte_of-byte.result q.byte)) (sym c.as_slice.ensures.value) ∙ sym c.is_told.ensures.told ∙ c.if-is_told.false,
    )
