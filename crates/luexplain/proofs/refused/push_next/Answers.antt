use Rattle.std.proofs.Common.{ℕ, List, refl, subst, inl}
use Rattle.std.proofs.lemmas.Option.{MatchOption-at_none}
use Rattle.lusyn.specs.declared.error.SynError.{SynError}
use Rattle.luexplain.specs.Refusals.{IsRefusedAs}
use Rattle.luexplain.proofs.refused.push_next.Goals as goal

pub returns-in-None-clause-next : goal.returns-in-None-clause-next
returns-in-None-clause-next c =
    inl (refl, refl, λ none. subst (λ (t : List ℕ). (e : SynError) → ¬ IsRefusedAs t e) c.as_slice.ensures.value (MatchOption-at_none _ _ c.in-None.is c.in_ok-error.ensures))
