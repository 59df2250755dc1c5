use Rattle.std.proofs.Common.{inl, inr, refl, sym, ap, ◌∙◌}
use Rattle.luplace_file.specs.Placement.{placement_of}
use Rattle.lusdist_answers.proofs.sources.plan_of.Goals as goal

pub returns-in_default-clause-refused : goal.returns-in_default-clause-refused
returns-in_default-clause-refused c = inl (refl, c.in_default.ensures)

pub returns-in-Err-clause-refused : goal.returns-in-Err-clause-refused
returns-in-Err-clause-refused c =
    let same = ap placement_of c.in-Some.ensures.0 in
    let utf8 = c.in-Some.ensures.1 in
    elim c.in-Err.ensures.exact [
      | inl memory ↦ inr (utf8, inl memory)
      | inr reported ↦ inr (utf8, inr (inl (sym same ∙ reported)))
    ]

pub returns-clause-refused : goal.returns-clause-refused
returns-clause-refused c =
    let same = ap placement_of c.in-Some.ensures.0 in
    let utf8 = c.in-Some.ensures.1 in
    elim c.in-Err-make.ensures.refused [
      | inl memory ↦ inr (utf8, inl memory)
      | inr reported ↦ inr (utf8, inr (inr (c.in-Ok.place, sym same ∙ c.in-Ok.ensures.exact, reported)))
    ]
