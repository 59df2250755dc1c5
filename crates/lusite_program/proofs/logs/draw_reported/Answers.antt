use Rattle.std.proofs.Common.{Some, ap, sym, ◌∙◌}
use Rattle.lusite_program.proofs.logs.draw_reported.Goals as goal

pub returns-in-Some-clause-others : goal.returns-in-Some-clause-others
returns-in-Some-clause-others c j ne = c.draw.ensures.others j (λ e. ne (c.in-Some.is ∙ ap Some (sym e)))
