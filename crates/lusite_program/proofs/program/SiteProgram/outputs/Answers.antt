use Rattle.std.proofs.Common.{◌≡◌, length, ap, ◌∙◌, subst}
use Rattle.luworld.specs.Jobs.{outputs_of}
use Rattle.lusite_program.specs.Programs.{SiteProgramView}
use Rattle.lusite_program.proofs.program.SiteProgram.outputs.Goals as goal

pub returns-clause-count : goal.returns-clause-count
returns-clause-count c = subst (λ (v : SiteProgramView). length c.as_slice.result.now ≡ length (outputs_of v.plan)) c.self.view_is (ap length c.as_slice.ensures ∙ c.self.invariant.reported_are.len)
