-- What the theorem of the design's run says.
use Rattle.std.specs.Prelude.{◌≡◌, ℕ, List, codes}
use Rattle.luflow.specs.Tables.{OutputColumn}
use Rattle.luworld.specs.Jobs.{JobView}
use Rattle.lurun.specs.Reports.{AreOutputsOf}
use Rattle.lutab.specs.Outputs.{output_text}
use Rattle.lusdist_call.specs.Asked.{IsJobOf}
use Rattle.example_embed.specs.declared.design.TheConstants.{DESIGN, PLACEMENT, TABLE}

-- the text is the table of the whole outputs of a job
pub record IsTableOfRun (job : JobView) (text : List ℕ) : Type 0 where
  pub outputs : List OutputColumn
  pub are_outputs : AreOutputsOf job outputs
  pub text_is : text ≡ output_text job.plan.flat outputs

-- the same of the job that the texts of the design, its placement and its table say
pub record IsRunOfDesign (text : List ℕ) : Type 0 where
  pub job : JobView
  pub job_is : IsJobOf DESIGN.now PLACEMENT.now TABLE.now (codes "main") job
  pub table_is : IsTableOfRun job text
