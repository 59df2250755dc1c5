-- What the texts of a plan, of a replay and of a run say, and what their files gave.
use Rattle.std.specs.Prelude.{◌≡◌, ℕ, false, List, Some, Ok, IsUtf8, [], ◌++◌, Bool, true}
use Rattle.lutree.specs.Tree.{ProgramTree}
use Rattle.luflow.specs.Program.{FlatView, InputsView as Inputs}
use Rattle.luworld.specs.Needs.{PlanView, IsPlan, sites_of}
use Rattle.luworld.specs.Systems.{reached, NoTurnMoves}
use Rattle.luworld.specs.Jobs.{JobView, IsJobView, system_of}
use Rattle.lusource.specs.Source.{SourceStreams, IsSourceSolution}
use Rattle.lusource.specs.Agreement.{HasOneMeaning}
use Rattle.lusource.specs.RunSources.{IsMeant}
use Rattle.lusyn.specs.Texts.{SpellsText}
use Rattle.lucore.specs.Result.{IsFlatOf}
use Rattle.luplace_file.specs.Content.{PlaceView}
use Rattle.luplace_file.specs.Placement.{placement_of}
use Rattle.luplace.specs.Placing.{IsPlanOf}
use Rattle.luflow.specs.Variables.{inputs_of}
use Rattle.lutab.specs.Table.{IsTextOf, is_too_long}
use Rattle.lusdist_shell.specs.RandomTurns.{random_turns}
use Rattle.lusdist_shell.specs.ScheduleText.{schedule_of}
use Rattle.lusdist_shell.specs.declared.request.ReplayRequest.{ReplayRequest}
use Rattle.lusdist_shell.specs.declared.request.TurnsSource.{TurnsSource}
use Rattle.lusdist_shell.specs.declared.request.TurnsSource.TheVariants.{File, Random, Unclear}
use Rattle.luworld.specs.WorldViews.{WorldView}
use Rattle.luflow.specs.Tables.{FitsProgram}
use Rattle.lusdist_shell.specs.Files.{FileFacts}

-- the flat program, from this main node, of the program that a text spells
pub record HasFlat (text main : List ℕ) (flat : FlatView) : Type 0 where
  pub tree : ProgramTree
  pub spelled : SpellsText text tree
  pub flat_is : IsFlatOf tree main flat

-- the flat program, from this main node, of the program that the file of a path gave
pub record IsFlatAt (gives : FileFacts) (path main : List ℕ) (flat : FlatView) : Type 0 where
  pub program : List ℕ
  pub given : gives path (Some program)
  pub flat_is : HasFlat program main flat

-- the table of a flat program's inputs that the file of a path gave, which isn't too long, in UTF-8
pub record IsTableAt (gives : FileFacts) (path : List ℕ) (flat : FlatView) (inputs : Inputs) : Type 0 where
  pub table : List ℕ
  pub given : gives path (Some table)
  pub text : IsTextOf flat.types (inputs_of flat.variables) inputs table
  pub short : is_too_long table ≡ false
  pub utf8 : IsUtf8 table
  pub fits : FitsProgram flat inputs

-- the plan of its flat program and the placement that a text says, in UTF-8
pub record IsPlanOfText (text : List ℕ) (plan : PlanView) : Type 0 where
  pub utf8 : IsUtf8 text
  pub place : PlaceView
  pub says : placement_of text ≡ Ok place
  pub plan_is : IsPlanOf plan.flat place plan

-- The job of three texts: the plan of the program that the first spells and the placement that the second
-- says, with the table that the third says, which isn't too long. It is a run, whose plan has all needs and
-- links that its flows and sites make; the program has one meaning at the table, and what is said of the job
-- in its source's words is said of the program's solutions.
pub record IsJobOf (program place table main : List ℕ) (job : JobView) : Type 0 where
  pub flat : HasFlat program main job.plan.flat
  pub plan : IsPlanOfText place job.plan
  pub inputs : IsTextOf job.plan.flat.types (inputs_of job.plan.flat.variables) job.inputs table
  pub short : is_too_long table ≡ false
  pub utf8 : IsUtf8 table
  pub is_run : IsJobView job
  pub one_meaning : HasOneMeaning flat.tree main job.inputs
  pub is_meant : (σ : SourceStreams) → IsSourceSolution flat.tree main job.inputs σ → IsMeant job σ

-- The job of the program, the placement and the table that the files of three paths gave.
pub record IsJobFor (gives : FileFacts) (path place_path table_path main : List ℕ)
    (job : JobView) : Type 0 where
  pub program : List ℕ
  pub place : List ℕ
  pub table : List ℕ
  pub program_given : gives path (Some program)
  pub place_given : gives place_path (Some place)
  pub table_given : gives table_path (Some table)
  pub job_is : IsJobOf program place table main job

-- the turns of the schedule that the file of a path gave
pub record AreTurnsAt (gives : FileFacts) (path turns : List ℕ) : Type 0 where
  pub schedule : List ℕ
  pub given : gives path (Some schedule)
  pub turns_are : schedule_of schedule ≡ Ok turns

-- The turns that come from a source, of so many sites: those of the schedule that its file gave, or so many
-- random ones from its seed.
abbrev pub AreTurnsFrom : FileFacts → TurnsSource → ℕ → List ℕ → Type 0
AreTurnsFrom gives (File path) sites turns = AreTurnsAt gives path.now turns
AreTurnsFrom gives (Random seed count) sites turns = turns ≡ random_turns seed sites count
AreTurnsFrom gives Unclear sites turns = ⊥

-- a job is that of texts that the files of a request gave, and its turns come from the request's source
pub record IsAskedFor (gives : FileFacts) (request : ReplayRequest) (job : JobView)
    (turns : List ℕ) : Type 0 where
  pub job_for : IsJobFor gives request.program.now request.place.now request.table.now request.main.now job
  pub turns_are : AreTurnsFrom gives request.source (sites_of job.plan) turns

-- The world that a job's turns make of its new sites. Where it is to be finished, more turns follow until
-- none moves any more, and no others.
pub record IsWorldOf (job : JobView) (turns : List ℕ) (finish : Bool) (world : WorldView) : Type 0 where
  pub job_is : world.job ≡ job
  pub more : List ℕ
  pub dones_are : world.dones ≡ reached (system_of job) (turns ++ more)
  pub no_more : finish ≡ false → more ≡ []
  pub quiet : finish ≡ true → NoTurnMoves (system_of job) world.dones

-- The plan of the program and the placement that the files of two paths gave. Its needs and links are all
-- that its flows and sites make, and no others.
pub record IsPlanFor (gives : FileFacts) (path place_path main : List ℕ) (plan : PlanView) : Type 0 where
  pub program : List ℕ
  pub place : List ℕ
  pub program_given : gives path (Some program)
  pub place_given : gives place_path (Some place)
  pub flat : HasFlat program main plan.flat
  pub plan_of : IsPlanOfText place plan
  pub is_plan : IsPlan plan
