-- That the source says what the flat program says.
use Rattle.std.specs.Prelude.{◌≡◌, ℕ, ◌<◌, length}
use Rattle.luworld.specs.Jobs.{JobView, IsJob, streams_of, link_list}
use Rattle.lusource.specs.Source.{SourceStreams}
use Rattle.lusource.specs.RunSources.{IsMeant, source_stream, source_list}

-- the main variables' streams and the links' lists are those of the flat program's only solution
pub record SaysTheSame (job : JobView) (σ : SourceStreams) : Type 0 where
  pub streams : (v t : ℕ) → v < length job.plan.flat.variables → source_stream job σ v t ≡ streams_of job v t
  pub lists : (l : ℕ) → l < length job.plan.links → source_list job σ l ≡ link_list job (streams_of job) l

abbrev pub SourceLaw : Type 0
SourceLaw = (job : JobView) (σ : SourceStreams) → IsJob job → IsMeant job σ → SaysTheSame job σ
