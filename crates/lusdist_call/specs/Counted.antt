-- What is told of what a run counted (`--stats`).
use Rattle.std.specs.Prelude.{◌≡◌, ℕ, Bool, true, false, List, []}
use Rattle.luworld.specs.Jobs.{JobView}
use Rattle.lustats.specs.declared.counts.Counts.{Counts}
use Rattle.lustats.specs.Text.{stats_text}

-- Where it is asked for, the lines of some counts and of so many microseconds: which ones, the turns of the
-- threads decide.
abbrev pub AreStats : Bool → JobView → List ℕ → Type 0
AreStats false job told = told ≡ []
AreStats true job told = (counts : Counts) × (micros : ℕ)
    × (told ≡ stats_text job.plan counts micros job.inputs.instants)
