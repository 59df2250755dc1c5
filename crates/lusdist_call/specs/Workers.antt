-- How many workers the words of a run ask for.
use Rattle.std.specs.Prelude.{ℕ, List, [], ◌∷◌, codes, Option, Some, None, if◌then◌else◌}
use Rattle.std.specs.Str.{bytes_eq}
use Rattle.lurun.specs.declared.options.Workers.{Workers}
use Rattle.lurun.specs.declared.options.Workers.TheVariants.{EachSite, Auto, Crew}

-- a word, and the workers that it names
pub record WorkerWord : Type 0 where
  pub word : List ℕ
  pub workers : Workers

abbrev pub named : List ℕ → Workers → WorkerWord
named word workers = record { word = word; workers = workers }

unfoldable pub worker_words : List WorkerWord
worker_words = named (codes "auto") Auto
    ∷ named (codes "1") (Crew 1)
    ∷ named (codes "2") (Crew 2)
    ∷ named (codes "3") (Crew 3)
    ∷ named (codes "4") (Crew 4)
    ∷ named (codes "5") (Crew 5)
    ∷ named (codes "6") (Crew 6)
    ∷ named (codes "7") (Crew 7)
    ∷ named (codes "8") (Crew 8)
    ∷ named (codes "9") (Crew 9)
    ∷ named (codes "10") (Crew 10)
    ∷ named (codes "11") (Crew 11)
    ∷ named (codes "12") (Crew 12)
    ∷ named (codes "13") (Crew 13)
    ∷ named (codes "14") (Crew 14)
    ∷ named (codes "15") (Crew 15)
    ∷ named (codes "16") (Crew 16)
    ∷ []

abbrev pub workers_among : List WorkerWord → List ℕ → Option Workers
workers_among [] word = None
workers_among (w ∷ ws) word = if bytes_eq word w.word then Some w.workers else workers_among ws word

abbrev pub workers_named : List ℕ → Option Workers
workers_named word = workers_among worker_words word

-- one for each site, where there is no word
abbrev pub workers_in : Option (List ℕ) → Option Workers
workers_in None = Some EachSite
workers_in (Some word) = workers_named word
