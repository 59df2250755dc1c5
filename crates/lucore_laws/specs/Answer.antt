-- What is said of a ranking.
use Rattle.std.specs.Prelude.{ℕ, List}
use Rattle.lucore_laws.specs.declared.ranking.Ranking.{Ranking}
use Rattle.lucore_laws.specs.declared.ranking.Ranking.TheVariants.{Ordered, Cyclic}

-- a fact of the order, if that is the answer
abbrev pub IfOrdered : Ranking → (List ℕ → Type 0) → Type 0
IfOrdered (Ordered order) P = P order
IfOrdered (Cyclic x) P = Unit {0}

-- a fact of the place, if that is the answer
abbrev pub IfCyclic : Ranking → (ℕ → Type 0) → Type 0
IfCyclic (Ordered order) P = Unit {0}
IfCyclic (Cyclic x) P = P x
