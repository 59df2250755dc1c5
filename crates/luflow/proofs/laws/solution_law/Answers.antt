use Rattle.luflow.specs.Solution.{solution}
use Rattle.luflow.proofs.Solutions.{IsSolution-solution, solutions_same}
use Rattle.luflow.proofs.laws.solution_law.Goals as goal

pub returns : goal.returns
returns c flat inputs ordered = record {
  exists = IsSolution-solution flat inputs ordered;
  only = λ σ s i t li. solutions_same flat inputs σ (solution flat inputs) ordered s (IsSolution-solution flat inputs ordered) i t li;
}
