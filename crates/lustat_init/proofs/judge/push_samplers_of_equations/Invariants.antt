use Rattle.std.proofs.Common.{◌≡◌, ◌++◌, map, drop}
use Rattle.lutree.specs.Tree.{equation_view}
use Rattle.lustat_init.specs.Judged.{spelled, sampler_names}
use Rattle.lustat_init.proofs.judge.push_samplers_of_equations.Given as goal

abbrev pub invariant-loop-q : goal.invariant-loop-q
invariant-loop-q l =
    spelled l.names.items ++ sampler_names (map equation_view (drop l.q-index l.equations))
    ≡ spelled l.initial.names.items ++ sampler_names (map equation_view l.equations)
