use Rattle.std.proofs.Common.{◌≡◌, ℕ, List, Bor, take}
use Rattle.std.specs.Prelude.{find, option_map}
use Rattle.clap.specs.Walk.{texts}
use Rattle.lusdist_call.specs.Violations.{is_unknown}
use Rattle.lusdist_call.proofs.violations.unobserved.Given as goal

abbrev pub invariant-loop-k : goal.invariant-loop-k
invariant-loop-k l = option_map (λ (s : Bor (List ℕ)). s.now) l.found ≡ find (is_unknown l.variables) (texts (take l.k l.names))
