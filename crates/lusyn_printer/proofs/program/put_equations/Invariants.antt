use Rattle.std.proofs.Common.{◌≡◌, ◌++◌, take, string_bytes}
use Rattle.std.specs.List.{flat_map}
use Rattle.lutree.specs.Tree.{equation_view}
use Rattle.lusyn_printer.specs.Canonical.{equation}
use Rattle.lusyn_printer.proofs.program.put_equations.Given as goal

abbrev pub invariant-loop-defined : goal.invariant-loop-defined
invariant-loop-defined l = string_bytes l.text ≡ string_bytes l.initial.text ++ flat_map (λ e. equation (equation_view e)) (take l.defined-index l.equations)
