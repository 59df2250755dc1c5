use Rattle.std.proofs.Common.{◌≡◌, ◌++◌, take, string_bytes, codes}
use Rattle.std.specs.List.{flat_map}
use Rattle.lutree.specs.Tree.{declaration_view}
use Rattle.lusyn_printer.specs.Canonical.{declaration}
use Rattle.lusyn_printer.proofs.program.put_declarations.Given as goal

abbrev pub invariant-loop-other : goal.invariant-loop-other
invariant-loop-other l = string_bytes l.text ≡ string_bytes l.initial.text ++ flat_map (λ d. codes "; " ++ declaration (declaration_view d)) (take l.other-index l.others)
