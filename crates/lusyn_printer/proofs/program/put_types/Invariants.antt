use Rattle.std.proofs.Common.{◌≡◌, ◌++◌, take, string_bytes}
use Rattle.std.specs.List.{flat_map}
use Rattle.lutree.specs.Tree.{type_view}
use Rattle.lusyn_printer.specs.Canonical.{type_declaration}
use Rattle.lusyn_printer.proofs.program.put_types.Given as goal

abbrev pub invariant-loop-printed : goal.invariant-loop-printed
invariant-loop-printed l = string_bytes l.text ≡ string_bytes l.initial.text ++ flat_map (λ x. type_declaration (type_view x)) (take l.printed-index l.types)
