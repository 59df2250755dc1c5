use Rattle.std.proofs.Common.{◌≡◌, ◌++◌, take, string_bytes, codes}
use Rattle.std.specs.List.{flat_map}
use Rattle.lusyn_printer.proofs.Branches.{all_branches, branches_from}
use Rattle.lusyn_printer.proofs.Operands.{operand}
use Rattle.lusyn_printer.proofs.expr.+printing.Given as goal

abbrev pub invariant-put_operands-loop-other : goal.invariant-put_operands-loop-other
invariant-put_operands-loop-other l = string_bytes l.text ≡ string_bytes l.initial.text ++ flat_map (λ e. codes ", " ++ operand e) (take l.other-index l.others)

abbrev pub invariant-put_branches-loop-i : goal.invariant-put_branches-loop-i
invariant-put_branches-loop-i l = string_bytes l.text ++ branches_from l.values l.patterns l.i ≡ string_bytes l.initial.text ++ all_branches l.values l.patterns
