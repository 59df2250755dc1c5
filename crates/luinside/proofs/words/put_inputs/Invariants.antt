use Rattle.std.proofs.Common.{◌≡◌, ◌++◌, drop, string_bytes}
use Rattle.luinside.specs.Words.{inputs_from}
use Rattle.luinside.proofs.words.put_inputs.Given as goal

abbrev pub invariant-loop-c : goal.invariant-loop-c
invariant-loop-c l = string_bytes l.text ++ inputs_from l.types l.inputs l.t l.c (drop l.c l.variables) ≡ string_bytes l.fn.text ++ inputs_from l.types l.inputs l.t 0 l.variables
