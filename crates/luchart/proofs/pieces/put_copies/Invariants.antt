use Rattle.std.proofs.Common.{◌≡◌, ◌++◌, string_bytes}
use Rattle.luchart.specs.Pieces.{repeated}
use Rattle.luchart.proofs.pieces.put_copies.Given as goal

abbrev pub invariant-loop-k : goal.invariant-loop-k
invariant-loop-k l = string_bytes l.text ≡ string_bytes l.initial.text ++ repeated l.piece l._k
