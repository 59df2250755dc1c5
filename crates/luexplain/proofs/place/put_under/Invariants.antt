use Rattle.std.proofs.Common.{◌≡◌, ◌++◌, map, take, string_bytes}
use Rattle.luexplain.specs.Place.{under}
use Rattle.luexplain.proofs.place.put_under.Given as goal

abbrev pub invariant-loop-byte : goal.invariant-loop-byte
invariant-loop-byte l = string_bytes l.text ≡ string_bytes l.initial.text ++ map under (take l.byte-index l.bytes)
