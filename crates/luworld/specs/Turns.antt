-- What came of a turn, or of a part of one.
use Rattle.std.specs.Prelude.{Bool, true, false}
use Rattle.luworld.specs.declared.turn.Turn.{Turn}
use Rattle.luworld.specs.declared.turn.Turn.TheVariants.{Moved, Blocked, Over}

-- what holds where something moved, or nothing could move yet
abbrev pub IfGoes : Turn → Type 0 → Type 0
IfGoes Moved P = P
IfGoes Blocked P = P
IfGoes Over P = Unit {0}

abbrev pub has_moved : Turn → Bool
has_moved Moved = true
has_moved Blocked = false
has_moved Over = false

abbrev pub is_over : Turn → Bool
is_over Moved = false
is_over Blocked = false
is_over Over = true
