-- Clocks as the code has them, and the places of their variables.
use Rattle.std.specs.Prelude.{◌≡◌, ℕ, List, Option, Some, None}
use Rattle.lutree.specs.declared.expr.Pattern.{Pattern}
use Rattle.lutree.specs.declared.expr.Pattern.TheVariants as patterns
use Rattle.lutree.specs.Tree.{NodeTree}
use Rattle.lustat_rules.specs.Scope.{Clock, declarations_of, names_of, clock_of}
use Rattle.lustat_rules.specs.Clocks.{on, base}
use Rattle.lubase.specs.Places.{first_place}
use Rattle.lustat_rules.specs.declared.clock_ref.PatternRef.{PatternRef}
use Rattle.lustat_rules.specs.declared.clock_ref.PatternRef.TheVariants as lent
use Rattle.lustat_rules.specs.declared.clock_ref.ClockRef.{ClockRef}
use Rattle.lustat_rules.specs.declared.clock_ref.ClockRef.TheVariants as ref
use Rattle.lustat_rules.specs.declared.clock_ref.PlacedClock.{PlacedClock}

abbrev pub the_pattern : PatternRef → Pattern
the_pattern (lent.Truth b) = patterns.Truth b
the_pattern (lent.Label l) = patterns.Label l.now

abbrev pub the_clock : ClockRef → Clock
the_clock ref.Base = base
the_clock (ref.On c pattern) = on c.now (the_pattern pattern)

-- where the variable that a clock names stands first in a row of names
abbrev pub place_among : List (List ℕ) → Clock → Option ℕ
place_among names None = None
place_among names (Some c) = first_place names c.variable

-- the place of the variable that a clock names
abbrev pub place_before : NodeTree → Clock → Option ℕ
place_before n = place_among (names_of (declarations_of n))

-- the clock of the variable that a clock names
abbrev pub clock_under : NodeTree → Clock → Option Clock
clock_under n None = None
clock_under n (Some c) = clock_of n c.variable

abbrev pub placed_view : PlacedClock → Clock
placed_view k = the_clock k.clock

-- the place is that of the variable that the clock names
pub record IsPlaced (n : NodeTree) (k : PlacedClock) : Type 0 where
  pub at : k.place ≡ place_before n (placed_view k)
