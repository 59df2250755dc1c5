-- Streams: what a flow has at each instant, and what its past is.
use Rattle.std.specs.Prelude.{ℕ, zero, suc, Bool, true, false, ◌||◌, not, cond, Option, Some, None, nat_lt}
use Rattle.std.specs.Prelude.{nat_eq}
use Rattle.luflow.specs.declared.data.Datum.{Datum}
use Rattle.luflow.specs.declared.data.Datum.TheVariants.{Int, Bool as Truth, Name, Nil}
use Rattle.luflow.specs.declared.data.Status.{Status}
use Rattle.luflow.specs.declared.data.Status.TheVariants.{Absent, Present}
use Rattle.luflow.specs.declared.form.Clock.{Clock}
use Rattle.luflow.specs.declared.form.Clock.TheVariants.{Base, On}
use Rattle.luflow.specs.Program.{InputsView}
use Rattle.luflow.specs.Operators.{int_same}

-- A status, or what a fault leaves. (Lustre: a flow is a sequence of values with a clock; "broken" stands for
-- what a fault leaves.)
pub data Mark : Type 0 where
  Known : Status → Mark
  Broken : Mark

-- what one flow has at each instant
abbrev pub Stream : Type 0
Stream = ℕ → Mark

-- a stream for each place of a flat program
abbrev pub Streams : Type 0
Streams = ℕ → Stream

-- the datum, if it is there and sound
abbrev pub datum_of : Mark → Option Datum
datum_of (Known (Present d)) = Some d
datum_of (Known Absent) = None
datum_of Broken = None

abbrev pub is_broken : Mark → Bool
is_broken Broken = true
is_broken (Known s) = false

-- What a clock says at each instant: true, false, or nothing where it is broken.
abbrev pub Ticks : Type 0
Ticks = ℕ → Option Bool

-- whether a datum is this value; nil is none
abbrev pub is_value : Datum → Datum → Bool
is_value d Nil = false
is_value Nil (Int n) = false
is_value Nil (Truth b) = false
is_value Nil (Name n) = false
is_value (Int m) (Int n) = int_same m n
is_value (Int m) (Truth b) = false
is_value (Int m) (Name n) = false
is_value (Truth sign) (Int n) = false
is_value (Truth sign) (Truth b) = cond sign b (not b)
is_value (Truth sign) (Name n) = false
is_value (Name m) (Int n) = false
is_value (Name m) (Truth b) = false
is_value (Name m) (Name n) = nat_eq m n

-- a variable with a value, as a clock: true where the variable is present with that value
abbrev pub truth_in : Datum → Mark → Option Bool
truth_in d Broken = None
truth_in d (Known Absent) = Some false
truth_in d (Known (Present x)) = Some (is_value d x)

-- the base clock of the main node: true at every instant of the table, and never after it
abbrev pub base_clock : InputsView → Ticks
base_clock inputs t = Some (nat_lt t inputs.instants)

abbrev pub clock_at : InputsView → Streams → Clock → Ticks
clock_at inputs σ Base t = base_clock inputs t
clock_at inputs σ (On c d) t = truth_in d (σ c t)

-- whether either of two is true; nothing where one is broken
abbrev pub either : Option Bool → Option Bool → Option Bool
either None b = None
either (Some a) None = None
either (Some a) (Some b) = Some (a || b)

-- whether a clock was true before an instant; nothing where it was broken before it
abbrev pub ticked : Ticks → Ticks
ticked k zero = Some false
ticked k (suc t) = either (k t) (ticked k t)

-- the last datum, after one more status
abbrev pub newer : Mark → Option Datum → Option Datum
newer Broken last = None
newer (Known Absent) last = last
newer (Known (Present d)) None = None
newer (Known (Present d)) (Some last) = Some d

-- the last datum before an instant, nil where there is none; nothing where the stream was broken before it
abbrev pub before : Stream → ℕ → Option Datum
before s zero = Some Nil
before s (suc t) = newer (s t) (before s t)
