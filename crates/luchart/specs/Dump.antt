-- A value change dump (IEEE 1364), which viewers of waves open:
--
--   $timescale 1 us $end
--   $scope module main $end
--   $var wire 1 v0 heat $end
--   $var integer 64 v1 switches $end
--   $upscope $end
--   $enddefinitions $end
--   #0
--   1v0
--   b1 v1
--   #4
--   0v0
--   b10 v1
--   #13
--
-- Each flow has a code, `v` and its number; a name with dots is that of a flow in scopes. An instant is a
-- time; those at which no flow changes are left out, and the last time is that behind the last instant.
use Rattle.std.specs.Prelude.{ℕ, zero, suc, ◌+◌, Bool, true, false, not, List, [], ◌∷◌, ◌++◌, length, codes}
use Rattle.std.specs.Prelude.{flat_map, nat_eq, ℤ, Option, Some, None, slice_get, if◌then◌else◌}
use Rattle.std.specs.Int.{w64, cast_unsigned}
use Rattle.std.specs.Fmt.{decimal, digits}
use Rattle.std.specs.List.{range_with_len}
use Rattle.luflow.specs.Operators.{int_same}
use Rattle.lutree.specs.declared.program.Kind.{Kind}
use Rattle.lutree.specs.declared.program.Kind.TheVariants as kinds
use Rattle.luflow.specs.declared.data.Datum.{Datum}
use Rattle.luflow.specs.declared.data.Datum.TheVariants as datum
use Rattle.luflow.specs.declared.data.Status.{Status}
use Rattle.luflow.specs.declared.data.Status.TheVariants.{Absent, Present}
use Rattle.luflow.specs.declared.variable.Enum.{Enum}
use Rattle.luflow.specs.Tables.{OutputColumn}
use Rattle.lutab.specs.Text.{status_text}
use Rattle.lutab.specs.Outputs.{instants_of}
use Rattle.luchart.specs.Signals.{Signal, signals_of, status_at}
use Rattle.luchart.specs.Scopes.{ended, moved, own_name, scopes}

-- VALUES

-- the code of flow k
abbrev pub code : ℕ → List ℕ
code k = codes "v" ++ decimal k

-- a number in two digits, below 0 as the complement of 64 of them
abbrev pub binary : ℤ → List ℕ
binary z = digits 2 false (cast_unsigned w64 z)

-- what a flow of truth values has: `z` is absent, `x` is nil
abbrev pub truth : Status → List ℕ
truth Absent = codes "z"
truth (Present (datum.Bool true)) = codes "1"
truth (Present (datum.Bool false)) = codes "0"
truth (Present d) = codes "x"

-- what a flow of numbers has
abbrev pub number : Status → List ℕ
number Absent = codes "bz "
number (Present (datum.Int z)) = codes "b" ++ (binary z ++ codes " ")
number (Present d) = codes "bx "

-- what a flow of an enumeration has: a word, as tables have it, `-` where it is absent
abbrev pub word : List (List ℕ) → Status → List ℕ
word names status = codes "s" ++ (status_text names status ++ codes " ")

-- a value, by the type of its flow
abbrev pub value : Kind → List (List ℕ) → Status → List ℕ
value kinds.Bool names status = truth status
value kinds.Int names status = number status
value (kinds.Enum place size) names status = word names status

-- whether two statuses are the same
abbrev pub same_datum : Datum → Datum → Bool
same_datum (datum.Int y) (datum.Int z) = int_same y z
same_datum (datum.Bool true) (datum.Bool b) = b
same_datum (datum.Bool false) (datum.Bool b) = not b
same_datum (datum.Name k) (datum.Name l) = nat_eq k l
same_datum datum.Nil datum.Nil = true
same_datum _ _ = false

abbrev pub same_status : Status → Status → Bool
same_status Absent Absent = true
same_status (Present c) (Present d) = same_datum c d
same_status _ _ = false

-- whether a flow has another value at an instant than at the one before; at the first each flow has
abbrev pub changes : Signal → ℕ → Bool
changes signal zero = true
changes signal (suc t) = not (same_status (status_at signal t) (status_at signal (suc t)))

-- HEADER

-- what a flow is in a dump
abbrev pub variable_type : Kind → List ℕ
variable_type kinds.Bool = codes "wire 1"
variable_type kinds.Int = codes "integer 64"
variable_type (kinds.Enum place size) = codes "string 1"

-- a flow in its scope
abbrev pub declaration : ℕ → Signal → List ℕ
declaration k signal =
    codes "$var " ++ (variable_type signal.kind
    ++ (codes " " ++ (code k ++ (codes " " ++ (own_name signal.name ++ codes " $end\n")))))

-- what is made of a flow, where there is one
abbrev pub made_of : (Signal → List ℕ) → Option Signal → List ℕ
made_of made None = []
made_of made (Some signal) = made signal

-- what is made of each flow, by its number
abbrev pub of_flows : (ℕ → Signal → List ℕ) → List Signal → List ℕ
of_flows made signals = flat_map (λ k. made_of (made k) (slice_get signals k))
    (range_with_len 0 (length signals))

-- flows from the one of number k on, each in its scopes, where the one before stands in some; at last all are
-- ended
abbrev pub scoped : List (List ℕ) → ℕ → List Signal → List ℕ
scoped before k [] = flat_map ended before
scoped before k (x ∷ xs) =
    moved before (scopes x.name) ++ (declaration k x ++ scoped (scopes x.name) (k + 1) xs)

abbrev pub declarations : List Signal → List ℕ
declarations signals = scoped [] 0 signals

-- a scope of the main node's name
abbrev pub opening : List ℕ → List ℕ
opening main = codes "$timescale 1 us $end\n$scope module " ++ (main ++ codes " $end\n")

-- the end of that scope, and of the header
abbrev pub closing : List ℕ
closing = codes "$upscope $end\n$enddefinitions $end\n"

abbrev pub header : List ℕ → List Signal → List ℕ
header main signals = opening main ++ (declarations signals ++ closing)

-- INSTANTS

-- a flow's new value, where it changes
abbrev pub change : ℕ → ℕ → Signal → List ℕ
change t k signal =
    if changes signal t then value signal.kind signal.names (status_at signal t) ++ (code k ++ codes "\n")
    else []

abbrev pub all_changes : List Signal → ℕ → List ℕ
all_changes signals t = of_flows (change t) signals

-- a time
abbrev pub time : ℕ → List ℕ
time t = codes "#" ++ (decimal t ++ codes "\n")

-- changes behind their time; nothing where there are none
abbrev pub timed : ℕ → List ℕ → List ℕ
timed t [] = []
timed t (b ∷ bs) = time t ++ (b ∷ bs)

abbrev pub moment : List Signal → ℕ → List ℕ
moment signals t = timed t (all_changes signals t)

-- so many instants, and the time behind the last
abbrev pub times : List Signal → ℕ → List ℕ
times signals instants = flat_map (moment signals) (range_with_len 0 instants) ++ time instants

-- THE DUMP

abbrev pub dump : List ℕ → List Signal → ℕ → List ℕ
dump main signals instants = header main signals ++ times signals instants

-- columns of these types, of a main node of this name
abbrev pub dump_text : List ℕ → List Enum → List Kind → List OutputColumn → List ℕ
dump_text main types kinds columns = dump main (signals_of types kinds columns) (instants_of columns)
