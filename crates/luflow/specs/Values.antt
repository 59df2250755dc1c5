-- The value of one flow at one instant, from what it looks at.
use Rattle.std.specs.Prelude.{ℕ, suc, Bool, true, false, List, map, Option, Some, None, slice_get, unwrap_or}
use Rattle.luflow.specs.declared.data.Datum.{Datum}
use Rattle.luflow.specs.declared.data.Datum.TheVariants.{Int, Bool as Truth, Name, Nil}
use Rattle.luflow.specs.declared.data.Status.TheVariants.{Present, Absent}
use Rattle.luflow.specs.declared.form.Clock.{Clock}
use Rattle.luflow.specs.declared.form.Form.{Form}
use Rattle.luflow.specs.declared.form.Form.TheVariants.{Input, Constant, Copied, Unary, Binary, If, Pre}
use Rattle.luflow.specs.declared.form.Form.TheVariants.{Arrow, When, Current, Merge}
use Rattle.luflow.specs.declared.form.Outcome.{Outcome}
use Rattle.luflow.specs.declared.form.Outcome.TheVariants.{Gives, Faults, Stuck}
use Rattle.luflow.specs.Program.{InputsView, column_of}
use Rattle.luflow.specs.Operators.{single_of, double_of, choice_of}
use Rattle.luflow.specs.Streams.{Mark, Known, Broken, Streams, datum_of, clock_at, ticked, before}

-- What a value may look at: an input's datum, a flow's datum now, its last datum up to now and before now,
-- and whether the flow's own clock was true before.
pub record View : Type 0 where
  pub given : ℕ → Option Datum
  pub now : ℕ → Option Datum
  pub upto : ℕ → Option Datum
  pub last : ℕ → Option Datum
  pub was : Option Bool

abbrev pub gives : Option Datum → Outcome
gives None = Stuck
gives (Some d) = Gives d

abbrev pub on_one : (Datum → Outcome) → Option Datum → Outcome
on_one f None = Stuck
on_one f (Some x) = f x

abbrev pub on_two : (Datum → Datum → Outcome) → Option Datum → Option Datum → Outcome
on_two f None y = Stuck
on_two f (Some x) y = on_one (f x) y

abbrev pub on_three : (Datum → Datum → Datum → Outcome) → Option Datum → Option Datum → Option Datum → Outcome
on_three f None y z = Stuck
on_three f (Some x) y z = on_two (f x) y z

-- `a -> b`: a at the first instant of the clock, b afterwards
abbrev pub arrow_of : Option Bool → Datum → Datum → Outcome
arrow_of None a b = Stuck
arrow_of (Some false) a b = Gives a
arrow_of (Some true) a b = Gives b

-- the number of a value among those of its type that a clock may have
abbrev pub branch_of : Datum → Option ℕ
branch_of Nil = None
branch_of (Int n) = None
branch_of (Truth true) = Some 0
branch_of (Truth false) = Some 1
branch_of (Name n) = Some n

abbrev pub branch_value : Option ℕ → List (Option Datum) → Outcome
branch_value None branches = Stuck
branch_value (Some b) branches = gives (unwrap_or (slice_get branches b) None)

-- `merge c (true -> a) (false -> b)` or `merge c (A -> a) (B -> b)`: the branch of the value that c has
abbrev pub merge_of : Option Datum → List (Option Datum) → Outcome
merge_of None branches = Stuck
merge_of (Some d) branches = branch_value (branch_of d) branches

-- the value of a form where its clock is true
abbrev pub value_of : Form → View → Outcome
value_of (Input c) v = gives (v.given c)
value_of (Constant d) v = Gives d
value_of (Copied a) v = gives (v.now a)
value_of (Unary op a) v = on_one (single_of op) (v.now a)
value_of (Binary op a b) v = on_two (double_of op) (v.now a) (v.now b)
value_of (If c a b) v = on_three choice_of (v.now c) (v.now a) (v.now b)
value_of (Pre a) v = gives (v.last a)
value_of (Arrow a b) v = on_two (arrow_of v.was) (v.now a) (v.now b)
value_of (When a) v = gives (v.now a)
value_of (Current a) v = gives (v.upto a)
value_of (Merge c xs) v = merge_of (v.now c) (map v.now xs)

-- what a flow on clock k looks at, read from the streams
abbrev pub view_at : InputsView → Streams → Clock → ℕ → View
view_at inputs σ k t =
    record {
      given = λ c. slice_get (column_of inputs c) t;
      now = λ r. datum_of (σ r t);
      upto = λ r. before (σ r) (suc t);
      last = λ r. before (σ r) t;
      was = ticked (clock_at inputs σ k) t;
    }

abbrev pub value_at : InputsView → Streams → Clock → Form → ℕ → Outcome
value_at inputs σ k form t = value_of form (view_at inputs σ k t)

abbrev pub mark_of : Outcome → Mark
mark_of (Gives d) = Known (Present d)
mark_of (Faults kind) = Broken
mark_of Stuck = Broken

-- absent where the clock is false, broken where it is broken, else the value
abbrev pub under : Option Bool → Outcome → Mark
under None v = Broken
under (Some false) v = Known Absent
under (Some true) v = mark_of v
