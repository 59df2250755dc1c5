-- What each form gives at four instants where a stream that it looks at breaks, and what a link
-- carries of such streams; worked out by hand from what the language says of the forms.
use Rattle.std.specs.Prelude.{◌≡◌, ℕ, zero, suc, Bool, true, false, List, [], ◌∷◌, map, pos, negsuc, Option}
use Rattle.std.specs.Prelude.{Some, None, codes, replicate}
use Rattle.std.specs.List.{range_with_len}
use Rattle.lutree.specs.declared.expr.UnaryOperator.TheVariants.{Minus}
use Rattle.lutree.specs.declared.expr.BinaryOperator.TheVariants.{Subtract}
use Rattle.lutree.specs.declared.program.Kind.TheVariants.{Int as Ints}
use Rattle.luflow.specs.declared.data.Datum.TheVariants.{Int, Bool as Truth, Name, Nil}
use Rattle.luflow.specs.declared.data.Status.TheVariants.{Absent, Present}
use Rattle.luflow.specs.declared.form.Clock.{Clock}
use Rattle.luflow.specs.declared.form.Clock.TheVariants.{Base, On}
use Rattle.luflow.specs.declared.form.Form.{Form}
use Rattle.luflow.specs.declared.form.Form.TheVariants.{Copied, Unary, Binary, If, Pre, Arrow, When, Current}
use Rattle.luflow.specs.declared.form.Form.TheVariants.{Merge}
use Rattle.luflow.specs.declared.message.Msg.{Msg}
use Rattle.luflow.specs.declared.message.Body.TheVariants.{Value, Close}
use Rattle.luflow.specs.Program.{InputsView}
use Rattle.luflow.specs.Streams.{Mark, Known, Broken, Stream, Streams, clock_at, ticked, before}
use Rattle.luflow.specs.Messages.{marks, messages, presents}
use Rattle.luflow.specs.Solution.{says, solution}
use Rattle.luflow.specs.Vectors.{known, known_truth, known_name, ints, number, division, sampled_sum}
use Rattle.luflow.specs.Vectors.{IsWorked}

-- STREAMS

-- four instants, and no input
abbrev pub four_instants : InputsView
four_instants = record { instants = 4; columns = [] }

-- a stream by its first marks, absent after them
abbrev pub reported : List Mark → Stream
reported [] t = Known Absent
reported (m ∷ ms) zero = m
reported (m ∷ ms) (suc t) = reported ms t

-- a mark that is absent, and one that is nil
abbrev pub none : Mark
none = Known Absent

abbrev pub nil : Mark
nil = Known (Present Nil)

abbrev pub yes : Mark
yes = known_truth true

abbrev pub no : Mark
no = known_truth false

abbrev pub listed : List (List Mark) → Streams
listed [] i = reported []
listed (ms ∷ rows) zero = reported ms
listed (ms ∷ rows) (suc i) = listed rows i

-- 0 whole      1 2 3 4
-- 1 breaking   5 broken 7 8
-- 2 clock      true false true true
-- 3 lost       true broken true true, a clock that breaks
-- 4 slow       1 - 3 4, where the clock is true
-- 5 cut        1 - broken 4, where the clock is true
-- 6 other      - 6 - -, where the clock is false
-- 7 late       nil 1 2 3
-- 8 spent      broken 2 3 4
-- 9 idle       false false broken true, a clock that breaks before it was true
-- 10 mode      the names 0, 2, 1 and then broken
-- 11 pause     - 1 - 0, names where the clock is false
abbrev pub streams : Streams
streams =
    listed (
    map known (1 ∷ 2 ∷ 3 ∷ 4 ∷ [])
    ∷ (known 5 ∷ Broken ∷ known 7 ∷ known 8 ∷ [])
    ∷ (yes ∷ no ∷ yes ∷ yes ∷ [])
    ∷ (yes ∷ Broken ∷ yes ∷ yes ∷ [])
    ∷ (known 1 ∷ none ∷ known 3 ∷ known 4 ∷ [])
    ∷ (known 1 ∷ none ∷ Broken ∷ known 4 ∷ [])
    ∷ (none ∷ known 6 ∷ none ∷ none ∷ [])
    ∷ (nil ∷ known 1 ∷ known 2 ∷ known 3 ∷ [])
    ∷ (Broken ∷ known 2 ∷ known 3 ∷ known 4 ∷ [])
    ∷ (no ∷ no ∷ Broken ∷ yes ∷ [])
    ∷ (known_name 0 ∷ known_name 2 ∷ known_name 1 ∷ Broken ∷ [])
    ∷ (none ∷ known_name 1 ∷ none ∷ known_name 0 ∷ [])
    ∷ []
    )

-- the marks of a form on a clock, at four instants
abbrev pub given : Clock → Form → List Mark
given k form =
    marks (says four_instants streams (Some (record { form = form; clock = k; kind = Ints }))) 4

-- on the base clock, where the clock is true, where it is false, and where the lost one and the idle
-- one are true
abbrev pub on_base : Form → List Mark
on_base = given Base

abbrev pub on_clock : Form → List Mark
on_clock = given (On 2 (Truth true))

abbrev pub off_clock : Form → List Mark
off_clock = given (On 2 (Truth false))

abbrev pub on_lost : Form → List Mark
on_lost = given (On 3 (Truth true))

abbrev pub on_idle : Form → List Mark
on_idle = given (On 9 (Truth true))

-- CLOCKS

-- what a clock says at four instants, and whether it was true before each of them
abbrev pub reported_by : Clock → List (Option Bool)
reported_by k = map (clock_at four_instants streams k) (range_with_len 0 4)

abbrev pub ticked_by : Clock → List (Option Bool)
ticked_by k = map (ticked (clock_at four_instants streams k)) (range_with_len 0 4)

abbrev pub sure : Bool → Option Bool
sure = Some

pub record ClocksAre : Type 0 where
  -- the base clock ends with the table
  pub base_ends : map (clock_at four_instants streams Base) (range_with_len 0 5) ≡
      map sure (true ∷ true ∷ true ∷ true ∷ false ∷ [])
  pub of_true : reported_by (On 2 (Truth true)) ≡ map sure (true ∷ false ∷ true ∷ true ∷ [])
  pub of_false : reported_by (On 2 (Truth false)) ≡ map sure (false ∷ true ∷ false ∷ false ∷ [])
  -- broken where its variable is, whatever its sign, and both signs are false where it is absent
  pub of_lost : reported_by (On 3 (Truth true)) ≡ Some true ∷ None ∷ Some true ∷ Some true ∷ []
  pub of_lost_turned : reported_by (On 3 (Truth false)) ≡ Some false ∷ None ∷ Some false ∷ Some false ∷ []
  pub of_absent : map (λ b. clock_at four_instants (listed []) (On 0 (Truth b)) 0) (true ∷ false ∷ []) ≡
      map sure (false ∷ false ∷ [])
  -- on a name: true where the variable has it, false where it has another or is absent, broken where it is
  -- broken
  pub of_name : reported_by (On 10 (Name 1)) ≡ Some false ∷ Some false ∷ Some true ∷ None ∷ []
  pub of_last_name : reported_by (On 10 (Name 2)) ≡ Some false ∷ Some true ∷ Some false ∷ None ∷ []
  pub of_slow_name : reported_by (On 11 (Name 0)) ≡ map sure (false ∷ false ∷ false ∷ true ∷ [])
  -- true before: not at the first instant, and not known where it broke before, even if it was true
  pub base_before : ticked_by Base ≡ map sure (false ∷ true ∷ true ∷ true ∷ [])
  pub true_before : ticked_by (On 2 (Truth false)) ≡ map sure (false ∷ false ∷ true ∷ true ∷ [])
  pub lost_before : ticked_by (On 3 (Truth true)) ≡ Some false ∷ Some true ∷ None ∷ None ∷ []
  pub name_before : ticked_by (On 11 (Name 1)) ≡ map sure (false ∷ false ∷ true ∷ true ∷ [])
  pub idle_before : ticked_by (On 9 (Truth true)) ≡ Some false ∷ Some false ∷ Some false ∷ None ∷ []

-- FORMS

pub record PastIs : Type 0 where
  -- `pre` looks at its clock's instants, not at this one, and never recovers from a break before
  pub previous : on_base (Pre 0) ≡ nil ∷ map known (1 ∷ 2 ∷ 3 ∷ [])
  pub previous_broken : on_base (Pre 1) ≡ nil ∷ known 5 ∷ Broken ∷ Broken ∷ []
  pub previous_slow : on_clock (Pre 4) ≡ nil ∷ none ∷ known 1 ∷ known 3 ∷ []
  pub previous_cut : on_clock (Pre 5) ≡ nil ∷ none ∷ known 1 ∷ Broken ∷ []
  pub previous_spent : on_base (Pre 8) ≡ nil ∷ Broken ∷ Broken ∷ Broken ∷ []
  pub previous_lost : on_lost (Pre 0) ≡ nil ∷ Broken ∷ known 2 ∷ known 3 ∷ []
  -- `current` looks at this instant too, holds over absent ones, and never recovers from a break
  pub held : on_base (Current 4) ≡ map known (1 ∷ 1 ∷ 3 ∷ 4 ∷ [])
  pub held_cut : on_base (Current 5) ≡ known 1 ∷ known 1 ∷ Broken ∷ Broken ∷ []
  pub held_other : on_base (Current 6) ≡ nil ∷ map known (6 ∷ 6 ∷ 6 ∷ [])
  pub held_spent : on_base (Current 8) ≡ Broken ∷ Broken ∷ Broken ∷ Broken ∷ []
  -- what is before, of a stream that breaks at its third instant
  pub before_cut : map (before (streams 5)) (range_with_len 0 5) ≡
      Some Nil ∷ Some (Int (pos 1)) ∷ Some (Int (pos 1)) ∷ None ∷ None ∷ []

pub record ArrowsAre : Type 0 where
  -- the left one at the first instant of the clock, the right one at all later ones
  pub arrow : on_base (Arrow 1 0) ≡ known 5 ∷ Broken ∷ known 3 ∷ known 4 ∷ []
  pub arrow_turned : on_base (Arrow 0 1) ≡ known 1 ∷ Broken ∷ known 7 ∷ known 8 ∷ []
  pub slow : on_clock (Arrow 7 4) ≡ nil ∷ none ∷ known 3 ∷ known 4 ∷ []
  pub first_of_slow : off_clock (Arrow 6 0) ≡ none ∷ known 6 ∷ none ∷ none ∷ []
  -- both sides are looked at, at the first instant too
  pub right_broken : on_base (Arrow 0 8) ≡ Broken ∷ known 2 ∷ known 3 ∷ known 4 ∷ []
  pub left_broken : on_base (Arrow 8 0) ≡ Broken ∷ known 2 ∷ known 3 ∷ known 4 ∷ []
  -- broken for good where the clock broke, whether it was true before that or not
  pub after_lost : on_lost (Arrow 0 0) ≡ known 1 ∷ Broken ∷ Broken ∷ Broken ∷ []
  pub after_idle : on_idle (Arrow 0 0) ≡ none ∷ none ∷ Broken ∷ Broken ∷ []
  -- a nil on the side that isn't taken is no matter
  pub nil_right : on_base (Arrow 0 7) ≡ map known (1 ∷ 1 ∷ 2 ∷ 3 ∷ [])
  pub nil_left : on_base (Arrow 7 0) ≡ nil ∷ map known (2 ∷ 3 ∷ 4 ∷ [])

pub record ChoicesAre : Type 0 where
  -- `if`: the first where the condition is true, and broken or nil where one of the three is
  pub choice : on_base (If 2 0 7) ≡ nil ∷ known 1 ∷ known 3 ∷ known 4 ∷ []
  pub choice_turned : on_base (If 2 7 0) ≡ nil ∷ known 2 ∷ known 2 ∷ known 3 ∷ []
  pub not_taken_broken : on_base (If 2 1 0) ≡ known 5 ∷ Broken ∷ known 7 ∷ known 8 ∷ []
  pub other_not_taken_broken : on_base (If 2 0 8) ≡ Broken ∷ known 2 ∷ known 3 ∷ known 4 ∷ []
  pub condition_broken : on_base (If 3 0 0) ≡ known 1 ∷ Broken ∷ known 3 ∷ known 4 ∷ []
  -- `merge`: the first where the clock is true, the second where it is false; it looks at that alone
  pub merged : on_base (Merge 2 (4 ∷ 6 ∷ [])) ≡ map known (1 ∷ 6 ∷ 3 ∷ 4 ∷ [])
  pub merged_whole : on_base (Merge 2 (0 ∷ 7 ∷ [])) ≡ map known (1 ∷ 1 ∷ 3 ∷ 4 ∷ [])
  pub merged_turned : on_base (Merge 2 (7 ∷ 0 ∷ [])) ≡ nil ∷ map known (2 ∷ 2 ∷ 3 ∷ [])
  pub merged_cut : on_base (Merge 2 (5 ∷ 6 ∷ [])) ≡ known 1 ∷ known 6 ∷ Broken ∷ known 4 ∷ []
  pub not_taken_is_no_matter : on_base (Merge 2 (1 ∷ 0 ∷ [])) ≡ known 5 ∷ known 2 ∷ known 7 ∷ known 8 ∷ []
  pub clock_broken : on_base (Merge 3 (0 ∷ 0 ∷ [])) ≡ known 1 ∷ Broken ∷ known 3 ∷ known 4 ∷ []
  -- by names: the branch of the name's number, and none beyond the branches
  pub merged_names : on_base (Merge 10 (0 ∷ 1 ∷ 7 ∷ [])) ≡ known 1 ∷ known 1 ∷ known 7 ∷ Broken ∷ []
  pub merged_otherwise : on_base (Merge 10 (7 ∷ 0 ∷ 1 ∷ [])) ≡ nil ∷ Broken ∷ known 3 ∷ Broken ∷ []
  pub beyond_branches : on_base (Merge 10 (0 ∷ 1 ∷ [])) ≡ known 1 ∷ Broken ∷ known 7 ∷ Broken ∷ []

pub record OthersAre : Type 0 where
  -- absent where the clock is false, even if the operand breaks there, and broken where the clock is
  pub sample : on_clock (When 0) ≡ known 1 ∷ none ∷ known 3 ∷ known 4 ∷ []
  pub sample_of_breaking : on_clock (When 1) ≡ known 5 ∷ none ∷ known 7 ∷ known 8 ∷ []
  pub sample_elsewhere : off_clock (When 1) ≡ none ∷ Broken ∷ none ∷ none ∷ []
  pub sample_by_lost : on_lost (When 0) ≡ known 1 ∷ Broken ∷ known 3 ∷ known 4 ∷ []
  pub sample_by_name : given (On 10 (Name 2)) (When 0) ≡ none ∷ known 2 ∷ none ∷ Broken ∷ []
  pub constant : on_clock (number 9) ≡ known 9 ∷ none ∷ known 9 ∷ known 9 ∷ []
  pub constant_by_lost : on_lost (number 9) ≡ known 9 ∷ Broken ∷ known 9 ∷ known 9 ∷ []
  pub copy : on_base (Copied 1) ≡ known 5 ∷ Broken ∷ known 7 ∷ known 8 ∷ []
  -- an operator is broken where an operand is, and goes on after it; the right operand is taken away
  pub difference : on_base (Binary Subtract 1 0) ≡ known 4 ∷ Broken ∷ known 4 ∷ known 4 ∷ []
  pub difference_by_spent : on_base (Binary Subtract 0 8) ≡ Broken ∷ map known (0 ∷ 0 ∷ 0 ∷ [])
  pub difference_of_late : on_base (Binary Subtract 0 7) ≡ nil ∷ map known (1 ∷ 1 ∷ 1 ∷ [])
  pub minus_of_breaking : on_base (Unary Minus 8) ≡
      Broken ∷ map (λ n. Known (Present (Int n))) (negsuc 1 ∷ negsuc 2 ∷ negsuc 3 ∷ [])

-- MESSAGES

abbrev pub value_no : ℕ → ℕ → Msg
value_no k n = record { no = k; body = Value (Int (pos n)) }

abbrev pub name_no : ℕ → ℕ → Msg
name_no k n = record { no = k; body = Value (Name n) }

abbrev pub close_no : ℕ → Msg
close_no k = record { no = k; body = Close }

-- what a link carries of a stream in its first n instants
abbrev pub carried : Stream → ℕ → List Msg
carried s n = messages 0 (marks s n)

pub record MessagesAre : Type 0 where
  -- the values that are present, numbered without a gap, and the close with their count
  pub of_whole : carried (streams 0) 4 ≡
      value_no 0 1 ∷ value_no 1 2 ∷ value_no 2 3 ∷ value_no 3 4 ∷ close_no 4 ∷ []
  pub of_slow : carried (streams 4) 4 ≡ value_no 0 1 ∷ value_no 1 3 ∷ value_no 2 4 ∷ close_no 3 ∷ []
  pub of_other : carried (streams 6) 4 ≡ value_no 0 6 ∷ close_no 1 ∷ []
  pub of_fewer_instants : carried (streams 4) 2 ≡ value_no 0 1 ∷ close_no 1 ∷ []
  -- nil is a value
  pub of_late : carried (streams 7) 2 ≡
      record { no = 0; body = Value Nil } ∷ value_no 1 1 ∷ close_no 2 ∷ []
  -- so is a name, by its number
  pub of_mode : carried (streams 10) 3 ≡
      name_no 0 0 ∷ name_no 1 2 ∷ name_no 2 1 ∷ close_no 3 ∷ []
  pub of_pause : carried (streams 11) 4 ≡ name_no 0 1 ∷ name_no 1 0 ∷ close_no 2 ∷ []
  -- at a break it ends, without a close, and nothing comes after it
  pub of_breaking : carried (streams 1) 4 ≡ value_no 0 5 ∷ []
  pub of_cut : carried (streams 5) 4 ≡ value_no 0 1 ∷ []
  pub of_spent : carried (streams 8) 4 ≡ []
  pub before_the_break : carried (streams 5) 2 ≡ value_no 0 1 ∷ close_no 1 ∷ []
  -- where it is never present, and where there are no instants, the close alone, even if it would break
  pub of_absent : carried (reported []) 4 ≡ close_no 0 ∷ []
  pub of_no_instants : carried (streams 0) 0 ≡ close_no 0 ∷ []
  pub of_spent_and_no_instants : carried (streams 8) 0 ≡ close_no 0 ∷ []
  -- how often a stream is present before an instant
  pub presents_of_slow : map (presents (streams 4)) (range_with_len 0 5) ≡ 0 ∷ 1 ∷ 1 ∷ 2 ∷ 3 ∷ []
  pub presents_of_cut : map (presents (streams 5)) (range_with_len 0 5) ≡ 0 ∷ 1 ∷ 1 ∷ 1 ∷ 2 ∷ []

-- SOLUTIONS

-- x is 1, 0, 1, 2
abbrev pub one_zero_one_two : InputsView
one_zero_one_two =
    record {
      instants = 4;
      columns = record { name = codes "x"; values = ints (1 ∷ 0 ∷ 1 ∷ 2 ∷ []) } ∷ [];
    }

abbrev pub divided : ℕ → List Mark
divided i = marks (solution division one_zero_one_two i) 4

-- no instant of x and c
abbrev pub no_samples : InputsView
no_samples =
    record {
      instants = 0;
      columns = record { name = codes "x"; values = [] } ∷ record { name = codes "c"; values = [] } ∷ [];
    }

-- y = 1 div x breaks at its second instant and is there again; p = pre y and z = 0 -> p break one
-- instant later, for good
pub record SolutionsAre : Type 0 where
  pub worked_none : IsWorked sampled_sum no_samples
  pub y : divided 2 ≡ known 1 ∷ Broken ∷ known 1 ∷ known 0 ∷ []
  pub p : divided 3 ≡ nil ∷ known 1 ∷ Broken ∷ Broken ∷ []
  pub z : divided 1 ≡ known 0 ∷ known 1 ∷ Broken ∷ Broken ∷ []
  pub carried_of_y : messages 0 (divided 2) ≡ value_no 0 1 ∷ []
  pub carried_of_z : messages 0 (divided 1) ≡ value_no 0 0 ∷ value_no 1 1 ∷ []
  -- where there are no instants, each flow is absent from the first one on
  pub none_there : map (λ i. solution sampled_sum no_samples i 0) (range_with_len 0 8) ≡
      replicate 8 none

pub record FormVectors : Type 0 where
  pub clocks : ClocksAre
  pub past : PastIs
  pub arrows : ArrowsAre
  pub choices : ChoicesAre
  pub others : OthersAre
  pub messages_are : MessagesAre
  pub solutions : SolutionsAre
