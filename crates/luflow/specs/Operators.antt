-- The data operators: what each takes and gives, in whole numbers, and where it is a fault.
--
-- One table for each kind of operator: its types (`single_sort`; `asks`, `makes`), and what it gives at data
-- that are not nil (`at_int`, `at_truth`; `at_ints`, `at_truths`, `at_names`). All else here goes by what an
-- operator gives, and names none.
use Rattle.std.specs.Prelude.{◌≢◌, zero, suc, Bool, true, false, not, ◌&&◌, ◌||◌, if◌then◌else◌, Option, Some}
use Rattle.std.specs.Prelude.{None, List, codes, ℕ, nat_eq, ℤ, pos, negsuc, ◌+ℤ◌, ◌-ℤ◌, ◌*ℤ◌, neg_ℤ, int_le}
use Rattle.std.specs.Prelude.{int_lt, int_div, FitsSigned}
use Rattle.std.specs.Int.{w64}
use Rattle.luflow.specs.declared.data.Datum.{Datum}
use Rattle.luflow.specs.declared.data.Datum.TheVariants.{Int, Bool as Truth, Name, Nil}
use Rattle.lutree.specs.declared.program.Kind.{Kind}
use Rattle.lutree.specs.declared.program.Kind.TheVariants.{Int as Ints, Bool as Truths, Enum}
use Rattle.lutree.specs.declared.expr.UnaryOperator.{UnaryOperator}
use Rattle.lutree.specs.declared.expr.UnaryOperator.TheVariants.{Minus, Not}
use Rattle.lutree.specs.declared.expr.BinaryOperator.{BinaryOperator}
use Rattle.lutree.specs.declared.expr.BinaryOperator.TheVariants.{Add, Subtract, Multiply, Divide, Modulo}
use Rattle.lutree.specs.declared.expr.BinaryOperator.TheVariants.{Less, LessEqual, Greater, GreaterEqual}
use Rattle.lutree.specs.declared.expr.BinaryOperator.TheVariants.{Equal, Unequal, And, Or, Xor, Implies}
use Rattle.luflow.specs.declared.form.FaultKind.{FaultKind}
use Rattle.luflow.specs.declared.form.FaultKind.TheVariants.{Overflow, DivZero}
use Rattle.luflow.specs.declared.form.Outcome.{Outcome}
use Rattle.luflow.specs.declared.form.Outcome.TheVariants.{Gives, Faults, Stuck}

-- how a fault is reported
abbrev pub kind_text : FaultKind → List ℕ
kind_text Overflow = codes "overflow"
kind_text DivZero = codes "div-zero"

-- TYPES

-- the type of an operator's one operand, which is that of its result too
abbrev pub single_sort : UnaryOperator → Kind
single_sort Minus = Ints
single_sort Not = Truths

-- the type that an operator asks of both its operands; none is any
abbrev pub asks : BinaryOperator → Option Kind
asks Equal = None
asks Unequal = None
asks And = Some Truths
asks Or = Some Truths
asks Xor = Some Truths
asks Implies = Some Truths
asks op = Some Ints

-- the type of an operator's result
abbrev pub makes : BinaryOperator → Kind
makes Add = Ints
makes Subtract = Ints
makes Multiply = Ints
makes Divide = Ints
makes Modulo = Ints
makes op = Truths

abbrev pub allows : Option Kind → Kind → Bool
allows None s = true
allows (Some Ints) Ints = true
allows (Some Ints) Truths = false
allows (Some Ints) (Enum p n) = false
allows (Some Truths) Ints = false
allows (Some Truths) Truths = true
allows (Some Truths) (Enum p n) = false
allows (Some (Enum p n)) s = false

-- whether an operator takes operands that both have this type
abbrev pub takes : BinaryOperator → Kind → Bool
takes op s = allows (asks op) s

-- VALUES

-- What an operator gives at data that are not nil, in whole numbers: a whole number; a whole number by a
-- division, with its divisor; a truth value; or nothing, where the operator takes no such data.
pub data Exact : Type 0 where
  whole : ℤ → Exact
  divided : ℤ → ℤ → Exact
  verdict : Bool → Exact
  nothing : Exact

-- whether a whole number has 64 bits
abbrev pub fits : ℤ → Bool
fits z = int_le (negsuc 9223372036854775807) z && int_le z (pos 9223372036854775807)

abbrev pub int_of : ℤ → Outcome
int_of z = if fits z then Gives (Int z) else Faults Overflow

abbrev pub is_zero : ℤ → Bool
is_zero (pos zero) = true
is_zero (pos (suc n)) = false
is_zero (negsuc n) = false

-- x div y, toward zero; x mod y is x - y * (x div y)
abbrev pub quotient_of : ℤ → ℤ → Outcome
quotient_of x y = if is_zero y then Faults DivZero else int_of (int_div x y)

abbrev pub rest_of : ℤ → ℤ → Outcome
rest_of x y = if is_zero y then Faults DivZero else int_of (x -ℤ y *ℤ int_div x y)

abbrev pub truth_of : Bool → Outcome
truth_of b = Gives (Truth b)

abbrev pub int_same : ℤ → ℤ → Bool
int_same x y = int_le x y && int_le y x

abbrev pub differ : Bool → Bool → Bool
differ true b = not b
differ false b = b

-- an operator at a whole number
abbrev pub at_int : UnaryOperator → ℤ → Exact
at_int Minus x = whole (neg_ℤ x)
at_int op x = nothing

-- an operator at a truth value
abbrev pub at_truth : UnaryOperator → Bool → Exact
at_truth Not b = verdict (not b)
at_truth op b = nothing

-- an operator at two whole numbers
abbrev pub at_ints : BinaryOperator → ℤ → ℤ → Exact
at_ints Add x y = whole (x +ℤ y)
at_ints Subtract x y = whole (x -ℤ y)
at_ints Multiply x y = whole (x *ℤ y)
at_ints Divide x y = divided y (int_div x y)
at_ints Modulo x y = divided y (x -ℤ y *ℤ int_div x y)
at_ints Less x y = verdict (int_lt x y)
at_ints LessEqual x y = verdict (int_le x y)
at_ints Greater x y = verdict (int_lt y x)
at_ints GreaterEqual x y = verdict (int_le y x)
at_ints Equal x y = verdict (int_same x y)
at_ints Unequal x y = verdict (not (int_same x y))
at_ints op x y = nothing

-- an operator at two truth values
abbrev pub at_truths : BinaryOperator → Bool → Bool → Exact
at_truths Equal x y = verdict (not (differ x y))
at_truths Unequal x y = verdict (differ x y)
at_truths And x y = verdict (x && y)
at_truths Or x y = verdict (x || y)
at_truths Xor x y = verdict (differ x y)
at_truths Implies x y = verdict (not x || y)
at_truths op x y = nothing

-- an operator at two names of one enumeration, by their numbers
abbrev pub at_names : BinaryOperator → ℕ → ℕ → Exact
at_names Equal x y = verdict (nat_eq x y)
at_names Unequal x y = verdict (not (nat_eq x y))
at_names op x y = nothing

-- a whole number of more than 64 bits is a fault, and so is a divisor that is zero
abbrev pub settled : Exact → Outcome
settled (whole z) = int_of z
settled (divided y z) = if is_zero y then Faults DivZero else int_of z
settled (verdict b) = truth_of b
settled nothing = Stuck

abbrev pub ints_of : BinaryOperator → ℤ → ℤ → Outcome
ints_of op x y = settled (at_ints op x y)

abbrev pub truths_of : BinaryOperator → Bool → Bool → Outcome
truths_of op x y = settled (at_truths op x y)

abbrev pub names_of : BinaryOperator → ℕ → ℕ → Outcome
names_of op x y = settled (at_names op x y)

-- nil in, nil out
abbrev pub single_of : UnaryOperator → Datum → Outcome
single_of op Nil = Gives Nil
single_of op (Int x) = settled (at_int op x)
single_of op (Truth b) = settled (at_truth op b)
single_of op (Name x) = Stuck

abbrev pub double_of : BinaryOperator → Datum → Datum → Outcome
double_of op Nil y = Gives Nil
double_of op (Int a) Nil = Gives Nil
double_of op (Int a) (Int b) = ints_of op a b
double_of op (Int a) (Truth b) = Stuck
double_of op (Int a) (Name b) = Stuck
double_of op (Truth a) Nil = Gives Nil
double_of op (Truth a) (Int b) = Stuck
double_of op (Truth a) (Truth b) = truths_of op a b
double_of op (Truth a) (Name b) = Stuck
double_of op (Name a) Nil = Gives Nil
double_of op (Name a) (Int b) = Stuck
double_of op (Name a) (Truth b) = Stuck
double_of op (Name a) (Name b) = names_of op a b

abbrev pub is_nil : Datum → Bool
is_nil (Int n) = false
is_nil (Truth b) = false
is_nil (Name x) = false
is_nil Nil = true

-- `if`, strict: nil where one of the three is nil
abbrev pub picked_of : Datum → Datum → Datum → Outcome
picked_of (Truth true) x y = Gives x
picked_of (Truth false) x y = Gives y
picked_of (Int n) x y = Stuck
picked_of (Name n) x y = Stuck
picked_of Nil x y = Stuck

abbrev pub choice_of : Datum → Datum → Datum → Outcome
choice_of c x y = if is_nil c || (is_nil x || is_nil y) then Gives Nil else picked_of c x y

-- FAULTS

-- in the words of the language, a fault at what an operator gives: a divisor that is zero, or a whole number,
-- by a division with another divisor or by none, that 64 bits do not hold
pub data IsFaultAt : Exact → FaultKind → Type 0 where
  ZeroDivisor : (z : ℤ) → IsFaultAt (divided (pos 0) z) DivZero
  OverDivided : (y z : ℤ) → y ≢ pos 0 → ¬ FitsSigned w64 z → IsFaultAt (divided y z) Overflow
  OverWhole : (z : ℤ) → ¬ FitsSigned w64 z → IsFaultAt (whole z) Overflow

-- a fault of an operator, which is at data that are not nil
abbrev pub IsFaultOf : BinaryOperator → Datum → Datum → FaultKind → Type 0
IsFaultOf op Nil y kind = ⊥
IsFaultOf op (Int a) Nil kind = ⊥
IsFaultOf op (Int a) (Int b) kind = IsFaultAt (at_ints op a b) kind
IsFaultOf op (Int a) (Truth b) kind = ⊥
IsFaultOf op (Int a) (Name b) kind = ⊥
IsFaultOf op (Truth a) Nil kind = ⊥
IsFaultOf op (Truth a) (Int b) kind = ⊥
IsFaultOf op (Truth a) (Truth b) kind = IsFaultAt (at_truths op a b) kind
IsFaultOf op (Truth a) (Name b) kind = ⊥
IsFaultOf op (Name a) Nil kind = ⊥
IsFaultOf op (Name a) (Int b) kind = ⊥
IsFaultOf op (Name a) (Truth b) kind = ⊥
IsFaultOf op (Name a) (Name b) kind = IsFaultAt (at_names op a b) kind

abbrev pub IsFaultOfOne : UnaryOperator → Datum → FaultKind → Type 0
IsFaultOfOne op Nil kind = ⊥
IsFaultOfOne op (Int x) kind = IsFaultAt (at_int op x) kind
IsFaultOfOne op (Truth b) kind = IsFaultAt (at_truth op b) kind
IsFaultOfOne op (Name x) kind = ⊥
