-- The data operators at chosen data, worked out by hand from what the language says of them.
-- `negsuc n` is -(n + 1).
use Rattle.std.specs.Prelude.{◌≡◌, ℕ, Bool, true, false, List, [], ◌∷◌, map, ℤ, pos, negsuc}
use Rattle.lutree.specs.declared.program.Kind.TheVariants.{Int as Ints, Bool as Truths, Enum}
use Rattle.lutree.specs.declared.expr.UnaryOperator.TheVariants.{Minus, Not}
use Rattle.lutree.specs.declared.expr.BinaryOperator.{BinaryOperator}
use Rattle.lutree.specs.declared.expr.BinaryOperator.TheVariants.{Add, Subtract, Multiply, Divide, Modulo}
use Rattle.lutree.specs.declared.expr.BinaryOperator.TheVariants.{Less, LessEqual, Greater, GreaterEqual}
use Rattle.lutree.specs.declared.expr.BinaryOperator.TheVariants.{Equal, Unequal, And, Or, Xor, Implies}
use Rattle.luflow.specs.declared.data.Datum.{Datum}
use Rattle.luflow.specs.declared.data.Datum.TheVariants.{Int, Bool as Truth, Name, Nil}
use Rattle.luflow.specs.declared.form.FaultKind.TheVariants.{Overflow, DivZero}
use Rattle.luflow.specs.declared.form.Outcome.{Outcome}
use Rattle.luflow.specs.declared.form.Outcome.TheVariants.{Gives, Faults, Stuck}
use Rattle.luflow.specs.Operators.{single_sort, makes, takes, single_of, double_of, choice_of}

-- the greatest and the least number of 64 bits
abbrev pub greatest : ℤ
greatest = pos 9223372036854775807

abbrev pub least : ℤ
least = negsuc 9223372036854775807

-- an operator at two numbers, at two truths, and at two names
abbrev pub ints : BinaryOperator → ℤ → ℤ → Outcome
ints op x y = double_of op (Int x) (Int y)

abbrev pub truths : BinaryOperator → Bool → Bool → Outcome
truths op x y = double_of op (Truth x) (Truth y)

abbrev pub names : BinaryOperator → ℕ → ℕ → Outcome
names op x y = double_of op (Name x) (Name y)

-- what comes out: a number, a truth, nil, or a fault
abbrev pub number_is : ℤ → Outcome
number_is z = Gives (Int z)

abbrev pub truth_is : Bool → Outcome
truth_is b = Gives (Truth b)

abbrev pub nil_is : Outcome
nil_is = Gives Nil

abbrev pub overflows : Outcome
overflows = Faults Overflow

abbrev pub zero_divides : Outcome
zero_divides = Faults DivZero

-- SUMS, DIFFERENCES, PRODUCTS

pub record SumsAre : Type 0 where
  pub sum : ints Add (pos 3) (negsuc 4) ≡ number_is (negsuc 1)
  pub to_greatest : ints Add (pos 9223372036854775806) (pos 1) ≡ number_is greatest
  pub past_greatest : ints Add greatest (pos 1) ≡ overflows
  pub to_least : ints Add (negsuc 9223372036854775806) (negsuc 0) ≡ number_is least
  pub past_least : ints Add least (negsuc 0) ≡ overflows
  pub of_both_ends : ints Add greatest least ≡ number_is (negsuc 0)
  -- the operands aren't turned, and a number is taken away
  pub difference : ints Subtract (pos 3) (pos 5) ≡ number_is (negsuc 1)
  pub difference_turned : ints Subtract (pos 5) (pos 3) ≡ number_is (pos 2)
  pub down_to_least : ints Subtract (negsuc 9223372036854775806) (pos 1) ≡ number_is least
  pub below_least : ints Subtract least (pos 1) ≡ overflows
  pub up_to_greatest : ints Subtract (negsuc 0) least ≡ number_is greatest
  pub above_greatest : ints Subtract (pos 0) least ≡ overflows
  pub greatest_and_one : ints Subtract greatest (negsuc 0) ≡ overflows
  -- a number is turned, and the least one can't be
  pub minus : single_of Minus (Int (pos 5)) ≡ number_is (negsuc 4)
  pub minus_of_minus : single_of Minus (Int (negsuc 4)) ≡ number_is (pos 5)
  pub minus_zero : single_of Minus (Int (pos 0)) ≡ number_is (pos 0)
  pub minus_greatest : single_of Minus (Int greatest) ≡ number_is (negsuc 9223372036854775806)
  pub minus_above_least : single_of Minus (Int (negsuc 9223372036854775806)) ≡ number_is greatest
  pub minus_least : single_of Minus (Int least) ≡ overflows

pub record ProductsAre : Type 0 where
  pub product : ints Multiply (pos 6) (negsuc 6) ≡ number_is (negsuc 41)
  pub product_of_minuses : ints Multiply (negsuc 5) (negsuc 6) ≡ number_is (pos 42)
  pub nothing_of_least : ints Multiply (pos 0) least ≡ number_is (pos 0)
  -- 2 ^ 32 times 2 ^ 31 is one too many, and with a sign just the least
  pub past_greatest : ints Multiply (pos 4294967296) (pos 2147483648) ≡ overflows
  pub to_least : ints Multiply (negsuc 4294967295) (pos 2147483648) ≡ number_is least
  pub past_least : ints Multiply (negsuc 4294967296) (pos 2147483648) ≡ overflows
  -- the last square that 64 bits hold, and the next one
  pub last_square : ints Multiply (pos 3037000499) (pos 3037000499) ≡
      number_is (pos 9223372030926249001)
  pub next_square : ints Multiply (pos 3037000500) (pos 3037000500) ≡ overflows
  pub least_turned : ints Multiply least (negsuc 0) ≡ overflows
  pub turned_least : ints Multiply (negsuc 0) least ≡ overflows
  pub greatest_turned : ints Multiply greatest (negsuc 0) ≡ number_is (negsuc 9223372036854775806)

-- DIVISIONS

-- 7 and 2 with all signs: the quotient goes toward zero, the rest has the sign of the first number
pub record QuotientsAre : Type 0 where
  pub quotient : ints Divide (pos 7) (pos 2) ≡ number_is (pos 3)
  pub quotient_of_minus : ints Divide (negsuc 6) (pos 2) ≡ number_is (negsuc 2)
  pub quotient_by_minus : ints Divide (pos 7) (negsuc 1) ≡ number_is (negsuc 2)
  pub quotient_of_minuses : ints Divide (negsuc 6) (negsuc 1) ≡ number_is (pos 3)
  pub small : ints Divide (negsuc 0) (pos 2) ≡ number_is (pos 0)
  pub of_zero : ints Divide (pos 0) (negsuc 6) ≡ number_is (pos 0)
  pub exact : ints Divide (negsuc 5) (pos 2) ≡ number_is (negsuc 2)
  -- the least number divided by 2, by 1, by itself, and by -1, which 64 bits don't hold
  pub half_of_least : ints Divide least (pos 2) ≡ number_is (negsuc 4611686018427387903)
  pub least_by_one : ints Divide least (pos 1) ≡ number_is least
  pub least_by_least : ints Divide least least ≡ number_is (pos 1)
  pub least_by_minus : ints Divide least (negsuc 0) ≡ overflows
  pub greatest_by_minus : ints Divide greatest (negsuc 0) ≡ number_is (negsuc 9223372036854775806)
  pub greatest_by_least : ints Divide greatest least ≡ number_is (pos 0)
  -- nothing is divided by zero, zero and the least number neither
  pub by_zero : ints Divide (pos 7) (pos 0) ≡ zero_divides
  pub minus_by_zero : ints Divide (negsuc 6) (pos 0) ≡ zero_divides
  pub zero_by_zero : ints Divide (pos 0) (pos 0) ≡ zero_divides
  pub least_by_zero : ints Divide least (pos 0) ≡ zero_divides

pub record RestsAre : Type 0 where
  pub rest : ints Modulo (pos 7) (pos 2) ≡ number_is (pos 1)
  pub rest_of_minus : ints Modulo (negsuc 6) (pos 2) ≡ number_is (negsuc 0)
  pub rest_by_minus : ints Modulo (pos 7) (negsuc 1) ≡ number_is (pos 1)
  pub rest_of_minuses : ints Modulo (negsuc 6) (negsuc 1) ≡ number_is (negsuc 0)
  pub small : ints Modulo (negsuc 0) (pos 2) ≡ number_is (negsuc 0)
  pub none : ints Modulo (negsuc 5) (pos 2) ≡ number_is (pos 0)
  -- the least number has no rest by -1, where its quotient is a fault
  pub least_by_minus : ints Modulo least (negsuc 0) ≡ number_is (pos 0)
  pub least_by_greatest : ints Modulo least greatest ≡ number_is (negsuc 0)
  pub greatest_by_least : ints Modulo greatest least ≡ number_is greatest
  pub by_zero : ints Modulo (pos 7) (pos 0) ≡ zero_divides
  pub zero_by_zero : ints Modulo (pos 0) (pos 0) ≡ zero_divides
  pub least_by_zero : ints Modulo least (pos 0) ≡ zero_divides

-- COMPARISONS AND TRUTHS

-- < <= > >= = <>
abbrev pub comparisons : List BinaryOperator
comparisons = Less ∷ LessEqual ∷ Greater ∷ GreaterEqual ∷ Equal ∷ Unequal ∷ []

abbrev pub compared : ℤ → ℤ → List Outcome
compared x y = map (λ op. ints op x y) comparisons

-- what the six say of a number and a greater one, an equal one, and a less one
abbrev pub of_less : List Outcome
of_less = map truth_is (true ∷ true ∷ false ∷ false ∷ false ∷ true ∷ [])

abbrev pub of_equal : List Outcome
of_equal = map truth_is (false ∷ true ∷ false ∷ true ∷ true ∷ false ∷ [])

abbrev pub of_greater : List Outcome
of_greater = map truth_is (false ∷ false ∷ true ∷ true ∷ false ∷ true ∷ [])

pub record ComparisonsAre : Type 0 where
  pub less : compared (pos 1) (pos 2) ≡ of_less
  pub equal : compared (pos 2) (pos 2) ≡ of_equal
  pub greater : compared (pos 2) (pos 1) ≡ of_greater
  pub minus_less : compared (negsuc 1) (negsuc 0) ≡ of_less
  pub minus_equal : compared (negsuc 1) (negsuc 1) ≡ of_equal
  pub minus_greater : compared (negsuc 0) (negsuc 1) ≡ of_greater
  -- by the sign and not by the size
  pub minus_before_plus : compared (negsuc 1) (pos 1) ≡ of_less
  pub plus_after_minus : compared (pos 1) (negsuc 1) ≡ of_greater
  pub zero : compared (pos 0) (pos 0) ≡ of_equal
  pub below_zero : compared (negsuc 0) (pos 0) ≡ of_less
  pub ends : compared least greatest ≡ of_less
  pub ends_turned : compared greatest least ≡ of_greater

-- true with true, true with false, false with true, false with false
abbrev pub four : BinaryOperator → List Outcome
four op =
    truths op true true ∷ truths op true false ∷ truths op false true ∷ truths op false false ∷ []

pub record TruthsAre : Type 0 where
  pub conjunction : four And ≡ map truth_is (true ∷ false ∷ false ∷ false ∷ [])
  pub disjunction : four Or ≡ map truth_is (true ∷ true ∷ true ∷ false ∷ [])
  pub exclusive : four Xor ≡ map truth_is (false ∷ true ∷ true ∷ false ∷ [])
  pub implication : four Implies ≡ map truth_is (true ∷ false ∷ true ∷ true ∷ [])
  pub equality : four Equal ≡ map truth_is (true ∷ false ∷ false ∷ true ∷ [])
  pub inequality : four Unequal ≡ map truth_is (false ∷ true ∷ true ∷ false ∷ [])
  pub not_true : single_of Not (Truth true) ≡ truth_is false
  pub not_false : single_of Not (Truth false) ≡ truth_is true

-- NIL

abbrev pub all_operators : List BinaryOperator
all_operators =
    Add ∷ Subtract ∷ Multiply ∷ Divide ∷ Modulo
    ∷ Less ∷ LessEqual ∷ Greater ∷ GreaterEqual ∷ Equal ∷ Unequal
    ∷ And ∷ Or ∷ Xor ∷ Implies ∷ []

abbrev pub fifteen_nils : List Outcome
fifteen_nils = map (λ op. nil_is) all_operators

abbrev pub fifteen_stuck : List Outcome
fifteen_stuck = map (λ op. Stuck) all_operators

-- the number of an `if`: where its condition is true and where it is false
abbrev pub choice : Datum → Datum → Datum → Outcome
choice = choice_of

abbrev pub one : Datum
one = Int (pos 1)

abbrev pub two : Datum
two = Int (pos 2)

pub record NilsAre : Type 0 where
  -- nil on one side is nil, whatever stands on the other: true beside `or`, false beside `and`, a
  -- divisor that is zero
  pub on_the_left : map (λ op. double_of op Nil (Int (pos 0))) all_operators ≡ fifteen_nils
  pub on_the_right : map (λ op. double_of op (Int (pos 0)) Nil) all_operators ≡ fifteen_nils
  pub before_true : map (λ op. double_of op Nil (Truth true)) all_operators ≡ fifteen_nils
  pub after_true : map (λ op. double_of op (Truth true) Nil) all_operators ≡ fifteen_nils
  pub before_false : map (λ op. double_of op Nil (Truth false)) all_operators ≡ fifteen_nils
  pub after_false : map (λ op. double_of op (Truth false) Nil) all_operators ≡ fifteen_nils
  pub before_name : map (λ op. double_of op Nil (Name 0)) all_operators ≡ fifteen_nils
  pub after_name : map (λ op. double_of op (Name 0) Nil) all_operators ≡ fifteen_nils
  pub on_both : map (λ op. double_of op Nil Nil) all_operators ≡ fifteen_nils
  pub minus : single_of Minus Nil ≡ nil_is
  pub negation : single_of Not Nil ≡ nil_is
  -- `if` takes the first where its condition is true, and is nil where one of the three is
  pub where_true : choice (Truth true) one two ≡ Gives one
  pub where_false : choice (Truth false) one two ≡ Gives two
  pub nil_condition : choice Nil one one ≡ nil_is
  pub nil_taken : choice (Truth true) Nil two ≡ nil_is
  pub nil_not_taken : choice (Truth true) one Nil ≡ nil_is
  pub nil_taken_if_false : choice (Truth false) one Nil ≡ nil_is
  pub nil_not_taken_if_false : choice (Truth false) Nil two ≡ nil_is

-- NAMES

-- the operators that take no names
abbrev pub nameless : List BinaryOperator
nameless =
    Add ∷ Subtract ∷ Multiply ∷ Divide ∷ Modulo
    ∷ Less ∷ LessEqual ∷ Greater ∷ GreaterEqual ∷ And ∷ Or ∷ Xor ∷ Implies ∷ []

pub record NamesAre : Type 0 where
  -- two names are equal or not, and no other operator takes them
  pub same : names Equal 1 1 ≡ truth_is true
  pub other : names Equal 0 1 ≡ truth_is false
  pub other_turned : names Equal 1 0 ≡ truth_is false
  pub unequal : names Unequal 0 1 ≡ truth_is true
  pub not_unequal : names Unequal 2 2 ≡ truth_is false
  pub others : map (λ op. names op 1 1) nameless ≡ map (λ op. Stuck) nameless
  pub singles : map (λ op. single_of op (Name 0)) (Minus ∷ Not ∷ []) ≡ Stuck ∷ Stuck ∷ []
  -- a name is no number and no truth
  pub beside_number : map (λ op. double_of op (Name 1) (Int (pos 1))) all_operators ≡ fifteen_stuck
  pub behind_number : map (λ op. double_of op (Int (pos 1)) (Name 1)) all_operators ≡ fifteen_stuck
  pub beside_truth : map (λ op. double_of op (Name 1) (Truth false)) all_operators ≡ fifteen_stuck
  pub behind_truth : map (λ op. double_of op (Truth false) (Name 1)) all_operators ≡ fifteen_stuck
  -- an `if` chooses between names, and never by one
  pub where_true : choice_of (Truth true) (Name 0) (Name 2) ≡ Gives (Name 0)
  pub where_false : choice_of (Truth false) (Name 0) (Name 2) ≡ Gives (Name 2)
  pub by_name : choice_of (Name 0) (Name 0) (Name 2) ≡ Stuck

-- TYPES

-- which types an operator takes: two numbers, two truths, two names
abbrev pub taken : BinaryOperator → List Bool
taken op = takes op Ints ∷ takes op Truths ∷ takes op (Enum 0 3) ∷ []

abbrev pub of_ints : List Bool
of_ints = true ∷ false ∷ false ∷ []

abbrev pub of_truths : List Bool
of_truths = false ∷ true ∷ false ∷ []

abbrev pub of_any : List Bool
of_any = true ∷ true ∷ true ∷ []

pub record TypesAre : Type 0 where
  pub takes_are : map taken all_operators ≡
      of_ints ∷ of_ints ∷ of_ints ∷ of_ints ∷ of_ints
      ∷ of_ints ∷ of_ints ∷ of_ints ∷ of_ints ∷ of_any ∷ of_any
      ∷ of_truths ∷ of_truths ∷ of_truths ∷ of_truths ∷ []
  pub makes_are : map makes all_operators ≡
      Ints ∷ Ints ∷ Ints ∷ Ints ∷ Ints ∷ Truths ∷ Truths ∷ Truths ∷ Truths ∷ Truths ∷ Truths
      ∷ Truths ∷ Truths ∷ Truths ∷ Truths ∷ []
  pub single_are : map single_sort (Minus ∷ Not ∷ []) ≡ Ints ∷ Truths ∷ []

pub record OperatorVectors : Type 0 where
  pub sums : SumsAre
  pub products : ProductsAre
  pub quotients : QuotientsAre
  pub rests : RestsAre
  pub comparisons_are : ComparisonsAre
  pub truths_are : TruthsAre
  pub nils : NilsAre
  pub names_are : NamesAre
  pub types : TypesAre
