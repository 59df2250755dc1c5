-- The classes of each form, what needs class 0, and how a clock has to begin, worked out by hand
-- from the rules of initialisation. Variable p may be nil at first, and every other is never nil.
use Rattle.std.specs.Prelude.{◌≡◌, Bool, true, false, List, [], ◌∷◌, ◌++◌, map, ℕ, codes}
use Rattle.std.specs.Str.{bytes_eq}
use Rattle.lutree.specs.declared.expr.UnaryOperator.TheVariants.{Minus, Not}
use Rattle.lutree.specs.declared.expr.BinaryOperator.TheVariants.{Less, Equal, And}
use Rattle.lutree.specs.declared.expr.Prefix.TheVariants.{Data as Data1, Pre}
use Rattle.lutree.specs.declared.expr.Infix.TheVariants.{Data as Data2, Arrow, FollowedBy}
use Rattle.lutree.specs.declared.expr.Pattern.TheVariants as patterns
use Rattle.lutree.specs.Tree.{Tree, EquationTree, NodeTree, program_of}
use Rattle.lutree.specs.Tree as tree
use Rattle.lustat_rules.specs.Clocks.{on, base, clocks_in}
use Rattle.lustat_rules.specs.Classes.{Classes, is_one, NeedsMet, IsRaised, SamplersAreZero, HasClasses}
use Rattle.lustat_rules.specs.Classes.{currents_in}
use Rattle.lustat_rules.specs.Accepted.{Rule, EquationKeeps}
use Rattle.lustat_rules.specs.Vectors.{int_variable, bool_variable, defines, x, c, plus, merge_on, call_one}
use Rattle.lustat_rules.specs.Vectors.{main, delay}

-- SPELLING

abbrev pub only_p : Classes
only_p name = bytes_eq name (codes "p")

abbrev pub p : Tree
p = tree.variable (codes "p")

abbrev pub d : Tree
d = tree.variable (codes "d")

abbrev pub one : Tree
one = tree.number 1

abbrev pub yes : Tree
yes = tree.truth true

abbrev pub no : Tree
no = tree.truth false

abbrev pub pre : Tree → Tree
pre = tree.unary Pre

abbrev pub minus : Tree → Tree
minus = tree.unary (Data1 Minus)

abbrev pub negated : Tree → Tree
negated = tree.unary (Data1 Not)

abbrev pub less : Tree → Tree → Tree
less = tree.binary (Data2 Less)

abbrev pub equals : Tree → Tree → Tree
equals = tree.binary (Data2 Equal)

abbrev pub both : Tree → Tree → Tree
both = tree.binary (Data2 And)

abbrev pub choose : Tree → Tree → Tree → Tree
choose = tree.choice

abbrev pub held_of : List ℕ → Tree
held_of = tree.current

abbrev pub arrow : Tree → Tree → Tree
arrow = tree.binary Arrow

abbrev pub follows : Tree → Tree → Tree
follows = tree.binary FollowedBy

abbrev pub when_c : Tree → Tree
when_c e = tree.when e (record { variable = codes "c"; pattern = patterns.Truth true })

abbrev pub unless_c : Tree → Tree
unless_c e = tree.when e (record { variable = codes "c"; pattern = patterns.Truth false })

abbrev pub when_p : Tree → Tree
when_p e = tree.when e (record { variable = codes "p"; pattern = patterns.Truth true })

abbrev pub merge_c : Tree → Tree → Tree
merge_c = merge_on (codes "c")

abbrev pub call_f : Tree → Tree
call_f = call_one (codes "f")

abbrev pub call_two : Tree → Tree → Tree
call_two a b = tree.call (codes "f") (tree.more a (tree.more b tree.none))

-- CLASSES

-- whether an expression is of class 1
abbrev pub late : Tree → Bool
late = is_one only_p

pub record ClassesAre : Type 0 where
  -- 1, true, x, p
  pub leaves : map late (one ∷ yes ∷ x ∷ p ∷ []) ≡ false ∷ false ∷ false ∷ true ∷ []
  -- - x, - p, not c, not p
  pub prefixes : map late (minus x ∷ minus p ∷ negated c ∷ negated p ∷ []) ≡
      false ∷ true ∷ false ∷ true ∷ []
  -- x + x, p + x, x + p, p + p; x < p, p = x, c and c
  pub sums : map late (plus x x ∷ plus p x ∷ plus x p ∷ plus p p ∷ []) ≡
      false ∷ true ∷ true ∷ true ∷ []
  pub others : map late (less x p ∷ equals p x ∷ both c c ∷ []) ≡ true ∷ true ∷ false ∷ []
  -- pre x, pre p, pre 1
  pub delays : map late (pre x ∷ pre p ∷ pre one ∷ []) ≡ true ∷ true ∷ true ∷ []
  -- the left side alone: x -> x, x -> p, p -> x, p -> p, and the same with fby
  pub arrows : map late (arrow x x ∷ arrow x p ∷ arrow p x ∷ arrow p p ∷ []) ≡
      false ∷ false ∷ true ∷ true ∷ []
  pub followed : map late (follows x x ∷ follows x p ∷ follows p x ∷ follows p p ∷ []) ≡
      false ∷ false ∷ true ∷ true ∷ []
  -- any of the three
  pub choices : map late (choose c x x ∷ choose p x x ∷ choose c p x ∷ choose c x p ∷ []) ≡
      false ∷ true ∷ true ∷ true ∷ []
  -- x when c, p when c, x when not c, p when not c, and that of x where the clock is p
  pub samples : map late (when_c x ∷ when_c p ∷ unless_c x ∷ unless_c p ∷ when_p x ∷ []) ≡
      false ∷ true ∷ false ∷ true ∷ false ∷ []
  -- never, whatever stands inside
  pub held : map late (held_of (codes "x") ∷ held_of (codes "p") ∷ []) ≡ false ∷ false ∷ []
  pub merged :
      map late (merge_c x x ∷ merge_c p x ∷ merge_c x p ∷ merge_on (codes "p") x x ∷ []) ≡
      false ∷ false ∷ false ∷ false ∷ []
  pub called : map late (call_f x ∷ call_f p ∷ tree.call (codes "f") tree.none ∷ []) ≡
      false ∷ false ∷ false ∷ []
  -- 0 -> pre x + 1, (pre x + 1) -> 0, if c then 0 -> pre x else x, pre x when c
  pub nested :
      map late (arrow one (plus (pre x) one) ∷ arrow (plus (pre x) one) one ∷ [])
      ++ map late (choose c (arrow one (pre x)) x ∷ when_c (pre x) ∷ []) ≡
      false ∷ true ∷ false ∷ true ∷ []

-- NEEDS

abbrev pub meets : Tree → Type 0
meets e = NeedsMet only_p e

abbrev pub misses : Tree → Type 0
misses e = ¬ meets e

-- what never needs class 0, and what is of class 0 where it is needed
pub record Met : Type 0 where
  pub variable : meets p
  pub sum : meets (plus p p)
  pub minus : meets (minus p)
  pub both_sides : meets (arrow p p)
  pub left_of_fby : meets (follows p x)
  pub choice : meets (choose p p p)
  pub sample : meets (when_c p)
  pub delay : meets (pre x)
  pub held : meets (held_of (codes "x"))
  pub merged : meets (merge_c x x)
  pub called : meets (call_two x x)
  pub no_argument : meets (tree.call (codes "f") tree.none)
  -- pre (0 -> p), pre current x, pre f(x, x), pre merge, and the same as arguments
  pub delay_of_arrow : meets (pre (arrow one p))
  pub delay_of_held : meets (pre (held_of (codes "x")))
  pub delay_of_call : meets (pre (call_two x x))
  pub delay_of_merged : meets (pre (merge_c x x))
  pub argument_of_merged : meets (call_f (merge_c x x))

-- where it is needed, and isn't there
pub record Missed : Type 0 where
  pub delay : misses (pre p)
  pub delay_of_sum : misses (pre (plus x p))
  pub right_of_fby : misses (follows x p)
  pub held : misses (held_of (codes "p"))
  pub merged : misses (merge_c p x)
  pub merged_other : misses (merge_c x p)
  pub argument : misses (call_two p x)
  pub second_argument : misses (call_two x p)
  -- the same inside each operand of each form, also behind `0 ->`
  pub in_minus : misses (minus (pre p))
  pub in_delay : misses (pre (arrow one (pre p)))
  pub in_left : misses (plus (pre p) x)
  pub in_right : misses (plus x (pre p))
  pub in_arrow : misses (arrow (pre p) x)
  pub after_arrow : misses (arrow x (pre p))
  pub in_fby : misses (follows (pre p) x)
  pub after_fby : misses (follows x (arrow one (pre p)))
  pub in_condition : misses (choose (pre p) x x)
  pub in_first : misses (choose c (pre p) x)
  pub in_second : misses (choose c x (pre p))
  pub in_sample : misses (when_c (pre p))
  pub in_branch : misses (merge_c (arrow one (pre p)) x)
  pub in_other_branch : misses (merge_c x (arrow one (pre p)))
  pub in_argument : misses (call_two (arrow one (pre p)) x)
  pub in_second_argument : misses (call_two x (arrow one (pre p)))

-- WHAT IS NAMED

-- f(x when c, current p)
-- + (if merge d (true -> current s) (false -> x when p) then pre x else 1 fby current x)
abbrev pub tangled : Tree
tangled =
    plus (call_two (when_c x) (held_of (codes "p")))
    (choose (merge_on (codes "d") (held_of (codes "s")) (when_p x)) (pre x)
    (follows one (held_of (codes "x"))))

pub record NamedAre : Type 0 where
  pub clocks : clocks_in tangled ≡ codes "c" ∷ codes "d" ∷ codes "p" ∷ []
  pub clocks_on_clocks : clocks_in (when_c (when_p (merge_c one (unless_c one)))) ≡
      codes "c" ∷ codes "c" ∷ codes "p" ∷ codes "c" ∷ []
  pub held : currents_in tangled ≡ codes "p" ∷ codes "s" ∷ codes "x" ∷ []
  pub held_inside : currents_in (arrow one (when_c (minus (merge_c one (held_of (codes "s")))))) ≡
      codes "s" ∷ []

-- VARIABLES

-- y = pre x, p = pre x, p = x; y = merge p .., y = merge c ..; y = x when p, y = x when c
pub record VariablesAre : Type 0 where
  pub below : ¬ IsRaised only_p (defines (codes "y") (pre x))
  pub raised : IsRaised only_p (defines (codes "p") (pre x))
  pub above : IsRaised only_p (defines (codes "p") x)
  pub one_below : ¬ IsRaised only_p (record { left = codes "p" ∷ codes "y" ∷ []; right = pre x })
  pub merged_by_late :
      ¬ SamplersAreZero only_p (defines (codes "y") (merge_on (codes "p") one one))
  pub merged : SamplersAreZero only_p (defines (codes "y") (merge_c p p))
  pub sampled_by_late : ¬ SamplersAreZero only_p (defines (codes "y") (plus one (when_p x)))
  pub sampled : SamplersAreZero only_p (defines (codes "y") (plus one (when_c p)))

-- NODES

-- y = RIGHT, where y is an output: what is of class 0 is accepted, and what is of class 1 isn't
pub record OutputsAre : Type 0 where
  pub call : HasClasses (delay (call_f x))
  pub merged : HasClasses (delay (merge_c x x))
  pub held : HasClasses (delay (held_of (codes "x")))
  pub delay_of_call : HasClasses (delay (arrow one (pre (call_f x))))
  pub delay_of_merged : HasClasses (delay (follows one (merge_c x x)))
  pub choice : HasClasses (delay (choose c (arrow one (pre x)) x))
  -- 0 -> (if c then pre x else x)
  pub choice_after : HasClasses (delay (arrow one (choose c (pre x) x)))
  pub sum_of_late : ¬ HasClasses (delay (plus one (pre x)))
  pub late_in_sum : ¬ HasClasses (delay (plus (pre x) one))
  pub minus_late : ¬ HasClasses (delay (minus (pre x)))
  pub late_condition : ¬ HasClasses (delay (choose (pre c) one one))
  pub late_choice : ¬ HasClasses (delay (choose yes (pre x) one))
  pub late_other_choice : ¬ HasClasses (delay (choose yes one (pre x)))
  pub late_sample : ¬ HasClasses (delay (when_c (pre x)))
  pub late_arrow : ¬ HasClasses (delay (arrow (pre x) one))

-- CURRENT

-- node main(d: bool; x: int) returns (y: int); var c: bool; v: int when c;
-- let c = RIGHT; v = x when c; y = current v; tel; or with `when not c`, by the sign
abbrev pub holding : Bool → Tree → NodeTree
holding sign right =
    record {
      name = main;
      inputs = bool_variable (codes "d") base ∷ int_variable (codes "x") base ∷ [];
      outputs = int_variable (codes "y") base ∷ [];
      locals = bool_variable (codes "c") base ∷ int_variable (codes "v")
          (on (codes "c") (patterns.Truth sign)) ∷ [];
      equations =
          defines (codes "c") right
          ∷ defines (codes "v") (tree.when x (record { variable = codes "c"; pattern = patterns.Truth sign }))
          ∷ defines (codes "y") (tree.current (codes "v"))
          ∷ [];
    }

abbrev pub y_holds : EquationTree
y_holds = defines (codes "y") (held_of (codes "v"))

abbrev pub begins : Bool → Tree → Type 0
begins sign right =
    let n = holding sign right in
    EquationKeeps (program_of (n ∷ [])) main Rule.current_may_be_nil n 2 y_holds

abbrev pub begins_not : Bool → Tree → Type 0
begins_not sign right = ¬ begins sign right

pub record BeginningsAre : Type 0 where
  -- v on c: true -> d, true fby d
  pub true_arrow : begins true (arrow yes d)
  pub true_fby : begins true (follows yes d)
  pub false_arrow : begins_not true (arrow no d)
  pub false_fby : begins_not true (follows no d)
  -- v on not c: false -> d, false fby d
  pub false_arrow_turned : begins false (arrow no d)
  pub false_fby_turned : begins false (follows no d)
  pub true_arrow_turned : begins_not false (arrow yes d)
  pub true_fby_turned : begins_not false (follows yes d)
  -- d -> true, d fby true, not (false -> d), true, d
  pub true_at_last : begins_not true (arrow d yes)
  pub true_behind_fby : begins_not true (follows d yes)
  pub negation : begins_not true (negated (arrow no d))
  pub constant : begins_not true yes
  pub variable : begins_not true d

pub record ClassVectors : Type 0 where
  pub classes : ClassesAre
  pub met : Met
  pub missed : Missed
  pub named : NamedAre
  pub variables : VariablesAre

pub record BeginningVectors : Type 0 where
  pub outputs : OutputsAre
  pub beginnings : BeginningsAre
