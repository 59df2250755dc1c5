-- Worked programs: what the rules make of them.
use Rattle.std.specs.Prelude.{◌≡◌, ℕ, true, false, List, [], ◌∷◌, map, Option, Some, None, codes}
use Rattle.lutree.specs.declared.expr.UnaryOperator.TheVariants.{Minus, Not}
use Rattle.lutree.specs.declared.expr.BinaryOperator.TheVariants.{Add, Multiply, Less, Equal, And}
use Rattle.lutree.specs.declared.expr.Prefix.TheVariants.{Data as Data1, Pre}
use Rattle.lutree.specs.declared.expr.Infix.TheVariants.{Data as Data2, Arrow, FollowedBy}
use Rattle.lutree.specs.declared.expr.Pattern.TheVariants as patterns
use Rattle.lutree.specs.declared.program.Kind.{Kind}
use Rattle.lutree.specs.declared.program.Kind.TheVariants.{Int, Bool as Truths}
use Rattle.lutree.specs.Tree.{Tree, Trees, DeclarationTree, EquationTree, NodeTree, ProgramTree, program_of}
use Rattle.lutree.specs.Tree.{declared}
use Rattle.lutree.specs.Tree as tree
use Rattle.lustat_rules.specs.Scope.{Clock, kind_of, clock_of}
use Rattle.lustat_rules.specs.Naming.{Call, names_in, calls_in, inner_calls, value_count}
use Rattle.lustat_rules.specs.Typing.{type_of, right_types}
use Rattle.lustat_rules.specs.Clocks.{on, base}
use Rattle.lustat_rules.specs.Classes.{HasClasses}
use Rattle.lustat_rules.specs.Accepted.{Rule, stage, EquationKeeps, DeclarationKeeps, NodeKeeps, ProgramKeeps}
use Rattle.lustat_rules.specs.Accepted.{IsAccepted, IsRefused}

-- SPELLING

abbrev pub int_variable : List ℕ → Clock → DeclarationTree
int_variable x k = declared x Int k

abbrev pub bool_variable : List ℕ → Clock → DeclarationTree
bool_variable x k = declared x Truths k

abbrev pub defines : List ℕ → Tree → EquationTree
defines x e = record { left = x ∷ []; right = e }

abbrev pub x : Tree
x = tree.variable (codes "x")

abbrev pub y : Tree
y = tree.variable (codes "y")

abbrev pub c : Tree
c = tree.variable (codes "c")

abbrev pub s : Tree
s = tree.variable (codes "s")

abbrev pub plus : Tree → Tree → Tree
plus = tree.binary (Data2 Add)

abbrev pub x_when_c : Tree
x_when_c = tree.when x (record { variable = codes "c"; pattern = patterns.Truth true })

-- merge NAME (true -> a) (false -> b)
abbrev pub merge_on : List ℕ → Tree → Tree → Tree
merge_on c a b = tree.merge c (patterns.Truth true ∷ patterns.Truth false ∷ [])
    (tree.more a (tree.more b tree.none))

abbrev pub call_one : List ℕ → Tree → Tree
call_one f e = tree.call f (tree.more e tree.none)

-- PROGRAMS

-- node main(x: int; c: bool) returns (y: int; z: int when c); var s: int when c;
-- let s = x when c; z = 2 * s; y = x -> pre y + x; tel
abbrev pub sampler : NodeTree
sampler =
    record {
      name = codes "main";
      inputs = int_variable (codes "x") base ∷ bool_variable (codes "c") base ∷ [];
      outputs = int_variable (codes "y") base ∷ int_variable (codes "z")
          (on (codes "c") (patterns.Truth true)) ∷ [];
      locals = int_variable (codes "s") (on (codes "c") (patterns.Truth true)) ∷ [];
      equations =
          defines (codes "s") x_when_c
          ∷ defines (codes "z") (tree.binary (Data2 Multiply) (tree.number 2) s)
          ∷ defines (codes "y") (tree.binary Arrow x (plus (tree.unary Pre y) x))
          ∷ [];
    }

-- node two(x: int) returns (p: int; q: bool); let p = x + 1; q = x < 2; tel
abbrev pub two : NodeTree
two =
    record {
      name = codes "two";
      inputs = int_variable (codes "x") base ∷ [];
      outputs = int_variable (codes "p") base ∷ bool_variable (codes "q") base ∷ [];
      locals = [];
      equations = defines (codes "p") (plus x (tree.number 1)) ∷ defines (codes "q")
          (tree.binary (Data2 Less) x (tree.number 2)) ∷ [];
    }

-- node one(x: int) returns (p: int); let p = one(x); tel
abbrev pub one : NodeTree
one =
    record {
      name = codes "one";
      inputs = int_variable (codes "x") base ∷ [];
      outputs = int_variable (codes "p") base ∷ [];
      locals = [];
      equations = defines (codes "p") (call_one (codes "one") x) ∷ [];
    }

abbrev pub program : ProgramTree
program = program_of (sampler ∷ two ∷ one ∷ [])

-- NAMES AND CALLS

-- one(one(x) + s when c)
abbrev pub nested : Tree
nested = call_one (codes "one") (plus (call_one (codes "one") x)
    (tree.when s (record { variable = codes "c"; pattern = patterns.Truth true })))

abbrev pub to_one : Call
to_one = record { node = codes "one"; arguments = 1 }

abbrev pub to_two : Call
to_two = record { node = codes "two"; arguments = 1 }

abbrev pub to_main : Call
to_main = record { node = codes "main"; arguments = 1 }

pub record NamesAre : Type 0 where
  pub names : names_in nested ≡ codes "x" ∷ codes "s" ∷ codes "c" ∷ []
  pub calls : calls_in nested ≡ to_one ∷ to_one ∷ []
  pub inner : inner_calls nested ≡ to_one ∷ []
  pub values_of_two : value_count program (call_one (codes "two") x) ≡ Some 2
  pub values_of_lost : value_count program (call_one (codes "lost") x) ≡ None
  pub values_of_sum : value_count program (plus x x) ≡ Some 1
  pub kind_of_c : kind_of sampler (codes "c") ≡ Some Truths
  pub kind_of_w : kind_of sampler (codes "w") ≡ None
  pub clock_of_z : clock_of sampler (codes "z") ≡ Some (on (codes "c") (patterns.Truth true))
  pub clock_of_x : clock_of sampler (codes "x") ≡ Some base

-- TYPES

abbrev pub has_type : Tree → Option Kind
has_type = type_of program sampler

pub record TypesAre : Type 0 where
  pub sum : has_type (plus x (tree.number 1)) ≡ Some Int
  pub sum_of_truth : has_type (plus x c) ≡ None
  pub order : has_type (tree.binary (Data2 Less) x s) ≡ Some Truths
  pub order_of_truths : has_type (tree.binary (Data2 Less) c c) ≡ None
  pub equality_of_truths : has_type (tree.binary (Data2 Equal) c (tree.truth true)) ≡ Some Truths
  pub equality_of_both : has_type (tree.binary (Data2 Equal) c x) ≡ None
  pub conjunction : has_type (tree.binary (Data2 And) c c) ≡ Some Truths
  pub conjunction_of_int : has_type (tree.binary (Data2 And) c x) ≡ None
  pub minus : has_type (tree.unary (Data1 Minus) x) ≡ Some Int
  pub negation_of_int : has_type (tree.unary (Data1 Not) x) ≡ None
  pub previous : has_type (tree.unary Pre c) ≡ Some Truths
  pub arrow : has_type (tree.binary Arrow x s) ≡ Some Int
  pub arrow_of_both : has_type (tree.binary FollowedBy x c) ≡ None
  pub choice : has_type (tree.choice c x s) ≡ Some Int
  pub choice_by_int : has_type (tree.choice x x s) ≡ None
  pub choice_of_both : has_type (tree.choice c x c) ≡ None
  -- that a clock is bool is no matter of types
  pub sample : has_type (tree.when c (record { variable = codes "x"; pattern = patterns.Truth false })) ≡ Some
      Truths
  pub held : has_type (tree.current (codes "s")) ≡ Some Int
  pub merged : has_type (merge_on (codes "c") s x) ≡ Some Int
  pub merged_of_both : has_type (merge_on (codes "c") s c) ≡ None
  pub call : has_type (call_one (codes "one") x) ≡ Some Int
  pub call_of_truth : has_type (call_one (codes "one") c) ≡ None
  pub call_of_two : has_type (call_one (codes "two") x) ≡ None
  pub two_values : right_types program sampler (call_one (codes "two") x) ≡ Some (Int ∷ Truths ∷ [])
  pub call_without_arguments : right_types program sampler (tree.call (codes "two") tree.none) ≡ None

-- NUMBERS OF RULES

pub record NumbersAre : Type 0 where
  pub names : map stage (Rule.duplicate_name ∷ Rule.no_main ∷ Rule.bad_merge ∷ []) ≡ 1 ∷ 1 ∷ 1 ∷ []
  pub clocks : map stage (Rule.clock_mismatch ∷ Rule.hidden_clock ∷ []) ≡ 2 ∷ 2 ∷ []
  pub initialisation : map stage (Rule.maybe_nil ∷ Rule.current_may_be_nil ∷ []) ≡ 3 ∷ 3 ∷ []

-- EQUATIONS

abbrev pub main : List ℕ
main = codes "main"

-- an equation keeps a rule where it stands first in the sampler
abbrev pub keeps : Rule → EquationTree → Type 0
keeps r q = EquationKeeps program main r sampler 0 q

abbrev pub breaks : Rule → EquationTree → Type 0
breaks r q = ¬ keeps r q

abbrev pub w : Tree
w = tree.variable (codes "w")

abbrev pub when_on : List ℕ → Tree
when_on k = tree.when x (record { variable = k; pattern = patterns.Truth true })

abbrev pub defines_both : List ℕ → List ℕ → Tree → EquationTree
defines_both a b e = record { left = a ∷ b ∷ []; right = e }

pub record NamedEquations : Type 0 where
  pub known : keeps Rule.unknown_name (defines (codes "y") (plus x x_when_c))
  pub unknown_left : breaks Rule.unknown_name (defines (codes "w") x)
  pub unknown_right : breaks Rule.unknown_name (defines (codes "y") (plus x w))
  pub unknown_clock : breaks Rule.unknown_name (defines (codes "y") (when_on (codes "w")))
  pub known_node : keeps Rule.unknown_node (defines (codes "y") nested)
  pub unknown_node : breaks Rule.unknown_node (defines (codes "y") (call_one (codes "lost") x))
  -- one(), two(x) + 1, y = two(x), (y, c) = one(x), (y, c) = two(x)
  pub few_arguments : breaks Rule.wrong_arity (defines (codes "y") (tree.call (codes "one") tree.none))
  pub two_inside : breaks Rule.wrong_arity (defines (codes "y") (plus (call_one (codes "two") x)
      (tree.number 1)))
  pub two_for_one : breaks Rule.wrong_arity (defines (codes "y") (call_one (codes "two") x))
  pub one_for_two : breaks Rule.wrong_arity (defines_both (codes "y") (codes "c") (call_one (codes "one") x))
  pub two_for_two : keeps Rule.wrong_arity (defines_both (codes "y") (codes "c") (call_one (codes "two") x))
  pub first : keeps Rule.defined_twice (defines (codes "y") x)
  pub second : ¬ EquationKeeps program main Rule.defined_twice sampler 3 (defines (codes "y") x)
  pub twice_on_left : breaks Rule.defined_twice (defines_both (codes "y") (codes "y")
      (call_one (codes "two") x))
  pub of_an_input : breaks Rule.defined_twice (defines (codes "x") (tree.number 1))

pub record TypedEquations : Type 0 where
  pub typed : keeps Rule.type_mismatch (defines (codes "z") (tree.binary (Data2 Multiply) (tree.number 2) s))
  pub typed_pair : keeps Rule.type_mismatch (defines_both (codes "y") (codes "c") (call_one (codes "two") x))
  pub truth_for_int : breaks Rule.type_mismatch (defines (codes "y") c)
  pub sum_of_truth : breaks Rule.type_mismatch (defines (codes "y") (plus x c))
  pub pair_turned : breaks Rule.type_mismatch (defines_both (codes "c") (codes "y")
      (call_one (codes "two") x))
  -- where a name isn't known, types aren't checked
  pub unknown_is_unjudged : keeps Rule.type_mismatch (defines (codes "y") (plus w c))

pub record ClockedEquations : Type 0 where
  pub constant_anywhere : keeps Rule.clock_mismatch (defines (codes "z") (plus s (tree.number 1)))
  pub sampled : keeps Rule.clock_mismatch (defines (codes "z") (plus s x_when_c))
  pub merged : keeps Rule.clock_mismatch (defines (codes "y")
      (merge_on (codes "c") s (tree.when x (record {
        variable = codes "c";
        pattern = patterns.Truth false;
      }))))
  pub held : keeps Rule.clock_mismatch (defines (codes "y") (tree.current (codes "s")))
  pub sum_of_two_clocks : breaks Rule.clock_mismatch (defines (codes "y") (plus x x_when_c))
  pub slow_for_fast : breaks Rule.clock_mismatch (defines (codes "y") s)
  pub wrong_sign : breaks Rule.clock_mismatch (defines (codes "z")
      (tree.when x (record { variable = codes "c"; pattern = patterns.Truth false })))
  pub merged_turned : breaks Rule.clock_mismatch (defines (codes "y")
      (merge_on (codes "c") (tree.number 1) s))
  pub held_on_base : breaks Rule.clock_mismatch (defines (codes "y") (tree.current (codes "x")))
  pub two_clocks_left : breaks Rule.clock_mismatch (defines_both (codes "y") (codes "z") (tree.number 1))
  pub truth_is_a_clock : keeps Rule.not_a_clock (defines (codes "z") x_when_c)
  pub int_is_none : breaks Rule.not_a_clock (defines (codes "z") (when_on (codes "x")))
  pub clocked_main_called : breaks Rule.clocked_parameter (defines (codes "y") (call_one main x))

-- node main(d: bool; x: int) returns (y: int); var c: bool; v: int when c;
-- let c = true -> d; v = x when c; y = current v; tel
abbrev pub holder : NodeTree
holder =
    record {
      name = codes "main";
      inputs = bool_variable (codes "d") base ∷ int_variable (codes "x") base ∷ [];
      outputs = int_variable (codes "y") base ∷ [];
      locals = bool_variable (codes "c") base ∷ int_variable (codes "v")
          (on (codes "c") (patterns.Truth true)) ∷ [];
      equations =
          defines (codes "c") (tree.binary Arrow (tree.truth true) (tree.variable (codes "d")))
          ∷ defines (codes "v") x_when_c
          ∷ defines (codes "y") (tree.current (codes "v"))
          ∷ [];
    }

-- node delay(x: int) returns (y: int); let y = RIGHT; tel
abbrev pub delay : Tree → NodeTree
delay right =
    record {
      name = codes "delay";
      inputs = int_variable (codes "x") base ∷ [];
      outputs = int_variable (codes "y") base ∷ [];
      locals = [];
      equations = defines (codes "y") right ∷ [];
    }

pub record InitialisedNodes : Type 0 where
  pub arrow_before_pre : HasClasses (delay (tree.binary Arrow (tree.number 0) (tree.unary Pre x)))
  pub bare_pre : ¬ HasClasses (delay (tree.unary Pre x))
  pub pre_of_pre : ¬ HasClasses (delay (tree.binary Arrow (tree.number 0)
      (tree.unary Pre (tree.unary Pre x))))
  pub pre_as_argument : ¬ HasClasses (delay (call_one (codes "one") (tree.unary Pre x)))
  pub current_of_started : EquationKeeps (program_of (holder ∷ [])) main Rule.current_may_be_nil holder 2
      (defines (codes "y") (tree.current (codes "v")))
  pub current_on_an_input : breaks Rule.current_may_be_nil (defines (codes "y") (tree.current (codes "s")))

-- DECLARATIONS AND NODES

-- node main(x: int; x: int; k: int when b) returns (y: int when x; z: int when l); var l: bool; a: int when
-- b; b: bool when b; let tel
abbrev pub faulty : NodeTree
faulty =
    record {
      name = codes "main";
      inputs = int_variable (codes "x") base ∷ int_variable (codes "x") base ∷ int_variable (codes "k")
          (on (codes "b") (patterns.Truth true)) ∷ [];
      outputs = int_variable (codes "y") (on (codes "x") (patterns.Truth true)) ∷ int_variable (codes "z")
          (on (codes "l") (patterns.Truth true)) ∷ [];
      locals = bool_variable (codes "l") base ∷ int_variable (codes "a")
          (on (codes "w") (patterns.Truth true)) ∷ bool_variable (codes "b")
          (on (codes "b") (patterns.Truth true)) ∷ [];
      equations = [];
    }

abbrev pub declaration_breaks : Rule → ℕ → DeclarationTree → Type 0
declaration_breaks r j d = ¬ DeclarationKeeps (program_of (faulty ∷ [])) main r faulty j d

pub record DeclarationsAndNodes : Type 0 where
  pub declared_twice : declaration_breaks Rule.duplicate_name 1 (int_variable (codes "x") base)
  pub unknown_clock : declaration_breaks Rule.unknown_name 6 (int_variable (codes "a")
      (on (codes "w") (patterns.Truth true)))
  pub undefined : declaration_breaks Rule.undefined 3 (int_variable (codes "y")
      (on (codes "x") (patterns.Truth true)))
  pub input_is_given : DeclarationKeeps (program_of (faulty ∷ [])) main Rule.undefined faulty 0
      (int_variable (codes "x") base)
  pub int_clock : declaration_breaks Rule.not_a_clock 3 (int_variable (codes "y")
      (on (codes "x") (patterns.Truth true)))
  pub clock_of_itself : declaration_breaks Rule.not_a_clock 7 (bool_variable (codes "b")
      (on (codes "b") (patterns.Truth true)))
  pub clock : DeclarationKeeps program main Rule.not_a_clock sampler 4 (int_variable (codes "s")
      (on (codes "c") (patterns.Truth true)))
  pub clocked_input : declaration_breaks Rule.clocked_parameter 2 (int_variable (codes "k")
      (on (codes "b") (patterns.Truth true)))
  pub clocked_output : ¬ DeclarationKeeps program (codes "two") Rule.clocked_parameter sampler 3
      (int_variable (codes "z") (on (codes "c") (patterns.Truth true)))
  pub clocked_output_of_main : DeclarationKeeps program main Rule.clocked_parameter sampler 3
      (int_variable (codes "z") (on (codes "c") (patterns.Truth true)))
  pub hidden_clock : declaration_breaks Rule.hidden_clock 4 (int_variable (codes "z")
      (on (codes "l") (patterns.Truth true)))
  pub visible_clock : DeclarationKeeps program main Rule.hidden_clock sampler 3 (int_variable (codes "z")
      (on (codes "c") (patterns.Truth true)))
  pub two_nodes : ¬ NodeKeeps (program_of (two ∷ two ∷ [])) main Rule.duplicate_name 1 two
  pub calls_itself : ¬ NodeKeeps program main Rule.recursive_node 2 one
  pub calls_none : NodeKeeps program main Rule.recursive_node 1 two
  pub has_main : ProgramKeeps program main Rule.no_main
  pub has_no_main : ¬ ProgramKeeps program (codes "other") Rule.no_main

pub record VectorsLaw : Type 0 where
  pub names : NamesAre
  pub types : TypesAre
  pub numbers : NumbersAre

-- WHOLE PROGRAMS

-- the sampler alone is accepted, and a node that gives out `pre x` is refused
pub record ProgramsAre : Type 0 where
  pub accepted : IsAccepted (program_of (sampler ∷ [])) main
  pub refused : IsRefused (program_of (delay (tree.unary Pre x) ∷ [])) (codes "delay") Rule.maybe_nil
