-- Worked programs in which one thing rests on another: clocks on clocks, classes, calls through two nodes.
use Rattle.std.specs.Prelude.{true, false, List, [], ◌∷◌, ℕ, codes}
use Rattle.lutree.specs.declared.expr.Prefix.TheVariants.{Pre}
use Rattle.lutree.specs.declared.expr.Infix.TheVariants.{Arrow, FollowedBy}
use Rattle.lutree.specs.declared.expr.Pattern.TheVariants as patterns
use Rattle.lutree.specs.Tree.{Tree, DeclarationTree, EquationTree, NodeTree, ProgramTree, program_of}
use Rattle.lutree.specs.Tree as tree
use Rattle.lustat_rules.specs.Naming.{IsCallOrder}
use Rattle.lustat_rules.specs.Clocks.{on, base}
use Rattle.lustat_rules.specs.Classes.{HasClasses}
use Rattle.lustat_rules.specs.Accepted.{Rule, EquationKeeps, DeclarationKeeps, NodeKeeps}
use Rattle.lustat_rules.specs.Vectors.{int_variable, bool_variable, defines, x, s, merge_on, call_one, keeps}
use Rattle.lustat_rules.specs.Vectors.{breaks, main, delay}

-- FBY

abbrev pub follows : Tree → Tree → Tree
follows = tree.binary FollowedBy

pub record FollowedVectors : Type 0 where
  pub one_clock : keeps Rule.clock_mismatch (defines (codes "y") (follows (tree.number 0) x))
  pub slow_one_clock : keeps Rule.clock_mismatch (defines (codes "z") (follows (tree.number 0) s))
  pub two_clocks : breaks Rule.clock_mismatch (defines (codes "y") (follows x s))
  pub starts : HasClasses (delay (follows (tree.number 0) x))
  pub nil_after : ¬ HasClasses (delay (follows (tree.number 0) (tree.unary Pre x)))
  pub nil_at_first : ¬ HasClasses (delay (follows (tree.unary Pre x) (tree.number 0)))

-- CLASSES

-- node held(x: int; c: bool) returns (y: int); var v: int when c; let v = (pre x) when c; y = current v; tel
abbrev pub held : NodeTree
held =
    record {
      name = codes "held";
      inputs = int_variable (codes "x") base ∷ bool_variable (codes "c") base ∷ [];
      outputs = int_variable (codes "y") base ∷ [];
      locals = int_variable (codes "v") (on (codes "c") (patterns.Truth true)) ∷ [];
      equations =
          defines (codes "v") (tree.when (tree.unary Pre x)
          (record { variable = codes "c"; pattern = patterns.Truth true }))
          ∷ defines (codes "y") (tree.current (codes "v"))
          ∷ [];
    }

-- node late(x: int; d: bool) returns (y: int); var c: bool; v: int when c; let c = pre d; v = x when c; y =
-- x; tel
abbrev pub late : NodeTree
late =
    record {
      name = codes "late";
      inputs = int_variable (codes "x") base ∷ bool_variable (codes "d") base ∷ [];
      outputs = int_variable (codes "y") base ∷ [];
      locals = bool_variable (codes "c") base ∷ int_variable (codes "v")
          (on (codes "c") (patterns.Truth true)) ∷ [];
      equations =
          defines (codes "c") (tree.unary Pre (tree.variable (codes "d")))
          ∷ defines (codes "v") (tree.when x (record { variable = codes "c"; pattern = patterns.Truth true }))
          ∷ defines (codes "y") x
          ∷ [];
    }

-- node main(x: int; d: bool) returns (y: int); var c: bool; let c = pre d; y = RIGHT; tel
abbrev pub sampled_late : Tree → NodeTree
sampled_late right =
    record {
      name = main;
      inputs = int_variable (codes "x") base ∷ bool_variable (codes "d") base ∷ [];
      outputs = int_variable (codes "y") base ∷ [];
      locals = bool_variable (codes "c") base ∷ [];
      equations =
          defines (codes "c") (tree.unary Pre (tree.variable (codes "d")))
          ∷ defines (codes "y") right
          ∷ [];
    }

pub record NeededVectors : Type 0 where
  pub branch_of_merge : ¬ HasClasses (delay (merge_on (codes "c") (tree.unary Pre x) x))
  pub other_branch : ¬ HasClasses (delay (merge_on (codes "c") x (tree.unary Pre x)))
  pub variable_of_current : ¬ HasClasses held
  pub clock_variable : ¬ HasClasses late
  pub variable_of_merge : ¬ HasClasses (sampled_late (merge_on (codes "c") (tree.number 0) (tree.number 1)))
  pub variable_of_when : ¬ HasClasses (sampled_late (tree.when x (record {
    variable = codes "c";
    pattern = patterns.Truth true;
  })))

-- CLOCKS

-- node main(d: bool; x: int) returns (y: int); var c: bool; v: int when not c; let c = FIRST -> d; v = x when
-- not c; y = current v; tel
abbrev pub turned : Tree → NodeTree
turned first =
    record {
      name = codes "main";
      inputs = bool_variable (codes "d") base ∷ int_variable (codes "x") base ∷ [];
      outputs = int_variable (codes "y") base ∷ [];
      locals = bool_variable (codes "c") base ∷ int_variable (codes "v")
          (on (codes "c") (patterns.Truth false)) ∷ [];
      equations =
          defines (codes "c") (tree.binary Arrow first (tree.variable (codes "d")))
          ∷ defines (codes "v")
          (tree.when x (record { variable = codes "c"; pattern = patterns.Truth false }))
          ∷ defines (codes "y") (tree.current (codes "v"))
          ∷ [];
    }

-- node main(b: bool; x: int) returns (c: bool when b; v: int when c; w: bool when l; y: int); var l: bool
-- when w; let c = (x < 2) when b; v = (x when b) when c; tel
abbrev pub chained : NodeTree
chained =
    record {
      name = codes "main";
      inputs = bool_variable (codes "b") base ∷ int_variable (codes "x") base ∷ [];
      outputs =
          bool_variable (codes "c") (on (codes "b") (patterns.Truth true))
          ∷ int_variable (codes "v") (on (codes "c") (patterns.Truth true))
          ∷ bool_variable (codes "w") (on (codes "l") (patterns.Truth true))
          ∷ int_variable (codes "y") base
          ∷ [];
      locals = bool_variable (codes "l") (on (codes "w") (patterns.Truth true)) ∷ [];
      equations = [];
    }

abbrev pub twice : Tree
twice = tree.when (tree.when x (record { variable = codes "b"; pattern = patterns.Truth true }))
    (record { variable = codes "c"; pattern = patterns.Truth true })

abbrev pub keeps_chained : Rule → EquationTree → Type 0
keeps_chained rule q = EquationKeeps (program_of (chained ∷ [])) main rule chained 0 q

abbrev pub declares : Rule → ℕ → DeclarationTree → Type 0
declares rule i d = DeclarationKeeps (program_of (chained ∷ [])) main rule chained i d

pub record ClockChainVectors : Type 0 where
  pub false_at_first : EquationKeeps (program_of (turned (tree.truth false) ∷ [])) main
      Rule.current_may_be_nil (turned (tree.truth false)) 2 (defines (codes "y") (tree.current (codes "v")))
  pub true_at_first : ¬ EquationKeeps (program_of (turned (tree.truth true) ∷ [])) main
      Rule.current_may_be_nil (turned (tree.truth true)) 2 (defines (codes "y") (tree.current (codes "v")))
  pub sampled_twice : keeps_chained Rule.clock_mismatch (defines (codes "v") twice)
  pub sampled_once : ¬ keeps_chained Rule.clock_mismatch (defines (codes "v")
      (tree.when x (record { variable = codes "c"; pattern = patterns.Truth true })))
  pub current_of_chain : keeps_chained Rule.clock_mismatch (defines (codes "c") (tree.current (codes "v")))
  pub current_to_base : ¬ keeps_chained Rule.clock_mismatch (defines (codes "y") (tree.current (codes "v")))
  pub chain : declares Rule.not_a_clock 3 (int_variable (codes "v") (on (codes "c") (patterns.Truth true)))
  pub loop : ¬ declares Rule.not_a_clock 4 (bool_variable (codes "w") (on (codes "l") (patterns.Truth true)))
  pub loop_of_local : ¬ declares Rule.not_a_clock 6 (bool_variable (codes "l")
      (on (codes "w") (patterns.Truth true)))
  pub clock_is_an_output : declares Rule.hidden_clock 3 (int_variable (codes "v")
      (on (codes "c") (patterns.Truth true)))
  pub clock_is_a_local : ¬ declares Rule.hidden_clock 4 (bool_variable (codes "w")
      (on (codes "l") (patterns.Truth true)))

-- CALLS

-- node NAME(x: int) returns (p: int); let p = CALLED(x); tel
abbrev pub calling : List ℕ → List ℕ → NodeTree
calling f g =
    record {
      name = f;
      inputs = int_variable (codes "x") base ∷ [];
      outputs = int_variable (codes "p") base ∷ [];
      locals = [];
      equations = defines (codes "p") (call_one g x) ∷ [];
    }

-- two nodes that call each other, and one that calls the first of them
abbrev pub round : ProgramTree
round = program_of (calling (codes "f") (codes "g") ∷ calling (codes "g") (codes "f") ∷ calling (codes "h")
    (codes "f") ∷ [])

-- a node that calls the next, and that calls the last
abbrev pub straight : ProgramTree
straight = program_of (calling (codes "f") (codes "g") ∷ calling (codes "g") (codes "delay") ∷ delay x ∷ [])

pub record CallVectors : Type 0 where
  pub first_of_two : ¬ NodeKeeps round main Rule.recursive_node 0 (calling (codes "f") (codes "g"))
  pub second_of_two : ¬ NodeKeeps round main Rule.recursive_node 1 (calling (codes "g") (codes "f"))
  pub none_of_both : NodeKeeps round main Rule.recursive_node 2 (calling (codes "h") (codes "f"))
  pub backward : IsCallOrder straight (2 ∷ 1 ∷ 0 ∷ [])
  pub forward : ¬ IsCallOrder straight (0 ∷ 1 ∷ 2 ∷ [])
