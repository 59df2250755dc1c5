-- Worked programs: cycles that pass a call and a clock, and one that a `pre` breaks.
use Rattle.std.specs.Prelude.{ℕ, true, List, [], ◌∷◌, codes, Option, Some, None}
use Rattle.lutree.specs.declared.expr.BinaryOperator.TheVariants.{Add, Equal}
use Rattle.lutree.specs.declared.expr.Prefix.TheVariants.{Pre}
use Rattle.lutree.specs.declared.expr.Infix.TheVariants.{Data as Data2, Arrow}
use Rattle.lutree.specs.declared.expr.Pattern.TheVariants as patterns
use Rattle.lutree.specs.declared.expr.Condition.{Condition}
use Rattle.lutree.specs.declared.program.Kind.TheVariants.{Int as Ints, Bool as Truths}
use Rattle.lutree.specs.Tree.{Tree, DeclarationTree, NodeTree, program_of, declared}
use Rattle.lutree.specs.Tree as tree
use Rattle.lucore_laws.specs.CausalityLaws.{HasCycle}

abbrev pub where_c : Condition
where_c = record { variable = codes "c"; pattern = patterns.Truth true }

abbrev pub int_named : List ℕ → Option Condition → DeclarationTree
int_named name clock = declared name Ints clock

-- node same(x: int) returns (y: int); let y = x; tel
abbrev pub same : NodeTree
same =
    record {
      name = codes "same";
      inputs = int_named (codes "x") None ∷ [];
      outputs = int_named (codes "y") None ∷ [];
      locals = [];
      equations = record { left = codes "y" ∷ []; right = tree.variable (codes "x") } ∷ [];
    }

-- node main() returns (a: int); let a = RIGHT; tel
abbrev pub defines_a : Tree → NodeTree
defines_a right =
    record {
      name = codes "main";
      inputs = [];
      outputs = int_named (codes "a") None ∷ [];
      locals = [];
      equations = record { left = codes "a" ∷ []; right = right } ∷ [];
    }

-- a = same(a);
abbrev pub through_call : NodeTree
through_call = defines_a (tree.call (codes "same") (tree.more (tree.variable (codes "a")) tree.none))

-- a = 0 -> pre a + 1;
abbrev pub counter : NodeTree
counter =
    defines_a (tree.binary Arrow (tree.number 0)
    (tree.binary (Data2 Add) (tree.unary Pre (tree.variable (codes "a"))) (tree.number 1)))

-- node main() returns (c: bool); var s: int when c; let s = 1 when c; c = current(s) = 1; tel
abbrev pub through_clock : NodeTree
through_clock =
    record {
      name = codes "main";
      inputs = [];
      outputs = declared (codes "c") Truths None ∷ [];
      locals = int_named (codes "s") (Some where_c) ∷ [];
      equations =
          record { left = codes "s" ∷ []; right = tree.when (tree.number 1) where_c }
          ∷ record {
            left = codes "c" ∷ [];
            right = tree.binary (Data2 Equal) (tree.current (codes "s"))
                (tree.number 1);
          } ∷ [];
    }

pub record VectorsLaw : Type 0 where
  pub call_closes : HasCycle (program_of (same ∷ through_call ∷ [])) (codes "main")
  pub clock_closes : HasCycle (program_of (through_clock ∷ [])) (codes "main")
  pub pre_breaks : ¬ HasCycle (program_of (counter ∷ [])) (codes "main")
