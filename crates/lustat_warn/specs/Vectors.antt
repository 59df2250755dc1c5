-- Worked programs: what they read and call, where they divide, and their warnings.
use Rattle.std.specs.Prelude.{◌≡◌, ℕ, true, false, List, [], ◌∷◌, None, Some, codes}
use Rattle.lutree.specs.declared.expr.BinaryOperator.TheVariants.{Divide, Modulo, Equal, Add}
use Rattle.lutree.specs.declared.expr.Prefix.TheVariants.{Pre}
use Rattle.lutree.specs.declared.expr.Infix.TheVariants.{Data}
use Rattle.lutree.specs.declared.expr.Pattern.TheVariants.{Truth}
use Rattle.lutree.specs.declared.expr.Condition.{Condition}
use Rattle.lutree.specs.declared.expr.Expr.{Expr}
use Rattle.lutree.specs.declared.program.Kind.TheVariants.{Int}
use Rattle.lutree.specs.declared.program.Declaration.{Declaration}
use Rattle.lutree.specs.declared.program.Node.{Node}
use Rattle.lutree.specs.declared.program.Program.{Program}
use Rattle.lutree.specs.Tree.{Tree, EquationTree, NodeTree, declared, program_of, view}
use Rattle.lutree.specs.Tree as tree
use Rattle.lustat_rules.specs.Scope.{Clock}
use Rattle.lustat_warn.specs.declared.warning.WarningKind.TheVariants.{UnusedNode, UnusedInput, UnusedLocal}
use Rattle.lustat_warn.specs.declared.warning.WarningKind.TheVariants.{DividingBranch}
use Rattle.lustat_warn.specs.Dividing.{has_dividing_branch}
use Rattle.lustat_warn.specs.Warnings.{names_read, names_called, IsWarning}
use Rattle.lustat_warn.specs.Scans.{AreAll}

-- SPELLING

abbrev pub x : Tree
x = tree.variable (codes "x")

abbrev pub y : Tree
y = tree.variable (codes "y")

abbrev pub quotient : Tree
quotient = tree.binary (Data Divide) x y

abbrev pub remainder : Tree
remainder = tree.binary (Data Modulo) x y

-- x = y
abbrev pub are_equal : Tree
are_equal = tree.binary (Data Equal) x y

-- the clock that is true where a variable is
abbrev pub on : List ℕ → Condition
on v = record { variable = v; pattern = Truth true }

abbrev pub call_one : List ℕ → Tree → Tree
call_one f e = tree.call f (tree.more e tree.none)

abbrev pub defines : List ℕ → Tree → EquationTree
defines v e = record { left = v ∷ []; right = e }

-- WHAT IS READ AND WHAT IS CALLED

-- node main(a: int; b: int when c; c: bool) returns (p: int; q: int when d);
-- let p = merge e (true -> f(x when g)) (false -> h(current i)); q = j + pre k; tel
abbrev pub reader : NodeTree
reader =
    record {
      name = codes "main";
      inputs = declared (codes "a") Int None ∷ declared (codes "b") Int (Some (on (codes "c")))
          ∷ declared (codes "c") Int None ∷ [];
      outputs = declared (codes "p") Int None ∷ declared (codes "q") Int (Some (on (codes "d"))) ∷ [];
      locals = [];
      equations =
          defines (codes "p") (tree.merge (codes "e") (Truth true ∷ Truth false ∷ [])
          (tree.more (call_one (codes "f") (tree.when x (on (codes "g"))))
          (tree.more (call_one (codes "h") (tree.current (codes "i"))) tree.none)))
          ∷ defines (codes "q") (tree.binary (Data Add) (tree.variable (codes "j"))
          (tree.unary Pre (tree.variable (codes "k"))))
          ∷ [];
    }

-- node caller() returns (); let r = f(main(x)); tel
abbrev pub caller : NodeTree
caller =
    record {
      name = codes "caller";
      inputs = [];
      outputs = [];
      locals = [];
      equations = defines (codes "r") (call_one (codes "f") (call_one (codes "main") x)) ∷ [];
    }

pub record NamesAre : Type 0 where
  pub read : names_read reader ≡ codes "e" ∷ codes "x" ∷ codes "g" ∷ codes "i" ∷ codes "j" ∷ codes "k"
      ∷ codes "c" ∷ codes "d" ∷ []
  pub read_in_call : names_read caller ≡ codes "x" ∷ []
  pub called : names_called (program_of (reader ∷ caller ∷ [])) ≡ codes "f" ∷ codes "h" ∷ codes "main"
      ∷ codes "f" ∷ []
  pub none_called : names_called (program_of []) ≡ []

-- DIVISIONS IN BRANCHES

pub record BranchesAre : Type 0 where
  pub first : has_dividing_branch (tree.choice are_equal quotient x) ≡ true
  pub second : has_dividing_branch (tree.choice are_equal x remainder) ≡ true
  pub condition : has_dividing_branch (tree.choice quotient x y) ≡ false
  pub condition_inside : has_dividing_branch (tree.choice are_equal (tree.choice quotient x y) x) ≡ true
  pub no_choice : has_dividing_branch quotient ≡ false
  pub no_division : has_dividing_branch (tree.choice are_equal x y) ≡ false
  pub deep : has_dividing_branch (tree.choice x (call_one (codes "f") (tree.unary Pre quotient)) y) ≡ true
  pub under_call : has_dividing_branch (call_one (codes "f") (tree.choice x y quotient)) ≡ true
  pub beside : has_dividing_branch (tree.binary (Data Add) quotient (tree.choice x y y)) ≡ false
  pub in_condition : has_dividing_branch (tree.choice (tree.choice x quotient y) x y) ≡ true
  pub sampled : has_dividing_branch (tree.when (tree.choice x y remainder) (on (codes "c"))) ≡ true
  pub merged : has_dividing_branch (tree.merge (codes "c") [] (tree.more x
      (tree.more (tree.choice x y quotient) tree.none))) ≡ true

-- WARNINGS

abbrev pub at_byte : ℕ → List ℕ → Clock → Declaration
at_byte byte v k = record { name = v; kind = Int; type_name = None; clock = k; byte = byte }

-- node idle(x: int; z: int) returns (o: int); var k: int; s: int when k;
-- let o = x; s = if x then x div y else x; tel
abbrev pub idle : Expr → Expr → Node
idle e f =
    record {
      name = codes "idle";
      byte = 5;
      inputs = at_byte 10 (codes "x") None ∷ at_byte 18 (codes "z") None ∷ [];
      outputs = at_byte 36 (codes "o") None ∷ [];
      locals = at_byte 50 (codes "k") None ∷ at_byte 58 (codes "s") (Some (on (codes "k"))) ∷ [];
      equations = record { left = codes "o" ∷ []; right = e; byte = 76 }
          ∷ record { left = codes "s" ∷ []; right = f; byte = 83 } ∷ [];
    }

abbrev pub idle_program : Expr → Expr → Program
idle_program e f = record { types = []; nodes = idle e f ∷ [] }

-- All warnings of a program of this node alone, where no node is the main node: of the node, of its input z,
-- of its local variable s and of its second equation; none of k, which is in a clock.
-- Where the node is the main node, it has no warning itself.
pub record WarningsAre : Type 0 where
  pub told : (e f : Expr) → view e ≡ x → view f ≡ tree.choice x quotient x
      → AreAll (IsWarning (idle_program e f) (codes "main"))
      (record { kind = UnusedNode; node = 0; number = 0; byte = 5 }
      ∷ record { kind = UnusedInput; node = 0; number = 1; byte = 18 }
      ∷ record { kind = UnusedLocal; node = 0; number = 1; byte = 58 }
      ∷ record { kind = DividingBranch; node = 0; number = 1; byte = 83 }
      ∷ [])
  pub main_is_used : (e f : Expr)
      → ¬ IsWarning (idle_program e f) (codes "idle")
      (record { kind = UnusedNode; node = 0; number = 0; byte = 5 })
