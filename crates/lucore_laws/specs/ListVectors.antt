-- The flat lists of worked programs.
use Rattle.std.specs.Prelude.{ℕ, true, false, List, [], ◌∷◌, codes, None, Some}
use Rattle.lutree.specs.declared.expr.UnaryOperator.TheVariants.{Not}
use Rattle.lutree.specs.declared.expr.BinaryOperator.TheVariants.{Add, Subtract, Divide}
use Rattle.lutree.specs.declared.expr.Prefix.TheVariants.{Data as Single, Pre as Before}
use Rattle.lutree.specs.declared.expr.Infix.TheVariants.{Data, Arrow as Starts, FollowedBy}
use Rattle.lutree.specs.declared.expr.Pattern.TheVariants as patterns
use Rattle.lutree.specs.declared.expr.Label.{Label}
use Rattle.lutree.specs.declared.program.Kind.TheVariants.{Int as Ints, Bool as Truths, Enum}
use Rattle.luflow.specs.declared.data.Datum.TheVariants.{Name}
use Rattle.luflow.specs.declared.form.Clock.TheVariants.{Base, On}
use Rattle.lutree.specs.Tree.{Tree, DeclarationTree, EquationTree, NodeTree, ProgramTree, program_of}
use Rattle.lutree.specs.Tree.{declared}
use Rattle.lutree.specs.Tree as tree
use Rattle.luflow.specs.declared.form.Flow.{Flow}
use Rattle.luflow.specs.declared.form.Form.TheVariants.{Input, Copied, Binary, Pre, Arrow, When, Merge}
use Rattle.luflow.specs.declared.variable.Role.TheVariants as role
use Rattle.luflow.specs.Program.{FlatView}
use Rattle.luflow.specs.Vectors.{int_flow, truth_flow, sampled_flow, number, int_variable as flat_int}
use Rattle.luflow.specs.Vectors.{truth_variable as flat_truth}
use Rattle.luflow.specs.Vectors as flat
use Rattle.lusource.specs.Source.{condition}
use Rattle.lusource.specs.Vectors.{merge_of}
use Rattle.lusource.specs.Agreement.{Agrees}
use Rattle.lustat_rules.specs.Vectors.{sampler}
use Rattle.lucore_laws.specs.Layout.{IsLaidOut}
use Rattle.lucore_laws.specs.Sizes.{AreSizes}

-- an int on the base clock
abbrev pub int_variable : List ℕ → DeclarationTree
int_variable x = declared x Ints None

-- an equation of one variable
abbrev pub defines : List ℕ → Tree → EquationTree
defines x e = record { left = x ∷ []; right = e }

-- node main(x: int) returns (z: int); var y: int; p: int; let y = 1 div x; p = pre y; z = 0 -> p; tel
abbrev pub division : NodeTree
division =
    record {
      name = codes "main";
      inputs = int_variable (codes "x") ∷ [];
      outputs = int_variable (codes "z") ∷ [];
      locals = int_variable (codes "y") ∷ int_variable (codes "p") ∷ [];
      equations =
          defines (codes "y") (tree.binary (Data Divide) (tree.number 1) (tree.variable (codes "x")))
          ∷ defines (codes "p") (tree.unary Before (tree.variable (codes "y")))
          ∷ defines (codes "z") (tree.binary Starts (tree.number 0) (tree.variable (codes "p")))
          ∷ [];
    }

-- node main(x: int) returns (y: int; z: int); var c: bool; s: int when c;
-- let c = true -> not pre c; s = x when c; y = current(s); z = merge c (true -> s) (false -> 0 when not c);
-- tel
abbrev pub held_sample : NodeTree
held_sample =
    record {
      name = codes "main";
      inputs = int_variable (codes "x") ∷ [];
      outputs = int_variable (codes "y") ∷ int_variable (codes "z") ∷ [];
      locals = declared (codes "c") Truths None ∷ declared (codes "s") Ints (condition (codes "c")
          (patterns.Truth true)) ∷ [];
      equations =
          defines (codes "c") (tree.binary Starts (tree.truth true)
          (tree.unary (Single Not) (tree.unary Before (tree.variable (codes "c")))))
          ∷ defines (codes "s") (tree.when (tree.variable (codes "x"))
          (record { variable = codes "c"; pattern = patterns.Truth true }))
          ∷ defines (codes "y") (tree.current (codes "s"))
          ∷ defines (codes "z") (merge_of (codes "c") (tree.variable (codes "s"))
          (tree.when (tree.number 0) (record { variable = codes "c"; pattern = patterns.Truth false })))
          ∷ [];
    }

-- a call with one argument
abbrev pub call_one : List ℕ → Tree → Tree
call_one f e = tree.call f (tree.more e tree.none)

-- node f(x: int) returns (y: int); let y = 0 fby x; tel
abbrev pub delay : NodeTree
delay =
    record {
      name = codes "f";
      inputs = int_variable (codes "x") ∷ [];
      outputs = int_variable (codes "y") ∷ [];
      locals = [];
      equations = defines (codes "y") (tree.binary FollowedBy (tree.number 0) (tree.variable (codes "x")))
          ∷ [];
    }

-- node main() returns (a: int); let a = f(a) + 1; tel
abbrev pub delayed_call : NodeTree
delayed_call =
    record {
      name = codes "main";
      inputs = [];
      outputs = int_variable (codes "a") ∷ [];
      locals = [];
      equations = defines (codes "a")
          (tree.binary (Data Add) (call_one (codes "f") (tree.variable (codes "a"))) (tree.number 1)) ∷ [];
    }

-- x, y, the constant 0 and `pre x`
abbrev pub delay_list : List Flow
delay_list = int_flow (Input 0) ∷ int_flow (Arrow 2 3) ∷ int_flow (number 0) ∷ int_flow (Pre 0) ∷ []

-- a; x and y of the call, its 0 and its `pre x`; the constant 1
abbrev pub delayed_flat : FlatView
delayed_flat =
    record {
      types = [];
      flows =
          int_flow (Binary Add 2 5)
          ∷ int_flow (Copied 0) ∷ int_flow (Arrow 3 4) ∷ int_flow (number 0) ∷ int_flow (Pre 1)
          ∷ int_flow (number 1) ∷ [];
      order = 3 ∷ 4 ∷ 2 ∷ 5 ∷ 0 ∷ 1 ∷ [];
      owners = 0 ∷ 0 ∷ 0 ∷ 0 ∷ 0 ∷ 0 ∷ [];
      variables = flat_int role.Output (codes "a") ∷ [];
    }

-- node g(x: int; y: int) returns (p: int; q: int); let p = y; q = f(x) - y; tel
abbrev pub pair : NodeTree
pair =
    record {
      name = codes "g";
      inputs = int_variable (codes "x") ∷ int_variable (codes "y") ∷ [];
      outputs = int_variable (codes "p") ∷ int_variable (codes "q") ∷ [];
      locals = [];
      equations =
          defines (codes "p") (tree.variable (codes "y"))
          ∷ defines (codes "q") (tree.binary (Data Subtract)
          (call_one (codes "f") (tree.variable (codes "x"))) (tree.variable (codes "y")))
          ∷ [];
    }

-- node main(x: int; c: bool) returns (u: int when c; v: int when c; w: int);
-- let (u, v) = g(x when c, 3); w = f(f(x)); tel
abbrev pub two_calls : NodeTree
two_calls =
    record {
      name = codes "main";
      inputs = int_variable (codes "x") ∷ declared (codes "c") Truths None ∷ [];
      outputs =
          declared (codes "u") Ints (condition (codes "c") (patterns.Truth true))
          ∷ declared (codes "v") Ints (condition (codes "c") (patterns.Truth true))
          ∷ int_variable (codes "w") ∷ [];
      locals = [];
      equations =
          record {
            left = codes "u" ∷ codes "v" ∷ [];
            right = tree.call (codes "g")
                (tree.more (tree.when (tree.variable (codes "x"))
                (record { variable = codes "c"; pattern = patterns.Truth true }))
                (tree.more (tree.number 3) tree.none));
          }
          ∷ defines (codes "w") (call_one (codes "f") (call_one (codes "f") (tree.variable (codes "x"))))
          ∷ [];
    }

-- x, y, p and q, then of the call in q: x, y, 0 and `pre x`
abbrev pub pair_list : List Flow
pair_list =
    int_flow (Input 0) ∷ int_flow (Input 1) ∷ int_flow (Copied 1) ∷ int_flow (Binary Subtract 5 1)
    ∷ int_flow (Copied 0) ∷ int_flow (Arrow 6 7) ∷ int_flow (number 0) ∷ int_flow (Pre 4) ∷ []

-- x, c, u, v, w; the two arguments of g, and its list on the clock c; the lists of the inner f and of the
-- outer f
abbrev pub two_calls_flat : FlatView
two_calls_flat =
    record {
      types = [];
      flows =
          int_flow (Input 0) ∷ truth_flow (Input 1) ∷ sampled_flow 1 (Copied 9) ∷ sampled_flow 1 (Copied 10)
          ∷ int_flow (Copied 20)
          ∷ sampled_flow 1 (When 0) ∷ sampled_flow 1 (number 3)
          ∷ sampled_flow 1 (Copied 5) ∷ sampled_flow 1 (Copied 6) ∷ sampled_flow 1 (Copied 8)
          ∷ sampled_flow 1 (Binary Subtract 12 8)
          ∷ sampled_flow 1 (Copied 7) ∷ sampled_flow 1 (Arrow 13 14) ∷ sampled_flow 1 (number 0)
          ∷ sampled_flow 1 (Pre 11)
          ∷ int_flow (Copied 0) ∷ int_flow (Arrow 17 18) ∷ int_flow (number 0) ∷ int_flow (Pre 15)
          ∷ int_flow (Copied 16) ∷ int_flow (Arrow 21 22) ∷ int_flow (number 0) ∷ int_flow (Pre 19)
          ∷ [];
      order = 0 ∷ 1 ∷ 5 ∷ 6 ∷ 7 ∷ 8 ∷ 9 ∷ 2 ∷ 11 ∷ 13 ∷ 14 ∷ 12 ∷ 10 ∷ 3 ∷ 15 ∷ 17 ∷ 18 ∷ 16 ∷ 19 ∷ 21 ∷ 22
          ∷ 20 ∷ 4 ∷ [];
      owners =
          0 ∷ 1 ∷ 2 ∷ 2 ∷ 4
          ∷ 2 ∷ 2 ∷ 2 ∷ 2 ∷ 2 ∷ 2 ∷ 2 ∷ 2 ∷ 2 ∷ 2
          ∷ 4 ∷ 4 ∷ 4 ∷ 4 ∷ 4 ∷ 4 ∷ 4 ∷ 4 ∷ [];
      variables =
          flat_int role.Input (codes "x") ∷ flat_truth role.Input (codes "c")
          ∷ flat_int role.Output (codes "u") ∷ flat_int role.Output (codes "v")
          ∷ flat_int role.Output (codes "w") ∷ [];
    }

-- type t = enum { Up, Down };
-- node main(m: t; x: int) returns (y: int); let y = merge m (Up -> x when Up(m)) (Down -> (0 - x) when
-- Down(m)); tel
abbrev pub turn_label : List ℕ → ℕ → Label
turn_label x number = record { name = x; kind = Enum 0 2; number = number }

abbrev pub when_m : Tree → Label → Tree
when_m e x = tree.when e (record { variable = codes "m"; pattern = patterns.Label x })

abbrev pub up : Label
up = turn_label (codes "Up") 0

abbrev pub down : Label
down = turn_label (codes "Down") 1

abbrev pub turn : NodeTree
turn =
    record {
      name = codes "main";
      inputs = record { name = codes "m"; kind = Enum 0 2; type_name = Some (codes "t"); clock = None }
          ∷ int_variable (codes "x") ∷ [];
      outputs = int_variable (codes "y") ∷ [];
      locals = [];
      equations =
          defines (codes "y") (tree.merge (codes "m") (patterns.Label up ∷ patterns.Label down ∷ [])
          (tree.more (when_m (tree.variable (codes "x")) up)
          (tree.more (when_m (tree.binary (Data Subtract) (tree.number 0) (tree.variable (codes "x"))) down)
          tree.none)))
          ∷ [];
    }

abbrev pub turning : ProgramTree
turning = record {
  types = record { name = codes "t"; names = codes "Up" ∷ codes "Down" ∷ [] } ∷ [];
  nodes = turn ∷ [];
}

-- m, x, y; x where m is Up; 0, 0 - x, and that where m is Down
abbrev pub turning_flat : FlatView
turning_flat =
    record {
      types = record { name = codes "t"; names = codes "Up" ∷ codes "Down" ∷ [] } ∷ [];
      flows =
          record { form = Input 0; clock = Base; kind = Enum 0 2 } ∷ int_flow (Input 1)
          ∷ int_flow (Merge 0 (3 ∷ 6 ∷ []))
          ∷ record { form = When 1; clock = On 0 (Name 0); kind = Ints }
          ∷ int_flow (number 0) ∷ int_flow (Binary Subtract 4 1)
          ∷ record { form = When 5; clock = On 0 (Name 1); kind = Ints } ∷ [];
      order = 0 ∷ 1 ∷ 3 ∷ 4 ∷ 5 ∷ 6 ∷ 2 ∷ [];
      owners = 0 ∷ 1 ∷ 2 ∷ 2 ∷ 2 ∷ 2 ∷ 2 ∷ [];
      variables = record { name = codes "m"; role = role.Input; kind = Enum 0 2 }
          ∷ flat_int role.Input (codes "x") ∷ flat_int role.Output (codes "y") ∷ [];
    }

-- The flat programs of these sources. Those of the first three are the ones whose solutions are worked out
-- for flat programs; the first source is the one that is worked out as accepted.
pub record VectorsLaw : Type 0 where
  pub sums : IsLaidOut (program_of (sampler ∷ [])) (codes "main") flat.sampled_sum
  pub divisions : IsLaidOut (program_of (division ∷ [])) (codes "main") flat.division
  pub samples : IsLaidOut (program_of (held_sample ∷ [])) (codes "main") flat.held_sample
  pub delayed : IsLaidOut (program_of (delay ∷ delayed_call ∷ [])) (codes "main") delayed_flat
  pub calls : IsLaidOut (program_of (two_calls ∷ delay ∷ pair ∷ [])) (codes "main") two_calls_flat
  pub turns : IsLaidOut turning (codes "main") turning_flat
  -- the sizes of the nodes of the one before it
  pub sizes : AreSizes (program_of (two_calls ∷ delay ∷ pair ∷ [])) (23 ∷ 4 ∷ 8 ∷ [])
  -- and the first has the same solutions at its table
  pub sums_agree : Agrees (program_of (sampler ∷ [])) (codes "main") flat.four_samples flat.sampled_sum
