-- The synchronous meaning of a program: which streams its equations allow. A program is a system of equations
-- between flows, and a call stands for the equations of the called node, which run where the call's clock is
-- true.
use Rattle.std.specs.Prelude.{◌≡◌, ℕ, suc, ◌+◌, true, List, [], ◌∷◌, ◌++◌, map, Option, Some, None, pos}
use Rattle.std.specs.Prelude.{slice_get}
use Rattle.lutree.specs.declared.expr.Prefix.TheVariants.{Data as Data1, Pre}
use Rattle.lutree.specs.declared.expr.Infix.TheVariants.{Data as Data2, Arrow, FollowedBy}
use Rattle.lutree.specs.declared.expr.Pattern.{Pattern}
use Rattle.lutree.specs.declared.expr.Pattern.TheVariants as patterns
use Rattle.lutree.specs.declared.expr.Condition.{Condition}
use Rattle.lutree.specs.Tree.{Tree, Trees, DeclarationTree, EquationTree, NodeTree, ProgramTree}
use Rattle.lutree.specs.Tree as tree
use Rattle.luflow.specs.declared.data.Datum.{Datum}
use Rattle.luflow.specs.declared.data.Datum.TheVariants.{Int, Bool as Truth, Name}
use Rattle.luflow.specs.Program.{InputsView}
use Rattle.luflow.specs.Streams.{Stream, Ticks, truth_in, base_clock}
use Rattle.luflow.specs.Values.{gives, under}
use Rattle.lusource.specs.Names.{clock_of, name_at, output_name}
use Rattle.lustat_rules.specs.Scope.{node_called}
use Rattle.lusource.specs.StreamOperators.{constant_stream, unary_stream, binary_stream, choice_stream}
use Rattle.lusource.specs.StreamOperators.{pre_stream, arrow_stream, when_stream, current_stream}
use Rattle.lusource.specs.StreamOperators.{merge_stream}

-- Calls are numbered as their arguments end in the text, from 0.

-- how many calls stand in an expression
abbrev mutual
  pub calls : Tree → ℕ
  calls (tree.number n) = 0
  calls (tree.truth b) = 0
  calls (tree.label x) = 0
  calls (tree.variable x) = 0
  calls (tree.unary op a) = calls a
  calls (tree.binary op a b) = calls a + calls b
  calls (tree.choice c a b) = calls c + (calls a + calls b)
  calls (tree.when a c) = calls a
  calls (tree.current x) = 0
  calls (tree.merge c ps all) = calls_in all
  calls (tree.call f all) = calls_in all + 1

  pub calls_in : Trees → ℕ
  calls_in tree.none = 0
  calls_in (tree.more a all) = calls a + calls_in all

-- a call as it stands in an instance of a node: the called node, its base clock and its inputs' streams
pub record CallInstance : Type 0 where
  pub node : List ℕ
  pub base : Ticks
  pub arguments : List Stream

-- a stream for each name
abbrev pub Named : Type 0
Named = List ℕ → Stream

-- the clock of a name with a pattern, as it is written in an expression
abbrev pub condition : List ℕ → Pattern → Option Condition
condition c pattern = Some (record { variable = c; pattern = pattern })

-- The patterns of a merge, one after another with its branches. A merge has as many; where it has fewer, any
-- other pattern is `true`.
abbrev pub first_pattern : List Pattern → Pattern
first_pattern [] = patterns.Truth true
first_pattern (p ∷ ps) = p

abbrev pub next_patterns : List Pattern → List Pattern
next_patterns [] = []
next_patterns (p ∷ ps) = ps

-- the value of a clock's variable at which the clock is true
abbrev pub pattern_value : Pattern → Datum
pattern_value (patterns.Truth b) = Truth b
pattern_value (patterns.Label x) = Name x.number

-- the stream of a clock, from the base clock and the variables' streams; none is the base clock
abbrev pub ticks : Ticks → Named → Option Condition → Ticks
ticks base var None = base
ticks base var (Some c) = λ t. truth_in (pattern_value c.pattern) (var c.variable t)

-- In an instance of a node: its base clock, the streams of its variables, and those of the instance of each
-- of its calls.
module _ (program : ProgramTree) (node : NodeTree) (base : Ticks) (var : Named) (inner : ℕ → Named) where
  abbrev mutual
    -- The stream of an expression on a clock that its place demands, where i calls stand before it. A
    -- variable stands for its stream, and a call for the first output of its instance.
    pub value : Tree → Option Condition → ℕ → Stream
    value (tree.number n) k i = constant_stream (Int (pos n)) (ticks base var k)
    value (tree.truth b) k i = constant_stream (Truth b) (ticks base var k)
    value (tree.label x) k i = constant_stream (Name x.number) (ticks base var k)
    value (tree.variable x) k i = var x
    value (tree.unary (Data1 op) a) k i = unary_stream op (ticks base var k) (value a k i)
    value (tree.unary Pre a) k i = pre_stream (ticks base var k) (value a k i)
    value (tree.binary (Data2 op) a b) k i = binary_stream op (ticks base var k) (value a k i)
        (value b k (i + calls a))
    value (tree.binary Arrow a b) k i = arrow_stream (ticks base var k) (value a k i)
        (value b k (i + calls a))
    value (tree.binary FollowedBy a b) k i =
        arrow_stream (ticks base var k) (value a k i) (pre_stream (ticks base var k)
        (value b k (i + calls a)))
    value (tree.choice c a b) k i =
        choice_stream (ticks base var k) (value c k i) (value a k (i + calls c))
        (value b k (i + calls c + calls a))
    value (tree.when a c) k i = when_stream (ticks base var (Some c)) (value a (clock_of node c.variable) i)
    value (tree.current x) k i = current_stream (ticks base var k) (var x)
    value (tree.merge c ps all) k i = merge_stream (ticks base var k) (var c) (branches c ps all i)
    value (tree.call f all) k i = inner (i + calls_in all) (output_name program f 0)

    -- the streams of a call's arguments
    pub values : Trees → Option Condition → ℕ → List Stream
    values tree.none k i = []
    values (tree.more a all) k i = value a k i ∷ values all k (i + calls a)

    -- the streams of a merge's branches, each on the clock of the variable with the branch's pattern
    pub branches : List ℕ → List Pattern → Trees → ℕ → List Stream
    branches c ps tree.none i = []
    branches c ps (tree.more a all) i =
        value a (condition c (first_pattern ps)) i ∷ branches c (next_patterns ps) all (i + calls a)

  -- the j-th stream of a right side: output j of a call, or the one stream of any other expression
  abbrev pub output : Tree → Option Condition → ℕ → ℕ → Stream
  output (tree.call f all) k i j = inner (i + calls_in all) (output_name program f j)
  output e k i j = value e k i

  abbrev mutual
    -- the calls of an expression, in order of their numbers
    pub sites : Tree → Option Condition → ℕ → List CallInstance
    sites (tree.number n) k i = []
    sites (tree.truth b) k i = []
    sites (tree.label x) k i = []
    sites (tree.variable x) k i = []
    sites (tree.unary op a) k i = sites a k i
    sites (tree.binary op a b) k i = sites a k i ++ sites b k (i + calls a)
    sites (tree.choice c a b) k i =
        sites c k i ++ (sites a k (i + calls c) ++ sites b k (i + calls c + calls a))
    sites (tree.when a c) k i = sites a (clock_of node c.variable) i
    sites (tree.current x) k i = []
    sites (tree.merge c ps all) k i = branch_sites c ps all i
    sites (tree.call f all) k i =
        sites_in all k i ++ record { node = f; base = ticks base var k; arguments = values all k i } ∷ []

    pub sites_in : Trees → Option Condition → ℕ → List CallInstance
    sites_in tree.none k i = []
    sites_in (tree.more a all) k i = sites a k i ++ sites_in all k (i + calls a)

    pub branch_sites : List ℕ → List Pattern → Trees → ℕ → List CallInstance
    branch_sites c ps tree.none i = []
    branch_sites c ps (tree.more a all) i =
        sites a (condition c (first_pattern ps)) i ++ branch_sites c (next_patterns ps) all (i + calls a)

  -- the clock that an equation's place demands: that of its first variable
  abbrev pub left_clock : EquationTree → Option Condition
  left_clock q = clock_of node (name_at q.left 0)

  -- the variables on the left, from the j-th on, have the streams of the right side
  abbrev pub LeftHolds : Tree → Option Condition → ℕ → ℕ → List (List ℕ) → Type 0
  LeftHolds right k i j [] = Unit {0}
  LeftHolds right k i j (x ∷ xs) = (var x ≡ output right k i j) × LeftHolds right k i (suc j) xs

  -- the two sides of each equation are the same streams
  abbrev pub EquationsHold : List EquationTree → ℕ → Type 0
  EquationsHold [] i = Unit {0}
  EquationsHold (q ∷ qs) i = LeftHolds q.right (left_clock q) i 0 q.left
      × EquationsHold qs (i + calls q.right)

  -- the calls of a node's equations, in order of their numbers
  abbrev pub all_sites : List EquationTree → ℕ → List CallInstance
  all_sites [] i = []
  all_sites (q ∷ qs) i = sites q.right (left_clock q) i ++ all_sites qs (i + calls q.right)

-- what an instance of a node asks for: its inputs are as given, and its equations hold
pub record InstanceHolds (program : ProgramTree) (node : NodeTree) (base : Ticks) (given : List Stream)
    (var : Named) (inner : ℕ → Named) : Type 0 where
  pub inputs : (j : ℕ) (d : DeclarationTree) → slice_get node.inputs j ≡ Some d
      → slice_get given j ≡ Some (var d.name)
  pub equations : EquationsHold program node base var inner node.equations 0

-- a path of calls from the main node: the numbers of the calls, each in the text of its node
abbrev pub Path : Type 0
Path = List ℕ

-- a stream for each variable name of each path
abbrev pub SourceStreams : Type 0
SourceStreams = Path → Named

-- a fact of what is there, if it is
abbrev pub If : {A : Type 0} → Option A → (A → Type 0) → Type 0
If None P = Unit {0}
If (Some x) P = P x

abbrev pub sites_of : ProgramTree → Option NodeTree → Ticks → Named → (ℕ → Named) → List CallInstance
sites_of program None base var inner = []
sites_of program (Some node) base var inner = all_sites program node base var inner node.equations 0

-- The instance at a path, from an instance of the node called f on, holds, if there is one. A call's clock is
-- the base clock of its instance, and its arguments are the inputs there.
abbrev pub HoldsAt : ProgramTree → List ℕ → Ticks → List Stream → SourceStreams → Path → Type 0
HoldsAt program f base given σ [] =
    If (node_called program f) (λ node. InstanceHolds program node base given (σ []) (λ i. σ (i ∷ [])))
HoldsAt program f base given σ (i ∷ path) =
    If (slice_get (sites_of program (node_called program f) base (σ []) (λ i. σ (i ∷ []))) i)
    (λ site. HoldsAt program site.node site.base site.arguments (λ rest. σ (i ∷ rest)) path)

-- the streams that a table gives to the inputs of the main node
abbrev pub given_streams : InputsView → List Stream
given_streams inputs =
    map (λ column. λ t. under (base_clock inputs t) (gives (slice_get column.values t))) inputs.columns

-- The synchronous solutions of a program at a table: every instance holds, the main node's on the base clock
-- that is true at each instant of the table.
abbrev pub IsSourceSolution : ProgramTree → List ℕ → InputsView → SourceStreams → Type 0
IsSourceSolution program main inputs σ = (path : Path) → HoldsAt program main (base_clock inputs)
    (given_streams inputs) σ path
