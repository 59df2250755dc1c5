-- Faults of a program, in the words of its source.
use Rattle.std.specs.Prelude.{◌≡◌, ℕ, zero, suc, ◌+◌, ◌⊎◌, true, List, [], ◌∷◌, Option, Some, None}
use Rattle.lutree.specs.declared.expr.UnaryOperator.{UnaryOperator}
use Rattle.lutree.specs.declared.expr.BinaryOperator.{BinaryOperator}
use Rattle.lutree.specs.declared.expr.Prefix.TheVariants.{Data as Data1, Pre}
use Rattle.lutree.specs.declared.expr.Infix.TheVariants.{Data as Data2, Arrow, FollowedBy}
use Rattle.lutree.specs.declared.expr.Pattern.{Pattern}
use Rattle.lutree.specs.declared.expr.Condition.{Condition}
use Rattle.lutree.specs.Tree.{Tree, Trees, EquationTree, NodeTree, ProgramTree}
use Rattle.lutree.specs.Tree as tree
use Rattle.luflow.specs.declared.data.Datum.{Datum}
use Rattle.luflow.specs.declared.data.Status.TheVariants.{Present}
use Rattle.luflow.specs.declared.form.FaultKind.{FaultKind}
use Rattle.luflow.specs.Operators.{IsFaultOf, IsFaultOfOne}
use Rattle.luflow.specs.Program.{InputsView}
use Rattle.luflow.specs.Streams.{Known, Stream, Ticks, base_clock}
use Rattle.lustat_rules.specs.Scope.{node_called}
use Rattle.lusource.specs.Names.{clock_of, name_at}
use Rattle.lusource.specs.Source.{Named, SourceStreams, condition, first_pattern, next_patterns, ticks, calls}
use Rattle.lusource.specs.Source.{calls_in, value, left_clock}

-- an operator is at fault at t: its clock is true, and its operand is present, with a datum at which it has
-- no result
pub record OneFails (op : UnaryOperator) (k : Ticks) (a : Stream) (t : ℕ) (kind : FaultKind) : Type 0 where
  pub clock : k t ≡ Some true
  pub x : Datum
  pub operand : a t ≡ Known (Present x)
  pub fault : IsFaultOfOne op x kind

-- the same of an operator with two operands
pub record TwoFail (op : BinaryOperator) (k : Ticks) (a b : Stream) (t : ℕ) (kind : FaultKind) : Type 0 where
  pub clock : k t ≡ Some true
  pub x : Datum
  pub y : Datum
  pub left : a t ≡ Known (Present x)
  pub right : b t ≡ Known (Present y)
  pub fault : IsFaultOf op x y kind

-- In an instance of a node: its streams as for `value`, and which of its calls fail, by the called node, the
-- clock and the number of the call.
module _ (program : ProgramTree) (node : NodeTree) (base : Ticks) (var : Named) (inner : ℕ → Named) (t : ℕ)
    (kind : FaultKind) (CallFails : List ℕ → Ticks → ℕ → Type 0) where
  -- the stream of an expression
  abbrev stream : Tree → Option Condition → ℕ → Stream
  stream = value program node base var inner

  abbrev mutual
    -- An operator in an expression is at fault, or one in the instance of a call in it. As for `value`, the
    -- expression is on a clock that its place demands, and i calls stand before it.
    pub Fails : Tree → Option Condition → ℕ → Type 0
    Fails (tree.number n) k i = ⊥
    Fails (tree.truth b) k i = ⊥
    Fails (tree.label x) k i = ⊥
    Fails (tree.variable x) k i = ⊥
    Fails (tree.unary (Data1 op) a) k i =
        OneFails op (ticks base var k) (stream a k i) t kind ⊎ Fails a k i
    Fails (tree.unary Pre a) k i = Fails a k i
    Fails (tree.binary (Data2 op) a b) k i =
        TwoFail op (ticks base var k) (stream a k i) (stream b k (i + calls a)) t kind
        ⊎ (Fails a k i ⊎ Fails b k (i + calls a))
    Fails (tree.binary Arrow a b) k i = Fails a k i ⊎ Fails b k (i + calls a)
    Fails (tree.binary FollowedBy a b) k i = Fails a k i ⊎ Fails b k (i + calls a)
    Fails (tree.choice c a b) k i =
        Fails c k i ⊎ (Fails a k (i + calls c) ⊎ Fails b k (i + calls c + calls a))
    Fails (tree.when a c) k i = Fails a (clock_of node c.variable) i
    Fails (tree.current x) k i = ⊥
    Fails (tree.merge c ps all) k i = BranchFails c ps all i
    Fails (tree.call f all) k i = AnyFails all k i ⊎ CallFails f (ticks base var k) (i + calls_in all)

    -- the same of one of a call's arguments
    pub AnyFails : Trees → Option Condition → ℕ → Type 0
    AnyFails tree.none k i = ⊥
    AnyFails (tree.more a all) k i = Fails a k i ⊎ AnyFails all k (i + calls a)

    -- the same of one of a merge's branches
    pub BranchFails : List ℕ → List Pattern → Trees → ℕ → Type 0
    BranchFails c ps tree.none i = ⊥
    BranchFails c ps (tree.more a all) i =
        Fails a (condition c (first_pattern ps)) i ⊎ BranchFails c (next_patterns ps) all (i + calls a)

  -- the same of the right side of one of these equations, which has v as its first variable
  abbrev pub EquationFails : List EquationTree → ℕ → List ℕ → Type 0
  EquationFails [] i v = ⊥
  EquationFails (q ∷ qs) i v =
      ((name_at q.left 0 ≡ v) × Fails q.right (left_clock program node base var inner q) i)
      ⊎ EquationFails qs (i + calls q.right) v

-- a fact of what is there, which it is
abbrev pub There : {A : Type 0} → Option A → (A → Type 0) → Type 0
There None P = ⊥
There (Some x) P = P x

-- In an instance of the node called f, which has these streams, the equation with v as its first variable
-- fails: by an operator of its own, or by one in the instance of a call in it, and so on, through fewer than
-- this many calls.
abbrev pub FailsWithin : ProgramTree → ℕ → FaultKind → ℕ → List ℕ → Ticks → SourceStreams → List ℕ → Type 0
FailsWithin program t kind zero f base σ v = ⊥
FailsWithin program t kind (suc depth) f base σ v =
    There (node_called program f) (λ node.
    EquationFails program node base (σ []) (λ i. σ (i ∷ [])) t kind
    (λ g k i. (w : List ℕ) × FailsWithin program t kind depth g k (λ path. σ (i ∷ path)) w) node.equations 0
    v)

-- in the main node's equation with v as its first variable some operator is at fault at t, there or in an
-- instance of a call
abbrev pub IsSourceFault : ProgramTree → List ℕ → InputsView → SourceStreams → List ℕ → ℕ → FaultKind → Type 0
IsSourceFault program main inputs σ v t kind =
    (depth : ℕ) × FailsWithin program t kind depth main (base_clock inputs) σ v
