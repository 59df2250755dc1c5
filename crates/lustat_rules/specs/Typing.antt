-- The types of expressions.
use Rattle.std.specs.Prelude.{◌≡◌, ℕ, nat_eq, Bool, true, false, ◌&&◌, if◌then◌else◌, List, [], ◌∷◌, map}
use Rattle.std.specs.Prelude.{fold, length, slice_get, Option, Some, None, option_map, All}
use Rattle.lutree.specs.declared.expr.Pattern.{Pattern}
use Rattle.lutree.specs.declared.expr.Pattern.TheVariants as patterns
use Rattle.lutree.specs.declared.expr.UnaryOperator.{UnaryOperator}
use Rattle.lutree.specs.declared.expr.UnaryOperator.TheVariants.{Minus, Not}
use Rattle.lutree.specs.declared.expr.BinaryOperator.{BinaryOperator}
use Rattle.lutree.specs.declared.expr.BinaryOperator.TheVariants.{Add, Subtract, Multiply, Divide, Modulo}
use Rattle.lutree.specs.declared.expr.BinaryOperator.TheVariants.{Equal, Unequal, And, Or, Xor, Implies}
use Rattle.lutree.specs.declared.expr.Prefix.TheVariants.{Data as Data1, Pre}
use Rattle.lutree.specs.declared.expr.Infix.TheVariants.{Data as Data2, Arrow, FollowedBy}
use Rattle.lutree.specs.declared.program.Kind.{Kind}
use Rattle.lutree.specs.declared.program.Kind.TheVariants.{Int, Bool as Truths, Enum}
use Rattle.lutree.specs.Tree.{Tree, Trees, DeclarationTree, EquationTree, NodeTree, ProgramTree}
use Rattle.lutree.specs.Tree as tree
use Rattle.lustat_rules.specs.Scope.{kind_of, node_called}
use Rattle.lustat_rules.specs.Naming.{NamesKnown, CallsKnown, AritiesRight}
use Rattle.lustat_rules.specs.Parts.{Part, EachPart}
use Rattle.lustat_rules.specs.Parts as part

-- TYPES THAT AGREE

-- whether two types are one
abbrev pub same_kind : Kind → Kind → Bool
same_kind Int Int = true
same_kind Truths Truths = true
same_kind (Enum i m) (Enum j n) = nat_eq i j && nat_eq m n
same_kind j k = false

-- the type that two expressions both have, if they have one
abbrev pub agreed : Option Kind → Option Kind → Option Kind
agreed (Some j) (Some k) = if same_kind j k then Some j else None
agreed a b = None

-- the type that all of some expressions have, if there are any and they have one
abbrev pub agreed_all : List (Option Kind) → Option Kind
agreed_all [] = None
agreed_all (k ∷ ks) = fold agreed k ks

-- whether an expression has a type
abbrev pub has_kind : Option Kind → Kind → Bool
has_kind (Some j) k = same_kind j k
has_kind None k = false

-- OPERATORS

-- the type of an operator's one operand, which is that of its result too
abbrev pub single_kind : UnaryOperator → Kind
single_kind Minus = Int
single_kind Not = Truths

-- the type of an operator's two operands; none is any, if both have it
abbrev pub operand_kind : BinaryOperator → Option Kind
operand_kind Equal = None
operand_kind Unequal = None
operand_kind And = Some Truths
operand_kind Or = Some Truths
operand_kind Xor = Some Truths
operand_kind Implies = Some Truths
operand_kind op = Some Int

-- the type of an operator's result
abbrev pub result_kind : BinaryOperator → Kind
result_kind Add = Int
result_kind Subtract = Int
result_kind Multiply = Int
result_kind Divide = Int
result_kind Modulo = Int
result_kind op = Truths

-- a type where it is the one that is asked for, or any is
abbrev pub as_asked : Option Kind → Option Kind → Option Kind
as_asked None k = k
as_asked (Some j) k = agreed (Some j) k

abbrev pub double_kind : BinaryOperator → Option Kind → Option Kind → Option Kind
double_kind op a b = option_map (λ k. result_kind op) (as_asked (operand_kind op) (agreed a b))

-- `if`: a bool, and two of one type
abbrev pub choice_kind : Option Kind → Option Kind → Option Kind → Option Kind
choice_kind (Some Truths) a b = agreed a b
choice_kind c a b = None

-- CALLS

-- the arguments of a call have the types of the inputs
abbrev pub arguments_fit : List (Option Kind) → List DeclarationTree → Bool
arguments_fit [] [] = true
arguments_fit [] (d ∷ ds) = false
arguments_fit (k ∷ ks) [] = false
arguments_fit (k ∷ ks) (d ∷ ds) = has_kind k d.kind && arguments_fit ks ds

-- the types of a call's outputs, by those of its arguments
abbrev pub call_kinds : Option NodeTree → List (Option Kind) → Option (List Kind)
call_kinds None ks = None
call_kinds (Some n) ks = if arguments_fit ks n.inputs
    then Some (map (λ (d : DeclarationTree). d.kind) n.outputs) else None

-- the one type of a call with one output
abbrev pub only : Option (List Kind) → Option Kind
only (Some (k ∷ [])) = Some k
only ks = None

-- MERGES

-- a pattern is the name of a number of an enumeration
abbrev pub IsNumbered : Kind → ℕ → Pattern → Type 0
IsNumbered kind k (patterns.Truth b) = ⊥
IsNumbered kind k (patterns.Label l) = (l.kind ≡ kind) × (l.number ≡ k)

-- the patterns are the names of an enumeration of so many, in order of declaration
pub record AreNames (kind : Kind) (size : ℕ) (ps : List Pattern) : Type 0 where
  pub count : length ps ≡ size
  pub each : (k : ℕ) (x : Pattern) → slice_get ps k ≡ Some x → IsNumbered kind k x

abbrev pub IsSign : Pattern → Type 0
IsSign (patterns.Truth b) = Unit {0}
IsSign (patterns.Label l) = ⊥

-- The patterns of a merge on a variable of a type: of an enumeration all its names, and `true` and `false` on
-- a bool, if none of them is a name.
-- Others are a matter of clocks.
abbrev pub PatternsAre : Option Kind → List Pattern → Type 0
PatternsAre (Some (Enum place size)) ps = AreNames (Enum place size) size ps
PatternsAre (Some Truths) ps = All IsSign ps → ps ≡ patterns.Truth true ∷ patterns.Truth false ∷ []
PatternsAre kind ps = Unit {0}

-- a merge has as many branches as patterns, and these are those of its variable's type
abbrev pub IsWholeMerge : NodeTree → Part → Type 0
IsWholeMerge n (part.merge c ps count) = (length ps ≡ count) × PatternsAre (kind_of n c) ps
IsWholeMerge n x = Unit {0}

-- E19: each merge is whole
abbrev pub MergesWhole : NodeTree → EquationTree → Type 0
MergesWhole n q = EachPart (IsWholeMerge n) q.right

-- EXPRESSIONS

-- The type of an expression in a node, or none where it has none. The name of a clock has no type to meet
-- here.
module _ (p : ProgramTree) (n : NodeTree) where
  abbrev mutual
    pub type_of : Tree → Option Kind
    type_of (tree.number a) = Some Int
    type_of (tree.truth b) = Some Truths
    type_of (tree.label l) = Some l.kind
    type_of (tree.variable x) = kind_of n x
    type_of (tree.unary (Data1 op) a) = agreed (Some (single_kind op)) (type_of a)
    type_of (tree.unary Pre a) = type_of a
    type_of (tree.binary (Data2 op) a b) = double_kind op (type_of a) (type_of b)
    type_of (tree.binary Arrow a b) = agreed (type_of a) (type_of b)
    type_of (tree.binary FollowedBy a b) = agreed (type_of a) (type_of b)
    type_of (tree.choice c a b) = choice_kind (type_of c) (type_of a) (type_of b)
    type_of (tree.when a c) = type_of a
    type_of (tree.current x) = kind_of n x
    type_of (tree.merge c ps all) = agreed_all (types_of all)
    type_of (tree.call f all) = only (call_kinds (node_called p f) (types_of all))

    pub types_of : Trees → List (Option Kind)
    types_of tree.none = []
    types_of (tree.more a all) = type_of a ∷ types_of all

  -- the types of a right side: those of the outputs of a call, or the one of any other expression
  abbrev pub right_types : Tree → Option (List Kind)
  right_types (tree.call f all) = call_kinds (node_called p f) (types_of all)
  right_types e = option_map (λ k. k ∷ []) (type_of e)

  -- the right side has types, and the variables on the left have just these
  abbrev pub IsWellTyped : EquationTree → Type 0
  IsWellTyped q = (kinds : List Kind) × (right_types q.right ≡ Some kinds)
      × (map (kind_of n) q.left ≡ map Some kinds)

  -- E13: an equation whose names and calls are known, whose arities are right and whose merges are whole is
  -- well typed
  abbrev pub IsTyped : EquationTree → Type 0
  IsTyped q = NamesKnown p n q → CallsKnown p q → AritiesRight p q → MergesWhole n q → IsWellTyped q
