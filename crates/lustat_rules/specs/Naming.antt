-- The rules of names: each name is declared once, each variable has one equation, each call is of a node and
-- has its arity.
use Rattle.std.specs.Prelude.{◌≡◌, ◌⊎◌, ◌<◌, ℕ, suc, if◌then◌else◌, slice_get, List, [], ◌∷◌, ◌++◌, map}
use Rattle.std.specs.Prelude.{flat_map, take, length, Option, Some, None, IfSome, option_map, All, Contains}
use Rattle.std.specs.Str.{bytes_eq}
use Rattle.lutree.specs.declared.expr.Label.{Label}
use Rattle.lutree.specs.declared.expr.Pattern.{Pattern}
use Rattle.lutree.specs.declared.expr.Pattern.TheVariants as patterns
use Rattle.lutree.specs.declared.program.Kind.{Kind}
use Rattle.lutree.specs.declared.program.Kind.TheVariants.{Int, Bool as Truths, Enum}
use Rattle.lutree.specs.Tree.{Tree, Trees, list_of, TypeTree, DeclarationTree, EquationTree, NodeTree}
use Rattle.lutree.specs.Tree.{ProgramTree}
use Rattle.lutree.specs.Tree as tree
use Rattle.lustat_rules.specs.Scope.{declarations_of, names_of, IsVariable, IsInput, node_called, IsNode}
use Rattle.lustat_rules.specs.Scope.{labels_of, lefts_of, IsNew, AreDistinct}
use Rattle.lustat_rules.specs.Parts.{Part, EachPart}
use Rattle.lustat_rules.specs.Parts as part

-- WHAT AN EXPRESSION NAMES

-- the names of variables that an expression has, in order of text
abbrev mutual
  pub names_in : Tree → List (List ℕ)
  names_in (tree.number n) = []
  names_in (tree.truth b) = []
  names_in (tree.label l) = []
  names_in (tree.variable x) = x ∷ []
  names_in (tree.unary op a) = names_in a
  names_in (tree.binary op a b) = names_in a ++ names_in b
  names_in (tree.choice c a b) = names_in c ++ (names_in a ++ names_in b)
  names_in (tree.when a c) = names_in a ++ c.variable ∷ []
  names_in (tree.current x) = x ∷ []
  names_in (tree.merge c ps all) = c ∷ names_in_all all
  names_in (tree.call f all) = names_in_all all

  pub names_in_all : Trees → List (List ℕ)
  names_in_all tree.none = []
  names_in_all (tree.more a all) = names_in a ++ names_in_all all

-- a call: the name of the called node, and how many arguments it is given
pub record Call : Type 0 where
  pub node : List ℕ
  pub arguments : ℕ

-- the calls of an expression, each after those of its arguments
abbrev mutual
  pub calls_in : Tree → List Call
  calls_in (tree.number n) = []
  calls_in (tree.truth b) = []
  calls_in (tree.label l) = []
  calls_in (tree.variable x) = []
  calls_in (tree.unary op a) = calls_in a
  calls_in (tree.binary op a b) = calls_in a ++ calls_in b
  calls_in (tree.choice c a b) = calls_in c ++ (calls_in a ++ calls_in b)
  calls_in (tree.when a c) = calls_in a
  calls_in (tree.current x) = []
  calls_in (tree.merge c ps all) = calls_in_all all
  calls_in (tree.call f all) = calls_in_all all ++ record { node = f; arguments = length (list_of all) } ∷ []

  pub calls_in_all : Trees → List Call
  calls_in_all tree.none = []
  calls_in_all (tree.more a all) = calls_in a ++ calls_in_all all

-- the calls that stand inside an expression: all but one that is the whole of it
abbrev pub inner_calls : Tree → List Call
inner_calls (tree.call f all) = calls_in_all all
inner_calls e = calls_in e

-- how many values a right side has: a call as many as the node has outputs, any other expression one; none is
-- known of a call of no node
abbrev pub value_count : ProgramTree → Tree → Option ℕ
value_count p (tree.call f all) = option_map (λ (n : NodeTree). length n.outputs) (node_called p f)
value_count p e = Some 1

-- E10: no name is declared twice, and no variable has the name of a name of an enumeration

-- the type at a place is the first of its name
abbrev pub IsNewType : ProgramTree → ℕ → TypeTree → Type 0
IsNewType p i t = IsNew (map (λ (u : TypeTree). u.name) p.types) i t.name

-- the name at a place of the type at a place is the first of its spelling among the names of all enumerations
abbrev pub IsNewLabel : ProgramTree → ℕ → TypeTree → ℕ → List ℕ → Type 0
IsNewLabel p i t j x = ¬ Contains (labels_of (take i p.types) ++ take j t.names) x

-- the node at a place is the first of its name
abbrev pub IsNewNode : ProgramTree → ℕ → NodeTree → Type 0
IsNewNode p i n = IsNew (map (λ (m : NodeTree). m.name) p.nodes) i n.name

-- the declaration at a place of a node is the first of its name, and no name of an enumeration is spelled so
pub record IsNewVariable (p : ProgramTree) (n : NodeTree) (i : ℕ) (d : DeclarationTree) : Type 0 where
  pub first : IsNew (names_of (declarations_of n)) i d.name
  pub no_label : ¬ Contains (labels_of p.types) d.name

-- E11: each name is a variable of the node, and each type and each name of an enumeration is the program's

-- the type at the place that a kind gives, with as many names as it gives
abbrev pub IsEnumeration : ProgramTree → Kind → TypeTree → Type 0
IsEnumeration p (Enum place size) t = (slice_get p.types place ≡ Some t) × (length t.names ≡ size)
IsEnumeration p kind t = ⊥

-- a name of an enumeration is the program's: its type has it, at its number
abbrev pub LabelKnown : ProgramTree → Label → Type 0
LabelKnown p l = (t : TypeTree) × IsEnumeration p l.kind t × (slice_get t.names l.number ≡ Some l.name)

abbrev pub PatternKnown : ProgramTree → Pattern → Type 0
PatternKnown p (patterns.Truth b) = Unit {0}
PatternKnown p (patterns.Label l) = LabelKnown p l

-- what an expression says of enumerations is known
abbrev pub PartKnown : ProgramTree → Part → Type 0
PartKnown p (part.label l) = LabelKnown p l
PartKnown p (part.clock c) = PatternKnown p c.pattern
PartKnown p (part.merge c ps count) = All (PatternKnown p) ps

-- the names of an equation are known
pub record NamesKnown (p : ProgramTree) (n : NodeTree) (q : EquationTree) : Type 0 where
  pub left : All (IsVariable n) q.left
  pub right : All (IsVariable n) (names_in q.right)
  pub parts : EachPart (PartKnown p) q.right

-- a type that no program declares
abbrev pub IsBuiltIn : Kind → Type 0
IsBuiltIn Int = Unit {0}
IsBuiltIn Truths = Unit {0}
IsBuiltIn (Enum place size) = ⊥

-- a type is the one that is written so
abbrev pub IsWrittenAs : ProgramTree → Kind → Option (List ℕ) → Type 0
IsWrittenAs p kind None = IsBuiltIn kind
IsWrittenAs p kind (Some name) = (t : TypeTree) × IsEnumeration p kind t × (t.name ≡ name)

abbrev pub TypeKnown : ProgramTree → DeclarationTree → Type 0
TypeKnown p d = IsWrittenAs p d.kind d.type_name

-- the names in a declared clock are known
abbrev pub ClockKnown : ProgramTree → NodeTree → DeclarationTree → Type 0
ClockKnown p n d = IfSome d.clock (λ c. IsVariable n c.variable × PatternKnown p c.pattern)

-- the names of a declaration are known
pub record DeclarationKnown (p : ProgramTree) (n : NodeTree) (d : DeclarationTree) : Type 0 where
  pub type : TypeKnown p d
  pub clock : ClockKnown p n d

-- E12: each call is of a node
abbrev pub CallsKnown : ProgramTree → EquationTree → Type 0
CallsKnown p q = All (λ c. IsNode p c.node) (calls_in q.right)

-- E14: each call has as many arguments as its node has inputs, each call inside an expression is of a node
-- with one output, and an equation has as many variables on its left side as there are values on its right,
-- and one at least
pub record AritiesRight (p : ProgramTree) (q : EquationTree) : Type 0 where
  pub arguments : All (λ c. IfSome (node_called p c.node) (λ n. c.arguments ≡ length n.inputs))
      (calls_in q.right)
  pub inner : All (λ c. IfSome (node_called p c.node) (λ n. length n.outputs ≡ 1)) (inner_calls q.right)
  pub values : IfSome (value_count p q.right) (λ count. length q.left ≡ count)
  pub some : 0 < length q.left

-- E15: a variable that is no input has an equation
abbrev pub IsDefined : NodeTree → DeclarationTree → Type 0
IsDefined n d = IsInput n d.name ⊎ Contains (lefts_of n.equations) d.name

-- E16: the equation at a place names no variable twice on its left side, none that an equation before it
-- defines, and no input
pub record DefinesAnew (n : NodeTree) (i : ℕ) (q : EquationTree) : Type 0 where
  pub once : AreDistinct q.left
  pub first : All (λ x. ¬ Contains (lefts_of (take i n.equations)) x) q.left
  pub no_input : All (λ x. ¬ IsInput n x) q.left

-- E17: no node reaches itself by calls

-- the names of the nodes that a node calls
abbrev pub called_by : NodeTree → List (List ℕ)
called_by n = flat_map (λ (q : EquationTree). map (λ (c : Call). c.node) (calls_in q.right)) n.equations

-- the node that one name means calls another name
abbrev pub Calls : ProgramTree → List ℕ → List ℕ → Type 0
Calls p f g = (n : NodeTree) × (node_called p f ≡ Some n) × Contains (called_by n) g

-- a way from one node to another by one call or more
pub data Reaches (p : ProgramTree) : List ℕ → List ℕ → Type 0 where
  one : (f g : List ℕ) → Calls p f g → Reaches p f g
  more : (f g h : List ℕ) → Reaches p f g → Calls p g h → Reaches p f h

abbrev pub IsNotRecursive : ProgramTree → NodeTree → Type 0
IsNotRecursive p n = ¬ Reaches p n.name n.name

-- E18: some node has the name of the main node
abbrev pub HasMain : ProgramTree → List ℕ → Type 0
HasMain p main = IsNode p main

-- WHAT FOLLOWS

-- a variable stands on the left side of one equation alone
abbrev pub IsDefinedOnce : NodeTree → Type 0
IsDefinedOnce n =
    (i j : ℕ) (q r : EquationTree) (x : List ℕ) → slice_get n.equations i ≡ Some q
    → slice_get n.equations j ≡ Some r → Contains q.left x → Contains r.left x → i ≡ j

-- so it is where each equation defines anew
abbrev pub DefinedOnceLaw : Type 0
DefinedOnceLaw = (n : NodeTree) → ((i : ℕ) (q : EquationTree) → slice_get n.equations i ≡ Some q
    → DefinesAnew n i q) → IsDefinedOnce n

-- the place of the first node of a name in a list
abbrev pub place_of_first : List NodeTree → List ℕ → Option ℕ
place_of_first [] f = None
place_of_first (n ∷ ns) f = if bytes_eq n.name f then Some 0 else option_map suc (place_of_first ns f)

-- the place of the node that a call means
abbrev pub node_place : ProgramTree → List ℕ → Option ℕ
node_place p f = place_of_first p.nodes f

-- all nodes by place, each after those that it calls
pub record IsCallOrder (p : ProgramTree) (order : List ℕ) : Type 0 where
  pub all : (i : ℕ) → i < length p.nodes → Contains order i
  pub after : (k i j : ℕ) (n : NodeTree) (f : List ℕ) → slice_get order k ≡ Some i
      → slice_get p.nodes i ≡ Some n → Contains (called_by n) f → node_place p f ≡ Some j
      → Contains (take k order) j

-- where there is such an order, no node reaches itself by calls
abbrev pub CallOrderLaw : Type 0
CallOrderLaw = (p : ProgramTree) (order : List ℕ) (f : List ℕ) → IsCallOrder p order → ¬ Reaches p f f
