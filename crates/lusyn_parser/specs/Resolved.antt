-- What the names of a program stand for: each name of an enumeration is a label, which knows its type and its
-- number there, and each type that is given by a name is the enumeration of that name. Types and their names
-- count from 0, in order of text; of two that have one name the first counts. What no type has stays as it
-- is.
use Rattle.std.specs.Prelude.{ℕ, ◌+◌, List, [], ◌∷◌, ◌++◌, length, map, Option, Some, None, if◌then◌else◌}
use Rattle.std.specs.Str.{bytes_eq}
use Rattle.lutree.specs.declared.expr.Label.{Label}
use Rattle.lutree.specs.declared.expr.Pattern.{Pattern}
use Rattle.lutree.specs.declared.expr.Pattern.TheVariants as patterns
use Rattle.lutree.specs.declared.expr.Condition.{Condition}
use Rattle.lutree.specs.declared.program.Kind.{Kind}
use Rattle.lutree.specs.declared.program.Kind.TheVariants as kinds
use Rattle.lutree.specs.Tree.{Tree, Trees, TypeTree, DeclarationTree, EquationTree, NodeTree, ProgramTree}
use Rattle.lutree.specs.Tree as t

-- THE NAMES OF THE TYPES

-- the labels of one type, from this number on
abbrev pub numbered : Kind → ℕ → List (List ℕ) → List Label
numbered kind n [] = []
numbered kind n (x ∷ xs) = (record { name = x; kind = kind; number = n }) ∷ numbered kind (n + 1) xs

-- the type at this place
abbrev pub enumeration : ℕ → TypeTree → Kind
enumeration place x = kinds.Enum place (length x.names)

-- all labels in order, of types from this place on
abbrev pub labels_from : ℕ → List TypeTree → List Label
labels_from place [] = []
labels_from place (x ∷ xs) = numbered (enumeration place x) 0 x.names ++ labels_from (place + 1) xs

abbrev pub labels : List TypeTree → List Label
labels = labels_from 0

-- the first one with this name
abbrev pub label_among : List Label → List ℕ → Option Label
label_among [] x = None
label_among (l ∷ ls) x = if bytes_eq l.name x
    then Some (record { name = x; kind = l.kind; number = l.number }) else label_among ls x

abbrev pub label_of : List TypeTree → List ℕ → Option Label
label_of types = label_among (labels types)

-- the first type with this name
abbrev pub kind_from : ℕ → List TypeTree → List ℕ → Option Kind
kind_from place [] x = None
kind_from place (y ∷ ys) x = if bytes_eq y.name x then Some (enumeration place y)
    else kind_from (place + 1) ys x

abbrev pub kind_of : List TypeTree → List ℕ → Option Kind
kind_of = kind_from 0

-- TREES

abbrev pub or_else : {A : Type 0} → A → Option A → A
or_else x None = x
or_else x (Some y) = y

abbrev pub resolved_pattern : List TypeTree → Pattern → Pattern
resolved_pattern types (patterns.Truth b) = patterns.Truth b
resolved_pattern types (patterns.Label l) = patterns.Label (or_else l (label_of types l.name))

abbrev pub resolved_condition : List TypeTree → Condition → Condition
resolved_condition types c = record { variable = c.variable; pattern = resolved_pattern types c.pattern }

abbrev pub resolved_clock : List TypeTree → Option Condition → Option Condition
resolved_clock types None = None
resolved_clock types (Some c) = Some (resolved_condition types c)

-- an identifier in an expression
abbrev pub named : List ℕ → Option Label → Tree
named x None = t.variable x
named x (Some l) = t.label l

module _ (types : List TypeTree) where
  abbrev mutual
    pub resolved_tree : Tree → Tree
    resolved_tree (t.number n) = t.number n
    resolved_tree (t.truth b) = t.truth b
    resolved_tree (t.label l) = t.label l
    resolved_tree (t.variable x) = named x (label_of types x)
    resolved_tree (t.unary op a) = t.unary op (resolved_tree a)
    resolved_tree (t.binary op a b) = t.binary op (resolved_tree a) (resolved_tree b)
    resolved_tree (t.choice a b c) = t.choice (resolved_tree a) (resolved_tree b) (resolved_tree c)
    resolved_tree (t.when a c) = t.when (resolved_tree a) (resolved_condition types c)
    resolved_tree (t.current x) = t.current x
    resolved_tree (t.merge x ps xs) = t.merge x (map (resolved_pattern types) ps) (resolved_trees xs)
    resolved_tree (t.call g xs) = t.call g (resolved_trees xs)

    pub resolved_trees : Trees → Trees
    resolved_trees t.none = t.none
    resolved_trees (t.more a xs) = t.more (resolved_tree a) (resolved_trees xs)

-- a type that is given by a name
abbrev pub resolved_kind : List TypeTree → Kind → Option (List ℕ) → Kind
resolved_kind types kind None = kind
resolved_kind types kind (Some x) = or_else kind (kind_of types x)

abbrev pub resolved_declaration : List TypeTree → DeclarationTree → DeclarationTree
resolved_declaration types d = record {
  name = d.name;
  kind = resolved_kind types d.kind d.type_name;
  type_name = d.type_name;
  clock = resolved_clock types d.clock;
}

abbrev pub resolved_equation : List TypeTree → EquationTree → EquationTree
resolved_equation types e = record { left = e.left; right = resolved_tree types e.right }

abbrev pub resolved_node : List TypeTree → NodeTree → NodeTree
resolved_node types n = record {
  name = n.name;
  inputs = map (resolved_declaration types) n.inputs;
  outputs = map (resolved_declaration types) n.outputs;
  locals = map (resolved_declaration types) n.locals;
  equations = map (resolved_equation types) n.equations;
}

abbrev pub resolved : ProgramTree → ProgramTree
resolved p = record { types = p.types; nodes = map (resolved_node p.types) p.nodes }
