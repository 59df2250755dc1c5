-- Which flows stand at which places when all calls of a program are inlined.
--
-- Each node has one open list: its base clock is open, and so are its inputs. First come its variables, then
-- for each of its equations, in order of text, the inner flows of the right side. A call puts the whole list
-- of the called node there: moved, on the clock of the call in place of its base clock, and its inputs made
-- copies of the arguments.
use Rattle.std.specs.Prelude.{◌≡◌, ℕ, suc, ◌+◌, if◌then◌else◌, List, [], ◌∷◌, ◌++◌, length, map, replicate}
use Rattle.std.specs.Prelude.{Option, Some, None, unwrap_or, pos, slice_get, slice_index}
use Rattle.std.specs.List.{list_any}
use Rattle.std.specs.Str.{bytes_eq}
use Rattle.lutree.specs.declared.expr.Prefix.TheVariants.{Data as Data1, Pre as Before}
use Rattle.lutree.specs.declared.expr.Infix.TheVariants.{Data as Data2, Arrow as Starts, FollowedBy}
use Rattle.lutree.specs.declared.expr.Pattern.{Pattern}
use Rattle.lutree.specs.declared.expr.Condition.{Condition}
use Rattle.lutree.specs.declared.program.Kind.TheVariants.{Int as Ints}
use Rattle.lutree.specs.Tree.{Tree, Trees, TypeTree, DeclarationTree, EquationTree, NodeTree, ProgramTree}
use Rattle.lutree.specs.Tree as tree
use Rattle.luflow.specs.declared.data.Datum.TheVariants.{Int, Bool as Truth, Name, Nil}
use Rattle.luflow.specs.declared.form.Clock.{Clock}
use Rattle.luflow.specs.declared.form.Clock.TheVariants.{Base, On}
use Rattle.luflow.specs.declared.form.Form.{Form}
use Rattle.luflow.specs.declared.form.Form.TheVariants.{Input, Constant, Copied, Unary, Binary, If, Pre}
use Rattle.luflow.specs.declared.form.Form.TheVariants.{Arrow, When, Current, Merge}
use Rattle.luflow.specs.declared.form.Flow.{Flow}
use Rattle.luflow.specs.declared.variable.Variable.{Variable}
use Rattle.luflow.specs.declared.variable.Enum.{Enum}
use Rattle.luflow.specs.declared.variable.Role.{Role}
use Rattle.luflow.specs.declared.variable.Role.TheVariants as role
use Rattle.luflow.specs.Program.{FlatView}
use Rattle.lusource.specs.Names.{variables_of, place_of, name_at, clock_of}
use Rattle.lusource.specs.Source.{condition, first_pattern, next_patterns, pattern_value}
use Rattle.lustat_rules.specs.Scope.{kind_of, names_of, node_called}
use Rattle.lustat_rules.specs.Naming.{node_place}
use Rattle.lustat_rules.specs.Typing.{type_of}

-- A WALK

-- What stands at the root of an expression: a flow of its own, or a flow that stands at a place already. The
-- further outputs of a call stand behind the first.
pub data Root : Type 0 where
  own : Flow → Root
  at : ℕ → Root

-- the flows that an expression makes before its root, and its root; its first flow has the place at which the
-- walk begins
pub record Walk : Type 0 where
  pub inner : List Flow
  pub root : Root

-- the flow of a root, if it has one of its own
abbrev pub root_flows : Root → List Flow
root_flows (own flow) = flow ∷ []
root_flows (at i) = []

-- all flows that an operand makes: its root has the last place, if it is a flow of its own
abbrev pub made : Walk → List Flow
made walk = walk.inner ++ root_flows walk.root

-- the place of a root, where s is the next free place
abbrev pub root_place : ℕ → Root → ℕ
root_place s (own flow) = s
root_place s (at i) = i

-- the place of an operand whose walk begins at place s
abbrev pub place : ℕ → Walk → ℕ
place s walk = root_place (s + length walk.inner) walk.root

-- the next free place behind an operand whose walk begins at place s
abbrev pub behind : ℕ → Walk → ℕ
behind s walk = s + length (made walk)

-- a walk, given the place at which it begins
abbrev pub Walking : Type 0
Walking = ℕ → Walk

-- a flow of its own, without operands before it
abbrev pub leaf : Flow → Walking
leaf flow s = record { inner = []; root = own flow }

-- an operand, and behind it the rest, which gets the operand's place
abbrev pub after : Walking → (ℕ → Walking) → Walking
after a rest s =
    record {
      inner = made (a s) ++ (rest (place s (a s)) (behind s (a s))).inner;
      root = (rest (place s (a s)) (behind s (a s))).root;
    }

-- A CALLED NODE'S LIST, MOVED

-- A form of a list that is moved to place b: its operands move with it, and an input is a copy of the
-- argument of its number.
abbrev pub moved_form : ℕ → List ℕ → Form → Form
moved_form b arguments (Input r) = Copied (slice_index arguments r)
moved_form b arguments (Constant d) = Constant d
moved_form b arguments (Copied x) = Copied (b + x)
moved_form b arguments (Unary op x) = Unary op (b + x)
moved_form b arguments (Binary op x y) = Binary op (b + x) (b + y)
moved_form b arguments (If c x y) = If (b + c) (b + x) (b + y)
moved_form b arguments (Pre x) = Pre (b + x)
moved_form b arguments (Arrow x y) = Arrow (b + x) (b + y)
moved_form b arguments (When x) = When (b + x)
moved_form b arguments (Current x) = Current (b + x)
moved_form b arguments (Merge c xs) = Merge (b + c) (map (λ x. b + x) xs)

-- the base clock of the list becomes the clock k
abbrev pub moved_clock : ℕ → Clock → Clock → Clock
moved_clock b k Base = k
moved_clock b k (On c d) = On (b + c) d

-- a flow of that list, where it is moved
abbrev pub moved : ℕ → Clock → List ℕ → Flow → Flow
moved b k arguments flow =
    record { form = moved_form b arguments flow.form; clock = moved_clock b k flow.clock; kind = flow.kind }

-- the list of the node at a place
abbrev pub list_at : List (List Flow) → Option ℕ → List Flow
list_at lists None = []
list_at lists (Some i) = unwrap_or (slice_get lists i) []

-- the list of the node called f
abbrev pub list_of : ProgramTree → List (List Flow) → List ℕ → List Flow
list_of p lists f = list_at lists (node_place p f)

-- how many inputs a node has
abbrev pub inputs_in : Option NodeTree → ℕ
inputs_in None = 0
inputs_in (Some node) = length node.inputs

-- an instance of the node called f, on the clock k, where its arguments stand at these places; its outputs
-- stand behind its inputs
abbrev pub instance : ProgramTree → List (List Flow) → List ℕ → Clock → List ℕ → Walking
instance p lists f k arguments b =
    record {
      inner = map (moved b k arguments) (list_of p lists f);
      root = at (b + inputs_in (node_called p f));
    }

-- THE WALK OF AN EXPRESSION

-- a clock as a place with a value, in a node
abbrev pub clock_place : NodeTree → Option Condition → Clock
clock_place node None = Base
clock_place node (Some c) = On (place_of (variables_of node) c.variable) (pattern_value c.pattern)

-- the place of the first variable on the left side of the equation that defines a variable; an input's own
-- place
abbrev pub owner_of : NodeTree → List EquationTree → List ℕ → ℕ
owner_of node [] x = place_of (variables_of node) x
owner_of node (q ∷ qs) x =
    if list_any (λ y. bytes_eq y x) q.left then place_of (variables_of node) (name_at q.left 0)
    else owner_of node qs x

-- Expressions of a node, given the lists of all nodes, on the clock k that their place demands.
module _ (p : ProgramTree) (lists : List (List Flow)) (node : NodeTree) where
  -- the flow of an operator or a constant: its type is that of the expression, and int where that has none
  abbrev pub flow_of : Tree → Option Condition → Form → Flow
  flow_of e k form = record {
    form = form;
    clock = clock_place node k;
    kind = unwrap_or (type_of p node e) Ints;
  }

  -- the place of a variable
  abbrev pub variable_place : List ℕ → ℕ
  variable_place x = place_of (variables_of node) x

  abbrev mutual
    -- operands from left to right, each with its own inner flows, then the operator; `a fby b` is `a -> pre
    -- b`
    pub walk : Tree → Option Condition → Walking
    walk (tree.number n) k = leaf (flow_of (tree.number n) k (Constant (Int (pos n))))
    walk (tree.truth b) k = leaf (flow_of (tree.truth b) k (Constant (Truth b)))
    walk (tree.label x) k = leaf (flow_of (tree.label x) k (Constant (Name x.number)))
    walk (tree.variable x) k = λ s. record { inner = []; root = at (variable_place x) }
    walk (tree.unary (Data1 op) a) k =
        after (walk a k) (λ x. leaf (flow_of (tree.unary (Data1 op) a) k (Unary op x)))
    walk (tree.unary Before a) k = after (walk a k) (λ x. leaf (flow_of (tree.unary Before a) k (Pre x)))
    walk (tree.binary (Data2 op) a b) k =
        after (walk a k)
        (λ x. after (walk b k) (λ y. leaf (flow_of (tree.binary (Data2 op) a b) k (Binary op x y))))
    walk (tree.binary Starts a b) k =
        after (walk a k) (λ x. after (walk b k) (λ y. leaf (flow_of (tree.binary Starts a b) k (Arrow x y))))
    walk (tree.binary FollowedBy a b) k =
        after (walk a k) (λ x. after (walk b k) (λ y.
        after (leaf (flow_of (tree.unary Before b) k (Pre y)))
        (λ z. leaf (flow_of (tree.binary FollowedBy a b) k (Arrow x z)))))
    walk (tree.choice c a b) k =
        after (walk c k)
        (λ x. after (walk a k)
        (λ y. after (walk b k) (λ z. leaf (flow_of (tree.choice c a b) k (If x y z)))))
    walk (tree.when a c) k = after (walk a (clock_of node c.variable))
        (λ x. leaf (flow_of (tree.when a c) (Some c) (When x)))
    walk (tree.current x) k = leaf (flow_of (tree.current x) k (Current (variable_place x)))
    walk (tree.merge c ps all) k =
        walk_branches c ps all (λ branches.
        leaf (flow_of (tree.merge c ps all) k (Merge (variable_place c) branches)))
    walk (tree.call f all) k = walk_all all k (λ arguments. instance p lists f (clock_place node k) arguments)

    -- the arguments of a call, and behind them the rest, which gets their places
    pub walk_all : Trees → Option Condition → (List ℕ → Walking) → Walking
    walk_all tree.none k rest = rest []
    walk_all (tree.more a all) k rest = after (walk a k) (λ x. walk_all all k (λ xs. rest (x ∷ xs)))

    -- the branches of a merge, each on the clock of its variable with the branch's pattern, and behind them
    -- the rest, which is given their places
    pub walk_branches : List ℕ → List Pattern → Trees → (List ℕ → Walking) → Walking
    walk_branches c ps tree.none rest = rest []
    walk_branches c ps (tree.more a all) rest =
        after (walk a (condition c (first_pattern ps)))
        (λ x. walk_branches c (next_patterns ps) all (λ xs. rest (x ∷ xs)))

  -- EQUATIONS

  -- the clock that an equation's place demands: that of its first variable
  abbrev pub left_clock : EquationTree → Option Condition
  left_clock q = clock_of node (name_at q.left 0)

  -- the walk of an equation's right side
  abbrev pub walk_right : EquationTree → Walking
  walk_right q = walk q.right (left_clock q)

  -- the flow of variable j of a left side: the root itself, or a copy of what stands at the root
  abbrev pub root_flow : EquationTree → Root → ℕ → List ℕ → Flow
  root_flow q (own flow) j x = flow
  root_flow q (at i) j x =
      record {
        form = Copied (i + j);
        clock = clock_place node (left_clock q);
        kind = unwrap_or (kind_of node x) Ints;
      }

  -- the inner flows of some equations, of which the first begins at place s
  abbrev pub inner_flows : List EquationTree → ℕ → List Flow
  inner_flows [] s = []
  inner_flows (q ∷ qs) s = (walk_right q s).inner ++ inner_flows qs (s + length (walk_right q s).inner)

  -- The flow of a variable: that of the first of these equations which has it on its left side. (Every
  -- variable of an accepted program that is no input has an equation; any other has the constant nil here.)
  abbrev pub variable_flow : List EquationTree → ℕ → List ℕ → Flow
  variable_flow [] s x = record { form = Constant Nil; clock = Base; kind = Ints }
  variable_flow (q ∷ qs) s x =
      if list_any (λ y. bytes_eq y x) q.left
      then root_flow q (walk_right q s).root (place_of q.left x) x
      else variable_flow qs (s + length (walk_right q s).inner) x

  -- for each inner flow the place of the first variable on its equation's left side
  abbrev pub inner_owners : List EquationTree → ℕ → List ℕ
  inner_owners [] s = []
  inner_owners (q ∷ qs) s =
      replicate (length (walk_right q s).inner) (variable_place (name_at q.left 0))
      ++ inner_owners qs (s + length (walk_right q s).inner)

  -- A NODE

  -- how many variables it has: the place of its first inner flow
  abbrev pub variable_count : ℕ
  variable_count = length (variables_of node)

  -- its inputs, open, on the base clock
  abbrev pub input_flows : ℕ → List DeclarationTree → List Flow
  input_flows r [] = []
  input_flows r (d ∷ ds) = record { form = Input r; clock = Base; kind = d.kind } ∷ input_flows (suc r) ds

  -- inputs, outputs and locals, then the inner flows of the equations
  abbrev pub node_flows : List Flow
  node_flows =
      input_flows 0 node.inputs
      ++ (map (variable_flow node.equations variable_count) (names_of (node.outputs ++ node.locals))
      ++ inner_flows node.equations variable_count)

  -- for each flow of a main node's list the number of the main variable in whose equation it stands; of a
  -- tuple's equation the first
  abbrev pub node_owners : List ℕ
  node_owners = map (owner_of node node.equations) (variables_of node)
      ++ inner_owners node.equations variable_count

-- PROGRAMS

-- a list for each node, by its place in the text
pub record AreLists (p : ProgramTree) (lists : List (List Flow)) : Type 0 where
  pub count : length lists ≡ length p.nodes
  pub each : (i : ℕ) (node : NodeTree) → slice_get p.nodes i ≡ Some node
      → slice_get lists i ≡ Some (node_flows p lists node)

-- some variables of the main node, by their role
abbrev pub variables_as : Role → List DeclarationTree → List Variable
variables_as role = map (λ d. record { name = d.name; role = role; kind = d.kind })

-- inputs, outputs and locals, each in order of declaration
abbrev pub main_variables : NodeTree → List Variable
main_variables node = variables_as role.Input node.inputs ++ (variables_as role.Output node.outputs
    ++ variables_as role.Local node.locals)

-- the types of a program, as a flat program has them
abbrev pub enum_of : TypeTree → Enum
enum_of t = record { name = t.name; names = t.names }

abbrev pub types_of : ProgramTree → List Enum
types_of p = map enum_of p.types

-- the flat list of a program is that of its main node, whose inputs are the columns of the table
pub record IsLaidOut (p : ProgramTree) (main : List ℕ) (flat : FlatView) : Type 0 where
  pub lists : List (List Flow)
  pub are_lists : AreLists p lists
  pub node : NodeTree
  pub is_main : node_called p main ≡ Some node
  pub flows : flat.flows ≡ node_flows p lists node
  pub owners : flat.owners ≡ node_owners p lists node
  pub variables : flat.variables ≡ main_variables node
  pub types : flat.types ≡ types_of p
