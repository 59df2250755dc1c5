-- What is told of the operator of a fault, in words.
use Rattle.std.specs.Prelude.{ℕ, zero, suc, Bool, true, false, ◌||◌, nat_eq, if◌then◌else◌, List, [], ◌∷◌, ◌++◌}
use Rattle.std.specs.Prelude.{codes, flat_map, length, Option, Some, None, slice_get, unwrap_or}
use Rattle.std.specs.Fmt.{decimal}
use Rattle.std.specs.Str.{bytes_eq}
use Rattle.lutree.specs.Tree.{Tree, EquationTree, NodeTree, ProgramTree}
use Rattle.lutree.specs.Tree as tree
use Rattle.luflow.specs.declared.data.Datum.{Datum}
use Rattle.luflow.specs.declared.data.Datum.TheVariants.{Nil}
use Rattle.luflow.specs.declared.variable.Enum.{Enum}
use Rattle.luflow.specs.declared.variable.Variable.{Variable}
use Rattle.luflow.specs.Program.{FlatView, InputsView, column_of}
use Rattle.luflow.specs.Types.{names_of}
use Rattle.luflow.specs.Variables.{inputs_of}
use Rattle.lustat_rules.specs.Scope.{node_called}
use Rattle.lustat_rules.specs.Naming.{calls_in}
use Rattle.lusource.specs.Names.{name_at}
use Rattle.lusource.specs.Source.{Path}
use Rattle.lusource.specs.Instances.{called_in}
use Rattle.luinside.specs.Calls.{names_called}
use Rattle.lusyn_grammar.specs.Printing.{written}
use Rattle.lusyn_printer.specs.Canonical.{expression}
use Rattle.lutab.specs.Text.{datum_text}
use Rattle.lueval.specs.declared.faults.FoundFault.{FoundFault}

-- WHERE

-- a call, by the first variable on the left side of its equation, its number there, counted from 1, and the
-- node that it calls
abbrev pub call_text : List ℕ → ℕ → List ℕ → List ℕ
call_text v n f =
    codes " of " ++ (f ++ (codes "#" ++ (decimal n ++ (codes ", called in " ++ (v ++ codes "'s equation")))))

abbrev pub texts_from : List ℕ → ℕ → List (List ℕ) → List (List ℕ)
texts_from v n [] = []
texts_from v n (f ∷ fs) = call_text v n f ∷ texts_from v (suc n) fs

-- the calls of an equation, and those of a node, in order of their numbers
abbrev pub equation_texts : EquationTree → List (List ℕ)
equation_texts q = texts_from (name_at q.left 0) 1 (names_called (calls_in q.right))

abbrev pub texts_in : Option NodeTree → List (List ℕ)
texts_in None = []
texts_in (Some node) = flat_map equation_texts node.equations

-- the calls of a path, the innermost first, from an instance of the node called f on, and then this text
abbrev pub path_text : ProgramTree → List ℕ → Path → List ℕ → List ℕ
path_text p f [] rest = rest
path_text p f (k ∷ path) rest = path_text p (name_at (called_in (node_called p f)) k) path
    (name_at (texts_in (node_called p f)) k ++ rest)

-- WHAT

-- what stands there is its own value
abbrev pub is_constant : Tree → Bool
is_constant (tree.number n) = true
is_constant (tree.truth b) = true
is_constant (tree.label l) = true
is_constant _ = false

-- an operand and its value; nothing of a constant
abbrev pub value_text : Tree → Datum → List ℕ
value_text e d =
    if is_constant e then [] else expression (written e) ++ (codes " = " ++ datum_text [] d)

abbrev pub value_text_of : Tree → Option Datum → List ℕ
value_text_of e None = []
value_text_of e (Some d) = value_text e d

abbrev pub first_value : Tree → FoundFault → List ℕ
first_value (tree.unary op a) x = value_text a x.left
first_value (tree.binary op a b) x = value_text a x.left
first_value _ x = []

abbrev pub second_value : Tree → FoundFault → List ℕ
second_value (tree.binary op a b) x = value_text_of b x.right
second_value _ x = []

abbrev pub is_empty : List ℕ → Bool
is_empty text = nat_eq (length text) 0

abbrev pub one_value : List ℕ → List ℕ
one_value a = if is_empty a then [] else codes ", with " ++ a

-- two values, of which one or both may be nothing; what is the same is told once
abbrev pub both_values : List ℕ → List ℕ → List ℕ
both_values a b =
    if is_empty b || bytes_eq a b then one_value a
    else (if is_empty a then one_value b else codes ", with " ++ (a ++ (codes ", " ++ b)))

-- an operator with its operands, and their values
abbrev pub operator_text : Tree → FoundFault → List ℕ
operator_text e x = expression (written e) ++ both_values (first_value e x) (second_value e x)

-- INPUTS

abbrev pub separator : ℕ → List ℕ
separator zero = []
separator (suc n) = codes ", "

-- what the table has of input c at an instant
abbrev pub given : InputsView → ℕ → ℕ → Datum
given inputs t c = unwrap_or (slice_get (column_of inputs c) t) Nil

abbrev pub input_text : List Enum → InputsView → ℕ → ℕ → Variable → List ℕ
input_text types inputs t c x =
    separator c ++ (x.name ++ (codes " = " ++ datum_text (names_of types x.kind) (given inputs t c)))

-- the inputs from number c on
abbrev pub inputs_from : List Enum → InputsView → ℕ → ℕ → List Variable → List ℕ
inputs_from types inputs t c [] = []
inputs_from types inputs t c (x ∷ xs) =
    input_text types inputs t c x ++ inputs_from types inputs t (suc c) xs

-- a line of the inputs at an instant; none where there are no inputs
abbrev pub inputs_line : List Enum → List Variable → InputsView → ℕ → List ℕ
inputs_line types [] inputs t = []
inputs_line types (x ∷ xs) inputs t =
    codes "inputs at instant " ++ (decimal t ++ (codes ": "
    ++ (inputs_from types inputs t 0 (x ∷ xs) ++ codes "\n")))

-- LINES

-- where an operator stands, by the first variable of its equation and the calls to its instance, and what it
-- reads
abbrev pub first_line : EquationTree → List ℕ → List ℕ → List ℕ
first_line q path operator =
    codes "in " ++ (name_at q.left 0 ++ (codes "'s equation" ++ (path ++ (codes ": " ++ (operator ++ codes "\n")))))

-- this, and the inputs then
abbrev pub told_lines : ProgramTree → List ℕ → FlatView → InputsView → Path → EquationTree → Tree → FoundFault
    → List ℕ
told_lines p main flat inputs path q e x =
    first_line q (path_text p main path []) (operator_text e x)
    ++ inputs_line flat.types (inputs_of flat.variables) inputs x.instant
