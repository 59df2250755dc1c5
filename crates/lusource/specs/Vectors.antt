-- Worked programs and expressions, computed on the definitions.
use Rattle.std.specs.Prelude.{◌≡◌, ℕ, ◌+◌, Bool, true, false, List, [], ◌∷◌, map, pos, negsuc, codes, Option}
use Rattle.std.specs.Prelude.{Some, None, slice_get, unwrap_or, if◌then◌else◌}
use Rattle.std.specs.Str.{bytes_eq}
use Rattle.lutree.specs.declared.expr.UnaryOperator.TheVariants.{Minus, Not}
use Rattle.lutree.specs.declared.expr.BinaryOperator.TheVariants.{Add, Subtract, Equal, Less}
use Rattle.lutree.specs.declared.expr.Prefix.TheVariants.{Data as Data1, Pre}
use Rattle.lutree.specs.declared.expr.Infix.TheVariants.{Data as Data2, Arrow, FollowedBy}
use Rattle.lutree.specs.declared.expr.Pattern.TheVariants as patterns
use Rattle.lutree.specs.declared.expr.Label.{Label}
use Rattle.lutree.specs.declared.expr.Condition.{Condition}
use Rattle.lutree.specs.declared.program.Kind.TheVariants.{Int as Ints, Bool as Truths, Enum}
use Rattle.lutree.specs.Tree.{Tree, DeclarationTree, EquationTree, NodeTree, ProgramTree, program_of}
use Rattle.lutree.specs.Tree.{declared}
use Rattle.lutree.specs.Tree as tree
use Rattle.luflow.specs.declared.data.Datum.TheVariants.{Int, Bool as Truth, Name, Nil}
use Rattle.luflow.specs.declared.data.Status.{Status}
use Rattle.luflow.specs.declared.data.Status.TheVariants.{Present, Absent}
use Rattle.luflow.specs.Streams.{Mark, Known, Stream, base_clock}
use Rattle.luflow.specs.Messages.{marks}
use Rattle.luflow.specs.Vectors.{known, known_truth, three, four_samples}
use Rattle.lusource.specs.Source.{Named, CallInstance, condition, value, output, sites, given_streams}
use Rattle.lusource.specs.Instances.{instance_at}

-- `left = first -> pre from + step`
pub record Line : Type 0 where
  pub left : List ℕ
  pub first : ℕ
  pub from : List ℕ
  pub step : ℕ

abbrev pub equation_of : Line → EquationTree
equation_of line =
    record {
      left = line.left ∷ [];
      right = tree.binary Arrow (tree.number line.first)
          (tree.binary (Data2 Add) (tree.unary Pre (tree.variable line.from)) (tree.number line.step));
    }

-- node main() returns (a: int; b: int); let a = 0 -> pre b + 1; b = 0 -> pre a + 1; tel
abbrev pub a_line : Line
a_line = record { left = codes "a"; first = 0; from = codes "b"; step = 1 }

abbrev pub b_line : Line
b_line = record { left = codes "b"; first = 0; from = codes "a"; step = 1 }

abbrev pub two_counters : NodeTree
two_counters =
    record {
      name = codes "main";
      inputs = [];
      outputs = declared (codes "a") Ints None ∷ declared (codes "b") Ints None ∷ [];
      locals = [];
      equations = equation_of a_line ∷ equation_of b_line ∷ [];
    }

-- 0 1 2 and so on
abbrev pub counting : Stream
counting t = known t

-- the right side of a line's equation, where all variables count
abbrev pub right_of : Line → Stream
right_of line = value (program_of (two_counters ∷ [])) two_counters (base_clock three) (λ x. counting)
    (λ i x. counting) (equation_of line).right None 0

-- the right sides of both equations of the two counters are 0 1 2, and absent from then on
pub record CountersAre : Type 0 where
  pub a_counts : marks (right_of a_line) 3 ≡ map known (0 ∷ 1 ∷ 2 ∷ [])
  pub b_counts : marks (right_of b_line) 3 ≡ map known (0 ∷ 1 ∷ 2 ∷ [])
  pub a_ends : right_of a_line 3 ≡ Known Absent

-- `merge c (true -> a) (false -> b)`
abbrev pub merge_of : List ℕ → Tree → Tree → Tree
merge_of c a b = tree.merge c (patterns.Truth true ∷ patterns.Truth false ∷ [])
    (tree.more a (tree.more b tree.none))

-- x and c on the base clock, s where c is true, and u where it is false
abbrev pub int_on : Option Condition → List ℕ → DeclarationTree
int_on clock name = declared name Ints clock

abbrev pub where_c : Bool → Option Condition
where_c sign = condition (codes "c") (patterns.Truth sign)

abbrev pub sampler : NodeTree
sampler =
    record {
      name = codes "main";
      inputs =
          int_on None (codes "x") ∷ declared (codes "c") Truths None
          ∷ int_on (where_c true) (codes "s") ∷ int_on (where_c false) (codes "u") ∷ [];
      outputs = [];
      locals = [];
      equations = [];
    }

-- a node with two outputs, and one with one
abbrev pub pair : NodeTree
pair = record {
  name = codes "pair";
  inputs = [];
  outputs = int_on None (codes "p") ∷ int_on None (codes "q")
      ∷ [];
  locals = [];
  equations = [];
}

abbrev pub single : NodeTree
single = record {
  name = codes "single";
  inputs = [];
  outputs = int_on None (codes "p") ∷ [];
  locals = [];
  equations = [];
}

abbrev pub three_nodes : ProgramTree
three_nodes = program_of (sampler ∷ pair ∷ single ∷ [])

abbrev pub reported : List Status → Stream
reported xs t = Known (unwrap_or (slice_get xs t) Absent)

abbrev pub present : ℕ → Status
present n = Present (Int (pos n))

-- x is 1 2 3 4, and c is true, false, true, true
abbrev pub samples : Named
samples name =
    if bytes_eq name (codes "x") then reported (present 1 ∷ present 2 ∷ present 3 ∷ present 4 ∷ [])
    else if bytes_eq name (codes "c")
    then reported (map (λ b. Present (Truth b)) (true ∷ false ∷ true ∷ true ∷ []))
    else if bytes_eq name (codes "s") then reported (present 1 ∷ Absent ∷ present 3 ∷ present 4 ∷ [])
    else reported (Absent ∷ present 2 ∷ Absent ∷ Absent ∷ [])

-- in the instance of call i, variable p is 10 + i, and every other is 20 + i
abbrev pub instances : ℕ → Named
instances i name t = known ((if bytes_eq name (codes "p") then 10 else 20) + i)

-- the marks of an expression at four instants, on a clock
abbrev pub gives : Tree → Option Condition → List Mark
gives e k = marks (value three_nodes sampler (base_clock four_samples) samples instances e k 0) 4

abbrev pub x : Tree
x = tree.variable (codes "x")

abbrev pub c : Tree
c = tree.variable (codes "c")

abbrev pub s : Tree
s = tree.variable (codes "s")

-- where c is true
abbrev pub sampled : Mark → Mark → Mark → List Mark
sampled first third fourth = first ∷ Known Absent ∷ third ∷ fourth ∷ []

pub record ExpressionsAre : Type 0 where
  pub numbers : gives (tree.number 7) (where_c true) ≡ sampled (known 7) (known 7) (known 7)
  pub numbers_elsewhere : gives (tree.number 7) (where_c false) ≡ Known Absent ∷ known 7 ∷ Known Absent
      ∷ Known Absent ∷ []
  pub truths : gives (tree.truth false) (where_c true) ≡ sampled (known_truth false) (known_truth false)
      (known_truth false)
  pub variables : gives s (where_c true) ≡ sampled (known 1) (known 3) (known 4)
  -- - x + 5, not c, x - 1
  pub minus : gives (tree.binary (Data2 Add) (tree.unary (Data1 Minus) x) (tree.number 5)) None ≡ map known (4
      ∷ 3 ∷ 2 ∷ 1 ∷ [])
  pub negation : gives (tree.unary (Data1 Not) c) None ≡ map known_truth (false ∷ true ∷ false ∷ false ∷ [])
  pub difference : gives (tree.binary (Data2 Subtract) x (tree.number 1)) None ≡ map known (0 ∷ 1 ∷ 2 ∷ 3
      ∷ [])
  -- pre s, 9 -> s and 9 fby s look at the instants at which c is true
  pub previous : gives (tree.unary Pre s) (where_c true) ≡ sampled (Known (Present Nil)) (known 1) (known 3)
  pub arrow : gives (tree.binary Arrow (tree.number 9) s) (where_c true) ≡ sampled (known 9) (known 3)
      (known 4)
  pub followed : gives (tree.binary FollowedBy (tree.number 9) s) (where_c true) ≡ sampled (known 9) (known 1)
      (known 3)
  -- if c then x else 9
  pub choice : gives (tree.choice c x (tree.number 9)) None ≡ map known (1 ∷ 9 ∷ 3 ∷ 4 ∷ [])
  -- x when c, (x - 1) when not c
  pub sample : gives (tree.when x (record { variable = codes "c"; pattern = patterns.Truth true }))
      (where_c true) ≡ sampled (known 1) (known 3) (known 4)
  pub sample_elsewhere : gives (tree.when (tree.binary (Data2 Subtract) x (tree.number 1))
      (record { variable = codes "c"; pattern = patterns.Truth false })) (where_c false) ≡ Known Absent
      ∷ known 1 ∷ Known Absent ∷ Known Absent ∷ []
  -- current s and current u hold the last value, and nil before the first
  pub held : gives (tree.current (codes "s")) None ≡ map known (1 ∷ 1 ∷ 3 ∷ 4 ∷ [])
  pub held_later : gives (tree.current (codes "u")) None ≡ Known (Present Nil) ∷ known 2 ∷ known 2 ∷ known 2
      ∷ []
  -- merge c (true -> s) (false -> 9)
  pub merged : gives (merge_of (codes "c") s (tree.number 9)) None ≡ map known (1 ∷ 9 ∷ 3 ∷ 4 ∷ [])

-- type t = enum { Up, Down, Hold }
abbrev pub label_of : List ℕ → ℕ → Label
label_of name number = record { name = name; kind = Enum 0 3; number = number }

abbrev pub up : Label
up = label_of (codes "Up") 0

abbrev pub down : Label
down = label_of (codes "Down") 1

abbrev pub hold : Label
hold = label_of (codes "Hold") 2

abbrev pub known_name : ℕ → Mark
known_name n = Known (Present (Name n))

-- m is Up, Hold, Down, Up, and x is 1 2 3 4
abbrev pub modes : Named
modes name = if bytes_eq name (codes "m") then reported (map (λ n. Present (Name n)) (0 ∷ 2 ∷ 1 ∷ 0 ∷ []))
    else samples name

-- the marks of an expression at four instants, on a clock
abbrev pub mode_gives : Tree → Option Condition → List Mark
mode_gives e k = marks (value three_nodes sampler (base_clock four_samples) modes instances e k 0) 4

abbrev pub m : Tree
m = tree.variable (codes "m")

-- e when A(m)
abbrev pub when_m : Tree → Label → Tree
when_m e label = tree.when e (record { variable = codes "m"; pattern = patterns.Label label })

-- merge m (Up -> x when Up(m)) (Down -> (0 - x) when Down(m)) (Hold -> 9)
abbrev pub turned : Tree
turned = tree.merge (codes "m") (patterns.Label up ∷ patterns.Label down ∷ patterns.Label hold ∷ [])
    (tree.more (when_m x up) (tree.more (when_m (tree.binary (Data2 Subtract) (tree.number 0) x) down)
    (tree.more (tree.number 9) tree.none)))

pub record EnumerationsAre : Type 0 where
  pub constants : mode_gives (tree.label down) (where_c true) ≡ sampled (known_name 1) (known_name 1)
      (known_name 1)
  pub compared : mode_gives (tree.binary (Data2 Equal) m (tree.label up)) None ≡ map known_truth (true ∷ false
      ∷ false ∷ true ∷ [])
  pub previous : mode_gives (tree.binary FollowedBy (tree.label hold) m) None ≡ map known_name (2 ∷ 0 ∷ 2 ∷ 1
      ∷ [])
  pub sample : mode_gives (when_m x hold) (condition (codes "m") (patterns.Label hold)) ≡ Known Absent
      ∷ known 2 ∷ Known Absent ∷ Known Absent ∷ []
  pub merged : mode_gives turned None ≡ known 1 ∷ known 9 ∷ Known (Present (Int (negsuc 2))) ∷ known 4 ∷ []

abbrev pub call_of : List ℕ → Tree → Tree
call_of f e = tree.call f (tree.more e tree.none)

-- pair(single(x)), and pair(x) < pair(x)
abbrev pub nested : Tree
nested = call_of (codes "pair") (call_of (codes "single") x)

abbrev pub compared : Tree
compared = tree.binary (Data2 Less) (call_of (codes "pair") x) (call_of (codes "pair") x)

abbrev pub sites_of_nested : Option Condition → List CallInstance
sites_of_nested k = sites three_nodes sampler (base_clock four_samples) samples instances nested k 0

-- the streams that a call is given, at four instants
abbrev pub given_marks : CallInstance → List (List Mark)
given_marks site = map (λ a. marks a 4) site.arguments

pub record CallsAre : Type 0 where
  -- the inner call has number 0, and the outer one number 1
  pub number_of_outer : gives nested None ≡ map known (11 ∷ 11 ∷ 11 ∷ 11 ∷ [])
  pub second_output : marks (output three_nodes sampler (base_clock four_samples) samples instances nested
      None 0 1) 4 ≡ map known (21 ∷ 21 ∷ 21 ∷ 21 ∷ [])
  pub left_is_first : gives compared None ≡ map known_truth (true ∷ true ∷ true ∷ true ∷ [])
  pub nodes : map (λ (site : CallInstance). site.node) (sites_of_nested None) ≡ codes "single" ∷ codes "pair"
      ∷ []
  pub arguments : map given_marks (sites_of_nested None) ≡ (map known (1 ∷ 2 ∷ 3 ∷ 4 ∷ []) ∷ [])
      ∷ (map known (10 ∷ 10 ∷ 10 ∷ 10 ∷ []) ∷ []) ∷ []
  -- both run where c is true
  pub clocks : map (λ (site : CallInstance). map site.base (0 ∷ 1 ∷ []))
      (sites_of_nested (where_c true)) ≡ (Some true ∷ Some false ∷ []) ∷ (Some true ∷ Some false ∷ []) ∷ []

-- outer calls pair(single(x)), and twice calls outer twice
abbrev pub caller : List ℕ → List ℕ → Tree → NodeTree
caller name left right =
    record {
      name = name;
      inputs = int_on None (codes "x") ∷ [];
      outputs = int_on None left ∷ [];
      locals = [];
      equations = record { left = left ∷ []; right = right } ∷ [];
    }

abbrev pub outer : NodeTree
outer = caller (codes "outer") (codes "y") nested

abbrev pub twice : NodeTree
twice = caller (codes "twice") (codes "z") (tree.binary (Data2 Add) (call_of (codes "outer") x)
    (call_of (codes "outer") x))

abbrev pub four_nodes : ProgramTree
four_nodes = program_of (twice ∷ outer ∷ pair ∷ single ∷ [])

pub record PathsAre : Type 0 where
  pub whole : instance_at four_nodes (codes "twice") [] ≡ Some twice
  pub second_call : instance_at four_nodes (codes "twice") (1 ∷ []) ≡ Some outer
  -- in it the inner call has number 0, and the outer one number 1
  pub inner : instance_at four_nodes (codes "twice") (1 ∷ 0 ∷ []) ≡ Some single
  pub around : instance_at four_nodes (codes "twice") (1 ∷ 1 ∷ []) ≡ Some pair
  -- there is no third call
  pub none : instance_at four_nodes (codes "twice") (2 ∷ []) ≡ None

-- the main node is given the table's columns, and nothing after them
pub record GivenAre : Type 0 where
  pub columns : map (λ a. marks a 5) (given_streams four_samples) ≡ (known 1 ∷ known 2 ∷ known 3 ∷ known 4
      ∷ Known Absent ∷ []) ∷ (known_truth true ∷ known_truth false ∷ known_truth true ∷ known_truth true
      ∷ Known Absent ∷ []) ∷ []

pub record VectorsLaw : Type 0 where
  pub counters : CountersAre
  pub expressions : ExpressionsAre
  pub enumerations : EnumerationsAre
  pub calls : CallsAre
  pub paths : PathsAre
  pub given : GivenAre
