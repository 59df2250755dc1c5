-- Worked programs with enumerations: their types and names, clocks on names, and merges of all names.
use Rattle.std.specs.Prelude.{◌≡◌, ℕ, true, false, List, [], ◌∷◌, Option, Some, None, codes}
use Rattle.lutree.specs.declared.expr.BinaryOperator.TheVariants.{Add, Less, Equal}
use Rattle.lutree.specs.declared.expr.Infix.TheVariants.{Data as Data2, Arrow, FollowedBy}
use Rattle.lutree.specs.declared.expr.Label.{Label}
use Rattle.lutree.specs.declared.expr.Pattern.{Pattern}
use Rattle.lutree.specs.declared.expr.Pattern.TheVariants as patterns
use Rattle.lutree.specs.declared.program.Kind.{Kind}
use Rattle.lutree.specs.declared.program.Kind.TheVariants.{Int, Bool as Truths, Enum}
use Rattle.lutree.specs.Tree.{Tree, TypeTree, DeclarationTree, EquationTree, NodeTree, ProgramTree}
use Rattle.lutree.specs.Tree as tree
use Rattle.lustat_rules.specs.Scope.{Clock}
use Rattle.lustat_rules.specs.Typing.{type_of}
use Rattle.lustat_rules.specs.Clocks.{on, base}
use Rattle.lustat_rules.specs.Accepted.{Rule, TypeKeeps, NameKeeps, DeclarationKeeps, EquationKeeps}
use Rattle.lustat_rules.specs.Accepted.{IsAccepted, IsRefused}
use Rattle.lustat_rules.specs.Vectors.{int_variable, defines, x, merge_on, main, keeps, breaks}

-- SPELLING

-- type mode = enum { Up, Down, Off };
abbrev pub mode : TypeTree
mode = record { name = codes "mode"; names = codes "Up" ∷ codes "Down" ∷ codes "Off" ∷ [] }

-- type side = enum { Left };
abbrev pub side : TypeTree
side = record { name = codes "side"; names = codes "Left" ∷ [] }

abbrev pub of_mode : Kind
of_mode = Enum 0 3

abbrev pub of_side : Kind
of_side = Enum 1 1

abbrev pub up : Label
up = record { name = codes "Up"; kind = of_mode; number = 0 }

abbrev pub down : Label
down = record { name = codes "Down"; kind = of_mode; number = 1 }

abbrev pub off : Label
off = record { name = codes "Off"; kind = of_mode; number = 2 }

abbrev pub left : Label
left = record { name = codes "Left"; kind = of_side; number = 0 }

-- a name that no type of the program has
abbrev pub lost : Label
lost = record { name = codes "Lost"; kind = Enum 0 0; number = 0 }

abbrev pub typed_variable : List ℕ → Kind → List ℕ → Clock → DeclarationTree
typed_variable x kind name k = record { name = x; kind = kind; type_name = Some name; clock = k }

abbrev pub m : Tree
m = tree.variable (codes "m")

abbrev pub k : Tree
k = tree.variable (codes "k")

abbrev pub z : Tree
z = tree.variable (codes "z")

-- x when NAME(VARIABLE)
abbrev pub x_on : Label → List ℕ → Tree
x_on l v = tree.when x (record { variable = v; pattern = patterns.Label l })

abbrev pub patterns_of : List Label → List Pattern
patterns_of [] = []
patterns_of (l ∷ ls) = patterns.Label l ∷ patterns_of ls

-- merge m of three branches
abbrev pub merge_three : List Pattern → Tree → Tree → Tree → Tree
merge_three ps a b d = tree.merge (codes "m") ps (tree.more a (tree.more b (tree.more d tree.none)))

-- merge VARIABLE of one branch
abbrev pub merge_one : List ℕ → Pattern → Tree → Tree
merge_one v p a = tree.merge v (p ∷ []) (tree.more a tree.none)

-- PROGRAMS

-- merge m (Up -> x when Up(m)) (Down -> z) (Off -> 0)
abbrev pub whole : Tree
whole = merge_three (patterns_of (up ∷ down ∷ off ∷ [])) (x_on up (codes "m")) z (tree.number 0)

-- node main(m: mode; k: side; x: int) returns (y: int; z: int when Down(m));
-- let z = x when Down(m); y = merge m (Up -> x when Up(m)) (Down -> z) (Off -> 0); tel
abbrev pub switch : NodeTree
switch =
    record {
      name = main;
      inputs = typed_variable (codes "m") of_mode (codes "mode") base ∷ typed_variable (codes "k") of_side
          (codes "side") base ∷ int_variable (codes "x") base ∷ [];
      outputs = int_variable (codes "y") base ∷ int_variable (codes "z")
          (on (codes "m") (patterns.Label down)) ∷ [];
      locals = [];
      equations = defines (codes "z") (x_on down (codes "m")) ∷ defines (codes "y") whole ∷ [];
    }

abbrev pub switched : ProgramTree
switched = record { types = mode ∷ side ∷ []; nodes = switch ∷ [] }

-- node main(m: mode; x: int) returns (y: int); let y = merge m (Up -> x when Up(m)) (Down -> x when Down(m));
-- tel
abbrev pub halved : NodeTree
halved =
    record {
      name = main;
      inputs = typed_variable (codes "m") of_mode (codes "mode") base ∷ int_variable (codes "x") base ∷ [];
      outputs = int_variable (codes "y") base ∷ [];
      locals = [];
      equations = defines (codes "y") (tree.merge (codes "m") (patterns_of (up ∷ down ∷ []))
          (tree.more (x_on up (codes "m")) (tree.more (x_on down (codes "m")) tree.none))) ∷ [];
    }

-- node main(m: mode; x: int) returns (y: int); var n: mode; v: int when Up(n); let n = RIGHT; v = x when
-- Up(n); y = current v; tel
abbrev pub rising : Tree → NodeTree
rising right =
    record {
      name = main;
      inputs = typed_variable (codes "m") of_mode (codes "mode") base ∷ int_variable (codes "x") base ∷ [];
      outputs = int_variable (codes "y") base ∷ [];
      locals = typed_variable (codes "n") of_mode (codes "mode") base ∷ int_variable (codes "v")
          (on (codes "n") (patterns.Label up)) ∷ [];
      equations =
          defines (codes "n") right
          ∷ defines (codes "v") (x_on up (codes "n"))
          ∷ defines (codes "y") (tree.current (codes "v"))
          ∷ [];
    }

-- an equation keeps a rule where it stands first in that node
abbrev pub switch_keeps : Rule → Tree → Type 0
switch_keeps r e = EquationKeeps switched main r switch 0 (defines (codes "y") e)

abbrev pub switch_breaks : Rule → Tree → Type 0
switch_breaks r e = ¬ switch_keeps r e

-- TYPES

abbrev pub has_type : Tree → Option Kind
has_type = type_of switched switch

abbrev pub equals : Tree → Tree → Tree
equals = tree.binary (Data2 Equal)

pub record EnumTypesAre : Type 0 where
  pub constant : has_type (tree.label down) ≡ Some of_mode
  pub variable : has_type m ≡ Some of_mode
  pub equality : has_type (equals m (tree.label down)) ≡ Some Truths
  pub equality_of_both : has_type (equals m (tree.label left)) ≡ None
  pub equality_with_int : has_type (equals m x) ≡ None
  pub order : has_type (tree.binary (Data2 Less) m m) ≡ None
  pub sum : has_type (tree.binary (Data2 Add) m m) ≡ None
  pub arrow : has_type (tree.binary Arrow (tree.label up) m) ≡ Some of_mode
  pub arrow_of_both : has_type (tree.binary Arrow (tree.label left) m) ≡ None
  pub choice : has_type (tree.choice (equals k k) m (tree.label off)) ≡ Some of_mode
  pub choice_by_mode : has_type (tree.choice m x x) ≡ None
  pub merged : has_type whole ≡ Some Int
  pub merged_names : has_type (merge_one (codes "k") (patterns.Label left) m) ≡ Some of_mode
  pub merged_of_both : has_type (merge_three [] x x m) ≡ None
  pub merged_of_none : has_type (tree.merge (codes "m") [] tree.none) ≡ None

-- NAMES

-- type mode = enum { Up, Up };
abbrev pub repeated : TypeTree
repeated = record { name = codes "mode"; names = codes "Up" ∷ codes "Up" ∷ [] }

-- type side = enum { Left, Off };
abbrev pub shared : TypeTree
shared = record { name = codes "side"; names = codes "Left" ∷ codes "Off" ∷ [] }

-- a declaration keeps a rule where it stands in that node
abbrev pub switch_declares : Rule → ℕ → DeclarationTree → Type 0
switch_declares r i d = DeclarationKeeps switched main r switch i d

pub record EnumNamesAre : Type 0 where
  -- type mode = ..; type mode = ..;
  pub two_types : ¬ TypeKeeps (record { types = mode ∷ mode ∷ []; nodes = [] }) main Rule.duplicate_name 1
      mode
  pub one_type : TypeKeeps switched main Rule.duplicate_name 1 side
  pub twice_in_a_type : ¬ NameKeeps (record { types = repeated ∷ []; nodes = [] }) main Rule.duplicate_name 0
      repeated 1 (codes "Up")
  pub in_two_types : ¬ NameKeeps (record { types = mode ∷ shared ∷ []; nodes = [] }) main Rule.duplicate_name
      1 shared 1 (codes "Off")
  pub once : NameKeeps switched main Rule.duplicate_name 1 side 0 (codes "Left")
  pub variable_of_a_name : ¬ switch_declares Rule.duplicate_name 2 (int_variable (codes "Off") base)
  -- type names and variables are apart
  pub variable_of_a_type : switch_declares Rule.duplicate_name 0 (int_variable (codes "mode") base)
  pub unknown_type : ¬ switch_declares Rule.unknown_name 0 (typed_variable (codes "m") (Enum 0 0)
      (codes "lost") base)
  pub other_type : ¬ switch_declares Rule.unknown_name 0 (typed_variable (codes "m") of_side
      (codes "mode") base)
  pub known_type : switch_declares Rule.unknown_name 1 (typed_variable (codes "k") of_side
      (codes "side") base)
  pub unwritten_type : ¬ switch_declares Rule.unknown_name 0 (tree.declared (codes "m") of_mode base)
  pub unknown_in_clock : ¬ switch_declares Rule.unknown_name 4 (int_variable (codes "z")
      (on (codes "m") (patterns.Label lost)))
  pub known_in_clock : switch_declares Rule.unknown_name 4 (int_variable (codes "z")
      (on (codes "m") (patterns.Label down)))
  pub unknown_constant : switch_breaks Rule.unknown_name (tree.label lost)
  pub known_constant : switch_keeps Rule.unknown_name (equals m (tree.label left))
  pub unknown_after_when : switch_breaks Rule.unknown_name (x_on lost (codes "m"))
  pub unknown_branch : switch_breaks Rule.unknown_name (merge_one (codes "m") (patterns.Label lost) x)
  -- a name of an enumeration is no variable
  pub current_of_a_name : switch_breaks Rule.unknown_name (tree.current (codes "Up"))
  pub clock_on_a_name : switch_breaks Rule.unknown_name (x_on down (codes "Up"))

-- MERGES

pub record EnumMergesAre : Type 0 where
  pub all_names : switch_keeps Rule.bad_merge whole
  pub one_name : switch_keeps Rule.bad_merge (merge_one (codes "k") (patterns.Label left) x)
  pub one_left_out : switch_breaks Rule.bad_merge (merge_one (codes "m") (patterns.Label up) x)
  pub turned : switch_breaks Rule.bad_merge (merge_three (patterns_of (down ∷ up ∷ off ∷ [])) x x x)
  pub one_twice : switch_breaks Rule.bad_merge (merge_three (patterns_of (up ∷ up ∷ off ∷ [])) x x x)
  pub other_names : switch_breaks Rule.bad_merge (merge_one (codes "k") (patterns.Label up) x)
  pub truths : switch_breaks Rule.bad_merge (merge_on (codes "m") x x)
  pub more_branches : switch_breaks Rule.bad_merge (merge_three (patterns_of (up ∷ down ∷ [])) x x x)
  -- inside another expression
  pub inside : switch_breaks Rule.bad_merge (tree.binary Arrow x (merge_one (codes "m")
      (patterns.Label up) x))
  -- on a bool: true and false alone, and names are a matter of clocks; so is a merge on an int
  pub truths_turned : breaks Rule.bad_merge (defines (codes "y")
      (tree.merge (codes "c") (patterns.Truth false ∷ patterns.Truth true ∷ [])
      (tree.more x (tree.more x tree.none))))
  pub names_on_a_bool : keeps Rule.bad_merge (defines (codes "y")
      (merge_one (codes "c") (patterns.Label up) x))
  pub names_on_an_int : switch_keeps Rule.bad_merge (merge_one (codes "x") (patterns.Label up) x)
  -- types aren't checked of a merge that isn't whole
  pub unjudged : switch_keeps Rule.type_mismatch (merge_one (codes "m") (patterns.Label up) m)

-- CLOCKS

pub record EnumClocksAre : Type 0 where
  pub clock : switch_keeps Rule.not_a_clock (x_on down (codes "m"))
  pub clock_of_another_type : switch_breaks Rule.not_a_clock (x_on down (codes "k"))
  pub clock_of_an_int : switch_breaks Rule.not_a_clock (x_on down (codes "x"))
  pub no_bool : switch_breaks Rule.not_a_clock (tree.when x (record {
    variable = codes "m";
    pattern = patterns.Truth true;
  }))
  pub merge : switch_keeps Rule.not_a_clock whole
  pub merge_of_an_int : switch_breaks Rule.not_a_clock (merge_one (codes "x") (patterns.Label up) x)
  pub merge_of_a_bool_by_names : breaks Rule.not_a_clock (defines (codes "y")
      (merge_one (codes "c") (patterns.Label up) x))
  pub declared_clock : switch_declares Rule.not_a_clock 4 (int_variable (codes "z")
      (on (codes "m") (patterns.Label down)))
  pub declared_of_another_type : ¬ switch_declares Rule.not_a_clock 4 (int_variable (codes "z")
      (on (codes "k") (patterns.Label down)))
  pub declared_no_bool : ¬ switch_declares Rule.not_a_clock 4 (int_variable (codes "z")
      (on (codes "m") (patterns.Truth true)))
  -- y = whole, and y = merge m (Up -> x when Down(m)) (Down -> z) (Off -> 0)
  pub fits : switch_keeps Rule.clock_mismatch whole
  pub other_name : switch_breaks Rule.clock_mismatch (merge_three (patterns_of (up ∷ down ∷ off ∷ []))
      (x_on down (codes "m")) z (tree.number 0))
  pub sum_of_two_names : ¬ EquationKeeps switched main Rule.clock_mismatch switch 0 (defines (codes "z")
      (tree.binary (Data2 Add) z (x_on up (codes "m"))))

-- CURRENT

abbrev pub rises : Tree → Type 0
rises right =
    let n = rising right in
    EquationKeeps (record { types = mode ∷ []; nodes = n ∷ [] }) main Rule.current_may_be_nil n 2
    (defines (codes "y") (tree.current (codes "v")))

pub record EnumBeginningsAre : Type 0 where
  pub name_arrow : rises (tree.binary Arrow (tree.label up) m)
  pub name_fby : rises (tree.binary FollowedBy (tree.label up) m)
  pub other_name : ¬ rises (tree.binary Arrow (tree.label down) m)
  pub other_name_fby : ¬ rises (tree.binary FollowedBy (tree.label down) m)
  pub truth : ¬ rises (tree.binary Arrow (tree.truth true) m)
  pub variable : ¬ rises m

pub record EnumVectors : Type 0 where
  pub types : EnumTypesAre
  pub names : EnumNamesAre
  pub merges : EnumMergesAre

pub record EnumClockVectors : Type 0 where
  pub clocks : EnumClocksAre
  pub beginnings : EnumBeginningsAre

-- WHOLE PROGRAMS

-- the program with a merge of three names is accepted, and that with two of them is refused
pub record EnumProgramsAre : Type 0 where
  pub accepted : IsAccepted switched main
  pub refused : IsRefused (record { types = mode ∷ []; nodes = halved ∷ [] }) main Rule.bad_merge
