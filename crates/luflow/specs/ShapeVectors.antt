-- What flows read, which orders are those of ranks, which columns are a program's, and its variables
-- by their roles; worked out by hand from what the language says of them.
use Rattle.std.specs.Prelude.{◌≡◌, ℕ, true, false, List, [], ◌∷◌, map, pos, codes}
use Rattle.std.specs.List.{range_with_len}
use Rattle.lutree.specs.declared.expr.UnaryOperator.TheVariants.{Not}
use Rattle.lutree.specs.declared.expr.BinaryOperator.TheVariants.{Add}
use Rattle.lutree.specs.declared.program.Kind.TheVariants.{Int as Ints, Bool as Truths, Enum as Names}
use Rattle.luflow.specs.declared.data.Datum.{Datum}
use Rattle.luflow.specs.declared.data.Datum.TheVariants.{Int, Bool as Truth, Name, Nil}
use Rattle.luflow.specs.declared.form.Form.{Form}
use Rattle.luflow.specs.declared.form.Form.TheVariants.{Input, Copied, Unary, Binary, If, Pre, Arrow, When}
use Rattle.luflow.specs.declared.form.Form.TheVariants.{Current, Merge}
use Rattle.luflow.specs.declared.variable.Enum.{Enum}
use Rattle.luflow.specs.declared.variable.Variable.{Variable}
use Rattle.luflow.specs.declared.variable.Role.TheVariants as role
use Rattle.luflow.specs.Program.{FlatView, Column, IsOrdered, places, reads}
use Rattle.luflow.specs.Rank.{IsRankOrder, reads_of}
use Rattle.luflow.specs.Flats.{IsTypeAmong}
use Rattle.luflow.specs.Types.{names_of}
use Rattle.luflow.specs.Tables.{AreColumnsOf, IsTable}
use Rattle.luflow.specs.Variables.{inputs_of, outputs_of, variable_name, is_output_of}
use Rattle.luflow.specs.Vectors.{int_flow, sampled_flow, number, ints, int_variable, truth_variable}
use Rattle.luflow.specs.Vectors.{sampled_sum, three_names, of_three, three_ways}

-- READS

-- a form of each kind but constants and inputs, on places from 1 on
abbrev pub forms : List Form
forms =
    Copied 1 ∷ Unary Not 1 ∷ Binary Add 1 2 ∷ If 1 2 3 ∷ Pre 1 ∷ Arrow 1 2 ∷ When 1 ∷ Current 1
    ∷ Merge 1 (2 ∷ 3 ∷ []) ∷ Merge 1 (2 ∷ 3 ∷ 4 ∷ 2 ∷ []) ∷ []

pub record ReadsAre : Type 0 where
  -- the operands, and all of them are read at the same instant but that of `pre`
  pub operands : map places forms ≡
      (1 ∷ []) ∷ (1 ∷ []) ∷ (1 ∷ 2 ∷ []) ∷ (1 ∷ 2 ∷ 3 ∷ []) ∷ (1 ∷ []) ∷ (1 ∷ 2 ∷ []) ∷ (1 ∷ [])
      ∷ (1 ∷ []) ∷ (1 ∷ 2 ∷ 3 ∷ []) ∷ (1 ∷ 2 ∷ 3 ∷ 4 ∷ 2 ∷ []) ∷ []
  pub on_base : map (λ form. reads (int_flow form)) forms ≡
      (1 ∷ []) ∷ (1 ∷ []) ∷ (1 ∷ 2 ∷ []) ∷ (1 ∷ 2 ∷ 3 ∷ []) ∷ [] ∷ (1 ∷ 2 ∷ []) ∷ (1 ∷ [])
      ∷ (1 ∷ []) ∷ (1 ∷ 2 ∷ 3 ∷ []) ∷ (1 ∷ 2 ∷ 3 ∷ 4 ∷ 2 ∷ []) ∷ []
  -- on a clock its variable too, also by `pre` and by a constant
  pub on_clock : map (λ form. reads (sampled_flow 9 form)) forms ≡
      (1 ∷ 9 ∷ []) ∷ (1 ∷ 9 ∷ []) ∷ (1 ∷ 2 ∷ 9 ∷ []) ∷ (1 ∷ 2 ∷ 3 ∷ 9 ∷ []) ∷ (9 ∷ [])
      ∷ (1 ∷ 2 ∷ 9 ∷ []) ∷ (1 ∷ 9 ∷ []) ∷ (1 ∷ 9 ∷ []) ∷ (1 ∷ 2 ∷ 3 ∷ 9 ∷ [])
      ∷ (1 ∷ 2 ∷ 3 ∷ 4 ∷ 2 ∷ 9 ∷ []) ∷ []
  pub constant : map reads (int_flow (number 5) ∷ sampled_flow 9 (number 5) ∷ []) ≡ [] ∷ (9 ∷ []) ∷ []
  pub input : reads (int_flow (Input 5)) ≡ []
  -- of y = x -> pre y + x, z = 2 * s and s = x when c, and their flows inside
  pub of_sum : reads_of sampled_sum ≡
      [] ∷ [] ∷ (0 ∷ 7 ∷ []) ∷ (5 ∷ 4 ∷ 1 ∷ []) ∷ (0 ∷ 1 ∷ []) ∷ (1 ∷ []) ∷ [] ∷ (6 ∷ 0 ∷ []) ∷ []
  -- of a merge of three branches, and of flows on names
  pub of_ways : reads_of three_ways ≡
      [] ∷ [] ∷ (0 ∷ 5 ∷ 4 ∷ 7 ∷ []) ∷ (0 ∷ 8 ∷ []) ∷ (1 ∷ 0 ∷ []) ∷ (1 ∷ 0 ∷ []) ∷ []
      ∷ (6 ∷ 0 ∷ []) ∷ [] ∷ []

-- ORDERS

-- the sampled sum in another order
abbrev pub reordered : List ℕ → FlatView
reordered order =
    record {
      types = [];
      flows = sampled_sum.flows;
      order = order;
      owners = sampled_sum.owners;
      variables = sampled_sum.variables;
    }

abbrev pub is_rank_order : List ℕ → Type 0
is_rank_order order = IsRankOrder (reads_of sampled_sum) order

pub record OrdersAre : Type 0 where
  pub of_ranks : is_rank_order (0 ∷ 1 ∷ 4 ∷ 5 ∷ 3 ∷ 6 ∷ 7 ∷ 2 ∷ [])
  -- reads come first, but 5 has a rank before 4, which is less and could have it
  pub not_the_least : ¬ is_rank_order (0 ∷ 1 ∷ 5 ∷ 4 ∷ 3 ∷ 6 ∷ 7 ∷ 2 ∷ [])
  -- z before what it reads, a place twice, and places that are missing
  pub reads_later : ¬ is_rank_order (0 ∷ 1 ∷ 3 ∷ 4 ∷ 5 ∷ 6 ∷ 7 ∷ 2 ∷ [])
  pub one_twice : ¬ is_rank_order (0 ∷ 1 ∷ 4 ∷ 5 ∷ 3 ∷ 6 ∷ 7 ∷ 0 ∷ [])
  pub too_few : ¬ is_rank_order (0 ∷ 1 ∷ 4 ∷ [])
  -- a program is in order where reads come first, whether the least goes first or not
  pub ordered : IsOrdered (reordered (0 ∷ 1 ∷ 5 ∷ 4 ∷ 3 ∷ 6 ∷ 7 ∷ 2 ∷ []))
  pub unordered : ¬ IsOrdered (reordered (0 ∷ 1 ∷ 3 ∷ 4 ∷ 5 ∷ 6 ∷ 7 ∷ 2 ∷ []))
  pub clock_later : ¬ IsOrdered (reordered (0 ∷ 5 ∷ 1 ∷ 4 ∷ 3 ∷ 6 ∷ 7 ∷ 2 ∷ []))
  pub missing : ¬ IsOrdered (reordered (0 ∷ 1 ∷ 4 ∷ 5 ∷ 3 ∷ 6 ∷ 7 ∷ []))
  pub doubled : ¬ IsOrdered (reordered (0 ∷ 1 ∷ 4 ∷ 5 ∷ 3 ∷ 6 ∷ 7 ∷ 2 ∷ 0 ∷ []))

-- TABLES

abbrev pub column : List ℕ → List Datum → Column
column name values = record { name = name; values = values }

abbrev pub truths : List Datum
truths = Truth true ∷ Truth false ∷ []

-- the columns of x, an int, and c, a bool
abbrev pub are_columns : List Column → Type 0
are_columns = AreColumnsOf (int_variable role.Input (codes "x") ∷ truth_variable role.Input (codes "c") ∷ [])

abbrev pub of_x : Column
of_x = column (codes "x") (ints (1 ∷ 2 ∷ []))

abbrev pub of_c : Column
of_c = column (codes "c") truths

-- the column of m, of an enumeration of three names
abbrev pub are_modes : List Datum → Type 0
are_modes values =
    AreColumnsOf (record { name = codes "m"; role = role.Input; kind = of_three } ∷ [])
    (column (codes "m") values ∷ [])

pub record TablesAre : Type 0 where
  pub columns : are_columns (of_x ∷ of_c ∷ [])
  pub other_name : ¬ are_columns (column (codes "y") (ints (1 ∷ 2 ∷ [])) ∷ of_c ∷ [])
  pub other_second_name : ¬ are_columns (of_x ∷ column (codes "d") truths ∷ [])
  pub turned : ¬ are_columns (of_c ∷ of_x ∷ [])
  pub too_few : ¬ are_columns (of_x ∷ [])
  pub too_many : ¬ are_columns (of_x ∷ of_c ∷ of_c ∷ [])
  pub truth_for_int : ¬ are_columns (column (codes "x") (Int (pos 1) ∷ Truth true ∷ []) ∷ of_c ∷ [])
  pub int_for_truth : ¬ are_columns (of_x ∷ column (codes "c") (Truth true ∷ Int (pos 1) ∷ []) ∷ [])
  pub nil : ¬ are_columns (column (codes "x") (Int (pos 1) ∷ Nil ∷ []) ∷ of_c ∷ [])
  pub no_instants : are_columns (column (codes "x") [] ∷ column (codes "c") [] ∷ [])
  -- names below the number of its names, and no other data
  pub modes : are_modes (map Name (0 ∷ 2 ∷ 1 ∷ []))
  pub past_names : ¬ are_modes (Name 0 ∷ Name 3 ∷ [])
  pub truth_for_name : ¬ are_modes (Truth true ∷ [])
  pub int_for_name : ¬ are_modes (Int (pos 0) ∷ [])
  pub nil_for_name : ¬ are_modes (Nil ∷ [])
  pub name_for_int : ¬ are_columns (column (codes "x") (Name 0 ∷ []) ∷ of_c ∷ [])
  pub name_for_truth : ¬ are_columns (of_x ∷ column (codes "c") (Name 0 ∷ []) ∷ [])
  -- each column has a value for each instant
  pub long : IsTable (record { instants = 2; columns = of_x ∷ of_c ∷ [] })
  pub longer : ¬ IsTable (record { instants = 1; columns = of_x ∷ of_c ∷ [] })
  pub shorter : ¬ IsTable (record { instants = 3; columns = of_x ∷ of_c ∷ [] })
  pub second_shorter :
      ¬ IsTable (record { instants = 2; columns = of_x ∷ column (codes "c") (Truth true ∷ []) ∷ [] })
  pub last : IsTable (record { instants = 1000000; columns = [] })
  pub past_last : ¬ IsTable (record { instants = 1000001; columns = [] })

-- TYPES

-- another enumeration, of one name
abbrev pub one_name : Enum
one_name = record { name = codes "u"; names = codes "Only" ∷ [] }

abbrev pub two_types : List Enum
two_types = three_names ∷ one_name ∷ []

pub record TypesAre : Type 0 where
  -- `int` and `bool` always, and an enumeration by its place, with as many names
  pub int : IsTypeAmong [] Ints
  pub bool : IsTypeAmong [] Truths
  pub first : IsTypeAmong two_types (Names 0 3)
  pub second : IsTypeAmong two_types (Names 1 1)
  pub fewer : ¬ IsTypeAmong two_types (Names 0 2)
  pub of_the_other : ¬ IsTypeAmong two_types (Names 1 3)
  pub no_such_place : ¬ IsTypeAmong two_types (Names 2 1)
  pub unknown : ¬ IsTypeAmong two_types (Names 2 0)
  -- and its names
  pub names_are : map (names_of two_types) (Ints ∷ Truths ∷ Names 0 3 ∷ Names 1 1 ∷ Names 2 0 ∷ []) ≡
      [] ∷ [] ∷ (codes "Up" ∷ codes "Down" ∷ codes "Halt" ∷ []) ∷ (codes "Only" ∷ []) ∷ [] ∷ []

-- VARIABLES

abbrev pub names : List Variable → List (List ℕ)
names = map (λ x. x.name)

-- x and c are inputs, y and z outputs, and s is neither
pub record VariablesAre : Type 0 where
  pub inputs : names (inputs_of sampled_sum.variables) ≡ codes "x" ∷ codes "c" ∷ []
  pub outputs : names (outputs_of sampled_sum.variables) ≡ codes "y" ∷ codes "z" ∷ []
  pub by_number : map (variable_name sampled_sum) (range_with_len 0 6) ≡
      codes "x" ∷ codes "c" ∷ codes "y" ∷ codes "z" ∷ codes "s" ∷ [] ∷ []
  pub are_outputs : map (is_output_of sampled_sum) (range_with_len 0 6) ≡
      false ∷ false ∷ true ∷ true ∷ false ∷ false ∷ []

pub record ShapeVectors : Type 0 where
  pub reads_are : ReadsAre
  pub orders : OrdersAre
  pub tables : TablesAre
  pub types : TypesAre
  pub variables_are : VariablesAre
