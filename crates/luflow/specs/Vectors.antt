-- Worked programs, and their solutions computed on the definitions.
use Rattle.std.specs.Prelude.{◌≡◌, ℕ, ◌<◌, ◌≤◌, Bool, true, false, List, [], ◌∷◌, map, pos, codes}
use Rattle.lutree.specs.declared.expr.UnaryOperator.TheVariants.{Not}
use Rattle.lutree.specs.declared.expr.BinaryOperator.TheVariants.{Add, Multiply, Divide, Equal}
use Rattle.lutree.specs.declared.program.Kind.{Kind}
use Rattle.lutree.specs.declared.program.Kind.TheVariants.{Int as Ints, Bool as Truths, Enum as Names}
use Rattle.luflow.specs.declared.data.Datum.{Datum}
use Rattle.luflow.specs.declared.data.Datum.TheVariants.{Int, Bool as Truth, Name, Nil}
use Rattle.luflow.specs.declared.data.Status.TheVariants.{Absent, Present}
use Rattle.luflow.specs.declared.form.Clock.TheVariants.{Base, On}
use Rattle.luflow.specs.declared.form.FaultKind.TheVariants.{DivZero}
use Rattle.luflow.specs.declared.form.Form.{Form}
use Rattle.luflow.specs.declared.form.Form.TheVariants.{Input, Constant, Copied, Unary, Binary, Pre, Arrow}
use Rattle.luflow.specs.declared.form.Form.TheVariants.{When, Current, Merge}
use Rattle.luflow.specs.declared.form.Flow.{Flow}
use Rattle.luflow.specs.declared.variable.Enum.{Enum}
use Rattle.luflow.specs.declared.variable.Variable.{Variable}
use Rattle.luflow.specs.declared.variable.Role.{Role}
use Rattle.luflow.specs.declared.variable.Role.TheVariants as role
use Rattle.luflow.specs.declared.message.Body.TheVariants.{Value}
use Rattle.luflow.specs.Program.{FlatView, InputsView, flows_of}
use Rattle.luflow.specs.Streams.{Mark, Known, Broken}
use Rattle.luflow.specs.Messages.{marks, messages}
use Rattle.luflow.specs.Solution.{solution}
use Rattle.luflow.specs.Faults.{IsFault}
use Rattle.luflow.specs.Sound.{IsFit}
use Rattle.luflow.specs.Tables.{IsTable}
use Rattle.luflow.specs.Flats.{IsFlat}

-- a flow of ints, on the base clock
abbrev pub int_flow : Form → Flow
int_flow form = record { form = form; clock = Base; kind = Ints }

-- a flow of truth values, on the base clock
abbrev pub truth_flow : Form → Flow
truth_flow form = record { form = form; clock = Base; kind = Truths }

-- a flow of ints, where variable c is true
abbrev pub sampled_flow : ℕ → Form → Flow
sampled_flow c form = record { form = form; clock = On c (Truth true); kind = Ints }

-- a flow of truth values, where variable c is true
abbrev pub slow_truths : ℕ → Form → Flow
slow_truths c form = record { form = form; clock = On c (Truth true); kind = Truths }

abbrev pub number : ℕ → Form
number n = Constant (Int (pos n))

abbrev pub int_variable : Role → List ℕ → Variable
int_variable role name = record { name = name; role = role; kind = Ints }

abbrev pub truth_variable : Role → List ℕ → Variable
truth_variable role name = record { name = name; role = role; kind = Truths }

abbrev pub ints : List ℕ → List Datum
ints = map (λ n. Int (pos n))

-- the mark of a number that is present
abbrev pub known : ℕ → Mark
known n = Known (Present (Int (pos n)))

abbrev pub known_truth : Bool → Mark
known_truth b = Known (Present (Truth b))

-- node main() returns (a: int; b: int); let a = 0 -> pre b + 1; b = 0 -> pre a + 1; tel
abbrev pub two_counters : FlatView
two_counters =
    record {
      types = [];
      flows =
          int_flow (Arrow 2 5) ∷ int_flow (Arrow 6 9)
          ∷ int_flow (number 0) ∷ int_flow (Pre 1) ∷ int_flow (number 1) ∷ int_flow (Binary Add 3 4)
          ∷ int_flow (number 0) ∷ int_flow (Pre 0) ∷ int_flow (number 1) ∷ int_flow (Binary Add 7 8) ∷ [];
      order = 2 ∷ 3 ∷ 4 ∷ 5 ∷ 0 ∷ 6 ∷ 7 ∷ 8 ∷ 9 ∷ 1 ∷ [];
      owners = 0 ∷ 1 ∷ 0 ∷ 0 ∷ 0 ∷ 0 ∷ 1 ∷ 1 ∷ 1 ∷ 1 ∷ [];
      variables = int_variable role.Output (codes "a") ∷ int_variable role.Output (codes "b") ∷ [];
    }

-- three instants, and no input
abbrev pub three : InputsView
three = record { instants = 3; columns = [] }

-- node main(x: int; c: bool) returns (y: int; z: int when c); var s: int when c;
-- let s = x when c; z = 2 * s; y = x -> pre y + x; tel
abbrev pub sampled_sum : FlatView
sampled_sum =
    record {
      types = [];
      flows =
          int_flow (Input 0) ∷ truth_flow (Input 1)
          ∷ int_flow (Arrow 0 7) ∷ sampled_flow 1 (Binary Multiply 5 4) ∷ sampled_flow 1 (When 0)
          ∷ sampled_flow 1 (number 2)
          ∷ int_flow (Pre 2) ∷ int_flow (Binary Add 6 0) ∷ [];
      order = 0 ∷ 1 ∷ 4 ∷ 5 ∷ 3 ∷ 6 ∷ 7 ∷ 2 ∷ [];
      owners = 0 ∷ 1 ∷ 2 ∷ 3 ∷ 4 ∷ 3 ∷ 2 ∷ 2 ∷ [];
      variables =
          int_variable role.Input (codes "x") ∷ truth_variable role.Input (codes "c")
          ∷ int_variable role.Output (codes "y") ∷ int_variable role.Output (codes "z")
          ∷ int_variable role.Local (codes "s") ∷ [];
    }

-- x is 1, 2, 3, 4, and c is true, false, true, true
abbrev pub four_samples : InputsView
four_samples =
    record {
      instants = 4;
      columns =
          record { name = codes "x"; values = ints (1 ∷ 2 ∷ 3 ∷ 4 ∷ []) }
          ∷ record { name = codes "c"; values = map Truth (true ∷ false ∷ true ∷ true ∷ []) } ∷ [];
    }

-- node main(x: int) returns (z: int); var y: int; p: int; let y = 1 div x; p = pre y; z = 0 -> p; tel
abbrev pub division : FlatView
division =
    record {
      types = [];
      flows =
          int_flow (Input 0) ∷ int_flow (Arrow 5 3) ∷ int_flow (Binary Divide 4 0) ∷ int_flow (Pre 2)
          ∷ int_flow (number 1) ∷ int_flow (number 0) ∷ [];
      order = 0 ∷ 3 ∷ 4 ∷ 2 ∷ 5 ∷ 1 ∷ [];
      owners = 0 ∷ 1 ∷ 2 ∷ 3 ∷ 2 ∷ 1 ∷ [];
      variables =
          int_variable role.Input (codes "x") ∷ int_variable role.Output (codes "z")
          ∷ int_variable role.Local (codes "y") ∷ int_variable role.Local (codes "p") ∷ [];
    }

-- x is 1, 0
abbrev pub one_zero : InputsView
one_zero = record { instants = 2; columns = record { name = codes "x"; values = ints (1 ∷ 0 ∷ []) } ∷ [] }

-- x is 1, 2
abbrev pub one_two : InputsView
one_two = record { instants = 2; columns = record { name = codes "x"; values = ints (1 ∷ 2 ∷ []) } ∷ [] }

-- node main(x: int) returns (y: int; z: int); var c: bool; s: int when c;
-- let c = true -> not pre c; s = x when c; y = current(s); z = merge c (true -> s) (false -> 0 when not c);
-- tel
abbrev pub held_sample : FlatView
held_sample =
    record {
      types = [];
      flows =
          int_flow (Input 0) ∷ int_flow (Current 4) ∷ int_flow (Merge 3 (4 ∷ 9 ∷ [])) ∷ truth_flow (Arrow 5 7)
          ∷ sampled_flow 3 (When 0)
          ∷ truth_flow (Constant (Truth true)) ∷ truth_flow (Pre 3) ∷ truth_flow (Unary Not 6)
          ∷ int_flow (number 0) ∷ record { form = When 8; clock = On 3 (Truth false); kind = Ints } ∷ [];
      order = 0 ∷ 5 ∷ 6 ∷ 7 ∷ 3 ∷ 4 ∷ 1 ∷ 8 ∷ 9 ∷ 2 ∷ [];
      owners = 0 ∷ 1 ∷ 2 ∷ 3 ∷ 4 ∷ 3 ∷ 3 ∷ 3 ∷ 2 ∷ 2 ∷ [];
      variables =
          int_variable role.Input (codes "x") ∷ int_variable role.Output (codes "y")
          ∷ int_variable role.Output (codes "z")
          ∷ truth_variable role.Local (codes "c") ∷ int_variable role.Local (codes "s") ∷ [];
    }

-- x is 1, 2, 3
abbrev pub three_samples : InputsView
three_samples = record {
  instants = 3;
  columns = record { name = codes "x"; values = ints (1 ∷ 2 ∷ 3 ∷ []) }
      ∷ [];
}

-- node main(x: int; b: bool; d: bool) returns (c: bool when b; z: int when c); var s: int when c;
-- let c = d when b; s = (x when b) when c; z = s; tel
abbrev pub chained : FlatView
chained =
    record {
      types = [];
      flows =
          int_flow (Input 0) ∷ truth_flow (Input 1) ∷ truth_flow (Input 2)
          ∷ slow_truths 1 (When 2) ∷ sampled_flow 3 (Copied 5) ∷ sampled_flow 3 (When 6)
          ∷ sampled_flow 1 (When 0) ∷ [];
      order = 0 ∷ 1 ∷ 2 ∷ 3 ∷ 6 ∷ 5 ∷ 4 ∷ [];
      owners = 0 ∷ 1 ∷ 2 ∷ 3 ∷ 4 ∷ 5 ∷ 5 ∷ [];
      variables =
          int_variable role.Input (codes "x") ∷ truth_variable role.Input (codes "b")
          ∷ truth_variable role.Input (codes "d") ∷ truth_variable role.Output (codes "c")
          ∷ int_variable role.Output (codes "z") ∷ int_variable role.Local (codes "s") ∷ [];
    }

-- x is 1, 2, 3, 4, b is true, false, true, true, and d is true, true, false, true
abbrev pub four_rows : InputsView
four_rows =
    record {
      instants = 4;
      columns =
          record { name = codes "x"; values = ints (1 ∷ 2 ∷ 3 ∷ 4 ∷ []) }
          ∷ record { name = codes "b"; values = map Truth (true ∷ false ∷ true ∷ true ∷ []) }
          ∷ record { name = codes "d"; values = map Truth (true ∷ true ∷ false ∷ true ∷ []) } ∷ [];
    }

-- an enumeration of three names
abbrev pub three_names : Enum
three_names = record { name = codes "t"; names = codes "Up" ∷ codes "Down" ∷ codes "Halt" ∷ [] }

-- the type of the first enumeration of a program, which has three names
abbrev pub of_three : Kind
of_three = Names 0 3

-- a flow of ints, where variable c has the name of this number
abbrev pub named_flow : ℕ → ℕ → Form → Flow
named_flow c k form = record { form = form; clock = On c (Name k); kind = Ints }

-- a flow of names, on the base clock
abbrev pub mode_flow : Form → Flow
mode_flow form = record { form = form; clock = Base; kind = of_three }

-- the mark of a name that is present
abbrev pub known_name : ℕ → Mark
known_name k = Known (Present (Name k))

-- type t = enum { Up, Down, Halt };
-- node main(m: t; x: int) returns (y: int; b: bool; z: int when Down(m));
-- let y = merge m (Up -> x when Up(m)) (Down -> z) (Halt -> 7 when Halt(m)); b = m = Down; z = x when
-- Down(m); tel
abbrev pub three_ways : FlatView
three_ways =
    record {
      types = three_names ∷ [];
      flows =
          mode_flow (Input 0) ∷ int_flow (Input 1) ∷ int_flow (Merge 0 (5 ∷ 4 ∷ 7 ∷ []))
          ∷ truth_flow (Binary Equal 0 8) ∷ named_flow 0 1 (When 1) ∷ named_flow 0 0 (When 1)
          ∷ int_flow (number 7) ∷ named_flow 0 2 (When 6) ∷ mode_flow (Constant (Name 1)) ∷ [];
      order = 0 ∷ 1 ∷ 4 ∷ 5 ∷ 6 ∷ 7 ∷ 2 ∷ 8 ∷ 3 ∷ [];
      owners = 0 ∷ 1 ∷ 2 ∷ 3 ∷ 4 ∷ 2 ∷ 2 ∷ 2 ∷ 3 ∷ [];
      variables =
          record { name = codes "m"; role = role.Input; kind = of_three }
          ∷ int_variable role.Input (codes "x") ∷ int_variable role.Output (codes "y")
          ∷ truth_variable role.Output (codes "b") ∷ int_variable role.Output (codes "z") ∷ [];
    }

-- m is Up, Halt, Down, Down, and x is 1, 2, 3, 4
abbrev pub four_modes : InputsView
four_modes =
    record {
      instants = 4;
      columns =
          record { name = codes "m"; values = map Name (0 ∷ 2 ∷ 1 ∷ 1 ∷ []) }
          ∷ record { name = codes "x"; values = ints (1 ∷ 2 ∷ 3 ∷ 4 ∷ []) } ∷ [];
    }

-- what every run asks of a program and its table
pub record IsWorked (flat : FlatView) (inputs : InputsView) : Type 0 where
  pub flat_is : IsFlat flat
  pub table_is : IsTable inputs
  pub fit : IsFit flat inputs

-- the counters count from 0, and are absent after the table
pub record CountersAre : Type 0 where
  pub worked : IsWorked two_counters three
  pub a : marks (solution two_counters three 0) 3 ≡ map known (0 ∷ 1 ∷ 2 ∷ [])
  pub b : marks (solution two_counters three 1) 3 ≡ map known (0 ∷ 1 ∷ 2 ∷ [])
  pub ends : (i t : ℕ) → i < flows_of two_counters → 3 ≤ t → solution two_counters three i t ≡ Known Absent

-- y is the sum so far, and z is twice the sample where c is true
pub record SumsAre : Type 0 where
  pub worked : IsWorked sampled_sum four_samples
  pub y : marks (solution sampled_sum four_samples 2) 4 ≡ map known (1 ∷ 3 ∷ 6 ∷ 10 ∷ [])
  pub z : marks (solution sampled_sum four_samples 3) 4 ≡ known 2 ∷ Known Absent ∷ known 6 ∷ known 8 ∷ []
  pub s : marks (solution sampled_sum four_samples 4) 4 ≡ known 1 ∷ Known Absent ∷ known 3 ∷ known 4 ∷ []

-- y breaks at its second instant, where it divides by zero, and what reads it one instant later isn't broken
-- yet
pub record DivisionsAre : Type 0 where
  pub worked : IsWorked division one_zero
  pub y : marks (solution division one_zero 2) 2 ≡ known 1 ∷ Broken ∷ []
  pub p : marks (solution division one_zero 3) 2 ≡ Known (Present Nil) ∷ known 1 ∷ []
  pub z : marks (solution division one_zero 1) 2 ≡ map known (0 ∷ 1 ∷ [])
  pub y_messages : messages 0 (marks (solution division one_zero 2) 2) ≡ record {
    no = 0;
    body = Value (Int (pos 1));
  } ∷ []
  pub fault : IsFault division one_zero (solution division one_zero) 2 1 DivZero

-- where nothing is divided by zero
pub record QuotientsAre : Type 0 where
  pub worked : IsWorked division one_two
  pub y : marks (solution division one_two 2) 2 ≡ map known (1 ∷ 0 ∷ [])
  pub z : marks (solution division one_two 1) 2 ≡ map known (0 ∷ 1 ∷ [])

-- y holds the last sample, and z is the sample or 0
pub record SamplesAre : Type 0 where
  pub worked : IsWorked held_sample three_samples
  pub c : marks (solution held_sample three_samples 3) 3 ≡ map known_truth (true ∷ false ∷ true ∷ [])
  pub s : marks (solution held_sample three_samples 4) 3 ≡ known 1 ∷ Known Absent ∷ known 3 ∷ []
  pub y : marks (solution held_sample three_samples 1) 3 ≡ map known (1 ∷ 1 ∷ 3 ∷ [])
  pub z : marks (solution held_sample three_samples 2) 3 ≡ map known (1 ∷ 0 ∷ 3 ∷ [])

-- c is on b, and s and z are on c: absent where c is false, and where it is absent
pub record ChainsAre : Type 0 where
  pub worked : IsWorked chained four_rows
  pub c : marks (solution chained four_rows 3) 4 ≡
      known_truth true ∷ Known Absent ∷ known_truth false ∷ known_truth true ∷ []
  pub z : marks (solution chained four_rows 4) 4 ≡
      known 1 ∷ Known Absent ∷ Known Absent ∷ known 4 ∷ []
  pub s : marks (solution chained four_rows 5) 4 ≡
      known 1 ∷ Known Absent ∷ Known Absent ∷ known 4 ∷ []
  pub inner : marks (solution chained four_rows 6) 4 ≡
      known 1 ∷ Known Absent ∷ known 3 ∷ known 4 ∷ []

-- y is x, 7 or z, by the name that m has; b says where that is Down; and z is there alone
pub record WaysAre : Type 0 where
  pub worked : IsWorked three_ways four_modes
  pub m : marks (solution three_ways four_modes 0) 4 ≡ map known_name (0 ∷ 2 ∷ 1 ∷ 1 ∷ [])
  pub y : marks (solution three_ways four_modes 2) 4 ≡ map known (1 ∷ 7 ∷ 3 ∷ 4 ∷ [])
  pub b : marks (solution three_ways four_modes 3) 4 ≡ map known_truth (false ∷ false ∷ true ∷ true ∷ [])
  pub z : marks (solution three_ways four_modes 4) 4 ≡
      Known Absent ∷ Known Absent ∷ known 3 ∷ known 4 ∷ []
  pub halted : marks (solution three_ways four_modes 7) 4 ≡
      Known Absent ∷ known 7 ∷ Known Absent ∷ Known Absent ∷ []

pub record SolutionVectors : Type 0 where
  pub counters : CountersAre
  pub sums : SumsAre
  pub divisions : DivisionsAre
  pub quotients : QuotientsAre
  pub samples : SamplesAre
  pub chains : ChainsAre
  pub ways : WaysAre
