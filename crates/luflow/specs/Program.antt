-- Flat programs: the flows that remain of a program when all calls are inlined, and the table of its inputs.
use Rattle.std.specs.Prelude.{◌≡◌, ℕ, ◌<◌, List, [], ◌∷◌, ◌++◌, length, Option, Some, None, slice_get}
use Rattle.std.specs.Prelude.{slice_index, take, Contains, All}
use Rattle.luflow.specs.declared.data.Datum.{Datum}
use Rattle.luflow.specs.declared.form.Clock.{Clock}
use Rattle.luflow.specs.declared.form.Clock.TheVariants.{Base, On}
use Rattle.luflow.specs.declared.form.Form.{Form}
use Rattle.luflow.specs.declared.form.Form.TheVariants.{Input, Constant, Copied, Unary, Binary, If, Pre}
use Rattle.luflow.specs.declared.form.Form.TheVariants.{Arrow, When, Current, Merge}
use Rattle.luflow.specs.declared.form.Flow.{Flow}
use Rattle.luflow.specs.declared.variable.Variable.{Variable}
use Rattle.luflow.specs.declared.variable.Enum.{Enum}

-- The types of the source; the flows by place, the main variables first; all places in order of rank; for
-- each flow the main variable in whose equation it stands; and the main variables.
pub record FlatView : Type 0 where
  pub types : List Enum
  pub flows : List Flow
  pub order : List ℕ
  pub owners : List ℕ
  pub variables : List Variable

-- the values of one input, one for each instant
pub record Column : Type 0 where
  pub name : List ℕ
  pub values : List Datum

-- the number of instants, and a column for each input of the main node
pub record InputsView : Type 0 where
  pub instants : ℕ
  pub columns : List Column

abbrev pub flow_at : FlatView → ℕ → Option Flow
flow_at flat i = slice_get flat.flows i

abbrev pub flows_of : FlatView → ℕ
flows_of flat = length flat.flows

abbrev pub data_of : Option Column → List Datum
data_of None = []
data_of (Some column) = column.values

abbrev pub column_of : InputsView → ℕ → List Datum
column_of inputs c = data_of (slice_get inputs.columns c)

-- the operands of a form
abbrev pub places : Form → List ℕ
places (Input c) = []
places (Constant d) = []
places (Copied a) = a ∷ []
places (Unary op a) = a ∷ []
places (Binary op a b) = a ∷ b ∷ []
places (If c a b) = c ∷ a ∷ b ∷ []
places (Pre a) = a ∷ []
places (Arrow a b) = a ∷ b ∷ []
places (When a) = a ∷ []
places (Current a) = a ∷ []
places (Merge c xs) = c ∷ xs

-- the operands that a form reads at the same instant: all but that of a `pre`
abbrev pub form_reads : Form → List ℕ
form_reads (Input c) = []
form_reads (Constant d) = []
form_reads (Copied a) = a ∷ []
form_reads (Unary op a) = a ∷ []
form_reads (Binary op a b) = a ∷ b ∷ []
form_reads (If c a b) = c ∷ a ∷ b ∷ []
form_reads (Pre a) = []
form_reads (Arrow a b) = a ∷ b ∷ []
form_reads (When a) = a ∷ []
form_reads (Current a) = a ∷ []
form_reads (Merge c xs) = c ∷ xs

-- the variable of a clock
abbrev pub clock_reads : Clock → List ℕ
clock_reads Base = []
clock_reads (On c d) = c ∷ []

-- what a flow reads at the same instant
abbrev pub reads : Flow → List ℕ
reads flow = form_reads flow.form ++ clock_reads flow.clock

-- the order has each flow once, after all that it reads, and flows name flows
pub record IsOrdered (flat : FlatView) : Type 0 where
  pub places_in : (i : ℕ) (flow : Flow) → flow_at flat i ≡ Some flow → All (λ r. r < flows_of flat)
      (places flow.form)
  pub clocks_in : (i : ℕ) (flow : Flow) → flow_at flat i ≡ Some flow → All (λ r. r < flows_of flat)
      (clock_reads flow.clock)
  pub all_flows : (i : ℕ) → i < flows_of flat → Contains flat.order i
  pub only_flows : All (λ i. i < flows_of flat) flat.order
  pub once : (p q : ℕ) → p < length flat.order → q < length flat.order
      → slice_index flat.order p ≡ slice_index flat.order q → p ≡ q
  pub reads_first : (p : ℕ) (flow : Flow) → p < length flat.order
      → flow_at flat (slice_index flat.order p) ≡ Some flow → All (λ r. Contains (take p flat.order) r)
      (reads flow)
