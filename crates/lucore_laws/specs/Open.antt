-- The meaning of a node's list apart from where the node is called: on any base clock, and with any streams
-- for its inputs.
use Rattle.std.specs.Prelude.{◌≡◌, ℕ, ◌<◌, List, [], length, map, Some, slice_get}
use Rattle.lutree.specs.Tree.{NodeTree, ProgramTree}
use Rattle.luflow.specs.declared.form.Clock.{Clock}
use Rattle.luflow.specs.declared.form.Clock.TheVariants.{Base, On}
use Rattle.luflow.specs.declared.form.Form.{Form}
use Rattle.luflow.specs.declared.form.Form.TheVariants.{Input, Constant, Copied, Unary, Binary, If, Pre}
use Rattle.luflow.specs.declared.form.Form.TheVariants.{Arrow, When, Current, Merge}
use Rattle.luflow.specs.declared.form.Flow.{Flow}
use Rattle.luflow.specs.Streams.{Stream, Streams, Ticks, truth_in}
use Rattle.lusource.specs.Names.{variables_of}
use Rattle.lustat_rules.specs.Scope.{node_called}
use Rattle.lusource.specs.StreamOperators.{constant_stream, unary_stream, binary_stream, choice_stream}
use Rattle.lusource.specs.StreamOperators.{pre_stream, arrow_stream, when_stream, current_stream}
use Rattle.lusource.specs.StreamOperators.{merge_stream}
use Rattle.lusource.specs.Source.{Path, SourceStreams, HoldsAt}
use Rattle.lustat_rules.specs.Accepted.{IsAccepted}
use Rattle.lucore_laws.specs.Layout.{list_of, AreLists}
use Rattle.lucore_laws.specs.ListLaws.{DefineSomething}

-- a stream for each place of a list, and one for each input
pub record Model : Type 0 where
  pub on : ℕ → Stream
  pub given : ℕ → Stream

-- the stream of a clock, from the base clock
abbrev pub clock_ticks : Ticks → Streams → Clock → Ticks
clock_ticks base τ Base = base
clock_ticks base τ (On c d) = λ t. truth_in d (τ c t)

-- The stream of a form on a clock. A copy is the very stream that it copies.
abbrev pub form_stream : Model → Ticks → Form → Stream
form_stream m k (Input r) = m.given r
form_stream m k (Constant d) = constant_stream d k
form_stream m k (Copied a) = m.on a
form_stream m k (Unary op a) = unary_stream op k (m.on a)
form_stream m k (Binary op a b) = binary_stream op k (m.on a) (m.on b)
form_stream m k (If c a b) = choice_stream k (m.on c) (m.on a) (m.on b)
form_stream m k (Pre a) = pre_stream k (m.on a)
form_stream m k (Arrow a b) = arrow_stream k (m.on a) (m.on b)
form_stream m k (When a) = when_stream k (m.on a)
form_stream m k (Current a) = current_stream k (m.on a)
form_stream m k (Merge c xs) = merge_stream k (m.on c) (map m.on xs)

-- the stream of a flow
abbrev pub flow_stream : Ticks → Model → Flow → Stream
flow_stream base m f = form_stream m (clock_ticks base m.on f.clock) f.form

-- each flow of the list has the stream of its form
abbrev pub IsOpenSolution : Ticks → Model → List Flow → Type 0
IsOpenSolution base m flows = (x : ℕ) (f : Flow) → slice_get flows x ≡ Some f → m.on x ≡ flow_stream base m f

-- the inputs are as given
abbrev pub HasGiven : NodeTree → List Stream → Model → Type 0
HasGiven node given m = (r : ℕ) → r < length node.inputs → slice_get given r ≡ Some (m.given r)

-- both give each variable of the node the same stream
abbrev pub SameOnNode : NodeTree → Model → SourceStreams → Type 0
SameOnNode node m σ = (v : ℕ) (x : List ℕ) → slice_get (variables_of node) v ≡ Some x → m.on v ≡ σ [] x

-- An instance of the node called f has the solutions of a list: on any base clock, with any streams given to
-- its inputs.
pub record NodeAgrees (p : ProgramTree) (f : List ℕ) (node : NodeTree) (flows : List Flow) : Type 0 where
  pub to_list : (base : Ticks) (given : List Stream) (σ : SourceStreams)
      → ((path : Path) → HoldsAt p f base given σ path) → (m : Model) × IsOpenSolution base m flows
      × HasGiven node given m × SameOnNode node m σ
  pub to_source : (base : Ticks) (given : List Stream) (m : Model) → IsOpenSolution base m flows
      → HasGiven node given m → (σ : SourceStreams) × ((path : Path) → HoldsAt p f base given σ path)
      × SameOnNode node m σ

-- so it is for each node of an accepted program and its list; no order of rank is asked for, since copies are
-- the same streams
abbrev pub NodesLaw : Type 0
NodesLaw =
    (p : ProgramTree) (main : List ℕ) (lists : List (List Flow)) → IsAccepted p main → DefineSomething p
    → AreLists p lists
    → (f : List ℕ) (node : NodeTree) → node_called p f ≡ Some node → NodeAgrees p f node (list_of p lists f)
