-- A graph in which a vertex reaches itself exactly where a flow is on a parted cycle: the flows twice, with a
-- step from the first layer to the second where a flow reads one that stands at other sites, and for each
-- flow a third vertex that leads from the second layer back to the first.
use Rattle.std.specs.Prelude.{◌≡◌, ◌<◌, ◌+◌, ℕ, Bool, not, List, [], ◌∷◌, ◌++◌, length, map}
use Rattle.std.specs.List.{filter}
use Rattle.std.specs.Str.{bytes_eq}
use Rattle.luflow.specs.Program.{flow_at, flows_of}
use Rattle.luworld.specs.Needs.{PlanView, flow_sites}
use Rattle.lubase.specs.Graph.{Graph, row_of}
use Rattle.luplace.specs.Ways.{named}

abbrev pub reads_in : PlanView → ℕ → List ℕ
reads_in plan i = named (flow_at plan.flat i)

abbrev pub same_sites : PlanView → ℕ → ℕ → Bool
same_sites plan i j = bytes_eq (flow_sites plan i) (flow_sites plan j)

-- those of these flows that stand at other sites than flow i
abbrev pub away : PlanView → ℕ → List ℕ → List ℕ
away plan i reads = filter (λ r. not (same_sites plan i r)) reads

-- what a vertex of each layer points to
abbrev pub first_row : PlanView → ℕ → List ℕ
first_row plan i = reads_in plan i ++ map (λ r. flows_of plan.flat + r) (away plan i (reads_in plan i))

abbrev pub second_row : PlanView → ℕ → List ℕ
second_row plan i = map (λ r. flows_of plan.flat + r) (reads_in plan i)
    ++ (flows_of plan.flat + flows_of plan.flat + i) ∷ []

abbrev pub third_row : ℕ → List ℕ
third_row i = i ∷ []

-- a graph with so many more vertices behind those that it had
pub record HasMore (rows : ℕ → List ℕ) (count : ℕ) (old new : Graph) : Type 0 where
  pub long : length new ≡ length old + count
  pub kept : (x : ℕ) → x < length old → row_of new x ≡ row_of old x
  pub added : (i : ℕ) → i < count → row_of new (length old + i) ≡ rows i

pub record AreLayers (plan : PlanView) (g : Graph) : Type 0 where
  pub long : length g ≡ flows_of plan.flat + flows_of plan.flat + flows_of plan.flat
  pub first : (i : ℕ) → i < flows_of plan.flat → row_of g i ≡ first_row plan i
  pub second : (i : ℕ) → i < flows_of plan.flat → row_of g (flows_of plan.flat + i) ≡ second_row plan i
  pub third : (i : ℕ) → i < flows_of plan.flat
      → row_of g (flows_of plan.flat + flows_of plan.flat + i) ≡ third_row i
