-- What the equations of a node make, equation by equation.
use Rattle.std.specs.Prelude.{ℕ, suc, ◌+◌, List, [], ◌∷◌, ◌++◌, length, map, flat_map, replicate, Option}
use Rattle.std.specs.Prelude.{Some, None, unwrap_or, slice_get}
use Rattle.lutree.specs.Tree.{DeclarationTree, EquationTree, NodeTree, ProgramTree}
use Rattle.luflow.specs.declared.form.Clock.{Clock}
use Rattle.luflow.specs.declared.form.Form.TheVariants.{Copied, Input}
use Rattle.luflow.specs.declared.form.Clock.TheVariants.{Base}
use Rattle.luflow.specs.declared.form.Flow.{Flow}
use Rattle.lusource.specs.Names.{name_at, variables_of, place_of}
use Rattle.lustat_rules.specs.Scope.{kind_of}
use Rattle.lucore_laws.specs.Layout.{Root, clock_place, left_clock, walk_right}
use Rattle.lucore_laws.specs.Layout.Root.{own, at}
use Rattle.lubase.specs.Places.{first_place}
use Rattle.lucore_build.specs.Walks.{flow_on, vacant}

-- the flow of variable j of a left side on a clock, by the root of its equation
abbrev pub flow_named : NodeTree → Clock → Root → ℕ → List ℕ → Flow
flow_named node k (own flow) j x = flow
flow_named node k (at i) j x = flow_on k (kind_of node x) (Copied (i + j))

-- the flows of the variables of a left side, from variable j on
abbrev pub flows_named : NodeTree → Clock → Root → ℕ → List (List ℕ) → List Flow
flows_named node k root j [] = []
flows_named node k root j (x ∷ xs) = flow_named node k root j x ∷ flows_named node k root (suc j) xs

-- the flows of the variables on the left sides of some equations, of which the first begins at place s
abbrev pub defined_flows : ProgramTree → List (List Flow) → NodeTree → List EquationTree → ℕ → List Flow
defined_flows p lists node [] s = []
defined_flows p lists node (q ∷ qs) s =
    flows_named node (clock_place node (left_clock p lists node q))
    (walk_right p lists node q s).root 0 q.left
    ++ defined_flows p lists node qs (s + length (walk_right p lists node q s).inner)

-- the flow at a place that a look-up found; where it found none, the constant nil
abbrev pub flow_at : List Flow → Option ℕ → Flow
flow_at flows None = vacant
flow_at flows (Some i) = unwrap_or (slice_get flows i) vacant

-- the flows of variables, looked up by their names among those of left sides
abbrev pub flows_found : List (List ℕ) → List Flow → List (List ℕ) → List Flow
flows_found names defined = map (λ x. flow_at defined (first_place names x))

-- the flows of inputs from input r on
abbrev pub inputs_from : ℕ → List DeclarationTree → List Flow
inputs_from r [] = []
inputs_from r (d ∷ ds) = record { form = Input r; clock = Base; kind = d.kind } ∷ inputs_from (suc r) ds

-- for each name on the left sides, in order of text, the place of the first variable on its side
abbrev pub leaders : NodeTree → List EquationTree → List ℕ
leaders node = flat_map (λ q. replicate (length q.left) (place_of (variables_of node) (name_at q.left 0)))

-- the number at a place that a look-up found; where it found none, this number
abbrev pub number_at : List ℕ → ℕ → Option ℕ → ℕ
number_at numbers otherwise None = otherwise
number_at numbers otherwise (Some i) = unwrap_or (slice_get numbers i) otherwise

-- the owners of variables, looked up by their names among those of left sides; where there is none, the
-- variable's own place
abbrev pub owners_found : NodeTree → List (List ℕ) → List ℕ → List (List ℕ) → List ℕ
owners_found node names owners =
    map (λ x. number_at owners (place_of (variables_of node) x) (first_place names x))
