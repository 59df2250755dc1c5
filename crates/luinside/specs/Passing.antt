-- How the variables are listed, instance after instance.
use Rattle.std.specs.Prelude.{◌≡◌, ◌<◌, ◌-◌, ℕ, suc, ◌++◌, List, [], ◌∷◌, map, length, take, Option, Some}
use Rattle.std.specs.Prelude.{None, slice_get, slice_index, unwrap_or, codes}
use denote.Ref.{Bor}
use Rattle.lutree.specs.Tree.{NodeTree, ProgramTree}
use Rattle.luflow.specs.declared.data.Status.{Status}
use Rattle.luflow.specs.declared.variable.Variable.{Variable}
use Rattle.luflow.specs.Tables.{OutputColumn}
use Rattle.lusource.specs.Names.{name_at}
use Rattle.lusource.specs.Source.{Path}
use Rattle.lucore_laws.specs.Layout.{main_variables}
use Rattle.luinside.specs.declared.listing.Instance.{Instance}
use Rattle.luinside.specs.declared.way.Level.{Level}
use Rattle.luinside.specs.declared.variables.DeepVariable.{DeepVariable}
use Rattle.luinside.specs.Names.{steps_of, role_at}

-- names that are lent
abbrev pub spelled : List (Bor (List ℕ)) → List (List ℕ)
spelled = map (λ x. x.now)

-- what the names in the instance of a call begin with, by the level of the instance that makes it
abbrev pub prefix_at : Option Level → ℕ → List ℕ
prefix_at None k = []
prefix_at (Some level) k = level.prefix ++ (name_at level.steps k ++ codes ".")

-- some variables of the instance at a path, whose names begin so, and whose first flow stands at place i
abbrev pub named_from : List ℕ → Path → ℕ → List Variable → List DeepVariable
named_from prefix path i [] = []
named_from prefix path i (x ∷ xs) =
    record {
      variable = record { name = prefix ++ x.name; role = role_at path x.role; kind = x.kind };
      flow = i;
    }
    ∷ named_from prefix path (suc i) xs

-- An instance of a node is passed: its names begin as the way to it says, its variables stand behind those
-- before, and the way leads to it.
pub record Passes (p : ProgramTree) (x : Instance) (way way' : List Level)
    (found found' : List DeepVariable) : Type 0 where
  pub prefix : List ℕ
  pub first : length x.path ≡ 0 → prefix ≡ []
  pub later : 0 < length x.path → prefix
      ≡ prefix_at (slice_get way (length x.path - 1)) (slice_index x.path (length x.path - 1))
  pub variables : (node : NodeTree) → slice_get p.nodes x.node ≡ Some node
      → found' ≡ found ++ named_from prefix x.path x.start (main_variables node)
  pub way_on : (node : NodeTree) → slice_get p.nodes x.node ≡ Some node
      → way' ≡ take (length x.path) way ++ record { prefix = prefix; steps = steps_of node } ∷ []

-- the column of a variable, of the streams of all flows
abbrev pub column_by : List (List Status) → DeepVariable → OutputColumn
column_by streams d = record { name = d.variable.name; statuses = unwrap_or (slice_get streams d.flow) [] }
