-- The placement that a user begins with.
use Rattle.std.specs.Prelude.{ℕ, List, ◌++◌, codes, flat_map}
use Rattle.luflow.specs.declared.variable.Variable.{Variable}
use Rattle.luflow.specs.Program.{FlatView}

-- the line that puts a main variable at the site
abbrev pub placed_line : Variable → List ℕ
placed_line x = x.name ++ codes " = \"A\"\n"

-- one site, at which each main variable stands, a line each, in order of declaration
abbrev pub first_placement : FlatView → List ℕ
first_placement flat =
    codes "sites = [\"A\"]\ncapacity = 1\n\n[place]\n" ++ flat_map placed_line flat.variables
