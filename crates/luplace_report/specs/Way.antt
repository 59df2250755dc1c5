-- How the way of a plan is reported:
--
--   run  by rows
--   run  instant by instant: a cycle of a, b is parted over sites
--   run  instant by instant: x, y may have no value at first, and are sent
--   run  by lists; --workers auto takes one worker
use Rattle.std.specs.Prelude.{ℕ, Bool, List, [], ◌∷◌, ◌++◌, flat_map, codes, nat_lt, if◌then◌else◌}
use Rattle.luflow.specs.Program.{FlatView}
use Rattle.luflow.specs.Variables.{variable_name}
use Rattle.luworld.specs.Needs.{PlanView, sites_of}
use Rattle.luplace.specs.declared.way.Way.{Way}
use Rattle.luplace.specs.declared.way.Way.TheVariants.{Rows, Parted, Nil}
use Rattle.luplace.specs.Crews.{quickest_crew}

-- the names of variables behind another one
abbrev pub further_names : FlatView → List ℕ → List ℕ
further_names flat vs = flat_map (λ v. codes ", " ++ variable_name flat v) vs

-- the names of variables, with a comma between two
abbrev pub variable_list : FlatView → List ℕ → List ℕ
variable_list flat [] = []
variable_list flat (v ∷ vs) = variable_name flat v ++ further_names flat vs

-- what is said of one variable that is sent and may be nil, and of several
abbrev pub sent_text : List ℕ → List ℕ
sent_text [] = codes " may have no value at first, and are sent"
sent_text (v ∷ []) = codes " may have no value at first, and is sent"
sent_text (v ∷ w ∷ vs) = codes " may have no value at first, and are sent"

abbrev pub parted_text : FlatView → List ℕ → List ℕ
parted_text flat vs =
    codes "instant by instant: a cycle of " ++ (variable_list flat vs ++ codes " is parted over sites")

abbrev pub nil_text : FlatView → List ℕ → List ℕ
nil_text flat vs = codes "instant by instant: " ++ (variable_list flat vs ++ sent_text vs)

abbrev pub way_text : FlatView → Way → List ℕ
way_text flat Rows = codes "by rows"
way_text flat (Parted vs) = parted_text flat vs
way_text flat (Nil vs) = nil_text flat vs

abbrev pub way_cells : FlatView → Way → List (List ℕ)
way_cells flat way = codes "run" ∷ way_text flat way ∷ []

-- a line where a crew of one is likely to be quicker than a thread for each site
abbrev pub small_rows : PlanView → List (List (List ℕ))
small_rows plan = if nat_lt (quickest_crew plan) (sites_of plan)
    then (codes "run" ∷ codes "by lists; --workers auto takes one worker" ∷ []) ∷ [] else []

abbrev pub crew_rows : PlanView → Way → List (List (List ℕ))
crew_rows plan Rows = []
crew_rows plan (Parted vs) = small_rows plan
crew_rows plan (Nil vs) = small_rows plan
