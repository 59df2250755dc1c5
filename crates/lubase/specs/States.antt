-- The searches as the program holds them.
use Rattle.std.specs.Prelude.{◌++◌, ◌∷◌, []}
use Rattle.lubase.specs.declared.search.Search.{Search}
use Rattle.lubase.specs.declared.search.Visit.{Visit}
use Rattle.lubase.specs.declared.groups.Groups.{Groups}
use Rattle.lubase.specs.declared.groups.Frame.{Frame}
use Rattle.lubase.specs.Graph.{Graph}
use Rattle.lubase.specs.Search.{IsSearch}
use Rattle.lubase.specs.Grouped.{IsGrouping}

-- a search for an order, between two steps
abbrev pub IsSearching : Graph → Search → Type 0
IsSearching g s = IsSearch g s.entered.items s.placed.items s.path.items s.order.items

-- the same, where the last visit has been taken off the way
abbrev pub IsVisiting : Graph → Search → Visit → Type 0
IsVisiting g s visit = IsSearch g s.entered.items s.placed.items (s.path.items ++ visit ∷ []) s.order.items

-- a search for vertices that reach themselves, between two steps
abbrev pub IsGroups : Graph → Groups → Type 0
IsGroups g s = IsGrouping g s.entered.items s.left.items s.looped.items s.places.items s.stack.items
    s.bounds.items s.frames.items

-- the same, where the last frame has been taken off
abbrev pub IsFramed : Graph → Groups → Frame → Type 0
IsFramed g s frame = IsGrouping g s.entered.items s.left.items s.looped.items s.places.items s.stack.items
    s.bounds.items (s.frames.items ++ frame ∷ [])
