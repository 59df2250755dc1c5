-- The texts of the design, by their names.
use Rattle.std.specs.Prelude.{ℕ, List, Option, Some, None, codes, if◌then◌else◌}
use Rattle.std.specs.Str.{bytes_eq}
use Rattle.example_embed.specs.declared.design.TheConstants.{DESIGN, PLACEMENT, TABLE, SCHEDULE}

abbrev pub text_of : List ℕ → Option (List ℕ)
text_of path =
    if bytes_eq path (codes "design") then Some DESIGN.now
    else (if bytes_eq path (codes "placement") then Some PLACEMENT.now
    else (if bytes_eq path (codes "table") then Some TABLE.now
    else (if bytes_eq path (codes "schedule") then Some SCHEDULE.now else None)))
