-- How many items a flow has at a site where it is present.
use Rattle.std.specs.Prelude.{ℕ, Bool, true, List, length, is_some, sum_by}
use Rattle.lusite_program.specs.declared.program.Part.{Part}
use Rattle.lusite_program.specs.Programs.{SiteProgramView, part_at}
use Rattle.lusite.specs.Machine.{in_cell}

-- at an instant of the table, or at the close
abbrev pub width_of : Part → Bool → ℕ
width_of part early = in_cell true part.own early (length part.to) (is_some part.from)

abbrev pub width : SiteProgramView → Bool → ℕ → ℕ
width p early i = width_of (part_at p i) early

-- the same of the flows of these places together
abbrev pub widths : SiteProgramView → Bool → List ℕ → ℕ
widths p early places = sum_by (width p early) places

-- the most items that all flows of a site have at an instant: 4,096 flows, each with 65,536 links
abbrev pub most_width : ℕ
most_width = 268439552

-- the most items of a site that are left: at 1,000,000 instants and the close
abbrev pub most_left : ℕ
most_left = 268439820439552
