-- The limits of the product, as contracts and definitions cite them.
use Rattle.std.specs.Prelude.{ℕ}

-- the most bytes of a program's text
abbrev pub longest_program : ℕ
longest_program = 1048576

-- the most tokens between two semicolons of a program's text, before the first one and behind the last
abbrev pub longest_run : ℕ
longest_run = 1000

-- the most nodes of a program
abbrev pub most_nodes : ℕ
most_nodes = 256

-- the most types of a program
abbrev pub most_types : ℕ
most_types = 64

-- the most names of an enumeration
abbrev pub most_names : ℕ
most_names = 64

-- the most flows of a flat program
abbrev pub most_flows : ℕ
most_flows = 4096

-- the most bytes of a placement's text
abbrev pub longest_placement : ℕ
longest_placement = 1048576

-- the most bytes of a site's name
abbrev pub longest_site_name : ℕ
longest_site_name = 32

-- the most sites of a placement
abbrev pub most_sites : ℕ
most_sites = 16

-- the most messages that a link may hold
abbrev pub most_capacity : ℕ
most_capacity = 1024

-- the messages that a link may hold where a placement doesn't say
abbrev pub usual_capacity : ℕ
usual_capacity = 16

-- the most bytes of a table's text
abbrev pub longest_table : ℕ
longest_table = 67108864

-- the most instants of a table
abbrev pub most_instants : ℕ
most_instants = 1000000

-- the most workers that serve the sites of a run
abbrev pub most_workers : ℕ
most_workers = 16

-- the most bytes of a schedule's text
abbrev pub longest_schedule : ℕ
longest_schedule = 67108864
