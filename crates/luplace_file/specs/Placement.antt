-- What the text of a placement says, and which refusal comes where it says nothing.
use Rattle.std.specs.Prelude.{ℕ, List, length, nat_lt, Option, Some, None, Result, Err, if◌then◌else◌}
use Rattle.lubase.specs.Limits.{longest_placement}
use Rattle.toml.specs.Data.{Members}
use Rattle.toml.specs.Parse.{parse_document}
use Rattle.luplace_file.specs.declared.draft.Draft.{Draft}
use Rattle.luplace_file.specs.Content.{PlaceView}
use Rattle.luplace_file.specs.declared.error.PlaceError.{PlaceError}
use Rattle.luplace_file.specs.declared.error.PlaceError.TheVariants.{NotToml, BadKey, OutOfRange}
use Rattle.luplace_file.specs.Draft.{draft_of}
use Rattle.luplace_file.specs.Rules.{ruled}

-- a draft that keeps the rules
abbrev pub placement_of_draft : Option Draft → Result PlaceView PlaceError
placement_of_draft None = Err BadKey
placement_of_draft (Some draft) = ruled draft

-- a table whose keys say a draft
abbrev pub placement_of_table : Option Members → Result PlaceView PlaceError
placement_of_table None = Err NotToml
placement_of_table (Some table) = placement_of_draft (draft_of table)

-- a text of at most 1,048,576 bytes that is TOML
abbrev pub placement_of : List ℕ → Result PlaceView PlaceError
placement_of text = if nat_lt longest_placement (length text) then Err OutOfRange
    else placement_of_table (parse_document text)
