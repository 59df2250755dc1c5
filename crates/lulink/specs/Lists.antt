-- The list of a link, whatever the link is made of.
use Rattle.std.specs.Prelude.{◌≡◌, ℕ, List, Some, slice_get}
use Rattle.luflow.specs.declared.message.Msg.{Msg}
use Rattle.luworld.specs.Jobs.{JobView, link_list, streams_of}

-- the list of a link of a run: the present values of its flow before the first broken instant, numbered, and
-- the close where nothing is broken
abbrev pub list_of : JobView → ℕ → List Msg
list_of job link = link_list job (streams_of job) link

-- a message is the next of a list of which so many are passed
abbrev pub IsNextOf : List Msg → ℕ → Msg → Type 0
IsNextOf list count m = slice_get list count ≡ Some m
