-- What the plain programs say of a site that takes from the first two links alone.
use Rattle.std.specs.Prelude.{◌≡◌, ℕ, List, Some, map, slice_get}
use Rattle.luflow.specs.declared.message.Msg.{Msg}
use Rattle.luworld.specs.Jobs.{JobView, script, streams_of, system_of}
use Rattle.luworld.specs.Systems.{takes_before}
use Rattle.lulink.specs.Lists.{list_of}
use Rattle.test_reference.specs.declared.item.Item.{Item}
use Rattle.test_reference.specs.AsItem.{as_item}

-- the script of a site, and the lists of both links
pub record IsPlain (job : JobView) (s : ℕ) (items : List Item) (one two : List Msg) : Type 0 where
  pub script : map as_item items ≡ script job (streams_of job) s
  pub first : one ≡ list_of job 0
  pub second : two ≡ list_of job 1

-- the message that a site is given from a link, once it has done so many items
abbrev pub IsGiven : JobView → ℕ → ℕ → ℕ → Msg → Type 0
IsGiven job s link done m = slice_get (list_of job link) (takes_before (system_of job) link s done) ≡ Some m
