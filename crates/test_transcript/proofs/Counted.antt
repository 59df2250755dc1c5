-- What the second of two driven sites is given, by the plain programs of its script and of its links.
use Rattle.std.proofs.Common.{◌≡◌, ℕ, List, Option, Some, None, map, take, count_by, sym, ap, ap₂, ◌∙◌}
use Rattle.std.specs.Prelude.{IfSome, slice_get}
use Rattle.std.proofs.lemmas.List.{take-map}
use Rattle.luflow.specs.declared.message.Msg.{Msg}
use Rattle.luworld.specs.Systems.{takes, takes_before}
use Rattle.luworld.specs.Jobs.{JobView, script, streams_of, system_of}
use Rattle.lulink.specs.Lists.{list_of}
use Rattle.test_reference.specs.declared.item.Item.{Item}
use Rattle.test_reference.specs.AsItem.{as_item}
use Rattle.test_reference.proofs.Scripted.{count_by-map}
use Rattle.test_transcript.specs.Driven.{IsGiven}

counted : (job : JobView) (s link n : ℕ) (items : List Item) → map as_item items ≡ script job (streams_of job) s
    → count_by (λ item. takes link (as_item item)) (take n items) ≡ takes_before (system_of job) link s n
counted job s link n items is =
    sym (count_by-map (takes link) as_item (take n items)) ∙ ap (count_by (takes link)) (sym (take-map as_item n items) ∙ ap (take n) is)

if_found : (x o : Option Msg) → x ≡ o → IfSome o (λ m. x ≡ Some m)
if_found x (Some m) e = e
if_found x None e = tt

-- the message of a list at as many takes as were done
pub given_at : (job : JobView) (s link done number : ℕ) (items : List Item) (list : List Msg) (o : Option Msg) → map as_item items ≡ script job (streams_of job) s
    → list ≡ list_of job link → number ≡ count_by (λ item. takes link (as_item item)) (take done items) → o ≡ slice_get list number → IfSome o (IsGiven job s link done)
given_at job s link done number items list o is of counts found =
    if_found (slice_get (list_of job link) (takes_before (system_of job) link s done)) o
    (sym (found ∙ ap₂ slice_get of (counts ∙ counted job s link done items is)))
