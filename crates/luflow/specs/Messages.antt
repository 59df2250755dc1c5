-- What a link carries of a flow.
use Rattle.std.specs.Prelude.{ℕ, zero, suc, ◌+◌, Bool, true, false, cond, List, [], ◌∷◌, ◌++◌, map}
use Rattle.std.specs.List.{range_with_len}
use Rattle.luflow.specs.declared.data.Datum.{Datum}
use Rattle.luflow.specs.declared.data.Status.TheVariants.{Absent, Present}
use Rattle.luflow.specs.declared.message.Msg.{Msg}
use Rattle.luflow.specs.declared.message.Body.{Body}
use Rattle.luflow.specs.declared.message.Body.TheVariants.{Value, Close}
use Rattle.luflow.specs.Streams.{Mark, Known, Broken, Stream}

-- a stream's marks at the first n instants
abbrev pub marks : Stream → ℕ → List Mark
marks s n = map s (range_with_len 0 n)

-- The clean list of a stream: the data that are present before the first broken mark, in order.
abbrev pub clean_list : List Mark → List Datum
clean_list [] = []
clean_list (Broken ∷ ms) = []
clean_list (Known Absent ∷ ms) = clean_list ms
clean_list (Known (Present d) ∷ ms) = d ∷ clean_list ms

-- no mark is broken
abbrev pub is_whole : List Mark → Bool
is_whole [] = true
is_whole (Broken ∷ ms) = false
is_whole (Known x ∷ ms) = is_whole ms

-- What a link carries of a stream: its clean list, a value for each datum, and a close behind it only where
-- no mark is broken.
abbrev pub carried_bodies : List Mark → List Body
carried_bodies ms = map Value (clean_list ms) ++ cond (is_whole ms) (Close ∷ []) []

-- bodies as messages that are numbered from n
abbrev pub numbered : ℕ → List Body → List Msg
numbered n [] = []
numbered n (body ∷ bodies) = record { no = n; body = body } ∷ numbered (n + 1) bodies

-- the link list: what a link carries, numbered from n
abbrev pub messages : ℕ → List Mark → List Msg
messages n ms = numbered n (carried_bodies ms)

-- one where a mark is present
abbrev pub once_if : Mark → ℕ
once_if Broken = 0
once_if (Known Absent) = 0
once_if (Known (Present d)) = 1

-- how often a stream was present before t
abbrev pub presents : Stream → ℕ → ℕ
presents s zero = 0
presents s (suc t) = presents s t + once_if (s t)
