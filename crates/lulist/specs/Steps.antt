-- What one step changes of the ends of a site's links.
use Rattle.std.specs.Prelude.{◌≡◌, ℕ, ◌+◌, List, Some, slice_get, slice_set}
use Rattle.luflow.specs.declared.message.Msg.{Msg}
use Rattle.lulist.specs.Ends.{HasCome, HasGone}
use Rattle.lulist.specs.declared.ends.Came.{Came}
use Rattle.lulist.specs.declared.ends.Source.{Source}
use Rattle.lulist.specs.declared.ends.Outlet.{Outlet}
use Rattle.lulist.specs.declared.ends.Came.TheVariants.{Value, Close, Nothing, Lost}
use Rattle.luworld.specs.declared.turn.Turn.{Turn}
use Rattle.luworld.specs.declared.turn.Turn.TheVariants.{Moved, Blocked, Over}

-- a receiving end has taken its next message, and with it those of all instants before the next one; or
-- nothing
abbrev pub HasDone : ℕ → Came → ℕ → ℕ → Type 0
HasDone next (Value d) done done' = done' ≡ next
HasDone next Close done done' = Unit {0}
HasDone next Nothing done done' = done' ≡ done
HasDone next Lost done done' = Unit {0}

pub record HasComeTo (next : ℕ) (came : Came) (x y : Source) : Type 0 where
  pub row : y.row ≡ x.row
  pub closed : y.closed ≡ x.closed
  pub done : HasDone next came x.done y.done
  pub brought : HasCome came x.rx y.rx

-- receiving end e has, and the others are as they were
abbrev pub HasComeAt : ℕ → ℕ → Came → List Source → List Source → Type 0
HasComeAt e next came old new = (x : Source) → slice_get old e ≡ Some x
    → (y : Source) × (new ≡ slice_set old e y) × HasComeTo next came x y

-- a sending end has put this value or close, or nothing
abbrev pub HasSent : Turn → ℕ → Outlet → Outlet → Type 0
HasSent Moved next x y = (y.done ≡ next) × (y.number ≡ x.number + 1)
HasSent Blocked next x y = (y.done ≡ x.done) × (y.number ≡ x.number)
HasSent Over next x y = Unit {0}

pub record HasGoneFrom (next : ℕ) (turn : Turn) (m : Msg) (x y : Outlet) : Type 0 where
  pub row : y.row ≡ x.row
  pub closed : y.closed ≡ x.closed
  pub sent : HasSent turn next x y
  pub gone : HasGone turn m x.tx y.tx

-- sending end e has, and the others are as they were
abbrev pub HasGoneAt : ℕ → ℕ → Turn → Msg → List Outlet → List Outlet → Type 0
HasGoneAt e next turn m old new = (x : Outlet) → slice_get old e ≡ Some x
    → (y : Outlet) × (new ≡ slice_set old e y) × HasGoneFrom next turn m x y
