-- What one try at an end of a link does.
use Rattle.std.specs.Prelude.{◌≡◌}
use Rattle.luflow.specs.declared.message.Msg.{Msg}
use Rattle.luflow.specs.declared.message.Body.TheVariants as bodies
use Rattle.lulink.specs.Views.{SenderView, ReceiverView, HasTaken, HasTakenNothing, IsNextToTake}
use Rattle.lulink.specs.Views.{HasPut, HasPutNothing}
use Rattle.lulist.specs.declared.ends.Came.{Came}
use Rattle.lulist.specs.declared.ends.Came.TheVariants.{Value, Close, Nothing, Lost}
use Rattle.luworld.specs.declared.turn.Turn.{Turn}
use Rattle.luworld.specs.declared.turn.Turn.TheVariants.{Moved, Blocked, Over}

-- the next message of the link was taken, which has this value, or nothing was; of a close nothing is said
abbrev pub HasCome : Came → ReceiverView → ReceiverView → Type 0
HasCome (Value d) r q = (m : Msg) × (m.body ≡ bodies.Value d) × HasTaken m r q × IsNextToTake r m
HasCome Close r q = Unit {0}
HasCome Nothing r q = HasTakenNothing r q
HasCome Lost r q = HasTakenNothing r q

-- the message was put, or nothing was
abbrev pub HasGone : Turn → Msg → SenderView → SenderView → Type 0
HasGone Moved m s t = HasPut m s t
HasGone Blocked m s t = HasPutNothing s t
HasGone Over m s t = Unit {0}
