-- The rule of a link, and what one step adds to what an end knows.
use Rattle.std.specs.Prelude.{◌≡◌, ℕ, ◌≤◌, ◌⊎◌, List, [], ◌∷◌, ◌++◌, length, Some, slice_get}
use mathlib.Core.List.{IsPrefix}
use Rattle.luflow.specs.declared.message.Msg.{Msg}
use Rattle.test_reference.specs.declared.rule.PassState.{PassState}
use Rattle.test_reference.specs.declared.rule.Role.TheVariants.{Opener, Producer, Consumer}

abbrev pub fresh : PassState
fresh = record { role = Opener; room = 0; list = []; done = [] }

abbrev pub sender : ℕ → List Msg → List Msg → PassState
sender room list put = record { role = Producer; room = room; list = list; done = put }

abbrev pub receiver : ℕ → List Msg → List Msg → PassState
receiver room list taken = record { role = Consumer; room = room; list = list; done = taken }

-- what was put is what was taken and then what the channel holds; it is a prefix of the list
pub record Running (items : List Msg) (views : List PassState) : Type 0 where
  pub room : ℕ
  pub list : List Msg
  pub taken : List Msg
  pub ends : views ≡ sender room list (taken ++ items) ∷ receiver room list taken ∷ []
  pub fits : length items ≤ room
  pub begins : IsPrefix (taken ++ items) list

abbrev pub Linked : List Msg → List PassState → Type 0
Linked items views = ((items ≡ []) × (views ≡ fresh ∷ [])) ⊎ Running items views

abbrev pub with_one : PassState → Msg → PassState
with_one v m = record { role = v.role; room = v.room; list = v.list; done = v.done ++ m ∷ [] }

abbrev pub HasSent : PassState → Msg → PassState → Type 0
HasSent v m w = w ≡ with_one v m

-- the message is the next of the list
abbrev pub HasReceived : PassState → Msg → PassState → Type 0
HasReceived v m w = (w ≡ with_one v m) × (slice_get v.list (length v.done) ≡ Some m)
