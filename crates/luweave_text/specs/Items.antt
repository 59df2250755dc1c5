-- What an item of a site is reported as.
use Rattle.std.specs.Prelude.{ℕ, List, [], ◌++◌, codes, Option, Some, None, slice_get}
use Rattle.std.specs.Fmt.{decimal}
use Rattle.luflow.specs.declared.message.Msg.{Msg}
use Rattle.luflow.specs.Types.{variable_names}
use Rattle.luflow.specs.Variables.{variable_name}
use Rattle.luworld.specs.Systems.{Item, Compute, Puts, Takes, done, puts_before}
use Rattle.luworld.specs.Jobs.{carried, system_of}
use Rattle.luworld.specs.WorldViews.{WorldView, list_of_link, queued_of}
use Rattle.luweave_text.specs.WorldText.{body_text}

-- a space, the number of a message, and what it says of a type with these names
abbrev pub message_text : List (List ℕ) → Option Msg → List ℕ
message_text names None = []
message_text names (Some m) = codes " " ++ (decimal m.no ++ body_text names m.body)

-- the name of the flow that a link carries, and the names of its type
abbrev pub flow_text : WorldView → ℕ → List ℕ
flow_text w l = variable_name w.job.plan.flat (carried w.job.plan l)

abbrev pub flow_names : WorldView → ℕ → List (List ℕ)
flow_names w l = variable_names w.job.plan.flat (carried w.job.plan l)

-- What the site does next: it computes, puts its next message into a link, or takes the first that waits in
-- one.
abbrev pub item_text : WorldView → ℕ → Item → List ℕ
item_text w s (Compute flow instant) = codes "compute"
item_text w s (Puts l) = codes "put " ++ (flow_text w l ++ message_text (flow_names w l)
    (slice_get (list_of_link w l) (puts_before (system_of w.job) l s (done w.dones s))))
item_text w s (Takes l) = codes "take " ++ (flow_text w l ++ message_text (flow_names w l)
    (slice_get (queued_of w l) 0))
