-- What the ends of a channel hold, and what contracts see of it.
use Rattle.std.specs.Prelude.{◌≡◌, []}
use mathlib.Core.List.{IsPrefix}
use Rattle.crossbeam_channel.specs.Claims.{view as known, IsSeatAt}
use Rattle.crossbeam_channel.specs.Ends.{sends_on, receives_on, ruled_capacity}
use Rattle.lulink.specs.Lists.{list_of}
use Rattle.lulink.specs.Counts.{uncounted}
use Rattle.lulink.specs.Views.{SenderView, ReceiverView}
use Rattle.test_reference.specs.Links.{sender, receiver}
use Rattle.test_reference.specs.declared.sender.Tx.TheInside as tx
use Rattle.test_reference.specs.declared.receiver.Rx.TheInside as rx

abbrev pub sender_view : tx.Inside → SenderView
sender_view t = record {
  job = t.job.value;
  link = t.link;
  capacity = ruled_capacity (sends_on t.end);
  ring = (sends_on t.end).stamps.shared.table_id;
  put = (known t.link_pass).done;
  seen = [];
  counts = uncounted;
}

abbrev pub receiver_view : rx.Inside → ReceiverView
receiver_view t = record {
  job = t.job.value;
  link = t.link;
  capacity = ruled_capacity (receives_on t.end);
  ring = (receives_on t.end).stamps.shared.table_id;
  taken = (known t.link_pass).done;
  seen = [];
  counts = uncounted;
}

abbrev pub IsSender : tx.Inside → Type 0
IsSender t = IsSeatAt (sends_on t.end) t.link_pass
    × (known t.link_pass ≡ sender (ruled_capacity (sends_on t.end)) (list_of t.job.value t.link)
    (known t.link_pass).done) × IsPrefix (known t.link_pass).done (list_of t.job.value t.link)

abbrev pub IsReceiver : rx.Inside → Type 0
IsReceiver t = IsSeatAt (receives_on t.end) t.link_pass
    × (known t.link_pass ≡ receiver (ruled_capacity (receives_on t.end)) (list_of t.job.value t.link)
    (known t.link_pass).done) × IsPrefix (known t.link_pass).done (list_of t.job.value t.link)
