-- The ends of a link may go to another thread, as what they hold may. The search is cut at its fields, since one search would go too deep.
use denote.Param.Send.{IsSend, sendable, struct_send, recorded_send}
use denote.Struct.Declared.{shape}
use Rattle.test_reference.specs.contracts.sender.Tx as Tx
use Rattle.test_reference.specs.contracts.sender.Tx.TheInside as tx
use Rattle.test_reference.specs.contracts.receiver.Rx as Rx
use Rattle.test_reference.specs.contracts.receiver.Rx.TheInside as rx
use Rattle.crossbeam_channel.proofs.flavors.array.ruled.Sending.TheSendSync as sending
use Rattle.crossbeam_channel.proofs.flavors.array.ruled.Receiving.TheSendSync as receiving
use Rattle.crossbeam_channel.proofs.flavors.array.Rows.TheSendSync as rows
use Rattle.test_reference.proofs.doors.Doors.TheSendSync as doors
use Rattle.luflow.proofs.message.Msg.TheSendSync as msg
use Rattle.atomic_table.proofs.badge.Badge.TheSendSync as badge
use Rattle.atomic_table.proofs.shared.Seat.TheSendSync as link_pass
use Rattle.std.proofs.option.Option.TheSendSync as option
use Rattle.std.proofs.alloc.Global.TheSendSync as heap
use Rattle.std.proofs.Crossing.{crosses, frees}

inside_tx : IsSend tx.the_row
inside_tx =
    recorded_send tx.the_field.row _ _ tx.the_type.to_one
    (struct_send (shape tx.the_type) (
      search (sendable, sending.the_field_send, rows.the_send, rows.the_sync, msg.the_send, badge.the_send, option.the_send, heap.the_send, frees) depth 8,
      (
        search (sendable, link_pass.the_send, badge.the_send),
        (
          record { owned = λ d vs. ((λ vss. (tt, ((λ uss. (tt, tt)), tt))), tt); leaving = λ k f vs. tt },
          (
            search sendable,
            (
              search (sendable, crosses, doors.the_send, doors.the_sync, heap.the_send) depth 8,
              (search (sendable, receiving.the_field_send, rows.the_send, rows.the_sync, msg.the_send, badge.the_send, option.the_send, heap.the_send, frees) depth 8, tt),
            ),
          ),
        ),
      ),
    ))

pub tx_send : IsSend Tx.the_row
tx_send = search (sendable, inside_tx)

inside_rx : IsSend rx.the_row
inside_rx =
    recorded_send rx.the_field.row _ _ rx.the_type.to_one
    (struct_send (shape rx.the_type) (
      search (sendable, receiving.the_field_send, rows.the_send, rows.the_sync, msg.the_send, badge.the_send, option.the_send, heap.the_send, frees) depth 8,
      (
        search (sendable, link_pass.the_send, badge.the_send),
        (
          record { owned = λ d vs. ((λ vss. (tt, ((λ uss. (tt, tt)), tt))), tt); leaving = λ k f vs. tt },
          (search sendable, (search (sendable, crosses, doors.the_send, doors.the_sync, heap.the_send) depth 8, tt)),
        ),
      ),
    ))

pub rx_send : IsSend Rx.the_row
rx_send = search (sendable, inside_rx)

-- the same, as a field of what holds them
pub tx_field_send : IsSend Tx.the_field.row
tx_field_send = tx_send

pub rx_field_send : IsSend Rx.the_field.row
rx_field_send = rx_send
