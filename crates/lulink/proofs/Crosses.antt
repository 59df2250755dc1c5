-- The ends of a link may go to another thread, as what they hold may. The search is cut at the fields, since one search would go too deep.
use denote.Param.Send.{IsSend, sendable, struct_send, recorded_send}
use denote.Struct.Declared.{shape}
use Rattle.lulink.specs.contracts.sender.Tx as Tx
use Rattle.lulink.specs.contracts.sender.Tx.TheInside as tx
use Rattle.lulink.specs.contracts.receiver.Rx as Rx
use Rattle.lulink.specs.contracts.receiver.Rx.TheInside as rx
use Rattle.lulink.proofs.put_side.PutSide.TheSendSync as put_side
use Rattle.lulink.proofs.take_side.TakeSide.TheSendSync as take_side
use Rattle.luflow.proofs.message.Msg.TheSendSync as msg
use Rattle.atomic_table.proofs.owned.Table.TheSendSync as table
use Rattle.atomic_table.proofs.shared.Seat.TheSendSync as seat
use Rattle.std.proofs.option.Option.TheSendSync as option
use Rattle.std.proofs.alloc.Global.TheSendSync as heap
use Rattle.std.proofs.Crossing.{crosses}

inside_tx : IsSend tx.the_row
inside_tx =
    recorded_send tx.the_field.row _ _ tx.the_type.to_one
    (struct_send (shape tx.the_type) (
      search (sendable, crosses, table.the_send, table.the_sync, msg.the_send, option.the_send, heap.the_send) depth 12,
      (search (sendable, put_side.the_field_send, seat.the_send, option.the_send, msg.the_send), (search sendable, (search sendable, tt))),
    ))

pub tx_send : IsSend Tx.the_row
tx_send = search (sendable, inside_tx)

inside_rx : IsSend rx.the_row
inside_rx =
    recorded_send rx.the_field.row _ _ rx.the_type.to_one
    (struct_send (shape rx.the_type) (
      search (sendable, crosses, table.the_send, table.the_sync, msg.the_send, option.the_send, heap.the_send) depth 12,
      (search (sendable, take_side.the_field_send, seat.the_send, option.the_send, msg.the_send), (search sendable, (search sendable, tt))),
    ))

pub rx_send : IsSend Rx.the_row
rx_send = search (sendable, inside_rx)
