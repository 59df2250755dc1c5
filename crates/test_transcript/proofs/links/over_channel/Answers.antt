use denote.Param.Send.{sendable}
use Rattle.std.proofs.Crossing.{crosses}
use Rattle.test_reference.proofs.Crosses.{tx_send, rx_send, tx_field_send, rx_field_send}
use Rattle.test_transcript.proofs.links.over_channel.Goals as goal

pub does-requires-send-S : goal.does-requires-send-S
does-requires-send-S g c κs within = search (sendable, crosses, tx_send, tx_field_send) depth 20

pub does-requires-send-D : goal.does-requires-send-D
does-requires-send-D g c κs within = search (sendable, crosses, rx_send, rx_field_send) depth 20
