use denote.Param.Send.{sendable}
use Rattle.std.proofs.Crossing.{crosses}
use Rattle.lublock_site.proofs.Crosses.{station_field_send}
use Rattle.test_transcript.proofs.blocks.put_sender.Goals as goal

pub join-rows-requires-send-F : goal.join-rows-requires-send-F
join-rows-requires-send-F g c κs within = search (sendable, crosses, station_field_send, c.type_bounds.sync-R) depth 20
