use Rattle.std.proofs.Common.{sym, subst}
use Rattle.std.proofs.Crossing.{crosses}
use denote.Param.Send.{sendable}
use Rattle.lurun.specs.Stations.{AreReportsOf}
use Rattle.lurun.proofs.Crosses.{left_field_send, share_field_send}
use Rattle.lurun.proofs.crew.start.Goals as goal

pub spawn_with-requires-send-F : goal.spawn_with-requires-send-F
spawn_with-requires-send-F g c κs within = search (sendable, crosses, share_field_send, c.type_bounds.sync-R, c.type_bounds.sync-G) depth 20

pub spawn_with-requires-clause-keeps : goal.spawn_with-requires-clause-keeps
spawn_with-requires-clause-keeps g c κs within = λ r are. subst (λ v. AreReportsOf v.items r.items) (sym c.of.ensures) are

pub spawn_with-requires-send-T : goal.spawn_with-requires-send-T
spawn_with-requires-send-T g c = search (sendable, crosses, left_field_send) depth 20
