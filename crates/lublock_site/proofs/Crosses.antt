-- A station may go to another thread. The search is cut at the fields, since one search would go too deep.
use denote.Param.Send.{IsSend, sendable, struct_send, recorded_send}
use denote.Struct.Declared.{shape}
use Rattle.std.proofs.Crossing.{crosses}
use Rattle.luflow.proofs.data.Status.TheSendSync as status
use Rattle.luflow.proofs.message.Msg.TheSendSync as msg
use Rattle.luflow.proofs.flat.Flat.TheSendSync as flat
use Rattle.lublock_plan.proofs.cycle.Cycle.TheSendSync as cycle
use Rattle.std.proofs.option.Option.TheSendSync as option
use Rattle.luflow.proofs.values.Values.TheSendSync as values
use Rattle.luflow.proofs.table.Inputs.TheSendSync as inputs
use Rattle.lublock_kernels.proofs.span.Span.TheSendSync as span
use Rattle.lublock_plan.proofs.site.SiteStep.TheSendSync as step
use Rattle.lublock_plan.specs.contracts.site.SitePlan as SitePlan
use Rattle.lublock.specs.contracts.board.Board as Board
use Rattle.lublock_site.specs.contracts.code.SiteCode as SiteCode
use Rattle.lublock_site.specs.contracts.site.Frame as Frame
use Rattle.lublock_site.proofs.sources.Source.TheSendSync as source
use Rattle.lublock_site.proofs.outlets.Outlet.TheSendSync as outlet
use Rattle.lublock_site.specs.contracts.site.RowSite as RowSite
use Rattle.lublock_site.specs.contracts.station.RowStation as RowStation
use Rattle.lublock_site.specs.contracts.station.RowStation.TheInside as station

pub board_field_send : IsSend Board.the_field.row
board_field_send =
    struct_send (shape Board.the_type) (
      search (sendable, crosses) depth 12,
      (search (sendable, crosses, span.the_send) depth 12, tt),
    )

plan_field_send : IsSend SitePlan.the_field.row
plan_field_send =
    struct_send (shape SitePlan.the_type) (
      search (sendable, crosses, step.the_send) depth 12,
      (
        search (sendable, crosses, cycle.the_send) depth 12,
        (search (sendable, crosses) depth 12, tt),
      ),
    )

code_field_send : IsSend SiteCode.the_field.row
code_field_send =
    struct_send (shape SiteCode.the_type) (
      search (sendable, crosses, flat.the_send, flat.the_sync) depth 12,
      (
        search (sendable, crosses) depth 12,
        (
          plan_field_send,
          (search (sendable, crosses) depth 12, (search sendable, tt)),
        ),
      ),
    )

pub frame_field_send : IsSend Frame.the_field.row
frame_field_send =
    struct_send (shape Frame.the_type) (
      search (sendable, crosses) depth 12,
      (
        code_field_send,
        (
          search (sendable, crosses, option.the_send, values.the_send) depth 12,
          (search (sendable, crosses, inputs.the_send) depth 12, (search sendable, tt)),
        ),
      ),
    )

pub site_field_send : IsSend RowSite.the_field.row
site_field_send =
    struct_send (shape RowSite.the_type) (
      search sendable,
      (
        search sendable,
        (
          frame_field_send,
          (
            search (sendable, crosses, cycle.the_send) depth 12,
            (
              board_field_send,
              (
                search (sendable, crosses) depth 12,
                (
                  search (sendable, crosses, source.the_send) depth 12,
                  (
                    search (sendable, crosses, outlet.the_send) depth 12,
                    (
                      search (sendable, crosses, msg.the_send) depth 12,
                      (
                        search (sendable, crosses, status.the_send) depth 12,
                        (search sendable, (search sendable, (search sendable, tt))),
                      ),
                    ),
                  ),
                ),
              ),
            ),
          ),
        ),
      ),
    )

inside_station : IsSend station.the_row
inside_station =
    recorded_send station.the_field.row _ _ station.the_type.to_one
    (struct_send (shape station.the_type) (
      site_field_send,
      (
        search (sendable, crosses, option.the_send) depth 12,
        (search (sendable, crosses, status.the_send) depth 12, (search sendable, tt)),
      ),
    ))

pub station_send : IsSend RowStation.the_row
station_send = search (sendable, inside_station)

pub station_field_send : IsSend RowStation.the_field.row
station_field_send = station_send
