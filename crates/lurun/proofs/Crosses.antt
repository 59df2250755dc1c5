-- What a station holds may go to another thread. The search is cut at the fields of each struct, since one search would go too deep.
use denote.Param.Send.{IsSend, sendable, enum_send, struct_send, recorded_send}
use denote.Enum.Declared as enums
use denote.Struct.Declared.{shape}
use Rattle.std.proofs.Crossing.{crosses}
use Rattle.lubase.proofs.row.Row.TheSendSync as row
use Rattle.lubase.proofs.name.Name.TheSendSync as name
use Rattle.luflow.proofs.data.Status.TheSendSync as status
use Rattle.lueval_lines.proofs.cell.Cell.TheSendSync as cell
use Rattle.lusite_program.proofs.program.SiteFlow.TheSendSync as site_flow
use Rattle.lusite.proofs.next.Fault.TheSendSync as fault
use Rattle.lulink.proofs.sender.Tx.TheSendSync as tx
use Rattle.lulink.proofs.receiver.Rx.TheSendSync as rx
use Rattle.luplace.specs.contracts.job.SiteInputs as SiteInputs
use Rattle.luplace.specs.contracts.job.SiteInputs.TheInside as inputs
use Rattle.lusite_program.specs.contracts.program.SiteProgram as SiteProgram
use Rattle.lusite_program.specs.contracts.program.SiteProgram.TheInside as program
use Rattle.lusite.specs.contracts.state.SiteState as SiteState
use Rattle.lusite.specs.contracts.site.Site as Site
use Rattle.lusite.specs.contracts.site.Site.TheInside as site
use Rattle.lusite.specs.contracts.whole.WholeSite as WholeSite
use Rattle.lusite.specs.contracts.whole.WholeSite.TheInside as gone_whole
use Rattle.lusite.specs.contracts.report.Gone as Gone
use Rattle.lusite.specs.contracts.report.SiteReport as SiteReport
use Rattle.lusite.specs.contracts.report.SiteReport.TheInside as report
use Rattle.luflow.proofs.values.Values.TheSendSync as values
use Rattle.lublock_site.proofs.Crosses.{station_send as row_send}
use Rattle.lulist.proofs.Crosses.{station_send as list_send}
use Rattle.std.proofs.option.Option.TheSendSync as option
use Rattle.lurun.specs.contracts.items.ItemStation as ItemStation
use Rattle.lurun.specs.contracts.items.ItemStation.TheInside as items
use Rattle.lurun.specs.contracts.whole.Whole as Whole
use Rattle.lurun.specs.contracts.station.Going as Going
use Rattle.lurun.specs.contracts.station.Station as Station
use Rattle.lurun.specs.contracts.station.Station.TheInside as station
use Rattle.lurun.specs.contracts.report.Report as Report
use Rattle.lurun.specs.contracts.report.Report.TheInside as left
use Rattle.lurun.specs.contracts.served.Served as Served
use Rattle.lurun.specs.contracts.served.Served.TheInside as served
use Rattle.lurun.specs.contracts.served.Share as Share

inside_inputs : IsSend inputs.the_row
inside_inputs =
    recorded_send inputs.the_field.row _ _ inputs.the_type.to_one
    (struct_send (shape inputs.the_type)
    (search sendable, (search sendable, (search (sendable, crosses, option.the_send, values.the_send) depth 12, (search sendable, tt)))))

pub inputs_send : IsSend SiteInputs.the_row
inputs_send = search (sendable, inside_inputs)

pub inputs_field_send : IsSend SiteInputs.the_field.row
inputs_field_send = inputs_send

inside_program : IsSend program.the_row
inside_program =
    recorded_send program.the_field.row _ _ program.the_type.to_one
    (struct_send (shape program.the_type) (
      search sendable,
      (
        search sendable,
        (
          search (sendable, crosses, row.the_send) depth 12,
          (
            search (sendable, crosses, row.the_send) depth 12,
            (
              search (sendable, crosses, row.the_send, site_flow.the_send) depth 12,
              (
                search (sendable, crosses, row.the_send) depth 12,
                (
                  search (sendable, crosses, row.the_send) depth 12,
                  (
                    search (sendable, crosses, row.the_send) depth 12,
                    (
                      search sendable,
                      (
                        search (sendable, crosses, row.the_send, name.the_send) depth 12,
                        (
                          search sendable,
                          tt,
                        ),
                      ),
                    ),
                  ),
                ),
              ),
            ),
          ),
        ),
      ),
    ))

pub program_send : IsSend SiteProgram.the_row
program_send = search (sendable, inside_program)

pub program_field_send : IsSend SiteProgram.the_field.row
program_field_send = program_send

pub state_field_send : IsSend SiteState.the_field.row
state_field_send =
    struct_send (shape SiteState.the_type) (
      program_send,
      (
        inputs_send,
        (
          search (sendable, crosses, cell.the_send) depth 12,
          (
            search (sendable, crosses, cell.the_send) depth 12,
            (
              search (sendable, crosses) depth 12,
              (
                search (sendable, crosses) depth 12,
                (
                  search (sendable, crosses, status.the_send) depth 12,
                  (
                    search sendable,
                    (
                      search sendable,
                      (
                        search sendable,
                        (
                          search sendable,
                          (
                            search (sendable, fault.the_send) depth 12,
                            tt,
                          ),
                        ),
                      ),
                    ),
                  ),
                ),
              ),
            ),
          ),
        ),
      ),
    )

inside_site : IsSend site.the_row
inside_site = recorded_send site.the_field.row _ _ site.the_type.to_one (struct_send (shape site.the_type) (state_field_send, (search sendable, tt)))

pub site_send : IsSend Site.the_row
site_send = search (sendable, inside_site)

pub site_field_send : IsSend Site.the_field.row
site_field_send = site_send

inside_gone : IsSend gone_whole.the_row
inside_gone =
    recorded_send gone_whole.the_field.row _ _ gone_whole.the_type.to_one
    (struct_send (shape gone_whole.the_type) (
      search sendable,
      (
        search sendable,
        (
          search sendable,
          (
            search sendable,
            (
              search (sendable, crosses, row.the_send, name.the_send) depth 12,
              (search (sendable, crosses, status.the_send) depth 12, tt),
            ),
          ),
        ),
      ),
    ))

gone_whole_send : IsSend WholeSite.the_row
gone_whole_send = search (sendable, inside_gone)

gone_field_send : IsSend Gone.the_field.row
gone_field_send = enum_send (enums.shape Gone.the_type) ((site_send, tt), ((gone_whole_send, tt), tt))

inside_report : IsSend report.the_row
inside_report = recorded_send report.the_field.row _ _ report.the_type.to_one (struct_send (shape report.the_type) (gone_field_send, tt))

pub report_send : IsSend SiteReport.the_row
report_send = search (sendable, inside_report)

pub report_field_send : IsSend SiteReport.the_field.row
report_field_send = report_send

-- a site that goes item by item
inside_items : IsSend items.the_row
inside_items =
    recorded_send items.the_field.row _ _ items.the_type.to_one
    (struct_send (shape items.the_type)
    (site_send, (search (sendable, crosses, tx.the_send) depth 8, (search (sendable, crosses, rx.the_send) depth 8, (search sendable, (search sendable, tt))))))

items_send : IsSend ItemStation.the_row
items_send = search (sendable, inside_items)

whole_field_send : IsSend Whole.the_field.row
whole_field_send =
    struct_send (shape Whole.the_type) (
      search sendable,
      (
        search sendable,
        (
          search sendable,
          (
            search (sendable, crosses, row.the_send, name.the_send) depth 12,
            tt,
          ),
        ),
      ),
    )

-- a station, however it goes on
going_send : IsSend Going.the_row
going_send = search (sendable, row_send, list_send, items_send, whole_field_send) depth 12

going_field_send : IsSend Going.the_field.row
going_field_send = search (sendable, row_send, list_send, items_send, whole_field_send) depth 12

inside_station : IsSend station.the_row
inside_station =
    recorded_send station.the_field.row _ _ station.the_type.to_one
    (struct_send (shape station.the_type) (going_field_send, (search sendable, (search sendable, tt))))

station_send : IsSend Station.the_row
station_send = search (sendable, inside_station)

station_field_send : IsSend Station.the_field.row
station_field_send = station_send

inside_left : IsSend left.the_row
inside_left =
    recorded_send left.the_field.row _ _ left.the_type.to_one
    (struct_send (shape left.the_type) (search sendable, (search (sendable, option.the_send, report_send) depth 12, tt)))

pub left_send : IsSend Report.the_row
left_send = search (sendable, inside_left)

pub left_field_send : IsSend Report.the_field.row
left_field_send = left_send

-- what a worker holds
inside_served : IsSend served.the_row
inside_served =
    recorded_send served.the_field.row _ _ served.the_type.to_one
    (struct_send (shape served.the_type) (station_field_send, (search (sendable, option.the_send), tt)))

served_send : IsSend Served.the_row
served_send = search (sendable, inside_served)

served_field_send : IsSend Served.the_field.row
served_field_send = served_send

pub share_field_send : IsSend Share.the_field.row
share_field_send =
    struct_send (shape Share.the_type) (
      search (sendable, crosses, served_field_send) depth 12,
      (search (sendable, crosses, left_field_send) depth 12, tt),
    )
