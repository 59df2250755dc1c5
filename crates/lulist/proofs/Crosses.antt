-- A site's part of a plan and a station may go to another thread. The search is cut at the fields, since one search would go too deep.
use denote.Param.Send.{IsSend, sendable, struct_send, recorded_send}
use denote.Struct.Declared.{shape}
use Rattle.std.proofs.Crossing.{crosses}
use Rattle.std.proofs.option.Option.TheSendSync as option
use Rattle.luflow.proofs.data.Status.TheSendSync as status
use Rattle.luflow.proofs.values.Values.TheSendSync as values
use Rattle.luplace.specs.contracts.job.SiteInputs as SiteInputs
use Rattle.luplace.specs.contracts.job.SiteInputs.TheInside as inputs
use Rattle.lueval_lines.proofs.cell.Cell.TheSendSync as cell
use Rattle.lueval_lines.proofs.ordered.OrderedLine.TheSendSync as row
use Rattle.lulist.proofs.linking.ListLink.TheSendSync as link
use Rattle.lulist.proofs.ends.Source.TheSendSync as source
use Rattle.lulist.proofs.ends.Outlet.TheSendSync as outlet
use Rattle.lueval_lines.specs.contracts.ordered.OrderedLines as OrderedLines
use Rattle.lulist.specs.contracts.flows.OrderedFlows as OrderedFlows
use Rattle.lulist.specs.contracts.code.ListCode as ListCode
use Rattle.lulist.specs.contracts.code.ListCode.TheInside as code
use Rattle.lulist.specs.contracts.site.ListSite as ListSite
use Rattle.lulist.specs.contracts.station.ListStation as ListStation
use Rattle.lulist.specs.contracts.station.ListStation.TheInside as station

inside_inputs : IsSend inputs.the_row
inside_inputs =
    recorded_send inputs.the_field.row _ _ inputs.the_type.to_one
    (struct_send (shape inputs.the_type) (search sendable, (search sendable, (search (sendable, crosses, option.the_send, values.the_send) depth 12, (search sendable, tt)))))

inputs_send : IsSend SiteInputs.the_row
inputs_send = search (sendable, inside_inputs)

inputs_field_send : IsSend SiteInputs.the_field.row
inputs_field_send = inputs_send

lines_field_send : IsSend OrderedLines.the_field.row
lines_field_send = struct_send (shape OrderedLines.the_type) (search (sendable, crosses, row.the_send) depth 12, (search (sendable, crosses) depth 12, (search (sendable, crosses) depth 12, tt)))

flows_field_send : IsSend OrderedFlows.the_field.row
flows_field_send =
    struct_send (shape OrderedFlows.the_type) (lines_field_send, (search (sendable, crosses) depth 12, (search (sendable, crosses) depth 12, (search (sendable, crosses) depth 12, (search sendable, (search (sendable, crosses, option.the_send) depth 12, tt))))))

inside_code : IsSend code.the_row
inside_code =
    recorded_send code.the_field.row _ _ code.the_type.to_one
    (struct_send (shape code.the_type) (search sendable, (search sendable, (flows_field_send, (search (sendable, crosses, link.the_send) depth 12, (search (sendable, crosses, link.the_send) depth 12, (search (sendable, crosses) depth 12, (search (sendable, crosses) depth 12, (search (sendable, crosses) depth 12, (search (sendable, crosses) depth 12, tt))))))))))

pub code_send : IsSend ListCode.the_row
code_send = search (sendable, inside_code)

pub code_field_send : IsSend ListCode.the_field.row
code_field_send = code_send

site_field_send : IsSend ListSite.the_field.row
site_field_send =
    struct_send (shape ListSite.the_type) (inputs_field_send, (flows_field_send, (search (sendable, crosses, cell.the_send) depth 12, (search (sendable, crosses, cell.the_send) depth 12, (search (sendable, crosses, source.the_send) depth 12, (search (sendable, crosses, outlet.the_send) depth 12, (search (sendable, crosses) depth 12, (search (sendable, crosses, status.the_send) depth 12, (search (sendable, crosses) depth 12, (search (sendable, crosses) depth 12, (search (sendable, crosses) depth 12, (search sendable, (search sendable, (search sendable, tt))))))))))))))

inside_station : IsSend station.the_row
inside_station =
    recorded_send station.the_field.row _ _ station.the_type.to_one
    (struct_send (shape station.the_type) (search (sendable, crosses) depth 12, (site_field_send, (search (sendable, crosses, status.the_send) depth 12, (search sendable, tt)))))

pub station_send : IsSend ListStation.the_row
station_send = search (sendable, inside_station)

pub station_field_send : IsSend ListStation.the_field.row
station_field_send = station_send
