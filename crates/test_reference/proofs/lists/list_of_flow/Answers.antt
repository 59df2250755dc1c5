use Rattle.std.proofs.Common.{◌≡◌, ◌∙◌, List, length, map, ap, sym, subst, arith}
use Rattle.std.specs.Prelude.{IfOk}
use Rattle.std.proofs.lemmas.List.{length-map}
use Rattle.luflow.specs.Streams.{Mark}
use Rattle.luflow.specs.Messages.{messages}
use Rattle.test_reference.specs.AsMark.{as_mark}
use Rattle.test_reference.specs.Grids.{held}
use Rattle.test_reference.proofs.FilledCells.{whole_marks, length-marks}
use Rattle.test_reference.proofs.lists.list_of_flow.Goals as goal

pub messages_of-requires : goal.messages_of-requires
messages_of-requires c =
    let seen : length c.as_slice.result.now ≡ length (map as_mark c.as_slice.result.now) = sym (length-map c.as_slice.result.now as_mark) in
    let e = ap length (c.as_slice.ensures ∙ c.in_ok-marks.ensures) in
    let n = length-marks (held c.in_ok-whole.field-0 c.args.flow) c.in_ok-whole.field-0.instants in
    let s = c.in_ok-whole.ensures.sized in
    let few = c.in_ok-whole.ensures.few in
    omega (arith, seen, e, n, s, few)

pub returns : goal.returns
returns c =
    let e = c.as_slice.ensures ∙ c.in_ok-marks.ensures ∙ whole_marks c.args.job.now c.in_ok-whole.field-0 c.args.flow c.in_ok-whole.ensures c.requires in
    subst (λ (ms : List Mark). IfOk c.messages_of.result (λ list. list.items ≡ messages 0 ms)) e c.messages_of.ensures
