use Rattle.std.proofs.Common.{List, Bool, map, sym, ap, ◌∙◌, subst}
use Rattle.luflow.specs.Tables.{AreOutputs}
use Rattle.lueval.specs.Whole.{AreFlowStreams}
use Rattle.lueval_lines.specs.Columns.{Column, lists_of}
use Rattle.luinside.specs.Columns.{AreFlowColumns}
use Rattle.luinside.specs.Passing.{column_by}
use Rattle.luinside.proofs.Taken.{taken, table}
use Rattle.luinside.proofs.columns.deep_columns.Goals as goal

pub unreachable-requires : goal.unreachable-requires
unreachable-requires c =
    let flat = c.args.flat.now in
    let inputs = c.args.inputs.now in
    let ds = c.args.variables.now in
    let are = subst (λ (ms : List Bool). AreFlowStreams flat inputs ms (lists_of c.in_ok-streams.streams.items)) c.as_slice.ensures.value c.in_ok-streams.ensures.streams in
    let here = taken flat inputs c.in_ok-wanted.wanted.items ds (lists_of c.in_ok-streams.streams.items) are c.in_ok-wanted.ensures c.requires.inside in
    let is = c.in_ok-columns.ensures ∙ ap (λ (xs : List Column). map (column_by (lists_of xs)) ds) c.as_slice-2.ensures.value in
    let clash = c.in-None.ensures.when.1 (subst AreOutputs (sym is) (table flat inputs ds (map (column_by (lists_of c.in_ok-streams.streams.items)) ds) c.recall_invariant.ensures here c.requires.some)) in
    cc

pub returns-clause-columns : goal.returns-clause-columns
returns-clause-columns c =
    let flat = c.args.flat.now in
    let inputs = c.args.inputs.now in
    let ds = c.args.variables.now in
    let are = subst (λ (ms : List Bool). AreFlowStreams flat inputs ms (lists_of c.in_ok-streams.streams.items)) c.as_slice.ensures.value c.in_ok-streams.ensures.streams in
    let here = taken flat inputs c.in_ok-wanted.wanted.items ds (lists_of c.in_ok-streams.streams.items) are c.in_ok-wanted.ensures c.requires.inside in
    let is = c.in_ok-columns.ensures ∙ ap (λ (xs : List Column). map (column_by (lists_of xs)) ds) c.as_slice-2.ensures.value in
    subst (AreFlowColumns flat inputs ds) (sym (c.in-Some.ensures.outputs ∙ is)) here
