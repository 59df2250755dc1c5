use Rattle.std.proofs.Common.{◌≡◌, ◌<◌, length, Some, sym, ap, ◌∙◌, subst}
use Rattle.std.specs.Prelude.{All, slice_get}
use Rattle.std.proofs.lemmas.Option.{slice_get-get_or}
use Rattle.lutree.specs.declared.program.Program.{Program}
use Rattle.lutree.specs.Tree.{program_view}
use Rattle.luinside.specs.Listed.{AreInstances, IsLow}
use Rattle.luinside.specs.Passing.{Passes}
use Rattle.luinside.proofs.ListedVariables.{passed_more}
use Rattle.luinside.proofs.Deep.{listed}
use Rattle.luinside.proofs.variables.deep_variables.Goals as goal

pub pass-requires : goal.pass-requires
pass-requires c =
    let p = program_view c.args.program.now.program in
    let list = c.in_ok-list.list.items in
    let items = c.as_slice-instance-items.result.now in
    let i = c.loop-instance.instance-index in
    let x = c.instance-item.result in
    let low : All (IsLow p) items = subst (All (IsLow p)) (sym c.as_slice-instance-items.ensures.value) c.in_ok-list.ensures.low in
    let lt : i < length items = c.loop-instance-test.true in
    subst (λ (g : Program). IsLow (program_view g) x) (sym c.program.ensures) (subst (IsLow p) (sym c.instance-item.is) (low i x lt))

pub loop-instance-preserved : goal.loop-instance-preserved
loop-instance-preserved c flat is =
    let p = program_view c.args.program.now.program in
    let items = c.as_slice-instance-items.result.now in
    let i = c.loop-instance.instance-index in
    let x = c.instance-item.result in
    let are = subst (AreInstances p c.args.program.now.main flat) (sym c.as_slice-instance-items.ensures.value) (c.in_ok-list.ensures.lists flat is) in
    let at : slice_get items i ≡ Some x = slice_get-get_or items i x c.loop-instance-test.true ∙ ap Some (sym c.instance-item.is) in
    let passes = subst (λ (g : Program). Passes (program_view g) x c.loop-instance.way.items c.pass.new.way.items c.loop-instance.found.items c.pass.new.found.items) c.program.ensures c.in_ok-pass.ensures in
    passed_more p c.args.program.now.main flat items i c.loop-instance.way.items c.pass.new.way.items c.loop-instance.found.items c.pass.new.found.items x are at (c.loop-instance.invariant flat is) passes

pub returns : goal.returns
returns c flat is =
    let p = program_view c.args.program.now.program in
    let items = c.as_slice-instance-items.result.now in
    let are = subst (AreInstances p c.args.program.now.main flat) (sym c.as_slice-instance-items.ensures.value) (c.in_ok-list.ensures.lists flat is) in
    listed p c.args.program.now.main flat is items c.loop-instance.instance-index c.loop-instance.way.items c.loop-instance.found.items are c.loop-instance-test.false (c.loop-instance.invariant flat is)
