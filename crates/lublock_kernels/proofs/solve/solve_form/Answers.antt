use Rattle.std.proofs.Common.{refl, sym, ap, ◌∙◌}
use Rattle.luflow.specs.declared.form.Form.TheVariants.{Input, Constant, Copied, Unary, Binary, If, Pre, Arrow, When, Current, Merge}
use Rattle.lublock_kernels.proofs.Written.{for_flow}
use Rattle.lublock_kernels.proofs.solve.solve_form.Goals as goal

pub returns-in-Input-clause-words : goal.returns-in-Input-clause-words
returns-in-Input-clause-words c = λ e.
    for_flow c.args.flat.now c.args.inputs.now c.args.t c.args.rows.now c.args.spans.now c.args.i c.args.flow.now (Input c.in-Input.c) c.args.from c.args.to c.solve_input.new.row c.in-Input.is (c.solve_input.ensures.words e c.args.flat.now c.args.i c.args.flow.now refl)

pub returns-in-Constant-clause-words : goal.returns-in-Constant-clause-words
returns-in-Constant-clause-words c = λ e.
    for_flow c.args.flat.now c.args.inputs.now c.args.t c.args.rows.now c.args.spans.now c.args.i c.args.flow.now (Constant c.in-Constant.d) c.args.from c.args.to c.solve_constant.new.row c.in-Constant.is (c.solve_constant.ensures.words e c.args.flat.now c.args.inputs.now c.args.t c.args.i c.args.flow.now refl)

pub returns-in-Copied-clause-words : goal.returns-in-Copied-clause-words
returns-in-Copied-clause-words c = λ e.
    for_flow c.args.flat.now c.args.inputs.now c.args.t c.args.rows.now c.args.spans.now c.args.i c.args.flow.now (Copied c.in-Copied.a) c.args.from c.args.to c.solve_copied.new.row c.in-Copied.is (c.solve_copied.ensures.words e c.args.flat.now c.args.inputs.now c.args.t c.args.i c.args.flow.now)

pub returns-in-Unary-clause-words : goal.returns-in-Unary-clause-words
returns-in-Unary-clause-words c = λ e.
    for_flow c.args.flat.now c.args.inputs.now c.args.t c.args.rows.now c.args.spans.now c.args.i c.args.flow.now (Unary c.in-Unary.op c.in-Unary.a) c.args.from c.args.to c.solve_unary.new.row c.in-Unary.is (c.solve_unary.ensures.words e c.args.flat.now c.args.inputs.now c.args.t c.args.i c.args.flow.now refl)

pub returns-in-Binary-clause-words : goal.returns-in-Binary-clause-words
returns-in-Binary-clause-words c = λ e.
    for_flow c.args.flat.now c.args.inputs.now c.args.t c.args.rows.now c.args.spans.now c.args.i c.args.flow.now (Binary c.in-Binary.op c.in-Binary.a c.in-Binary.b) c.args.from c.args.to c.solve_operator.new.row c.in-Binary.is (c.solve_operator.ensures.words e c.args.inputs.now c.args.t c.args.i c.args.flow.now refl)

pub returns-in-If-clause-words : goal.returns-in-If-clause-words
returns-in-If-clause-words c = λ e.
    for_flow c.args.flat.now c.args.inputs.now c.args.t c.args.rows.now c.args.spans.now c.args.i c.args.flow.now (If c.in-If.c c.in-If.a c.in-If.b) c.args.from c.args.to c.solve_if.new.row c.in-If.is (c.solve_if.ensures.words e c.args.flat.now c.args.inputs.now c.args.t c.args.i c.args.flow.now)

pub returns-in-Pre-clause-words : goal.returns-in-Pre-clause-words
returns-in-Pre-clause-words c = λ e.
    for_flow c.args.flat.now c.args.inputs.now c.args.t c.args.rows.now c.args.spans.now c.args.i c.args.flow.now (Pre c.in-Pre.a) c.args.from c.args.to c.solve_pre.new.row c.in-Pre.is (c.solve_pre.ensures.words e c.args.flat.now c.args.inputs.now c.args.t c.args.i c.args.flow.now)

pub returns-in-Arrow-clause-words : goal.returns-in-Arrow-clause-words
returns-in-Arrow-clause-words c = λ e.
    for_flow c.args.flat.now c.args.inputs.now c.args.t c.args.rows.now c.args.spans.now c.args.i c.args.flow.now (Arrow c.in-Arrow.a c.in-Arrow.b) c.args.from c.args.to c.solve_arrow.new.row c.in-Arrow.is (c.solve_arrow.ensures.words e c.args.flat.now c.args.inputs.now c.args.t c.args.flow.now)

pub returns-in-When-clause-words : goal.returns-in-When-clause-words
returns-in-When-clause-words c = λ e.
    for_flow c.args.flat.now c.args.inputs.now c.args.t c.args.rows.now c.args.spans.now c.args.i c.args.flow.now (When c.in-When.a) c.args.from c.args.to c.solve_when.new.row c.in-When.is (c.solve_when.ensures.words e c.args.inputs.now c.args.t c.args.i c.args.flow.now refl)

pub returns-in-Current-clause-words : goal.returns-in-Current-clause-words
returns-in-Current-clause-words c = λ e.
    for_flow c.args.flat.now c.args.inputs.now c.args.t c.args.rows.now c.args.spans.now c.args.i c.args.flow.now (Current c.in-Current.a) c.args.from c.args.to c.solve_current.new.row c.in-Current.is (c.solve_current.ensures.words e c.args.inputs.now c.args.t c.args.i c.args.flow.now)

pub returns-in-Merge-clause-words : goal.returns-in-Merge-clause-words
returns-in-Merge-clause-words c = λ e.
    for_flow c.args.flat.now c.args.inputs.now c.args.t c.args.rows.now c.args.spans.now c.args.i c.args.flow.now (Merge c.in-Merge.c c.as_slice.result.now) c.args.from c.args.to c.solve_merge.new.row (c.in-Merge.is ∙ ap (Merge c.in-Merge.c) (sym c.as_slice.ensures)) (c.solve_merge.ensures.words e c.args.inputs.now c.args.t c.args.i c.args.flow.now)
