use Rattle.std.proofs.Common.{Option, ap, sym, ◌∙◌}
use Rattle.std.specs.Prelude.{◌||◌}
use Rattle.luflow.specs.declared.form.Flow.{Flow}
use Rattle.luflow.specs.Program.{clock_reads}
use Rattle.luworld.specs.Needs.{is_in}
use Rattle.luplace_report.specs.Cause.{names_place}
use Rattle.luplace_report.proofs.Ranges.{item_found, none_found}
use Rattle.luplace_report.proofs.cause.names_at.Goals as goal

pub returns-then-is_operand : goal.returns-then-is_operand
returns-then-is_operand c =
    let x = c.args.variable in
    let flow = c.in-Some.flow.now in
    let found = item_found c.flows.result.now c.args.flat.now.flows c.args.place c.in-Some.flow c.flows.ensures.flows c.in-Some.ensures.lookup in
    c.if-is_operand.true ∙ sym (ap (λ b. b || is_in x (clock_reads flow.clock)) (sym c.is_operand.ensures ∙ c.if-is_operand.true)) ∙ sym (ap (λ (o : Option Flow). names_place o x) found)

pub returns-else-is_operand : goal.returns-else-is_operand
returns-else-is_operand c =
    let x = c.args.variable in
    let flow = c.in-Some.flow.now in
    let found = item_found c.flows.result.now c.args.flat.now.flows c.args.place c.in-Some.flow c.flows.ensures.flows c.in-Some.ensures.lookup in
    c.is_on.ensures ∙ sym (ap (λ b. b || is_in x (clock_reads flow.clock)) (sym c.is_operand.ensures ∙ c.if-is_operand.false)) ∙ sym (ap (λ (o : Option Flow). names_place o x) found)

pub returns-in-None : goal.returns-in-None
returns-in-None c = sym (ap (λ (o : Option Flow). names_place o c.args.variable) (none_found c.flows.result.now c.args.flat.now.flows c.args.place c.flows.ensures.flows c.in-None.ensures.lookup))
