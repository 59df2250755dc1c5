use Rattle.std.proofs.lemmas.Grind.{common_steps}
use Rattle.std.proofs.Common.{arith, ◌≡◌, ◌++◌, ℕ, List, ap, ◌∙◌, string_bytes, codes}
use Rattle.lusyn_printer.proofs.Joined.{joined_loop}
use Rattle.lusyn_printer.proofs.Operands.{operand, operands_each}
use Rattle.lusyn_printer.proofs.Steps.{joint, grown, six_grown, ended, unary_text, binary_text, choice_text, when_written, merge_text, call_text}
use Rattle.lusyn_printer.proofs.expr.+printing.Goals as goal

pub put_operands-returns-after-loop-other : goal.put_operands-returns-after-loop-other
put_operands-returns-after-loop-other t c =
    joined_loop (codes ", ") operand c.first-item.result c.args.arguments.now c.loop-other.other-index (string_bytes c.args.text.now) (string_bytes c.put_expr.new.text) (string_bytes c.loop-other.text)
    c.in-len1-up.len_at_least c.first-item.is c.loop-other-test.false c.in_ok-put_expr-in-len1-up.ensures c.loop-other.invariant
    ∙ ap (λ (text : List ℕ). string_bytes c.args.text.now ++ text) (operands_each c.args.arguments.now)

pub put_branches-loop-i-preserved : goal.put_branches-loop-i-preserved
put_branches-loop-i-preserved t c = grind (arith, common_steps)

pub put_branches-returns-in_default : goal.put_branches-returns-in_default
put_branches-returns-in_default t c = grind (arith, common_steps)

pub put_branches-returns : goal.put_branches-returns
put_branches-returns t c = grind (arith, common_steps)

pub put_operand-returns-then-least-level_of : goal.put_operand-returns-then-least-level_of
put_operand-returns-then-least-level_of t c = grind (arith, common_steps)

pub put_operand-returns : goal.put_operand-returns
put_operand-returns t c = grind (arith, common_steps)

pub put_operands-loop-other-preserved : goal.put_operands-loop-other-preserved
put_operands-loop-other-preserved t c = grind (arith, common_steps)

pub put_expr-returns-in_ok-put_prefix-in-Unary : goal.put_expr-returns-in_ok-put_prefix-in-Unary
put_expr-returns-in_ok-put_prefix-in-Unary t c =
    grown c.put_operand.result _ _ _ _ _ _ c.in_ok-put_prefix-in-Unary.ensures
    (unary_text c.in-Unary.op c.in-Unary.a c.args.e.now c.deref.result.now c.in-Unary.is c.deref.ensures) c.put_operand.ensures

pub put_expr-returns-in_ok-put_infix-in-Binary : goal.put_expr-returns-in_ok-put_infix-in-Binary
put_expr-returns-in_ok-put_infix-in-Binary t c =
    grown c.put_operand-in-Binary-2.result _ _ _ _ _ _
    (joint _ _ _ _ _ c.in_ok-put_operand-in-Binary.ensures c.in_ok-put_infix-in-Binary.ensures)
    (binary_text c.in-Binary.op c.in-Binary.a c.in-Binary.b c.args.e.now _ _ _ _ c.in-Binary.is c.binding_of-binding.ensures.left c.binding_of-binding.ensures.right
    c.deref-in-Binary.ensures c.deref-in-Binary-2.ensures)
    c.put_operand-in-Binary-2.ensures

pub put_expr-returns-in_ok-push_str-in-If-3 : goal.put_expr-returns-in_ok-push_str-in-If-3
put_expr-returns-in_ok-push_str-in-If-3 t c =
    let first : string_bytes c.push_str-in-If.new.self ≡ string_bytes c.args.text.now ++ codes "if " = c.in_ok-push_str-in-If.ensures.bytes in
    let second : string_bytes c.push_str-in-If-2.new.self ≡ string_bytes c.put_expr.new.text ++ codes " then " = c.in_ok-push_str-in-If-2.ensures.bytes in
    let third : string_bytes c.push_str-in-If-3.new.self ≡ string_bytes c.put_expr-in-If.new.text ++ codes " else " = c.in_ok-push_str-in-If-3.ensures.bytes in
    six_grown c.put_expr-in-If-2.result _ _ _ _ _ _ _ _ _ _ _ _ _ _ first c.in_ok-put_expr-in-If.ensures second c.in_ok-put_expr-in-If-2.ensures third
    (choice_text c.in-If.a c.in-If.b c.in-If.c c.args.e.now _ _ _ c.in-If.is c.deref-in-If.ensures c.deref-in-If-2.ensures c.deref-in-If-3.ensures) c.put_expr-in-If-2.ensures

pub put_expr-returns-in_ok-put_operand-in-When : goal.put_expr-returns-in_ok-put_operand-in-When
put_expr-returns-in_ok-put_operand-in-When t c =
    grown c.put_when.result _ _ _ _ _ _ c.in_ok-put_operand-in-When.ensures
    (when_written c.in-When.a c.in-When.condition c.args.e.now _ c.in-When.is c.deref-in-When.ensures) c.put_when.ensures

pub put_expr-returns-in_ok-put_merge-in-Merge : goal.put_expr-returns-in_ok-put_merge-in-Merge
put_expr-returns-in_ok-put_merge-in-Merge t c =
    grown c.put_branches.result _ _ _ _ _ _ c.in_ok-put_merge-in-Merge.ensures
    (merge_text c.in-Merge.x c.in-Merge.patterns c.in-Merge.branches c.args.e.now _ _ c.in-Merge.is (c.as_slice.ensures ∙ c.deref-in-Merge.ensures) c.deref-in-Merge-2.ensures.value)
    c.put_branches.ensures

pub put_expr-returns-in_ok-put_operands-in-Call : goal.put_expr-returns-in_ok-put_operands-in-Call
put_expr-returns-in_ok-put_operands-in-Call t c =
    ended c.push_str-in-Call.result _ _ _ _ _ _ (joint _ _ _ _ _ c.in_ok-put_called-in-Call.ensures c.in_ok-put_operands-in-Call.ensures)
    (call_text c.in-Call.f c.in-Call.arguments c.args.e.now _ c.in-Call.is c.deref-in-Call.ensures.value) c.push_str-in-Call.ensures.bytes
