use Rattle.std.proofs.Common.{arith, sym, ap, refl, ◌∙◌, ◌-◌, ◌+◌}
use Rattle.std.proofs.lemmas.Result.{err_from_is_err_and}
use Rattle.lutree.specs.Tree.{view}
use Rattle.lusyn_grammar.specs.Reading.{expr}
use Rattle.lusyn_parser.specs.Gives.{ahead}
use Rattle.lusyn_parser.proofs.Loops.{Gives-along, Fails-along, operands-continue, operands-stop, operands-fail, branches-continue, branches-stop, branches-fail, one-less, views-more, branches-more}
use Rattle.lusyn_parser.proofs.Atoms.{no-depth, operator-is-something, clock-is-something, operator-unfit, operator-taken, operator-fails, clock-taken, clock-fails, binary-of, when-of}
use Rattle.lusyn_parser.proofs.Prefixes.{prefix_refused, prefix_fails, prefix_taken, fails_any}
use Rattle.lusyn_parser.proofs.reader.Reader.+parser.Goals as goal

pub expr-returns-then-depth-eq0-clause-expr : goal.expr-returns-then-depth-eq0-clause-expr
expr-returns-then-depth-eq0-clause-expr t c = no-depth _ _ _ c.if-depth-eq0.true

pub expr-returns-then-is_atom-clause-expr : goal.expr-returns-then-is_atom-clause-expr
expr-returns-then-is_atom-clause-expr t c =
    Gives-along _ _ _ _ _ (ap (λ n. expr n c.args.least (ahead c.args.self.now.tokens.now c.args.at)) (one-less _ c.if-depth-eq0.false) ∙ c.if-is_atom.ensures refl (c.args.depth - 1)) c.atom.ensures.atom

pub climb-returns-then-binding-level-clause-climb : goal.climb-returns-then-binding-level-clause-climb
climb-returns-then-binding-level-clause-climb t c =
    sym c.loop.invariant.same
    ∙ operator-unfit (expr c.args.depth) _ (c.args.turns - (c.loop.counter + 1)) c.args.least c.loop.level (view c.loop.found) c.in-Operator.op _ _
    (omega (arith, c.loop-test.true)) c.in-Operator.ensures.next (c.in-Operator.ensures.past (operator-is-something _)) (omega (arith, c.if-least-binding.false, c.binding_of-binding.ensures.level)) (omega (arith, c.if-binding-level.true, c.binding_of-binding.ensures.left))

pub climb-returns-in_err-right-in-Operator-clause-climb : goal.climb-returns-in_err-right-in-Operator-clause-climb
climb-returns-in_err-right-in-Operator-clause-climb t c =
    let p = err_from_is_err_and c.from_residual-in_err-right-in-Operator.result c.from_residual-in_err-right-in-Operator.ensures.1 in
    rw (p.1, p.2)
    (Fails-along _ _ _ _ (sym c.loop.invariant.same)
    (operator-fails (expr c.args.depth) _ (c.args.turns - (c.loop.counter + 1)) c.args.least c.loop.level (view c.loop.found) c.in-Operator.op _ _
    (omega (arith, c.loop-test.true)) c.in-Operator.ensures.next (c.in-Operator.ensures.past (operator-is-something _)) (omega (arith, c.if-least-binding.false, c.binding_of-binding.ensures.level)) (omega (arith, c.if-binding-level.false, c.binding_of-binding.ensures.left))
    _ _ _ c.binding_of-binding.ensures.right c.in_err-right-in-Operator.ensures.expr))

pub climb-returns-in_err-clock-in-Clock-clause-climb : goal.climb-returns-in_err-clock-in-Clock-clause-climb
climb-returns-in_err-clock-in-Clock-clause-climb t c =
    let p = err_from_is_err_and c.from_residual-in_err-clock-in-Clock.result c.from_residual-in_err-clock-in-Clock.ensures.1 in
    rw (p.1, p.2)
    (Fails-along _ _ _ _ (sym c.loop.invariant.same)
    (clock-fails (expr c.args.depth) _ (c.args.turns - (c.loop.counter + 1)) c.args.least c.loop.level (view c.loop.found) _ _
    (omega (arith, c.loop-test.true)) c.in-Clock.ensures.next (c.in-Clock.ensures.past clock-is-something) (omega (arith, c.if-least-gt9.false)) (omega (arith, c.if-level-lt9.false))
    _ _ c.in_err-clock-in-Clock.ensures.condition))

pub climb-loop-preserved-in-Operator : goal.climb-loop-preserved-in-Operator
climb-loop-preserved-in-Operator t c = record {
  same =
      operator-taken (expr c.args.depth) _ (c.args.turns - (c.loop.counter + 1)) c.args.least c.loop.level (view c.loop.found) c.in-Operator.op _ _
      (omega (arith, c.loop-test.true)) c.in-Operator.ensures.next (c.in-Operator.ensures.past (operator-is-something _)) (omega (arith, c.if-least-binding.false, c.binding_of-binding.ensures.level)) (omega (arith, c.if-binding-level.false, c.binding_of-binding.ensures.left))
      _ _ _ _ _ c.binding_of-binding.ensures.right c.in_ok-right-in-Operator.ensures.expr c.binding_of-binding.ensures.level
      (binary-of c.in-Operator.op _ _ _ _ c.in_ok-left-in-Operator.ensures.ok c.in_ok-found-in-Operator.ensures)
      ∙ c.loop.invariant.same;
  more = omega (arith, c.in_ok-right-in-Operator.ensures.within, c.loop.invariant.more);
}

pub climb-loop-preserved : goal.climb-loop-preserved
climb-loop-preserved t c = record {
  same =
      clock-taken (expr c.args.depth) _ (c.args.turns - (c.loop.counter + 1)) c.args.least c.loop.level (view c.loop.found) _ _
      (omega (arith, c.loop-test.true)) c.in-Clock.ensures.next (c.in-Clock.ensures.past clock-is-something) (omega (arith, c.if-least-gt9.false)) (omega (arith, c.if-level-lt9.false))
      _ _ _ c.in_ok-clock-in-Clock.ensures.condition (when-of _ _ _ _ c.in_ok-sampled-in-Clock.ensures.ok c.when-found.ensures)
      ∙ c.loop.invariant.same;
  more = omega (arith, c.in_ok-clock-in-Clock.ensures.within, c.loop.invariant.more);
}

pub further_operands-returns-in_default-clause-operands : goal.further_operands-returns-in_default-clause-operands
further_operands-returns-in_default-clause-operands t c =
    sym c.loop.invariant.same
    ∙ operands-stop (expr c.args.depth) _ (c.args.turns - (c.loop.counter + 1)) _ _ _ (omega (arith, c.loop-test.true)) c.in_default.ensures.after

pub further_operands-returns-in_err-operand-clause-operands : goal.further_operands-returns-in_err-operand-clause-operands
further_operands-returns-in_err-operand-clause-operands t c =
    let p = err_from_is_err_and c.from_residual.result c.from_residual.ensures.1 in
    rw (p.1, p.2)
    (Fails-along _ _ _ _ (sym c.loop.invariant.same)
    (operands-fail (expr c.args.depth) _ (c.args.turns - (c.loop.counter + 1)) _ _ _ _ _ (omega (arith, c.loop-test.true)) c.in-Some.ensures.after c.in_err-operand.ensures.expr))

pub further_operands-loop-preserved : goal.further_operands-loop-preserved
further_operands-loop-preserved t c = record {
  same =
      sym (operands-continue (expr c.args.depth) _ (c.args.turns - (c.loop.counter + 1)) _ _ _ _ _ _ (omega (arith, c.loop-test.true)) c.in-Some.ensures.after c.in_ok-operand.ensures.expr (views-more c.loop.found.items _ c.in_ok-operand.operand c.in_ok-push.ensures.items))
      ∙ c.loop.invariant.same;
  more = omega (arith, c.in_ok-operand.ensures.within, c.in-Some.ensures.within.0, c.loop.invariant.more);
}

pub further_branches-returns-in_default-clause-branches : goal.further_branches-returns-in_default-clause-branches
further_branches-returns-in_default-clause-branches t c =
    sym c.loop.invariant.same
    ∙ branches-stop (expr c.args.depth) _ (c.args.turns - (c.loop.counter + 1)) _ _ _ (omega (arith, c.loop-test.true)) c.in_default.ensures.after

pub further_branches-returns-in_err-branch-clause-branches : goal.further_branches-returns-in_err-branch-clause-branches
further_branches-returns-in_err-branch-clause-branches t c =
    let p = err_from_is_err_and c.from_residual.result c.from_residual.ensures.1 in
    rw (p.1, p.2)
    (Fails-along _ _ _ _ (sym c.loop.invariant.same)
    (branches-fail (expr c.args.depth) _ (c.args.turns - (c.loop.counter + 1)) _ _ _ _ _ (omega (arith, c.loop-test.true)) c.in-Some.ensures.after c.in_err-branch.ensures.branch))

pub further_branches-loop-preserved : goal.further_branches-loop-preserved
further_branches-loop-preserved t c = record {
  same =
      sym (branches-continue (expr c.args.depth) _ (c.args.turns - (c.loop.counter + 1)) _ _ _ _ _ _ (omega (arith, c.loop-test.true)) c.in-Some.ensures.after c.in_ok-branch.ensures.branch (branches-more c.loop.found.items _ c.in_ok-branch.branch c.in_ok-push.ensures.items))
      ∙ c.loop.invariant.same;
  more = omega (arith, c.in_ok-branch.ensures.within, c.in-Some.ensures.within.0, c.loop.invariant.more);
}

pub head-returns-then-least-gt8-2 : goal.head-returns-then-least-gt8-2
head-returns-then-least-gt8-2 t c =
    let reported = rw c.in-Some-Fixed.field-0-is at c.in-Some-Fixed.ensures in
    record { head = prefix_refused (expr c.args.depth) c.args.depth c.args.least c.args.self.now.tokens.now c.args.at c.in-Some-Fixed.fixed c.in-Some.op (sym c.prefix_of.ensures ∙ c.in-Some.is) reported.0 c.if-least-gt8-2.true; within = tt }

pub head-returns-in_err-found-in-Some-Fixed : goal.head-returns-in_err-found-in-Some-Fixed
head-returns-in_err-found-in-Some-Fixed t c =
    let reported = rw c.in-Some-Fixed.field-0-is at c.in-Some-Fixed.ensures in
    let p = err_from_is_err_and c.from_residual-in_err-found-in-Some-Fixed.result c.from_residual-in_err-found-in-Some-Fixed.ensures.1 in
    record {
      head = rw (p.1, p.2) (prefix_fails (expr c.args.depth) c.args.depth c.args.least c.args.self.now.tokens.now c.args.at c.in-Some-Fixed.fixed c.in-Some.op (sym c.prefix_of.ensures ∙ c.in-Some.is) reported.0 c.if-least-gt8-2.false _ c.in_err-found-in-Some-Fixed.ensures.expr);
      within = rw p.1 tt;
    }

pub head-returns-in_err-unary-in-Some-Fixed : goal.head-returns-in_err-unary-in-Some-Fixed
head-returns-in_err-unary-in-Some-Fixed t c =
    let p = err_from_is_err_and c.from_residual-in_err-unary-in-Some-Fixed.result c.from_residual-in_err-unary-in-Some-Fixed.ensures.1 in
    record { head = rw (p.1, p.2) (fails_any _ _ _ _ c.in_err-unary-in-Some-Fixed.ensures); within = rw p.1 tt }

pub head-returns-in_ok-unary-in-Some-Fixed : goal.head-returns-in_ok-unary-in-Some-Fixed
head-returns-in_ok-unary-in-Some-Fixed t c =
    let reported = rw c.in-Some-Fixed.field-0-is at c.in-Some-Fixed.ensures in
    record {
      head =
          prefix_taken (expr c.args.depth) c.args.depth c.args.least c.args.self.now.tokens.now c.args.at c.in-Some-Fixed.fixed c.in-Some.op (sym c.prefix_of.ensures ∙ c.in-Some.is) reported.0 c.if-least-gt8-2.false _ _ _ c.operand_of-in-Some-Fixed.result c.in_ok-found-in-Some-Fixed.ensures.expr c.in_ok-unary-in-Some-Fixed.ensures
          c.operand_of-in-Some-Fixed.ensures.level (ap view c.operand_of-in-Some-Fixed.ensures.found) c.operand_of-in-Some-Fixed.ensures.next;
      within = omega (arith, c.operand_of-in-Some-Fixed.ensures.next, c.in_ok-found-in-Some-Fixed.ensures.within);
    }
