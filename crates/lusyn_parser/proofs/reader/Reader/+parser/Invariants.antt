-- A call nests less deeply, or has fewer turns left, or stands lower in the order of the calls. What is still to be taken after
-- what was found is all that was to be taken.
use Rattle.std.proofs.Common.{◌≡◌, ◌≤◌, ◌+◌, ◌-◌, ◌*◌, ◌^◌}
use Rattle.lutree.specs.Tree.{view, views}
use Rattle.lusyn_grammar.specs.declared.token.Fixed.TheVariants as f
use Rattle.lusyn_grammar.specs.Reading.{expr, climb, many, begins, further_operand, further_branch}
use Rattle.lusyn_parser.specs.Gives.{ahead, branches_view}
use Rattle.lusyn_parser.proofs.reader.Reader.+parser.Given as goal

abbrev pub decreases-expr : goal.decreases-expr
decreases-expr l = 2 ^ 66 * l.depth

abbrev pub decreases-behind : goal.decreases-behind
decreases-behind l = 2 ^ 66 * l.depth + 1

abbrev pub decreases-choice : goal.decreases-choice
decreases-choice l = 2 ^ 66 * l.depth + 3

abbrev pub decreases-part : goal.decreases-part
decreases-part l = 2 ^ 66 * l.depth + 2

abbrev pub decreases-arrowed : goal.decreases-arrowed
decreases-arrowed l = 2 ^ 66 * l.depth + 2

abbrev pub decreases-branch : goal.decreases-branch
decreases-branch l = 2 ^ 66 * l.depth + 3

abbrev pub decreases-labelled : goal.decreases-labelled
decreases-labelled l = 2 ^ 66 * l.depth + 3

abbrev pub decreases-by_truths : goal.decreases-by_truths
decreases-by_truths l = 2 ^ 66 * l.depth + 4

abbrev pub decreases-further_branches : goal.decreases-further_branches
decreases-further_branches l = 2 ^ 66 * l.depth + 4

abbrev pub decreases-by_labels : goal.decreases-by_labels
decreases-by_labels l = 2 ^ 66 * l.depth + 5

abbrev pub decreases-merge : goal.decreases-merge
decreases-merge l = 2 ^ 66 * l.depth + 6

abbrev pub decreases-climb : goal.decreases-climb
decreases-climb l = 2 ^ 66 * l.depth + 1

abbrev pub decreases-further_operands : goal.decreases-further_operands
decreases-further_operands l = 2 ^ 66 * l.depth + 1

abbrev pub decreases-operands : goal.decreases-operands
decreases-operands l = 2 ^ 66 * l.depth + 2

abbrev pub decreases-named : goal.decreases-named
decreases-named l = 2 ^ 66 * l.depth + 3

abbrev pub decreases-head : goal.decreases-head
decreases-head l = 2 ^ 66 * l.depth + 7

abbrev pub decreases-compound : goal.decreases-compound
decreases-compound l = 2 ^ 66 * l.depth + 8

abbrev pub invariant-climb-loop : goal.invariant-climb-loop
invariant-climb-loop l =
    record {
      same : climb (expr l.depth) (l.turns - l.counter) l.least l.level (view l.found) (ahead l.self.tokens.now l.next)
          ≡ climb (expr l.depth) l.turns l.least l.fn.operand.level (view l.fn.operand.found) (ahead l.self.tokens.now l.fn.operand.next);
      more : l.fn.operand.next ≤ l.next;
    }

abbrev pub invariant-further_operands-loop : goal.invariant-further_operands-loop
invariant-further_operands-loop l =
    record {
      same : many (begins f.Comma) (further_operand (expr l.depth)) (l.turns - l.counter) (views l.found.items) (ahead l.self.tokens.now l.at)
          ≡ many (begins f.Comma) (further_operand (expr l.depth)) l.turns (views l.fn.found.items) (ahead l.self.tokens.now l.fn.at);
      more : l.fn.at ≤ l.at;
    }

abbrev pub invariant-further_branches-loop : goal.invariant-further_branches-loop
invariant-further_branches-loop l =
    record {
      same : many (begins f.Open) (further_branch (expr l.depth)) (l.turns - l.counter) (branches_view l.found.items) (ahead l.self.tokens.now l.at)
          ≡ many (begins f.Open) (further_branch (expr l.depth)) l.turns (branches_view l.fn.found.items) (ahead l.self.tokens.now l.fn.at);
      more : l.fn.at ≤ l.at;
    }
