use Rattle.std.proofs.Common.{◌≡◌, ◌++◌, map, length}
use Rattle.std.specs.Vec.Iter.{into_iter_items, into_iter_len}
use Rattle.lutree.specs.declared.expr.Pattern.TheVariants as patterns
use Rattle.lusyn_grammar.specs.Grammar.{bare_label}
use Rattle.lusyn_parser.proofs.pieces.parted.Given as goal

abbrev pub invariant-loop-branch : goal.invariant-loop-branch
invariant-loop-branch l =
    record {
      patterns : l.patterns.items ++ map (λ b. patterns.Label (bare_label b.label)) (into_iter_items l.branch-iterator) ≡ map (λ b. patterns.Label (bare_label b.label)) l.fn.found.items;
      values : l.values.items ++ map (λ b. b.value) (into_iter_items l.branch-iterator) ≡ map (λ b. b.value) l.fn.found.items;
      long : into_iter_len l.branch-iterator ≡ length (into_iter_items l.branch-iterator);
    }
