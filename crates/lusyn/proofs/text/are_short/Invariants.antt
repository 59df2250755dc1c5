use Rattle.std.proofs.Common.{◌≤◌, length, drop}
use Rattle.lubase.specs.Limits.{most_names}
use Rattle.lusyn_grammar.specs.Grammar.{Each}
use Rattle.lusyn_parser.specs.Tables.{types_view}
use Rattle.lusyn.specs.Texts.{HasLongType}
use Rattle.lusyn.proofs.text.are_short.Given as goal

abbrev pub invariant-loop-declared : goal.invariant-loop-declared
invariant-loop-declared l = record {
  short : Each (λ x. length x.names ≤ most_names) (types_view (drop l.declared-index l.types)) → Each (λ x. length x.names ≤ most_names) (types_view l.types);
  long : HasLongType (types_view (drop l.declared-index l.types)) → HasLongType (types_view l.types);
}
