use Rattle.std.proofs.Common.{◌≡◌, ◌++◌, map, drop}
use Rattle.lusyn_parser.specs.Resolved.{labels_from, labels}
use Rattle.lusyn_parser.specs.Tables.{types_view, names_of, marks_of}
use Rattle.lusyn_parser.proofs.labels.Labels.new.Given as goal

abbrev pub invariant-loop-place : goal.invariant-loop-place
invariant-loop-place l = record {
  names : map (λ n. n.now) l.names.items ++ names_of (labels_from l.place (types_view (drop l.place l.types))) ≡ names_of (labels (types_view l.types));
  marks : l.marks.items ++ marks_of (labels_from l.place (types_view (drop l.place l.types))) ≡ marks_of (labels (types_view l.types));
}
