use Rattle.std.proofs.Common.{◌≡◌, ◌++◌, map, drop}
use Rattle.lusyn_parser.specs.Resolved.{numbered}
use Rattle.lusyn_parser.specs.Tables.{names_of, marks_of}
use Rattle.lusyn_parser.proofs.labels.put_names.Given as goal

abbrev pub invariant-loop-number : goal.invariant-loop-number
invariant-loop-number l = record {
  names : map (λ n. n.now) l.names.items ++ names_of (numbered l.kind l.number (map (λ x. x.name) (drop l.number l.declared))) ≡ map (λ n. n.now) l.initial.names.items ++ names_of (numbered l.kind 0 (map (λ x. x.name) l.declared));
  marks : l.marks.items ++ marks_of (numbered l.kind l.number (map (λ x. x.name) (drop l.number l.declared))) ≡ l.initial.marks.items ++ marks_of (numbered l.kind 0 (map (λ x. x.name) l.declared));
}
