use Rattle.std.proofs.Common.{◌≡◌, drop}
use Rattle.lusyn_parser.specs.Resolved.{kind_from, kind_of}
use Rattle.lusyn_parser.specs.Tables.{types_view}
use Rattle.lusyn_parser.proofs.labels.Labels.kind_of.Given as goal

abbrev pub invariant-loop-place : goal.invariant-loop-place
invariant-loop-place l = kind_from l.place (types_view (drop l.place l.self.types.now)) l.name ≡ kind_of (types_view l.self.types.now) l.name
