use Rattle.std.proofs.Common.{◌≡◌, drop}
use Rattle.std.specs.Prelude.{fold}
use Rattle.lustat_rules.specs.Typing.{agreed}
use Rattle.lucore_build.specs.Walks.{kinds_of}
use Rattle.lucore_build.proofs.walk.kind_with.Given as goal

abbrev pub invariant-loop-x : goal.invariant-loop-x
invariant-loop-x l = fold agreed l.kind (kinds_of (drop l.x-index l.rest)) ≡ fold agreed l.initial.kind (kinds_of l.rest)
