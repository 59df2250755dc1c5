use Rattle.std.proofs.Common.{◌≡◌, map, take}
use Rattle.luflow.specs.Variables.{variable_name}
use Rattle.lusite_program.proofs.projecting.names_of.Given as goal

abbrev pub invariant-loop-place : goal.invariant-loop-place
invariant-loop-place l = l.names.items ≡ map (variable_name l.flat) (take l.place-index l.places)
