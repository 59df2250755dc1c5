use Rattle.std.proofs.Common.{arith}
use Rattle.luflow.specs.Solution.{solution}
use Rattle.luflow.proofs.Solutions.{IsSolution-solution}
use Rattle.lusdist_answers.proofs.Outcomes.{none_before}
use Rattle.lusdist_answers.proofs.evaluating.faulted.Goals as goal

pub wave_before-requires-clause-early : goal.wave_before-requires-clause-early
wave_before-requires-clause-early c =
    let flat = c.args.flat.now in
    let inputs = c.args.inputs.now in
    let first = c.requires.reported (solution flat inputs) (IsSolution-solution flat inputs c.recall_invariant.ensures.ordered) in
    let early = first.early in
    omega (arith, early)

pub wave_before-requires-clause-no_fault : goal.wave_before-requires-clause-no_fault
wave_before-requires-clause-no_fault c = none_before c.args.flat.now c.args.inputs.now c.args.fault.0 c.args.fault.1 c.args.fault.2 c.requires.reported

pub fault_name-requires : goal.fault_name-requires
fault_name-requires c =
    let flat = c.args.flat.now in
    let inputs = c.args.inputs.now in
    (c.requires.reported (solution flat inputs) (IsSolution-solution flat inputs c.recall_invariant.ensures.ordered)).inside

pub returns-clause-stopped : goal.returns-clause-stopped
returns-clause-stopped c =
    let name = c.in_ok-name.ensures in
    record { variable = c.args.fault.0; is = name.0; there = name.1; named = name.2; first = c.requires.reported }
