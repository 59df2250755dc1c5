use Rattle.lublock.proofs.board.Board.step.Goals as goal

pub returns-in-Some-clause-stands : goal.returns-in-Some-clause-stands
returns-in-Some-clause-stands c = c.cycle.ensures.stands c.args.inputs.now c.args.t
