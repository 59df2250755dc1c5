use Rattle.std.proofs.Common.{refl}
use Rattle.lublock.proofs.Standing.{still_more}
use Rattle.lublock.proofs.board.Board.column.Goals as goal

pub returns-then-count-clause-stands : goal.returns-then-count-clause-stands
returns-then-count-clause-stands c = c.count.ensures.stands c.args.inputs.now c.args.t

pub returns-in_default-clause-stands : goal.returns-in_default-clause-stands
returns-in_default-clause-stands c = c.count.ensures.stands c.args.inputs.now c.args.t

pub returns-then-to-span-clause-stands : goal.returns-then-to-span-clause-stands
returns-then-to-span-clause-stands c = c.count.ensures.stands c.args.inputs.now c.args.t

pub returns-clause-stands : goal.returns-clause-stands
returns-clause-stands c =
    still_more c.args.flat.now c.args.inputs.now c.args.t c.args.len c.args.self.now c.count.new.self c.solve.new.self (c.count.ensures.stands c.args.inputs.now c.args.t) (c.solve.ensures.stands c.args.len c.args.inputs.now (λ flow k there is. refl))
