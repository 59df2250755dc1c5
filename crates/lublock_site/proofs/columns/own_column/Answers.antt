use Rattle.lublock.proofs.Standing.{still_more}
use Rattle.lublock_site.proofs.columns.own_column.Goals as goal

pub returns-then-count-clause-stands : goal.returns-then-count-clause-stands
returns-then-count-clause-stands c = λ table given. c.count.ensures.stands table c.args.t

pub returns-in_default-clause-stands : goal.returns-in_default-clause-stands
returns-in_default-clause-stands c = λ table given. c.count.ensures.stands table c.args.t

pub returns-then-not-is_no_input-clause-stands : goal.returns-then-not-is_no_input-clause-stands
returns-then-not-is_no_input-clause-stands c = λ table given. c.count.ensures.stands table c.args.t

pub returns-in-Some-column_of-clause-stands : goal.returns-in-Some-column_of-clause-stands
returns-in-Some-column_of-clause-stands c = λ table given.
    still_more c.args.flat.now table c.args.t c.args.len c.args.board.now c.count.new.self c.give.new.self (c.count.ensures.stands table c.args.t) (c.give.ensures.stands c.args.len table (c.in-Some-column_of.ensures table given))

pub returns-else-not-is_no_input-clause-stands : goal.returns-else-not-is_no_input-clause-stands
returns-else-not-is_no_input-clause-stands c = λ table given.
    still_more c.args.flat.now table c.args.t c.args.len c.args.board.now c.count.new.self c.solve.new.self (c.count.ensures.stands table c.args.t)
    (c.solve.ensures.stands c.args.len table (λ flow k there is. absurd ((c.is_no_input.ensures c.if-not-is_no_input.false).other flow k there is)))
