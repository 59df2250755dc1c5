use Rattle.std.proofs.Common.{rules, arith, get_or, []}
use Rattle.std.proofs.lemmas.Option.{slice_get_within, slice_get-get_or}
use Rattle.lublock.proofs.Standing.{still_same, still_more}
use Rattle.lublock_site.proofs.Closed.{settled_next}
use Rattle.lublock_site.proofs.sure.settle_all.Goals as goal

pub loop-k-init : goal.loop-k-init
loop-k-init c = record { stands = λ inputs t len. still_same c.args.flat.now inputs t len c.args.board.now; settled = λ j i l there. absurd (omega (arith, l)); flows = search rules }

pub loop-k-preserved : goal.loop-k-preserved
loop-k-preserved c = record {
  stands = λ inputs t len. still_more c.args.flat.now inputs t len c.args.board.now c.loop-k.board c.settle.new.self (c.loop-k.invariant.stands inputs t len) (c.settle.ensures.stands inputs t len);
  settled = settled_next c.loop-k.board.spans.items c.settle.new.self.spans.items c.args.flows.now c.loop-k.k (get_or c.args.flows.now c.loop-k.k 0) (slice_get-get_or c.args.flows.now c.loop-k.k 0 (search rules)) (c.settle.ensures.stands (record { instants = 0; columns = [] }) 0 0).kept c.loop-k.invariant.settled (c.settle.ensures.settled c.if-settle.false);
  flows = search rules;
}

pub returns-then-settle-clause-stands : goal.returns-then-settle-clause-stands
returns-then-settle-clause-stands c = λ inputs t len. still_more c.args.flat.now inputs t len c.args.board.now c.loop-k.board c.settle.new.self (c.loop-k.invariant.stands inputs t len) (c.settle.ensures.stands inputs t len)

pub returns-then-settle-clause-flows : goal.returns-then-settle-clause-flows
returns-then-settle-clause-flows c = search rules

pub returns-clause-settled : goal.returns-clause-settled
returns-clause-settled c = λ e k i there. c.loop-k.invariant.settled k i (let l = slice_get_within c.args.flows.now k i there in omega (arith, l)) there
