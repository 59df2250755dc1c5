use Rattle.std.proofs.Common.{arith, refl, suc, length, sym, ◌∙◌, []}
use Rattle.std.proofs.lemmas.Result.{err_from_is_err_and}
use Rattle.lusyn_grammar.specs.Reading.{begins_equation, ended_equation, equations}
use Rattle.lusyn_parser.proofs.PlacingPieces.{defines_along}
use Rattle.lusyn_parser.proofs.Loops.{starts, goes, refuses, stops}
use Rattle.lusyn_parser.proofs.reader.Reader.equations.Goals as goal

pub loop-found-init : goal.loop-found-init
loop-found-init c = record {
  continues = rw (c.new-found.ensures.items) (starts begins_equation (ended_equation (suc (length c.args.self.now.tokens.now))) [] c.args.self.now.tokens.now c.args.at);
  more = omega arith;
  places = record { same = rw c.new-found.ensures.items refl };
}

pub loop-found-preserved : goal.loop-found-preserved
loop-found-preserved c = record {
  continues = goes begins_equation (ended_equation (suc (length c.args.self.now.tokens.now))) _ _ _ _ _ _ c.loop-found.invariant.continues
      (sym c.begins_equation.ensures.begins ∙ c.loop-found-test.true) (c.begins_equation.ensures.within c.loop-found-test.true) c.in_ok-next.ensures.within c.in_ok-next.ensures.equation;
  more = omega (arith, c.in_ok-next.ensures.within, c.loop-found.invariant.more);
  places = defines_along _ _ _ _ _ _ _ c.loop-found.invariant.places c.in_ok-next.ensures.places;
}

pub returns-in_err-next-clause-equations : goal.returns-in_err-next-clause-equations
unfolding equations
returns-in_err-next-clause-equations c =
    let p = err_from_is_err_and c.from_residual.result c.from_residual.ensures.1 in
    rw (p.1, p.2) (refuses begins_equation (ended_equation (suc (length c.args.self.now.tokens.now))) _ _ _ _ _ c.loop-found.invariant.continues (sym c.begins_equation.ensures.begins ∙ c.loop-found-test.true) c.in_err-next.ensures.equation)

pub returns-clause-equations : goal.returns-clause-equations
unfolding equations
returns-clause-equations c = stops begins_equation (ended_equation (suc (length c.args.self.now.tokens.now))) _ _ _ _ c.loop-found.invariant.continues (sym c.begins_equation.ensures.begins ∙ c.loop-found-test.false)
