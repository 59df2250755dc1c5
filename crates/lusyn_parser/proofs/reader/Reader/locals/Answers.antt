use Rattle.std.proofs.Common.{arith, suc, length, sym, ◌∙◌}
use Rattle.std.proofs.lemmas.Result.{err_from_is_err_and}
use Rattle.lusyn_grammar.specs.Reading.{begins_name, ended_declaration}
use Rattle.lusyn_parser.proofs.PlacingPieces.{declares_along}
use Rattle.lusyn_parser.proofs.PlacingNodes.{locals_left_out, locals_places}
use Rattle.lusyn_parser.proofs.Loops.{goes, refuses, stops, Fails-along, locals-continues}
use Rattle.lusyn_parser.proofs.reader.Reader.locals.Goals as goal

pub loop-found-preserved : goal.loop-found-preserved
loop-found-preserved c = record {
  continues = goes begins_name (ended_declaration (suc (length c.args.self.now.tokens.now))) _ _ _ _ _ _ c.loop-found.invariant.continues
      (sym c.begins_name.ensures.begins ∙ c.loop-found-test.true) (c.begins_name.ensures.within c.loop-found-test.true) c.in_ok-next-2.ensures.within c.in_ok-next-2.ensures.declaration;
  more = omega (arith, c.in_ok-next-2.ensures.within, c.loop-found.invariant.more);
  places = declares_along _ _ _ _ _ _ _ c.loop-found.invariant.places c.in_ok-next-2.ensures.places;
}

pub returns-in_default-clause-places : goal.returns-in_default-clause-places
returns-in_default-clause-places c = λ ended. locals_left_out c.args.self.now.tokens.now c.args.at _ c.new-found.ensures.items ended

pub returns-in_err-next-2-clause-declarations : goal.returns-in_err-next-2-clause-declarations
returns-in_err-next-2-clause-declarations c =
    let p = err_from_is_err_and c.from_residual-in_err-next-2.result c.from_residual-in_err-next-2.ensures.1 in
    let first = rw c.new-found.ensures.items at c.in_ok-next.ensures.declaration in
    rw (p.1, p.2) (Fails-along _ _ _ _ (locals-continues _ _ _ _ _ c.in-Some.ensures.after first)
    (refuses begins_name (ended_declaration (suc (length c.args.self.now.tokens.now))) _ _ _ _ _ c.loop-found.invariant.continues (sym c.begins_name.ensures.begins ∙ c.loop-found-test.true) c.in_err-next-2.ensures.declaration))

pub returns-clause-declarations : goal.returns-clause-declarations
returns-clause-declarations c =
    let first = rw c.new-found.ensures.items at c.in_ok-next.ensures.declaration in
    locals-continues _ _ _ _ _ c.in-Some.ensures.after first
    ∙ stops begins_name (ended_declaration (suc (length c.args.self.now.tokens.now))) _ _ _ _ c.loop-found.invariant.continues (sym c.begins_name.ensures.begins ∙ c.loop-found-test.false)

pub returns-clause-places : goal.returns-clause-places
returns-clause-places c = λ ended. locals_places c.args.self.now.tokens.now c.args.at c.in-Some.after c.loop-found.next (suc (length c.args.self.now.tokens.now)) _ _ c.in-Some.ensures.after (returns-clause-declarations c) c.loop-found.invariant.places ended
