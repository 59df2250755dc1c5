use Rattle.std.proofs.Common.{arith, refl, suc, length, ◌∙◌}
use Rattle.std.proofs.lemmas.Result.{err_from_is_err_and}
use Rattle.lusyn_grammar.specs.declared.token.Fixed.TheVariants as f
use Rattle.lusyn_grammar.specs.Reading.{declaration}
use Rattle.lusyn_parser.proofs.PlacingPieces.{declares_along, declares_sign}
use Rattle.lusyn_parser.proofs.Loops.{goes_after, refuses_after, stops_after, Fails-along, declarations-continues}
use Rattle.lusyn_parser.proofs.reader.Reader.declarations.Goals as goal

pub loop-after-preserved : goal.loop-after-preserved
loop-after-preserved c = record {
  continues = goes_after f.Semicolon (declaration (suc (length c.args.self.now.tokens.now))) _ _ _ _ _ _ _ c.loop-after.invariant.continues c.in-Some.ensures.after c.in-Some.ensures.within c.in_ok-next-2.ensures.within c.in_ok-next-2.ensures.declaration;
  more = omega (arith, c.in-Some.ensures.within.0, c.in_ok-next-2.ensures.within, c.loop-after.invariant.more);
  places = declares_along _ _ _ _ _ _ _ c.loop-after.invariant.places (declares_along _ _ _ _ _ _ _ (declares_sign f.Semicolon c.args.self.now.tokens.now c.loop-after.next c.in-Some.after _ refl refl c.in-Some.ensures.after) c.in_ok-next-2.ensures.places);
}

pub returns-in_err-next-2-clause-declarations : goal.returns-in_err-next-2-clause-declarations
returns-in_err-next-2-clause-declarations c =
    let p = err_from_is_err_and c.from_residual-in_err-next-2.result c.from_residual-in_err-next-2.ensures.1 in
    let first = rw c.new-found.ensures.items at c.in_ok-next.ensures.declaration in
    rw (p.1, p.2) (Fails-along _ _ _ _ (declarations-continues _ _ _ _ first)
    (refuses_after f.Semicolon (declaration (suc (length c.args.self.now.tokens.now))) _ _ _ _ _ _ c.loop-after.invariant.continues c.in-Some.ensures.after c.in_err-next-2.ensures.declaration))

pub returns-clause-declarations : goal.returns-clause-declarations
returns-clause-declarations c =
    let first = rw c.new-found.ensures.items at c.in_ok-next.ensures.declaration in
    declarations-continues _ _ _ _ first ∙ stops_after f.Semicolon (declaration (suc (length c.args.self.now.tokens.now))) _ _ _ _ _ c.loop-after.invariant.continues c.in_default.ensures.after
