use Rattle.std.proofs.Common.{arith}
use Rattle.std.proofs.lemmas.Result.{err_from_is_err_and}
use Rattle.lusyn_grammar.specs.declared.token.Fixed.TheVariants as f
use Rattle.lusyn_parser.specs.Gives.{name_behind}
use Rattle.lusyn_parser.proofs.PlacingPieces.{lists_along, lists_comma}
use Rattle.lusyn_parser.proofs.Loops.{goes_after, refuses_after, stops_after}
use Rattle.lusyn_parser.proofs.reader.Reader.further_names.Goals as goal

pub loop-after-preserved : goal.loop-after-preserved
loop-after-preserved c = record {
  continues = goes_after f.Comma name_behind _ _ _ _ _ _ _ c.loop-after.invariant.continues c.in-Some.ensures.after c.in-Some.ensures.within c.in_ok-next.ensures.within c.in_ok-next.ensures.name;
  more = omega (arith, c.in-Some.ensures.within.0, c.in_ok-next.ensures.within, c.loop-after.invariant.more);
  places = lists_along _ _ _ _ _ _ _ c.loop-after.invariant.places (lists_along _ _ _ _ _ _ _ (lists_comma c.args.self.now.tokens.now c.loop-after.next c.in-Some.after _ c.in-Some.ensures.after) c.in_ok-next.ensures.places);
}

pub returns-in_err-next-clause-names : goal.returns-in_err-next-clause-names
returns-in_err-next-clause-names c =
    let p = err_from_is_err_and c.from_residual.result c.from_residual.ensures.1 in
    rw (p.1, p.2) (refuses_after f.Comma name_behind _ _ _ _ _ _ c.loop-after.invariant.continues c.in-Some.ensures.after c.in_err-next.ensures.name)

pub returns-clause-names : goal.returns-clause-names
returns-clause-names c = stops_after f.Comma name_behind _ _ _ _ _ c.loop-after.invariant.continues c.in_default.ensures.after
