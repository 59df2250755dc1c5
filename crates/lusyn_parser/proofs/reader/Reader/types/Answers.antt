use Rattle.std.proofs.Common.{refl, suc, length, sym, ◌∙◌, []}
use Rattle.std.proofs.lemmas.Result.{err_from_is_err_and}
use Rattle.lusyn_grammar.specs.declared.token.Fixed.TheVariants as f
use Rattle.lusyn_grammar.specs.Reading.{begins, type_declaration, types}
use Rattle.lusyn_parser.proofs.Loops.{starts, goes, refuses, stops}
use Rattle.lusyn_parser.proofs.reader.Reader.types.Goals as goal

pub loop-found-init : goal.loop-found-init
loop-found-init c = record {
  continues = rw (c.new-found.ensures.items) (starts (begins f.Type) (type_declaration (suc (length c.args.self.now.tokens.now))) [] c.args.self.now.tokens.now c.args.at);
  places = record { same = rw c.new-found.ensures.items refl; nodes = refl };
}

pub loop-found-preserved : goal.loop-found-preserved
loop-found-preserved c = record {
  continues = goes (begins f.Type) (type_declaration (suc (length c.args.self.now.tokens.now))) _ _ _ _ _ _ c.loop-found.invariant.continues
      (sym c.begins.ensures.begins ∙ c.loop-found-test.true) (c.begins.ensures.within c.loop-found-test.true) c.in_ok-next.ensures.within c.in_ok-next.ensures.declaration;
  places = record { same = c.in_ok-next.ensures.places.same ∙ c.loop-found.invariant.places.same; nodes = c.loop-found.invariant.places.nodes ∙ c.in_ok-next.ensures.places.nodes };
}

pub returns-in_err-next-clause-types : goal.returns-in_err-next-clause-types
unfolding types
returns-in_err-next-clause-types c =
    let p = err_from_is_err_and c.from_residual.result c.from_residual.ensures.1 in
    rw (p.1, p.2) (refuses (begins f.Type) (type_declaration (suc (length c.args.self.now.tokens.now))) _ _ _ _ _ c.loop-found.invariant.continues (sym c.begins.ensures.begins ∙ c.loop-found-test.true) c.in_err-next.ensures.declaration)

pub returns-clause-types : goal.returns-clause-types
unfolding types
returns-clause-types c = stops (begins f.Type) (type_declaration (suc (length c.args.self.now.tokens.now))) _ _ _ _ c.loop-found.invariant.continues (sym c.begins.ensures.begins ∙ c.loop-found-test.false)
