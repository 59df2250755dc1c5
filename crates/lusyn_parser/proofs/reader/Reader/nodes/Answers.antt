use Rattle.std.proofs.Common.{suc, length, sym, ◌∙◌}
use Rattle.std.proofs.lemmas.Result.{err_from_is_err_and}
use Rattle.lusyn_grammar.specs.declared.token.Fixed.TheVariants as f
use Rattle.lusyn_grammar.specs.Reading.{begins, further_node}
use Rattle.lusyn_parser.proofs.Loops.{goes, refuses, stops, Fails-along, nodes-continues}
use Rattle.lusyn_parser.proofs.reader.Reader.nodes.Goals as goal

pub loop-found-preserved : goal.loop-found-preserved
loop-found-preserved c = record {
  continues = goes (begins f.Node) (further_node (suc (length c.args.self.now.tokens.now))) _ _ _ _ _ _ c.loop-found.invariant.continues
      (sym c.begins.ensures.begins ∙ c.loop-found-test.true) (c.begins.ensures.within c.loop-found-test.true) c.in_ok-next-2.ensures.within c.in_ok-next-2.ensures.node;
  places = record { same = c.in_ok-next-2.ensures.places.same ∙ c.loop-found.invariant.places.same; types = c.loop-found.invariant.places.types ∙ c.in_ok-next-2.ensures.places.types };
}

pub returns-in_err-next-2-clause-nodes : goal.returns-in_err-next-2-clause-nodes
returns-in_err-next-2-clause-nodes c =
    let p = err_from_is_err_and c.from_residual-in_err-next-2.result c.from_residual-in_err-next-2.ensures.1 in
    let first = rw c.new-found.ensures.items at c.in_ok-next.ensures.node in
    rw (p.1, p.2) (Fails-along _ _ _ _ (nodes-continues _ _ _ _ first)
    (refuses (begins f.Node) (further_node (suc (length c.args.self.now.tokens.now))) _ _ _ _ _ c.loop-found.invariant.continues (sym c.begins.ensures.begins ∙ c.loop-found-test.true) c.in_err-next-2.ensures.node))

pub returns-clause-nodes : goal.returns-clause-nodes
returns-clause-nodes c =
    let first = rw c.new-found.ensures.items at c.in_ok-next.ensures.node in
    nodes-continues _ _ _ _ first ∙ stops (begins f.Node) (further_node (suc (length c.args.self.now.tokens.now))) _ _ _ _ c.loop-found.invariant.continues (sym c.begins.ensures.begins ∙ c.loop-found-test.false)
