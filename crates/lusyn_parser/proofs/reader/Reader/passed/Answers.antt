use Rattle.std.proofs.Common.{sym, ◌∙◌}
use denote.Enum.Bare.{same_true, same_false}
use Rattle.lusyn_grammar.specs.contracts.token.Fixed.{the_type}
use Rattle.lusyn_parser.proofs.Signs.{stands_here, other_stands}
use Rattle.lusyn_parser.proofs.reader.Reader.passed.Goals as goal

pub returns-in-Some-Fixed-clause-after : goal.returns-in-Some-Fixed-clause-after
returns-in-Some-Fixed-clause-after c =
    let reported = rw c.in-Some-Fixed.is at c.token.ensures in
    let here = rw c.in-Some-Fixed.field-0-is at reported in
    stands_here c.args.self.now.tokens.now c.args.at c.args.wanted c.in-Some-Fixed.found here.0 (same_true the_type tt _ _ (sym c.eq.ensures ∙ c.if-eq.true))

pub returns-in_default-clause-after : goal.returns-in_default-clause-after
returns-in_default-clause-after c =
    let reported = rw c.in-Some-Fixed.is at c.token.ensures in
    let here = rw c.in-Some-Fixed.field-0-is at reported in
    other_stands c.args.self.now.tokens.now c.args.at c.args.wanted c.in-Some-Fixed.found here.0 (same_false the_type _ _ (sym c.eq.ensures ∙ c.if-eq.false))
