use Rattle.lusyn_grammar.specs.Reading.{type_declaration}
use Rattle.std.proofs.Common.{arith}
use Rattle.std.proofs.lemmas.Grind.{common_steps}
use Rattle.std.proofs.Common.{suc, length}
use Rattle.lusyn_parser.proofs.PlacingTypes.{type_grows}
use Rattle.lusyn_parser.proofs.reader.Reader.type_declaration.Goals as goal

pub returns-clause-places : goal.returns-clause-places
returns-clause-places c =
    type_grows c.args.self.now.tokens.now c.args.at c.in_ok-next.next c.in_ok-name.next c.in_ok-next-2.next c.in_ok-next-3.next c.in_ok-next-4.next c.in_ok-names.next c.in_ok-next-5.next
    c.in_ok-next-6.next (suc (length c.args.self.now.tokens.now)) c.args.self.now.end c.in_ok-name.name _ (record { name = c.in_ok-name.name; byte = c.byte-byte.result; names = c.new-names.result })
    c.in_ok-next.ensures.after c.byte-byte.ensures c.in_ok-name.ensures.name c.in_ok-next-2.ensures.after c.in_ok-next-3.ensures.after c.in_ok-next-4.ensures.after
    c.in_ok-names.ensures.names (rw c.new-names.ensures c.in_ok-names.ensures.places) c.in_ok-next-5.ensures.after c.in_ok-next-6.ensures.after _ _ c.in_ok-push.ensures.items

pub returns-clause-declaration : goal.returns-clause-declaration
unfolding type_declaration
returns-clause-declaration c = grind (arith, common_steps)
