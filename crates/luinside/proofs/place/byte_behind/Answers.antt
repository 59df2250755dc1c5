use Rattle.std.proofs.Common.{◌≡◌, Some, map, length, sym, ap, ◌∙◌}
use Rattle.std.specs.Prelude.{slice_get}
use Rattle.std.proofs.lemmas.Option.{slice_get-get_or}
use Rattle.lusyn_grammar.specs.Tokens.{tok, fixed}
use Rattle.luinside.proofs.Signing.{behind_is}
use Rattle.luinside.proofs.place.byte_behind.Goals as goal

pub returns-in-Some : goal.returns-in-Some
returns-in-Some c =
    let ls = c.args.lexemes.now in
    let n = length c.args.signs.now in
    let l = c.in-Some.lexeme.now in
    let found = c.in-Some.ensures.lookup in
    let here : slice_get ls n ≡ Some l = slice_get-get_or ls n l found.3.0 ∙ ap Some (sym found.1) in
    behind_is ls (map tok c.args.signs.now) n l (fixed c.args.sign) here (c.begin_with.ensures c.if-not-begin_with.false) (c.is_same.ensures c.if-is_same.true)
