use Rattle.std.proofs.Common.{◌<◌, ◌+◌, map, length, ap, sym, ◌∙◌, arith}
use Rattle.std.specs.Prelude.{option_map}
use Rattle.std.proofs.lemmas.Option.{slice_get-get_or, slice_get-map}
use Rattle.lusyn_grammar.specs.Tokens.{tok, toks}
use Rattle.luinside.proofs.Signing.{same_more, taken_signs}
use Rattle.luinside.proofs.place.begin_with.Goals as goal

pub loop-i-preserved : goal.loop-i-preserved
loop-i-preserved c =
    let ls = c.args.lexemes.now in
    let ss = c.args.signs.now in
    let i = c.loop-i.i in
    let lt : i < length ss = omega arith in
    same_more (toks ls) (map tok ss) i _ (c.is_at.ensures c.if-not-is_at.false) (slice_get-map tok ss i ∙ ap (option_map tok) (slice_get-get_or ss i _ lt)) (c.loop-i.invariant ∙ taken_signs ss i) ∙ sym (taken_signs ss (i + 1))
