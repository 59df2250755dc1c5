use Rattle.std.proofs.Common.{◌≡◌, Some, map, sym, ap, ◌∙◌}
use Rattle.std.specs.Prelude.{slice_get, option_map}
use Rattle.std.proofs.lemmas.Option.{slice_get-get_or, slice_get-map}
use Rattle.lusyn_grammar.specs.declared.token.Lexeme.{Lexeme}
use Rattle.lusyn_grammar.specs.Tokens.{tok}
use Rattle.luinside.proofs.place.is_at.Goals as goal

pub returns-in-Some : goal.returns-in-Some
returns-in-Some c =
    let ls = c.args.lexemes.now in
    let l = c.in-Some.lexeme.now in
    let found = c.in-Some.ensures.lookup in
    let here : slice_get ls c.args.i ≡ Some l = slice_get-get_or ls c.args.i l found.3.0 ∙ ap Some (sym found.1) in
    λ t. slice_get-map (λ (l : Lexeme). tok l.token) ls c.args.i ∙ ap (option_map (λ (l : Lexeme). tok l.token)) here ∙ ap Some (c.is_same.ensures t)
