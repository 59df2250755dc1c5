-- A token that has to stand in a place, or another one there.
use Rattle.std.proofs.Common.{◌≡◌, ◌+◌, ℕ, Bool, true, false, List, ◌∷◌, Result, Ok, Err, refl, ap, sym, ◌∙◌, cond}
use Rattle.std.proofs.lemmas.Slice.Eq.{bytes_eq-Decides}
use Rattle.lusyn_grammar.specs.declared.token.Fixed.{Fixed}
use Rattle.lusyn_grammar.specs.declared.token.Lexeme.{Lexeme}
use Rattle.lusyn_grammar.specs.Tokens.{Tok, fixed, text_of}
use Rattle.lusyn_grammar.specs.Reading.{same, after}
use Rattle.lusyn_grammar.proofs.Pieces.{after-is}
use Rattle.lusyn_parser.specs.Gives.{ahead}

abbrev by_test : Fixed → List Tok → Bool → Result (List Tok) (List Tok)
by_test h rest b = cond b (Ok rest) (Err (fixed h ∷ rest))

after_same : (g : Fixed) (rest : List Tok) → after g (fixed g ∷ rest) ≡ Ok rest
after_same g rest = ap (by_test g rest) ((bytes_eq-Decides (text_of g) (text_of g)).1 refl)

alike : (g h : Fixed) (rest : List Tok) → fixed g ∷ rest ≡ fixed h ∷ rest → h ≡ g
alike g h rest e = cc

after_by : (g h : Fixed) (rest : List Tok) → (h ≡ g → ⊥) → (b : Bool) → same g h ≡ b → after g (fixed h ∷ rest) ≡ Err (fixed h ∷ rest)
after_by g h rest other true e = absurd (other (alike g h rest (after-is g (fixed h ∷ rest) rest (ap (by_test h rest) e))))
after_by g h rest other false e = ap (by_test h rest) e

module _ (ls : List Lexeme) (at : ℕ) (g h : Fixed) (here : ahead ls at ≡ fixed h ∷ ahead ls (at + 1)) where
  pub stands_here : h ≡ g → after g (ahead ls at) ≡ Ok (ahead ls (at + 1))
  stands_here is = ap (after g) here ∙ ap (λ (i : Fixed). after g (fixed i ∷ ahead ls (at + 1))) is ∙ after_same g (ahead ls (at + 1))

  abbrev refused : List Tok → Result (List Tok) (List Tok)
  refused ts = Err ts

  pub other_stands : (h ≡ g → ⊥) → after g (ahead ls at) ≡ Err (ahead ls at)
  other_stands other = ap (after g) here ∙ after_by g h (ahead ls (at + 1)) other (same g h) refl ∙ ap refused (sym here)
