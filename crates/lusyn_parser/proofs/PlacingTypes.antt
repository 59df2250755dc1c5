-- The places of types and of the names of their enumerations are those that the tokens give.
use Rattle.std.proofs.Common.{◌≡◌, ℕ, List, [], ◌∷◌, ◌++◌, map, Ok, refl, ap, sym, ◌∙◌, append_assoc}
use Rattle.std.proofs.lemmas.List.{map-append, append-nil}
use Rattle.lutree.specs.declared.program.TypeDeclaration.{TypeDeclaration}
use Rattle.lutree.specs.Places.{TypePlaces, name_places, type_places}
use Rattle.lusyn_grammar.specs.declared.token.Fixed.TheVariants as f
use Rattle.lusyn_grammar.specs.declared.token.Lexeme.{Lexeme}
use Rattle.lusyn_grammar.specs.Tokens.{identifier, fixed}
use Rattle.lusyn_grammar.specs.Grammar as w
use Rattle.lusyn_grammar.specs.Reading.{after, name, names}
use Rattle.lusyn_grammar.specs.Places.{Placed, first, behind, enumerated, type_places_in, nodes_in, types_in}
use Rattle.lusyn_grammar.proofs.SoundDeclarations.{names_sound}
use Rattle.lusyn_grammar.proofs.Plain.{names_plain}
use Rattle.lusyn_parser.specs.Gives.{ahead}
use Rattle.lusyn_parser.specs.Refused.{place}
use Rattle.lusyn_parser.specs.Places.{from, Lists, TypesGrow}
use Rattle.lusyn_parser.proofs.Placing.{Passes, passes_along, passes_over, nodes_plain}
use Rattle.lusyn_parser.proofs.PlacingPieces.{at_sign, at_name, name_first, enumerated_tells}
use Rattle.lusyn_parser.proofs.PlacingNodes.{passes_token}

one_type : (p : ℕ) (xs : List Placed) → types_in ((p, fixed f.Type) ∷ xs) ≡ type_places_in xs ∷ types_in xs
unfolding types_in
one_type p xs = refl

behind_brace : (p q r s : ℕ) (x : List ℕ) (xs : List Placed) → behind f.OpenBrace ((p, identifier x) ∷ (q, fixed f.Equal) ∷ (r, fixed f.Enum) ∷ (s, fixed f.OpenBrace) ∷ xs) ≡ xs
unfolding behind
behind_brace p q r s x xs = refl

ends_at_brace : (p : ℕ) (xs : List Placed) → enumerated ((p, fixed f.CloseBrace) ∷ xs) ≡ []
unfolding enumerated
ends_at_brace p xs = refl

abbrev places_of : ℕ → List ℕ → TypePlaces
places_of p ps = record { name = p; names = ps }

module _ (ls : List Lexeme) (at a b c d e g h next n end : ℕ) (x : List ℕ) (xs : List (List ℕ)) (found : TypeDeclaration)
    (begins_type : after f.Type (ahead ls at) ≡ Ok (ahead ls a)) (there : found.byte ≡ place end (from ls a)) (named : name (ahead ls a) ≡ Ok (x, ahead ls b))
    (equal : after f.Equal (ahead ls b) ≡ Ok (ahead ls c)) (enum : after f.Enum (ahead ls c) ≡ Ok (ahead ls d)) (opened : after f.OpenBrace (ahead ls d) ≡ Ok (ahead ls e))
    (read_names : names n (ahead ls e) ≡ Ok (xs, ahead ls g)) (names_at : Lists ls e g [] (name_places found.names)) (closed : after f.CloseBrace (ahead ls g) ≡ Ok (ahead ls h))
    (ended : after f.Semicolon (ahead ls h) ≡ Ok (ahead ls next)) where
  passes_names : Passes (from ls e) (from ls g)
  passes_names = let r = names_sound n (ahead ls e) (xs, ahead ls g) read_names in passes_over (w.separated f.Comma w.name r.written) ls e g (names_plain r.written) r.spelled

  passes_type : Passes (from ls a) (from ls next)
  passes_type =
      passes_along (from ls a) (from ls b) (from ls next) (passes_token (identifier x) ls a b refl (at_name ls a b x named))
      (passes_along (from ls b) (from ls c) (from ls next) (passes_token (fixed f.Equal) ls b c refl (at_sign f.Equal ls b c equal))
      (passes_along (from ls c) (from ls d) (from ls next) (passes_token (fixed f.Enum) ls c d refl (at_sign f.Enum ls c d enum))
      (passes_along (from ls d) (from ls e) (from ls next) (passes_token (fixed f.OpenBrace) ls d e refl (at_sign f.OpenBrace ls d e opened))
      (passes_along (from ls e) (from ls g) (from ls next) passes_names
      (passes_along (from ls g) (from ls h) (from ls next) (passes_token (fixed f.CloseBrace) ls g h refl (at_sign f.CloseBrace ls g h closed))
      (passes_token (fixed f.Semicolon) ls h next refl (at_sign f.Semicolon ls h next ended)))))))

  names_begin : behind f.OpenBrace (from ls a) ≡ from ls e
  names_begin =
      ap (behind f.OpenBrace) (at_name ls a b x named)
      ∙ ap (λ (us : List Placed). behind f.OpenBrace ((first (from ls a), identifier x) ∷ us)) (at_sign f.Equal ls b c equal)
      ∙ ap (λ (us : List Placed). behind f.OpenBrace ((first (from ls a), identifier x) ∷ (first (from ls b), fixed f.Equal) ∷ us)) (at_sign f.Enum ls c d enum)
      ∙ ap (λ (us : List Placed). behind f.OpenBrace ((first (from ls a), identifier x) ∷ (first (from ls b), fixed f.Equal) ∷ (first (from ls c), fixed f.Enum) ∷ us)) (at_sign f.OpenBrace ls d e opened)
      ∙ behind_brace (first (from ls a)) (first (from ls b)) (first (from ls c)) (first (from ls d)) x (from ls e)

  names_end : enumerated (from ls g) ≡ []
  names_end = ap enumerated (at_sign f.CloseBrace ls g h closed) ∙ ends_at_brace (first (from ls g)) (from ls h)

  names_there : name_places found.names ≡ enumerated (behind f.OpenBrace (from ls a))
  names_there =
      sym (append-nil (name_places found.names))
      ∙ ap (λ (us : List ℕ). name_places found.names ++ us) (sym names_end)
      ∙ names_at.same enumerated enumerated_tells
      ∙ ap enumerated (sym names_begin)

  type_there : type_places found ≡ type_places_in (from ls a)
  type_there =
      ap (λ (p : ℕ). places_of p (name_places found.names)) (there ∙ name_first ls a b end x named) ∙ ap (places_of (first (from ls a))) names_there

  types_here : types_in (from ls at) ≡ type_places found ∷ types_in (from ls next)
  types_here =
      ap types_in (at_sign f.Type ls at a begins_type)
      ∙ one_type (first (from ls at)) (from ls a)
      ∙ ap (λ (p : TypePlaces). p ∷ types_in (from ls a)) (sym type_there)
      ∙ ap (λ (us : List TypePlaces). type_places found ∷ us) passes_type.types

  pub type_grows : (old new : List TypeDeclaration) → new ≡ old ++ found ∷ [] → TypesGrow ls at next (map type_places old) (map type_places new)
  type_grows old new more = record {
    same =
        ap (λ (us : List TypePlaces). us ++ types_in (from ls next)) (ap (map type_places) more ∙ map-append type_places old (found ∷ []))
        ∙ append_assoc (map type_places old) (type_places found ∷ []) (types_in (from ls next))
        ∙ ap (λ (us : List TypePlaces). map type_places old ++ us) (sym types_here);
    nodes = ap nodes_in (at_sign f.Type ls at a begins_type) ∙ nodes_plain (first (from ls at), fixed f.Type) (from ls a) refl ∙ passes_type.nodes;
  }
