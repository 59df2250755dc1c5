-- All of the tokens are read, or they are refused at a place.
use Rattle.std.proofs.Common.{◌≡◌, ℕ, append_assoc, List, [], ◌∷◌, ◌++◌, take, drop, Result, Ok, Err, refl, ap, sym, ◌∙◌, subst}
use Rattle.std.proofs.lemmas.List.{take-append-drop, map-append, append-nil, append_cancel_right, drop-map}
use Rattle.lutree.specs.Tree.{ProgramTree}
use Rattle.lusyn_grammar.specs.declared.token.Lexeme.{Lexeme}
use Rattle.lusyn_grammar.specs.Tokens.{Tok, tok, toks, located}
use Rattle.lusyn_grammar.specs.Lexing.{Placed}
use Rattle.lusyn_grammar.specs.Grammar.{Spells}
use Rattle.lusyn_grammar.specs.Reading.{all_of}
use Rattle.lusyn_grammar.proofs.SoundPrograms.{all_of-spells}
use Rattle.lusyn_grammar.proofs.CompletePrograms.{all_of-again}
use Rattle.lusyn_grammar.proofs.LocalPrograms.{no_text}
use Rattle.lusyn_grammar.proofs.ViablePrograms.{refused_goes_on}
use Rattle.lusyn_parser.specs.Gives.{ahead}
use Rattle.lusyn_parser.specs.Refused.{NoneGoesOn, IsWrongFrom, place, unplaced}

-- what is refused is spelled by nothing
pub none_spelled : (ts us : List Tok) (found : ProgramTree) → all_of ts ≡ Err us → Spells ts found → ⊥
none_spelled ts us found e s = let again = all_of-again ts found s in absurd cc

goes_on : (before rest : List Tok) → all_of (before ++ rest) ≡ Err rest → NoneGoesOn before rest
goes_on before [] e =
    λ found s. none_spelled before [] found (ap all_of (sym (append-nil before)) ∙ e) s
goes_on before (x ∷ rest) e = λ others found s. no_text before x rest others found e s

pub spelled_by : (ts : List Tok) (found : ProgramTree) → all_of ts ≡ Ok found → Spells ts found
spelled_by ts found e = all_of-spells ts found e

pub same_tree : (ts : List Tok) (one other : ProgramTree) → all_of ts ≡ Ok one → Spells ts other → other ≡ one
same_tree ts one other e s = let again = all_of-again ts other s in cc

-- tokens with and without their places

pub toks-located : (ls : List Lexeme) → unplaced (located ls) ≡ toks ls
toks-located [] = refl
toks-located (l ∷ ls) = ap (λ (ts : List Tok). tok l.token ∷ ts) (toks-located ls)

located-drop : (ls : List Lexeme) (at : ℕ) → unplaced (drop at (located ls)) ≡ ahead ls at
located-drop ls at = ap unplaced (drop-map (λ (l : Lexeme). (l.place, tok l.token)) at ls) ∙ toks-located (drop at ls)

err-along : (us vs : List Tok) → us ≡ vs → (let R = Result ProgramTree (List Tok) in ◌≡◌ {A = R} (Err us) (Err vs))
err-along us vs e = cc

-- they are wrong from the place on at which reading stops
pub is_wrong : (ls : List Lexeme) (end byte at : ℕ) → byte ≡ place end (located (drop at ls)) → all_of (toks ls) ≡ Err (ahead ls at) → IsWrongFrom (located ls) end byte
is_wrong ls end byte at there e =
    let before = take at (located ls) in
    let rest = drop at (located ls) in
    let whole : unplaced before ++ unplaced rest ≡ unplaced (located ls)
    = sym (map-append (λ (x : Placed). x.1) before rest) ∙ ap unplaced (take-append-drop at (located ls)) in
    let read : all_of (unplaced (located ls)) ≡ Err (unplaced rest)
    = ap all_of (toks-located ls) ∙ e ∙ err-along (ahead ls at) (unplaced rest) (sym (located-drop ls at)) in
    let (front, others, found, parts, spelled) = refused_goes_on (unplaced (located ls)) (unplaced rest) read in
    let same : front ≡ unplaced before = append_cancel_right front (unplaced before) (unplaced rest) (parts ∙ sym whole) in
    let P : List Tok → Type 0 = λ us. Spells (us ++ others) found in
    record {
      before = before;
      rest = rest;
      parts = take-append-drop at (located ls);
      reported = there ∙ ap (place end) (sym (drop-map (λ (l : Lexeme). (l.place, tok l.token)) at ls));
      begun = (others, found, subst P same spelled);
      none = goes_on (unplaced before) (unplaced rest) (ap all_of whole ∙ read);
    }

-- and from no other

-- two ways to cut a list are one, or one of them is behind the other
data Cuts (b c r s : List Placed) : Type 0 where
  same : r ≡ s → Cuts b c r s
  later : (x : Placed) (mid : List Placed) → r ≡ x ∷ (mid ++ s) → c ≡ b ++ x ∷ mid → Cuts b c r s
  earlier : (x : Placed) (mid : List Placed) → s ≡ x ∷ (mid ++ r) → b ≡ c ++ x ∷ mid → Cuts b c r s

cuts_behind : (x : Placed) (b c r s : List Placed) → Cuts b c r s → Cuts (x ∷ b) (x ∷ c) r s
cuts_behind x b c r s (same e) = same e
cuts_behind x b c r s (later y mid e h) = later y mid e (ap (λ (us : List Placed). x ∷ us) h)
cuts_behind x b c r s (earlier y mid e h) = earlier y mid e (ap (λ (us : List Placed). x ∷ us) h)

first_and_others : (x y : Placed) (b c : List Placed) → x ∷ b ≡ y ∷ c → (x ≡ y) × (b ≡ c)
first_and_others x y b c e = (cc, cc)

cuts : (b c r s : List Placed) → b ++ r ≡ c ++ s → Cuts b c r s
cuts [] [] r s e = same e
cuts [] (y ∷ c) r s e = later y c e refl
cuts (x ∷ b) [] r s e = earlier x b (sym e) refl
cuts (x ∷ b) (y ∷ c) r s e =
    let (one, others) = first_and_others x y (b ++ r) (c ++ s) e in
    let C : Placed → Type 0 = λ z. Cuts (x ∷ b) (z ∷ c) r s in
    subst C one (cuts_behind x b c r s (cuts b c r s others))

-- what is wrong at a token is no prefix with that token
not_begun : (before rest behind : List Placed) (x : Placed) (mid : List Placed) → NoneGoesOn (unplaced before) (unplaced rest) → rest ≡ x ∷ (mid ++ behind) → (others : List Tok) (found : ProgramTree)
    → Spells (unplaced (before ++ x ∷ mid) ++ others) found → ⊥
not_begun before rest behind x mid none e others found s =
    let N : List Placed → Type 0 = λ us. NoneGoesOn (unplaced before) (unplaced us) in
    let S : List Tok → Type 0 = λ us. Spells us found in
    let split : unplaced (before ++ x ∷ mid) ++ others ≡ unplaced before ++ x.1 ∷ (unplaced mid ++ others)
    = ap (λ (us : List Tok). us ++ others) (map-append (λ (y : Placed). y.1) before (x ∷ mid)) ∙ append_assoc (unplaced before) (x.1 ∷ unplaced mid) others in
    subst N e none (unplaced mid ++ others) found (subst S split s)

same_by : (ts : List Placed) (end one other : ℕ) (a : IsWrongFrom ts end one) (b : IsWrongFrom ts end other) → Cuts a.before b.before a.rest b.rest → one ≡ other
same_by ts end one other a b (same e) = a.reported ∙ ap (place end) e ∙ sym b.reported
same_by ts end one other a b (later x mid e h) =
    let S : List Placed → Type 0 = λ us. Spells (unplaced us ++ b.begun.0) b.begun.1 in
    absurd (not_begun a.before a.rest b.rest x mid a.none e b.begun.0 b.begun.1 (subst S h b.begun.2))
same_by ts end one other a b (earlier x mid e h) =
    let S : List Placed → Type 0 = λ us. Spells (unplaced us ++ a.begun.0) a.begun.1 in
    absurd (not_begun b.before b.rest a.rest x mid b.none e a.begun.0 a.begun.1 (subst S h a.begun.2))

pub same_place : (ts : List Placed) (end one other : ℕ) → IsWrongFrom ts end one → IsWrongFrom ts end other → one ≡ other
same_place ts end one other a b = same_by ts end one other a b (cuts a.before b.before a.rest b.rest (a.parts ∙ sym b.parts))

not_wrong_by : (before rest : List Placed) (found : ProgramTree) → NoneGoesOn (unplaced before) (unplaced rest) → Spells (unplaced (before ++ rest)) found → ⊥
not_wrong_by before [] found none s = let S : List Placed → Type 0 = λ us. Spells (unplaced us) found in none found (subst S (append-nil before) s)
not_wrong_by before (x ∷ rest) found none s = let S : List Tok → Type 0 = λ us. Spells us found in none (unplaced rest) found (subst S (map-append (λ (y : Placed). y.1) before (x ∷ rest)) s)

-- what spells a program is wrong nowhere
pub not_wrong : (ls : List Lexeme) (end byte : ℕ) (found : ProgramTree) → all_of (toks ls) ≡ Ok found → IsWrongFrom (located ls) end byte → ⊥
not_wrong ls end byte found e a =
    let S : List Tok → Type 0 = λ us. Spells us found in
    let P : List Placed → Type 0 = λ us. Spells (unplaced us) found in
    not_wrong_by a.before a.rest found a.none (subst P (sym a.parts) (subst S (sym (toks-located ls)) (spelled_by (toks ls) found e)))
