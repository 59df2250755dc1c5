-- Each enumeration of a program that was read has a first name, which a field of a table spells; so the table that
-- a design begins with is one of the program's inputs.
use Rattle.std.proofs.Common.{◌≡◌, ◌∙◌, ℕ, zero, suc, ◌+◌, Bool, true, false, List, [], ◌∷◌, length, map, Option, Some, All, refl, sym, ap, subst, arith}
use Rattle.std.specs.Prelude.{◌&&◌, ◌||◌, nat_eq, slice_get}
use Rattle.std.specs.Int.{is_in_range}
use Rattle.std.specs.List.{list_all}
use Rattle.std.proofs.lemmas.Bool.{eqb-true}
use Rattle.std.proofs.lemmas.List.Elements.{All-nil, All-cons}
use Rattle.std.proofs.lemmas.Option.{slice_get-map}
use Rattle.lutree.specs.Tree.{ProgramTree, TypeTree}
use Rattle.luflow.specs.declared.variable.Enum.{Enum}
use Rattle.lusyn_grammar.specs.declared.token.Fixed.TheVariants as f
use Rattle.lusyn_grammar.specs.Tokens.{Tok, identifier, number, fixed}
use Rattle.lusyn_grammar.specs.Lexing.{AreCut, IsPiece, Pieces, Placed, before, is_letter, is_word, is_word_text, placed}
use Rattle.lusyn_grammar.specs.Lexing.{IsPiece as pieces}
use Rattle.lusyn_grammar.specs.Grammar.{Each, IsProperType, led, name, repeated, separated, type_declaration}
use Rattle.lusyn_grammar.specs.Grammar as w
use Rattle.lusyn_parser.specs.Refused.{unplaced}
use Rattle.lusyn.specs.Texts.{SpellsText}
use Rattle.lucore_laws.specs.Layout.{enum_of}
use Rattle.lucore_laws.proofs.Names.{mapped_some}
use Rattle.lutab.specs.Text.{IsFieldName, is_end}
use Rattle.lutab.specs.FirstTable.{HaveFirstNames}
use Rattle.lutab.proofs.Spelled.{first_table_law}
use Rattle.lusdist_call.specs.Begun.{BeginsWithInputs}

-- ---- words have neither commas nor line feeds

not_byte : (b k : ℕ) → is_word k ≡ false → is_word b ≡ true → nat_eq b k ≡ false
not_byte b k other is =
    go (nat_eq b k) refl
  where
    go : (e : Bool) → nat_eq b k ≡ e → e ≡ false
    go false same = refl
    go true same = let clash : true ≡ false = sym is ∙ ap is_word (eqb-true b k same) ∙ other in cc

byte_plain : (b : ℕ) → is_word b ≡ true → is_end b ≡ false
byte_plain b is = rw (not_byte b 44 refl is, not_byte b 10 refl is) refl

both : (a b : Bool) → (a && b) ≡ true → (a ≡ true) × (b ≡ true)
both true b is = (refl, is)
both false b is = absurd cc

word_plain : (xs : List ℕ) → list_all is_word xs ≡ true → All (λ b. is_end b ≡ false) xs
word_plain [] is = All-nil (λ b. is_end b ≡ false)
word_plain (b ∷ xs) is =
    let two = both (is_word b) (list_all is_word xs) is in
    All-cons (λ b. is_end b ≡ false) b xs (byte_plain b two.0) (word_plain xs two.1)

among_more : (d u l e : Bool) → ((u || l) || e) ≡ true → (((d || u) || l) || e) ≡ true
among_more true u l e is = refl
among_more false u l e is = is

letter_word : (b : ℕ) → is_letter b ≡ true → is_word b ≡ true
letter_word b is = among_more (is_in_range 48 57 b) (is_in_range 65 90 b) (is_in_range 97 122 b) (nat_eq b 95) is

text_plain : (xs : List ℕ) → is_word_text xs ≡ true → All (λ b. is_end b ≡ false) xs
text_plain [] is = absurd cc
text_plain (b ∷ xs) is =
    let two = both (is_letter b) (list_all is_word xs) is in
    All-cons (λ b. is_end b ≡ false) b xs (byte_plain b (letter_word b two.0)) (word_plain xs two.1)

-- ---- each identifier among tokens is a word

abbrev AreWordsIn : List Tok → Type 0
AreWordsIn [] = Unit {0}
AreWordsIn (identifier x ∷ ts) = (is_word_text x ≡ true) × AreWordsIn ts
AreWordsIn (number n ∷ ts) = AreWordsIn ts
AreWordsIn (fixed g ∷ ts) = AreWordsIn ts

one_more : (v : List ℕ) (t : Option Tok) (at : ℕ) (ts : List Placed) → IsPiece v t → AreWordsIn (unplaced ts) → AreWordsIn (unplaced (before at t ts))
one_more v t at ts (pieces.blank b is same none) words = subst (λ o. AreWordsIn (unplaced (before at o ts))) (sym none) words
one_more v t at ts (pieces.comment line is same none) words = subst (λ o. AreWordsIn (unplaced (before at o ts))) (sym none) words
one_more v t at ts (pieces.spelled g same some) words = subst (λ o. AreWordsIn (unplaced (before at o ts))) (sym some) words
one_more v t at ts (pieces.name is free some) words = subst (λ o. AreWordsIn (unplaced (before at o ts))) (sym some) (is, words)
one_more v t at ts (pieces.digits is some) words = subst (λ o. AreWordsIn (unplaced (before at o ts))) (sym some) words

words_placed : (ps : Pieces) (rest : List ℕ) (at : ℕ) → AreCut ps rest → AreWordsIn (unplaced (placed at ps))
words_placed [] rest at cut = tt
words_placed (p ∷ ps) rest at cut =
    one_more p.0 p.1 at (placed (at + length p.0) ps) cut.0 (words_placed ps rest (at + length p.0) cut.3)

-- ---- the first name of a type is one of them

record HasFirstWord (names : List (List ℕ)) : Type 0 where
  word : List ℕ
  there : slice_get names 0 ≡ Some word
  is : is_word_text word ≡ true

further : (names : List (List ℕ)) (rest : List Tok) → AreWordsIn (repeated (led f.Comma name) names rest) → AreWordsIn rest
further [] rest words = words
further (x ∷ xs) rest words = further xs rest words.1

behind : (names : List (List ℕ)) (rest : List Tok) → AreWordsIn (separated f.Comma name names rest) → AreWordsIn rest
behind [] rest words = words
behind (x ∷ xs) rest words = further xs rest words.1

first_word : (names : List (List ℕ)) (rest : List Tok) → w.IsNonempty names → AreWordsIn (separated f.Comma name names rest) → HasFirstWord names
first_word [] rest some words = absurd some
first_word (x ∷ xs) rest some words = record { word = x; there = refl; is = words.0 }

typed : (types : List TypeTree) (rest : List Tok) → Each IsProperType types → AreWordsIn (repeated type_declaration types rest) → (place : ℕ) (t : TypeTree) → slice_get types place ≡ Some t → HasFirstWord t.names
typed [] rest proper words place t there = absurd cc
typed (x ∷ xs) rest proper words zero t there = subst (λ (y : TypeTree). HasFirstWord y.names) (let same : x ≡ t = cc in same) (first_word x.names _ proper.0 words.1)
typed (x ∷ xs) rest proper words (suc place) t there = typed xs rest proper.1 (behind x.names _ words.1) place t there

field_name : (names : List (List ℕ)) → HasFirstWord names → IsFieldName names 0
field_name names has = record {
  name = has.word;
  there = has.there;
  plain = text_plain has.word has.is;
  first = λ j other lt at. absurd (omega (arith, lt));
}

-- ---- of a program that was read

first_names : (text : List ℕ) (tree : ProgramTree) → SpellsText text tree → HaveFirstNames (map enum_of tree.types)
first_names text tree spelled place t there =
    let spells = spelled.1.2 in
    let cut = spelled.1.1.1 in
    let types : spells.0.types ≡ tree.types = ap (λ (p : ProgramTree). p.types) spells.3 ∙ ap (λ (p : ProgramTree). p.types) spelled.3 in
    let words = subst AreWordsIn (sym spells.2) (subst (λ ts. AreWordsIn (unplaced ts)) cut.2 (words_placed cut.0 [] 0 cut.1.0)) in
    let found = mapped_some enum_of (slice_get tree.types place) t (sym (slice_get-map enum_of tree.types place) ∙ there) in
    subst (λ (e : Enum). IsFieldName e.names 0) found.2 (field_name found.0.names (typed spells.0.types _ spells.1.2 words place found.0 (ap (λ ts. slice_get ts place) types ∙ found.1)))

pub first_inputs : BeginsWithInputs
first_inputs text main flat n has few =
    first_table_law flat n has.flat_is.is_flat (subst HaveFirstNames (sym has.flat_is.laid_out.types) (first_names text has.tree has.spelled)) few
