-- From the answers of the lexer and of the parser to that of the reader.
use Rattle.std.proofs.Common.{◌≡◌, ◌⊎◌, inl, inr, ℕ, length, List, Result, Ok, Err, refl, ap, sym, ◌∙◌, subst}
use Rattle.lutree.specs.Tree.{ProgramTree, program_view}
use Rattle.lutree.specs.declared.program.Program.{Program}
use Rattle.lusyn_grammar.specs.declared.token.Lexeme.{Lexeme}
use Rattle.lusyn_grammar.specs.Tokens.{toks, located}
use Rattle.lusyn_grammar.specs.declared.error.LexError.{LexError}
use Rattle.lusyn_grammar.specs.declared.error.LexError.TheVariants as l
use Rattle.lusyn_grammar.specs.Gives.{Lexes}
use Rattle.lusyn_grammar.specs.Lexing.{Placed}
use Rattle.lusyn_grammar.specs.Refusals.{IsLexed}
use Rattle.lusyn_grammar.specs.Refusals as lexing
use Rattle.lusyn_grammar.specs.Grammar.{Spells}
use Rattle.lusyn_parser.specs.declared.error.ParseError.{ParseError}
use Rattle.lusyn_parser.specs.declared.error.ParseError.TheVariants as p
use Rattle.lusyn_parser.specs.Refused.{IsWrongFrom, IsRefusedAt, unplaced}
use Rattle.lusyn_parser.specs.Refused as parsing
use Rattle.lusyn_parser.proofs.Whole.{toks-located}
use Rattle.lusyn.specs.declared.error.SynError.{SynError}
use Rattle.lusyn.specs.declared.error.SynError.TheVariants as e
use Rattle.lusyn.specs.Gives.{IsAnswered, Refuses, refusal, syntax_refusal}
use Rattle.lusyn.specs.Refusals.{IsRefused}
use Rattle.lusyn_parser.specs.Resolved.{resolved}
use Rattle.lusyn.specs.Texts.{HasProgram, IsSmall, IsLarge, SpellsText}
use Rattle.lusyn.proofs.Limits.{not_large}

-- ---- the lexer refuses

module _ {Y : Type 0} (seen : Y → List Lexeme) (text : List ℕ) where
  without_tokens : (reported : LexError) (error : SynError) (ts : List Placed) → Lexes {X = Y} seen (Err reported) (Ok ts) → Refuses (Err (refusal reported)) error
  without_tokens l.OutOfMemory error ts h = tt
  without_tokens l.TooLong error ts h = absurd cc
  without_tokens l.NotAscii error ts h = absurd cc
  without_tokens (l.NoToken byte) error ts h = absurd cc
  without_tokens (l.NumberTooLarge byte) error ts h = absurd cc
  without_tokens (l.LongRun byte) error ts h = absurd cc

  Err-same : (reported error : LexError) (r : Result (List Placed) LexError) → r ≡ Err reported → r ≡ Err error → reported ≡ error
  Err-same reported error r h k = cc

  same_refusal : (reported error : LexError) → Lexes {X = Y} seen (Err reported) (Err error) → Refuses (Err (refusal reported)) (refusal error)
  same_refusal l.OutOfMemory error h = tt
  same_refusal l.TooLong error h = ap refusal (Err-same l.TooLong error (Err error) h refl)
  same_refusal l.NotAscii error h = ap refusal (Err-same l.NotAscii error (Err error) h refl)
  same_refusal (l.NoToken byte) error h = ap refusal (Err-same (l.NoToken byte) error (Err error) h refl)
  same_refusal (l.NumberTooLarge byte) error h = ap refusal (Err-same (l.NumberTooLarge byte) error (Err error) h refl)
  same_refusal (l.LongRun byte) error h = ap refusal (Err-same (l.LongRun byte) error (Err error) h refl)

  not_answered : (reported : LexError) (tree : ProgramTree) (ts : List Placed) → Lexes {X = Y} seen (Err reported) (Ok ts) → IsAnswered (Err (refusal reported)) tree
  not_answered l.OutOfMemory tree ts h = tt
  not_answered l.TooLong tree ts h = absurd cc
  not_answered l.NotAscii tree ts h = absurd cc
  not_answered (l.NoToken byte) tree ts h = absurd cc
  not_answered (l.NumberTooLarge byte) tree ts h = absurd cc
  not_answered (l.LongRun byte) tree ts h = absurd cc

  pub lexer-only : (reported : LexError) (tree : ProgramTree) → ((ts : List Placed) → IsLexed text ts → Lexes {X = Y} seen (Err reported) (Ok ts))
      → HasProgram text tree → IsAnswered (Err (refusal reported)) tree
  lexer-only reported tree only (ts, lexed, s) = not_answered reported tree ts (only ts lexed)

  pub lexer-refuses : (reported : LexError) (error : SynError) → ((ts : List Placed) → IsLexed text ts → Lexes {X = Y} seen (Err reported) (Ok ts))
      → ((other : LexError) → lexing.IsRefused text other → Lexes {X = Y} seen (Err reported) (Err other)) → IsRefused text error → Refuses (Err (refusal reported)) error
  lexer-refuses reported e.TooLong only refuses (inl h) = same_refusal reported l.TooLong (refuses l.TooLong h)
  lexer-refuses reported e.TooLong only refuses (inr (found, (ts, lexed, s), many)) = without_tokens reported e.TooLong ts (only ts lexed)
  lexer-refuses reported e.NotAscii only refuses h = same_refusal reported l.NotAscii (refuses l.NotAscii h)
  lexer-refuses reported (e.Syntax byte) only refuses (inl h) = same_refusal reported (l.NoToken byte) (refuses (l.NoToken byte) h)
  lexer-refuses reported (e.Syntax byte) only refuses (inr (ts, lexed, wrong)) = without_tokens reported (e.Syntax byte) ts (only ts lexed)
  lexer-refuses reported (e.NumberTooLarge byte) only refuses h = same_refusal reported (l.NumberTooLarge byte) (refuses (l.NumberTooLarge byte) h)
  lexer-refuses reported (e.LongRun byte) only refuses h = same_refusal reported (l.LongRun byte) (refuses (l.LongRun byte) h)
  lexer-refuses reported e.OutOfMemory only refuses h = absurd h

pub lexer-refused : (text : List ℕ) (reported : LexError) → (reported ≡ l.OutOfMemory) ⊎ lexing.IsRefused text reported → (refusal reported ≡ e.OutOfMemory) ⊎ IsRefused text (refusal reported)
lexer-refused text reported (inl h) = inl (ap refusal h)
lexer-refused text l.TooLong (inr h) = inr (inl h)
lexer-refused text l.NotAscii (inr h) = inr h
lexer-refused text (l.NoToken byte) (inr h) = inr (inl h)
lexer-refused text (l.NumberTooLarge byte) (inr h) = inr h
lexer-refused text (l.LongRun byte) (inr h) = inr h
lexer-refused text l.OutOfMemory (inr h) = inl refl

-- ---- the lexer gives tokens

-- these are the tokens of the text, and the lexer refuses nothing of it
pub record Scanned (text : List ℕ) (ls : List Lexeme) : Type 0 where
  pub lexed : IsLexed text (located ls)
  pub only : (ts : List Placed) → IsLexed text ts → ts ≡ located ls
  pub fine : (error : LexError) → lexing.IsRefused text error → ⊥

Ok-same : {Y : Type 0} (seen : Y → List Lexeme) (y : Y) (ts : List Placed) → Lexes seen (Ok y) (Ok ts) → ts ≡ located (seen y)
Ok-same seen y ts h = cc

Ok-fine : {Y : Type 0} (seen : Y → List Lexeme) (y : Y) (error : LexError) → Lexes seen (Ok y) (Err error) → ⊥
Ok-fine seen y error h = absurd cc

pub scanned : {Y : Type 0} (seen : Y → List Lexeme) (y : Y) (text : List ℕ) (ls : List Lexeme) → ls ≡ seen y → IsLexed text (located (seen y))
    → ((ts : List Placed) → IsLexed text ts → Lexes seen (Ok y) (Ok ts)) → ((error : LexError) → lexing.IsRefused text error → Lexes seen (Ok y) (Err error)) → Scanned text ls
scanned seen y text ls same lexed only refuses =
    let P : List Lexeme → Type 0 = λ ms. IsLexed text (located ms) in
    record {
      lexed = subst P (sym same) lexed;
      only = λ ts h. Ok-same seen y ts (only ts h) ∙ ap located (sym same);
      fine = λ error h. Ok-fine seen y error (refuses error h);
    }

spelled-at : (text : List ℕ) (ls : List Lexeme) (ts : List Placed) (tree : ProgramTree) → Scanned text ls → IsLexed text ts → Spells (unplaced ts) tree → Spells (toks ls) tree
spelled-at text ls ts tree h lexed s = let P : List _ → Type 0 = λ us. Spells us tree in subst P (ap unplaced (h.only ts lexed) ∙ toks-located ls) s

wrong-from : (text : List ℕ) (ls : List Lexeme) (ts : List Placed) (end byte : ℕ) → Scanned text ls → IsLexed text ts → IsWrongFrom ts end byte → IsWrongFrom (located ls) end byte
wrong-from text ls ts end byte h lexed s = let P : List Placed → Type 0 = λ us. IsWrongFrom us end byte in subst P (h.only ts lexed) s

has-program : (text : List ℕ) (ls : List Lexeme) (tree : ProgramTree) → Scanned text ls → Spells (toks ls) tree → HasProgram text tree
has-program text ls tree h s = let P : List _ → Type 0 = λ us. Spells us tree in (located ls, h.lexed, subst P (sym (toks-located ls)) s)

-- ---- the parser refuses

abbrev ParsesOnly : List Lexeme → Result Program ParseError → Type 0
ParsesOnly ls r = (tree : ProgramTree) → Spells (toks ls) tree → parsing.IsAnswered r tree

abbrev ParserRefuses : List Lexeme → ℕ → Result Program ParseError → Type 0
ParserRefuses ls end r = (byte : ℕ) → IsWrongFrom (located ls) end byte → IsRefusedAt r byte

refused_tree : (reported : ParseError) (tree : ProgramTree) → parsing.IsAnswered (Err reported) tree → IsAnswered (Err (syntax_refusal reported)) tree
refused_tree (p.Syntax byte) tree h = absurd h
refused_tree p.OutOfMemory tree h = tt

refused_many : (reported : ParseError) (tree : ProgramTree) (error : SynError) → parsing.IsAnswered (Err reported) tree → Refuses (Err (syntax_refusal reported)) error
refused_many (p.Syntax byte) tree error h = absurd h
refused_many p.OutOfMemory tree error h = tt

refused_byte : (reported : ParseError) (byte : ℕ) → IsRefusedAt (Err reported) byte → Refuses (Err (syntax_refusal reported)) (e.Syntax byte)
refused_byte (p.Syntax other) byte h = ap e.Syntax (sym h)
refused_byte p.OutOfMemory byte h = tt

pub parser-only : (text : List ℕ) (ls : List Lexeme) (reported : ParseError) (tree : ProgramTree) → Scanned text ls → ParsesOnly ls (Err reported)
    → HasProgram text tree → IsAnswered (Err (syntax_refusal reported)) tree
parser-only text ls reported tree h only (ts, lexed, s) = refused_tree reported tree (only tree (spelled-at text ls ts tree h lexed s))

pub parser-refused : (text : List ℕ) (ls : List Lexeme) (reported : ParseError) → Scanned text ls → parsing.IsRefused (located ls) (length text) reported
    → (syntax_refusal reported ≡ e.OutOfMemory) ⊎ IsRefused text (syntax_refusal reported)
parser-refused text ls (p.Syntax byte) h wrong = inr (inr (located ls, h.lexed, wrong))
parser-refused text ls p.OutOfMemory h wrong = inl refl

pub parser-refuses : (text : List ℕ) (ls : List Lexeme) (reported : ParseError) (error : SynError) → Scanned text ls → ParsesOnly ls (Err reported) → ParserRefuses ls (length text) (Err reported)
    → IsRefused text error → Refuses (Err (syntax_refusal reported)) error
parser-refuses text ls reported e.TooLong h only refuses (inl r) = absurd (h.fine l.TooLong r)
parser-refuses text ls reported e.TooLong h only refuses (inr (found, (ts, lexed, s), many)) = refused_many reported found e.TooLong (only found (spelled-at text ls ts found h lexed s))
parser-refuses text ls reported e.NotAscii h only refuses r = absurd (h.fine l.NotAscii r)
parser-refuses text ls reported (e.Syntax byte) h only refuses (inl r) = absurd (h.fine (l.NoToken byte) r)
parser-refuses text ls reported (e.Syntax byte) h only refuses (inr (ts, lexed, wrong)) = refused_byte reported byte (refuses byte (wrong-from text ls ts (length text) byte h lexed wrong))
parser-refuses text ls reported (e.NumberTooLarge byte) h only refuses r = absurd (h.fine (l.NumberTooLarge byte) r)
parser-refuses text ls reported (e.LongRun byte) h only refuses r = absurd (h.fine (l.LongRun byte) r)
parser-refuses text ls reported e.OutOfMemory h only refuses r = absurd r

-- ---- the parser gives a program

read-same : (text : List ℕ) (ls : List Lexeme) (found : Program) (tree : ProgramTree) → Scanned text ls → ParsesOnly ls (Ok found) → HasProgram text tree → tree ≡ program_view found
read-same text ls found tree h only (ts, lexed, s) = only tree (spelled-at text ls ts tree h lexed s)

pub many-only : (text : List ℕ) (ls : List Lexeme) (found : Program) (tree : ProgramTree) → Scanned text ls → ParsesOnly ls (Ok found) → IsLarge (program_view found) → HasProgram text tree → IsSmall tree → ⊥
many-only text ls found tree h only many has few = not_large (program_view found) (subst IsSmall (read-same text ls found tree h only has) few) many

pub many-refused : (text : List ℕ) (ls : List Lexeme) (found : Program) → Scanned text ls → Spells (toks ls) (program_view found) → IsLarge (program_view found)
    → (e.TooLong ≡ e.OutOfMemory) ⊎ IsRefused text e.TooLong
many-refused text ls found h s many = inr (inr (program_view found, has-program text ls (program_view found) h s, many))

-- what is true of a text that spells a program
pub found-refuses : (text : List ℕ) (ls : List Lexeme) (found : Program) (error : SynError) → Scanned text ls → ParsesOnly ls (Ok found) → ParserRefuses ls (length text) (Ok found)
    → IsRefused text error → (error ≡ e.TooLong) × IsLarge (program_view found)
found-refuses text ls found e.TooLong h only refuses (inl r) = absurd (h.fine l.TooLong r)
found-refuses text ls found e.TooLong h only refuses (inr (other, has, many)) = (refl, subst IsLarge (read-same text ls found other h only has) many)
found-refuses text ls found e.NotAscii h only refuses r = absurd (h.fine l.NotAscii r)
found-refuses text ls found (e.Syntax byte) h only refuses (inl r) = absurd (h.fine (l.NoToken byte) r)
found-refuses text ls found (e.Syntax byte) h only refuses (inr (ts, lexed, wrong)) = absurd (refuses byte (wrong-from text ls ts (length text) byte h lexed wrong))
found-refuses text ls found (e.NumberTooLarge byte) h only refuses r = absurd (h.fine (l.NumberTooLarge byte) r)
found-refuses text ls found (e.LongRun byte) h only refuses r = absurd (h.fine (l.LongRun byte) r)
found-refuses text ls found e.OutOfMemory h only refuses r = absurd r

pub few-spelled : (text : List ℕ) (ls : List Lexeme) (found : Program) → Scanned text ls → Spells (toks ls) (program_view found) → HasProgram text (program_view found)
few-spelled text ls found h s = has-program text ls (program_view found) h s

pub few-only : (text : List ℕ) (ls : List Lexeme) (found : Program) (tree : ProgramTree) → Scanned text ls → ParsesOnly ls (Ok found) → HasProgram text tree → tree ≡ program_view found
few-only text ls found tree h only has = read-same text ls found tree h only has

-- ---- names are resolved

abbrev WrittenOnly : List ℕ → Result Program SynError → Type 0
WrittenOnly text r = (tree : ProgramTree) → HasProgram text tree → IsSmall tree → IsAnswered r tree

any_tree : (reported : SynError) (one other : ProgramTree) → IsAnswered (Err reported) one → IsAnswered (Err reported) other
any_tree e.OutOfMemory one other h = tt
any_tree e.TooLong one other h = absurd h
any_tree e.NotAscii one other h = absurd h
any_tree (e.Syntax byte) one other h = absurd h
any_tree (e.NumberTooLarge byte) one other h = absurd h
any_tree (e.LongRun byte) one other h = absurd h

pub refused-only : (text : List ℕ) (reported : SynError) (tree : ProgramTree) → WrittenOnly text (Err reported) → SpellsText text tree → IsAnswered (Err reported) tree
refused-only text reported tree only (written, has, few, same) = any_tree reported written tree (only written has few)

pub resolved-only : (text : List ℕ) (written found : Program) (tree : ProgramTree) → WrittenOnly text (Ok written) → program_view found ≡ resolved (program_view written) → SpellsText text tree → tree ≡ program_view found
resolved-only text written found tree only is (other, has, few, same) = sym same ∙ ap resolved (only other has few) ∙ sym is

pub resolved-spelled : (text : List ℕ) (written found : Program) → HasProgram text (program_view written) → IsSmall (program_view written) → program_view found ≡ resolved (program_view written)
    → SpellsText text (program_view found)
resolved-spelled text written found has few is = (program_view written, has, few, sym is)
