-- A text spells one program at most, and is not refused where it spells one.
use Rattle.std.proofs.Common.{◌≡◌, ℕ, List, [], ◌∷◌, ◌++◌, length, Result, Ok, Err, sym, ap, ◌∙◌, subst, inl, inr}
use Rattle.std.proofs.lemmas.List.{map-append, append-nil}
use Rattle.lutree.specs.Tree.{ProgramTree}
use Rattle.lusyn_grammar.specs.Tokens.{Tok}
use Rattle.lusyn_grammar.specs.declared.error.LexError.{LexError}
use Rattle.lusyn_grammar.specs.declared.error.LexError.TheVariants as l
use Rattle.lusyn_grammar.specs.Lexing.{Placed}
use Rattle.lusyn_grammar.specs.Refusals.{IsLexed}
use Rattle.lusyn_grammar.specs.Refusals as lexing
use Rattle.lusyn_grammar.proofs.Whole.{lexed-whole, refused-whole}
use Rattle.lusyn_grammar.specs.Grammar.{Spells}
use Rattle.lusyn_grammar.proofs.CompletePrograms.{all_of-again}
use Rattle.lusyn_parser.specs.Refused.{IsWrongFrom, NoneGoesOn, unplaced}
use Rattle.lusyn.specs.declared.error.SynError.{SynError}
use Rattle.lusyn.specs.declared.error.SynError.TheVariants as e
use Rattle.lusyn_parser.specs.Resolved.{resolved}
use Rattle.lusyn.specs.Refusals.{IsRefused}
use Rattle.lusyn.specs.Texts.{HasProgram, IsSmall, SpellsText}
use Rattle.lusyn.proofs.Limits.{not_large}

ok_same : {A E : Type 0} (r : Result A E) (a b : A) → r ≡ Ok a → r ≡ Ok b → a ≡ b
ok_same r a b h k = cc

ok_or_err : {A E : Type 0} (r : Result A E) (a : A) (e : E) → r ≡ Ok a → r ≡ Err e → ⊥
ok_or_err r a e h k = absurd cc

pub tokens_same : (text : List ℕ) (a b : List Placed) → IsLexed text a → IsLexed text b → a ≡ b
tokens_same text a b x y = ok_same _ a b (lexed-whole text a x) (lexed-whole text b y)

tree_same : (ts : List Tok) (one other : ProgramTree) → Spells ts one → Spells ts other → one ≡ other
tree_same ts one other x y = ok_same _ one other (all_of-again ts one x) (all_of-again ts other y)

program_same : (text : List ℕ) (one other : ProgramTree) → HasProgram text one → HasProgram text other → one ≡ other
program_same text one other (a, x, s) (b, y, t) =
    tree_same (unplaced a) one other s (subst (λ ts. Spells (unplaced ts) other) (tokens_same text b a y x) t)

pub one_program : (text : List ℕ) (one other : ProgramTree) → SpellsText text one → SpellsText text other → one ≡ other
one_program text one other (a, x, p, same) (b, y, q, also) = sym same ∙ ap resolved (program_same text a b x y) ∙ also

-- tokens that spell a program aren't wrong from anywhere
none_wrong : (before rest : List Tok) (found : ProgramTree) → NoneGoesOn before rest → Spells (before ++ rest) found → ⊥
none_wrong before [] found none s = none found (subst (λ ts. Spells ts found) (append-nil before) s)
none_wrong before (refused ∷ rest) found none s = none rest found s

pub not_wrong : (text : List ℕ) (ts : List Placed) (byte : ℕ) (found : ProgramTree) → Spells (unplaced ts) found → IsWrongFrom ts (length text) byte → ⊥
not_wrong text ts byte found s wrong =
    let parts : unplaced wrong.before ++ unplaced wrong.rest ≡ unplaced ts = sym (map-append (λ (x : Placed). x.1) wrong.before wrong.rest) ∙ ap unplaced wrong.parts in
    none_wrong (unplaced wrong.before) (unplaced wrong.rest) found wrong.none (subst (λ us. Spells us found) (sym parts) s)

lexer_fine : (text : List ℕ) (ts : List Placed) (reported : LexError) → IsLexed text ts → lexing.IsRefused text reported → ⊥
lexer_fine text ts reported lexed refused = ok_or_err _ ts reported (lexed-whole text ts lexed) (refused-whole text reported lexed.0 refused)

pub not_refused : (text : List ℕ) (found : ProgramTree) (refusal : SynError) → SpellsText text found → IsRefused text refusal → ⊥
not_refused text found e.TooLong (written, (ts, lexed, s), few, same) (inl h) = lexer_fine text ts l.TooLong lexed h
not_refused text found e.TooLong (written, (ts, lexed, s), few, same) (inr (other, has, many)) =
    not_large other (subst IsSmall (program_same text written other (ts, lexed, s) has) few) many
not_refused text found e.NotAscii (written, (ts, lexed, s), few, same) h = lexer_fine text ts l.NotAscii lexed h
not_refused text found (e.Syntax byte) (written, (ts, lexed, s), few, same) (inl h) = lexer_fine text ts (l.NoToken byte) lexed h
not_refused text found (e.Syntax byte) (written, (ts, lexed, s), few, same) (inr (us, other, wrong)) =
    not_wrong text us byte written (subst (λ xs. Spells (unplaced xs) written) (tokens_same text ts us lexed other) s) wrong
not_refused text found (e.NumberTooLarge byte) (written, (ts, lexed, s), few, same) h = lexer_fine text ts (l.NumberTooLarge byte) lexed h
not_refused text found (e.LongRun byte) (written, (ts, lexed, s), few, same) h = lexer_fine text ts (l.LongRun byte) lexed h
not_refused text found e.OutOfMemory (written, (ts, lexed, s), few, same) h = absurd h
