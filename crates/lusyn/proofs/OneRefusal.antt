-- No text is refused in two ways.
use Rattle.std.proofs.Common.{◌≡◌, ◌≤◌, ◌<◌, ℕ, List, length, Result, Ok, Err, inl, inr, refl, sym, ap, ◌∙◌, subst, arith}
use Rattle.std.specs.Str.{IsNotAscii}
use Rattle.lutree.specs.Tree.{ProgramTree}
use Rattle.lusyn_grammar.specs.declared.error.LexError.{LexError}
use Rattle.lusyn_grammar.specs.declared.error.LexError.TheVariants as l
use Rattle.lusyn_grammar.specs.Lexing.{Placed}
use Rattle.lusyn_grammar.specs.Refusals.{IsPlain, IsLexed}
use Rattle.lusyn_grammar.proofs.Whole.{whole, lexed-whole, refused-whole}
use Rattle.lusyn_parser.specs.Refused.{IsWrongFrom}
use Rattle.lusyn_parser.proofs.Whole.{same_place}
use Rattle.lusyn.specs.declared.error.SynError.{SynError}
use Rattle.lusyn.specs.declared.error.SynError.TheVariants as e
use Rattle.lusyn.specs.Gives.{refusal}
use Rattle.lusyn.specs.Refusals.{IsRefused}
use Rattle.lusyn.specs.Texts.{HasProgram}
use Rattle.lusyn.proofs.Exclusive.{tokens_same, not_wrong}

-- how far a text that is refused comes
data Reaches (text : List ℕ) (error : SynError) : Type 0 where
  long : 1048576 < length text → error ≡ e.TooLong → Reaches text error
  wide : length text ≤ 1048576 → IsNotAscii text → error ≡ e.NotAscii → Reaches text error
  scan : (reported : LexError) → IsPlain text → whole text ≡ Err reported → error ≡ refusal reported → Reaches text error
  wrong : (ts : List Placed) (byte : ℕ) → IsLexed text ts → IsWrongFrom ts (length text) byte → error ≡ e.Syntax byte → Reaches text error
  many : (found : ProgramTree) → HasProgram text found → error ≡ e.TooLong → Reaches text error

reaches : (text : List ℕ) (error : SynError) → IsRefused text error → Reaches text error
reaches text e.TooLong (inl h) = long h refl
reaches text e.TooLong (inr (found, has, more)) = many found has refl
reaches text e.NotAscii h = wide h.0 h.1 refl
reaches text (e.Syntax byte) (inl h) = scan (l.NoToken byte) h.0 (refused-whole text (l.NoToken byte) h.0 h) refl
reaches text (e.Syntax byte) (inr (ts, lexed, h)) = wrong ts byte lexed h refl
reaches text (e.NumberTooLarge byte) h = scan (l.NumberTooLarge byte) h.0 (refused-whole text (l.NumberTooLarge byte) h.0 h) refl
reaches text (e.LongRun byte) h = scan (l.LongRun byte) h.0 (refused-whole text (l.LongRun byte) h.0 h) refl
reaches text e.OutOfMemory h = absurd h

not_long : (text : List ℕ) → 1048576 < length text → IsPlain text → ⊥
not_long text h plain = omega (arith, h, plain.0)

not_wide : (text : List ℕ) → IsNotAscii text → IsPlain text → ⊥
not_wide text h plain = let below = plain.1 h.0 in omega (arith, below, h.1)

err_same : {A E : Type 0} (r : Result A E) (a b : E) → r ≡ Err a → r ≡ Err b → a ≡ b
err_same r a b h k = cc

ok_or_err : {A E : Type 0} (r : Result A E) (a : A) (b : E) → r ≡ Ok a → r ≡ Err b → ⊥
ok_or_err r a b h k = absurd cc

-- a text with tokens isn't refused by the lexer
not_scanned : (text : List ℕ) (ts : List Placed) (reported : LexError) → IsLexed text ts → whole text ≡ Err reported → ⊥
not_scanned text ts reported lexed h = ok_or_err (whole text) ts reported (lexed-whole text ts lexed) h

-- tokens that spell a program aren't wrong from anywhere
not_both : (text : List ℕ) (ts : List Placed) (byte : ℕ) (found : ProgramTree) → IsLexed text ts → IsWrongFrom ts (length text) byte → HasProgram text found → ⊥
not_both text ts byte found lexed h (us, also, spelled) =
    not_wrong text us byte found spelled (subst (λ xs. IsWrongFrom xs (length text) byte) (tokens_same text ts us lexed also) h)

one_of : (text : List ℕ) (a b : SynError) → Reaches text a → Reaches text b → a ≡ b
one_of text a b (long h is) (long k also) = is ∙ sym also
one_of text a b (long h is) (wide k n also) = absurd (omega (arith, h, k))
one_of text a b (long h is) (scan reported plain k also) = absurd (not_long text h plain)
one_of text a b (long h is) (wrong ts byte lexed k also) = absurd (not_long text h lexed.0)
one_of text a b (long h is) (many found k also) = is ∙ sym also
one_of text a b (wide h n is) (long k also) = absurd (omega (arith, h, k))
one_of text a b (wide h n is) (wide k m also) = is ∙ sym also
one_of text a b (wide h n is) (scan reported plain k also) = absurd (not_wide text n plain)
one_of text a b (wide h n is) (wrong ts byte lexed k also) = absurd (not_wide text n lexed.0)
one_of text a b (wide h n is) (many found k also) = absurd (not_wide text n k.1.0)
one_of text a b (scan reported plain h is) (long k also) = absurd (not_long text k plain)
one_of text a b (scan reported plain h is) (wide k n also) = absurd (not_wide text n plain)
one_of text a b (scan reported plain h is) (scan other same k also) = is ∙ ap refusal (err_same (whole text) reported other h k) ∙ sym also
one_of text a b (scan reported plain h is) (wrong ts byte lexed k also) = absurd (not_scanned text ts reported lexed h)
one_of text a b (scan reported plain h is) (many found k also) = absurd (not_scanned text k.0 reported k.1 h)
one_of text a b (wrong ts byte lexed h is) (long k also) = absurd (not_long text k lexed.0)
one_of text a b (wrong ts byte lexed h is) (wide k n also) = absurd (not_wide text n lexed.0)
one_of text a b (wrong ts byte lexed h is) (scan reported plain k also) = absurd (not_scanned text ts reported lexed k)
one_of text a b (wrong ts byte lexed h is) (wrong us other same k also) =
    is ∙ ap e.Syntax (same_place us (length text) byte other (subst (λ xs. IsWrongFrom xs (length text) byte) (tokens_same text ts us lexed same) h) k) ∙ sym also
one_of text a b (wrong ts byte lexed h is) (many found k also) = absurd (not_both text ts byte found lexed h k)
one_of text a b (many found h is) (long k also) = is ∙ sym also
one_of text a b (many found h is) (wide k n also) = absurd (not_wide text n h.1.0)
one_of text a b (many found h is) (scan reported plain k also) = absurd (not_scanned text h.0 reported h.1 k)
one_of text a b (many found h is) (wrong ts byte lexed k also) = absurd (not_both text ts byte found lexed k h)
one_of text a b (many found h is) (many other k also) = is ∙ sym also

pub one_refusal : (text : List ℕ) (one other : SynError) → IsRefused text one → IsRefused text other → one ≡ other
one_refusal text one other h k = one_of text one other (reaches text one h) (reaches text other k)
