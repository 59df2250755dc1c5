-- What is answered of a text is true of it, and nothing else is.
use Rattle.std.proofs.Common.{◌≡◌, ◌≤◌, ◌<◌, ◌⊎◌, ℕ, List, Option, Some, None, Result, Ok, Err, IfOk, length, refl, ap, sym, subst, ◌∙◌, inl, inr, arith}
use Rattle.std.specs.Result.{IfErr}
use Rattle.std.specs.Str.{IsNotAscii}
use Rattle.lusyn_grammar.specs.declared.token.Lexeme.{Lexeme}
use Rattle.lusyn_grammar.specs.Tokens.{located}
use Rattle.lusyn_grammar.specs.declared.error.LexError.{LexError}
use Rattle.lusyn_grammar.specs.declared.error.LexError.TheVariants as errors
use Rattle.lusyn_grammar.specs.Gives.{Lexes}
use Rattle.lusyn_grammar.specs.Lexing.{Placed, HasTokens}
use Rattle.lusyn_grammar.specs.Refusals.{IsPlain, IsLexed, IsRefused}
use Rattle.lusyn_grammar.specs.Scanning.{Lexed, lex, count, short, limited}
use Rattle.lusyn_grammar.proofs.Cuts.{Outcome, found, no_token, large_number, outcome, has-lex, no_token-lex, large-lex}
use Rattle.lusyn_grammar.proofs.Runs.{count-short, count-too_many, short-count, too_many-count}

abbrev pub whole : List ℕ → Lexed
whole text = limited (lex 0 0 text)

-- what an answer says of a text whose bytes are few and below 128
abbrev pub IsAnswer : List ℕ → Lexed → Type 0
IsAnswer text (Ok ts) = IsLexed text ts
IsAnswer text (Err e) = IsRefused text e

answer-short : (text : List ℕ) (ts : List Placed) (o : Option ℕ) → IsPlain text → HasTokens text ts → (count (0, None) ts).1 ≡ o → IsAnswer text (short o (Ok ts))
answer-short text ts None plain has e = (plain, has, count-short ts e)
answer-short text ts (Some at) plain has e = (plain, (ts, has, count-too_many ts at e))

answer-from : (text : List ℕ) → IsPlain text → Outcome text → IsAnswer text (whole text)
answer-from text plain (found ts has) =
    let P : Lexed → Type 0 = λ l. IsAnswer text (limited l) in
    subst P (sym (has-lex text ts has)) (answer-short text ts (count (0, None) ts).1 plain has refl)
answer-from text plain (no_token byte none) = let P : Lexed → Type 0 = λ l. IsAnswer text (limited l) in subst P (sym (no_token-lex text byte none)) (plain, none)
answer-from text plain (large_number byte large) = let P : Lexed → Type 0 = λ l. IsAnswer text (limited l) in subst P (sym (large-lex text byte large)) (plain, large)

pub answer-is : (text : List ℕ) (l : Lexed) → IsPlain text → whole text ≡ l → IsAnswer text l
answer-is text l plain e = let P : Lexed → Type 0 = IsAnswer text in subst P e (answer-from text plain (outcome text))

-- the other way
pub lexed-whole : (text : List ℕ) (ts : List Placed) → IsLexed text ts → whole text ≡ Ok ts
lexed-whole text ts (plain, has, runs) = ap limited (has-lex text ts has) ∙ ap (λ (o : Option ℕ). short o (Ok ts)) (short-count ts runs)

pub refused-whole : (text : List ℕ) (e : LexError) → IsPlain text → IsRefused text e → whole text ≡ Err e
refused-whole text errors.TooLong plain h = absurd (omega (arith, plain.0, h))
refused-whole text errors.NotAscii plain h = let below = plain.1 h.1.0 in absurd (omega (arith, below, h.1.1))
refused-whole text (errors.NoToken byte) plain h = ap limited (no_token-lex text byte h.1)
refused-whole text (errors.NumberTooLarge byte) plain h = ap limited (large-lex text byte h.1)
refused-whole text (errors.LongRun byte) plain (p, (ts, has, many)) = ap limited (has-lex text ts has) ∙ ap (λ (o : Option ℕ). short o (Ok ts)) (too_many-count ts byte many)
refused-whole text errors.OutOfMemory plain h = absurd h

-- ---- the clauses, of a text that was scanned

pub scanned-tokens : {X : Type 0} (view : X → List Lexeme) (r : Result X LexError) (text : List ℕ) → IsPlain text → Lexes view r (whole text) → IfOk r (λ x. IsLexed text (located (view x)))
scanned-tokens view (Ok x) text plain h = answer-is text (Ok (located (view x))) plain h
scanned-tokens view (Err e) text plain h = tt

pub scanned-along : {X : Type 0} (view : X → List Lexeme) (r : Result X LexError) (a b : Lexed) → a ≡ b → Lexes view r a → Lexes view r b
scanned-along view r a b e h = let P : Lexed → Type 0 = Lexes view r in subst P e h

pub scanned-gives : {X : Type 0} (view : X → List Lexeme) (r : Result X LexError) (text : List ℕ) (l : Lexed) → whole text ≡ l → Lexes view r (whole text) → Lexes view r l
scanned-gives view r text l e h = let P : Lexed → Type 0 = Lexes view r in subst P e h

pub scanned-only : {X : Type 0} (view : X → List Lexeme) (r : Result X LexError) (text : List ℕ) (ts : List Placed) → Lexes view r (whole text) → IsLexed text ts → Lexes view r (Ok ts)
scanned-only view r text ts h lexed = scanned-gives view r text (Ok ts) (lexed-whole text ts lexed) h

pub scanned-refuses : {X : Type 0} (view : X → List Lexeme) (r : Result X LexError) (text : List ℕ) (e : LexError) → IsPlain text → Lexes view r (whole text) → IsRefused text e → Lexes view r (Err e)
scanned-refuses view r text e plain h refused = scanned-gives view r text (Err e) (refused-whole text e plain refused) h

error-refused : {X : Type 0} (view : X → List Lexeme) (e : LexError) (text : List ℕ) → IsPlain text → Lexes {X = X} view (Err e) (whole text) → (e ≡ errors.OutOfMemory) ⊎ IsRefused text e
error-refused view errors.OutOfMemory text plain h = inl refl
error-refused view errors.TooLong text plain h = inr (answer-is text (Err errors.TooLong) plain h)
error-refused view errors.NotAscii text plain h = inr (answer-is text (Err errors.NotAscii) plain h)
error-refused view (errors.NoToken byte) text plain h = inr (answer-is text (Err (errors.NoToken byte)) plain h)
error-refused view (errors.NumberTooLarge byte) text plain h = inr (answer-is text (Err (errors.NumberTooLarge byte)) plain h)
error-refused view (errors.LongRun byte) text plain h = inr (answer-is text (Err (errors.LongRun byte)) plain h)

pub scanned-refused : {X : Type 0} (view : X → List Lexeme) (r : Result X LexError) (text : List ℕ) → IsPlain text → Lexes view r (whole text) → IfErr r (λ e. (e ≡ errors.OutOfMemory) ⊎ IsRefused text e)
scanned-refused view (Ok x) text plain h = tt
scanned-refused view (Err e) text plain h = error-refused view e text plain h

-- ---- a text that is too long, or has a byte above 127, is neither accepted nor refused for another reason

pub long-not_lexed : {P : Type 0} (text : List ℕ) (ts : List Placed) → 1048576 < length text → IsLexed text ts → P
long-not_lexed text ts long lexed = absurd (omega (arith, long, lexed.0.0))

pub wide-not_lexed : {P : Type 0} (text : List ℕ) (ts : List Placed) → IsNotAscii text → IsLexed text ts → P
wide-not_lexed text ts wide lexed = let below = lexed.0.1 wide.0 in absurd (omega (arith, below, wide.1))

plain-not_long : {P : Type 0} (text : List ℕ) → 1048576 < length text → IsPlain text → P
plain-not_long text long plain = absurd (omega (arith, long, plain.0))

plain-not_wide : {P : Type 0} (text : List ℕ) → IsNotAscii text → IsPlain text → P
plain-not_wide text wide plain = let below = plain.1 wide.0 in absurd (omega (arith, below, wide.1))

pub long-refuses : {X : Type 0} (view : X → List Lexeme) (text : List ℕ) (e : LexError) → 1048576 < length text → IsRefused text e → Lexes {X = X} view (Err errors.TooLong) (Err e)
long-refuses view text errors.TooLong long h = refl
long-refuses view text errors.NotAscii long h = absurd (omega (arith, long, h.0))
long-refuses view text (errors.NoToken byte) long h = plain-not_long text long h.0
long-refuses view text (errors.NumberTooLarge byte) long h = plain-not_long text long h.0
long-refuses view text (errors.LongRun byte) long h = plain-not_long text long h.0
long-refuses view text errors.OutOfMemory long h = absurd h

pub wide-refuses : {X : Type 0} (view : X → List Lexeme) (text : List ℕ) (e : LexError) → length text ≤ 1048576 → IsNotAscii text → IsRefused text e → Lexes {X = X} view (Err errors.NotAscii) (Err e)
wide-refuses view text errors.TooLong small wide h = absurd (omega (arith, small, h))
wide-refuses view text errors.NotAscii small wide h = refl
wide-refuses view text (errors.NoToken byte) small wide h = plain-not_wide text wide h.0
wide-refuses view text (errors.NumberTooLarge byte) small wide h = plain-not_wide text wide h.0
wide-refuses view text (errors.LongRun byte) small wide h = plain-not_wide text wide h.0
wide-refuses view text errors.OutOfMemory small wide h = absurd h
