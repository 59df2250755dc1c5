-- A name or a constant alone, and loops that take operator after operator.
use Rattle.std.proofs.Common.{◌≡◌, ◌<◌, ◌≤◌, ◌&&◌, ℕ, zero, suc, Bool, true, false, true≢false, nat_le, List, ◌∷◌, Result, Ok, Err, refl, ap, sym, ◌∙◌, cond}
use Rattle.std.specs.Result.{is_ok}
use Rattle.std.proofs.lemmas.Bool.{lt-leb, le-leb}
use Rattle.lutree.specs.declared.expr.Condition.{Condition}
use Rattle.lutree.specs.declared.expr.Infix.{Infix}
use Rattle.lutree.specs.declared.expr.Expr.{Expr}
use Rattle.lutree.specs.Tree.{Tree, view}
use Rattle.lutree.specs.Tree as t
use Rattle.lusyn_grammar.specs.declared.token.Fixed.TheVariants as f
use Rattle.lusyn_grammar.specs.Tokens.{Tok, identifier, number, fixed}
use Rattle.lusyn_grammar.specs.Tokens.{level, left, right}
use Rattle.lusyn_grammar.specs.Reading.{Read, ◌>>=◌, operator, nothing, parenthesis, clock, next, tail, condition, step, climb, after, begins, named, named_by, head, whole, expr, at_level}
use Rattle.lusyn_grammar.specs.declared.token.Lexeme.{Lexeme}
use Rattle.lusyn_parser.specs.declared.error.Stop.{Stop}
use Rattle.lusyn_parser.specs.declared.error.Stop.TheVariants as stops_by
use Rattle.lusyn_parser.specs.declared.pieces.Next as pieces
use Rattle.lusyn_parser.specs.declared.pieces.Next.TheVariants as nexts
use Rattle.lusyn_parser.specs.Gives.{EndsOperand, Fails, ahead}

abbrev pub Reader : Type 0
Reader = ℕ → List Tok → Read Tree

stays : (read : Reader) (least : ℕ) (ts : List Tok) → ((go : ℕ → Tree → List Tok → Read Tree) (found : Tree) → step read go least 10 found ts (next ts) ≡ Ok (found, ts))
    → (turns : ℕ) (found : Tree) → climb read turns least 10 found ts ≡ Ok (found, ts)
unfolding climb
stays read least ts h zero found = refl
stays read least ts h (suc n) found = h (climb read n least) found

skips : (read : Reader) (go : ℕ → Tree → List Tok → Read Tree) (least : ℕ) (found : Tree) (ts : List Tok) (op : Infix) → level op < least
    → step read go least 10 found ts (operator op) ≡ Ok (found, ts)
skips read go least found ts op less =
    ap (λ (b : Bool). cond (b && nat_le (left op) 10) (read (right op) (tail ts) >>= λ x. go (level op) (t.binary op found x.0) x.1) (Ok (found, ts))) (lt-leb least (level op) less)

pub ends-by-operator : (least : ℕ) (ts : List Tok) (op : Infix) → begins f.Open ts ≡ false → next ts ≡ operator op → level op < least → EndsOperand least ts
ends-by-operator least ts op uncalled is less = record {
  uncalled = uncalled;
  stays = λ read turns found. stays read least ts (λ go other. ap (step read go least 10 other ts) is ∙ skips read go least other ts op less) turns found;
}

pub ends-by-nothing : (least : ℕ) (ts : List Tok) → begins f.Open ts ≡ false → next ts ≡ nothing → EndsOperand least ts
ends-by-nothing least ts uncalled is = record {
  uncalled = uncalled;
  stays = λ read turns found. stays read least ts (λ go other. ap (step read go least 10 other ts) is) turns found;
}

of-variable : (read : Reader) (n : ℕ) (x : List ℕ) (ts : List Tok) (r : Result (List Tok) (List Tok)) → is_ok r ≡ false → named_by read n x ts r ≡ Ok (t.variable x, ts)
of-variable read n x ts (Err us) e = refl
of-variable read n x ts (Ok rest) e = absurd (true≢false e)

pub alone-name : (least depth : ℕ) (x : List ℕ) (ts : List Tok) → EndsOperand least ts → expr (suc depth) least (identifier x ∷ ts) ≡ Ok (t.variable x, ts)
unfolding expr whole head named
alone-name least depth x ts h =
    ap (λ (r : Read Tree). at_level 10 r >>= λ y. climb (expr depth) depth least y.0 y.1 y.2) (of-variable (expr depth) depth x ts (after f.Open ts) h.uncalled)
    ∙ h.stays (expr depth) depth (t.variable x)

pub alone-number : (least depth : ℕ) (k : ℕ) (ts : List Tok) → EndsOperand least ts → expr (suc depth) least (number k ∷ ts) ≡ Ok (t.number k, ts)
unfolding expr whole head
alone-number least depth k ts h = h.stays (expr depth) depth (t.number k)

pub alone-true : (least depth : ℕ) (ts : List Tok) → EndsOperand least ts → expr (suc depth) least (fixed f.True ∷ ts) ≡ Ok (t.truth true, ts)
unfolding expr whole head
alone-true least depth ts h = h.stays (expr depth) depth (t.truth true)

pub alone-false : (least depth : ℕ) (ts : List Tok) → EndsOperand least ts → expr (suc depth) least (fixed f.False ∷ ts) ≡ Ok (t.truth false, ts)
unfolding expr whole head
alone-false least depth ts h = h.stays (expr depth) depth (t.truth false)

abbrev the_ok : Tree → Result Tree (List Tok)
the_ok e = Ok e

-- an operand that lies in memory of its own is the same operand
pub binary-of : (op : Infix) (kept found : Expr) (other all : Tree) → kept ≡ found → the_ok (t.binary op (view kept) other) ≡ Ok all
    → the_ok (t.binary op (view found) other) ≡ Ok all
binary-of op kept found other all e h = let of : Expr → Result Tree (List Tok) = λ x. the_ok (t.binary op (view x) other) in ap of (sym e) ∙ h

pub when-of : (kept found : Expr) (c : Condition) (all : Tree) → kept ≡ found → all ≡ t.when (view kept) c → the_ok (t.when (view found) c) ≡ Ok all
when-of kept found c all e h = let of : Expr → Result Tree (List Tok) = λ x. the_ok (t.when (view x) c) in ap of (sym e) ∙ ap the_ok (sym h)

-- an operator after an operand, and how reading goes on behind it
module _ (read : Reader) (turns less least at : ℕ) (found : Tree) (op : Infix) (ts rest : List Tok) (more : turns ≡ suc less) (is : operator op ≡ next ts) (past : rest ≡ tail ts) where
  abbrev onward : Tree × List Tok → Read Tree
  onward x = climb read less least (level op) (t.binary op found x.0) x.1

  begun : climb read turns least at found ts ≡ cond (nat_le least (level op) && nat_le (left op) at) (read (right op) rest >>= onward) (Ok (found, ts))
  unfolding climb
  begun =
      ap (λ (n : ℕ). climb read n least at found ts) more
      ∙ ap (step read (climb read less least) least at found ts) (sym is)
      ∙ ap (λ (us : List Tok). cond (nat_le least (level op) && nat_le (left op) at) (read (right op) us >>= onward) (Ok (found, ts))) (sym past)

  taken : least ≤ level op → left op ≤ at → climb read turns least at found ts ≡ (read (right op) rest >>= onward)
  taken enough fits =
      begun
      ∙ ap (λ (b : Bool). cond (b && nat_le (left op) at) (read (right op) rest >>= onward) (Ok (found, ts))) (le-leb least (level op) enough)
      ∙ ap (λ (b : Bool). cond b (read (right op) rest >>= onward) (Ok (found, ts))) (le-leb (left op) at fits)

  pub operator-taken : least ≤ level op → left op ≤ at → (asked new : ℕ) (other all : Tree) (us : List Tok) → asked ≡ right op → read asked rest ≡ Ok (other, us)
      → new ≡ level op → the_ok (t.binary op found other) ≡ Ok all → climb read less least new all us ≡ climb read turns least at found ts
  operator-taken enough fits asked new other all us asked_is e new_is all_is =
      let onwards : Result Tree (List Tok) → Read Tree = λ r. r >>= λ y. climb read less least new y us in
      sym
      (taken enough fits
      ∙ ap (λ (n : ℕ). read n rest >>= onward) (sym asked_is)
      ∙ ap (λ (r : Read Tree). r >>= onward) e
      ∙ ap (λ (n : ℕ). climb read less least n (t.binary op found other) us) (sym new_is)
      ∙ ap onwards all_is)

  operator-refused : least ≤ level op → left op ≤ at → (asked : ℕ) (us : List Tok) → asked ≡ right op → read asked rest ≡ Err us → climb read turns least at found ts ≡ Err us
  operator-refused enough fits asked us asked_is e = taken enough fits ∙ ap (λ (n : ℕ). read n rest >>= onward) (sym asked_is) ∙ ap (λ (r : Read Tree). r >>= onward) e

  pub operator-fails : least ≤ level op → left op ≤ at → (asked : ℕ) (ls : List Lexeme) (error : Stop) → asked ≡ right op → Fails ls error (read asked rest)
      → Fails ls error (climb read turns least at found ts)
  operator-fails enough fits asked ls stops_by.OutOfMemory asked_is h = tt
  operator-fails enough fits asked ls (stops_by.Refused q) asked_is h = operator-refused enough fits asked (ahead ls q) asked_is h

  pub operator-unfit : least ≤ level op → at < left op → climb read turns least at found ts ≡ Ok (found, ts)
  operator-unfit enough unfit =
      begun
      ∙ ap (λ (b : Bool). cond (b && nat_le (left op) at) (read (right op) rest >>= onward) (Ok (found, ts))) (le-leb least (level op) enough)
      ∙ ap (λ (b : Bool). cond b (read (right op) rest >>= onward) (Ok (found, ts))) (lt-leb (left op) at unfit)

  pub operator-loose : level op < least → climb read turns least at found ts ≡ Ok (found, ts)
  operator-loose loose =
      begun ∙ ap (λ (b : Bool). cond (b && nat_le (left op) at) (read (right op) rest >>= onward) (Ok (found, ts))) (lt-leb least (level op) loose)

-- `when` after an operand, and how reading goes on behind it
module _ (read : Reader) (turns less least at : ℕ) (found : Tree) (ts rest : List Tok) (more : turns ≡ suc less) (is : clock ≡ next ts) (past : rest ≡ tail ts) where
  abbrev clocked : Condition × List Tok → Read Tree
  clocked x = climb read less least 9 (t.when found x.0) x.1

  opened : climb read turns least at found ts ≡ cond (nat_le least 9 && nat_le 9 at) (condition rest >>= clocked) (Ok (found, ts))
  unfolding climb
  opened =
      ap (λ (n : ℕ). climb read n least at found ts) more
      ∙ ap (step read (climb read less least) least at found ts) (sym is)
      ∙ ap (λ (us : List Tok). cond (nat_le least 9 && nat_le 9 at) (condition us >>= clocked) (Ok (found, ts))) (sym past)

  sampled : least ≤ 9 → 9 ≤ at → climb read turns least at found ts ≡ (condition rest >>= clocked)
  sampled enough fits =
      opened
      ∙ ap (λ (b : Bool). cond (b && nat_le 9 at) (condition rest >>= clocked) (Ok (found, ts))) (le-leb least 9 enough)
      ∙ ap (λ (b : Bool). cond b (condition rest >>= clocked) (Ok (found, ts))) (le-leb 9 at fits)

  pub clock-taken : least ≤ 9 → 9 ≤ at → (c : Condition) (all : Tree) (us : List Tok) → condition rest ≡ Ok (c, us)
      → the_ok (t.when found c) ≡ Ok all → climb read less least 9 all us ≡ climb read turns least at found ts
  clock-taken enough fits c all us e all_is =
      let onwards : Result Tree (List Tok) → Read Tree = λ r. r >>= λ y. climb read less least 9 y us in
      sym (sampled enough fits ∙ ap (λ (r : Read Condition). r >>= clocked) e ∙ ap onwards all_is)

  pub clock-fails : least ≤ 9 → 9 ≤ at → (ls : List Lexeme) (error : Stop) → Fails ls error (condition rest) → Fails ls error (climb read turns least at found ts)
  clock-fails enough fits ls stops_by.OutOfMemory h = tt
  clock-fails enough fits ls (stops_by.Refused q) h = sampled enough fits ∙ ap (λ (r : Read Condition). r >>= clocked) h

-- where the operator doesn't fit its place, or nothing goes on
module _ (read : Reader) (turns less least at : ℕ) (found : Tree) (ts : List Tok) (more : turns ≡ suc less) where
  pub nothing-more : next ts ≡ nothing → climb read turns least at found ts ≡ Ok (found, ts)
  unfolding climb
  nothing-more is = ap (λ (n : ℕ). climb read n least at found ts) more ∙ ap (step read (climb read less least) least at found ts) is

  pub parenthesis-stops : next ts ≡ parenthesis → climb read turns least at found ts ≡ Ok (found, ts)
  unfolding climb
  parenthesis-stops is = ap (λ (n : ℕ). climb read n least at found ts) more ∙ ap (step read (climb read less least) least at found ts) is

is_operator : pieces.Next → Bool
is_operator (nexts.Operator op) = true
is_operator x = false

is_clock : pieces.Next → Bool
is_clock nexts.Clock = true
is_clock x = false

pub no-depth : (depth least : ℕ) (ts : List Tok) → depth ≡ 0 → expr depth least ts ≡ Err ts
unfolding expr
no-depth depth least ts is = ap (λ (n : ℕ). expr n least ts) is

pub operator-is-something : (op : Infix) → nexts.Operator op ≡ nexts.Nothing → ⊥
unfolding is_operator
operator-is-something op e = let never : true ≡ false = ap is_operator e in absurd (true≢false never)

pub clock-is-something : nexts.Clock ≡ nexts.Nothing → ⊥
unfolding is_clock
clock-is-something e = let never : true ≡ false = ap is_clock e in absurd (true≢false never)
