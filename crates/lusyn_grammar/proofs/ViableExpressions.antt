-- What stands before a refused token of an expression goes on to an expression.
use Rattle.std.proofs.Common.{◌≡◌, ◌⊎◌, inl, inr, ◌≤◌, ◌<◌, ◌+◌, ℕ, zero, suc, Option, Some, None, Result, Ok, Err, List, ◌∷◌, [], ◌++◌, length, refl, ap, sym, subst, ◌∙◌, arith, true, false, ◌&&◌, nat_le}
use Rattle.std.proofs.lemmas.Bool.{and_parts, leb-true}
use Rattle.lutree.specs.declared.expr.Pattern.{Pattern}
use Rattle.lutree.specs.declared.expr.Condition.{Condition}
use Rattle.lutree.specs.declared.expr.Prefix.{Prefix}
use Rattle.lutree.specs.declared.expr.Infix.{Infix}
use Rattle.lutree.specs.Tree.{Tree, trees_of}
use Rattle.lutree.specs.Tree as t
use Rattle.lusyn_grammar.specs.declared.token.Fixed.{Fixed}
use Rattle.lusyn_grammar.specs.declared.token.Fixed.TheVariants as f
use Rattle.lusyn_grammar.specs.Tokens.{Tok, identifier, number, fixed}
use Rattle.lusyn_grammar.specs.Tokens.{infix_token, prefix_token, prefix_of, level, left, right}
use Rattle.lusyn_grammar.specs.Grammar.{Written, Writtens, tokens, further, branches, level_of, IsProper, AreProper, AreBranches, IsBare, truths, repeated, Each, when_tokens}
use Rattle.lusyn_grammar.specs.Grammar as w
use Rattle.lusyn_grammar.specs.Reading.{Read, ◌>>=◌, Next, operator, clock, parenthesis, nothing, next, tail, after, begins, name, on_truth, on_label, labelled_clock, clock_from_by, clock_from, condition_by, condition, many, step, climb, further_operand, closed, operands_by, operands, named_by, named, choice, inside, branch, merged, by_truths, labelled, further_branch, by_labels, merge_by, merge, current, at_level, allowed, prefixed, head, whole, expr}
use Rattle.lusyn_grammar.proofs.Tables.{right_high, next-is_operator, next-is_clock, prefix_of-is}
use Rattle.lusyn_grammar.proofs.Pieces.{bind_ok, tested, same_ok}
use Rattle.lusyn_grammar.proofs.SoundExpressions.{between, between-tokens, Labelled, labelled_tokens, IsProperBranch, labels_of, branches_of, branches-of, branches_proper, as_many, labels_bare}
use Rattle.lusyn_grammar.proofs.Viable.{Part, Front, front_here, front_token, front_both, front_less, Partial, partial_token, partial_behind, Done, Stopped, Some_part, Reader, reader_less, reader_along, reader_same, reader_ok, reader_then, reader_after, reader_name, reader_case, reader_many, bind_err, Here, Named, some_here, some_name, some_along, some_then, some_after, stopped_here, shorter, Spelled, Led as LedBy, reader_led as reader_led_by}

-- a written expression of this level or above
abbrev pub Level : ℕ → Part → Type 0
Level least d = (c : Written) × (least ≤ level_of c) × IsProper c × ((rest : List Tok) → d rest ≡ tokens c rest)

-- the smallest one
pub some_level : (least : ℕ) → least ≤ 10 → Some_part (Level least) 1
some_level least low = record {
  part = λ rest. identifier [] ∷ rest;
  good = (w.variable [], low, tt, λ rest. refl);
  front = front_token (identifier []) front_here;
}

abbrev pub ReadsAll : ℕ → (ℕ → List Tok → Read Tree) → Type 0
ReadsAll most read = (least : ℕ) → least ≤ 10 → Reader (Level least) 1 most (read least)

refused_all : {A : Type 0} (ts us : List Tok) → ◌≡◌ {A = Result A (List Tok)} (Err ts) (Err us) → us ≡ ts
refused_all ts us e = cc

err_tree : (vs us : List Tok) → ◌≡◌ {A = Result (ℕ × Tree × List Tok) (List Tok)} (Err vs) (Err us) → ◌≡◌ {A = Read Tree} (Err vs) (Err us)
err_tree vs us e = cc

-- a parenthesis that closes
abbrev Closing : Part → Type 0
Closing d = (rest : List Tok) → d rest ≡ fixed f.Close ∷ rest

some_closing : Some_part Closing 1
some_closing = record { part = λ rest. fixed f.Close ∷ rest; good = λ rest. refl; front = front_token (fixed f.Close) front_here }

reader_closing : {A : Type 0} {more : ℕ} (v : A) → Reader Closing 1 (suc more) (λ ts. after f.Close ts >>= λ rest. Ok (v, rest))
reader_closing {more = more} v = reader_after f.Close (λ rest. Ok (v, rest)) (λ e here rest. ap (λ (us : List Tok). fixed f.Close ∷ us) (here rest)) some_here (reader_ok {most = more} v)

-- a clock behind `when`
abbrev pub Clocked : Part → Type 0
Clocked d = (c : Condition) × IsBare c.pattern × ((rest : List Tok) → fixed f.When ∷ d rest ≡ when_tokens c rest)

-- a name and the parenthesis behind it
abbrev Enclosed : Part → Type 0
Enclosed d = (x : List ℕ) × ((rest : List Tok) → d rest ≡ identifier x ∷ fixed f.Close ∷ rest)

-- what may stand behind the first name of a clock: nothing, or a name in parentheses
abbrev BehindName : Part → Type 0
BehindName d = Here d ⊎ ((x : List ℕ) × ((rest : List Tok) → d rest ≡ fixed f.Open ∷ identifier x ∷ fixed f.Close ∷ rest))

enclosed : (d e : Part) → Named d → Closing e → Enclosed (λ rest. d (e rest))
enclosed d e (x, h) close = (x, λ rest. h (e rest) ∙ ap (λ (us : List Tok). identifier x ∷ us) (close rest))

labelled_clock_reader : {most : ℕ} (label : List ℕ) → Reader Enclosed 2 most (labelled_clock label)
labelled_clock_reader {most = most} label =
    reader_then {most = most} name (λ x ts. after f.Close ts >>= λ rest. Ok (on_label label x, rest)) enclosed some_closing (omega arith) reader_name (λ x. reader_closing {more = most} (on_label label x))

clock_from_reader : {most : ℕ} (v : List ℕ) → Reader BehindName 0 most (clock_from v)
clock_from_reader {most = most} v =
    reader_case {D = Here} {E = Enclosed} {most = most} {more = most} f.Open (λ ts. Ok (on_truth true v, ts)) (labelled_clock v) (clock_from_by v)
    (λ d here. inl here) (λ e (x, h). inr (x, λ rest. ap (λ (us : List Tok). fixed f.Open ∷ us) (h rest)))
    (omega arith) (omega arith) (omega arith) (λ ts us. refl) (λ ts rest. refl) (reader_ok (on_truth true v)) (labelled_clock_reader v)

clocked_by : (d e : Part) → Named d → BehindName e → Clocked (λ rest. d (e rest))
clocked_by d e (v, h) (inl here) = (on_truth true v, tt, λ rest. ap (λ (us : List Tok). fixed f.When ∷ us) (h (e rest) ∙ ap (λ (us : List Tok). identifier v ∷ us) (here rest)))
clocked_by d e (v, h) (inr (x, k)) = (on_label v x, refl, λ rest. ap (λ (us : List Tok). fixed f.When ∷ us) (h (e rest) ∙ ap (λ (us : List Tok). identifier v ∷ us) (k rest)))

negated_reader : {most : ℕ} → Reader Named 1 most (λ ts. name ts >>= λ x. Ok (on_truth false x.0, x.1))
negated_reader {most = most} =
    let k : List ℕ → List Tok → Read Condition = λ x ts. Ok (on_truth false x, ts) in
    reader_then {most = most} name k (λ d e (x, h) here. (x, λ rest. h (e rest) ∙ ap (λ (us : List Tok). identifier x ∷ us) (here rest))) some_here (omega arith) reader_name (λ v. reader_ok {most = most} (on_truth false v))

from_name_reader : {most : ℕ} → Reader Clocked 1 most (λ ts. name ts >>= λ x. clock_from x.0 x.1)
from_name_reader {most = most} =
    reader_then {most = most} name clock_from clocked_by (some_along (λ d here. inl here) some_here) (omega arith) reader_name (λ v. clock_from_reader {most = most} v)

pub reader_condition : {most : ℕ} → Reader Clocked 1 most condition
reader_condition {most = most} =
    reader_case {D = Clocked} {E = Named} {most = most} {more = most} f.Not (λ ts. name ts >>= λ x. clock_from x.0 x.1) (λ ts. name ts >>= λ x. Ok (on_truth false x.0, x.1)) condition_by
    (λ d h. h) (λ d (x, h). (on_truth false x, tt, λ rest. ap (λ (us : List Tok). fixed f.When ∷ fixed f.Not ∷ us) (h rest)))
    (omega arith) (omega arith) (omega arith) (λ ts us. refl) (λ ts rest. refl) from_name_reader negated_reader

pub some_condition : Some_part Clocked 1
some_condition = record {
  part = λ rest. identifier [] ∷ rest;
  good = (on_truth true [], tt, λ rest. refl);
  front = front_token (identifier []) front_here;
}

-- ---- what follows an operand

-- it makes an expression of this level or above out of each one of the level `at`
abbrev pub Turns : ℕ → ℕ → Part → Type 0
Turns least at e = (c : Written) → IsProper c → level_of c ≡ at → (d : Written) × (least ≤ level_of d) × IsProper d × ((rest : List Tok) → tokens c (e rest) ≡ tokens d rest)

turns_none : (least at : ℕ) → least ≤ at → (e : Part) → Here e → Turns least at e
turns_none least at low e here = λ c p is. (c, omega (arith, low, is), p, λ rest. ap (tokens c) (here rest))

some_turns : (least at : ℕ) → least ≤ at → Some_part (Turns least at) 0
some_turns least at low = some_along (turns_none least at low) some_here

turns_operator : (least at : ℕ) (op : Infix) → left op ≤ at → (d e : Part) → Level (right op) d → Turns least (level op) e → Turns least at (λ rest. fixed (infix_token op) ∷ d (e rest))
turns_operator least at op fits d e (b, high, q, h) turns = λ c p is.
    let (x, low, proper, k) = turns (w.binary op c b) (omega (arith, fits, is), high, p, q) refl in
    (x, low, proper, λ rest. ap (λ (us : List Tok). tokens c (fixed (infix_token op) ∷ us)) (h (e rest)) ∙ k rest)

turns_clock : (least at : ℕ) → 9 ≤ at → (d e : Part) → Clocked d → Turns least 9 e → Turns least at (λ rest. fixed f.When ∷ d (e rest))
turns_clock least at fits d e (b, bare, h) turns = λ c p is.
    let (x, low, proper, k) = turns (w.when c b) (omega (arith, fits, is), p, bare) refl in
    (x, low, proper, λ rest. ap (tokens c) (h (e rest)) ∙ k rest)

module _ (most : ℕ) (read : ℕ → List Tok → Read Tree) (reads : ReadsAll most read) where
  abbrev Goes : ℕ → (ℕ → Tree → List Tok → Read Tree) → Type 0
  Goes least go = (at : ℕ) (found : Tree) → least ≤ at → Reader (Turns least at) 0 most (go at found)

  operator_reader : (least : ℕ) (go : ℕ → Tree → List Tok → Read Tree) (op : Infix) (at : ℕ) (found : Tree) → Goes least go → least ≤ level op → left op ≤ at
      → Reader (λ e. Turns least at (λ rest. fixed (infix_token op) ∷ e rest)) 0 most (λ ts. read (right op) ts >>= λ x. go (level op) (t.binary op found x.0) x.1)
  operator_reader least go op at found goes low fits =
      let high = right_high op in
      reader_less (omega arith) (omega arith)
      (reader_then (read (right op)) (λ x ts. go (level op) (t.binary op found x) ts) (turns_operator least at op fits) (some_turns least (level op) low) (omega arith)
      (reads (right op) (omega (arith, high))) (λ v. goes (level op) (t.binary op found v) low))

  clock_reader : (least : ℕ) (go : ℕ → Tree → List Tok → Read Tree) (at : ℕ) (found : Tree) → Goes least go → least ≤ 9 → 9 ≤ at
      → Reader (λ e. Turns least at (λ rest. fixed f.When ∷ e rest)) 0 most (λ ts. condition ts >>= λ x. go 9 (t.when found x.0) x.1)
  clock_reader least go at found goes low fits =
      reader_less (omega arith) (omega arith)
      (reader_then condition (λ x ts. go 9 (t.when found x) ts) (turns_clock least at fits) (some_turns least 9 low) (omega arith) (reader_condition {most = most}) (λ v. goes 9 (t.when found v) low))

  -- what follows a token that was looked at
  led_done : {A : Type 0} {D : Part → Type 0} (p : List Tok → Read A) (x : Tok) (ts : List Tok) (y : A × List Tok) → x ∷ tail ts ≡ ts → Reader (λ e. D (λ rest. x ∷ e rest)) 0 most p
      → p (tail ts) ≡ Ok y → Done D 0 ts y.1
  led_done p x ts y is h e =
      let k = h.done (tail ts) y e in
      record { part = λ rest. x ∷ k.part rest; good = k.good; front = front_less (omega arith) (front_token x k.front); at = ap (λ (us : List Tok). x ∷ us) k.at ∙ is }

  led_stopped : {A : Type 0} {D : Part → Type 0} (p : List Tok → Read A) (x : Tok) (ts us : List Tok) → x ∷ tail ts ≡ ts → Reader (λ e. D (λ rest. x ∷ e rest)) 0 most p
      → length ts < suc most → p (tail ts) ≡ Err us → Stopped D ts us
  led_stopped p x ts us is h short e =
      let count = ap length is in
      let k = h.stopped (tail ts) us (omega (arith, count, short)) e in
      record { part = λ rest. x ∷ k.part rest; good = k.good; begun = subst (λ (vs : List Tok). Partial (λ rest. x ∷ k.part rest) vs us) is (partial_token x k.begun) }

  none_done : (least at : ℕ) (found : Tree) (ts : List Tok) (y : Tree × List Tok) → least ≤ at → ◌≡◌ {A = Read Tree} (Ok (found, ts)) (Ok y) → Done (Turns least at) 0 ts y.1
  none_done least at found ts y low e =
      record { part = λ rest. rest; good = turns_none least at low (λ rest. rest) (λ rest. refl); front = front_here; at = ap (λ (z : Tree × List Tok). z.1) (sym (same_ok (found, ts) y e)) }

  step_done : (least : ℕ) (go : ℕ → Tree → List Tok → Read Tree) (at : ℕ) (found : Tree) (ts : List Tok) (y : Tree × List Tok) → Goes least go → least ≤ at
      → (k : Next) → next ts ≡ k → step read go least at found ts k ≡ Ok y → Done (Turns least at) 0 ts y.1
  step_done least go at found ts y goes low nothing k e = none_done least at found ts y low e
  step_done least go at found ts y goes low parenthesis k e = none_done least at found ts y low e
  step_done least go at found ts y goes low (operator op) k e =
      tested (nat_le least (level op) && nat_le (left op) at) _ _ _ e
      (λ held first. let h = and_parts (nat_le least (level op)) (nat_le (left op) at) held in
      led_done (λ us. read (right op) us >>= λ x. go (level op) (t.binary op found x.0) x.1) (fixed (infix_token op)) ts y (next-is_operator ts op k)
      (operator_reader least go op at found goes (leb-true _ _ h.0) (leb-true _ _ h.1)) first)
      (λ failed last. none_done least at found ts y low last)
  step_done least go at found ts y goes low clock k e =
      tested (nat_le least 9 && nat_le 9 at) _ _ _ e
      (λ held first. let h = and_parts (nat_le least 9) (nat_le 9 at) held in
      led_done (λ us. condition us >>= λ x. go 9 (t.when found x.0) x.1) (fixed f.When) ts y (next-is_clock ts k)
      (clock_reader least go at found goes (leb-true _ _ h.0) (leb-true _ _ h.1)) first)
      (λ failed last. none_done least at found ts y low last)

  step_stopped : (least : ℕ) (go : ℕ → Tree → List Tok → Read Tree) (at : ℕ) (found : Tree) (ts us : List Tok) → Goes least go → least ≤ at → length ts < suc most
      → (k : Next) → next ts ≡ k → step read go least at found ts k ≡ Err us → Stopped (Turns least at) ts us
  step_stopped least go at found ts us goes low short nothing k e = absurd cc
  step_stopped least go at found ts us goes low short parenthesis k e = absurd cc
  step_stopped least go at found ts us goes low short (operator op) k e =
      tested (nat_le least (level op) && nat_le (left op) at) _ _ _ e
      (λ held first. let h = and_parts (nat_le least (level op)) (nat_le (left op) at) held in
      led_stopped (λ vs. read (right op) vs >>= λ x. go (level op) (t.binary op found x.0) x.1) (fixed (infix_token op)) ts us (next-is_operator ts op k)
      (operator_reader least go op at found goes (leb-true _ _ h.0) (leb-true _ _ h.1)) short first)
      (λ failed last. absurd cc)
  step_stopped least go at found ts us goes low short clock k e =
      tested (nat_le least 9 && nat_le 9 at) _ _ _ e
      (λ held first. let h = and_parts (nat_le least 9) (nat_le 9 at) held in
      led_stopped (λ vs. condition vs >>= λ x. go 9 (t.when found x.0) x.1) (fixed f.When) ts us (next-is_clock ts k)
      (clock_reader least go at found goes (leb-true _ _ h.0) (leb-true _ _ h.1)) short first)
      (λ failed last. absurd cc)

  climb_reader : (n least at : ℕ) (found : Tree) → least ≤ at → Reader (Turns least at) 0 (suc most) (climb read n least at found)
  unfolding climb
  climb_reader zero least at found low = record {
    done = λ ts y e. none_done least at found ts y low e;
    stopped = λ ts us short e. absurd cc;
  }
  climb_reader (suc n) least at found low =
      let goes : Goes least (climb read n least) = λ a z b. reader_less (omega arith) (omega arith) (climb_reader n least a z b) in
      record {
        done = λ ts y e. step_done least (climb read n least) at found ts y goes low (next ts) refl e;
        stopped = λ ts us short e. step_stopped least (climb read n least) at found ts us goes low short (next ts) refl e;
      }

  -- ---- operands before any operator

  closed_bind : {A : Type 0} (r : Read A) → closed r ≡ (r >>= λ x. after f.Close x.1 >>= λ rest. Ok (x.0, rest))
  closed_bind (Err us) = refl
  closed_bind (Ok x) = refl

  reader_closed : {A : Type 0} {D F : Part → Type 0} {least more : ℕ} (p : List Tok → Read A) → ((d e : Part) → D d → Closing e → F (λ rest. d (e rest))) → Reader D least more p → Reader F (least + 1) more (λ ts. closed (p ts))
  reader_closed {more = more} p both h =
      reader_same (λ ts. p ts >>= λ x. after f.Close x.1 >>= λ rest. Ok (x.0, rest)) (λ ts. closed (p ts)) (λ ts. closed_bind (p ts))
      (reader_then p (λ v ts. after f.Close ts >>= λ rest. Ok (v, rest)) both some_closing (omega arith) h (λ v. reader_closing {more = more} v))

  -- `, e`
  abbrev Operand : Part → Type 0
  Operand d = (c : Written) × IsProper c × ((rest : List Tok) → d rest ≡ fixed f.Comma ∷ tokens c rest)

  abbrev Further : Part → Type 0
  Further d = (cs : Writtens) × AreProper cs × ((rest : List Tok) → d rest ≡ further cs rest)

  further_more : (d e : Part) → Operand d → Further e → Further (λ rest. d (e rest))
  further_more d e (c, p, h) (cs, ps, k) = (w.more c cs, (p, ps), λ rest. h (e rest) ∙ ap (λ (us : List Tok). fixed f.Comma ∷ tokens c us) (k rest))

  level_here : (least : ℕ) (d e : Part) → Level least d → Here e → Level least (λ rest. d (e rest))
  level_here least d e (c, b, p, h) here = (c, b, p, λ rest. h (e rest) ∙ ap (tokens c) (here rest))

  further_reader : (found : List Tree) → Reader Operand 2 (suc most) (further_operand read found)
  further_reader found =
      let k : Tree → List Tok → Read (List Tree) = λ x ts. Ok (found ++ x ∷ [], ts) in
      reader_after f.Comma (λ rest. read 0 rest >>= λ x. k x.0 x.1) (λ e (c, b, p, h). (c, p, λ rest. ap (λ (us : List Tok). fixed f.Comma ∷ us) (h rest))) (some_level 0 (omega arith))
      (reader_then (read 0) k (level_here 0) some_here (omega arith) (reads 0 (omega arith)) (λ v. reader_ok {most = most} (found ++ v ∷ [])))

  -- one operand and those after it
  abbrev Listed : Part → Type 0
  Listed d = (c : Written) × (cs : Writtens) × IsProper c × AreProper cs × ((rest : List Tok) → d rest ≡ tokens c (further cs rest))

  listed : (d e : Part) → Level 0 d → Further e → Listed (λ rest. d (e rest))
  listed d e (c, b, p, h) (cs, ps, k) = (c, cs, p, ps, λ rest. h (e rest) ∙ ap (tokens c) (k rest))

  abbrev pub Between : Part → Type 0
  Between d = (cs : Writtens) × AreProper cs × ((rest : List Tok) → d rest ≡ between cs rest)

  between_some : (d e : Part) → Listed d → Closing e → Between (λ rest. d (e rest))
  between_some d e (c, cs, p, ps, h) close = (w.more c cs, (p, ps), λ rest. h (e rest) ∙ ap (λ (us : List Tok). tokens c (further cs us)) (close rest))

  pub operands_reader : Reader Between 1 most (operands read most)
  unfolding operands
  operands_reader =
      let others : List Tree → List Tok → Read (List Tree) = many (begins f.Comma) (further_operand read) most in
      let p : List Tok → Read (List Tree) = λ ts. read 0 ts >>= λ x. others (x.0 ∷ []) x.1 in
      reader_case {most = most} {more = most} f.Close (λ ts. closed (p ts)) (λ rest. Ok ([], rest)) (operands_by read most)
      (λ d h. h) (λ e here. (w.none, tt, λ rest. ap (λ (us : List Tok). fixed f.Close ∷ us) (here rest))) (omega arith) (omega arith) (omega arith) (λ ts us. refl) (λ ts rest. refl)
      (reader_closed p between_some
      (reader_then (read 0) (λ x ts. others (x ∷ []) ts) listed (some_along (λ d here. (w.none, tt, here)) some_here) (omega arith) (reads 0 (omega arith))
      (λ v. reader_many (begins f.Comma) (further_operand read) (λ d here. (w.none, tt, here)) further_more most (λ found. reader_less (omega arith) (omega arith) (further_reader found)) (v ∷ []))))
      (reader_ok [])

  -- with this token before it, it is an expression of this level
  abbrev Behind : Tok → ℕ → Part → Type 0
  Behind x at d = (c : Written) × IsProper c × (level_of c ≡ at) × ((rest : List Tok) → x ∷ d rest ≡ tokens c rest)

  named_reader : (v : List ℕ) → Reader (Behind (identifier v) 10) 0 most (named read most v)
  unfolding named
  named_reader v =
      let k : List Tree → List Tok → Read Tree = λ found ts. Ok (t.call v (trees_of found), ts) in
      reader_case {D = Here} {E = Between} {most = most} {more = most} f.Open (λ ts. Ok (t.variable v, ts)) (λ rest. operands read most rest >>= λ found. k found.0 found.1) (named_by read most v)
      (λ d here. (w.variable v, tt, refl, λ rest. ap (λ (us : List Tok). identifier v ∷ us) (here rest)))
      (λ e (cs, ps, h). (w.call v cs, ps, refl, λ rest. ap (λ (us : List Tok). identifier v ∷ fixed f.Open ∷ us) (h rest) ∙ sym (between-tokens v cs rest)))
      (omega arith) (omega arith) (omega arith) (λ ts us. refl) (λ ts rest. refl) (reader_ok (t.variable v))
      (reader_then (operands read most) k (λ d e (cs, ps, h) here. (cs, ps, λ rest. h (e rest) ∙ ap (between cs) (here rest))) some_here (omega arith) operands_reader (λ v2. reader_ok {most = most} (t.call v (trees_of v2))))

  -- an expression with this token before it
  abbrev Led : Fixed → Part → Type 0
  Led g d = (c : Written) × IsProper c × ((rest : List Tok) → d rest ≡ fixed g ∷ tokens c rest)

  led : (g : Fixed) (e : Part) → Level 0 e → Led g (λ rest. fixed g ∷ e rest)
  led g e (c, b, p, h) = (c, p, λ rest. ap (λ (us : List Tok). fixed g ∷ us) (h rest))

  -- two, of which the second has this token before it
  abbrev Two : Fixed → Part → Type 0
  Two g d = (a b : Written) × IsProper a × IsProper b × ((rest : List Tok) → d rest ≡ tokens a (fixed g ∷ tokens b rest))

  two : (g : Fixed) (d e : Part) → Level 0 d → Led g e → Two g (λ rest. d (e rest))
  two g d e (a, b, p, h) (c, q, k) = (a, c, p, q, λ rest. h (e rest) ∙ ap (tokens a) (k rest))

  some_led : (g : Fixed) → Some_part (Led g) 2
  some_led g = some_after g (led g) (some_level 0 (omega arith))

  some_two : (g : Fixed) → Some_part (Two g) 3
  some_two g = some_then (two g) (some_level 0 (omega arith)) (some_led g)

  choice_second : (a b : Tree) → Reader (Level 0) 1 most (λ ts. read 0 ts >>= λ x. Ok (t.choice a b x.0, x.1))
  choice_second a b =
      let k : Tree → List Tok → Read Tree = λ x ts. Ok (t.choice a b x, ts) in
      reader_then (read 0) k (level_here 0) some_here (omega arith) (reads 0 (omega arith)) (λ v. reader_ok {most = most} (t.choice a b v))

  choice_else : (a b : Tree) → Reader (Led f.Else) 2 (suc most) (λ ts. after f.Else ts >>= λ us. read 0 us >>= λ x. Ok (t.choice a b x.0, x.1))
  choice_else a b = reader_after f.Else (λ us. read 0 us >>= λ x. Ok (t.choice a b x.0, x.1)) (led f.Else) (some_level 0 (omega arith)) (choice_second a b)

  choice_first : (a : Tree) → Reader (Two f.Else) 3 most (λ ts. read 0 ts >>= λ y. after f.Else y.1 >>= λ us. read 0 us >>= λ x. Ok (t.choice a y.0 x.0, x.1))
  choice_first a =
      reader_then (read 0) (λ b ts. after f.Else ts >>= λ us. read 0 us >>= λ x. Ok (t.choice a b x.0, x.1)) (two f.Else) (some_led f.Else) (omega arith) (reads 0 (omega arith)) (choice_else a)

  abbrev Then : Part → Type 0
  Then d = (a b : Written) × IsProper a × IsProper b × ((rest : List Tok) → d rest ≡ fixed f.Then ∷ tokens a (fixed f.Else ∷ tokens b rest))

  then_led : (e : Part) → Two f.Else e → Then (λ rest. fixed f.Then ∷ e rest)
  then_led e (a, b, p, q, h) = (a, b, p, q, λ rest. ap (λ (us : List Tok). fixed f.Then ∷ us) (h rest))

  choice_then : (a : Tree) → Reader Then 4 (suc most) (λ ts. after f.Then ts >>= λ vs. read 0 vs >>= λ y. after f.Else y.1 >>= λ us. read 0 us >>= λ x. Ok (t.choice a y.0 x.0, x.1))
  choice_then a = reader_after f.Then (λ vs. read 0 vs >>= λ y. after f.Else y.1 >>= λ us. read 0 us >>= λ x. Ok (t.choice a y.0 x.0, x.1)) then_led (some_two f.Else) (choice_first a)

  choice_reader : Reader (Behind (fixed f.If) 0) 0 most (choice read)
  unfolding choice
  choice_reader =
      reader_less (omega arith) (omega arith)
      (reader_then (read 0) (λ a ts. after f.Then ts >>= λ vs. read 0 vs >>= λ y. after f.Else y.1 >>= λ us. read 0 us >>= λ x. Ok (t.choice a y.0 x.0, x.1))
      (λ d e (a, l, p, h) (b, c, q, r, k). (w.choice a b c, (p, q, r), refl, λ rest. ap (λ (us : List Tok). fixed f.If ∷ us) (h (e rest) ∙ ap (tokens a) (k rest))))
      (some_after f.Then then_led (some_two f.Else)) (omega arith) (reads 0 (omega arith)) choice_then)

  -- an expression and the parenthesis after it
  abbrev Inner : Part → Type 0
  Inner d = (c : Written) × IsProper c × ((rest : List Tok) → d rest ≡ tokens c (fixed f.Close ∷ rest))

  inner : (d e : Part) → Level 0 d → Closing e → Inner (λ rest. d (e rest))
  inner d e (c, b, p, h) close = (c, p, λ rest. h (e rest) ∙ ap (tokens c) (close rest))

  some_inner : Some_part Inner 2
  some_inner = some_then inner (some_level 0 (omega arith)) some_closing

  inside_reader : Reader Inner 2 most (inside read)
  unfolding inside
  inside_reader = reader_closed (read 0) inner (reads 0 (omega arith))

  paren_reader : Reader (Behind (fixed f.Open) 10) 0 most (inside read)
  paren_reader = reader_less (omega arith) (omega arith) (reader_along (λ d (c, p, h). (w.paren c, p, refl, λ rest. ap (λ (us : List Tok). fixed f.Open ∷ us) (h rest))) inside_reader)

  abbrev Branch : Fixed → Part → Type 0
  Branch sign d = (c : Written) × IsProper c × ((rest : List Tok) → d rest ≡ fixed f.Open ∷ fixed sign ∷ fixed f.Arrow ∷ tokens c (fixed f.Close ∷ rest))

  abbrev Arrowed : Part → Type 0
  Arrowed d = (c : Written) × IsProper c × ((rest : List Tok) → d rest ≡ fixed f.Arrow ∷ tokens c (fixed f.Close ∷ rest))

  abbrev Signed : Fixed → Part → Type 0
  Signed sign d = (c : Written) × IsProper c × ((rest : List Tok) → d rest ≡ fixed sign ∷ fixed f.Arrow ∷ tokens c (fixed f.Close ∷ rest))

  arrowed : (e : Part) → Inner e → Arrowed (λ rest. fixed f.Arrow ∷ e rest)
  arrowed e (c, p, h) = (c, p, λ rest. ap (λ (us : List Tok). fixed f.Arrow ∷ us) (h rest))

  signed_led : (sign : Fixed) (e : Part) → Arrowed e → Signed sign (λ rest. fixed sign ∷ e rest)
  signed_led sign e (c, p, h) = (c, p, λ rest. ap (λ (us : List Tok). fixed sign ∷ us) (h rest))

  branched : (sign : Fixed) (e : Part) → Signed sign e → Branch sign (λ rest. fixed f.Open ∷ e rest)
  branched sign e (c, p, h) = (c, p, λ rest. ap (λ (us : List Tok). fixed f.Open ∷ us) (h rest))

  some_arrowed : Some_part Arrowed 3
  some_arrowed = some_after f.Arrow arrowed some_inner

  some_signed : (sign : Fixed) → Some_part (Signed sign) 4
  some_signed sign = some_after sign (signed_led sign) some_arrowed

  some_branch : (sign : Fixed) → Some_part (Branch sign) 5
  some_branch sign = some_after f.Open (branched sign) (some_signed sign)

  branch_reader : (sign : Fixed) → Reader (Branch sign) 5 (suc (suc (suc most))) (branch read sign)
  unfolding branch
  branch_reader sign =
      reader_after f.Open (λ a. after sign a >>= λ b. after f.Arrow b >>= λ c. inside read c) (branched sign) (some_signed sign)
      (reader_after sign (λ b. after f.Arrow b >>= λ c. inside read c) (signed_led sign) some_arrowed
      (reader_after f.Arrow (λ c. inside read c) arrowed some_inner inside_reader))

  -- behind `merge v (true`
  abbrev BehindTrue : Part → Type 0
  BehindTrue d = (a b : Written) × IsProper a × IsProper b × ((rest : List Tok) → d rest ≡ fixed f.Arrow ∷ tokens a (fixed f.Close ∷ fixed f.Open ∷ fixed f.False ∷ fixed f.Arrow ∷ tokens b (fixed f.Close ∷ rest)))

  -- behind its arrow
  abbrev BehindArrow : Part → Type 0
  BehindArrow d = (a b : Written) × IsProper a × IsProper b × ((rest : List Tok) → d rest ≡ tokens a (fixed f.Close ∷ fixed f.Open ∷ fixed f.False ∷ fixed f.Arrow ∷ tokens b (fixed f.Close ∷ rest)))

  behind_arrow : (d e : Part) → Inner d → Branch f.False e → BehindArrow (λ rest. d (e rest))
  behind_arrow d e (a, p, h) (b, q, k) = (a, b, p, q, λ rest. h (e rest) ∙ ap (λ (us : List Tok). tokens a (fixed f.Close ∷ us)) (k rest))

  behind_true : (e : Part) → BehindArrow e → BehindTrue (λ rest. fixed f.Arrow ∷ e rest)
  behind_true e (a, b, p, q, h) = (a, b, p, q, λ rest. ap (λ (us : List Tok). fixed f.Arrow ∷ us) (h rest))

  abbrev both : List ℕ → Tree → Tree → Tree
  both v a b = t.merge v truths (t.more a (t.more b t.none))

  second_truth : (v : List ℕ) (a : Tree) → Reader (Branch f.False) 5 (suc (suc (suc most))) (λ ts. branch read f.False ts >>= λ z. Ok (both v a z.0, z.1))
  second_truth v a =
      let k : Tree → List Tok → Read Tree = λ x ts. Ok (both v a x, ts) in
      reader_then (branch read f.False) k
      (λ d e (c, p, h) here. (c, p, λ rest. h (e rest) ∙ ap (λ (us : List Tok). fixed f.Open ∷ fixed f.False ∷ fixed f.Arrow ∷ tokens c (fixed f.Close ∷ us)) (here rest)))
      some_here (omega arith) (branch_reader f.False) (λ x. reader_ok {most = suc (suc (suc most))} (both v a x))

  some_behind_arrow : Some_part BehindArrow 7
  some_behind_arrow = some_then behind_arrow some_inner (some_branch f.False)

  truths_reader : (v : List ℕ) → Reader BehindTrue 8 (suc most) (by_truths read v)
  unfolding by_truths
  truths_reader v =
      reader_after f.Arrow (λ a. inside read a >>= λ y. branch read f.False y.1 >>= λ z. Ok (both v y.0 z.0, z.1)) behind_true some_behind_arrow
      (reader_then (inside read) (λ a ts. branch read f.False ts >>= λ z. Ok (both v a z.0, z.1)) behind_arrow (some_branch f.False) (omega arith) inside_reader (second_truth v))

  -- a branch with a name, behind the parenthesis that opens it
  abbrev OneLabelled : Part → Type 0
  OneLabelled = Spelled labelled_tokens IsProperBranch

  labelled_by : (d e : Part) → Named d → Arrowed e → OneLabelled (λ rest. d (e rest))
  labelled_by d e (v, h) (c, p, k) = ((v, c), p, λ rest. h (e rest) ∙ ap (λ (us : List Tok). identifier v ∷ us) (k rest))

  some_labelled : Some_part OneLabelled 4
  some_labelled = some_then labelled_by some_name some_arrowed

  inner_here : (d e : Part) → Inner d → Here e → Inner (λ rest. d (e rest))
  inner_here d e (c, p, h) here = (c, p, λ rest. h (e rest) ∙ ap (λ (us : List Tok). tokens c (fixed f.Close ∷ us)) (here rest))

  labelled_reader : (found : List (List ℕ × Tree)) → Reader OneLabelled 4 most (labelled read found)
  unfolding labelled
  labelled_reader found =
      let last : List ℕ → Tree → List Tok → Read (List (List ℕ × Tree)) = λ v e ts. Ok (found ++ (v, e) ∷ [], ts) in
      reader_then {most = most} name (λ v ts. after f.Arrow ts >>= λ a. inside read a >>= λ e. last v e.0 e.1) labelled_by some_arrowed (omega arith) reader_name
      (λ v. reader_after f.Arrow (λ a. inside read a >>= λ e. last v e.0 e.1) arrowed some_inner
      (reader_then (inside read) (last v) inner_here some_here (omega arith) inside_reader (λ e. reader_ok {most = most} (found ++ (v, e) ∷ []))))

  abbrev MoreLabelled : Part → Type 0
  MoreLabelled = Spelled (repeated (LedBy f.Open labelled_tokens)) (Each IsProperBranch)

  none_labelled : (d : Part) → Here d → MoreLabelled d
  none_labelled d here = ([], tt, here)

  one_more_labelled : (d e : Part) → Spelled (LedBy f.Open labelled_tokens) IsProperBranch d → MoreLabelled e → MoreLabelled (λ rest. d (e rest))
  one_more_labelled d e (b, p, h) (bs, q, k) = (b ∷ bs, (p, q), λ rest. h (e rest) ∙ ap (λ (us : List Tok). fixed f.Open ∷ labelled_tokens b us) (k rest))

  further_branch_reader : (found : List (List ℕ × Tree)) → Reader (Spelled (LedBy f.Open labelled_tokens) IsProperBranch) 1 most (further_branch read found)
  further_branch_reader found = reader_less (omega arith) (omega arith) (reader_led_by f.Open labelled_tokens IsProperBranch (labelled read found) some_labelled (labelled_reader found))

  -- one and more
  abbrev AllLabelled : Part → Type 0
  AllLabelled d = (b : Labelled) × (bs : List Labelled) × IsProperBranch b × Each IsProperBranch bs × ((rest : List Tok) → d rest ≡ labelled_tokens b (repeated (LedBy f.Open labelled_tokens) bs rest))

  all_labelled : (d e : Part) → OneLabelled d → MoreLabelled e → AllLabelled (λ rest. d (e rest))
  all_labelled d e (b, p, h) (bs, q, k) = (b, bs, p, q, λ rest. h (e rest) ∙ ap (labelled_tokens b) (k rest))

  some_more_labelled : Some_part MoreLabelled 0
  some_more_labelled = some_along none_labelled some_here

  some_all_labelled : Some_part AllLabelled 4
  some_all_labelled = some_then all_labelled some_labelled some_more_labelled

  others_reader : (v : List ℕ) (found : List (List ℕ × Tree)) → Reader MoreLabelled 0 most (λ ts. many (begins f.Open) (further_branch read) most found ts >>= λ all. Ok (merged v all.0, all.1))
  others_reader v found =
      let k : List (List ℕ × Tree) → List Tok → Read Tree = λ all ts. Ok (merged v all, ts) in
      reader_then {most = most} {more = most} (many (begins f.Open) (further_branch read) most found) k
      (λ d e (bs, p, h) here. (bs, p, λ rest. h (e rest) ∙ ap (repeated (LedBy f.Open labelled_tokens) bs) (here rest))) some_here (omega arith)
      (reader_many (begins f.Open) (further_branch read) none_labelled one_more_labelled most further_branch_reader found) (λ all. reader_ok (merged v all))

  labels_reader : (v : List ℕ) → Reader AllLabelled 4 most (by_labels read most v)
  unfolding by_labels
  labels_reader v =
      reader_then {most = most} {more = most} (labelled read []) (λ first ts. many (begins f.Open) (further_branch read) most first ts >>= λ all. Ok (merged v all.0, all.1)) all_labelled some_more_labelled (omega arith)
      (labelled_reader []) (others_reader v)

  -- branches, with the parenthesis that opens the first one and without
  abbrev Branches : Part → Type 0
  Branches d = (cs : Writtens) × (ps : List Pattern) × AreProper cs × AreBranches cs ps × ((rest : List Tok) → d rest ≡ branches cs ps rest)

  abbrev Opened : Part → Type 0
  Opened d = Branches (λ rest. fixed f.Open ∷ d rest)

  opened_labels : (d : Part) → AllLabelled d → Opened d
  opened_labels d (b, bs, p, q, h) =
      let all : List Labelled = b ∷ bs in
      (branches_of all, labels_of all, branches_proper all (p, q), (as_many all, inr (tt, labels_bare all)), λ rest. ap (λ (us : List Tok). fixed f.Open ∷ us) (h rest) ∙ sym (branches-of all rest))

  opened_truths : (e : Part) → BehindTrue e → Opened (λ rest. fixed f.True ∷ e rest)
  opened_truths e (a, b, p, q, h) =
      (w.more a (w.more b w.none), truths, (p, (q, tt)), (tt, inl refl), λ rest. ap (λ (us : List Tok). fixed f.Open ∷ fixed f.True ∷ us) (h rest))

  opened_reader : (v : List ℕ) → Reader Opened 4 most (λ ts. merge_by read most v ts (after f.True ts))
  opened_reader v =
      reader_case {D = AllLabelled} {E = BehindTrue} {most = most} {more = suc most} f.True (by_labels read most v) (by_truths read v) (merge_by read most v)
      opened_labels opened_truths (omega arith) (omega arith) (omega arith) (λ ts us. refl) (λ ts rest. refl) (labels_reader v) (truths_reader v)

  some_opened : Some_part Opened 4
  some_opened = some_along opened_labels some_all_labelled

  branches_reader : (v : List ℕ) → Reader Branches 5 (suc most) (λ ts. after f.Open ts >>= λ a. merge_by read most v a (after f.True a))
  branches_reader v = reader_after f.Open (λ a. merge_by read most v a (after f.True a)) (λ e h. h) some_opened (opened_reader v)

  merge_reader : Reader (Behind (fixed f.Merge) 10) 0 most (merge read most)
  unfolding merge
  merge_reader =
      reader_less (omega arith) (omega arith)
      (reader_then {most = most} name (λ v ts. after f.Open ts >>= λ a. merge_by read most v a (after f.True a))
      (λ d e (v, h) (cs, ps, p, q, k). (w.merge v ps cs, (p, q), refl, λ rest. ap (λ (us : List Tok). fixed f.Merge ∷ us) (h (e rest) ∙ ap (λ (us : List Tok). identifier v ∷ us) (k rest))))
      (some_after {E = Opened} {F = Branches} f.Open (λ e h. h) some_opened) (omega arith) reader_name branches_reader)

  current_reader : Reader (Behind (fixed f.Current) 8) 0 most current
  current_reader =
      let k : List ℕ → List Tok → Read Tree = λ v ts. Ok (t.current v, ts) in
      reader_less (omega arith) (omega arith)
      (reader_then {most = most} {more = most} name k (λ d e (v, h) here. (w.current v, tt, refl, λ rest. ap (λ (us : List Tok). fixed f.Current ∷ us) (h (e rest) ∙ ap (λ (us : List Tok). identifier v ∷ us) (here rest))))
      some_here (omega arith) reader_name (λ v. reader_ok (t.current v)))

  unary_reader : (op : Prefix) → Reader (Behind (fixed (prefix_token op)) 8) 0 most (λ ts. read 8 ts >>= λ x. Ok (t.unary op x.0, x.1))
  unary_reader op =
      let k : Tree → List Tok → Read Tree = λ x ts. Ok (t.unary op x, ts) in
      reader_less (omega arith) (omega arith)
      (reader_then (read 8) k (λ d e (c, b, p, h) here. (w.unary op c, (b, p), refl, λ rest. ap (λ (us : List Tok). fixed (prefix_token op) ∷ us) (h (e rest) ∙ ap (tokens c) (here rest))))
      some_here (omega arith) (reads 8 (omega arith)) (λ v. reader_ok {most = most} (t.unary op v)))

  -- ---- whole expressions

  -- an operand with its level, and what follows it
  record HeadDone (least : ℕ) (ts : List Tok) (x : ℕ × Tree × List Tok) : Type 0 where
    part : Part
    written : Written
    low : least ≤ x.0
    proper : IsProper written
    level_is : level_of written ≡ x.0
    front : Front 1 part
    is : (rest : List Tok) → part rest ≡ tokens written rest
    at : part x.2 ≡ ts

  formed_done : (least at : ℕ) (x : Tok) (p : List Tok → Read Tree) (ts : List Tok) (y : ℕ × Tree × List Tok) (r : Read Tree) → Reader (Behind x at) 0 most p → least ≤ at
      → p ts ≡ r → at_level at r ≡ Ok y → HeadDone least (x ∷ ts) y
  formed_done least at x p ts y (Err us) h low is e = absurd cc
  formed_done least at x p ts y (Ok z) h low is e =
      let k = h.done ts z is in
      let (c, q, level_is, same) = k.good in
      let e2 : (at, z.0, z.1) ≡ y = same_ok (at, z.0, z.1) y e in
      let H : ℕ × Tree × List Tok → Type 0 = HeadDone least (x ∷ ts) in
      subst H e2 (record {
        part = λ rest. x ∷ k.part rest;
        written = c;
        low = low;
        proper = q;
        level_is = level_is;
        front = front_less (omega arith) (front_token x k.front);
        is = same;
        at = ap (λ (us : List Tok). x ∷ us) k.at;
      })

  formed_stopped : (least at : ℕ) (x : Tok) (p : List Tok → Read Tree) (ts us : List Tok) (r : Read Tree) → Reader (Behind x at) 0 most p → least ≤ at → length ts < most
      → p ts ≡ r → at_level at r ≡ Err us → Stopped (Level least) (x ∷ ts) us
  formed_stopped least at x p ts us (Ok z) h low short is e = absurd cc
  formed_stopped least at x p ts us (Err vs) h low short is e =
      let k = h.stopped ts us short (is ∙ err_tree vs us e) in
      let (c, q, level_is, same) = k.good in
      record { part = λ rest. x ∷ k.part rest; good = (c, omega (arith, low, level_is), q, same); begun = partial_token x k.begun }

  allowed_done : (least at : ℕ) (x : Tok) (p : List Tok → Read Tree) (ts : List Tok) (y : ℕ × Tree × List Tok) → Reader (Behind x at) 0 most p
      → allowed at least (x ∷ ts) (p ts) ≡ Ok y → HeadDone least (x ∷ ts) y
  allowed_done least at x p ts y h e =
      tested (nat_le least at) (at_level at (p ts)) (Err (x ∷ ts)) (Ok y) e
      (λ held first. formed_done least at x p ts y (p ts) h (leb-true least at held) refl first) (λ failed first. absurd cc)

  allowed_stopped : (least at : ℕ) (x : Tok) (p : List Tok → Read Tree) (ts us : List Tok) → least ≤ 10 → Reader (Behind x at) 0 most p → length ts < most
      → allowed at least (x ∷ ts) (p ts) ≡ Err us → Stopped (Level least) (x ∷ ts) us
  allowed_stopped least at x p ts us high h short e =
      tested (nat_le least at) (at_level at (p ts)) (Err (x ∷ ts)) (Err us) e
      (λ held first. formed_stopped least at x p ts us (p ts) h (leb-true least at held) short refl first)
      (λ failed first. stopped_here (x ∷ ts) us (some_level least high) (refused_all (x ∷ ts) us first))

  prefix_done : (least : ℕ) (g : Fixed) (o : Option Prefix) (ts : List Tok) (y : ℕ × Tree × List Tok) → prefix_of g ≡ o
      → allowed 8 least (fixed g ∷ ts) (prefixed read (fixed g ∷ ts) o ts) ≡ Ok y → HeadDone least (fixed g ∷ ts) y
  prefix_done least g None ts y k e =
      tested (nat_le least 8) (Err (fixed g ∷ ts)) (Err (fixed g ∷ ts)) (Ok y) e (λ held first. absurd cc) (λ failed first. absurd cc)
  prefix_done least g (Some op) ts y k e =
      let same = prefix_of-is g op k in
      let R : Tok → Type 0 = λ x. Reader (Behind x 8) 0 most (λ us. read 8 us >>= λ z. Ok (t.unary op z.0, z.1)) in
      allowed_done least 8 (fixed g) (λ us. read 8 us >>= λ z. Ok (t.unary op z.0, z.1)) ts y (subst R (ap (λ (h : Fixed). fixed h) same) (unary_reader op)) e

  prefix_stopped : (least : ℕ) (g : Fixed) (o : Option Prefix) (ts us : List Tok) → least ≤ 10 → length ts < most → prefix_of g ≡ o
      → allowed 8 least (fixed g ∷ ts) (prefixed read (fixed g ∷ ts) o ts) ≡ Err us → Stopped (Level least) (fixed g ∷ ts) us
  prefix_stopped least g None ts us high short k e =
      tested (nat_le least 8) (Err (fixed g ∷ ts)) (Err (fixed g ∷ ts)) (Err us) e
      (λ held first. stopped_here (fixed g ∷ ts) us (some_level least high) (refused_all (fixed g ∷ ts) us first))
      (λ failed first. stopped_here (fixed g ∷ ts) us (some_level least high) (refused_all (fixed g ∷ ts) us first))
  prefix_stopped least g (Some op) ts us high short k e =
      let same = prefix_of-is g op k in
      let R : Tok → Type 0 = λ x. Reader (Behind x 8) 0 most (λ vs. read 8 vs >>= λ z. Ok (t.unary op z.0, z.1)) in
      allowed_stopped least 8 (fixed g) (λ vs. read 8 vs >>= λ z. Ok (t.unary op z.0, z.1)) ts us high (subst R (ap (λ (h : Fixed). fixed h) same) (unary_reader op)) short e

  number_reader : (n : ℕ) → Reader (Behind (number n) 10) 0 most (λ ts. Ok (t.number n, ts))
  number_reader n = reader_along (λ d here. (w.number n, tt, refl, λ rest. ap (λ (us : List Tok). number n ∷ us) (here rest))) (reader_ok (t.number n))

  true_reader : Reader (Behind (fixed f.True) 10) 0 most (λ ts. Ok (t.truth true, ts))
  true_reader = reader_along (λ d here. (w.truth true, tt, refl, λ rest. ap (λ (us : List Tok). fixed f.True ∷ us) (here rest))) (reader_ok (t.truth true))

  false_reader : Reader (Behind (fixed f.False) 10) 0 most (λ ts. Ok (t.truth false, ts))
  false_reader = reader_along (λ d here. (w.truth false, tt, refl, λ rest. ap (λ (us : List Tok). fixed f.False ∷ us) (here rest))) (reader_ok (t.truth false))

  head_done : (least : ℕ) (ts : List Tok) (y : ℕ × Tree × List Tok) → least ≤ 10 → head read most least ts ≡ Ok y → HeadDone least ts y
  unfolding head
  head_done least [] y b e = absurd cc
  head_done least (identifier v ∷ ts) y b e = formed_done least 10 (identifier v) (named read most v) ts y (named read most v ts) (named_reader v) b refl e
  head_done least (number k ∷ ts) y b e = formed_done least 10 (number k) (λ us. Ok (t.number k, us)) ts y (Ok (t.number k, ts)) (number_reader k) b refl e
  head_done least (fixed f.True ∷ ts) y b e = formed_done least 10 (fixed f.True) (λ us. Ok (t.truth true, us)) ts y (Ok (t.truth true, ts)) true_reader b refl e
  head_done least (fixed f.False ∷ ts) y b e = formed_done least 10 (fixed f.False) (λ us. Ok (t.truth false, us)) ts y (Ok (t.truth false, ts)) false_reader b refl e
  head_done least (fixed f.Merge ∷ ts) y b e = formed_done least 10 (fixed f.Merge) (merge read most) ts y (merge read most ts) merge_reader b refl e
  head_done least (fixed f.Open ∷ ts) y b e = formed_done least 10 (fixed f.Open) (inside read) ts y (inside read ts) paren_reader b refl e
  head_done least (fixed f.If ∷ ts) y b e = allowed_done least 0 (fixed f.If) (choice read) ts y choice_reader e
  head_done least (fixed f.Current ∷ ts) y b e = allowed_done least 8 (fixed f.Current) current ts y current_reader e
  head_done least (fixed g ∷ ts) y b e = prefix_done least g (prefix_of g) ts y refl e

  head_stopped : (least : ℕ) (ts us : List Tok) → least ≤ 10 → length ts < suc most → head read most least ts ≡ Err us → Stopped (Level least) ts us
  unfolding head
  head_stopped least [] us b short e = stopped_here [] us (some_level least b) (refused_all [] us e)
  head_stopped least (identifier v ∷ ts) us b short e = formed_stopped least 10 (identifier v) (named read most v) ts us (named read most v ts) (named_reader v) b (omega (arith, short)) refl e
  head_stopped least (number k ∷ ts) us b short e = absurd cc
  head_stopped least (fixed f.True ∷ ts) us b short e = absurd cc
  head_stopped least (fixed f.False ∷ ts) us b short e = absurd cc
  head_stopped least (fixed f.Merge ∷ ts) us b short e = formed_stopped least 10 (fixed f.Merge) (merge read most) ts us (merge read most ts) merge_reader b (omega (arith, short)) refl e
  head_stopped least (fixed f.Open ∷ ts) us b short e = formed_stopped least 10 (fixed f.Open) (inside read) ts us (inside read ts) paren_reader b (omega (arith, short)) refl e
  head_stopped least (fixed f.If ∷ ts) us b short e = allowed_stopped least 0 (fixed f.If) (choice read) ts us b choice_reader (omega (arith, short)) e
  head_stopped least (fixed f.Current ∷ ts) us b short e = allowed_stopped least 8 (fixed f.Current) current ts us b current_reader (omega (arith, short)) e
  head_stopped least (fixed g ∷ ts) us b short e = prefix_stopped least g (prefix_of g) ts us b (omega (arith, short)) refl e

  whole_done : (least : ℕ) (ts : List Tok) (y : Tree × List Tok) → least ≤ 10 → whole read most least ts ≡ Ok y → Done (Level least) 1 ts y.1
  unfolding whole
  whole_done least ts y b e =
      let (z, e1, e2) = bind_ok (head read most least ts) (λ z. climb read most least z.0 z.1 z.2) y e in
      let h = head_done least ts z b e1 in
      let k = (climb_reader most least z.0 z.1 h.low).done z.2 y e2 in
      let (d, low, q, same) = k.good h.written h.proper h.level_is in
      record {
        part = λ rest. h.part (k.part rest);
        good = (d, low, q, λ rest. h.is (k.part rest) ∙ same rest);
        front = front_less (omega arith) (front_both h.front k.front);
        at = ap h.part k.at ∙ h.at;
      }

  whole_ended : (least : ℕ) (ts us : List Tok) → least ≤ 10 → length ts < suc most
      → (head read most least ts ≡ Err us) ⊎ ((z : ℕ × Tree × List Tok) × (head read most least ts ≡ Ok z) × (climb read most least z.0 z.1 z.2 ≡ Err us)) → Stopped (Level least) ts us
  whole_ended least ts us b short (inl e) = head_stopped least ts us b short e
  whole_ended least ts us b short (inr (z, e1, e2)) =
      let h = head_done least ts z b e1 in
      let less = shorter h.front z.2 ts h.at in
      let k = (climb_reader most least z.0 z.1 h.low).stopped z.2 us (omega (arith, less, short)) e2 in
      let (d, low, q, same) = k.good h.written h.proper h.level_is in
      record {
        part = λ rest. h.part (k.part rest);
        good = (d, low, q, λ rest. h.is (k.part rest) ∙ same rest);
        begun = partial_behind h.front h.at k.begun;
      }

  whole_reader : (least : ℕ) → least ≤ 10 → Reader (Level least) 1 (suc most) (whole read most least)
  unfolding whole
  whole_reader least b = record {
    done = λ ts y e. whole_done least ts y b e;
    stopped = λ ts us short e. whole_ended least ts us b short (bind_err (head read most least ts) (λ z. climb read most least z.0 z.1 z.2) us e);
  }

-- What stands before a refused token of an expression goes on to one.
pub expr_reader : (n : ℕ) → ReadsAll n (expr n)
unfolding expr
expr_reader zero least b = record { done = λ ts x e. absurd cc; stopped = λ ts us short e. absurd (omega (arith, short)) }
expr_reader (suc n) least b = whole_reader n (expr n) (expr_reader n) least b
