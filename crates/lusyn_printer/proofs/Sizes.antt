-- How many tokens an expression has: in canonical form no more than any other text of it.
use Rattle.std.proofs.Common.{◌≡◌, ◌≤◌, ◌+◌, ℕ, Bool, true, false, cond, List, [], ◌∷◌, map, nat_le, refl, ap, ◌∙◌, arith}
use Rattle.std.proofs.lemmas.Bool.{le-leb}
use Rattle.lutree.specs.declared.expr.Pattern.{Pattern}
use Rattle.lutree.specs.declared.expr.Pattern.TheVariants as patterns
use Rattle.lutree.specs.declared.expr.Condition.{Condition}
use Rattle.lutree.specs.declared.expr.Prefix.{Prefix}
use Rattle.lutree.specs.declared.expr.Prefix.TheVariants as p
use Rattle.lutree.specs.declared.expr.UnaryOperator.TheVariants as u
use Rattle.lutree.specs.declared.expr.Infix.{Infix}
use Rattle.lutree.specs.declared.expr.Infix.TheVariants as i
use Rattle.lutree.specs.declared.expr.BinaryOperator.TheVariants as b
use Rattle.lusyn_grammar.specs.declared.token.Fixed.TheVariants as f
use Rattle.lusyn_grammar.specs.Tokens.{Tok, fixed}
use Rattle.lusyn_grammar.specs.Runs.{is_of_run}
use Rattle.lusyn_grammar.specs.Tokens.{prefix_token, infix_token, left, right}
use Rattle.lusyn_grammar.specs.Grammar.{Written, Writtens, number, truth, variable, unary, binary, choice, when, current, merge, call, paren, none, more, level_of, IsProper, AreProper, tree, trees, tokens, further, branches, branch_token, truth_token, pattern_tokens, when_tokens}
use Rattle.lusyn_grammar.specs.Printing.{placed, bare_pattern, written, writtens}
use Rattle.lusyn_printer.proofs.Peaks.{peak, peak-of_run}

abbrev pub sign_size : Bool → ℕ
sign_size true = 0
sign_size false = 1

abbrev pub pattern_size : Pattern → ℕ
pattern_size (patterns.Truth b) = sign_size b
pattern_size (patterns.Label l) = 3

abbrev pub when_size : Condition → ℕ
when_size c = 2 + pattern_size c.pattern

abbrev mutual
  pub size : Written → ℕ
  size (number n) = 1
  size (truth b) = 1
  size (variable x) = 1
  size (unary op c) = 1 + size c
  size (binary op a b) = 1 + (size a + size b)
  size (choice a b c) = 3 + (size a + (size b + size c))
  size (when c clock) = size c + when_size clock
  size (current x) = 2
  size (merge x ps cs) = 2 + branch_sizes cs ps
  size (call g cs) = 3 + sizes cs
  size (paren c) = 2 + size c

  -- without a comma before the first
  pub sizes : Writtens → ℕ
  sizes none = 0
  sizes (more c cs) = size c + further_size cs

  pub further_size : Writtens → ℕ
  further_size none = 0
  further_size (more c cs) = 1 + (size c + further_size cs)

  pub branch_sizes : Writtens → List Pattern → ℕ
  branch_sizes none ps = 0
  branch_sizes (more c cs) [] = 0
  branch_sizes (more c cs) (p ∷ ps) = 4 + (size c + branch_sizes cs ps)

-- ---- the peak behind an expression

-- the count behind one token more
pub step : (k n : ℕ) (t : Tok) (ts rest : List Tok) → is_of_run t ≡ true → peak (k + 1) ts ≡ peak ((k + 1) + n) rest → peak k (t ∷ ts) ≡ peak (k + (1 + n)) rest
step k n t ts rest e h = peak-of_run k t ts e ∙ h ∙ ap (λ (m : ℕ). peak m rest) (omega arith)

prefix_of_run : (op : Prefix) → is_of_run (fixed (prefix_token op)) ≡ true
prefix_of_run p.Pre = refl
prefix_of_run (p.Data u.Minus) = refl
prefix_of_run _ = refl

infix_of_run : (op : Infix) → is_of_run (fixed (infix_token op)) ≡ true
infix_of_run i.Arrow = refl
infix_of_run (i.Data b.Add) = refl
infix_of_run _ = refl

truth_of_run : (b : Bool) → is_of_run (fixed (truth_token b)) ≡ true
truth_of_run true = refl
truth_of_run false = refl

-- so many tokens on
at : (j k : ℕ) (rest : List Tok) → j ≡ k → peak j rest ≡ peak k rest
at j k rest e = ap (λ (n : ℕ). peak n rest) e

pub peak-when : (c : Condition) (k : ℕ) (rest : List Tok) → peak k (when_tokens c rest) ≡ peak (k + when_size c) rest
peak-when c k rest = by_pattern c.pattern
  where
    by_pattern : (p : Pattern) → peak (k + 1) (pattern_tokens p c.variable rest) ≡ peak (k + (2 + pattern_size p)) rest
    by_pattern (patterns.Truth true) = at (k + 1 + 1) (k + (2 + 0)) rest (omega arith)
    by_pattern (patterns.Truth false) = at (k + 1 + 1 + 1) (k + (2 + 1)) rest (omega arith)
    by_pattern (patterns.Label l) = at (k + 1 + 1 + 1 + 1 + 1) (k + (2 + 3)) rest (omega arith)

branch_of_run : (p : Pattern) → is_of_run (branch_token p) ≡ true
branch_of_run (patterns.Truth b) = truth_of_run b
branch_of_run (patterns.Label l) = refl

mutual
  pub peak-tokens : (c : Written) (k : ℕ) (rest : List Tok) → peak k (tokens c rest) ≡ peak (k + size c) rest
  peak-tokens (number n) k rest = refl
  peak-tokens (truth b) k rest = peak-of_run k (fixed (truth_token b)) rest (truth_of_run b)
  peak-tokens (variable x) k rest = refl
  peak-tokens (unary op c) k rest =
      peak-of_run k (fixed (prefix_token op)) (tokens c rest) (prefix_of_run op) ∙ peak-tokens c (k + 1) rest ∙ at (k + 1 + size c) (k + (1 + size c)) rest (omega arith)
  peak-tokens (binary op a b) k rest =
      peak-tokens a k (fixed (infix_token op) ∷ tokens b rest)
      ∙ peak-of_run (k + size a) (fixed (infix_token op)) (tokens b rest) (infix_of_run op)
      ∙ peak-tokens b (k + size a + 1) rest
      ∙ at (k + size a + 1 + size b) (k + (1 + (size a + size b))) rest (omega arith)
  peak-tokens (choice a b c) k rest =
      peak-tokens a (k + 1) (fixed f.Then ∷ tokens b (fixed f.Else ∷ tokens c rest))
      ∙ peak-tokens b (k + 1 + size a + 1) (fixed f.Else ∷ tokens c rest)
      ∙ peak-tokens c (k + 1 + size a + 1 + size b + 1) rest
      ∙ at (k + 1 + size a + 1 + size b + 1 + size c) (k + (3 + (size a + (size b + size c)))) rest (omega arith)
  peak-tokens (when c clock) k rest = peak-tokens c k (when_tokens clock rest) ∙ peak-when clock (k + size c) rest ∙ at (k + size c + when_size clock) (k + (size c + when_size clock)) rest (omega arith)
  peak-tokens (current x) k rest = at (k + 1 + 1) (k + 2) rest (omega arith)
  peak-tokens (merge x ps cs) k rest = peak-branches cs ps (k + 1 + 1) rest ∙ at (k + 1 + 1 + branch_sizes cs ps) (k + (2 + branch_sizes cs ps)) rest (omega arith)
  peak-tokens (call g none) k rest = at (k + 1 + 1 + 1) (k + (3 + 0)) rest (omega arith)
  peak-tokens (call g (more c cs)) k rest =
      peak-tokens c (k + 1 + 1) (further cs (fixed f.Close ∷ rest))
      ∙ peak-further cs (k + 1 + 1 + size c) (fixed f.Close ∷ rest)
      ∙ at (k + 1 + 1 + size c + further_size cs + 1) (k + (3 + (size c + further_size cs))) rest (omega arith)
  peak-tokens (paren c) k rest = peak-tokens c (k + 1) (fixed f.Close ∷ rest) ∙ at (k + 1 + size c + 1) (k + (2 + size c)) rest (omega arith)

  peak-further : (cs : Writtens) (k : ℕ) (rest : List Tok) → peak k (further cs rest) ≡ peak (k + further_size cs) rest
  peak-further none k rest = at k (k + 0) rest (omega arith)
  peak-further (more c cs) k rest =
      peak-tokens c (k + 1) (further cs rest) ∙ peak-further cs (k + 1 + size c) rest ∙ at (k + 1 + size c + further_size cs) (k + (1 + (size c + further_size cs))) rest (omega arith)

  peak-branches : (cs : Writtens) (ps : List Pattern) (k : ℕ) (rest : List Tok) → peak k (branches cs ps rest) ≡ peak (k + branch_sizes cs ps) rest
  peak-branches none ps k rest = at k (k + 0) rest (omega arith)
  peak-branches (more c cs) [] k rest = at k (k + 0) rest (omega arith)
  peak-branches (more c cs) (p ∷ ps) k rest =
      let others = branches cs ps rest in
      peak-of_run (k + 1) (branch_token p) (fixed f.Arrow ∷ tokens c (fixed f.Close ∷ others)) (branch_of_run p)
      ∙ peak-tokens c (k + 1 + 1 + 1) (fixed f.Close ∷ others)
      ∙ peak-branches cs ps (k + 1 + 1 + 1 + size c + 1) rest
      ∙ at (k + 1 + 1 + 1 + size c + 1 + branch_sizes cs ps) (k + (4 + (size c + branch_sizes cs ps))) rest (omega arith)

-- ---- the canonical form is the smallest

placed_bare : (least : ℕ) (c : Written) (n : ℕ) → least ≤ level_of c → size c ≤ n → size (placed least c) ≤ n
placed_bare least c n fits h =
    let same : size (placed least c) ≡ size c = ap (λ (b : Bool). size (cond b c (paren c))) (le-leb least (level_of c) fits) in
    omega (arith, same)

placed_most : (least : ℕ) (c : Written) → size (placed least c) ≤ 2 + size c
placed_most least c = either (nat_le least (level_of c))
  where
    either : (b : Bool) → size (cond b c (paren c)) ≤ 2 + size c
    either true = omega arith
    either false = omega arith

-- as it stands, and in any place where the text stands properly
pub record Smallest (c : Written) : Type 0 where
  pub bare : size (written (tree c)) ≤ size c
  pub place : (least : ℕ) → least ≤ level_of c → size (placed least (written (tree c))) ≤ size c

abbrev same_level : (c : Written) → Type 0
same_level c = level_of (written (tree c)) ≡ level_of c

smallest_from : (c : Written) → level_of (written (tree c)) ≡ level_of c → size (written (tree c)) ≤ size c → Smallest c
smallest_from c e h = record { bare = h; place = λ least fits. placed_bare least (written (tree c)) (size c) (omega (arith, fits, e)) h }

pattern-size : (p : Pattern) → pattern_size (bare_pattern p) ≡ pattern_size p
pattern-size (patterns.Truth b) = refl
pattern-size (patterns.Label l) = refl

mutual
  pub smallest : (c : Written) → IsProper c → Smallest c
  smallest (number n) h = smallest_from (number n) refl (omega arith)
  smallest (truth b) h = smallest_from (truth b) refl (omega arith)
  smallest (variable x) h = smallest_from (variable x) refl (omega arith)
  smallest (unary op c) h =
      let k = (smallest c h.1).place 8 h.0 in
      smallest_from (unary op c) refl (omega (arith, k))
  smallest (binary op a b) h =
      let k = (smallest a h.2).place (left op) h.0 in
      let l = (smallest b h.3).place (right op) h.1 in
      smallest_from (binary op a b) refl (omega (arith, k, l))
  smallest (choice a b c) h =
      let k = (smallest a h.0).place 0 (omega arith) in
      let l = (smallest b h.1).place 0 (omega arith) in
      let m = (smallest c h.2).place 0 (omega arith) in
      smallest_from (choice a b c) refl (omega (arith, k, l, m))
  smallest (when c clock) h =
      let k = (smallest c h.1).place 9 h.0 in
      let l = pattern-size clock.pattern in
      smallest_from (when c clock) refl (omega (arith, k, l))
  smallest (current x) h = smallest_from (current x) refl (omega arith)
  smallest (merge x ps cs) h =
      let k = smallest_branches cs ps h.0 in
      smallest_from (merge x ps cs) refl (omega (arith, k))
  smallest (call g none) h = smallest_from (call g none) refl (omega arith)
  smallest (call g (more c cs)) h =
      let k = (smallest c h.0).place 0 (omega arith) in
      let l = smallest_further cs h.1 in
      smallest_from (call g (more c cs)) refl (omega (arith, k, l))
  smallest (paren c) h =
      let k = (smallest c h).bare in
      record {
        bare = omega (arith, k);
        place = λ least fits. (let most = placed_most least (written (tree c)) in omega (arith, most, k));
      }

  smallest_further : (cs : Writtens) → AreProper cs → further_size (writtens (trees cs)) ≤ further_size cs
  smallest_further none h = omega arith
  smallest_further (more c cs) h =
      let k = (smallest c h.0).place 0 (omega arith) in
      let l = smallest_further cs h.1 in
      omega (arith, k, l)

  smallest_branches : (cs : Writtens) (ps : List Pattern) → AreProper cs → branch_sizes (writtens (trees cs)) (map bare_pattern ps) ≤ branch_sizes cs ps
  smallest_branches none ps h = omega arith
  smallest_branches (more c cs) [] h = omega arith
  smallest_branches (more c cs) (p ∷ ps) h =
      let k = (smallest c h.0).place 0 (omega arith) in
      let l = smallest_branches cs ps h.1 in
      omega (arith, k, l)
