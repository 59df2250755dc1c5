-- Expressions that are spelled so are read.
use Rattle.std.proofs.Common.{◌≡◌, ◌≤◌, ◌<◌, ◌+◌, ◌-◌, ℕ, zero, suc, Some, Ok, Err, List, ◌∷◌, [], ◌++◌, refl, ap, sym, subst, ◌∙◌, inl, inr, arith, cond, Bool, true, false, ◌&&◌, nat_le, length, map, Result, ◌⊎◌}
use Rattle.std.specs.List.{flat_map}
use Rattle.std.specs.Result.{is_ok}
use Rattle.std.proofs.lemmas.Bool.{le-leb, lt-leb}
use Rattle.lutree.specs.declared.expr.UnaryOperator.TheVariants as u
use Rattle.lutree.specs.declared.expr.Prefix.{Prefix}
use Rattle.lutree.specs.declared.expr.Prefix.TheVariants as p
use Rattle.lutree.specs.declared.expr.Infix.{Infix}
use Rattle.lutree.specs.declared.expr.Label.{Label}
use Rattle.lutree.specs.declared.expr.Pattern.{Pattern}
use Rattle.lutree.specs.declared.expr.Pattern.TheVariants as patterns
use Rattle.lutree.specs.declared.expr.Condition.{Condition}
use Rattle.lutree.specs.Tree.{Tree, Trees, trees_of}
use Rattle.lutree.specs.Tree as t
use Rattle.lusyn_grammar.specs.declared.token.Fixed.{Fixed}
use Rattle.lusyn_grammar.specs.declared.token.Fixed.TheVariants as f
use Rattle.lusyn_grammar.specs.Tokens.{Tok, identifier, number, fixed}
use Rattle.lusyn_grammar.specs.Tokens.{infix_token, prefix_token, level, left, right}
use Rattle.lusyn_grammar.specs.Grammar.{Written, Writtens, tree, trees, tokens, further, branches, branch_token, level_of, IsProper, AreProper, IsBare, IsBareLabel, bare_label, truths, AreAsMany, AreBranches, IsNonempty, when_tokens, pattern_tokens, repeated, led, Each}
use Rattle.lusyn_grammar.specs.Grammar as w
use Rattle.lusyn_grammar.specs.Reading.{Read, ◌>>=◌, Next, operator, clock, parenthesis, nothing, next, tail, after, begins, clock_from_by, condition, many, step, climb, further_operand, closed, operands_by, operands, named, choice, inside, branch, merged, by_truths, labelled, further_branch, by_labels, merge, current, at_level, allowed, prefixed, head, whole, expr}
use Rattle.lusyn_grammar.proofs.Tables.{level_low, level_high, right_high, right_bound, left_bound, operator_after, next-operator_token}
use Rattle.lusyn_grammar.proofs.SoundExpressions.{operand, operand_tree, between, Labelled, labelled_tokens, labelled_tree}
use Rattle.lusyn_grammar.proofs.CompletePieces.{goes_on, chosen_true, after-here, many_complete}

-- no operator of this level or above goes on
abbrev pub IsQuiet : ℕ → Next → Type 0
IsQuiet least nothing = Unit {0}
IsQuiet least parenthesis = ⊥
IsQuiet least clock = 9 < least
IsQuiet least (operator op) = level op < least

-- what the last operand asks
abbrev edge : Written → ℕ
edge (w.choice a b c) = 0
edge (w.binary op a b) = right op
edge (w.unary op c) = 8
edge _ = 11

-- how many operators follow the first operand
abbrev turns : Written → ℕ
turns (w.binary op a b) = suc (turns a)
turns (w.when c on) = suc (turns c)
turns _ = 0

abbrev mutual
  pub size : Written → ℕ
  size (w.number n) = 1
  size (w.truth b) = 1
  size (w.variable x) = 1
  size (w.unary op c) = suc (size c)
  size (w.binary op a b) = suc (size a + size b)
  size (w.choice a b c) = suc (size a + size b + size c)
  size (w.when c on) = suc (size c)
  size (w.current x) = 1
  size (w.merge x ps cs) = suc (branch_sizes cs ps)
  size (w.call g cs) = suc (sizes cs)
  size (w.paren c) = suc (size c)

  pub sizes : Writtens → ℕ
  sizes w.none = 0
  sizes (w.more c cs) = suc (size c + sizes cs)

  -- of those that have a pattern
  pub branch_sizes : Writtens → List Pattern → ℕ
  branch_sizes w.none ps = 0
  branch_sizes (w.more c cs) [] = 0
  branch_sizes (w.more c cs) (p ∷ ps) = suc (size c + branch_sizes cs ps)

abbrev pub CompleteAt : (ℕ → List Tok → Read Tree) → ℕ → Type 0
CompleteAt read bound = (c : Written) (least : ℕ) (rest : List Tok) → size c ≤ bound → IsProper c → least ≤ level_of c → least ≤ 10 → IsQuiet least (next rest) → read least (tokens c rest) ≡ Ok (tree c, rest)

turns-size : (c : Written) → turns c < size c
turns-size (w.binary op a b) = let h = turns-size a in omega arith
turns-size (w.when c on) = let h = turns-size c in omega arith
turns-size (w.number n) = omega arith
turns-size _ = omega arith

IsQuiet-more : (low high : ℕ) (k : Next) → low ≤ high → IsQuiet low k → IsQuiet high k
IsQuiet-more low high nothing h q = tt
IsQuiet-more low high parenthesis h q = q
IsQuiet-more low high clock h q = omega arith
IsQuiet-more low high (operator op) h q = omega arith

IsQuiet-zero : (k : Next) → IsQuiet 1 k → IsQuiet 0 k
IsQuiet-zero nothing q = tt
IsQuiet-zero parenthesis q = q
IsQuiet-zero clock q = absurd (omega arith)
IsQuiet-zero (operator op) q = absurd (omega (arith, level_low op))

IsQuiet-one : (least : ℕ) (k : Next) → least ≤ 1 → IsQuiet least k → IsQuiet 0 k
IsQuiet-one least k h q = IsQuiet-zero k (IsQuiet-more least 1 k h q)

-- where nothing goes on at the level, nothing goes on with the last operand
edge_quiet : (c : Written) (least : ℕ) (k : Next) → least ≤ level_of c → IsQuiet least k → IsQuiet (edge c) k
edge_quiet (w.choice a b c) least k h q = IsQuiet-one least k (omega arith) q
edge_quiet (w.binary op a b) least k h q =
    elim (right_bound op) [ inl low ↦ IsQuiet-more least (right op) k (omega arith) q | inr low ↦ IsQuiet-more 0 (right op) k (omega arith) (IsQuiet-one least k (omega arith) q) ]
edge_quiet (w.unary op c) least k h q = IsQuiet-more least 8 k h q
edge_quiet (w.number n) least k h q = IsQuiet-more least 11 k (omega arith) q
edge_quiet _ least k h q = IsQuiet-more least 11 k (omega arith) q

-- the operator after its left operand doesn't go on with that operand's last one
left_quiet : (c : Written) (op : Infix) → left op ≤ level_of c → level op < edge c
left_quiet (w.choice a b c) op h = absurd (omega (arith, level_low op, left_bound op))
left_quiet (w.binary one a b) op h = operator_after one op h
left_quiet (w.unary one c) op h = omega (arith, level_high op)
left_quiet (w.number n) op h = omega (arith, level_high op)
left_quiet _ op h = omega (arith, level_high op)

clock_quiet : (c : Written) → 9 ≤ level_of c → 9 < edge c
clock_quiet (w.choice a b c) h = absurd (omega arith)
clock_quiet (w.binary one a b) h = absurd (omega (arith, level_high one))
clock_quiet (w.unary one c) h = absurd (omega arith)
clock_quiet (w.number n) h = omega arith
clock_quiet _ h = omega arith

abbrev on_pattern : Pattern → List ℕ → Condition
on_pattern p x = record { variable = x; pattern = p }

-- no parenthesis may follow the variable of a clock
pub condition-taken : (c : Condition) (rest : List Tok) → IsBare c.pattern → after f.Open rest ≡ Err rest → condition (pattern_tokens c.pattern c.variable rest) ≡ Ok (c, rest)
condition-taken c rest bare over = by_pattern c.pattern bare
  where
    by_pattern : (p : Pattern) → IsBare p → condition (pattern_tokens p c.variable rest) ≡ Ok (on_pattern p c.variable, rest)
    by_pattern (patterns.Truth true) h = ap (clock_from_by c.variable rest) over
    by_pattern (patterns.Truth false) h = refl
    by_pattern (patterns.Label l) h = ap (λ (k : Label). Ok (on_pattern (patterns.Label k) c.variable, rest)) (sym h)

-- no parenthesis follows where no operator does
pub not_opened : (least : ℕ) (rest : List Tok) → IsQuiet least (next rest) → after f.Open rest ≡ Err rest
not_opened least [] q = refl
not_opened least (identifier x ∷ rest) q = refl
not_opened least (number x ∷ rest) q = refl
not_opened least (fixed f.Open ∷ rest) q = absurd q
not_opened least (fixed _ ∷ rest) q = refl

passed_over : {A : Type 0} (a b : Bool) (x y : A) → a ≡ false → cond (a && b) x y ≡ y
passed_over true b x y e = absurd cc
passed_over false b x y e = refl

taken : {A : Type 0} (a b : Bool) (x y : A) → a ≡ true → b ≡ true → cond (a && b) x y ≡ x
taken true true x y h k = refl
taken true false x y h k = absurd cc
taken false b x y h k = absurd cc

allowed-here : (at least : ℕ) (all : List Tok) (r : Read Tree) (x : Tree × List Tok) → least ≤ at → r ≡ Ok x → allowed at least all r ≡ Ok (at, x.0, x.1)
allowed-here at least all r x low e = chosen_true (nat_le least at) (at_level at r) (Err all) (le-leb least at low) ∙ ap (at_level at) e

prefix_no_close : (op : Prefix) (ts : List Tok) → after f.Close (fixed (prefix_token op) ∷ ts) ≡ Err (fixed (prefix_token op) ∷ ts)
prefix_no_close p.Pre ts = refl
prefix_no_close (p.Data u.Minus) ts = refl
prefix_no_close _ ts = refl

-- an expression doesn't begin with the closing parenthesis
not_closed : (c : Written) (rest : List Tok) → after f.Close (tokens c rest) ≡ Err (tokens c rest)
not_closed (w.number k) rest = refl
not_closed (w.truth true) rest = refl
not_closed (w.truth false) rest = refl
not_closed (w.variable x) rest = refl
not_closed (w.unary op c) rest = prefix_no_close op (tokens c rest)
not_closed (w.binary op a b) rest = not_closed a (fixed (infix_token op) ∷ tokens b rest)
not_closed (w.choice a b c) rest = refl
not_closed (w.when c on) rest = not_closed c (when_tokens on rest)
not_closed (w.current x) rest = refl
not_closed (w.merge x ps cs) rest = refl
not_closed (w.call g w.none) rest = refl
not_closed (w.call g (w.more c cs)) rest = refl
not_closed (w.paren c) rest = refl

-- the written operands of a call as a list
abbrev list_of : Writtens → List Written
list_of w.none = []
list_of (w.more c cs) = c ∷ list_of cs

further-list_of : (cs : Writtens) (rest : List Tok) → further cs rest ≡ repeated operand (list_of cs) rest
further-list_of w.none rest = refl
further-list_of (w.more c cs) rest = ap (λ (us : List Tok). fixed f.Comma ∷ tokens c us) (further-list_of cs rest)

abbrev pub operand_trees : Writtens → List Tree
operand_trees cs = flat_map operand_tree (list_of cs)

pub trees_of-operand_trees : (cs : Writtens) → trees_of (operand_trees cs) ≡ trees cs
trees_of-operand_trees w.none = refl
trees_of-operand_trees (w.more c cs) = ap (t.more (tree c)) (trees_of-operand_trees cs)

abbrev IsSmall : ℕ → Written → Type 0
IsSmall n c = IsProper c × (size c ≤ n)

each_small : (n : ℕ) (cs : Writtens) → sizes cs ≤ n → AreProper cs → Each (IsSmall n) (list_of cs)
each_small n w.none h p = tt
each_small n (w.more c cs) h p = ((p.0, omega arith), each_small n cs (omega arith) p.1)

list_of-few : (cs : Writtens) → length (list_of cs) ≤ sizes cs
list_of-few w.none = omega arith
list_of-few (w.more c cs) = omega (arith, list_of-few cs)

abbrev MayFollow : List Tok → Type 0
MayFollow rest = IsQuiet 0 (next rest)

-- the written branches of a merge with names, as a list of pairs
abbrev labelled_of : Writtens → List Pattern → List Labelled
labelled_of (w.more c cs) (patterns.Label l ∷ ps) = (l.name, c) ∷ labelled_of cs ps
labelled_of _ _ = []

branches-labelled : (cs : Writtens) (ps : List Pattern) (rest : List Tok) → AreAsMany cs ps → Each IsBareLabel ps → branches cs ps rest ≡ repeated (led f.Open labelled_tokens) (labelled_of cs ps) rest
branches-labelled w.none [] rest many bare = refl
branches-labelled w.none (p ∷ ps) rest many bare = absurd many
branches-labelled (w.more c cs) [] rest many bare = absurd many
branches-labelled (w.more c cs) (patterns.Truth b ∷ ps) rest many bare = absurd bare.0
branches-labelled (w.more c cs) (patterns.Label l ∷ ps) rest many bare =
    ap (λ (us : List Tok). fixed f.Open ∷ identifier l.name ∷ fixed f.Arrow ∷ tokens c (fixed f.Close ∷ us)) (branches-labelled cs ps rest many bare.1)

labels-labelled : (cs : Writtens) (ps : List Pattern) → AreAsMany cs ps → Each IsBareLabel ps → map (λ (b : List ℕ × Tree). patterns.Label (bare_label b.0)) (flat_map labelled_tree (labelled_of cs ps)) ≡ ps
labels-labelled w.none [] many bare = refl
labels-labelled w.none (p ∷ ps) many bare = absurd many
labels-labelled (w.more c cs) [] many bare = absurd many
labels-labelled (w.more c cs) (patterns.Truth b ∷ ps) many bare = absurd bare.0
labels-labelled (w.more c cs) (patterns.Label l ∷ ps) many bare =
    ap (λ (qs : List Pattern). patterns.Label (bare_label l.name) ∷ qs) (labels-labelled cs ps many bare.1) ∙ ap (λ (k : Label). patterns.Label k ∷ ps) (sym bare.0)

trees-labelled : (cs : Writtens) (ps : List Pattern) → AreAsMany cs ps → Each IsBareLabel ps → trees_of (map (λ (b : List ℕ × Tree). b.1) (flat_map labelled_tree (labelled_of cs ps))) ≡ trees cs
trees-labelled w.none [] many bare = refl
trees-labelled w.none (p ∷ ps) many bare = absurd many
trees-labelled (w.more c cs) [] many bare = absurd many
trees-labelled (w.more c cs) (patterns.Truth b ∷ ps) many bare = absurd bare.0
trees-labelled (w.more c cs) (patterns.Label l ∷ ps) many bare = ap (t.more (tree c)) (trees-labelled cs ps many bare.1)

merged-labelled : (v : List ℕ) (cs : Writtens) (ps : List Pattern) → AreAsMany cs ps → Each IsBareLabel ps → merged v (flat_map labelled_tree (labelled_of cs ps)) ≡ t.merge v ps (trees cs)
merged-labelled v cs ps many bare =
    ap (λ (qs : List Pattern). t.merge v qs (trees_of (map (λ (b : List ℕ × Tree). b.1) (flat_map labelled_tree (labelled_of cs ps))))) (labels-labelled cs ps many bare)
    ∙ ap (t.merge v ps) (trees-labelled cs ps many bare)

abbrev IsSmallBranch : ℕ → Labelled → Type 0
IsSmallBranch n b = IsSmall n b.1

each_branch_small : (n : ℕ) (cs : Writtens) (ps : List Pattern) → branch_sizes cs ps ≤ n → AreProper cs → Each (IsSmallBranch n) (labelled_of cs ps)
each_branch_small n w.none ps h p = tt
each_branch_small n (w.more c cs) [] h p = tt
each_branch_small n (w.more c cs) (patterns.Truth b ∷ ps) h p = tt
each_branch_small n (w.more c cs) (patterns.Label l ∷ ps) h p = ((p.0, omega arith), each_branch_small n cs ps (omega arith) p.1)

labelled_of-few : (cs : Writtens) (ps : List Pattern) → length (labelled_of cs ps) ≤ branch_sizes cs ps
labelled_of-few w.none ps = omega arith
labelled_of-few (w.more c cs) [] = omega arith
labelled_of-few (w.more c cs) (patterns.Truth b ∷ ps) = omega arith
labelled_of-few (w.more c cs) (patterns.Label l ∷ ps) = omega (arith, labelled_of-few cs ps)

abbrev Follows : List Tok → Type 0
Follows rest = Unit {0}

further_quiet : (cs : Writtens) (rest : List Tok) → IsQuiet 0 (next (further cs (fixed f.Close ∷ rest)))
further_quiet w.none rest = tt
further_quiet (w.more c cs) rest = tt

module _ (read : ℕ → List Tok → Read Tree) (n : ℕ) (complete : CompleteAt read n) where
  -- where nothing goes on, the operand is the whole
  climb_over : (m least at : ℕ) (found : Tree) (rest : List Tok) → IsQuiet least (next rest) → climb read m least at found rest ≡ Ok (found, rest)
  unfolding climb
  climb_over zero least at found rest q = refl
  climb_over (suc m) least at found rest q = by_next (next rest) q
    where
      by_next : (k : Next) → IsQuiet least k → step read (climb read m least) least at found rest k ≡ Ok (found, rest)
      by_next nothing q = refl
      by_next parenthesis q = refl
      by_next clock q = passed_over _ _ _ _ (lt-leb least 9 q)
      by_next (operator op) q = passed_over _ _ _ _ (lt-leb least (level op) q)

  operator_taken : (m least at : ℕ) (op : Infix) (b : Written) (found : Tree) (rest : List Tok)
      → least ≤ level op → left op ≤ at → size b ≤ n → IsProper b → right op ≤ level_of b → IsQuiet (right op) (next rest)
      → climb read (suc m) least at found (fixed (infix_token op) ∷ tokens b rest) ≡ climb read m least (level op) (t.binary op found (tree b)) rest
  unfolding climb
  operator_taken m least at op b found rest low fits small p bound q =
      ap (step read (climb read m least) least at found (fixed (infix_token op) ∷ tokens b rest)) (next-operator_token op (tokens b rest))
      ∙ taken (nat_le least (level op)) (nat_le (left op) at) _ _ (le-leb least (level op) low) (le-leb (left op) at fits)
      ∙ goes_on (read (right op) (tokens b rest)) (tree b, rest) (λ x. climb read m least (level op) (t.binary op found x.0) x.1) (complete b (right op) rest small p bound (omega (arith, right_high op)) q)

  clock_taken : (m least at : ℕ) (c : Condition) (found : Tree) (rest : List Tok)
      → least ≤ 9 → 9 ≤ at → IsBare c.pattern → after f.Open rest ≡ Err rest → climb read (suc m) least at found (when_tokens c rest) ≡ climb read m least 9 (t.when found c) rest
  unfolding climb
  clock_taken m least at c found rest low fits bare over =
      taken (nat_le least 9) (nat_le 9 at) _ _ (le-leb least 9 low) (le-leb 9 at fits)
      ∙ goes_on (condition (tail (when_tokens c rest))) (c, rest) (λ x. climb read m least 9 (t.when found x.0) x.1) (condition-taken c rest bare over)

  -- a name alone
  name_alone : (v : List ℕ) (least : ℕ) (rest : List Tok) → IsQuiet least (next rest) → named read n v rest ≡ Ok (t.variable v, rest)
  unfolding named
  name_alone v least [] q = refl
  name_alone v least (identifier x ∷ rest) q = refl
  name_alone v least (number x ∷ rest) q = refl
  name_alone v least (fixed f.Open ∷ rest) q = absurd q
  name_alone v least (fixed _ ∷ rest) q = refl

  operand_taken : (c : Written) (found : List Tree) (rest : List Tok) → IsSmall n c → MayFollow rest → further_operand read found (operand c rest) ≡ Ok (found ++ operand_tree c, rest)
  operand_taken c found rest small q =
      goes_on (read 0 (tokens c rest)) (tree c, rest) (λ x. Ok (found ++ x.0 ∷ [], x.1)) (complete c 0 rest small.1 small.0 (omega arith) (omega arith) q)

  others_taken : (cs : Writtens) (before : List Tree) (rest : List Tok) → sizes cs < n → AreProper cs
      → many (begins f.Comma) (further_operand read) n before (further cs (fixed f.Close ∷ rest)) ≡ Ok (before ++ operand_trees cs, fixed f.Close ∷ rest)
  others_taken cs before rest h p =
      ap (many (begins f.Comma) (further_operand read) n before) (further-list_of cs (fixed f.Close ∷ rest))
      ∙ many_complete (begins f.Comma) (further_operand read) operand operand_tree (IsSmall n) MayFollow (λ c r p. refl) (λ c r. tt) operand_taken
      n (list_of cs) before (fixed f.Close ∷ rest) (each_small n cs (omega arith) p) tt refl (omega (arith, list_of-few cs))

  pub operands_taken : (cs : Writtens) (rest : List Tok) → sizes cs ≤ n → AreProper cs → operands read n (between cs rest) ≡ Ok (operand_trees cs, rest)
  unfolding operands
  operands_taken w.none rest h p = refl
  operands_taken (w.more c cs) rest h p =
      let after_c : List Tok = further cs (fixed f.Close ∷ rest) in
      ap (operands_by read n (tokens c after_c)) (not_closed c after_c)
      ∙ ap closed (
      goes_on (read 0 (tokens c after_c)) (tree c, after_c) (λ x. many (begins f.Comma) (further_operand read) n (x.0 ∷ []) x.1)
      (complete c 0 after_c (omega arith) p.0 (omega arith) (omega arith) (further_quiet cs rest))
      ∙ others_taken cs (tree c ∷ []) rest (omega arith) p.1)

  called : (g : List ℕ) (cs : Writtens) (rest : List Tok) → sizes cs ≤ n → AreProper cs
      → at_level 10 (operands read n (between cs rest) >>= λ found. Ok (t.call g (trees_of found.0), found.1)) ≡ Ok (10, t.call g (trees cs), rest)
  called g cs rest h p =
      ap (λ (r : Read (List Tree)). at_level 10 (r >>= λ found. Ok (t.call g (trees_of found.0), found.1))) (operands_taken cs rest h p)
      ∙ ap (λ (xs : Trees). Ok (10, t.call g xs, rest)) (trees_of-operand_trees cs)

  call_taken : (g : List ℕ) (cs : Writtens) (least : ℕ) (rest : List Tok) → sizes cs ≤ n → AreProper cs → head read n least (tokens (w.call g cs) rest) ≡ Ok (10, t.call g (trees cs), rest)
  unfolding head named
  call_taken g w.none least rest h p = called g w.none rest h p
  call_taken g (w.more c cs) least rest h p = called g (w.more c cs) rest h p

  paren_taken : (c : Written) (least : ℕ) (rest : List Tok) → size c ≤ n → IsProper c → head read n least (fixed f.Open ∷ tokens c (fixed f.Close ∷ rest)) ≡ Ok (10, tree c, rest)
  unfolding head inside
  paren_taken c least rest h p = ap (λ (r : Read Tree). at_level 10 (closed r)) (complete c 0 (fixed f.Close ∷ rest) h p (omega arith) (omega arith) tt)

  choice_taken : (a b c : Written) (least : ℕ) (rest : List Tok) → least ≤ 0 → size a ≤ n → size b ≤ n → size c ≤ n → IsProper a → IsProper b → IsProper c → IsQuiet 0 (next rest)
      → head read n least (fixed f.If ∷ tokens a (fixed f.Then ∷ tokens b (fixed f.Else ∷ tokens c rest))) ≡ Ok (0, t.choice (tree a) (tree b) (tree c), rest)
  unfolding head choice
  choice_taken a b c least rest low ha hb hc pa pb pc q =
      let after_a : List Tok = fixed f.Then ∷ tokens b (fixed f.Else ∷ tokens c rest) in
      let after_b : List Tok = fixed f.Else ∷ tokens c rest in
      allowed-here 0 least (fixed f.If ∷ tokens a after_a) (choice read (tokens a after_a)) (t.choice (tree a) (tree b) (tree c), rest) low (
      goes_on (read 0 (tokens a after_a)) (tree a, after_a) _ (complete a 0 after_a ha pa (omega arith) (omega arith) tt)
      ∙ goes_on (read 0 (tokens b after_b)) (tree b, after_b) _ (complete b 0 after_b hb pb (omega arith) (omega arith) tt)
      ∙ goes_on (read 0 (tokens c rest)) (tree c, rest) (λ x. Ok (t.choice (tree a) (tree b) x.0, x.1)) (complete c 0 rest hc pc (omega arith) (omega arith) q))

  branch_taken : (sign : Fixed) (c : Written) (rest : List Tok) → size c ≤ n → IsProper c
      → branch read sign (fixed f.Open ∷ fixed sign ∷ fixed f.Arrow ∷ tokens c (fixed f.Close ∷ rest)) ≡ Ok (tree c, rest)
  unfolding branch inside
  branch_taken sign c rest h p =
      let inner : List Tok = fixed f.Arrow ∷ tokens c (fixed f.Close ∷ rest) in
      goes_on (after sign (fixed sign ∷ inner)) inner (λ b. after f.Arrow b >>= λ us. inside read us) (after-here sign inner)
      ∙ ap (λ (r : Read Tree). closed r) (complete c 0 (fixed f.Close ∷ rest) h p (omega arith) (omega arith) tt)

  inside_taken : (c : Written) (rest : List Tok) → size c ≤ n → IsProper c → inside read (tokens c (fixed f.Close ∷ rest)) ≡ Ok (tree c, rest)
  unfolding inside
  inside_taken c rest h p = ap (λ (r : Read Tree). closed r) (complete c 0 (fixed f.Close ∷ rest) h p (omega arith) (omega arith) tt)

  -- a merge with both truths
  truths_taken : (v : List ℕ) (a b : Written) (rest : List Tok) → size a ≤ n → size b ≤ n → IsProper a → IsProper b
      → merge read n (identifier v ∷ branches (w.more a (w.more b w.none)) truths rest) ≡ Ok (t.merge v truths (t.more (tree a) (t.more (tree b) t.none)), rest)
  unfolding merge by_truths
  truths_taken v a b rest ha hb pa pb =
      let second : List Tok = fixed f.Open ∷ fixed f.False ∷ fixed f.Arrow ∷ tokens b (fixed f.Close ∷ rest) in
      goes_on (inside read (tokens a (fixed f.Close ∷ second))) (tree a, second) (λ x. branch read f.False x.1 >>= λ y. Ok (t.merge v truths (t.more x.0 (t.more y.0 t.none)), y.1)) (inside_taken a second ha pa)
      ∙ goes_on (branch read f.False second) (tree b, rest) (λ y. Ok (t.merge v truths (t.more (tree a) (t.more y.0 t.none)), y.1)) (branch_taken f.False b rest hb pb)

  labelled_taken : (b : Labelled) (found : List (List ℕ × Tree)) (rest : List Tok) → IsSmallBranch n b → Follows rest → labelled read found (labelled_tokens b rest) ≡ Ok (found ++ labelled_tree b, rest)
  unfolding labelled
  labelled_taken b found rest small follows =
      goes_on (inside read (tokens b.1 (fixed f.Close ∷ rest))) (tree b.1, rest) (λ e. Ok (found ++ (b.0, e.0) ∷ [], e.1)) (inside_taken b.1 rest small.1 small.0)

  further_branch_taken : (b : Labelled) (found : List (List ℕ × Tree)) (rest : List Tok) → IsSmallBranch n b → Follows rest
      → further_branch read found (led f.Open labelled_tokens b rest) ≡ Ok (found ++ labelled_tree b, rest)
  further_branch_taken b found rest small follows = labelled_taken b found rest small follows

  -- a merge with names
  labels_taken : (v : List ℕ) (b : Labelled) (bs : List Labelled) (rest : List Tok) → IsSmallBranch n b → Each (IsSmallBranch n) bs → length bs < n → after f.Open rest ≡ Err rest
      → merge read n (identifier v ∷ fixed f.Open ∷ labelled_tokens b (repeated (led f.Open labelled_tokens) bs rest)) ≡ Ok (merged v (flat_map labelled_tree (b ∷ bs)), rest)
  unfolding merge by_labels
  labels_taken v b bs rest small others few over =
      let after_b : List Tok = repeated (led f.Open labelled_tokens) bs rest in
      goes_on (labelled read [] (labelled_tokens b after_b)) (labelled_tree b, after_b) (λ x. many (begins f.Open) (further_branch read) n x.0 x.1 >>= λ y. Ok (merged v y.0, y.1)) (labelled_taken b [] after_b small tt)
      ∙ goes_on (many (begins f.Open) (further_branch read) n (labelled_tree b) after_b) (labelled_tree b ++ flat_map labelled_tree bs, rest) (λ y. Ok (merged v y.0, y.1))
      (many_complete (begins f.Open) (further_branch read) (led f.Open labelled_tokens) labelled_tree (IsSmallBranch n) Follows (λ c r p. refl) (λ c r. tt) further_branch_taken
      n bs (labelled_tree b) rest others tt (ap (λ (r : Result (List Tok) (List Tok)). is_ok r) over) few)

  both_taken : (v : List ℕ) (cs : Writtens) (rest : List Tok) → branch_sizes cs truths ≤ n → AreProper cs → AreAsMany cs truths
      → merge read n (identifier v ∷ branches cs truths rest) ≡ Ok (t.merge v truths (trees cs), rest)
  both_taken v w.none rest h p many = absurd many
  both_taken v (w.more a w.none) rest h p many = absurd many
  both_taken v (w.more a (w.more b w.none)) rest h p many = truths_taken v a b rest (omega arith) (omega arith) p.0 p.1.0
  both_taken v (w.more a (w.more b (w.more c cs))) rest h p many = absurd many

  named_taken : (v : List ℕ) (cs : Writtens) (ps : List Pattern) (rest : List Tok) → branch_sizes cs ps ≤ n → AreProper cs → AreAsMany cs ps → IsNonempty ps → Each IsBareLabel ps → after f.Open rest ≡ Err rest
      → merge read n (identifier v ∷ branches cs ps rest) ≡ Ok (t.merge v ps (trees cs), rest)
  named_taken v cs [] rest h p many some bare over = absurd some
  named_taken v w.none (q ∷ ps) rest h p many some bare over = absurd many
  named_taken v (w.more c cs) (patterns.Truth b ∷ ps) rest h p many some bare over = absurd bare.0
  named_taken v (w.more c cs) (patterns.Label l ∷ ps) rest h p many some bare over =
      let all : List Pattern = patterns.Label l ∷ ps in
      ap (λ (us : List Tok). merge read n (identifier v ∷ us)) (branches-labelled (w.more c cs) all rest many bare)
      ∙ labels_taken v (l.name, c) (labelled_of cs ps) rest (p.0, omega arith) (each_branch_small n cs ps (omega arith) p.1) (omega (arith, labelled_of-few cs ps)) over
      ∙ ap (λ (e : Tree). Ok (e, rest)) (merged-labelled v (w.more c cs) all many bare)

  merge_taken : (v : List ℕ) (cs : Writtens) (ps : List Pattern) (least : ℕ) (rest : List Tok) → branch_sizes cs ps ≤ n → AreProper cs → AreBranches cs ps → after f.Open rest ≡ Err rest
      → head read n least (tokens (w.merge v ps cs) rest) ≡ Ok (10, t.merge v ps (trees cs), rest)
  unfolding head
  merge_taken v cs ps least rest h p fit over = ap (λ (r : Read Tree). at_level 10 r) (by_patterns fit.1)
    where
      by_patterns : (ps ≡ truths) ⊎ (IsNonempty ps × Each IsBareLabel ps) → merge read n (identifier v ∷ branches cs ps rest) ≡ Ok (t.merge v ps (trees cs), rest)
      by_patterns (inl same) =
          let B : List Pattern → Type 0 = λ qs. branch_sizes cs qs ≤ n in
          let M : List Pattern → Type 0 = AreAsMany cs in
          let P : List Pattern → Type 0 = λ qs. merge read n (identifier v ∷ branches cs qs rest) ≡ Ok (t.merge v qs (trees cs), rest) in
          subst P (sym same) (both_taken v cs rest (subst B same h) p (subst M same fit.0))
      by_patterns (inr (some, bare)) = named_taken v cs ps rest h p fit.0 some bare over

  unary_head : (op : Prefix) (least : ℕ) (ts : List Tok) → head read n least (fixed (prefix_token op) ∷ ts) ≡ allowed 8 least (fixed (prefix_token op) ∷ ts) (prefixed read (fixed (prefix_token op) ∷ ts) (Some op) ts)
  unfolding head
  unary_head p.Pre least ts = refl
  unary_head (p.Data u.Minus) least ts = refl
  unary_head _ least ts = refl

  unary_taken : (op : Prefix) (c : Written) (least : ℕ) (rest : List Tok) → least ≤ 8 → size c ≤ n → IsProper c → 8 ≤ level_of c → IsQuiet 8 (next rest)
      → head read n least (fixed (prefix_token op) ∷ tokens c rest) ≡ Ok (8, t.unary op (tree c), rest)
  unary_taken op c least rest low h p b q =
      unary_head op least (tokens c rest)
      ∙ allowed-here 8 least (fixed (prefix_token op) ∷ tokens c rest) (prefixed read (fixed (prefix_token op) ∷ tokens c rest) (Some op) (tokens c rest)) (t.unary op (tree c), rest) low
      (goes_on (read 8 (tokens c rest)) (tree c, rest) (λ x. Ok (t.unary op x.0, x.1)) (complete c 8 rest h p b (omega arith) q))

  truth_taken : (b : Bool) (least : ℕ) (rest : List Tok) → head read n least (tokens (w.truth b) rest) ≡ Ok (10, t.truth b, rest)
  unfolding head
  truth_taken true least rest = refl
  truth_taken false least rest = refl

  current_taken : (v : List ℕ) (least : ℕ) (rest : List Tok) → least ≤ 8 → head read n least (tokens (w.current v) rest) ≡ Ok (8, t.current v, rest)
  unfolding head
  current_taken v least rest low = allowed-here 8 least (tokens (w.current v) rest) (current (identifier v ∷ rest)) (t.current v, rest) low refl

  by_head : (m least at : ℕ) (found : Tree) (ts rest : List Tok) → n ≡ m → head read n least ts ≡ Ok (at, found, rest) → whole read n least ts ≡ climb read m least at found rest
  unfolding whole
  by_head m least at found ts rest e h =
      goes_on (head read n least ts) (at, found, rest) (λ x. climb read n least x.0 x.1 x.2) h ∙ ap (λ (k : ℕ). climb read k least at found rest) e

  -- Reading a whole operand leads to where its last operator has just been read.
  reach : (c : Written) (m least : ℕ) (rest : List Tok) → n ≡ turns c + m → size c ≤ suc n → IsProper c → least ≤ level_of c → least ≤ 10 → IsQuiet (edge c) (next rest)
      → whole read n least (tokens c rest) ≡ climb read m least (level_of c) (tree c) rest
  unfolding whole head
  reach (w.number k) m least rest e small p b ten q = by_head m least 10 (t.number k) (number k ∷ rest) rest (omega arith) refl
  reach (w.truth x) m least rest e small p b ten q = by_head m least 10 (t.truth x) (tokens (w.truth x) rest) rest (omega arith) (truth_taken x least rest)
  reach (w.variable x) m least rest e small p b ten q = by_head m least 10 (t.variable x) (identifier x ∷ rest) rest (omega arith) (ap (at_level 10) (name_alone x 11 rest q))
  reach (w.unary op c) m least rest e small p b ten q = by_head m least 8 (t.unary op (tree c)) (tokens (w.unary op c) rest) rest (omega arith) (unary_taken op c least rest b (omega arith) p.1 p.0 q)
  reach (w.binary op a c) m least rest e small p b ten q =
      reach a (suc m) least (fixed (infix_token op) ∷ tokens c rest) (omega arith) (omega arith) p.2 (omega (arith, left_bound op)) ten
      (subst (IsQuiet (edge a)) (sym (next-operator_token op (tokens c rest))) (left_quiet a op p.0))
      ∙ operator_taken m least (level_of a) op c (tree a) rest b p.0 (omega arith) p.3 p.1 q
  reach (w.choice a b c) m least rest e small p bound ten q =
      by_head m least 0 (t.choice (tree a) (tree b) (tree c)) (tokens (w.choice a b c) rest) rest (omega arith)
      (choice_taken a b c least rest bound (omega arith) (omega arith) (omega arith) p.0 p.1 p.2 q)
  reach (w.when c on) m least rest e small p b ten q =
      reach c (suc m) least (when_tokens on rest) (omega arith) (omega arith) p.1 (omega arith) ten (clock_quiet c p.0)
      ∙ clock_taken m least (level_of c) on (tree c) rest b p.0 p.2 (not_opened 11 rest q)
  reach (w.current x) m least rest e small p b ten q = by_head m least 8 (t.current x) (tokens (w.current x) rest) rest (omega arith) (current_taken x least rest b)
  reach (w.merge x ps cs) m least rest e small p b ten q =
      by_head m least 10 (t.merge x ps (trees cs)) (tokens (w.merge x ps cs) rest) rest (omega arith) (merge_taken x cs ps least rest (omega arith) p.0 p.1 (not_opened 11 rest q))
  reach (w.call g cs) m least rest e small p b ten q = by_head m least 10 (t.call g (trees cs)) (tokens (w.call g cs) rest) rest (omega arith) (call_taken g cs least rest (omega arith) p)
  reach (w.paren c) m least rest e small p b ten q = by_head m least 10 (tree c) (tokens (w.paren c) rest) rest (omega arith) (paren_taken c least rest (omega arith) p)

  whole_complete : CompleteAt (whole read n) (suc n)
  whole_complete c least rest small p b ten q =
      let h = turns-size c in
      reach c (n - turns c) least rest (omega arith) small p b ten (edge_quiet c least (next rest) b q)
      ∙ climb_over (n - turns c) least (level_of c) (tree c) rest q

size-some : (c : Written) → 1 ≤ size c
size-some c = let h = turns-size c in omega arith

-- What begins the tokens is read, where nothing goes on.
pub expr_complete : (n : ℕ) → CompleteAt (expr n) n
unfolding expr
expr_complete zero c least rest small p b ten q = absurd (omega (arith, size-some c))
expr_complete (suc n) c least rest small p b ten q = whole_complete (expr n) n (expr_complete n) c least rest small p b ten q

pub when-size : (c : Condition) (rest : List Tok) → 2 + length rest ≤ length (when_tokens c rest)
when-size c rest = by_pattern c.pattern
  where
    by_pattern : (p : Pattern) → 2 + length rest ≤ suc (length (pattern_tokens p c.variable rest))
    by_pattern (patterns.Truth true) = omega arith
    by_pattern (patterns.Truth false) = omega arith
    by_pattern (patterns.Label l) = omega arith

mutual
  pub size-tokens : (c : Written) (rest : List Tok) → size c + length rest ≤ length (tokens c rest)
  size-tokens (w.number n) rest = omega arith
  size-tokens (w.truth b) rest = omega arith
  size-tokens (w.variable x) rest = omega arith
  size-tokens (w.unary op c) rest = omega (arith, size-tokens c rest)
  size-tokens (w.binary op a b) rest = omega (arith, size-tokens a (fixed (infix_token op) ∷ tokens b rest), size-tokens b rest)
  size-tokens (w.choice a b c) rest = omega (arith, size-tokens a (fixed f.Then ∷ tokens b (fixed f.Else ∷ tokens c rest)), size-tokens b (fixed f.Else ∷ tokens c rest), size-tokens c rest)
  size-tokens (w.when c on) rest = omega (arith, size-tokens c (when_tokens on rest), when-size on rest)
  size-tokens (w.current x) rest = omega arith
  size-tokens (w.merge x ps cs) rest = omega (arith, branches-tokens cs ps rest)
  size-tokens (w.call g w.none) rest = omega arith
  size-tokens (w.call g (w.more c cs)) rest = omega (arith, size-tokens c (further cs (fixed f.Close ∷ rest)), sizes-tokens cs (fixed f.Close ∷ rest))
  size-tokens (w.paren c) rest = omega (arith, size-tokens c (fixed f.Close ∷ rest))

  pub sizes-tokens : (cs : Writtens) (rest : List Tok) → sizes cs + length rest ≤ length (further cs rest)
  sizes-tokens w.none rest = omega arith
  sizes-tokens (w.more c cs) rest = omega (arith, size-tokens c (further cs rest), sizes-tokens cs rest)

  branches-tokens : (cs : Writtens) (ps : List Pattern) (rest : List Tok) → branch_sizes cs ps + length rest ≤ length (branches cs ps rest)
  branches-tokens w.none ps rest = omega arith
  branches-tokens (w.more c cs) [] rest = omega arith
  branches-tokens (w.more c cs) (p ∷ ps) rest = omega (arith, size-tokens c (fixed f.Close ∷ branches cs ps rest), branches-tokens cs ps rest)

pub tokens-more : (c : Written) (rest : List Tok) → length rest < length (tokens c rest)
tokens-more c rest = omega (arith, size-tokens c rest, size-some c)
