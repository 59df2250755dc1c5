-- What is read of an expression is spelled so.
use Rattle.std.proofs.Common.{◌≡◌, ◌≤◌, ℕ, zero, suc, Option, Some, None, Result, Ok, Err, List, ◌∷◌, [], ◌++◌, map, refl, ap, sym, subst, ◌∙◌, arith, inl, inr, true, false, ◌&&◌, nat_le}
use Rattle.std.specs.List.{flat_map}
use Rattle.std.proofs.lemmas.Bool.{and_parts, leb-true}
use Rattle.lutree.specs.declared.expr.Prefix.{Prefix}
use Rattle.lutree.specs.declared.expr.Infix.{Infix}
use Rattle.lutree.specs.declared.expr.Pattern.{Pattern}
use Rattle.lutree.specs.declared.expr.Pattern.TheVariants as patterns
use Rattle.lutree.specs.Tree.{Tree, Trees, trees_of}
use Rattle.lutree.specs.Tree as t
use Rattle.lusyn_grammar.specs.declared.token.Fixed.{Fixed}
use Rattle.lusyn_grammar.specs.declared.token.Fixed.TheVariants as f
use Rattle.lusyn_grammar.specs.Tokens.{Tok, identifier, number, fixed}
use Rattle.lusyn_grammar.specs.Tokens.{infix_token, prefix_token, prefix_of, level, left, right}
use Rattle.lusyn_grammar.specs.Grammar.{Written, Writtens, tree, trees, tokens, further, level_of, IsProper, AreProper, AreAsMany, IsBareLabel, bare_label, truths, branches, when_tokens, repeated, led, Each}
use Rattle.lusyn_grammar.specs.Grammar as w
use Rattle.lusyn_grammar.specs.Reading.{Read, ◌>>=◌, Next, operator, clock, parenthesis, nothing, next, tail, after, begins, name, condition, many, step, climb, further_operand, closed, operands_by, operands, named_by, named, choice, inside, branch, merged, by_truths, labelled, further_branch, by_labels, merge_by, merge, current, at_level, allowed, prefixed, head, whole, expr}
use Rattle.lusyn_grammar.proofs.Tables.{right_high, next-is_operator, next-is_clock, prefix_of-is}
use Rattle.lusyn_grammar.proofs.Pieces.{bind_ok, tested, same_ok, after-is, name-is, condition-is, condition-bare, Reads, reads, Begins, Sound, many_sound}

-- several operands, as a list of what is written and as the written operands of a call
abbrev pub writtens_of : List Written → Writtens
writtens_of [] = w.none
writtens_of (c ∷ cs) = w.more c (writtens_of cs)

abbrev pub operand : Written → List Tok → List Tok
operand = led f.Comma tokens

abbrev pub operand_tree : Written → List Tree
operand_tree c = tree c ∷ []

pub further-writtens_of : (cs : List Written) (rest : List Tok) → further (writtens_of cs) rest ≡ repeated operand cs rest
further-writtens_of [] rest = refl
further-writtens_of (c ∷ cs) rest = ap (λ (us : List Tok). fixed f.Comma ∷ tokens c us) (further-writtens_of cs rest)

pub AreProper-writtens_of : (cs : List Written) → Each IsProper cs → AreProper (writtens_of cs)
AreProper-writtens_of [] p = tt
AreProper-writtens_of (c ∷ cs) p = (p.0, AreProper-writtens_of cs p.1)

pub trees-writtens_of : (cs : List Written) → trees (writtens_of cs) ≡ trees_of (flat_map operand_tree cs)
trees-writtens_of [] = refl
trees-writtens_of (c ∷ cs) = ap (t.more (tree c)) (trees-writtens_of cs)

-- the operands between the parentheses
abbrev pub between : Writtens → List Tok → List Tok
between w.none rest = fixed f.Close ∷ rest
between (w.more c cs) rest = tokens c (further cs (fixed f.Close ∷ rest))

pub between-tokens : (v : List ℕ) (cs : Writtens) (rest : List Tok) → tokens (w.call v cs) rest ≡ identifier v ∷ fixed f.Open ∷ between cs rest
between-tokens v w.none rest = refl
between-tokens v (w.more c cs) rest = refl

-- the tokens begin with an expression of this level or above
abbrev pub IsPlaced : ℕ → Written → Type 0
IsPlaced least c = (least ≤ level_of c) × IsProper c

abbrev pub Expressed : ℕ → List Tok → Tree × List Tok → Type 0
Expressed least ts x = Reads tokens tree (IsPlaced least) ts x

-- and of exactly this level
abbrev pub IsOf : ℕ → Written → Type 0
IsOf at c = (level_of c ≡ at) × IsProper c

abbrev pub Formed : ℕ → List Tok → Tree × List Tok → Type 0
Formed at ts x = Reads tokens tree (IsOf at) ts x

pub expressed : {least : ℕ} {ts rest : List Tok} {found : Tree} {x : Tree × List Tok} (c : Written) → IsProper c → least ≤ level_of c → tokens c rest ≡ ts → tree c ≡ found → (found, rest) ≡ x → Expressed least ts x
expressed {least = least} {ts = ts} {rest = rest} {found = found} {x = x} c p b s q e = reads tokens tree (IsPlaced least) c ts rest found x (b, p) s q e

formed : {at : ℕ} {ts rest : List Tok} {found : Tree} {x : Tree × List Tok} (c : Written) → IsProper c → level_of c ≡ at → tokens c rest ≡ ts → tree c ≡ found → (found, rest) ≡ x → Formed at ts x
formed {at = at} {ts = ts} {rest = rest} {found = found} {x = x} c p b s q e = reads tokens tree (IsOf at) c ts rest found x (b, p) s q e

along : {least : ℕ} {ts us : List Tok} {found : Tree × List Tok} → ts ≡ us → Expressed least ts found → Expressed least us found
along e h = record { written = h.written; proper = h.proper; spelled = h.spelled ∙ e; stands = h.stands }

stays : (least : ℕ) (c : Written) (ts : List Tok) (x : Tree × List Tok) → IsProper c → least ≤ level_of c → ◌≡◌ {A = Read Tree} (Ok (tree c, ts)) (Ok x) → Expressed least (tokens c ts) x
stays least c ts x p b e = expressed c p b refl refl (same_ok (tree c, ts) x e)

abbrev pub SoundAt : (ℕ → List Tok → Read Tree) → Type 0
SoundAt read = (least : ℕ) (ts : List Tok) (x : Tree × List Tok) → least ≤ 10 → read least ts ≡ Ok x → Expressed least ts x

pub closed-is : {A : Type 0} (r : Read A) (x : A × List Tok) → closed r ≡ Ok x → (us : List Tok) × (r ≡ Ok (x.0, us)) × (fixed f.Close ∷ x.1 ≡ us)
closed-is (Err us) x e = absurd cc
closed-is {A = A} (Ok y) x e =
    let (rest, first, second) = bind_ok (after f.Close y.1) (λ rest. Ok (y.0, rest)) x e in
    let h : (y.0, rest) ≡ x = same_ok (y.0, rest) x second in
    (y.1, ap (λ (z : A × List Tok). Ok (z.0, y.1)) h, ap (λ (z : A × List Tok). fixed f.Close ∷ z.1) (sym h) ∙ after-is f.Close y.1 rest first)

choice_spelled : (a b c : Written) (ts us vs ys zs rest : List Tok) → tokens a ys ≡ ts → fixed f.Then ∷ us ≡ ys → tokens b zs ≡ us → fixed f.Else ∷ vs ≡ zs → tokens c rest ≡ vs
    → tokens (w.choice a b c) rest ≡ fixed f.If ∷ ts
choice_spelled a b c ts us vs ys zs rest h1 h2 h3 h4 h5 = rw (h5, h4, h3, h2, h1) refl

three_trees : (a b c x y z : Tree) → a ≡ x → b ≡ y → c ≡ z → t.choice a b c ≡ t.choice x y z
three_trees a b c x y z h k l = cc

two_branches : (v : List ℕ) (a b x y : Tree) → a ≡ x → b ≡ y → t.merge v truths (t.more a (t.more b t.none)) ≡ t.merge v truths (t.more x (t.more y t.none))
two_branches v a b x y h k = cc

abbrev branch_tokens : Fixed → Written → List Tok → List Tok
branch_tokens sign c rest = fixed f.Open ∷ fixed sign ∷ fixed f.Arrow ∷ tokens c (fixed f.Close ∷ rest)

branch_spelled : (sign : Fixed) (c : Written) (ts a b d rest : List Tok) → fixed f.Open ∷ a ≡ ts → fixed sign ∷ b ≡ a → fixed f.Arrow ∷ d ≡ b → tokens c (fixed f.Close ∷ rest) ≡ d → branch_tokens sign c rest ≡ ts
branch_spelled sign c ts a b d rest h1 h2 h3 h4 = rw (h4, h3, h2) h1

-- a written merge with both truths
abbrev pub by_both : List ℕ → Written → Written → Written
by_both v a b = w.merge v truths (w.more a (w.more b w.none))

truths_spelled : (v : List ℕ) (a b : Written) (ts us vs rest : List Tok) → fixed f.Arrow ∷ us ≡ ts → tokens a (fixed f.Close ∷ vs) ≡ us → branch_tokens f.False b rest ≡ vs
    → tokens (by_both v a b) rest ≡ fixed f.Merge ∷ identifier v ∷ fixed f.Open ∷ fixed f.True ∷ ts
truths_spelled v a b ts us vs rest h1 h2 h3 = rw (h3, h2, h1) refl

-- BRANCHES WITH NAMES, EACH AS A PAIR

abbrev pub Labelled : Type 0
Labelled = List ℕ × Written

-- behind the parenthesis that opens it
abbrev pub labelled_tokens : Labelled → List Tok → List Tok
labelled_tokens b rest = identifier b.0 ∷ fixed f.Arrow ∷ tokens b.1 (fixed f.Close ∷ rest)

abbrev pub labelled_tree : Labelled → List (List ℕ × Tree)
labelled_tree b = (b.0, tree b.1) ∷ []

abbrev pub IsProperBranch : Labelled → Type 0
IsProperBranch b = IsProper b.1

abbrev pub labels_of : List Labelled → List Pattern
labels_of = map (λ b. patterns.Label (bare_label b.0))

abbrev pub branches_of : List Labelled → Writtens
branches_of [] = w.none
branches_of (b ∷ bs) = w.more b.1 (branches_of bs)

pub branches-of : (bs : List Labelled) (rest : List Tok) → branches (branches_of bs) (labels_of bs) rest ≡ repeated (led f.Open labelled_tokens) bs rest
branches-of [] rest = refl
branches-of (b ∷ bs) rest = ap (λ (us : List Tok). fixed f.Open ∷ identifier b.0 ∷ fixed f.Arrow ∷ tokens b.1 (fixed f.Close ∷ us)) (branches-of bs rest)

pub branches_proper : (bs : List Labelled) → Each IsProperBranch bs → AreProper (branches_of bs)
branches_proper [] p = tt
branches_proper (b ∷ bs) p = (p.0, branches_proper bs p.1)

pub as_many : (bs : List Labelled) → AreAsMany (branches_of bs) (labels_of bs)
as_many [] = tt
as_many (b ∷ bs) = as_many bs

pub labels_bare : (bs : List Labelled) → Each IsBareLabel (labels_of bs)
labels_bare [] = tt
labels_bare (b ∷ bs) = (refl, labels_bare bs)

labels-read : (bs : List Labelled) → map (λ (b : List ℕ × Tree). patterns.Label (bare_label b.0)) (flat_map labelled_tree bs) ≡ labels_of bs
labels-read [] = refl
labels-read (b ∷ bs) = ap (λ (ps : List Pattern). patterns.Label (bare_label b.0) ∷ ps) (labels-read bs)

trees-read : (bs : List Labelled) → trees_of (map (λ (b : List ℕ × Tree). b.1) (flat_map labelled_tree bs)) ≡ trees (branches_of bs)
trees-read [] = refl
trees-read (b ∷ bs) = ap (t.more (tree b.1)) (trees-read bs)

pub merged-of : (v : List ℕ) (bs : List Labelled) → merged v (flat_map labelled_tree bs) ≡ t.merge v (labels_of bs) (trees (branches_of bs))
merged-of v bs =
    ap (λ (ps : List Pattern). t.merge v ps (trees_of (map (λ (b : List ℕ × Tree). b.1) (flat_map labelled_tree bs)))) (labels-read bs) ∙ ap (t.merge v (labels_of bs)) (trees-read bs)

module _ (read : ℕ → List Tok → Read Tree) (sound : SoundAt read) where
  -- what follows an operator or a clock was read by `go`
  abbrev Goes : ℕ → (ℕ → Tree → List Tok → Read Tree) → Type 0
  Goes least go = (d : Written) (us : List Tok) (y : Tree × List Tok) → IsProper d → least ≤ level_of d → go (level_of d) (tree d) us ≡ Ok y → Expressed least (tokens d us) y

  operator_sound : (least : ℕ) (go : ℕ → Tree → List Tok → Read Tree) (c : Written) (ts : List Tok) (x : Tree × List Tok) (op : Infix)
      → Goes least go → IsProper c → next ts ≡ operator op → least ≤ level op → left op ≤ level_of c
      → (read (right op) (tail ts) >>= λ y. go (level op) (t.binary op (tree c) y.0) y.1) ≡ Ok x → Expressed least (tokens c ts) x
  operator_sound least go c ts x op goes p k low fits e =
      let (y, first, second) = bind_ok (read (right op) (tail ts)) (λ y. go (level op) (t.binary op (tree c) y.0) y.1) x e in
      let d : Expressed (right op) (tail ts) y = sound (right op) (tail ts) y (omega (arith, right_high op)) first in
      let e2 : go (level op) (t.binary op (tree c) (tree d.written)) y.1 ≡ Ok x = subst (λ (z : Tree). go (level op) (t.binary op (tree c) z) y.1 ≡ Ok x) (sym d.stands) second in
      along (ap (λ (us : List Tok). tokens c (fixed (infix_token op) ∷ us)) d.spelled ∙ ap (tokens c) (next-is_operator ts op k))
      (goes (w.binary op c d.written) y.1 x (fits, d.proper.0, p, d.proper.1) low e2)

  clock_sound : (least : ℕ) (go : ℕ → Tree → List Tok → Read Tree) (c : Written) (ts : List Tok) (x : Tree × List Tok)
      → Goes least go → IsProper c → next ts ≡ clock → least ≤ 9 → 9 ≤ level_of c
      → (condition (tail ts) >>= λ y. go 9 (t.when (tree c) y.0) y.1) ≡ Ok x → Expressed least (tokens c ts) x
  clock_sound least go c ts x goes p k low fits e =
      let (y, first, second) = bind_ok (condition (tail ts)) (λ y. go 9 (t.when (tree c) y.0) y.1) x e in
      along (ap (tokens c) (condition-is (tail ts) y first ∙ next-is_clock ts k)) (goes (w.when c y.0) y.1 x (fits, p, condition-bare (tail ts) y first) low second)

  step_sound : (least : ℕ) (go : ℕ → Tree → List Tok → Read Tree) (c : Written) (ts : List Tok) (x : Tree × List Tok)
      → Goes least go → IsProper c → least ≤ level_of c
      → (k : Next) → next ts ≡ k → step read go least (level_of c) (tree c) ts k ≡ Ok x → Expressed least (tokens c ts) x
  step_sound least go c ts x goes p b nothing k e = stays least c ts x p b e
  step_sound least go c ts x goes p b parenthesis k e = stays least c ts x p b e
  step_sound least go c ts x goes p b (operator op) k e =
      tested (nat_le least (level op) && nat_le (left op) (level_of c)) _ _ _ e
      (λ held first. let h = and_parts (nat_le least (level op)) (nat_le (left op) (level_of c)) held in
      operator_sound least go c ts x op goes p k (leb-true _ _ h.0) (leb-true _ _ h.1) first)
      (λ failed first. stays least c ts x p b first)
  step_sound least go c ts x goes p b clock k e =
      tested (nat_le least 9 && nat_le 9 (level_of c)) _ _ _ e
      (λ held first. let h = and_parts (nat_le least 9) (nat_le 9 (level_of c)) held in
      clock_sound least go c ts x goes p k (leb-true _ _ h.0) (leb-true _ _ h.1) first)
      (λ failed first. stays least c ts x p b first)

  climb_sound : (n least : ℕ) (c : Written) (ts : List Tok) (x : Tree × List Tok) → IsProper c → least ≤ level_of c
      → climb read n least (level_of c) (tree c) ts ≡ Ok x → Expressed least (tokens c ts) x
  unfolding climb
  climb_sound zero least c ts x p b e = stays least c ts x p b e
  climb_sound (suc n) least c ts x p b e = step_sound least (climb read n least) c ts x (climb_sound n least) p b (next ts) refl e

  further_operand_sound : (found : List Tree) (ts : List Tok) (x : List Tree × List Tok) → further_operand read found ts ≡ Ok x → Begins operand operand_tree IsProper found ts x
  further_operand_sound found ts x e =
      let (rest, one, e1) = bind_ok (after f.Comma ts) (λ rest. read 0 rest >>= λ y. Ok (found ++ y.0 ∷ [], y.1)) x e in
      let (y, two, e2) = bind_ok (read 0 rest) (λ y. Ok (found ++ y.0 ∷ [], y.1)) x e1 in
      let d : Expressed 0 rest y = sound 0 rest y (omega arith) two in
      reads operand (λ c. found ++ operand_tree c) IsProper d.written ts y.1 (found ++ y.0 ∷ []) x d.proper.1
      (ap (λ (us : List Tok). fixed f.Comma ∷ us) d.spelled ∙ after-is f.Comma ts rest one)
      (ap (λ (z : Tree). found ++ z ∷ []) d.stands) (same_ok (found ++ y.0 ∷ [], y.1) x e2)

  abbrev pub Holds : List Tok → List Tree × List Tok → Type 0
  Holds ts x = Reads between (λ cs. trees cs) AreProper ts (trees_of x.0, x.1)

  some_operands_sound : (n : ℕ) (ts : List Tok) (x : List Tree × List Tok)
      → closed (read 0 ts >>= λ y. many (begins f.Comma) (further_operand read) n (y.0 ∷ []) y.1) ≡ Ok x → Holds ts x
  some_operands_sound n ts x e =
      let (us, e1, last) = closed-is (read 0 ts >>= λ y. many (begins f.Comma) (further_operand read) n (y.0 ∷ []) y.1) x e in
      let (y, first, second) = bind_ok (read 0 ts) (λ y. many (begins f.Comma) (further_operand read) n (y.0 ∷ []) y.1) (x.0, us) e1 in
      let d : Expressed 0 ts y = sound 0 ts y (omega arith) first in
      let r : Begins (repeated operand) (flat_map operand_tree) (Each IsProper) (y.0 ∷ []) y.1 (x.0, us) =
      many_sound (begins f.Comma) (further_operand read) operand operand_tree IsProper further_operand_sound n (y.0 ∷ []) y.1 (x.0, us) second in
      record {
        written = w.more d.written (writtens_of r.written);
        proper = (d.proper.1, AreProper-writtens_of r.written r.proper);
        spelled =
            ap (tokens d.written) (further-writtens_of r.written (fixed f.Close ∷ x.1) ∙ ap (repeated operand r.written) last ∙ r.spelled)
            ∙ d.spelled;
        stands =
            ap (λ (z : Tree). t.more z (trees (writtens_of r.written))) d.stands ∙ ap (t.more y.0) (trees-writtens_of r.written)
            ∙ ap trees_of r.stands;
      }

  operands_by_sound : (n : ℕ) (ts : List Tok) (x : List Tree × List Tok) (r : Result (List Tok) (List Tok)) → after f.Close ts ≡ r → operands_by read n ts r ≡ Ok x → Holds ts x
  operands_by_sound n ts x (Ok rest) h e =
      let s : ([], rest) ≡ x = same_ok ([], rest) x e in
      record {
        written = w.none;
        proper = tt;
        spelled = ap (λ (y : List Tree × List Tok). fixed f.Close ∷ y.1) (sym s) ∙ after-is f.Close ts rest h;
        stands = ap (λ (y : List Tree × List Tok). trees_of y.0) s;
      }
  operands_by_sound n ts x (Err us) h e = some_operands_sound n ts x e

  pub operands_sound : (n : ℕ) (ts : List Tok) (x : List Tree × List Tok) → operands read n ts ≡ Ok x → Holds ts x
  unfolding operands
  operands_sound n ts x e = operands_by_sound n ts x (after f.Close ts) refl e

  named_by_sound : (n : ℕ) (v : List ℕ) (ts : List Tok) (x : Tree × List Tok) (r : Result (List Tok) (List Tok)) → after f.Open ts ≡ r → named_by read n v ts r ≡ Ok x
      → Formed 10 (identifier v ∷ ts) x
  named_by_sound n v ts x (Err us) h e = formed (w.variable v) tt refl refl refl (same_ok (t.variable v, ts) x e)
  named_by_sound n v ts x (Ok rest) h e =
      let (y, first, second) = bind_ok (operands read n rest) (λ y. Ok (t.call v (trees_of y.0), y.1)) x e in
      let r : Holds rest y = operands_sound n rest y first in
      formed (w.call v r.written) r.proper refl
      (between-tokens v r.written y.1 ∙ ap (λ (us : List Tok). identifier v ∷ fixed f.Open ∷ us) r.spelled ∙ ap (λ (us : List Tok). identifier v ∷ us) (after-is f.Open ts rest h))
      (ap (t.call v) r.stands) (same_ok (t.call v (trees_of y.0), y.1) x second)

  named_sound : (n : ℕ) (v : List ℕ) (ts : List Tok) (x : Tree × List Tok) → named read n v ts ≡ Ok x → Formed 10 (identifier v ∷ ts) x
  unfolding named
  named_sound n v ts x e = named_by_sound n v ts x (after f.Open ts) refl e

  choice_sound : (ts : List Tok) (x : Tree × List Tok) → choice read ts ≡ Ok x → Formed 0 (fixed f.If ∷ ts) x
  unfolding choice
  choice_sound ts x e =
      let (y, y_is, e1) = bind_ok (read 0 ts) _ x e in
      let (us, us_is, e2) = bind_ok (after f.Then y.1) _ x e1 in
      let (z, z_is, e3) = bind_ok (read 0 us) _ x e2 in
      let (vs, vs_is, e4) = bind_ok (after f.Else z.1) _ x e3 in
      let (u, u_is, e5) = bind_ok (read 0 vs) (λ u. Ok (t.choice y.0 z.0 u.0, u.1)) x e4 in
      let a : Expressed 0 ts y = sound 0 ts y (omega arith) y_is in
      let b : Expressed 0 us z = sound 0 us z (omega arith) z_is in
      let c : Expressed 0 vs u = sound 0 vs u (omega arith) u_is in
      formed {at = 0} (w.choice a.written b.written c.written) (a.proper.1, b.proper.1, c.proper.1) refl
      (choice_spelled a.written b.written c.written ts us vs y.1 z.1 u.1 a.spelled (after-is f.Then y.1 us us_is) b.spelled (after-is f.Else z.1 vs vs_is) c.spelled)
      (three_trees (tree a.written) (tree b.written) (tree c.written) y.0 z.0 u.0 a.stands b.stands c.stands)
      (same_ok (t.choice y.0 z.0 u.0, u.1) x e5)

  inside_sound : (ts : List Tok) (x : Tree × List Tok) → inside read ts ≡ Ok x → Formed 10 (fixed f.Open ∷ ts) x
  unfolding inside
  inside_sound ts x e =
      let (us, first, last) = closed-is (read 0 ts) x e in
      let d : Expressed 0 ts (x.0, us) = sound 0 ts (x.0, us) (omega arith) first in
      formed (w.paren d.written) d.proper.1 refl
      (ap (λ (vs : List Tok). fixed f.Open ∷ tokens d.written vs) last ∙ ap (λ (vs : List Tok). fixed f.Open ∷ vs) d.spelled) d.stands refl

  -- up to the parenthesis that closes it
  abbrev Inner : List Tok → Tree × List Tok → Type 0
  Inner ts x = Reads (λ c rest. tokens c (fixed f.Close ∷ rest)) tree IsProper ts x

  inner_sound : (ts : List Tok) (x : Tree × List Tok) → inside read ts ≡ Ok x → Inner ts x
  unfolding inside
  inner_sound ts x e =
      let (us, first, last) = closed-is (read 0 ts) x e in
      let d : Expressed 0 ts (x.0, us) = sound 0 ts (x.0, us) (omega arith) first in
      record { written = d.written; proper = d.proper.1; spelled = ap (tokens d.written) last ∙ d.spelled; stands = d.stands }

  branch_sound : (sign : Fixed) (ts : List Tok) (x : Tree × List Tok) → branch read sign ts ≡ Ok x → Reads (branch_tokens sign) tree IsProper ts x
  unfolding branch
  branch_sound sign ts x e =
      let (a, h1, e1) = bind_ok (after f.Open ts) _ x e in
      let (b, h2, e2) = bind_ok (after sign a) _ x e1 in
      let (c, h3, e3) = bind_ok (after f.Arrow b) (λ c. inside read c) x e2 in
      let d : Inner c x = inner_sound c x e3 in
      record {
        written = d.written;
        proper = d.proper;
        spelled = branch_spelled sign d.written ts a b c x.1 (after-is f.Open ts a h1) (after-is sign a b h2) (after-is f.Arrow b c h3) d.spelled;
        stands = d.stands;
      }

  by_truths_sound : (v : List ℕ) (ts : List Tok) (x : Tree × List Tok) → by_truths read v ts ≡ Ok x → Formed 10 (fixed f.Merge ∷ identifier v ∷ fixed f.Open ∷ fixed f.True ∷ ts) x
  unfolding by_truths
  by_truths_sound v ts x e =
      let (a, h1, e1) = bind_ok (after f.Arrow ts) _ x e in
      let (y, h2, e2) = bind_ok (inside read a) _ x e1 in
      let (z, h3, e3) = bind_ok (branch read f.False y.1) (λ z. Ok (t.merge v truths (t.more y.0 (t.more z.0 t.none)), z.1)) x e2 in
      let b : Inner a y = inner_sound a y h2 in
      let c : Reads (branch_tokens f.False) tree IsProper y.1 z = branch_sound f.False y.1 z h3 in
      formed (by_both v b.written c.written) ((b.proper, (c.proper, tt)), (tt, inl refl)) refl
      (truths_spelled v b.written c.written ts a y.1 z.1 (after-is f.Arrow ts a h1) b.spelled c.spelled)
      (two_branches v (tree b.written) (tree c.written) y.0 z.0 b.stands c.stands) (same_ok (t.merge v truths (t.more y.0 (t.more z.0 t.none)), z.1) x e3)

  labelled_sound : Sound labelled_tokens labelled_tree IsProperBranch (labelled read)
  unfolding labelled
  labelled_sound found ts x e =
      let (v, h1, e1) = bind_ok (name ts) _ x e in
      let (a, h2, e2) = bind_ok (after f.Arrow v.1) _ x e1 in
      let (y, h3, e3) = bind_ok (inside read a) (λ y. Ok (found ++ (v.0, y.0) ∷ [], y.1)) x e2 in
      let d : Inner a y = inner_sound a y h3 in
      reads labelled_tokens (λ b. found ++ labelled_tree b) IsProperBranch (v.0, d.written) ts y.1 (found ++ (v.0, y.0) ∷ []) x d.proper
      (ap (λ (us : List Tok). identifier v.0 ∷ fixed f.Arrow ∷ us) d.spelled ∙ ap (λ (us : List Tok). identifier v.0 ∷ us) (after-is f.Arrow v.1 a h2) ∙ name-is ts v h1)
      (ap (λ (z : Tree). found ++ (v.0, z) ∷ []) d.stands) (same_ok (found ++ (v.0, y.0) ∷ [], y.1) x e3)

  further_branch_sound : Sound (led f.Open labelled_tokens) labelled_tree IsProperBranch (further_branch read)
  further_branch_sound found ts x e =
      let (rest, first, second) = bind_ok (after f.Open ts) (labelled read found) x e in
      let h : Begins labelled_tokens labelled_tree IsProperBranch found rest x = labelled_sound found rest x second in
      record { written = h.written; proper = h.proper; spelled = ap (λ (us : List Tok). fixed f.Open ∷ us) h.spelled ∙ after-is f.Open ts rest first; stands = h.stands }

  by_labels_sound : (n : ℕ) (v : List ℕ) (ts : List Tok) (x : Tree × List Tok) → by_labels read n v ts ≡ Ok x → Formed 10 (fixed f.Merge ∷ identifier v ∷ fixed f.Open ∷ ts) x
  unfolding by_labels
  by_labels_sound n v ts x e =
      let (y, h1, e1) = bind_ok (labelled read [] ts) _ x e in
      let (z, h2, e2) = bind_ok (many (begins f.Open) (further_branch read) n y.0 y.1) (λ z. Ok (merged v z.0, z.1)) x e1 in
      let b : Begins labelled_tokens labelled_tree IsProperBranch [] ts y = labelled_sound [] ts y h1 in
      let bs : Begins (repeated (led f.Open labelled_tokens)) (flat_map labelled_tree) (Each IsProperBranch) y.0 y.1 z =
      many_sound (begins f.Open) (further_branch read) (led f.Open labelled_tokens) labelled_tree IsProperBranch further_branch_sound n y.0 y.1 z h2 in
      let all : List Labelled = b.written ∷ bs.written in
      let found : flat_map labelled_tree all ≡ z.0 = ap (λ (us : List (List ℕ × Tree)). us ++ flat_map labelled_tree bs.written) b.stands ∙ bs.stands in
      formed (w.merge v (labels_of all) (branches_of all)) (branches_proper all (b.proper, bs.proper), (as_many all, inr (tt, labels_bare all))) refl
      (ap (λ (us : List Tok). fixed f.Merge ∷ identifier v ∷ us)
      (branches-of all z.1 ∙ ap (λ (us : List Tok). fixed f.Open ∷ labelled_tokens b.written us) bs.spelled ∙ ap (λ (us : List Tok). fixed f.Open ∷ us) b.spelled))
      (sym (merged-of v all) ∙ ap (merged v) found) (same_ok (merged v z.0, z.1) x e2)

  formed_along : (at : ℕ) (ts us : List Tok) (x : Tree × List Tok) → ts ≡ us → Formed at ts x → Formed at us x
  formed_along at ts us x e h = record { written = h.written; proper = h.proper; spelled = h.spelled ∙ e; stands = h.stands }

  merge_by_sound : (n : ℕ) (v : List ℕ) (ts : List Tok) (x : Tree × List Tok) (r : Result (List Tok) (List Tok)) → after f.True ts ≡ r → merge_by read n v ts r ≡ Ok x
      → Formed 10 (fixed f.Merge ∷ identifier v ∷ fixed f.Open ∷ ts) x
  merge_by_sound n v ts x (Err us) h e = by_labels_sound n v ts x e
  merge_by_sound n v ts x (Ok rest) h e =
      formed_along 10 (fixed f.Merge ∷ identifier v ∷ fixed f.Open ∷ fixed f.True ∷ rest) (fixed f.Merge ∷ identifier v ∷ fixed f.Open ∷ ts) x
      (ap (λ (us : List Tok). fixed f.Merge ∷ identifier v ∷ fixed f.Open ∷ us) (after-is f.True ts rest h)) (by_truths_sound v rest x e)

  merge_sound : (n : ℕ) (ts : List Tok) (x : Tree × List Tok) → merge read n ts ≡ Ok x → Formed 10 (fixed f.Merge ∷ ts) x
  unfolding merge
  merge_sound n ts x e =
      let (v, h1, e1) = bind_ok (name ts) _ x e in
      let (a, h2, e2) = bind_ok (after f.Open v.1) (λ a. merge_by read n v.0 a (after f.True a)) x e1 in
      formed_along 10 (fixed f.Merge ∷ identifier v.0 ∷ fixed f.Open ∷ a) (fixed f.Merge ∷ ts) x
      (ap (λ (us : List Tok). fixed f.Merge ∷ identifier v.0 ∷ us) (after-is f.Open v.1 a h2) ∙ ap (λ (us : List Tok). fixed f.Merge ∷ us) (name-is ts v h1))
      (merge_by_sound n v.0 a x (after f.True a) refl e2)

  current_sound : (ts : List Tok) (x : Tree × List Tok) → current ts ≡ Ok x → Formed 8 (fixed f.Current ∷ ts) x
  current_sound ts x e =
      let (v, first, second) = bind_ok (name ts) (λ v. Ok (t.current v.0, v.1)) x e in
      formed (w.current v.0) tt refl (ap (λ (us : List Tok). fixed f.Current ∷ us) (name-is ts v first)) refl (same_ok (t.current v.0, v.1) x second)

  prefixed_sound : (g : Fixed) (o : Option Prefix) (ts : List Tok) (x : Tree × List Tok) → prefix_of g ≡ o → prefixed read (fixed g ∷ ts) o ts ≡ Ok x → Formed 8 (fixed g ∷ ts) x
  prefixed_sound g None ts x k e = absurd cc
  prefixed_sound g (Some op) ts x k e =
      let (z, first, second) = bind_ok (read 8 ts) (λ z. Ok (t.unary op z.0, z.1)) x e in
      let d : Expressed 8 ts z = sound 8 ts z (omega arith) first in
      formed (w.unary op d.written) d.proper refl
      (ap (λ (us : List Tok). fixed (prefix_token op) ∷ us) d.spelled ∙ ap (λ (o : Fixed). fixed o ∷ ts) (prefix_of-is g op k))
      (ap (t.unary op) d.stands) (same_ok (t.unary op z.0, z.1) x second)

  -- an operand of this level, before any operator follows it
  record Heads (least : ℕ) (ts : List Tok) (x : ℕ × Tree × List Tok) : Type 0 where
    bound : least ≤ x.0
    form : Formed x.0 ts (x.1, x.2)

  at_level_sound : (least at : ℕ) (r : Read Tree) (ts : List Tok) (x : ℕ × Tree × List Tok)
      → least ≤ at → ((y : Tree × List Tok) → r ≡ Ok y → Formed at ts y) → at_level at r ≡ Ok x → Heads least ts x
  at_level_sound least at (Err us) ts x b holds e = absurd cc
  at_level_sound least at (Ok y) ts x b holds e =
      let h : (at, y.0, y.1) ≡ x = same_ok (at, y.0, y.1) x e in
      let H : ℕ × Tree × List Tok → Type 0 = Heads least ts in
      subst H h (record { bound = b; form = holds y refl })

  allowed_sound : (at least : ℕ) (r : Read Tree) (ts : List Tok) (x : ℕ × Tree × List Tok)
      → ((y : Tree × List Tok) → r ≡ Ok y → Formed at ts y) → allowed at least ts r ≡ Ok x → Heads least ts x
  allowed_sound at least r ts x holds e =
      tested (nat_le least at) (at_level at r) (Err ts) (Ok x) e
      (λ held first. at_level_sound least at r ts x (leb-true least at held) holds first) (λ failed first. absurd cc)

  head_sound : (n least : ℕ) (ts : List Tok) (x : ℕ × Tree × List Tok) → least ≤ 10 → head read n least ts ≡ Ok x → Heads least ts x
  unfolding head
  head_sound n least [] x b e = absurd cc
  head_sound n least (identifier v ∷ ts) x b e = at_level_sound least 10 (named read n v ts) (identifier v ∷ ts) x b (named_sound n v ts) e
  head_sound n least (number k ∷ ts) x b e =
      at_level_sound least 10 (Ok (t.number k, ts)) (number k ∷ ts) x b (λ y found. formed (w.number k) tt refl refl refl (same_ok (t.number k, ts) y found)) e
  head_sound n least (fixed f.True ∷ ts) x b e =
      at_level_sound least 10 (Ok (t.truth true, ts)) (fixed f.True ∷ ts) x b (λ y found. formed (w.truth true) tt refl refl refl (same_ok (t.truth true, ts) y found)) e
  head_sound n least (fixed f.False ∷ ts) x b e =
      at_level_sound least 10 (Ok (t.truth false, ts)) (fixed f.False ∷ ts) x b (λ y found. formed (w.truth false) tt refl refl refl (same_ok (t.truth false, ts) y found)) e
  head_sound n least (fixed f.Merge ∷ ts) x b e = at_level_sound least 10 (merge read n ts) (fixed f.Merge ∷ ts) x b (merge_sound n ts) e
  head_sound n least (fixed f.Open ∷ ts) x b e = at_level_sound least 10 (inside read ts) (fixed f.Open ∷ ts) x b (inside_sound ts) e
  head_sound n least (fixed f.If ∷ ts) x b e = allowed_sound 0 least (choice read ts) (fixed f.If ∷ ts) x (choice_sound ts) e
  head_sound n least (fixed f.Current ∷ ts) x b e = allowed_sound 8 least (current ts) (fixed f.Current ∷ ts) x (current_sound ts) e
  head_sound n least (fixed g ∷ ts) x b e = allowed_sound 8 least (prefixed read (fixed g ∷ ts) (prefix_of g) ts) (fixed g ∷ ts) x (λ y first. prefixed_sound g (prefix_of g) ts y refl first) e

  whole_sound : (n least : ℕ) (ts : List Tok) (x : Tree × List Tok) → least ≤ 10 → whole read n least ts ≡ Ok x → Expressed least ts x
  unfolding whole
  whole_sound n least ts x b e =
      let (y, first, second) = bind_ok (head read n least ts) (λ y. climb read n least y.0 y.1 y.2) x e in
      let h : Heads least ts y = head_sound n least ts y b first in
      let c : Written = h.form.written in
      let level_is : level_of c ≡ y.0 = h.form.proper.0 in
      let e1 : climb read n least (level_of c) y.1 y.2 ≡ Ok x = subst (λ (at : ℕ). climb read n least at y.1 y.2 ≡ Ok x) (sym level_is) second in
      let e2 : climb read n least (level_of c) (tree c) y.2 ≡ Ok x = subst (λ (z : Tree). climb read n least (level_of c) z y.2 ≡ Ok x) (sym h.form.stands) e1 in
      along h.form.spelled (climb_sound n least c y.2 x h.form.proper.1 (subst (λ (at : ℕ). least ≤ at) (sym level_is) h.bound) e2)

-- What is read begins the tokens.
pub expr_sound : (n : ℕ) → SoundAt (expr n)
unfolding expr
expr_sound zero least ts x b e = absurd cc
expr_sound (suc n) least ts x b e = whole_sound (expr n) (expr_sound n) n least ts x b e
