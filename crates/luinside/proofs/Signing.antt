-- The signs of expressions, one behind the other.
use Rattle.std.proofs.Common.{◌≡◌, ◌∙◌, ◌<◌, ◌≤◌, ◌+◌, ◌++◌, ◌∷◌, [], ℕ, zero, suc, List, take, drop, map, length, get_or, Option, Some, None, refl, sym, ap, arith, append_assoc, subst}
use Rattle.std.specs.Prelude.{slice_get, option_and_then, Result, Ok, Err}
use Rattle.std.proofs.lemmas.List.{append-nil, take_more}
use Rattle.std.proofs.lemmas.Option.{same_Some}
use Rattle.lutree.specs.declared.expr.Expr.{Expr}
use Rattle.lutree.specs.declared.expr.Pattern.{Pattern}
use Rattle.lutree.specs.Tree.{Tree, view, views, trees_of, list_of}
use Rattle.lutree.specs.Tree as tree
use Rattle.lusyn_grammar.specs.declared.token.Fixed.TheVariants as f
use Rattle.lusyn_grammar.specs.declared.token.Token.{Token}
use Rattle.lusyn_grammar.specs.declared.token.Lexeme.{Lexeme}
use Rattle.lusyn_grammar.specs.Tokens.{Tok, identifier, fixed, tok, toks, located}
use Rattle.luinside.specs.Parts.{operands}
use Rattle.luinside.specs.Signs.{signs, all_signs, all_branch_signs, branch_signs, begun, signs_to, signs_before, expression_at, Pushes, IsBehind}

-- ARGUMENTS

abbrev pub signs_among : List Expr → List Tok
signs_among es = all_signs (trees_of (views es))

among_append : (xs ys : List Expr) → signs_among (xs ++ ys) ≡ signs_among xs ++ signs_among ys
among_append [] ys = refl
among_append (x ∷ xs) ys =
    ap (λ r. signs (view x) ++ r) (among_append xs ys) ∙ sym (append_assoc (signs (view x)) (signs_among xs) (signs_among ys))

pub signs_pushed : (old one two : List Tok) (es : List Expr) (i : ℕ) (e : Expr)
    → i < length es → e ≡ get_or es i e → one ≡ old ++ signs_among (take i es) → two ≡ one ++ signs (view e) → two ≡ old ++ signs_among (take (i + 1) es)
signs_pushed old one two es i e lt is before now =
    let here = signs (view e) in
    let more : signs_among (take (i + 1) es) ≡ signs_among (take i es) ++ here =
    ap signs_among (take_more es i e lt ∙ ap (λ x. take i es ++ x ∷ []) (sym is)) ∙ among_append (take i es) (e ∷ []) ∙ ap (λ r. signs_among (take i es) ++ r) (append-nil here) in
    now ∙ ap (λ r. r ++ here) before ∙ append_assoc old (signs_among (take i es)) here ∙ ap (λ r. old ++ r) (sym more)

-- BRANCHES

abbrev pub branches_among : List Pattern → List Expr → List Tok
branches_among ps es = all_branch_signs ps (trees_of (views es))

-- none are left, or none have a pattern
pub no_branches : (ps : List Pattern) → branches_among ps [] ≡ []
no_branches ps = refl

pub no_patterns : (es : List Expr) → branches_among [] es ≡ []
no_patterns [] = refl
no_patterns (e ∷ es) = refl

-- the names of a left side
pub names_pushed : (old one two : List Tok) (xs : List (List ℕ)) (i : ℕ) (x : List ℕ)
    → i < length xs → x ≡ get_or xs i x → one ≡ old ++ map identifier (take i xs) → two ≡ one ++ identifier x ∷ [] → two ≡ old ++ map identifier (take (i + 1) xs)
names_pushed old one two xs i x lt is before now =
    let more : map identifier (take (i + 1) xs) ≡ map identifier (take i xs) ++ identifier x ∷ [] =
    ap (map identifier) (take_more xs i x lt ∙ ap (λ y. take i xs ++ y ∷ []) (sym is)) ∙ mapped (take i xs) x in
    now ∙ ap (λ r. r ++ identifier x ∷ []) before ∙ append_assoc old (map identifier (take i xs)) (identifier x ∷ []) ∙ ap (λ r. old ++ r) (sym more)
  where
    mapped : (ys : List (List ℕ)) (y : List ℕ) → map identifier (ys ++ y ∷ []) ≡ map identifier ys ++ identifier y ∷ []
    mapped [] y = refl
    mapped (z ∷ ys) y = ap (λ r. identifier z ∷ r) (mapped ys y)

-- trees of a list are that list
pub trees_back : (xs : List Tree) → list_of (trees_of xs) ≡ xs
trees_back [] = refl
trees_back (x ∷ xs) = ap (λ r. x ∷ r) (trees_back xs)

pub taken : (n : ℕ) (es : List Expr) → take n (list_of (trees_of (views es))) ≡ views (take n es)
taken zero es = refl
taken (suc n) [] = refl
taken (suc n) (e ∷ es) = ap (λ r. view e ∷ r) (taken n es)

pub got : (es : List Expr) (n : ℕ) → slice_get (list_of (trees_of (views es))) n ≡ slice_get (views es) n
got es n = ap (λ l. slice_get l n) (trees_back (views es))

-- ON THE WAY TO A PART

pub drop_here : (xs : List ℕ) (i x : ℕ) → i < length xs → x ≡ get_or xs i x → drop i xs ≡ x ∷ drop (i + 1) xs
drop_here [] i x lt is = absurd (omega (arith, lt))
drop_here (y ∷ xs) zero x lt is = ap (λ z. z ∷ xs) (sym is)
drop_here (y ∷ xs) (suc i) x lt is =
    let z : suc (i + 1) ≡ suc i + 1 = omega arith in
    drop_here xs i x (omega (arith, lt)) is ∙ ap (λ n. x ∷ drop n (y ∷ xs)) z

pub before_kept : (old one two : List Tok) (e a : Tree) (all : List Tok) (part : List ℕ) (i n : ℕ) → i < length part → n ≡ get_or part i n → slice_get (operands e) n ≡ Some a
    → one ++ signs_before (Some e) (drop i part) ≡ old ++ all → two ≡ one ++ signs_to e n → two ++ signs_before (Some a) (drop (i + 1) part) ≡ old ++ all
before_kept old one two e a all part i n lt is at before now =
    let rest = drop (i + 1) part in
    let step : signs_before (Some e) (drop i part) ≡ signs_to e n ++ signs_before (Some a) rest =
    ap (signs_before (Some e)) (drop_here part i n lt is) ∙ ap (λ o. signs_to e n ++ signs_before o rest) at in
    ap (λ t. t ++ signs_before (Some a) rest) now ∙ append_assoc one (signs_to e n) (signs_before (Some a) rest) ∙ ap (λ t. one ++ t) (sym step) ∙ before

pub at_kept : (e a start : Tree) (part : List ℕ) (i n : ℕ) → i < length part → n ≡ get_or part i n → slice_get (operands e) n ≡ Some a
    → expression_at e (drop i part) ≡ expression_at start part → expression_at a (drop (i + 1) part) ≡ expression_at start part
at_kept e a start part i n lt is at before =
    let rest = drop (i + 1) part in
    let step : expression_at e (drop i part) ≡ expression_at a rest =
    ap (expression_at e) (drop_here part i n lt is) ∙ ap (option_and_then (λ b. expression_at b rest)) at in
    sym step ∙ before

-- PUSHED BEHIND WHAT WAS PUSHED

pub then_pushes : {X E : Type 0} (r : Result X E) (old mid new : List Token) (h m all : List Tok) → map tok mid ≡ map tok old ++ h → h ++ m ≡ all → Pushes r mid new m → Pushes r old new all
then_pushes (Ok x) old mid new h m all before is now = now ∙ ap (λ t. t ++ m) before ∙ append_assoc (map tok old) h m ∙ ap (λ t. map tok old ++ t) is
then_pushes (Err e) old mid new h m all before is now = tt

pub pushes_as : {X E : Type 0} (r : Result X E) (old new : List Token) (m all : List Tok) → m ≡ all → Pushes r old new m → Pushes r old new all
pushes_as r old new m all is now = subst (Pushes r old new) is now

pub slice_past : {A : Type 0} (xs : List A) (n : ℕ) → length xs ≤ n → slice_get xs n ≡ None
slice_past [] n le = refl
slice_past (x ∷ xs) zero le = absurd (omega (arith, le))
slice_past (x ∷ xs) (suc n) le = slice_past xs n (omega (arith, le))

-- A MERGE BEFORE A BRANCH

module _ (n : ℕ) where
  abbrev pub merge_front : List ℕ → List Pattern → List Expr → List Tok
  merge_front x ps es = fixed f.Merge ∷ identifier x ∷ (branches_among ps (take n es) ++ begun (slice_get ps n))

  pub merge_front_is : (x : List ℕ) (ps : List Pattern) (es : List Expr) → merge_front x ps es ≡ signs_to (tree.merge x ps (trees_of (views es))) n
  merge_front_is x ps es = ap (λ ts. fixed f.Merge ∷ identifier x ∷ (all_branch_signs ps (trees_of ts) ++ begun (slice_get ps n))) (sym (taken n es))

  pub merge_same : (x y : List ℕ) (ps qs : List Pattern) (es ds : List Expr) → x ≡ y → ps ≡ qs → es ≡ ds → merge_front x ps es ≡ merge_front y qs ds
  merge_same x y ps qs es ds same_x same_ps same_es =
      ap (λ x. merge_front x ps es) same_x ∙ ap (λ ps. merge_front y ps es) same_ps ∙ ap (merge_front y qs) same_es

  abbrev pub call_front : List ℕ → List Expr → List Tok
  call_front g es = identifier g ∷ signs_among (take n es)

  pub call_front_is : (g : List ℕ) (es : List Expr) → call_front g es ≡ signs_to (tree.call g (trees_of (views es))) n
  call_front_is g es = ap (λ ts. identifier g ∷ all_signs (trees_of ts)) (sym (taken n es))

-- THE SIGN BEHIND SOME

split_at : (ls : List Lexeme) (n : ℕ) (l : Lexeme) → slice_get ls n ≡ Some l → located ls ≡ located (take n ls) ++ (l.place, tok l.token) ∷ located (drop (suc n) ls)
split_at [] n l is = cc
split_at (k ∷ ls) zero l is = ap (λ (x : Lexeme). (x.place, tok x.token) ∷ located ls) (same_Some k l is)
split_at (k ∷ ls) (suc n) l is = ap (λ r. (k.place, tok k.token) ∷ r) (split_at ls n l is)

taken_toks : (ls : List Lexeme) (n : ℕ) → map (λ (p : ℕ × Tok). p.1) (located (take n ls)) ≡ take n (toks ls)
taken_toks [] zero = refl
taken_toks [] (suc n) = refl
taken_toks (l ∷ ls) zero = refl
taken_toks (l ∷ ls) (suc n) = ap (λ r. tok l.token ∷ r) (taken_toks ls n)

pub behind_is : (ls : List Lexeme) (ss : List Tok) (n : ℕ) (l : Lexeme) (sign : Tok) → slice_get ls n ≡ Some l → take n (toks ls) ≡ ss → tok l.token ≡ sign → IsBehind (located ls) ss sign l.place
behind_is ls ss n l sign at before is = record {
  before = located (take n ls);
  behind = located (drop (suc n) ls);
  all = split_at ls n l at ∙ ap (λ t. located (take n ls) ++ (l.place, t) ∷ located (drop (suc n) ls)) is;
  before_are = taken_toks ls n ∙ before;
}

-- one more of two lists that are the same so far
pub same_more : (xs ys : List Tok) (i : ℕ) (t : Tok) → slice_get xs i ≡ Some t → slice_get ys i ≡ Some t → take i xs ≡ take i ys → take (i + 1) xs ≡ take (i + 1) ys
same_more xs ys i t at other before =
    let z : suc i ≡ i + 1 = omega arith in
    sym (ap (λ n. take n xs) z) ∙ (more xs i at ∙ ap (λ l. l ++ t ∷ []) before ∙ sym (more ys i other)) ∙ ap (λ n. take n ys) z
  where
    more : (zs : List Tok) (n : ℕ) → slice_get zs n ≡ Some t → take (suc n) zs ≡ take n zs ++ t ∷ []
    more [] n h = cc
    more (z ∷ zs) zero h = ap (λ x. x ∷ []) (same_Some z t h)
    more (z ∷ zs) (suc n) h = ap (λ l. z ∷ l) (more zs n h)

pub taken_signs : (ss : List Token) (i : ℕ) → map tok (take i ss) ≡ take i (map tok ss)
taken_signs [] zero = refl
taken_signs [] (suc i) = refl
taken_signs (s ∷ ss) zero = refl
taken_signs (s ∷ ss) (suc i) = ap (λ l. tok s ∷ l) (taken_signs ss i)
