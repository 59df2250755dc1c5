-- Operands passed one after another.
use Rattle.std.proofs.Common.{◌≡◌, ◌<◌, ◌≤◌, ◌+◌, ℕ, List, [], ◌∷◌, ◌++◌, length, take, get_or, refl, sym, ap, subst, ◌∙◌, arith, append_assoc}
use Rattle.std.proofs.lemmas.List.{take_more, map-append, append-nil, length-map, length-take-le}
use Rattle.lutree.specs.declared.expr.Expr.{Expr}
use Rattle.lutree.specs.Tree.{Tree, ProgramTree, list_of, view, views, trees_of}
use Rattle.lusource.specs.Source.{calls}
use Rattle.lucore_laws.specs.Sizes.{made_size, all_size}
use Rattle.luinside.specs.declared.passing.Here.{Here}
use Rattle.luinside.specs.declared.passing.Own.{Own}
use Rattle.luinside.specs.declared.passing.Reached.{Reached}
use Rattle.luinside.specs.declared.passing.Reached.TheVariants.{Behind, At}
use Rattle.luinside.specs.Parts.{operands, calls_among}
use Rattle.luinside.specs.Owns.{Among, own_size, own_calls, sum_made, IsOwn}
use Rattle.luinside.specs.FlowsPassed.{PassesAll, PassesOwn, Enters, Passes, IsBefore, Leaves}
use Rattle.luinside.proofs.Descent.{made_is, calls_are, sum_append, calls_append, own_inside}

pub trees_back : (xs : List Tree) → list_of (trees_of xs) ≡ xs
trees_back [] = refl
trees_back (x ∷ xs) = ap (λ l. x ∷ l) (trees_back xs)

-- so many expressions come before
pub views_before : (es : List Expr) (i : ℕ) → i < length es → i ≡ length (views (take i es))
views_before es i lt = let l = length-map (take i es) view in let m = length-take-le i es in omega (arith, lt, l, m)

-- one more expression of a row in memory
pub views_more : (es : List Expr) (i : ℕ) (e : Expr) → i < length es → e ≡ get_or es i e → views (take (i + 1) es) ≡ views (take i es) ++ view e ∷ []
views_more es i e lt is =
    ap views (take_more es i e lt ∙ ap (λ x. take i es ++ x ∷ []) (sym is)) ∙ map-append view (take i es) (e ∷ [])

module _ (p : ProgramTree) (s : List ℕ) where
  size_append : (xs : List Tree) (a : Tree) → all_size p s (trees_of (xs ++ a ∷ [])) ≡ all_size p s (trees_of xs) + made_size p s a
  size_append [] a = omega arith
  size_append (x ∷ xs) a = let e = size_append xs a in omega (arith, e)

  pub size_more : (es : List Expr) (i : ℕ) (e : Expr) → i < length es → e ≡ get_or es i e → all_size p s (trees_of (views (take (i + 1) es))) ≡ all_size p s (trees_of (views (take i es))) + made_size p s (view e)
  size_more es i e lt is = ap (λ l. all_size p s (trees_of l)) (views_more es i e lt is) ∙ size_append (views (take i es)) (view e)

  module _ (target : ℕ) where
    -- behind the operands, and before the own flows
    pub own_behind : (e : Tree) (count : ℕ) (h b b' : Here) (old new : List ℕ) → PassesAll p s target (operands e) h old new (Behind b) → b'.place ≡ b.place + count → b'.calls ≡ b.calls + own_calls e → b'.place ≤ target
        → PassesOwn p s target e count h old new (Behind b')
    own_behind e count h b b' old new passed place calls le =
        let are = calls_are e in
        let is = passed.1 in
        let same = passed.2 in
        (passed.0, omega (arith, place, is), omega (arith, calls, same, are), le)

    -- among the own flows
    pub own_at : (e : Tree) (count : ℕ) (h : Here) (x : Own) (old new : List ℕ) → PassesAll p s target (operands e) h old new (Behind x.here) → e ≡ view x.expression.now → count ≤ own_size p s e → target < x.here.place + count
        → PassesOwn p s target e count h old new (At x)
    own_at e count h x old new passed same le lt =
        let is = passed.1 in
        ([], passed.0 ∙ sym (append-nil old), (sym same, passed.1, passed.2, passed.3, omega (arith, lt, le)), omega (arith, lt, is))

    -- inside an operand
    pub inside_at : (e : Tree) (count : ℕ) (h : Here) (x : Own) (old new : List ℕ) → PassesAll p s target (operands e) h old new (At x) → PassesOwn p s target e count h old new (At x)
    inside_at e count h x old new (n, rest, is, a, own) =
        let inside = own_inside p s target rest a.operand (h.place + sum_made p s a.front) (h.calls + calls_among a.front) (view x.expression.now) x.here.place x.here.calls own in
        let high = inside.1 in
        let all = ap (sum_made p s) a.are in
        let parts = sum_append p s a.front (a.operand ∷ a.back) in
        (n ∷ rest, is, (a, own), omega (arith, high, all, parts))

    abbrev among_last : (all : List Tree) (a : Tree) (n : ℕ) → n ≡ length all → Among (all ++ a ∷ []) n
    among_last all a n is = record { front = all; operand = a; back = []; are = refl; number = is }

    abbrev among_more : (all : List Tree) (a : Tree) (n : ℕ) (x : Among all n) → Among (all ++ a ∷ []) n
    among_more all a n x = record {
      front = x.front;
      operand = x.operand;
      back = x.back ++ a ∷ [];
      are = ap (λ l. l ++ a ∷ []) x.are ∙ append_assoc x.front (x.operand ∷ x.back) (a ∷ []);
      number = x.number;
    }

    -- one more operand is passed
    pub one_more : (all : List Tree) (a : Tree) (n : ℕ) (h : Here) (old mid new : List ℕ) (r r' : Reached) → n ≡ length all → PassesAll p s target all h old mid r → Passes p s target n a r mid new r' → PassesAll p s target (all ++ a ∷ []) h old new r'
    one_more all a n h old mid new (At x) r' is (m, rest, numbers, among, own) then =
        subst (PassesAll p s target (all ++ a ∷ []) h old new) (sym then.1) (m, rest, then.0 ∙ numbers, among_more all a m among, own)
    one_more all a n h old mid new (Behind b) (Behind b') is before then =
        let made = made_is p s a in
        let sum = sum_append p s all (a ∷ []) in
        let count = calls_append all (a ∷ []) in
        let place = before.1 in
        let number = before.2 in
        let next = then.1 in
        let next' = then.2 in
        (then.0 ∙ before.0, omega (arith, made, sum, place, next), omega (arith, count, number, next'), then.3)
    one_more all a n h old mid new (Behind b) (At x) is before (rest, numbers, own, lt) = (
      n,
      rest,
      numbers ∙ ap (λ l. (l ++ n ∷ []) ++ rest) before.0 ∙ append_assoc old (n ∷ []) rest,
      among_last all a n is,
      subst (λ c. IsOwn p s target a (h.place + sum_made p s all) c rest (view x.expression.now) x.here.place x.here.calls) before.2
          (subst (λ t. IsOwn p s target a t b.calls rest (view x.expression.now) x.here.place x.here.calls) before.1 own),
    )

    -- the number of an expression, taken away or not
    pub entered : (n : ℕ) (e : Tree) (count : ℕ) (h : Here) (old start mid new : List ℕ) (r : Reached) → start ≡ old ++ n ∷ [] → PassesOwn p s target e count h start mid r → Leaves r mid new → Enters p s target n e count h old new r
    entered n e count h old start mid new (Behind b) is passed left = (left old n (passed.0 ∙ is), passed.1, passed.2, passed.3)
    entered n e count h old start mid new (At x) is (rest, numbers, own, lt) left = (rest, left ∙ numbers ∙ ap (λ l. l ++ rest) is, own, lt)

    pub none_passed : (h : Here) (old : List ℕ) → h.place ≤ target → PassesAll p s target [] h old old (Behind h)
    none_passed h old le = (refl, omega arith, omega arith, le)

    -- some operands of an expression
    pub passed_one : (a : Tree) (h : Here) (old new : List ℕ) (r : Reached) → h.place ≤ target → Passes p s target 0 a (Behind h) old new r → PassesAll p s target (a ∷ []) h old new r
    passed_one a h old new r le passed = one_more [] a 0 h old old new (Behind h) r refl (none_passed h old le) passed

    pub passed_as : (xs ys : List Tree) (h : Here) (old new : List ℕ) (r : Reached) → xs ≡ ys → PassesAll p s target ys h old new r → PassesAll p s target xs h old new r
    passed_as xs ys h old new r same passed = subst (λ l. PassesAll p s target l h old new r) (sym same) passed

    pub is_before : (all : List Tree) (h : Here) (old new : List ℕ) (r : Reached) → PassesAll p s target all h old new r → IsBefore target r
    is_before all h old new (Behind b) passed = passed.3
    is_before all h old new (At x) passed = tt
