-- The equations of a node, passed one after another.
use Rattle.std.proofs.Common.{◌≡◌, ◌<◌, ◌≤◌, ◌+◌, ◌-◌, ℕ, zero, suc, Bool, true, false, cond, List, [], ◌∷◌, ◌++◌, length, map, take, get_or, Option, Some, None, refl, sym, ap, subst, ◌∙◌, arith}
use Rattle.std.specs.Prelude.{slice_get, unwrap_or, option_map}
use Rattle.std.specs.Str.{bytes_eq}
use Rattle.std.proofs.lemmas.List.{take_more, map-append, length-map, length-take-le, take_all}
use Rattle.std.proofs.lemmas.Option.{slice_get-map}
use Rattle.lubase.specs.Places.{first_place}
use Rattle.lubase.proofs.Sought.{shifted_first}
use Rattle.lutree.specs.declared.expr.Infix.TheVariants.{Data, Arrow, FollowedBy}
use Rattle.lutree.specs.declared.program.Equation.{Equation}
use Rattle.lutree.specs.declared.program.Declaration.{Declaration}
use Rattle.lutree.specs.declared.program.Node.{Node}
use Rattle.lutree.specs.Tree.{Tree, EquationTree, NodeTree, ProgramTree, view, equation_view, node_view}
use Rattle.lutree.specs.Tree as tree
use Rattle.lustat_rules.specs.Faults.{declared_in}
use Rattle.lustat_rules.proofs.Declared.{names_in_view}
use Rattle.lusource.specs.Names.{variables_of, place_of}
use Rattle.lusource.specs.Source.{calls}
use Rattle.lucore_laws.specs.Sizes.{root_size, made_size, equations_size, node_size}
use Rattle.luinside.specs.declared.passing.Here.{Here}
use Rattle.luinside.specs.declared.passing.Own.{Own}
use Rattle.luinside.specs.declared.passing.Reached.TheVariants.{Behind, At}
use Rattle.luinside.specs.Parts.{operands, calls_among, rights}
use Rattle.luinside.specs.Owns.{EquationAmong, is_defined, NoneDefines, IsOwn, own_size, sum_made}
use Rattle.luinside.specs.FlowsPassed.{Enters}
use Rattle.luinside.specs.Standing.{FindsInner, FindsRoot}
use Rattle.luinside.proofs.Descent.{made_is}

-- NAMES AND PLACES

one_further : (o : Option ℕ) (n : ℕ) → unwrap_or (option_map suc o) (suc n) ≡ suc (unwrap_or o n)
one_further None n = refl
one_further (Some i) n = refl

place_step : (b : Bool) (i n : ℕ) (o : Option ℕ) → i ≡ unwrap_or o n → cond b 0 (suc i) ≡ unwrap_or (cond b (Some 0) (option_map suc o)) (suc n)
place_step true i n o e = refl
place_step false i n o e = ap suc e ∙ sym (one_further o n)

-- the place of a name, or the length of the list
pub place_there : (ys : List (List ℕ)) (x : List ℕ) → place_of ys x ≡ unwrap_or (first_place ys x) (length ys)
place_there [] x = refl
place_there (y ∷ ys) x =
    place_step (bytes_eq y x) (place_of ys x) (length ys) (first_place ys x) (place_there ys x)
    ∙ ap (λ o. unwrap_or (cond (bytes_eq y x) (Some 0) o) (suc (length ys))) (sym (shifted_first ys x))

-- a node has as many variables as declarations
pub declared_long : (n : Node) (ds : List Declaration) → ds ≡ declared_in n → length ds ≡ length (variables_of (node_view n))
declared_long n ds e = ap length e ∙ sym (length-map (declared_in n) (λ (d : Declaration). d.name)) ∙ ap length (sym (names_in_view n))

-- the variable at a place
pub declared_name : (n : Node) (ds : List Declaration) (i : ℕ) (d : Declaration) → ds ≡ declared_in n → slice_get ds i ≡ Some d → slice_get (variables_of (node_view n)) i ≡ Some d.name
declared_name n ds i d e there =
    ap (λ l. slice_get l i) (names_in_view n) ∙ slice_get-map (λ (d : Declaration). d.name) (declared_in n) i
    ∙ ap (option_map (λ (d : Declaration). d.name)) (ap (λ l. slice_get l i) (sym e) ∙ there)

-- ONE OF SOME

split_at : {A : Type 0} (xs : List A) (i : ℕ) (x : A) → i < length xs → x ≡ get_or xs i x → (back : List A) × (xs ≡ take i xs ++ x ∷ back)
split_at [] i x lt is = absurd (omega (arith, lt))
split_at (y ∷ ys) zero x lt is = (ys, ap (λ x. x ∷ ys) (sym is))
split_at (y ∷ ys) (suc i) x lt is = let deep = split_at ys i x (omega (arith, lt)) is in (deep.0, ap (λ l. y ∷ l) deep.1)

none_append : (x : List ℕ) (xs : List EquationTree) (q : EquationTree) → NoneDefines x xs → is_defined x q ≡ false → NoneDefines x (xs ++ q ∷ [])
none_append x [] q h e = (e, tt)
none_append x (y ∷ xs) q h e = (h.0, none_append x xs q h.1 e)

module _ (p : ProgramTree) (s : List ℕ) where
  root_inside : (e : Tree) → root_size e ≤ own_size p s e
  root_inside (tree.number n) = omega arith
  root_inside (tree.truth b) = omega arith
  root_inside (tree.label x) = omega arith
  root_inside (tree.variable x) = omega arith
  root_inside (tree.unary op a) = omega arith
  root_inside (tree.binary (Data op) a b) = omega arith
  root_inside (tree.binary Arrow a b) = omega arith
  root_inside (tree.binary FollowedBy a b) = omega arith
  root_inside (tree.choice c a b) = omega arith
  root_inside (tree.when a c) = omega arith
  root_inside (tree.current x) = omega arith
  root_inside (tree.merge c ps all) = omega arith
  root_inside (tree.call f all) = omega arith

  -- all flows of an expression but the root's
  inner_is : (e : Tree) → made_size p s e - root_size e ≡ sum_made p s (operands e) + (own_size p s e - root_size e)
  inner_is e = let m = made_is p s e in let r = root_inside e in omega (arith, m, r)

  size_append : (xs : List EquationTree) (q : EquationTree) → equations_size p s (xs ++ q ∷ []) ≡ equations_size p s xs + (made_size p s q.right - root_size q.right)
  size_append [] q = omega arith
  size_append (x ∷ xs) q = let e = size_append xs q in omega (arith, e)

  rights_append : (xs : List EquationTree) (q : EquationTree) → calls_among (rights (xs ++ q ∷ [])) ≡ calls_among (rights xs) + calls q.right
  rights_append [] q = omega arith
  rights_append (x ∷ xs) q = let e = rights_append xs q in omega (arith, e)

  module _ (node : NodeTree) (items : List Equation) (are : node.equations ≡ map equation_view items) where
    abbrev first : ℕ → List EquationTree
    first i = map equation_view (take i items)

    first_more : (i : ℕ) (q : Equation) → i < length items → q ≡ get_or items i q → first (i + 1) ≡ first i ++ equation_view q ∷ []
    first_more i q lt is = ap (map equation_view) (take_more items i q lt ∙ ap (λ x. take i items ++ x ∷ []) (sym is)) ∙ map-append equation_view (take i items) (q ∷ [])

    abbrev among : (i : ℕ) (q : Equation) (lt : i < length items) (is : q ≡ get_or items i q) → EquationAmong node.equations i
    among i q lt is = record {
      front = first i;
      equation = equation_view q;
      back = map equation_view (split_at items i q lt is).0;
      are = are ∙ ap (map equation_view) (split_at items i q lt is).1 ∙ map-append equation_view (take i items) (q ∷ (split_at items i q lt is).0);
      number = (let l = length-map (take i items) equation_view in let m = length-take-le i items in omega (arith, lt, l, m));
    }

    abbrev nv : ℕ
    nv = length (variables_of node)

    -- INNER FLOWS

    -- some equations are passed
    pub record Passed (target i : ℕ) (numbers : List ℕ) (here : Here) : Type 0 where
      pub fresh : numbers ≡ []
      pub place : here.place ≡ nv + equations_size p s (first i)
      pub number : here.calls ≡ calls_among (rights (first i))
      pub before : here.place ≤ target

    pub none_passed : (target : ℕ) (numbers : List ℕ) (here : Here) → numbers ≡ [] → here.place ≡ nv → here.calls ≡ 0 → nv ≤ target → Passed target 0 numbers here
    none_passed target numbers here fresh place none le = record { fresh = fresh; place = omega (arith, place); number = none; before = omega (arith, place, le) }

    pub one_passed : (target i : ℕ) (numbers new : List ℕ) (here b : Here) (q : Equation) (count : ℕ) → i < length items → q ≡ get_or items i q → Passed target i numbers here → count ≡ own_size p s (view q.right) - root_size (view q.right)
        → Enters p s target i (view q.right) count here numbers new (Behind b) → Passed target (i + 1) new b
    one_passed target i numbers new here b q count lt is passed counted entered =
        let more = first_more i q lt is in
        let size = ap (equations_size p s) more ∙ size_append (first i) (equation_view q) in
        let calls_more = ap (λ l. calls_among (rights l)) more ∙ rights_append (first i) (equation_view q) in
        let inner = inner_is (view q.right) in
        let place = passed.place in
        let number = passed.number in
        let next = entered.1 in
        let next' = entered.2 in
        record { fresh = entered.0 ∙ passed.fresh; place = omega (arith, size, inner, place, next, counted); number = omega (arith, calls_more, number, next'); before = entered.3 }

    pub inner_found : (target i : ℕ) (numbers new : List ℕ) (here : Here) (x : Own) (q : Equation) (count : ℕ) → i < length items → q ≡ get_or items i q → Passed target i numbers here → count ≡ own_size p s (view q.right) - root_size (view q.right)
        → Enters p s target i (view q.right) count here numbers new (At x) → FindsInner p s node target new (Some x)
    inner_found target i numbers new here x q count lt is passed counted (rest, are_new, own, inside) =
        let inner = inner_is (view q.right) in
        let place = passed.place in
        record {
          number = i;
          rest = rest;
          numbers_are = are_new ∙ ap (λ l. (l ++ i ∷ []) ++ rest) passed.fresh;
          x = among i q lt is;
          is_own = subst (λ c. IsOwn p s target (view q.right) (nv + equations_size p s (first i)) c rest (view x.expression.now) x.here.place x.here.calls) passed.number
              (subst (λ t. IsOwn p s target (view q.right) t here.calls rest (view x.expression.now) x.here.place x.here.calls) passed.place own);
          inside = omega (arith, inner, place, inside, counted);
        }

    pub all_passed : (target i : ℕ) (numbers : List ℕ) (here : Here) → length items ≤ i → Passed target i numbers here → node_size p s node ≤ target
    all_passed target i numbers here le passed =
        let all = ap (equations_size p s) (ap (map equation_view) (take_all i items le) ∙ sym are) in
        let place = passed.place in
        let before = passed.before in
        omega (arith, all, place, before)

    -- THE EQUATION OF A VARIABLE

    pub record Skipped (name : List ℕ) (i : ℕ) (numbers : List ℕ) (place : ℕ) : Type 0 where
      pub fresh : numbers ≡ []
      pub place_is : place ≡ nv + equations_size p s (first i)
      pub none : NoneDefines name (first i)

    pub none_skipped : (name : List ℕ) (numbers : List ℕ) (place : ℕ) → numbers ≡ [] → place ≡ nv → Skipped name 0 numbers place
    none_skipped name numbers place fresh is = record { fresh = fresh; place_is = omega (arith, is); none = tt }

    pub one_skipped : (name : List ℕ) (i : ℕ) (numbers : List ℕ) (place behind : ℕ) (q : Equation) → i < length items → q ≡ get_or items i q → Skipped name i numbers place → behind ≡ place + (made_size p s (view q.right) - root_size (view q.right))
        → is_defined name (equation_view q) ≡ false → Skipped name (i + 1) numbers behind
    one_skipped name i numbers place behind q lt is skipped next no_one =
        let more = first_more i q lt is in
        let size = ap (equations_size p s) more ∙ size_append (first i) (equation_view q) in
        let at = skipped.place_is in
        record { fresh = skipped.fresh; place_is = omega (arith, size, at, next); none = subst (NoneDefines name) (sym more) (none_append name (first i) (equation_view q) skipped.none no_one) }

    pub root_found : (name : List ℕ) (i : ℕ) (numbers new : List ℕ) (place : ℕ) (x : Own) (q : Equation) → i < length items → q ≡ get_or items i q → Skipped name i numbers place → x.here.place ≡ place + (made_size p s (view q.right) - root_size (view q.right))
        → x.expression.now ≡ q.right → is_defined name (equation_view q) ≡ true → new ≡ numbers ++ i ∷ [] → FindsRoot p s node name new (Some x)
    root_found name i numbers new place x q lt is skipped next same does are_new =
        let at = skipped.place_is in
        record {
          number = i;
          numbers_are = are_new ∙ ap (λ l. l ++ i ∷ []) skipped.fresh;
          x = among i q lt is;
          first = skipped.none;
          defines = does;
          found = ap view same;
          behind = omega (arith, at, next);
        }

    pub all_skipped : (name : List ℕ) (i : ℕ) (numbers : List ℕ) (place : ℕ) → length items ≤ i → Skipped name i numbers place → NoneDefines name node.equations
    all_skipped name i numbers place le skipped = subst (NoneDefines name) (ap (map equation_view) (take_all i items le) ∙ sym are) skipped.none
