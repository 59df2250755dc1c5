-- A table of labels finds what a name stands for.
use Rattle.std.proofs.Common.{◌≡◌, ℕ, zero, suc, ◌+◌, ◌<◌, ◌≤◌, ◌++◌, Bool, true, false, cond, List, [], ◌∷◌, map, length, drop, get_or, Option, Some, None, refl, ap, sym, ◌∙◌, subst, arith, add-one, drop-cons, append_assoc, append-nil, Bor, nat_lt}
use Rattle.std.proofs.lemmas.List.{drop_all}
use Rattle.std.specs.Prelude.{slice_get}
use Rattle.std.specs.Option.{option_map, is_some, IfSome, option_copied}
use Rattle.std.proofs.lemmas.Bool.{ltb-true, ltb-false}
use Rattle.std.proofs.lemmas.Option.{slice_get_past, slice_get-get_or}
use Rattle.std.specs.Str.{bytes_eq}
use Rattle.lubase.specs.Places.{place_from, first_place}
use Rattle.lutree.specs.declared.expr.Label.{Label}
use Rattle.lutree.specs.declared.program.Kind.{Kind}
use Rattle.lutree.specs.declared.program.DeclaredName.{DeclaredName}
use Rattle.lutree.specs.declared.program.TypeDeclaration.{TypeDeclaration}
use Rattle.lubase.specs.Limits.{most_types, most_names}
use Rattle.lutree.specs.Tree.{TypeTree, type_view}
use Rattle.lusyn_grammar.specs.Grammar.{Each}
use Rattle.lusyn_parser.specs.Resolved.{numbered, enumeration, labels_from, label_among, kind_from}
use Rattle.lusyn_parser.specs.Tables.{types_view, mark, marked, marks_of, names_of, AreFew, AreShort}

-- WHAT IS FOUND

-- what a name stands for, where its place in the row, counted from a number on, is given
abbrev pub FindsLabel : List Label → List ℕ → ℕ → Option ℕ → Type 0
FindsLabel ls x i None = label_among ls x ≡ None
FindsLabel ls x i (Some k) = (j : ℕ) × (k ≡ i + j) × (m : Kind × ℕ) × (slice_get (marks_of ls) j ≡ Some m) × (label_among ls x ≡ Some (marked x m))

reported_behind : (l : Label) (ls : List Label) (x : List ℕ) (i : ℕ) (o : Option ℕ) → bytes_eq l.name x ≡ false → FindsLabel ls x (i + 1) o → FindsLabel (l ∷ ls) x i o
reported_behind l ls x i None other h = ap (λ (b : Bool). cond b (Some (marked x (mark l))) (label_among ls x)) other ∙ h
reported_behind l ls x i (Some k) other (j, e, m, here, found) =
    (suc j, omega (arith, e), m, here, ap (λ (b : Bool). cond b (Some (marked x (mark l))) (label_among ls x)) other ∙ found)

reported_step : (l : Label) (ls : List Label) (x : List ℕ) (i : ℕ) (o : Option ℕ) (b : Bool) → bytes_eq l.name x ≡ b → FindsLabel ls x (i + 1) o → FindsLabel (l ∷ ls) x i (cond b (Some i) o)
reported_step l ls x i o true same h = (0, omega arith, mark l, refl, ap (λ (b : Bool). cond b (Some (marked x (mark l))) (label_among ls x)) same)
reported_step l ls x i o false other h = reported_behind l ls x i o other h

reported : (ls : List Label) (x : List ℕ) (i : ℕ) → FindsLabel ls x i (place_from i (names_of ls) x)
reported [] x i = refl
reported (l ∷ ls) x i = reported_step l ls x i (place_from (i + 1) (names_of ls) x) (bytes_eq l.name x) refl (reported ls x (i + 1))

pub reported-first : (ls : List Label) (x : List ℕ) (o : Option ℕ) → first_place (names_of ls) x ≡ o → FindsLabel ls x 0 o
reported-first ls x o e = subst (FindsLabel ls x 0) e (reported ls x 0)

pub found-at : (ls : List Label) (x : List ℕ) (k : ℕ) → first_place (names_of ls) x ≡ Some k → (m : Kind × ℕ) × (slice_get (marks_of ls) k ≡ Some m) × (label_among ls x ≡ Some (marked x m))
found-at ls x k e =
    let (j, is, m, here, found) = reported-first ls x (Some k) e in
    let same : j ≡ k = omega (arith, is) in
    (m, subst (λ (i : ℕ). slice_get (marks_of ls) i ≡ Some m) same here, found)

pub not-found : (ls : List Label) (x : List ℕ) → first_place (names_of ls) x ≡ None → label_among ls x ≡ None
not-found ls x e = reported-first ls x None e

-- THE ROWS SIDE BY SIDE

map-append : {A B : Type 0} (f : A → B) (xs ys : List A) → map f (xs ++ ys) ≡ map f xs ++ map f ys
map-append f [] ys = refl
map-append f (x ∷ xs) ys = ap (λ (zs : List _). f x ∷ zs) (map-append f xs ys)

pub names-append : (ls ks : List Label) → names_of (ls ++ ks) ≡ names_of ls ++ names_of ks
names-append ls ks = map-append (λ (l : Label). l.name) ls ks

pub marks-append : (ls ks : List Label) → marks_of (ls ++ ks) ≡ marks_of ls ++ marks_of ks
marks-append ls ks = map-append mark ls ks

pub types-next : (ts : List TypeDeclaration) (i : ℕ) (t : TypeDeclaration) → i < length ts → t ≡ get_or ts i t → drop i ts ≡ t ∷ drop (i + 1) ts
types-next ts i t here is =
    drop-cons ts i t here ∙ ap (λ (u : TypeDeclaration). u ∷ drop (suc i) ts) (sym is) ∙ ap (λ (k : ℕ). t ∷ drop k ts) (sym (add-one i))

pub labels-next : (ts : List TypeDeclaration) (i : ℕ) (t : TypeDeclaration) → i < length ts → t ≡ get_or ts i t
    → labels_from i (types_view (drop i ts)) ≡ numbered (enumeration i (type_view t)) 0 (type_view t).names ++ labels_from (i + 1) (types_view (drop (i + 1) ts))
labels-next ts i t here is = ap (λ (us : List TypeDeclaration). labels_from i (types_view us)) (types-next ts i t here is)

pub labels-done : (ts : List TypeDeclaration) (i : ℕ) → length ts ≤ i → labels_from i (types_view (drop i ts)) ≡ []
labels-done ts i far = ap (λ (us : List TypeDeclaration). labels_from i (types_view us)) (drop_all i ts far)

pub kinds-next : (ts : List TypeDeclaration) (i : ℕ) (t : TypeDeclaration) (x : List ℕ) → i < length ts → t ≡ get_or ts i t
    → kind_from i (types_view (drop i ts)) x ≡ cond (bytes_eq (type_view t).name x) (Some (enumeration i (type_view t))) (kind_from (i + 1) (types_view (drop (i + 1) ts)) x)
kinds-next ts i t x here is = ap (λ (us : List TypeDeclaration). kind_from i (types_view us) x) (types-next ts i t here is)

pub kinds-done : (ts : List TypeDeclaration) (i : ℕ) (x : List ℕ) → length ts ≤ i → kind_from i (types_view (drop i ts)) x ≡ None
kinds-done ts i x far = ap (λ (us : List TypeDeclaration). kind_from i (types_view us) x) (drop_all i ts far)

-- HOW MANY

each-at : {A : Type 0} (P : A → Type 0) (xs : List A) (i : ℕ) (x : A) → Each P xs → i < length xs → P (get_or xs i x)
each-at P [] i x h here = absurd (omega (arith, here))
each-at P (y ∷ ys) zero x h here = h.0
each-at P (y ∷ ys) (suc i) x h here = each-at P ys i x h.1 (omega (arith, here))

view-at : (ts : List TypeDeclaration) (i : ℕ) (t : TypeDeclaration) → i < length ts → get_or (types_view ts) i (type_view t) ≡ type_view (get_or ts i t)
view-at [] i t here = absurd (omega (arith, here))
view-at (u ∷ us) zero t here = refl
view-at (u ∷ us) (suc i) t here = view-at us i t (omega (arith, here))

length-map : {A B : Type 0} (f : A → B) (xs : List A) → length (map f xs) ≡ length xs
length-map f [] = refl
length-map f (x ∷ xs) = ap suc (length-map f xs)

pub few-types : (ts : List TypeDeclaration) → AreFew (types_view ts) → length ts ≤ most_types
few-types ts few = let long = length-map type_view ts in omega (arith, few.0, long)

pub few-names : (ts : List TypeDeclaration) → AreFew (types_view ts) → AreShort ts
few-names ts few i t here is =
    let many = length-map type_view ts in
    let at = each-at (λ (x : TypeTree). length x.names ≤ most_names) (types_view ts) i (type_view t) few.1 (omega (arith, here, many)) in
    let same = view-at ts i t here ∙ ap type_view is in
    let short : length (type_view t).names ≤ most_names = subst (λ (x : TypeTree). length x.names ≤ most_names) same at in
    let long = length-map (λ (n : DeclaredName). n.name) t.names in
    omega (arith, short, long)

-- WHAT IS LOOKED UP

pub looked-there : (ls : List Label) (names : List (List ℕ)) (marks : List (Kind × ℕ)) (x : List ℕ) (k : ℕ) (r : Option (Kind × ℕ)) → names ≡ names_of ls → marks ≡ marks_of ls
    → first_place names x ≡ Some k → r ≡ slice_get marks k → option_map (marked x) r ≡ label_among ls x
looked-there ls names marks x k r named numbered place got =
    let (m, here, found) = found-at ls x k (ap (λ (ns : List (List ℕ)). first_place ns x) (sym named) ∙ place) in
    ap (option_map (marked x)) (got ∙ ap (λ (ms : List (Kind × ℕ)). slice_get ms k) numbered ∙ here) ∙ sym found

pub looked-nowhere : (ls : List Label) (names : List (List ℕ)) (x : List ℕ) → names ≡ names_of ls → first_place names x ≡ None → None ≡ label_among ls x
looked-nowhere ls names x named place = sym (not-found ls x (ap (λ (ns : List (List ℕ)). first_place ns x) (sym named) ∙ place))

-- THE ROWS GROW

module _ {A : Type 0} (of : List Label → List A) where
  pub rows-next : ((ls ks : List Label) → of (ls ++ ks) ≡ of ls ++ of ks) → (ts : List TypeDeclaration) (i : ℕ) (t : TypeDeclaration) (old new whole : List A) (kind : Kind) (names : List DeclaredName)
      → i < length ts → t ≡ get_or ts i t → kind ≡ enumeration i (type_view t) → names ≡ t.names → old ++ of (labels_from i (types_view (drop i ts))) ≡ whole
      → new ≡ old ++ of (numbered kind 0 (map (λ (x : DeclaredName). x.name) names)) → new ++ of (labels_from (i + 1) (types_view (drop (i + 1) ts))) ≡ whole
  rows-next appends ts i t old new whole kind names here is kinds same so grown =
      let rest = labels_from (i + 1) (types_view (drop (i + 1) ts)) in
      ap (λ (row : List A). row ++ of rest) (grown
      ∙ ap (λ (k : Kind). old ++ of (numbered k 0 (map (λ (x : DeclaredName). x.name) names))) kinds
      ∙ ap (λ (xs : List DeclaredName). old ++ of (numbered (enumeration i (type_view t)) 0 (map (λ (x : DeclaredName). x.name) xs))) same)
      ∙ append_assoc old (of (numbered (enumeration i (type_view t)) 0 (type_view t).names)) (of rest)
      ∙ ap (λ (row : List A). old ++ row) (sym (appends (numbered (enumeration i (type_view t)) 0 (type_view t).names) rest) ∙ ap of (sym (labels-next ts i t here is)))
      ∙ so

  pub rows-all : of [] ≡ [] → (ts : List TypeDeclaration) (i : ℕ) (row whole : List A) → length ts ≤ i → row ++ of (labels_from i (types_view (drop i ts))) ≡ whole → row ≡ whole
  rows-all nothing ts i row whole far so = sym (append-nil row) ∙ ap (λ (rest : List A). row ++ rest) (sym (ap of (labels-done ts i far) ∙ nothing)) ∙ so

-- a copy of what a row has at a place
pub got-copied : (r : Option (Bor (Kind × ℕ))) (xs : List (Kind × ℕ)) (k : ℕ) → is_some r ≡ nat_lt k (length xs) → IfSome r (λ x. x.now ≡ get_or xs k x.now) → option_copied r ≡ slice_get xs k
got-copied None xs k there is = sym (slice_get_past xs k (ltb-false k (length xs) (sym there)))
got-copied (Some b) xs k there is = ap Some is ∙ sym (slice_get-get_or xs k b.now (ltb-true k (length xs) (sym there)))
