-- Names, places and declarations.
use Rattle.std.proofs.Common.{◌≡◌, ℕ, zero, suc, ◌+◌, ◌<◌, ◌≤◌, ◌⊎◌, inl, inr, ⊎_elim, Bool, true, false, cond, List, [], ◌∷◌, ◌++◌, length, get_or, Option, Some, None, refl, sym, ap, ◌∙◌, subst, arith, length-take}
use Rattle.std.specs.Prelude.{slice_get, unwrap_or, option_map, Contains, All, IsSome}
use Rattle.std.specs.Str.{bytes_eq}
use Rattle.std.proofs.lemmas.Bool.{cases_lt}
use Rattle.std.proofs.lemmas.List.{get_or-take}
use Rattle.std.proofs.lemmas.Option.{slice_get-get_or, slice_get_within, get_or_from_slice_get, same_Some}
use Rattle.std.proofs.lemmas.Slice.Eq.{bytes_eq-Decides}
use Rattle.lutree.specs.declared.expr.Condition.{Condition}
use Rattle.lutree.specs.Tree.{DeclarationTree, NodeTree, ProgramTree}
use Rattle.luflow.specs.declared.form.Flow.{Flow}
use Rattle.lusource.specs.Names.{variables_of, place_of, clock_in, AreDistinct}
use Rattle.lustat_rules.specs.Scope.{names_of, declarations_of, first_named, node_called}
use Rattle.lustat_rules.specs.Scope as rules
use Rattle.lustat_rules.proofs.Calling as calling
use Rattle.lucore_laws.specs.Layout.{list_at, list_of, node_flows, AreLists}

-- LISTS

pub get-front : {A : Type 0} (c d : List A) (w : ℕ) → w < length c → slice_get (c ++ d) w ≡ slice_get c w
get-front [] d w lt = absurd (omega arith)
get-front (x ∷ c) d zero lt = refl
get-front (x ∷ c) d (suc w) lt = get-front c d w (omega arith)

pub get-behind : {A : Type 0} (c d : List A) (n k : ℕ) → length c ≡ n → slice_get (c ++ d) (n + k) ≡ slice_get d k
get-behind [] d n k e = let z : n + k ≡ k = omega arith in ap (slice_get d) z
get-behind (x ∷ c) d n k e =
    let m = length c in
    let z : n + k ≡ suc (m + k) = omega arith in
    ap (slice_get (x ∷ c ++ d)) z ∙ get-behind c d m k refl

pub contains_at : {A : Type 0} (xs : List A) (x : A) → Contains xs x → (i : ℕ) × (slice_get xs i ≡ Some x)
contains_at xs x c = (c.0, slice_get-get_or xs c.0 x c.1 ∙ ap Some (c.2))

pub contains_get : {A : Type 0} (xs : List A) (x : A) (i : ℕ) → slice_get xs i ≡ Some x → Contains xs x
contains_get xs x i e = (i, slice_get_within xs i x e, get_or_from_slice_get xs i x x e)

pub all_at : {A : Type 0} (P : A → Type 0) (xs : List A) (i : ℕ) (x : A) → All P xs → slice_get xs i ≡ Some x → P x
all_at P xs i x all h = subst P (get_or_from_slice_get xs i x x h) (all i x (slice_get_within xs i x h))

pub all_of : {A : Type 0} (P : A → Type 0) (xs : List A) → ((i : ℕ) (x : A) → slice_get xs i ≡ Some x → P x) → All P xs
all_of P xs h i d lt = h i (get_or xs i d) (slice_get-get_or xs i d lt)

pub all_left : {A : Type 0} (P : A → Type 0) (xs ys : List A) → All P (xs ++ ys) → All P xs
all_left P xs ys h = all_of P xs (λ i x e. all_at P (xs ++ ys) i x h (get-front xs ys i (slice_get_within xs i x e) ∙ e))

pub all_right : {A : Type 0} (P : A → Type 0) (xs ys : List A) → All P (xs ++ ys) → All P ys
all_right P xs ys h = all_of P ys (λ i x e. all_at P (xs ++ ys) (length xs + i) x h (get-behind xs ys (length xs) i refl ∙ e))

pub all_head : {A : Type 0} (P : A → Type 0) (x : A) (xs : List A) → All P (x ∷ xs) → P x
all_head P x xs h = all_at P (x ∷ xs) 0 x h refl

pub all_tail : {A : Type 0} (P : A → Type 0) (x : A) (xs : List A) → All P (x ∷ xs) → All P xs
all_tail P x xs h = all_of P xs (λ i y e. all_at P (x ∷ xs) (suc i) y h e)

pub all_imp : {A : Type 0} (P Q : A → Type 0) (xs : List A) → ((x : A) → P x → Q x) → All P xs → All Q xs
all_imp P Q xs f h i d lt = f (get_or xs i d) (h i d lt)

-- PLACES

place_step : (y x : List ℕ) (ys : List (List ℕ)) (b : Bool) → bytes_eq y x ≡ b → cond b 0 (suc (place_of ys x)) < suc (length ys) → (place_of ys x < length ys → slice_get ys (place_of ys x) ≡ Some x) → slice_get (y ∷ ys) (cond b 0 (suc (place_of ys x))) ≡ Some x
place_step y x ys true e lt h = ap Some ((bytes_eq-Decides y x).0 e)
place_step y x ys false e lt h = h (omega arith)

-- the name that stands at its place
pub get_place : (ys : List (List ℕ)) (x : List ℕ) → place_of ys x < length ys → slice_get ys (place_of ys x) ≡ Some x
get_place [] x lt = absurd (omega arith)
get_place (y ∷ ys) x lt = place_step y x ys (bytes_eq y x) refl lt (get_place ys x)

found_step : (y x : List ℕ) (ys : List (List ℕ)) (b : Bool) (i : ℕ) → bytes_eq y x ≡ b → slice_get (y ∷ ys) i ≡ Some x → ((j : ℕ) → slice_get ys j ≡ Some x → place_of ys x < suc j) → cond b 0 (suc (place_of ys x)) < suc i
found_step y x ys true i e h rest = omega arith
found_step y x ys false zero e h rest =
    let same : y ≡ x = same_Some y x h in
    let yes = (bytes_eq-Decides y x).1 same in
    let no : true ≡ false = sym yes ∙ e in
    cc
found_step y x ys false (suc i) e h rest = let r = rest i h in omega arith

-- a place isn't behind any other of its name
pub place_first : (ys : List (List ℕ)) (x : List ℕ) (i : ℕ) → slice_get ys i ≡ Some x → place_of ys x < suc i
place_first [] x i h = cc
place_first (y ∷ ys) x i h = found_step y x ys (bytes_eq y x) i refl h (place_first ys x)

pub place_in : (ys : List (List ℕ)) (x : List ℕ) (i : ℕ) → slice_get ys i ≡ Some x → place_of ys x < length ys
place_in ys x i h = let a = place_first ys x i h in let b = slice_get_within ys i x h in omega arith

pub place_at : (ys : List (List ℕ)) (x : List ℕ) (i : ℕ) → AreDistinct ys → slice_get ys i ≡ Some x → place_of ys x ≡ i
place_at ys x i d h = d (place_of ys x) i x (get_place ys x (place_in ys x i h)) h

-- distinct, as the rules say it
pub distinct : (ys : List (List ℕ)) → rules.AreDistinct ys → AreDistinct ys
distinct ys d i j x a b =
    ⊎_elim (λ (l : i < j). absurd (before i j x a b l)) (λ (g : j ≤ i). ⊎_elim (λ (l : j < i). absurd (before j i x b a l)) (λ (h : i ≤ j). omega arith) (cases_lt j i)) (cases_lt i j)
  where
    before : (i j : ℕ) (x : List ℕ) → slice_get ys i ≡ Some x → slice_get ys j ≡ Some x → i < j → ⊥
    before i j x a b l =
        let lt = slice_get_within ys i x a in
        d j x b (i, omega (arith, length-take j ys), get_or-take j ys i x l ∙ get_or_from_slice_get ys i x x a)

-- DECLARATIONS

pub get-names : (ds : List DeclarationTree) (i : ℕ) → slice_get (names_of ds) i ≡ option_map (λ (d : DeclarationTree). d.name) (slice_get ds i)
get-names [] i = refl
get-names (d ∷ ds) zero = refl
get-names (d ∷ ds) (suc i) = get-names ds i

first_step : (d : DeclarationTree) (ds : List DeclarationTree) (x : List ℕ) (e : DeclarationTree) (b : Bool) → bytes_eq d.name x ≡ b → (rules.first_declared ds x ≡ Some e → slice_get ds (place_of (names_of ds) x) ≡ Some e) → cond b (Some d) (rules.first_declared ds x) ≡ Some e → slice_get (d ∷ ds) (cond b 0 (suc (place_of (names_of ds) x))) ≡ Some e
first_step d ds x e true same rest h = h
first_step d ds x e false same rest h = rest h

-- what a name means stands at its place
pub first_at : (ds : List DeclarationTree) (x : List ℕ) (e : DeclarationTree) → rules.first_declared ds x ≡ Some e → slice_get ds (place_of (names_of ds) x) ≡ Some e
first_at [] x e h = cc
first_at (d ∷ ds) x e h = first_step d ds x e (bytes_eq d.name x) refl (first_at ds x e) h

pub first_in : (ds : List DeclarationTree) (x : List ℕ) (e : DeclarationTree) → rules.first_declared ds x ≡ Some e → place_of (names_of ds) x < length (names_of ds)
first_in ds x e h =
    slice_get_within (names_of ds) (place_of (names_of ds) x) e.name (get-names ds (place_of (names_of ds) x) ∙ ap (option_map (λ (d : DeclarationTree). d.name)) (first_at ds x e h))

pub is_some_at : {A : Type 0} (o : Option A) → IsSome o → (x : A) × (o ≡ Some x)
is_some_at None h = cc
is_some_at (Some x) h = (x, refl)

pub known_in : (node : NodeTree) (x : List ℕ) → rules.IsVariable node x → place_of (variables_of node) x < length (variables_of node)
known_in node x h = let d = is_some_at (rules.meaning node x) h in first_in (declarations_of node) x d.0 d.1

pub mapped_some : {A B : Type 0} (f : A → B) (o : Option A) (y : B) → option_map f o ≡ Some y → (x : A) × (o ≡ Some x) × (f x ≡ y)
mapped_some f None y h = cc
mapped_some f (Some x) y h = (x, refl, same_Some (f x) y h)

clock_step : (d : DeclarationTree) (rest : Option DeclarationTree) (others : Option Condition) (k : Option Condition) (b : Bool) → (option_map (λ (d : DeclarationTree). d.clock) rest ≡ Some k → others ≡ k) → option_map (λ (d : DeclarationTree). d.clock) (cond b (Some d) rest) ≡ Some k → cond b d.clock others ≡ k
clock_step d rest others k true h e = same_Some d.clock k e
clock_step d rest others k false h e = h e

pub clock_named : (ds : List DeclarationTree) (x : List ℕ) (k : Option Condition) → option_map (λ (d : DeclarationTree). d.clock) (rules.first_declared ds x) ≡ Some k → clock_in ds x ≡ k
clock_named [] x k h = cc
clock_named (d ∷ ds) x k h = clock_step d (rules.first_declared ds x) (clock_in ds x) k (bytes_eq d.name x) (clock_named ds x k) h

clock_case : (d : DeclarationTree) (rest : Option DeclarationTree) (others : Option Condition) (b : Bool) → (others ≡ None) ⊎ (option_map (λ (d : DeclarationTree). d.clock) rest ≡ Some others) → (cond b d.clock others ≡ None) ⊎ (option_map (λ (d : DeclarationTree). d.clock) (cond b (Some d) rest) ≡ Some (cond b d.clock others))
clock_case d rest others true h = inr refl
clock_case d rest others false h = h

-- a clock by name is none, or the declared one
pub clock_cases : (ds : List DeclarationTree) (x : List ℕ) → (clock_in ds x ≡ None) ⊎ (option_map (λ (d : DeclarationTree). d.clock) (rules.first_declared ds x) ≡ Some (clock_in ds x))
clock_cases [] x = inl refl
clock_cases (d ∷ ds) x = clock_case d (rules.first_declared ds x) (clock_in ds x) (bytes_eq d.name x) (clock_cases ds x)

-- NODES

pub placed : (p : ProgramTree) (f : List ℕ) (n : NodeTree) → node_called p f ≡ Some n → calling.PlaceOf p.nodes f n
placed p f n e = calling.place_of p f n (e)

pub listed : (p : ProgramTree) (lists : List (List Flow)) → AreLists p lists → (f : List ℕ) (n : NodeTree) → node_called p f ≡ Some n → list_of p lists f ≡ node_flows p lists n
listed p lists are f n e =
    let here = placed p f n e in
    ap (list_at lists) here.at_place ∙ ap (λ (o : Option (List Flow)). unwrap_or o []) (are.each here.place n here.node)

pub name_step : (m n : NodeTree) (rest : Option NodeTree) (f : List ℕ) (b : Bool) → bytes_eq m.name f ≡ b → (rest ≡ Some n → n.name ≡ f) → cond b (Some m) rest ≡ Some n → n.name ≡ f
name_step m n rest f true e h g = let same : m ≡ n = same_Some m n g in ap (λ (n : NodeTree). n.name) (sym same) ∙ (bytes_eq-Decides m.name f).0 e
name_step m n rest f false e h g = h g

first_name : (ns : List NodeTree) (f : List ℕ) (n : NodeTree) → first_named ns f ≡ Some n → n.name ≡ f
first_name [] f n e = cc
first_name (m ∷ ns) f n e = name_step m n (first_named ns f) f (bytes_eq m.name f) refl (first_name ns f n) e

pub node_name : (p : ProgramTree) (f : List ℕ) (n : NodeTree) → node_called p f ≡ Some n → n.name ≡ f
node_name p f n e = first_name p.nodes f n e
