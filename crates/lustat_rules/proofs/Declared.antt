-- The declarations of a node, in memory and as its view has them.
use Rattle.std.proofs.Common.{◌≡◌, ◌∙◌, ℕ, suc, Bool, true, false, List, [], ◌∷◌, ◌++◌, map, Option, Some, None, cond, refl, sym, ap, Bor, length, ◌<◌, arith, get_or}
use Rattle.std.specs.Prelude.{option_copied}
use Rattle.std.proofs.lemmas.Option.{slice_get-map, slice_get_within, slice_get_read}
use Rattle.lubase.proofs.Finding.{there}
use Rattle.lubase.proofs.Sought.{at, at_suc, shifted_first}
use Rattle.std.specs.Option.{option_map}
use Rattle.std.specs.Str.{bytes_eq}
use Rattle.std.proofs.lemmas.List.{map-append}
use Rattle.lutree.specs.declared.program.Declaration.{Declaration}
use Rattle.lutree.specs.declared.program.Node.{Node}
use Rattle.lutree.specs.Tree.{DeclarationTree, NodeTree, declaration_view, declarations_view, node_view}
use Rattle.lustat_rules.specs.Scope.{declarations_of, names_of, first_declared, meaning, first_named}
use Rattle.lustat_rules.specs.Naming.{place_of_first}
use Rattle.lubase.specs.Places.{place_from, first_place}
use Rattle.lustat_rules.specs.Scopes.{spellings, node_spellings}
use Rattle.lustat_rules.specs.Faults.{declared_in}

pub view_of_declared : (n : Node) → declarations_view (declared_in n) ≡ declarations_of (node_view n)
view_of_declared n =
    map-append declaration_view n.inputs (n.outputs ++ n.locals)
    ∙ ap (λ l. declarations_view n.inputs ++ l) (map-append declaration_view n.outputs n.locals)

pub same_spellings : (ds : List Declaration) → spellings ds ≡ names_of (declarations_view ds)
same_spellings [] = refl
same_spellings (d ∷ ds) = ap (λ l. d.name ∷ l) (same_spellings ds)

-- the first declaration stands at the first place
meaning_step : (d : DeclarationTree) (ds : List DeclarationTree) (b : Bool) (o : Option DeclarationTree) (p q : Option ℕ)
    → q ≡ option_map suc p → at ds p ≡ o → at (d ∷ ds) (cond b (Some 0) q) ≡ cond b (Some d) o
meaning_step d ds true o p q e h = refl
meaning_step d ds false o p q e h = ap (at (d ∷ ds)) e ∙ at_suc d ds p ∙ h

pub first_at_place : (ds : List DeclarationTree) (x : List ℕ) → at ds (first_place (names_of ds) x) ≡ first_declared ds x
first_at_place [] x = refl
first_at_place (d ∷ ds) x =
    meaning_step d ds (bytes_eq d.name x) (first_declared ds x) (first_place (names_of ds) x) (place_from 1 (names_of ds) x)
    (shifted_first (names_of ds) x) (first_at_place ds x)

called_step : (d : NodeTree) (ds : List NodeTree) (b : Bool) (o : Option NodeTree) (p q : Option ℕ)
    → q ≡ option_map suc p → at ds p ≡ o → at (d ∷ ds) (cond b (Some 0) q) ≡ cond b (Some d) o
called_step d ds true o p q e h = refl
called_step d ds false o p q e h = ap (at (d ∷ ds)) e ∙ at_suc d ds p ∙ h

abbrev pub names_of_nodes : List NodeTree → List (List ℕ)
names_of_nodes = map (λ (n : NodeTree). n.name)

pub called_at_place : (p : List NodeTree) (f : List ℕ) → at p (first_place (names_of_nodes p) f) ≡ first_named p f
called_at_place [] f = refl
called_at_place (n ∷ p) f =
    called_step n p (bytes_eq n.name f) (first_named p f) (first_place (names_of_nodes p) f) (place_from 1 (names_of_nodes p) f)
    (shifted_first (names_of_nodes p) f) (called_at_place p f)

pub place_of_node : (p : List NodeTree) (f : List ℕ) → first_place (names_of_nodes p) f ≡ place_of_first p f
place_of_node [] f = refl
place_of_node (n ∷ p) f = ap (λ o. cond (bytes_eq n.name f) (Some 0) o) (shifted_first (names_of_nodes p) f ∙ ap (option_map suc) (place_of_node p f))

pub same_node_spellings : (ns : List Node) → node_spellings ns ≡ names_of_nodes (map node_view ns)
same_node_spellings [] = refl
same_node_spellings (n ∷ ns) = ap (λ l. n.name ∷ l) (same_node_spellings ns)

pub at_map : {A B : Type 0} (f : A → B) (xs : List A) (o : Option ℕ) → at (map f xs) o ≡ option_map f (at xs o)
at_map f xs None = refl
at_map f xs (Some k) = slice_get-map f xs k

copied_at : {A : Type 0} (xs : List (Bor A)) (o : Option ℕ) → option_copied (at xs o) ≡ at (map (λ d. d.now) xs) o
copied_at xs o = sym (at_map (λ d. d.now) xs o)

-- the declaration at the first place of a name is what the name means
pub found_meaning : (n : Node) (x : List ℕ) (items : List (Bor Declaration)) (o : Option ℕ) (r : Option (Bor Declaration))
    → map (λ d. d.now) items ≡ declared_in n → o ≡ first_place (names_of (declarations_of (node_view n))) x → option_copied r ≡ option_copied (at items o)
    → option_map declaration_view (option_copied r) ≡ meaning (node_view n) x
found_meaning n x items o r same place e =
    ap (option_map declaration_view) (e ∙ copied_at items o ∙ ap (λ ds. at ds o) same)
    ∙ sym (at_map declaration_view (declared_in n) o)
    ∙ ap (λ ds. at ds o) (view_of_declared n)
    ∙ ap (at (declarations_of (node_view n))) place
    ∙ first_at_place (declarations_of (node_view n)) x

-- the node at the first place of a name is what a call of it means
pub found_called : (ns : List Node) (f : List ℕ) (o : Option ℕ) → o ≡ first_place (node_spellings ns) f → option_map node_view (at ns o) ≡ first_named (map node_view ns) f
found_called ns f o place =
    sym (at_map node_view ns o)
    ∙ ap (at (map node_view ns)) (place ∙ ap (λ l. first_place l f) (same_node_spellings ns))
    ∙ called_at_place (map node_view ns) f

pub place_called : (ns : List Node) (f : List ℕ) → first_place (node_spellings ns) f ≡ place_of_first (map node_view ns) f
place_called ns f = ap (λ l. first_place l f) (same_node_spellings ns) ∙ place_of_node (map node_view ns) f

length_spellings : (ds : List Declaration) → length (spellings ds) ≡ length ds
length_spellings [] = refl
length_spellings (d ∷ ds) = ap suc (length_spellings ds)

length_items : (items : List (Bor Declaration)) → length (map (λ d. d.now) items) ≡ length items
length_items [] = refl
length_items (d ∷ ds) = ap suc (length_items ds)

pub names_in_view : (n : Node) → names_of (declarations_of (node_view n)) ≡ spellings (declared_in n)
names_in_view n = sym (same_spellings (declared_in n) ∙ ap names_of (view_of_declared n))

-- the first place of a name is among the declarations
pub within_items : (n : Node) (x : List ℕ) (items : List (Bor Declaration)) (k : ℕ)
    → map (λ d. d.now) items ≡ declared_in n → first_place (names_of (declarations_of (node_view n))) x ≡ Some k → k < length items
within_items n x items k same e =
    let lt = slice_get_within (names_of (declarations_of (node_view n))) k x (there (names_of (declarations_of (node_view n))) x k e) in
    let size : length (names_of (declarations_of (node_view n))) ≡ length items =
    ap length (names_in_view n) ∙ length_spellings (declared_in n) ∙ ap length (sym same) ∙ length_items items in
    omega (arith, lt, size)

length_node_spellings : (ns : List Node) → length (node_spellings ns) ≡ length ns
length_node_spellings [] = refl
length_node_spellings (n ∷ ns) = ap suc (length_node_spellings ns)

pub within_nodes : (ns : List Node) (f : List ℕ) (k : ℕ) → first_place (node_spellings ns) f ≡ Some k → k < length ns
within_nodes ns f k e =
    let lt = slice_get_within (node_spellings ns) k f (there (node_spellings ns) f k e) in
    omega (arith, lt, length_node_spellings ns)

pub read_at : {A : Type 0} (xs : List A) (k : ℕ) (x : A) → k < length xs → x ≡ get_or xs k x → Some x ≡ at xs (Some k)
read_at xs k x lt e = sym (slice_get_read xs (length xs) k x refl lt e)
