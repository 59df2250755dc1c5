-- The names of enumerations, in a row.
use Rattle.std.proofs.Common.{◌≡◌, ◌∙◌, ◌↔◌, ℕ, zero, suc, ◌+◌, ◌<◌, ◌≤◌, ◌⊎◌, inl, inr, List, [], ◌∷◌, ◌++◌, map, length, get_or, take, Some, Bool, IsTrue, refl, sym, ap, subst, arith, length-append, append_assoc, Bor}
use Rattle.std.specs.Prelude.{slice_get, Contains}
use Rattle.std.specs.Option.{option_map}
use Rattle.std.proofs.lemmas.Bool.{cases_lt}
use Rattle.std.proofs.lemmas.List.{take_more, map-append, take-map, get_or_append_left, append-nil}
use Rattle.std.proofs.lemmas.List.Elements.{Contains-append_left, Contains-append_right, Contains-append_cases}
use Rattle.std.proofs.Math.Seq.{get_or-append_seam}
use Rattle.std.proofs.lemmas.Grind.{flat_map-append}
use Rattle.std.proofs.lemmas.Option.{slice_get-map}
use Rattle.lutree.specs.declared.program.DeclaredName.{DeclaredName}
use Rattle.lutree.specs.declared.program.TypeDeclaration.{TypeDeclaration}
use Rattle.lutree.specs.declared.program.Program.{Program}
use Rattle.lutree.specs.Tree.{TypeTree, type_view, program_view}
use Rattle.lustat_rules.specs.Scope.{labels_of}
use Rattle.lustat_rules.specs.Naming.{IsNewLabel}
use Rattle.lubase.specs.Places.{first_place}
use Rattle.lubase.proofs.Finding.{first_in_middle}
use Rattle.lustat_rules.specs.Scopes.{type_spellings, label_spellings, AreStarts}

some_item : {A : Type 0} (x y : A) → Some x ≡ Some y → x ≡ y
some_item x y e = cc

pub same_type_spellings : (ts : List TypeDeclaration) → type_spellings ts ≡ map (λ (t : TypeTree). t.name) (map type_view ts)
same_type_spellings [] = refl
same_type_spellings (t ∷ ts) = ap (λ l. t.name ∷ l) (same_type_spellings ts)

-- the names of one type more
pub labels_more : (ts : List TypeDeclaration) (i : ℕ) (t : TypeDeclaration) → i < length ts → t ≡ get_or ts i t
    → labels_of (map type_view (take (i + 1) ts)) ≡ labels_of (map type_view (take i ts)) ++ label_spellings t.names
labels_more ts i t lt e =
    ap (λ l. labels_of (map type_view l)) (take_more ts i t lt ∙ ap (λ (u : TypeDeclaration). take i ts ++ u ∷ []) (sym e))
    ∙ ap labels_of (map-append type_view (take i ts) (t ∷ []))
    ∙ flat_map-append (λ (u : TypeTree). u.names) (map type_view (take i ts)) (type_view t ∷ [])
    ∙ ap (λ l. labels_of (map type_view (take i ts)) ++ l) (append-nil (label_spellings t.names))

pub push_start : (ts : List TypeTree) (n : ℕ) (starts : List ℕ) (s : ℕ) → AreStarts n ts starts → s ≡ length (labels_of (take n ts)) → AreStarts (n + 1) ts (starts ++ s ∷ [])
push_start ts n starts s h e =
    record {
      count = (let c = h.count in omega (arith, length-append starts (s ∷ []), c));
      at = λ i lt. go i lt (cases_lt i n);
    }
  where
    go : (i : ℕ) → i < n + 1 → (i < n) ⊎ (n ≤ i) → get_or (starts ++ s ∷ []) i 0 ≡ length (labels_of (take i ts))
    go i lt (inl less) = get_or_append_left starts (s ∷ []) 0 i (let c = h.count in omega (arith, c, less)) ∙ h.at i less
    go i lt (inr le) =
        let same : i ≡ length starts = (let c = h.count in omega (arith, c, lt, le)) in
        let last : i ≡ n = omega (arith, lt, le) in
        ap (λ k. get_or (starts ++ s ∷ []) k 0) same ∙ get_or-append_seam starts s [] 0 ∙ e ∙ ap (λ k. length (labels_of (take k ts))) (sym last)

length_texts : (names : List (Bor (List ℕ))) → length (map (λ n. n.now) names) ≡ length names
length_texts [] = refl
length_texts (n ∷ names) = ap suc (length_texts names)

pub start_is : (names : List (Bor (List ℕ))) (ts : List TypeDeclaration) (i : ℕ) → map (λ n. n.now) names ≡ labels_of (map type_view (take i ts)) → length names ≡ length (labels_of (take i (map type_view ts)))
start_is names ts i e = sym (length_texts names) ∙ ap length (e ∙ ap labels_of (sym (take-map type_view i ts)))

-- the row of all names round those of one type
split_labels : (ts : List TypeTree) (i : ℕ) (t : TypeTree) → slice_get ts i ≡ Some t → (rest : List (List ℕ)) × (labels_of ts ≡ labels_of (take i ts) ++ (t.names ++ rest))
split_labels [] i t h = absurd (cc)
split_labels (u ∷ ts) zero t h =
    let same : u ≡ t = some_item u t h in
    (labels_of ts, ap (λ (v : TypeTree). v.names ++ labels_of ts) same)
split_labels (u ∷ ts) (suc i) t h =
    let s = split_labels ts i t h in
    (s.0, ap (λ l. u.names ++ l) s.1 ∙ sym (append_assoc u.names (labels_of (take i ts)) (t.names ++ s.0)))

-- a name stands first in the row of all where no type before, and no place before in its own, has it
first_label : (ts : List TypeTree) (i : ℕ) (t : TypeTree) (j : ℕ) (x : List ℕ) → slice_get ts i ≡ Some t → slice_get t.names j ≡ Some x
    → (first_place (labels_of ts) x ≡ Some (length (labels_of (take i ts)) + j)) ↔ ((¬ Contains (labels_of (take i ts)) x) × (¬ Contains (take j t.names) x))
first_label ts i t j x at there =
    let s = split_labels ts i t at in
    subst (λ row. (first_place row x ≡ Some (length (labels_of (take i ts)) + j)) ↔ ((¬ Contains (labels_of (take i ts)) x) × (¬ Contains (take j t.names) x))) (sym s.1)
    (first_in_middle (labels_of (take i ts)) t.names s.0 x j there)

pub label_is_new : (p : Program) (i : ℕ) (t : TypeDeclaration) (j : ℕ) (x : DeclaredName) (start : ℕ) (b : Bool) → slice_get p.types i ≡ Some t → slice_get t.names j ≡ Some x
    → start ≡ length (labels_of (take i (program_view p).types)) → (IsTrue b ↔ (first_place (labels_of (program_view p).types) x.name ≡ Some (start + j)))
    → IsTrue b ↔ IsNewLabel (program_view p) i (type_view t) j x.name
label_is_new p i t j x start b at there begins same =
    let ts = map type_view p.types in
    let before = labels_of (take i ts) in
    let own = take j (label_spellings t.names) in
    let law = first_label ts i (type_view t) j x.name
    (slice_get-map type_view p.types i ∙ ap (option_map type_view) at)
    (slice_get-map (λ (y : DeclaredName). y.name) t.names j ∙ ap (option_map (λ (y : DeclaredName). y.name)) there) in
    let placed = ap (λ k. Some (k + j)) begins in (
      λ h found.
          let news = law.0 (same.0 h ∙ placed) in
          elim (Contains-append_cases before own x.name found) [ inl early ↦ news.0 early | inr late ↦ news.1 late ],
      λ new. same.1 (law.1 (λ early. new (Contains-append_left before own x.name early), λ late. new (Contains-append_right before own x.name late)) ∙ sym placed),
    )
