-- Keys, names and pairs, read one after the other.
use Rattle.std.proofs.Common.{◌≡◌, ℕ, ◌+◌, ◌<◌, ◌≤◌, List, [], ◌∷◌, ◌++◌, length, get_or, drop, map, Option, Some, None, Ok, Err, ◌⊎◌, inl, inr, refl, sym, ap, ◌∙◌, append_assoc, string_bytes, arith, subst}
use Rattle.std.specs.Prelude.{◌&&◌}
use Rattle.std.specs.List.{list_all}
use Rattle.toml.specs.declared.value.Value.{Value}
use Rattle.toml.specs.Data.{as_str}
use Rattle.toml.specs.View.{view, items_view, members_view}
use Rattle.toml.proofs.Views.{items_view-drop, Entry}
use Rattle.luplace_file.specs.declared.error.PlaceError.{PlaceError}
use Rattle.luplace_file.specs.declared.error.PlaceError.TheVariants.{BadKey, OutOfMemory}
use Rattle.luplace_file.specs.Answers.{or_bad_key}
use Rattle.luplace_file.specs.Keys.{◌>>=◌, is_key, are_keys, name_in, names_in, texts_in, some_texts_in}

-- the keys of the entries are those of the members
pub are_keys_is : (es : List Entry) → list_all (λ key. is_key (string_bytes key)) (map (λ e. e.0) es) ≡ are_keys (members_view es)
are_keys_is [] = refl
are_keys_is (e ∷ es) = ap (λ b. is_key (string_bytes e.0) && b) (are_keys_is es)

-- what was read before, and what is still read
abbrev pub with_front : {A : Type 0} → List A → Option (List A) → Option (List A)
with_front front read = read >>= λ rest. Some (front ++ rest)

pub with_front-none : {A : Type 0} (front : List A) (x : A) (read : Option (List A)) → with_front front (read >>= λ rest. Some (x ∷ rest)) ≡ with_front (front ++ x ∷ []) read
with_front-none front x (Some rest) = ap Some (simp append_assoc)
with_front-none front x None = refl

pub with_front-nil : {A : Type 0} (read : Option (List A)) → with_front [] read ≡ read
with_front-nil (Some rest) = refl
with_front-nil None = refl

-- a value that was reported is there
pub reported_some : {A : Type 0} (o : Option A) (x : A) → or_bad_key o ≡ Ok x → o ≡ Some x
reported_some None x e = absurd cc
reported_some (Some y) x e = cc

-- one value here, and then the others
pub one_more : {A B : Type 0} (front : List A) (here : Option B) (x : B) (a : A) (rest : B → Option (List A)) (after total : Option (List A)) → or_bad_key here ≡ Ok x → rest x ≡ (after >>= λ others. Some (a ∷ others)) → with_front front (here >>= rest) ≡ total → with_front (front ++ a ∷ []) after ≡ total
one_more front here x a rest after total reported is so =
    let one : (here >>= rest) ≡ (after >>= λ others. Some (a ∷ others)) = rw (reported_some here x reported) is in
    sym (ap (with_front front) one ∙ with_front-none front a after) ∙ so

pub next_name : (values : List Value) (i : ℕ) (d : Value) → i < length values → names_in (items_view (drop i values)) ≡ (name_in (view (get_or values i d)) >>= λ name. names_in (items_view (drop (i + 1) values)) >>= λ names. Some (name ∷ names))
next_name values i d lt = rw (items_view-drop values i d lt) refl

pub next_text : (values : List Value) (i : ℕ) (d : Value) → i < length values → texts_in (items_view (drop i values)) ≡ (as_str (view (get_or values i d)) >>= λ text. texts_in (items_view (drop (i + 1) values)) >>= λ texts. Some (text ∷ texts))
next_text values i d lt = rw (items_view-drop values i d lt) refl

pub some_texts_are : (values : List Value) → 1 ≤ length values → texts_in (items_view values) ≡ some_texts_in (items_view values)
some_texts_are [] le = absurd (omega arith)
some_texts_are (value ∷ rest) le = refl

-- ---- a key that fails

-- an error that is reported of a value that isn't there, unless memory ran out
abbrev pub Fails : {A : Type 0} → Option A → PlaceError → Type 0
Fails o e = (e ≡ OutOfMemory) ⊎ (or_bad_key o ≡ Err e)

pub fails_here : {A B : Type 0} (o : Option A) (f : A → Option B) (e : PlaceError) → Fails o e → Fails (o >>= f) e
fails_here o f e (inl memory) = inl memory
fails_here None f e (inr is) = let same : BadKey ≡ e = cc in inr (ap Err same)
fails_here (Some x) f e (inr is) = absurd cc

pub fails_later : {A B : Type 0} (o : Option A) (f : A → Option B) (x : A) (e : PlaceError) → or_bad_key o ≡ Ok x → Fails (f x) e → Fails (o >>= f) e
fails_later None f x e reported fails = absurd cc
fails_later (Some y) f x e reported fails = let same : x ≡ y = cc in subst (λ z. Fails (f z) e) same fails
