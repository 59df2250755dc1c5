-- Columns and inputs, one after the other.
use Rattle.std.proofs.Common.{◌≡◌, ℕ, ◌+◌, ◌<◌, ◌≤◌, List, [], ◌∷◌, length, drop, get_or, map, Vec, String, Global, true, false, ◌==◌, sym, ap, ◌∙◌, subst, arith, ◌↔◌}
use Rattle.std.specs.Prelude.{All, string_bytes}
use Rattle.std.proofs.lemmas.List.{drop_more, drop_all, length-map, get_or-map}
use Rattle.std.proofs.lemmas.List.Elements.{All-map}
use Rattle.luflow.specs.declared.data.Status.{Status}
use Rattle.luflow.specs.declared.values.Values.{Values}
use Rattle.luflow.specs.declared.variable.Variable.{Variable}
use Rattle.luflow.specs.Packed.{data_in}
use Rattle.luflow.specs.Sound.{IsConstantOf}
use Rattle.luflow.specs.Tables.{AreColumnsOf, columns_view, OutputColumn, AreOutputs, output_view, outputs_view}

abbrev pub Pair : Type 0
Pair = String Global × Values

-- what is asked from place i on
abbrev pub From : List Variable → List Pair → ℕ → Type 0
From xs cs i = AreColumnsOf (drop i xs) (columns_view (drop i cs))

abbrev pub One : Variable → Pair → Type 0
One x c = (string_bytes c.0 ≡ x.name) × All (λ d. IsConstantOf x.kind d) (data_in c.1)

module _ (xs : List Variable) (cs : List Pair) (i : ℕ) (x : Variable) (c : Pair) (lx : i < length xs) (lc : i < length cs) (ex : x ≡ get_or xs i x) (ec : c ≡ get_or cs i c) where
  cut_inputs : drop i xs ≡ x ∷ drop (i + 1) xs
  cut_inputs = drop_more xs i x lx ∙ ap (λ y. y ∷ drop (i + 1) xs) (sym ex)

  cut_columns : drop i cs ≡ c ∷ drop (i + 1) cs
  cut_columns = drop_more cs i c lc ∙ ap (λ y. y ∷ drop (i + 1) cs) (sym ec)

  -- from place i on: that of place i, and from the next one on
  pub apart : From xs cs i → One x c × From xs cs (i + 1)
  apart h =
      let both =
      subst (λ (b : List Pair). AreColumnsOf (x ∷ drop (i + 1) xs) (columns_view b)) cut_columns
      (subst (λ (a : List Variable). AreColumnsOf a (columns_view (drop i cs))) cut_inputs h)
      in ((both.0, both.1), both.2)

  pub together : One x c → From xs cs (i + 1) → From xs cs i
  together one rest =
      subst (λ (a : List Variable). AreColumnsOf a (columns_view (drop i cs))) (sym cut_inputs)
      (subst (λ (b : List Pair). AreColumnsOf (x ∷ drop (i + 1) xs) (columns_view b)) (sym cut_columns) (one.0, one.1, rest))

-- behind the last one nothing is asked
pub done : (xs : List Variable) (cs : List Pair) (i : ℕ) → length xs ≡ length cs → length xs ≤ i → From xs cs i
done xs cs i same le = subst (λ a. AreColumnsOf a (columns_view (drop i cs))) (sym (drop_all i xs le)) (subst (λ b. AreColumnsOf [] (columns_view b)) (sym (drop_all i cs (omega (arith, le, same)))) tt)

abbrev pub Output : Type 0
Output = String Global × Vec Status Global

abbrev pub AreLong : List Output → ℕ → Type 0
AreLong xs n = All (λ (x : Output). length x.1.items ≡ n) xs

pub all_back : {X Y : Type 0} (P : Y → Type 0) (f : X → Y) (xs : List X) → All P (map f xs) → All (λ x. P (f x)) xs
all_back P f xs h = λ k d l. let n = length-map xs f in subst P (get_or-map f xs k d (f d) l) (h k (f d) (omega (arith, n)))

-- what holds of all that a list is mapped to
pub all_mapped : {X Y : Type 0} (P : Y → Type 0) (f : X → Y) (xs : List X) → All (λ x. P (f x)) xs ↔ All P (map f xs)
all_mapped P f xs = (λ h. All-map P f xs h, λ h. all_back P f xs h)

-- columns that are as long as the first one
pub long_outputs : (x : Output) (xs : List Output) → AreLong (x ∷ xs) (length x.1.items) → AreOutputs (outputs_view (x ∷ xs))
long_outputs x xs h = All-map (λ (y : OutputColumn). length y.statuses ≡ length x.1.items) output_view (x ∷ xs) h

pub outputs_long : (x : Output) (xs : List Output) → AreOutputs (outputs_view (x ∷ xs)) → AreLong (x ∷ xs) (length x.1.items)
outputs_long x xs h = all_back (λ (y : OutputColumn). length y.statuses ≡ length x.1.items) output_view (x ∷ xs) h

-- columns by what the first one is
pub outputs_from : (xs : List Output) (x : Output) → 0 < length xs → x ≡ get_or xs 0 x → AreLong xs (length x.1.items) → AreOutputs (outputs_view xs)
outputs_from [] x lt e h = absurd (omega (arith, lt))
outputs_from (y ∷ xs) x lt e h = subst (λ (z : Output). AreLong (y ∷ xs) (length z.1.items) → AreOutputs (outputs_view (y ∷ xs))) (sym e) (long_outputs y xs) h

pub outputs_to : (xs : List Output) (x : Output) → 0 < length xs → x ≡ get_or xs 0 x → AreOutputs (outputs_view xs) → AreLong xs (length x.1.items)
outputs_to [] x lt e h = absurd (omega (arith, lt))
outputs_to (y ∷ xs) x lt e h = subst (λ (z : Output). AreLong (y ∷ xs) (length z.1.items)) (sym e) (outputs_long y xs h)

pub some_there : (xs : List Output) → false ≡ (length xs == 0) → 0 < length xs
some_there [] e = absurd (let clash : false ≡ true = e in cc)
some_there (x ∷ xs) e = omega arith
