-- All main variables by name: taken one after the other, and all of one length.
use Rattle.std.proofs.Common.{◌≡◌, ℕ, zero, suc, ◌+◌, ◌<◌, ◌≤◌, Some, List, [], ◌∷◌, length, map, set, drop, get_or, add-one, refl, sym, ap, ◌∙◌, subst, arith}
use Rattle.std.specs.Prelude.{All, slice_get}
use Rattle.std.proofs.lemmas.List.{drop_more, drop_all}
use Rattle.std.proofs.lemmas.List.Elements.{All-nil, All-cons, All-head, All-tail}
use Rattle.luflow.specs.declared.data.Status.{Status}
use Rattle.luflow.specs.declared.variable.Variable.{Variable}
use Rattle.luflow.specs.Tables.{OutputColumn, AreOutputs}
use Rattle.lueval_lines.specs.Columns.{Column, lists_of}
use Rattle.lueval_lines.specs.Outputs.{columns_in}
use Rattle.lueval_lines.proofs.Reported.{Pairs, IsStreamOf, even, later}

-- those from place v on
abbrev pub Left : List Variable → List Column → ℕ → List OutputColumn
Left xs cs v = columns_in (drop v xs) (lists_of (drop v cs))

pub step : (xs : List Variable) (cs : List Column) (v : ℕ) (x : Variable) (c : Column) → v < length xs → v < length cs → x ≡ get_or xs v x → c ≡ get_or cs v c → Left xs cs v ≡ record { name = x.name; statuses = c.items } ∷ Left xs cs (v + 1)
step xs cs v x c lx lc ex ec =
    let one : drop v xs ≡ x ∷ drop (v + 1) xs = drop_more xs v x lx ∙ ap (λ y. y ∷ drop (v + 1) xs) (sym ex) in
    let two : drop v cs ≡ c ∷ drop (v + 1) cs = drop_more cs v c lc ∙ ap (λ y. y ∷ drop (v + 1) cs) (sym ec) in
    ap (λ (a : List Variable). columns_in a (lists_of (drop v cs))) one ∙ ap (λ (b : List Column). columns_in (x ∷ drop (v + 1) xs) (lists_of b)) two

pub done : (xs : List Variable) (cs : List Column) (v : ℕ) → length xs ≤ v → Left xs cs v ≡ []
done xs cs v le = ap (λ (a : List Variable). columns_in a (lists_of (drop v cs))) (drop_all v xs le)

past_suc : (cs : List Column) (v : ℕ) (c : Column) → drop (suc v) (set cs v c) ≡ drop (suc v) cs
past_suc [] v c = refl
past_suc (x ∷ cs) zero c = refl
past_suc (x ∷ cs) (suc v) c = past_suc cs v c

-- those behind a column that changes
pub from_past : (xs : List Variable) (cs : List Column) (v : ℕ) (c : Column) → Left xs (set cs v c) (v + 1) ≡ Left xs cs (v + 1)
from_past xs cs v c = ap (λ (ds : List Column). columns_in (drop (v + 1) xs) (lists_of ds)) (subst (λ (n : ℕ). drop n (set cs v c) ≡ drop n cs) (sym (add-one v)) (past_suc cs v c))

long_all : (n : ℕ) (xs : List Variable) (ss : List (List Status)) → All (λ s. length s ≡ n) ss → All (λ (c : OutputColumn). length c.statuses ≡ n) (columns_in xs ss)
long_all n [] ss long = All-nil (λ c. length c.statuses ≡ n)
long_all n (x ∷ xs) [] long = All-nil (λ c. length c.statuses ≡ n)
long_all n (x ∷ xs) (s ∷ ss) long =
    All-cons (λ c. length c.statuses ≡ n) (record { name = x.name; statuses = s }) (columns_in xs ss) (All-head (λ s. length s ≡ n) s ss long) (long_all n xs ss (All-tail (λ s. length s ≡ n) s ss long))

count : (xs : List Variable) (ss : List (List Status)) → Pairs xs ss → length (columns_in xs ss) ≡ length xs
count [] ss e = refl
count (x ∷ xs) [] e = absurd (let z : suc (length xs) ≡ 0 = e in omega (arith, z))
count (x ∷ xs) (s ∷ ss) e = ap suc (count xs ss (omega (arith, e)))

-- streams of one length are columns, where there is one
pub are_columns : (n : ℕ) (xs : List Variable) (ss : List (List Status)) → Pairs xs ss → All (λ s. length s ≡ n) ss → 0 < length xs → AreOutputs (columns_in xs ss)
are_columns n xs ss pairs long some = even n (columns_in xs ss) (long_all n xs ss long) (let c = count xs ss pairs in omega (arith, c, some))

-- WHAT THEY ARE

-- the names are those of the main variables, in order
pub names : (xs : List Variable) (ss : List (List Status)) → Pairs xs ss → map (λ (c : OutputColumn). c.name) (columns_in xs ss) ≡ map (λ (y : Variable). y.name) xs
names [] ss e = refl
names (x ∷ xs) [] e = absurd (let z : suc (length xs) ≡ 0 = e in omega (arith, z))
names (x ∷ xs) (s ∷ ss) e = ap (λ ns. x.name ∷ ns) (names xs ss (omega (arith, e)))

-- each column is the stream of a variable of its name
pub stream_at : (xs : List Variable) (ss : List (List Status)) (k : ℕ) (c : OutputColumn) → slice_get (columns_in xs ss) k ≡ Some c → IsStreamOf xs ss c
stream_at [] ss k c e = cc
stream_at (x ∷ xs) [] k c e = cc
stream_at (x ∷ xs) (s ∷ ss) zero c e =
    let same : record { name = x.name; statuses = s } ≡ c = cc in
    record { number = 0; variable = x; there = refl; stream = ap (λ (d : OutputColumn). Some d.statuses) same; named = ap (λ (d : OutputColumn). d.name) (sym same) }
stream_at (x ∷ xs) (s ∷ ss) (suc k) c e = later x xs s ss c (stream_at xs ss k c e)
