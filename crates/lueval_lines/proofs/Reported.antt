-- The outputs among the streams: taken one after the other, and all of one length.
use Rattle.std.proofs.Common.{◌≡◌, ℕ, zero, suc, ◌+◌, ◌<◌, ◌≤◌, Bool, true, false, cond, Some, List, [], ◌∷◌, ◌++◌, length, map, set, drop, get_or, add-one, refl, sym, ap, ◌∙◌, subst, arith, append_assoc}
use Rattle.std.specs.Prelude.{All, slice_get}
use Rattle.std.proofs.lemmas.List.{drop_more, drop_all}
use Rattle.std.proofs.lemmas.List.Elements.{All-nil, All-cons, All-head, All-tail, All-append}
use Rattle.luflow.specs.declared.data.Status.{Status}
use Rattle.luflow.specs.declared.variable.Variable.{Variable}
use Rattle.luflow.specs.Tables.{OutputColumn, AreOutputs}
use Rattle.luflow.specs.Variables.{is_output, outputs_of}
use Rattle.lueval_lines.specs.Columns.{Column, lists_of}
use Rattle.lueval_lines.specs.Outputs.{output_in, outputs_in}

-- those from place v on
abbrev pub From : List Variable → List Column → ℕ → List OutputColumn
From xs cs v = outputs_in (drop v xs) (lists_of (drop v cs))

pub step : (xs : List Variable) (cs : List Column) (v : ℕ) (x : Variable) (c : Column) → v < length xs → v < length cs → x ≡ get_or xs v x → c ≡ get_or cs v c → From xs cs v ≡ output_in x c.items ++ From xs cs (v + 1)
step xs cs v x c lx lc ex ec =
    let one : drop v xs ≡ x ∷ drop (v + 1) xs = drop_more xs v x lx ∙ ap (λ y. y ∷ drop (v + 1) xs) (sym ex) in
    let two : drop v cs ≡ c ∷ drop (v + 1) cs = drop_more cs v c lc ∙ ap (λ y. y ∷ drop (v + 1) cs) (sym ec) in
    ap (λ (a : List Variable). outputs_in a (lists_of (drop v cs))) one ∙ ap (λ (b : List Column). outputs_in (x ∷ drop (v + 1) xs) (lists_of b)) two

pub done : (xs : List Variable) (cs : List Column) (v : ℕ) → length xs ≤ v → From xs cs v ≡ []
done xs cs v le = ap (λ (a : List Variable). outputs_in a (lists_of (drop v cs))) (drop_all v xs le)

past_suc : (cs : List Column) (v : ℕ) (c : Column) → drop (suc v) (set cs v c) ≡ drop (suc v) cs
past_suc [] v c = refl
past_suc (x ∷ cs) zero c = refl
past_suc (x ∷ cs) (suc v) c = past_suc cs v c

-- those behind a column that changes
pub from_past : (xs : List Variable) (cs : List Column) (v : ℕ) (c : Column) → From xs (set cs v c) (v + 1) ≡ From xs cs (v + 1)
from_past xs cs v c = ap (λ (ds : List Column). outputs_in (drop (v + 1) xs) (lists_of ds)) (subst (λ (n : ℕ). drop n (set cs v c) ≡ drop n cs) (sym (add-one v)) (past_suc cs v c))

-- one more
pub more : (old new one rest whole : List OutputColumn) → new ≡ old ++ one → old ++ (one ++ rest) ≡ whole → new ++ rest ≡ whole
more old new one rest whole is all = ap (λ xs. xs ++ rest) is ∙ append_assoc old one rest ∙ all

abbrev pub AreLong : ℕ → List OutputColumn → Type 0
AreLong n xs = All (λ c. length c.statuses ≡ n) xs

long_one : (n : ℕ) (b : Bool) (x : Variable) (s : List Status) → length s ≡ n → AreLong n (cond b (record { name = x.name; statuses = s } ∷ []) [])
long_one n true x s long = All-cons (λ c. length c.statuses ≡ n) (record { name = x.name; statuses = s }) [] long (All-nil (λ c. length c.statuses ≡ n))
long_one n false x s long = All-nil (λ c. length c.statuses ≡ n)

long_all : (n : ℕ) (xs : List Variable) (ss : List (List Status)) → All (λ s. length s ≡ n) ss → AreLong n (outputs_in xs ss)
long_all n [] ss long = All-nil (λ c. length c.statuses ≡ n)
long_all n (x ∷ xs) [] long = All-nil (λ c. length c.statuses ≡ n)
long_all n (x ∷ xs) (s ∷ ss) long =
    All-append (λ c. length c.statuses ≡ n) (output_in x s) (outputs_in xs ss) (long_one n (is_output x.role) x s (All-head (λ s. length s ≡ n) s ss long)) (long_all n xs ss (All-tail (λ s. length s ≡ n) s ss long))

-- as many variables as streams
abbrev pub Pairs : List Variable → List (List Status) → Type 0
Pairs xs ss = length xs ≡ length ss

count_one : (b : Bool) (x : Variable) (s : List Status) (rest : List OutputColumn) (others : List Variable) → length rest ≡ length others → length (cond b (record { name = x.name; statuses = s } ∷ []) [] ++ rest) ≡ length (cond b (x ∷ others) others)
count_one true x s rest others e = ap suc e
count_one false x s rest others e = e

-- there are as many as the program has outputs
pub count : (xs : List Variable) (ss : List (List Status)) → Pairs xs ss → length (outputs_in xs ss) ≡ length (outputs_of xs)
count [] ss e = refl
count (x ∷ xs) [] e = absurd (let z : suc (length xs) ≡ 0 = e in omega (arith, z))
count (x ∷ xs) (s ∷ ss) e = count_one (is_output x.role) x s (outputs_in xs ss) (outputs_of xs) (count xs ss (omega (arith, e)))

pub even : (n : ℕ) (cs : List OutputColumn) → AreLong n cs → 0 < length cs → AreOutputs cs
even n [] long some = absurd (omega (arith, some))
even n (c ∷ cs) long some =
    let first : length c.statuses ≡ n = All-head (λ c. length c.statuses ≡ n) c cs long in
    subst (λ m. All (λ (x : OutputColumn). length x.statuses ≡ m) (c ∷ cs)) (sym first) long

has_columns : (cs : List OutputColumn) → AreOutputs cs → 0 < length cs
has_columns [] are = absurd are
has_columns (c ∷ cs) are = omega arith

-- streams of one length are outputs, where there is one
pub are_outputs : (n : ℕ) (xs : List Variable) (ss : List (List Status)) → Pairs xs ss → All (λ s. length s ≡ n) ss → 0 < length (outputs_of xs) → AreOutputs (outputs_in xs ss)
are_outputs n xs ss pairs long some = even n (outputs_in xs ss) (long_all n xs ss long) (let c = count xs ss pairs in omega (arith, c, some))

pub has_outputs : (xs : List Variable) (ss : List (List Status)) → Pairs xs ss → AreOutputs (outputs_in xs ss) → 0 < length (outputs_of xs)
has_outputs xs ss pairs are = let c = count xs ss pairs in let n = has_columns (outputs_in xs ss) are in omega (arith, c, n)

-- lengths of columns are lengths of their lists
pub lists_long : (n : ℕ) (cs : List Column) → All (λ (x : Column). length x.items ≡ n) cs → All (λ s. length s ≡ n) (lists_of cs)
lists_long n [] h = All-nil (λ s. length s ≡ n)
lists_long n (c ∷ cs) h = All-cons (λ s. length s ≡ n) c.items (lists_of cs) (All-head (λ (x : Column). length x.items ≡ n) c cs h) (lists_long n cs (All-tail (λ (x : Column). length x.items ≡ n) c cs h))

-- WHAT THEY ARE

names_one : (b : Bool) (x : Variable) (s : List Status) (rest : List OutputColumn) (others : List Variable) → map (λ (c : OutputColumn). c.name) rest ≡ map (λ (y : Variable). y.name) others
    → map (λ (c : OutputColumn). c.name) (cond b (record { name = x.name; statuses = s } ∷ []) [] ++ rest) ≡ map (λ (y : Variable). y.name) (cond b (x ∷ others) others)
names_one true x s rest others e = ap (λ ns. x.name ∷ ns) e
names_one false x s rest others e = e

-- the names are those of the program's outputs, in order
pub names : (xs : List Variable) (ss : List (List Status)) → Pairs xs ss → map (λ (c : OutputColumn). c.name) (outputs_in xs ss) ≡ map (λ (y : Variable). y.name) (outputs_of xs)
names [] ss e = refl
names (x ∷ xs) [] e = absurd (let z : suc (length xs) ≡ 0 = e in omega (arith, z))
names (x ∷ xs) (s ∷ ss) e = names_one (is_output x.role) x s (outputs_in xs ss) (outputs_of xs) (names xs ss (omega (arith, e)))

-- a column is the stream of a variable of its name
pub record IsStreamOf (xs : List Variable) (ss : List (List Status)) (c : OutputColumn) : Type 0 where
  pub number : ℕ
  pub variable : Variable
  pub there : slice_get xs number ≡ Some variable
  pub stream : slice_get ss number ≡ Some c.statuses
  pub named : c.name ≡ variable.name

pub later : (x : Variable) (xs : List Variable) (s : List Status) (ss : List (List Status)) (c : OutputColumn) → IsStreamOf xs ss c → IsStreamOf (x ∷ xs) (s ∷ ss) c
later x xs s ss c h = record { number = suc h.number; variable = h.variable; there = h.there; stream = h.stream; named = h.named }

at_one : (b : Bool) (x : Variable) (xs : List Variable) (s : List Status) (ss : List (List Status)) (k : ℕ) (c : OutputColumn) → ((j : ℕ) → slice_get (outputs_in xs ss) j ≡ Some c → IsStreamOf xs ss c)
    → slice_get (cond b (record { name = x.name; statuses = s } ∷ []) [] ++ outputs_in xs ss) k ≡ Some c → IsStreamOf (x ∷ xs) (s ∷ ss) c
at_one true x xs s ss zero c rest e =
    let same : record { name = x.name; statuses = s } ≡ c = cc in
    record { number = 0; variable = x; there = refl; stream = ap (λ (d : OutputColumn). Some d.statuses) same; named = ap (λ (d : OutputColumn). d.name) (sym same) }
at_one true x xs s ss (suc k) c rest e = later x xs s ss c (rest k e)
at_one false x xs s ss k c rest e = later x xs s ss c (rest k e)

pub stream_at : (xs : List Variable) (ss : List (List Status)) (k : ℕ) (c : OutputColumn) → slice_get (outputs_in xs ss) k ≡ Some c → IsStreamOf xs ss c
stream_at [] ss k c e = cc
stream_at (x ∷ xs) [] k c e = cc
stream_at (x ∷ xs) (s ∷ ss) k c e = at_one (is_output x.role) x xs s ss k c (λ j there. stream_at xs ss j c there) e
