-- What a machine's cells mean.
use Rattle.std.proofs.Common.{◌≡◌, ℕ, zero, suc, ◌<◌, ◌≤◌, Bool, List, [], ◌∷◌, length, set, get_or, replicate, Option, Some, refl, sym, ap, ap₂, ◌∙◌, arith}
use Rattle.std.specs.Prelude.{slice_get, unwrap_or, All}
use Rattle.std.proofs.Math.Path.{fun_ext}
use Rattle.std.proofs.lemmas.Option.{same_Some, slice_get_within, get_or_from_slice_get}
use Rattle.luflow.specs.declared.data.Datum.{Datum}
use Rattle.luflow.specs.declared.data.Status.{Status}
use Rattle.luflow.specs.declared.data.Status.TheVariants as status
use Rattle.luflow.specs.declared.form.Outcome.TheVariants as outcome
use Rattle.luflow.specs.Values.{View, gives}
use Rattle.luflow.proofs.Solutions.{some_at}
use Rattle.lueval_lines.specs.declared.past.Past.{Past}
use Rattle.lueval_lines.specs.declared.cell.Cell.{Cell}
use Rattle.lueval_lines.specs.declared.cell.Cell.TheVariants.{Absent, Nil, Truth, Number, Name}
use Rattle.lueval_lines.specs.Cells.{status_of, statuses, held, newest, view_of, last_in as last_cell, ticked_in as ticked_cell}
use Rattle.lueval_lines.specs.Frames.{datum_in, latest, last_in, ticked_in, view_in, later}
use Rattle.lusite.specs.Machine.{past_of, pasts_in, more_of, count_kept}

pub statuses_set : (xs : List Cell) (i : ℕ) (c : Cell) → statuses (set xs i c) ≡ set (statuses xs) i (status_of c)
statuses_set [] i c = refl
statuses_set (x ∷ xs) zero c = refl
statuses_set (x ∷ xs) (suc i) c = ap (λ ys. status_of x ∷ ys) (statuses_set xs i c)

pub status_back : (xs : List Cell) (i : ℕ) (s : Status) → slice_get (statuses xs) i ≡ Some s → (c : Cell) × (slice_get xs i ≡ Some c) × (status_of c ≡ s)
status_back [] i s e = absurd cc
status_back (x ∷ xs) zero s e = (x, refl, same_Some (status_of x) s e)
status_back (x ∷ xs) (suc i) s e = status_back xs i s e

pub pasts_back : (xs : List Cell) (ns : List ℕ) (i : ℕ) (y : Past) → slice_get (pasts_in xs ns) i ≡ Some y → (x : Cell) × (n : ℕ) × (slice_get xs i ≡ Some x) × (slice_get ns i ≡ Some n) × (past_of x n ≡ y)
unfolding pasts_in
pasts_back [] ns i y e = absurd cc
pasts_back (x ∷ xs) [] i y e = absurd cc
pasts_back (x ∷ xs) (n ∷ ns) zero y e = (x, n, refl, refl, same_Some (past_of x n) y e)
pasts_back (x ∷ xs) (n ∷ ns) (suc i) y e = pasts_back xs ns i y e

pub pasts_at : (xs : List Cell) (ns : List ℕ) (i : ℕ) (x : Cell) (n : ℕ) → slice_get xs i ≡ Some x → slice_get ns i ≡ Some n → slice_get (pasts_in xs ns) i ≡ Some (past_of x n)
unfolding pasts_in
pasts_at [] ns i x n ex en = absurd cc
pasts_at (y ∷ xs) [] i x n ex en = absurd cc
pasts_at (y ∷ xs) (m ∷ ns) zero x n ex en = ap₂ (λ a b. Some (past_of a b)) (same_Some y x ex) (same_Some m n en)
pasts_at (y ∷ xs) (m ∷ ns) (suc i) x n ex en = pasts_at xs ns i x n ex en

pub pasts_len : (xs : List Cell) (ns : List ℕ) → length xs ≡ length ns → length (pasts_in xs ns) ≡ length xs
unfolding pasts_in
pasts_len [] ns e = refl
pasts_len (x ∷ xs) [] e = absurd (omega (arith, e))
pasts_len (x ∷ xs) (n ∷ ns) e = let h = pasts_len xs ns (omega (arith, e)) in omega (arith, h)

last_same : (xs : List Cell) (ns : List ℕ) → length xs ≡ length ns → (r : ℕ) → last_cell (slice_get xs r) ≡ last_in (slice_get (pasts_in xs ns) r)
unfolding pasts_in
last_same [] ns e r = refl
last_same (x ∷ xs) [] e r = absurd (omega (arith, e))
last_same (x ∷ xs) (n ∷ ns) e zero = refl
last_same (x ∷ xs) (n ∷ ns) e (suc r) = last_same xs ns (omega (arith, e)) r

ticked_same : (xs : List Cell) (ns : List ℕ) → length xs ≡ length ns → (r : ℕ) → ticked_cell (slice_get xs r) ≡ ticked_in (slice_get (pasts_in xs ns) r)
unfolding pasts_in
ticked_same [] ns e r = refl
ticked_same (x ∷ xs) [] e r = absurd (omega (arith, e))
ticked_same (x ∷ xs) (n ∷ ns) e zero = refl
ticked_same (x ∷ xs) (n ∷ ns) e (suc r) = ticked_same xs ns (omega (arith, e)) r

-- what a value looks at is the same, read from cells or from what they mean
pub view_same : (xs : List Cell) (ns : List ℕ) → length xs ≡ length ns → (shown : List Status) (d : Option Datum) (i : ℕ) → view_of (λ c. d) shown xs i ≡ view_in d shown (pasts_in xs ns) i
view_same xs ns e shown d i =
    let look : (ℕ → Option Datum) → Option Bool → View = λ l w. record { given = λ c. d; now = λ r. datum_in shown r; upto = λ r. latest (datum_in shown r) (l r); last = l; was = w } in
    ap₂ look (fun_ext (λ r. last_same xs ns e r)) (ticked_same xs ns e i)

pub count_same : (xs : List Cell) (ns : List ℕ) → length xs ≡ length ns → (i : ℕ) → count_kept (pasts_in xs ns) i ≡ unwrap_or (slice_get ns i) 0
unfolding pasts_in
count_same [] [] e i = refl
count_same [] (n ∷ ns) e i = absurd (omega (arith, e))
count_same (x ∷ xs) [] e i = absurd (omega (arith, e))
count_same (x ∷ xs) (n ∷ ns) e zero = refl
count_same (x ∷ xs) (n ∷ ns) e (suc i) = count_same xs ns (omega (arith, e)) i

-- one instant later
pub more_later : (x y : Cell) (n : ℕ) → later (status_of x) (past_of y n) ≡ past_of (newest x y) (more_of x n)
more_later Absent y n = refl
more_later Nil y n = refl
more_later (Truth b) y n = refl
more_later (Number m) y n = refl
more_later (Name k) y n = refl

pub counts_few : (t : ℕ) (xs : List Cell) (ns : List ℕ) → length xs ≡ length ns → All (λ (y : Past). y.count ≤ t) (pasts_in xs ns) → All (λ n. n ≤ t) ns
counts_few t xs ns e h = λ k d l.
    let len = pasts_len xs ns e in
    let lk : k < length (pasts_in xs ns) = omega (arith, len, e, l) in
    let y = some_at (pasts_in xs ns) k lk in
    let w = pasts_back xs ns k y.0 y.1 in
    let low : (get_or (pasts_in xs ns) k y.0).count ≤ t = h k y.0 lk in
    let there : get_or (pasts_in xs ns) k y.0 ≡ y.0 = get_or_from_slice_get (pasts_in xs ns) k y.0 y.0 y.1 in
    let same : w.1 ≡ (get_or (pasts_in xs ns) k y.0).count = ap (λ (p : Past). p.count) (w.4 ∙ sym there) in
    let mine : get_or ns k d ≡ w.1 = get_or_from_slice_get ns k w.1 d w.3 in
    omega (arith, low, same, mine)

pub counts_all : (t : ℕ) (xs : List Cell) (ns : List ℕ) → All (λ n. n ≤ t) ns → All (λ (y : Past). y.count ≤ t) (pasts_in xs ns)
counts_all t xs ns h = λ k d l.
    let y = some_at (pasts_in xs ns) k l in
    let w = pasts_back xs ns k y.0 y.1 in
    let there : get_or (pasts_in xs ns) k d ≡ y.0 = get_or_from_slice_get (pasts_in xs ns) k y.0 d y.1 in
    let same : (get_or (pasts_in xs ns) k d).count ≡ w.1 = ap (λ (p : Past). p.count) (there ∙ sym w.4) in
    let mine : get_or ns k 0 ≡ w.1 = get_or_from_slice_get ns k w.1 0 w.3 in
    let low : get_or ns k 0 ≤ t = h k 0 (slice_get_within ns k w.1 w.3) in
    omega (arith, low, same, mine)

-- at the start
pub new_statuses : (n : ℕ) → statuses (replicate n Absent) ≡ replicate n status.Absent
new_statuses zero = refl
new_statuses (suc n) = ap (λ ys. status.Absent ∷ ys) (new_statuses n)

pub new_pasts : (n : ℕ) → pasts_in (replicate n Absent) (replicate n 0) ≡ replicate n (past_of Absent 0)
unfolding pasts_in
new_pasts zero = refl
new_pasts (suc n) = ap (λ ys. past_of Absent 0 ∷ ys) (new_pasts n)

-- a cell that is given holds a datum
pub gives_datum : (c : Cell) → (gives (held c) ≡ outcome.Stuck → ⊥) → (d : Datum) × (held c ≡ Some d) × (status_of c ≡ status.Present d)
gives_datum Absent h = absurd (h refl)
gives_datum Nil h = (_, refl, refl)
gives_datum (Truth b) h = (_, refl, refl)
gives_datum (Number n) h = (_, refl, refl)
gives_datum (Name k) h = (_, refl, refl)

pub held_status : (c : Cell) (d : Datum) → held c ≡ Some d → status_of c ≡ status.Present d
held_status Absent d e = absurd cc
held_status Nil d e = ap status.Present (same_Some _ d e)
held_status (Truth b) d e = ap status.Present (same_Some _ d e)
held_status (Number n) d e = ap status.Present (same_Some _ d e)
held_status (Name k) d e = ap status.Present (same_Some _ d e)

-- what is kept of a flow, one instant later
pub aged_pasts : (shown lasts lasts' : List Cell) (counts counts' : List ℕ) (i : ℕ) (x : Status) (y : Past) → ((u v : Cell) → slice_get shown i ≡ Some u → slice_get lasts i ≡ Some v → slice_get lasts' i ≡ Some (newest u v)) → ((u : Cell) (n : ℕ) → slice_get shown i ≡ Some u → slice_get counts i ≡ Some n → slice_get counts' i ≡ Some (more_of u n)) → slice_get (statuses shown) i ≡ Some x → slice_get (pasts_in lasts counts) i ≡ Some y → slice_get (pasts_in lasts' counts') i ≡ Some (later x y)
aged_pasts shown lasts lasts' counts counts' i x y aged counted ex ey =
    let u = status_back shown i x ex in
    let v = pasts_back lasts counts i y ey in
    pasts_at lasts' counts' i (newest u.0 v.0) (more_of u.0 v.1) (aged u.0 v.0 u.1 v.2) (counted u.0 v.1 u.1 v.3)
    ∙ ap Some (sym (more_later u.0 v.0 v.1) ∙ ap₂ later u.2 v.4)
