-- The rows of a text are its only rows.
use Rattle.std.proofs.Common.{◌≡◌, ℕ, suc, ◌<◌, List, [], ◌∷◌, ◌++◌, length, Option, Some, refl, sym, ap, ◌∙◌, append_assoc, arith, All}
use Rattle.std.specs.List.{flat_map}
use Rattle.std.proofs.lemmas.List.Elements.{All-head, All-tail}
use Rattle.luflow.specs.declared.data.Datum.{Datum}
use Rattle.lutab.specs.Text.{Sort, IsRow, row_text}
use Rattle.lutab.specs.Reading.{row_at}
use Rattle.lutab.specs.Table.{IsNoRow}
use Rattle.lutab.proofs.Values.{some_is}
use Rattle.lutab.proofs.Lines.{row_again}
use Rattle.lutab.proofs.Reached.{takes_some}

abbrev some_row : List Datum → List ℕ → Option (List Datum × List ℕ)
some_row row rest = Some (row, rest)

-- two rows that begin the same bytes
row_same : (ks : List Sort) (r s : List Datum) (x y : List ℕ) → IsRow ks r → IsRow ks s → row_text ks r ++ x ≡ row_text ks s ++ y → some_row r x ≡ some_row s y
row_same ks r s x y a b same = sym (row_again ks r x a) ∙ (ap (row_at ks) same ∙ row_again ks s y b)

row_is : (r s : List Datum) (x y : List ℕ) → some_row r x ≡ some_row s y → r ≡ s
row_is r s x y e = ap (λ p. p.0) (some_is (r, x) (s, y) e)

rest_of : (r s : List Datum) (x y : List ℕ) → some_row r x ≡ some_row s y → x ≡ y
rest_of r s x y e = ap (λ p. p.1) (some_is (r, x) (s, y) e)

-- rows up to a line that is none are as many, however they are taken
pub same_stop : (ks : List Sort) (rows others : List (List Datum)) (x y : List ℕ) → All (IsRow ks) rows → All (IsRow ks) others → IsNoRow ks x → IsNoRow ks y → flat_map (row_text ks) rows ++ x ≡ flat_map (row_text ks) others ++ y → (length rows ≡ length others) × (x ≡ y)
same_stop ks [] [] x y a b p q e = (refl, e)
same_stop ks [] (s ∷ others) x y a b p q e = absurd (p s (flat_map (row_text ks) others ++ y) (All-head (IsRow ks) s others b) (e ∙ append_assoc (row_text ks s) (flat_map (row_text ks) others) y))
same_stop ks (r ∷ rows) [] x y a b p q e = absurd (q r (flat_map (row_text ks) rows ++ x) (All-head (IsRow ks) r rows a) (sym e ∙ append_assoc (row_text ks r) (flat_map (row_text ks) rows) x))
same_stop ks (r ∷ rows) (s ∷ others) x y a b p q e =
    let v = flat_map (row_text ks) rows ++ x in
    let w = flat_map (row_text ks) others ++ y in
    let same : row_text ks r ++ v ≡ row_text ks s ++ w = sym (append_assoc (row_text ks r) (flat_map (row_text ks) rows) x) ∙ (e ∙ append_assoc (row_text ks s) (flat_map (row_text ks) others) y) in
    let read = row_same ks r s v w (All-head (IsRow ks) r rows a) (All-head (IsRow ks) s others b) same in
    let more = same_stop ks rows others x y (All-tail (IsRow ks) r rows a) (All-tail (IsRow ks) s others b) p q (rest_of r s v w read) in
    (ap suc more.0, more.1)

-- a spelled text has no line that is no row
pub no_stop : (ks : List Sort) (rows others : List (List Datum)) (x : List ℕ) → All (IsRow ks) rows → All (IsRow ks) others → IsNoRow ks x → 0 < length x → flat_map (row_text ks) rows ++ x ≡ flat_map (row_text ks) others → ⊥
no_stop ks [] [] x a b p some e = absurd (omega (arith, ap length e))
no_stop ks [] (s ∷ others) x a b p some e = p s (flat_map (row_text ks) others) (All-head (IsRow ks) s others b) e
no_stop ks (r ∷ rows) [] x a b p some e =
    let short = takes_some ks r [] (flat_map (row_text ks) rows ++ x) (sym e ∙ append_assoc (row_text ks r) (flat_map (row_text ks) rows) x) in absurd (omega arith)
no_stop ks (r ∷ rows) (s ∷ others) x a b p some e =
    let v = flat_map (row_text ks) rows ++ x in
    let w = flat_map (row_text ks) others in
    let same : row_text ks r ++ v ≡ row_text ks s ++ w = sym (append_assoc (row_text ks r) (flat_map (row_text ks) rows) x) ∙ e in
    let read = row_same ks r s v w (All-head (IsRow ks) r rows a) (All-head (IsRow ks) s others b) same in
    no_stop ks rows others x (All-tail (IsRow ks) r rows a) (All-tail (IsRow ks) s others b) p some (rest_of r s v w read)

-- no text spells two lists of rows
pub rows_same : (ks : List Sort) (rows others : List (List Datum)) → All (IsRow ks) rows → All (IsRow ks) others → flat_map (row_text ks) rows ≡ flat_map (row_text ks) others → rows ≡ others
rows_same ks [] [] a b e = refl
rows_same ks [] (s ∷ others) a b e = let short = takes_some ks s [] (flat_map (row_text ks) others) e in absurd (omega arith)
rows_same ks (r ∷ rows) [] a b e = let short = takes_some ks r [] (flat_map (row_text ks) rows) (sym e) in absurd (omega arith)
rows_same ks (r ∷ rows) (s ∷ others) a b e =
    let v = flat_map (row_text ks) rows in
    let w = flat_map (row_text ks) others in
    let read = row_same ks r s v w (All-head (IsRow ks) r rows a) (All-head (IsRow ks) s others b) e in
    let more = rows_same ks rows others (All-tail (IsRow ks) r rows a) (All-tail (IsRow ks) s others b) (rest_of r s v w read) in
    rw (row_is r s v w read, more) refl
