-- Reading the lines of a table one after the other.
use Rattle.std.proofs.Common.{◌≡◌, ℕ, zero, suc, ◌+◌, ◌<◌, ◌≤◌, List, [], ◌∷◌, ◌++◌, length, get_or, Some, Result, Ok, Err, refl, ap, ◌∙◌, append_assoc, arith, map, length-append, All, count_by, cond}
use Rattle.std.specs.List.{flat_map, join_with_byte}
use Rattle.std.proofs.lemmas.List.Concat.{flat_map-append}
use Rattle.std.proofs.lemmas.List.{append-nil}
use Rattle.std.proofs.lemmas.List.Elements.{All-nil, All-push}
use Rattle.std.proofs.lemmas.List.Sums.{sum_by-append}
use Rattle.std.specs.Borrow.{Bor}
use Rattle.luflow.specs.declared.data.Datum.{Datum}
use Rattle.luflow.specs.declared.data.Datum.TheVariants.{Nil}
use Rattle.luflow.specs.Program.{Column}
use Rattle.lutab.specs.declared.error.LineError.{LineError}
use Rattle.lutab.specs.declared.error.LineError.TheVariants as errors
use Rattle.lutab.specs.Text.{Sort, fields_text, HasKind, IsRow, row_text}
use Rattle.lutab.specs.Reading.{row_at}
use Rattle.lutab.specs.Table.{row_of, rows_of, is_feed}
use Rattle.lutab.specs.Filling.{with_row, FillsRow, ReadsLine, AreFilled, IsReached, AreRead}
use Rattle.lutab.proofs.Lines.{row_takes, row_again}

-- what a line spells
pub spelled : (ks : List Sort) (bytes : List ℕ) (old new : List Column) (r : Result (Bor (List ℕ)) LineError) → FillsRow old new r (row_at ks bytes) → ReadsLine ks bytes old new r
spelled ks bytes old new (Ok rest) h = let t = row_takes ks bytes h.0 rest.now h.1 in (h.0, t.1, t.0, h.2)
spelled ks bytes old new (Err errors.OutOfMemory) h = tt
spelled ks bytes old new (Err errors.Faulty) h = λ row after is e.
    let one : row_at ks bytes ≡ Some (row, after) = ap (row_at ks) e ∙ row_again ks row after is in
    absurd cc

-- ---- one more row in the columns

at_end : (c : List Datum) (d e : Datum) (n : ℕ) → length c ≡ n → get_or (c ++ d ∷ []) n e ≡ d
at_end [] d e zero len = refl
at_end [] d e (suc n) len = absurd (omega arith)
at_end (x ∷ c) d e zero len = absurd (omega arith)
at_end (x ∷ c) d e (suc n) len = at_end c d e n (omega arith)

in_front : (c : List Datum) (d e : Datum) (t : ℕ) → t < length c → get_or (c ++ d ∷ []) t e ≡ get_or c t e
in_front [] d e t lt = absurd (omega arith)
in_front (x ∷ c) d e zero lt = refl
in_front (x ∷ c) d e (suc t) lt = in_front c d e t (omega arith)

pub filled_more : (n : ℕ) (ks : List Sort) (cs : List Column) (row : List Datum) → AreFilled n ks cs → IsRow ks row → AreFilled (suc n) ks (with_row cs row)
unfolding with_row
filled_more n [] [] [] is r = tt
filled_more n [] [] (d ∷ ds) is r = absurd r
filled_more n [] (c ∷ cs) row is r = absurd is
filled_more n (k ∷ ks) [] row is r = absurd is
filled_more n (k ∷ ks) (c ∷ cs) [] is r = absurd r
filled_more n (k ∷ ks) (c ∷ cs) (d ∷ ds) is r =
    (omega (arith, length-append c.values (d ∷ []), is.0), All-push (HasKind k) c.values d is.1 r.0, filled_more n ks cs ds is.2 r.1)

last_row : (n : ℕ) (ks : List Sort) (cs : List Column) (row : List Datum) → AreFilled n ks cs → IsRow ks row → row_of (with_row cs row) n ≡ row
unfolding with_row
last_row n [] [] [] is r = refl
last_row n [] [] (d ∷ ds) is r = absurd r
last_row n [] (c ∷ cs) row is r = absurd is
last_row n (k ∷ ks) [] row is r = absurd is
last_row n (k ∷ ks) (c ∷ cs) [] is r = absurd r
last_row n (k ∷ ks) (c ∷ cs) (d ∷ ds) is r = rw (at_end c.values d Nil n is.0, last_row n ks cs ds is.2 r.1) refl

front_row : (n t : ℕ) (ks : List Sort) (cs : List Column) (row : List Datum) → t < n → AreFilled n ks cs → IsRow ks row → row_of (with_row cs row) t ≡ row_of cs t
unfolding with_row
front_row n t [] [] [] lt is r = refl
front_row n t [] [] (d ∷ ds) lt is r = absurd r
front_row n t [] (c ∷ cs) row lt is r = absurd is
front_row n t (k ∷ ks) [] row lt is r = absurd is
front_row n t (k ∷ ks) (c ∷ cs) [] lt is r = absurd r
front_row n t (k ∷ ks) (c ∷ cs) (d ∷ ds) lt is r = rw (in_front c.values d Nil t (omega (arith, is.0)), front_row n t ks cs ds lt is.2 r.1) refl

front_rows : (n m : ℕ) (ks : List Sort) (cs : List Column) (row : List Datum) → m ≤ n → AreFilled n ks cs → IsRow ks row → rows_of (with_row cs row) m ≡ rows_of cs m
front_rows n zero ks cs row le is r = refl
front_rows n (suc m) ks cs row le is r = rw (front_rows n m ks cs row (omega arith) is r, front_row n m ks cs row (omega arith) is r) refl

pub more_rows : (n : ℕ) (ks : List Sort) (cs : List Column) (row : List Datum) → AreFilled n ks cs → IsRow ks row → rows_of (with_row cs row) (suc n) ≡ rows_of cs n ++ row ∷ []
more_rows n ks cs row is r = rw (front_rows n n ks cs row (omega arith) is r, last_row n ks cs row is r) refl

pub same_count : (n : ℕ) (ks : List Sort) (cs : List Column) → AreFilled n ks cs → length cs ≡ length ks
same_count n [] [] is = refl
same_count n [] (c ∷ cs) is = absurd is
same_count n (k ∷ ks) [] is = absurd is
same_count n (k ∷ ks) (c ∷ cs) is = ap suc (same_count n ks cs is.2)

-- the columns keep their names
same_names : (n : ℕ) (ks : List Sort) (cs : List Column) (row : List Datum) → AreFilled n ks cs → IsRow ks row → map (λ c. c.name) (with_row cs row) ≡ map (λ c. c.name) cs
unfolding with_row
same_names n ks [] row is r = refl
same_names n [] (c ∷ cs) row is r = absurd is
same_names n (k ∷ ks) (c ∷ cs) [] is r = absurd r
same_names n (k ∷ ks) (c ∷ cs) (d ∷ ds) is r = ap (λ (ns : List (List ℕ)). c.name ∷ ns) (same_names n ks cs ds is.2 r.1)

-- ---- the lines read so far

pub record ReadSoFar (ks : List Sort) (names : List (List ℕ)) (body : List ℕ) (n : ℕ) (rest : List ℕ) (columns : List Column) : Type 0 where
  pub each : All (IsRow ks) (rows_of columns n)
  pub before : body ≡ flat_map (row_text ks) (rows_of columns n) ++ rest
  pub count : length (rows_of columns n) ≡ n
  pub filled : AreFilled n ks columns
  pub named : map (λ c. c.name) columns ≡ names
  pub few : n + count_by is_feed rest ≤ count_by is_feed body
  pub short : n + length rest ≤ length body

pub no_lines : (ks : List Sort) (body : List ℕ) (columns : List Column) → AreFilled 0 ks columns → ReadSoFar ks (map (λ c. c.name) columns) body 0 body columns
no_lines ks body columns is = record { each = All-nil (IsRow ks); before = refl; count = refl; filled = is; named = refl; few = omega arith; short = omega arith }

pub takes_some : (ks : List Sort) (row : List Datum) (rest after : List ℕ) → rest ≡ row_text ks row ++ after → length after < length rest
takes_some ks row rest after e =
    let line = join_with_byte 44 (fields_text ks row) in
    omega (arith, ap length e, length-append (line ++ 10 ∷ []) after, length-append line (10 ∷ []))

-- a line has a line feed
pub feeds_more : (line rest after : List ℕ) → rest ≡ (line ++ 10 ∷ []) ++ after → suc (count_by is_feed after) ≤ count_by is_feed rest
feeds_more line rest after e =
    omega (arith, ap (count_by is_feed) e, sum_by-append (λ b. cond (is_feed b) 1 0) (line ++ 10 ∷ []) after, sum_by-append (λ b. cond (is_feed b) 1 0) line (10 ∷ []))

pub one_more_line : (ks : List Sort) (names : List (List ℕ)) (body : List ℕ) (n : ℕ) (rest : List ℕ) (columns : List Column) (row : List Datum) (after : List ℕ) → ReadSoFar ks names body n rest columns → IsRow ks row → rest ≡ row_text ks row ++ after → ReadSoFar ks names body (suc n) after (with_row columns row)
one_more_line ks names body n rest columns row after so is e =
    let rows : rows_of (with_row columns row) (suc n) ≡ rows_of columns n ++ row ∷ [] = more_rows n ks columns row so.filled is in
    record {
      each = rw rows (All-push (IsRow ks) (rows_of columns n) row so.each is);
      before = rw (rows, flat_map-append (row_text ks) (rows_of columns n) (row ∷ [])) (so.before ∙ rw e (simp (append_assoc, append-nil)));
      count = rw rows (omega (arith, length-append (rows_of columns n) (row ∷ []), so.count));
      filled = filled_more n ks columns row so.filled is;
      named = same_names n ks columns row so.filled is ∙ so.named;
      few = omega (arith, so.few, feeds_more (join_with_byte 44 (fields_text ks row)) rest after e);
      short = omega (arith, so.short, takes_some ks row rest after e);
    }

pub stands : (ks : List Sort) (names : List (List ℕ)) (body : List ℕ) (n : ℕ) (rest : List ℕ) (columns : List Column) → ReadSoFar ks names body n rest columns → 0 < length rest → IsReached ks body (n + 2) rest
stands ks names body n rest columns so more = record { rows = rows_of columns n; each = so.each; before = so.before; number = omega (arith, so.count); some = more }

pub all_read : (ks : List Sort) (names : List (List ℕ)) (body : List ℕ) (n : ℕ) (rest : List ℕ) (columns : List Column) → ReadSoFar ks names body n rest columns → length rest ≡ 0 → AreRead ks names body n columns
all_read ks names body n [] columns so none = record { filled = so.filled; named = so.named; spelled = so.before ∙ append-nil (flat_map (row_text ks) (rows_of columns n)); few = omega (arith, so.few) }
all_read ks names body n (b ∷ bs) columns so none = absurd (omega arith)
