-- A row that is read is the row that was written, and what was written is read again.
use Rattle.std.proofs.Common.{◌≡◌, ℕ, true, eqb, List, [], ◌∷◌, ◌++◌, Option, Some, None, refl, sym, ap, subst, ◌∙◌, append_assoc, inl, inr}
use Rattle.std.proofs.lemmas.Bool.{eqb-true, eq-eqb}
use Rattle.luflow.specs.declared.data.Datum.{Datum}
use Rattle.lutab.specs.Text.{Sort, datum_text, is_end, HasKind, IsRow, row_text}
use Rattle.lutab.specs.Reading.{◌>>=◌, skip, value_at, field_at, fields_at, row_at}
use Rattle.lutab.proofs.Values.{chosen, bind_some, some_is, value_takes, value_again}

skip_takes : (c : ℕ) (bytes rest : List ℕ) → skip c bytes ≡ Some rest → bytes ≡ c ∷ rest
skip_takes c [] rest e = absurd cc
skip_takes c (b ∷ bs) rest e =
    elim (chosen (eqb b c) (Some bs) None (Some rest) e) [
      | inl p ↦ let b_is : b ≡ c = eqb-true _ _ p.0 in let bs_is : bs ≡ rest = some_is bs rest p.1 in rw (b_is, bs_is) refl
      | inr p ↦ absurd cc
    ]

skip_again : (c : ℕ) (rest : List ℕ) → skip c (c ∷ rest) ≡ Some rest
skip_again c rest = let same : eqb c c ≡ true = eq-eqb c c refl in rw same refl

abbrev ended : Datum → List ℕ → Option (Datum × List ℕ)
ended d rest = Some (d, rest)

field_takes : (k : Sort) (end : ℕ) (bytes : List ℕ) (d : Datum) (rest : List ℕ) → field_at k end bytes ≡ Some (d, rest) → (bytes ≡ datum_text k.names d ++ end ∷ rest) × HasKind k d
unfolding field_at
field_takes k end bytes d rest e =
    let v = bind_some (value_at k bytes) (λ v. skip end v.1 >>= λ r. ended v.0 r) (d, rest) e in
    let r = bind_some (skip end v.0.1) (λ r. ended v.0.0 r) (d, rest) v.2 in
    let t = value_takes k bytes v.0.0 v.0.1 v.1 in
    let s = skip_takes end v.0.1 r.0 r.1 in
    subst (λ (y : Datum × List ℕ). (bytes ≡ datum_text k.names y.0 ++ end ∷ y.1) × HasKind k y.0) (some_is (v.0.0, r.0) (d, rest) r.2) (t.0 ∙ ap (λ (x : List ℕ). datum_text k.names v.0.0 ++ x) s, t.1)

field_again : (k : Sort) (end : ℕ) (d : Datum) (rest : List ℕ) → HasKind k d → is_end end ≡ true → field_at k end (datum_text k.names d ++ end ∷ rest) ≡ Some (d, rest)
unfolding field_at
field_again k end d rest has stop = rw (value_again k d end rest has stop, skip_again end rest) refl

abbrev behind : Datum → List Datum × List ℕ → Option (List Datum × List ℕ)
behind d x = Some (d ∷ x.0, x.1)

-- the fields of a line that was read
fields_takes : (k : Sort) (ks : List Sort) (bytes : List ℕ) (row : List Datum) (rest : List ℕ) → fields_at (k ∷ ks) bytes ≡ Some (row, rest) → (bytes ≡ row_text (k ∷ ks) row ++ rest) × IsRow (k ∷ ks) row
unfolding fields_at
fields_takes k [] bytes row rest e =
    let v = bind_some (field_at k 10 bytes) (λ v. fields_at [] v.1 >>= behind v.0) (row, rest) e in
    let t = field_takes k 10 bytes v.0.0 v.0.1 v.1 in
    subst (λ (y : List Datum × List ℕ). (bytes ≡ row_text (k ∷ []) y.0 ++ y.1) × IsRow (k ∷ []) y.0) (some_is (v.0.0 ∷ [], v.0.1) (row, rest) v.2)
    (t.0 ∙ sym (append_assoc (datum_text k.names v.0.0) (10 ∷ []) v.0.1), (t.1, tt))
fields_takes k (j ∷ ks) bytes row rest e =
    let v = bind_some (field_at k 44 bytes) (λ v. fields_at (j ∷ ks) v.1 >>= behind v.0) (row, rest) e in
    let x = bind_some (fields_at (j ∷ ks) v.0.1) (behind v.0.0) (row, rest) v.2 in
    let t = field_takes k 44 bytes v.0.0 v.0.1 v.1 in
    let i = fields_takes j ks v.0.1 x.0.0 x.0.1 x.1 in
    subst (λ (y : List Datum × List ℕ). (bytes ≡ row_text (k ∷ j ∷ ks) y.0 ++ y.1) × IsRow (k ∷ j ∷ ks) y.0) (some_is (v.0.0 ∷ x.0.0, x.0.1) (row, rest) x.2)
    (t.0 ∙ ap (λ (w : List ℕ). datum_text k.names v.0.0 ++ 44 ∷ w) i.0 ∙ sym (joined v.0.0 j ks x.0.0 x.0.1 i.1), (t.1, i.1))
  where
    joined : (d : Datum) (j : Sort) (ks : List Sort) (ds : List Datum) (more : List ℕ) → IsRow (j ∷ ks) ds → row_text (k ∷ j ∷ ks) (d ∷ ds) ++ more ≡ datum_text k.names d ++ 44 ∷ (row_text (j ∷ ks) ds ++ more)
    joined d j ks [] more is = absurd is
    joined d j ks (x ∷ ds) more is = simp append_assoc

fields_again : (k : Sort) (ks : List Sort) (row : List Datum) (rest : List ℕ) → IsRow (k ∷ ks) row → fields_at (k ∷ ks) (row_text (k ∷ ks) row ++ rest) ≡ Some (row, rest)
unfolding fields_at
fields_again k ks [] rest is = absurd is
fields_again k [] (d ∷ []) rest is = rw (append_assoc (datum_text k.names d) (10 ∷ []) rest, field_again k 10 d rest is.0 refl) refl
fields_again k [] (d ∷ x ∷ ds) rest is = absurd is.1
fields_again k (j ∷ ks) (d ∷ []) rest is = absurd is.1
fields_again k (j ∷ ks) (d ∷ x ∷ ds) rest is =
    let text : row_text (k ∷ j ∷ ks) (d ∷ x ∷ ds) ++ rest ≡ datum_text k.names d ++ 44 ∷ (row_text (j ∷ ks) (x ∷ ds) ++ rest) = simp append_assoc in
    ap (fields_at (k ∷ j ∷ ks)) text ∙ rw (field_again k 44 d (row_text (j ∷ ks) (x ∷ ds) ++ rest) is.0 refl, fields_again j ks (x ∷ ds) rest is.1) refl

pub row_takes : (ks : List Sort) (bytes : List ℕ) (row : List Datum) (rest : List ℕ) → row_at ks bytes ≡ Some (row, rest) → (bytes ≡ row_text ks row ++ rest) × IsRow ks row
unfolding row_at
row_takes [] bytes row rest e =
    let r = bind_some (skip 10 bytes) none (row, rest) e in
    subst (λ (y : List Datum × List ℕ). (bytes ≡ row_text [] y.0 ++ y.1) × IsRow [] y.0) (some_is ([], r.0) (row, rest) r.2) (skip_takes 10 bytes r.0 r.1, tt)
  where
    none : List ℕ → Option (List Datum × List ℕ)
    none rest = Some ([], rest)
row_takes (k ∷ ks) bytes row rest e = fields_takes k ks bytes row rest e

pub row_again : (ks : List Sort) (row : List Datum) (rest : List ℕ) → IsRow ks row → row_at ks (row_text ks row ++ rest) ≡ Some (row, rest)
unfolding row_at
row_again [] [] rest is = refl
row_again [] (d ∷ ds) rest is = absurd is
row_again (k ∷ ks) row rest is = fields_again k ks row rest is
