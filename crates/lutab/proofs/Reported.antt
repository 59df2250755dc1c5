-- No text has two reports.
use Rattle.std.proofs.Common.{◌≡◌, ◌≢◌, ℕ, Bool, true, false, List, ◌++◌, length, refl, sym, ap, ◌∙◌, arith, inl, inr}
use Rattle.std.specs.Prelude.{◌⊎◌, Result, Ok, Err, IfOk, IfErr}
use Rattle.std.specs.List.{flat_map}
use Rattle.std.proofs.lemmas.Bool.{false≢true}
use Rattle.std.proofs.lemmas.List.{append_cancel_left, length-map}
use Rattle.luflow.specs.declared.variable.Enum.{Enum}
use Rattle.luflow.specs.declared.variable.Variable.{Variable}
use Rattle.luflow.specs.Program.{FlatView, InputsView}
use Rattle.luflow.specs.Tables.{FitsProgram}
use Rattle.luflow.specs.Variables.{inputs_of}
use Rattle.lutab.specs.declared.error.TabError.{TabError}
use Rattle.lutab.specs.declared.error.TabError.TheVariants.{BadHeader, BadRow, BadValue, TooLong, OutOfMemory}
use Rattle.lutab.specs.Text.{sort_of, row_text}
use Rattle.lutab.specs.Table.{header_text, kinds_of, sorts_of, rows_of, is_too_long, is_bad_row, IsTextOf, IsNoRow, StandsAt, IsRefused, Answers}
use Rattle.lutab.specs.Filling.{ReadsText}
use Rattle.lutab.proofs.Rowwise.{same_stop, no_stop}
use Rattle.lutab.proofs.Plain.{bad_is_no_row}
use Rattle.lutab.proofs.Texts.{one_table, rows_in, spelled_in}

-- ---- refusals

-- of two lines that are no rows of one text there is only one
one_stop : (types : List Enum) (inputs : List Variable) (text : List ℕ) (line other : ℕ) (x y : List ℕ) → StandsAt types inputs text line x → StandsAt types inputs text other y → IsNoRow (sorts_of types inputs) x → IsNoRow (sorts_of types inputs) y → (line ≡ other) × (x ≡ y)
one_stop types inputs text line other x y a b p q =
    let e = append_cancel_left (header_text inputs) _ _ (sym a.before ∙ b.before) in
    let s = same_stop (sorts_of types inputs) a.rows b.rows x y a.each b.each p q e in
    (omega (arith, s.0, a.number, b.number), s.1)

no_row : (types : List Enum) (inputs : List Variable) (rest : List ℕ) → is_bad_row (length inputs) rest ≡ true → IsNoRow (sorts_of types inputs) rest
no_row types inputs rest bad = bad_is_no_row (sorts_of types inputs) rest (ap (λ n. is_bad_row n rest) (length-map (kinds_of inputs) (sort_of types) ∙ length-map inputs (λ x. x.kind)) ∙ bad)

both_ways : (b : Bool) → b ≡ true → b ≡ false → ⊥
both_ways b t f = false≢true (sym f ∙ t)

other_rest : (inputs : List Variable) (x y : List ℕ) → x ≡ y → is_bad_row (length inputs) x ≡ true → is_bad_row (length inputs) y ≡ false → ⊥
other_rest inputs x y e t f = both_ways (is_bad_row (length inputs) y) (ap (is_bad_row (length inputs)) (sym e) ∙ t) f

pub one_refusal : (types : List Enum) (inputs : List Variable) (text : List ℕ) (e f : TabError) → IsRefused types inputs text e → IsRefused types inputs text f → e ≡ f
one_refusal types inputs text TooLong TooLong a b = refl
one_refusal types inputs text TooLong BadHeader a b = absurd (both_ways _ a b.0)
one_refusal types inputs text TooLong (BadRow n) a b = absurd (both_ways _ a b.1.short)
one_refusal types inputs text TooLong (BadValue n) a b = absurd (both_ways _ a b.1.short)
one_refusal types inputs text TooLong OutOfMemory a b = absurd b
one_refusal types inputs text BadHeader TooLong a b = absurd (both_ways _ b a.0)
one_refusal types inputs text BadHeader BadHeader a b = refl
one_refusal types inputs text BadHeader (BadRow n) a b = absurd (a.1 (flat_map (row_text (sorts_of types inputs)) b.1.rows ++ b.0) b.1.before)
one_refusal types inputs text BadHeader (BadValue n) a b = absurd (a.1 (flat_map (row_text (sorts_of types inputs)) b.1.rows ++ b.0) b.1.before)
one_refusal types inputs text BadHeader OutOfMemory a b = absurd b
one_refusal types inputs text (BadRow m) TooLong a b = absurd (both_ways _ b a.1.short)
one_refusal types inputs text (BadRow m) BadHeader a b = absurd (b.1 (flat_map (row_text (sorts_of types inputs)) a.1.rows ++ a.0) a.1.before)
one_refusal types inputs text (BadRow m) (BadRow n) a b = ap BadRow (one_stop types inputs text m n a.0 b.0 a.1 b.1 (no_row types inputs a.0 a.2) (no_row types inputs b.0 b.2)).0
one_refusal types inputs text (BadRow m) (BadValue n) a b = absurd (other_rest inputs a.0 b.0 (one_stop types inputs text m n a.0 b.0 a.1 b.1 (no_row types inputs a.0 a.2) b.3).1 a.2 b.2)
one_refusal types inputs text (BadRow m) OutOfMemory a b = absurd b
one_refusal types inputs text (BadValue m) TooLong a b = absurd (both_ways _ b a.1.short)
one_refusal types inputs text (BadValue m) BadHeader a b = absurd (b.1 (flat_map (row_text (sorts_of types inputs)) a.1.rows ++ a.0) a.1.before)
one_refusal types inputs text (BadValue m) (BadRow n) a b = absurd (other_rest inputs b.0 a.0 (one_stop types inputs text n m b.0 a.0 b.1 a.1 (no_row types inputs b.0 b.2) a.3).1 b.2 a.2)
one_refusal types inputs text (BadValue m) (BadValue n) a b = ap BadValue (one_stop types inputs text m n a.0 b.0 a.1 b.1 a.3 b.3).0
one_refusal types inputs text (BadValue m) OutOfMemory a b = absurd b
one_refusal types inputs text OutOfMemory f a b = absurd a

-- the text of a table isn't refused for what it has behind its header
no_stop_in : (types : List Enum) (inputs : List Variable) (text : List ℕ) (table : InputsView) (line : ℕ) (rest : List ℕ) → IsTextOf types inputs table text → StandsAt types inputs text line rest → IsNoRow (sorts_of types inputs) rest → ⊥
no_stop_in types inputs text table line rest is at none =
    let e = append_cancel_left (header_text inputs) _ _ (sym at.before ∙ spelled_in types inputs table text is) in
    no_stop (sorts_of types inputs) at.rows (rows_of table.columns table.instants) rest at.each (rows_in types inputs table text is) none at.some e

pub not_refused : (types : List Enum) (inputs : List Variable) (text : List ℕ) (table : InputsView) (e : TabError) → IsTextOf types inputs table text → is_too_long text ≡ false → IsRefused types inputs text e → ⊥
not_refused types inputs text table TooLong is short r = both_ways _ r short
not_refused types inputs text table BadHeader is short r = r.1 (flat_map (row_text (sorts_of types inputs)) (rows_of table.columns table.instants)) (spelled_in types inputs table text is)
not_refused types inputs text table (BadRow n) is short r = no_stop_in types inputs text table n r.0 is r.1 (no_row types inputs r.0 r.2)
not_refused types inputs text table (BadValue n) is short r = no_stop_in types inputs text table n r.0 is r.1 r.3
not_refused types inputs text table OutOfMemory is short r = r

-- ---- what the answer of reading says

pub memory_or : (e : TabError) → (e ≡ OutOfMemory) ⊎ (e ≢ OutOfMemory)
memory_or TooLong = inr (λ h. cc)
memory_or BadHeader = inr (λ h. cc)
memory_or (BadRow n) = inr (λ h. cc)
memory_or (BadValue n) = inr (λ h. cc)
memory_or OutOfMemory = inl refl

pub spells : (types : List Enum) (inputs : List Variable) (text : List ℕ) (r : Result InputsView TabError) → ReadsText types inputs text r → IfOk r (λ table. IsTextOf types inputs table text)
spells types inputs text (Ok table) h = h.1
spells types inputs text (Err e) h = tt

pub is_short : (types : List Enum) (inputs : List Variable) (text : List ℕ) (r : Result InputsView TabError) → ReadsText types inputs text r → IfOk r (λ _. is_too_long text ≡ false)
is_short types inputs text (Ok table) h = h.0
is_short types inputs text (Err e) h = tt

pub reports : (types : List Enum) (inputs : List Variable) (text : List ℕ) (r : Result InputsView TabError) → ReadsText types inputs text r → IfErr r (λ e. e ≢ OutOfMemory → IsRefused types inputs text e)
reports types inputs text (Ok table) h = tt
reports types inputs text (Err e) h = h

pub only_table : (types : List Enum) (inputs : List Variable) (text : List ℕ) (r : Result InputsView TabError) → ReadsText types inputs text r → (table : InputsView) → IsTextOf types inputs table text → is_too_long text ≡ false → Answers r (Ok table)
only_table types inputs text (Ok found) h table is short = inl (ap (λ (t : InputsView). Ok t) (one_table types inputs text found table h.1 is))
only_table types inputs text (Err e) h table is short =
    elim (memory_or e) [
      | inl memory ↦ inr (ap (λ (f : TabError). Err f) memory)
      | inr other ↦ absurd (not_refused types inputs text table e is short (h other))
    ]

pub only_refusal : (types : List Enum) (inputs : List Variable) (text : List ℕ) (r : Result InputsView TabError) → ReadsText types inputs text r → (e : TabError) → IsRefused types inputs text e → Answers r (Err e)
only_refusal types inputs text (Ok found) h e refused = absurd (not_refused types inputs text found e h.1 h.0 refused)
only_refusal types inputs text (Err f) h e refused =
    elim (memory_or f) [
      | inl memory ↦ inr (ap (λ (g : TabError). Err g) memory)
      | inr other ↦ inl (ap (λ (g : TabError). Err g) (one_refusal types inputs text f e (h other) refused))
    ]

pub fitting : (flat : FlatView) (text : List ℕ) (r : Result InputsView TabError) → ReadsText flat.types (inputs_of flat.variables) text r → IfOk r (λ table. FitsProgram flat table)
fitting flat text (Ok table) h = h.1.columns
fitting flat text (Err e) h = tt
