-- Columns, into which what the sites report is moved one site after the other.
use Rattle.std.proofs.Common.{◌≡◌, ℕ, ◌+◌, ◌<◌, ◌≤◌, List, [], ◌∷◌, ◌++◌, length, set, Some, Vec, Global, refl, sym, ap, ◌∙◌, subst, arith, inl, inr}
use Rattle.std.specs.Prelude.{slice_get, string_bytes}
use Rattle.std.specs.declared.string.String.{String}
use Rattle.std.specs.Option.{option_map}
use Rattle.std.proofs.lemmas.Bool.{cases_lt}
use Rattle.std.proofs.lemmas.List.{length-map, length-set}
use Rattle.std.proofs.lemmas.Option.{slice_get_within, slice_get-map}
use Rattle.luflow.specs.declared.data.Status.{Status}
use Rattle.luflow.specs.Tables.{OutputColumn, output_view, outputs_view}
use Rattle.luflow.proofs.Solutions.{some_at}
use Rattle.lusite.specs.Sites.{SiteView}
use Rattle.lusite.specs.Logs.{IsOutput}
use Rattle.lusite_program.proofs.Written.{slice_get-set_same, slice_get-set_other}
use Rattle.lurun.specs.Reports.{IsReportedBySome, OneReports, NoneReports, AreColumns, IsFilled, later}
use Rattle.lurun.proofs.Lists.{slice_left, slice_seam, pushed_at, same_one}

-- what is reported of an output, with one site more
pub reported_more : (reports : List SiteView) (r : SiteView) (k : ℕ) (reported xs : List Status) → IsReportedBySome reports k reported → IsOutput r.job r.site r.done k xs → IsReportedBySome (reports ++ r ∷ []) k (later reported xs)
reported_more reports r k reported [] (OneReports p q at some is) out = OneReports p q (slice_left reports (r ∷ []) p q at) some is
reported_more reports r k reported [] (NoneReports empty all) out = NoneReports empty (pushed_at (λ p (q : SiteView). IsOutput q.job q.site q.done k []) reports r out all)
reported_more reports r k reported (x ∷ xs) before out = OneReports (length reports) r (slice_seam reports r) (omega arith) out

-- the first k columns have what a site reports too, and the others are as they were
pub record AreMoved (r : SiteView) (k : ℕ) (old new : List OutputColumn) : Type 0 where
  pub len : length new ≡ length old
  pub done : (j : ℕ) (y : OutputColumn) → j < k → slice_get old j ≡ Some y → (xs : List Status) × IsOutput r.job r.site r.done j xs × (slice_get new j ≡ Some (record { name = y.name; statuses = later y.statuses xs }))
  pub left : (j : ℕ) → k ≤ j → slice_get new j ≡ slice_get old j

pub none_moved : (r : SiteView) (old : List OutputColumn) → AreMoved r 0 old old
none_moved r old = record {
  len = refl;
  done = λ j y l at. absurd (omega (arith, l));
  left = λ j l. refl;
}

pub one_moved : (r : SiteView) (k : ℕ) (old new new' : List OutputColumn) (xs : List Status) → AreMoved r k old new → IsOutput r.job r.site r.done k xs → IsFilled new k xs new' → AreMoved r (k + 1) old new'
one_moved r k old new new' xs are out filled = record {
  len = filled.len ∙ are.len;
  done = λ j y l at.
      elim (cases_lt j k) [
        | inl lt ↦ let w = are.done j y lt at in (w.0, w.1, filled.others j (λ e. omega (arith, lt, e)) ∙ w.2)
        | inr ge ↦
            let here : k ≡ j = omega (arith, l, ge) in
            (xs, subst (λ (i : ℕ). IsOutput r.job r.site r.done i xs) here out, ap (slice_get new') (sym here) ∙ filled.here y (are.left k (omega arith) ∙ ap (slice_get old) here ∙ at))
      ];
  left = λ j l. filled.others j (λ e. omega (arith, l, e)) ∙ are.left j (omega (arith, l));
}

-- all columns have what the site reports, if it reports nothing of those that are left
pub all_moved : (r : SiteView) (k : ℕ) (old new : List OutputColumn) → AreMoved r k old new → ((j : ℕ) → k ≤ j → j < length new → IsOutput r.job r.site r.done j [])
    → (reports : List SiteView) (names : List (List ℕ)) → AreColumns reports names old → AreColumns (reports ++ r ∷ []) names new
all_moved r k old new are rest reports names before = record {
  len = are.len ∙ before.len;
  each = λ j x at.
      let within = slice_get_within new j x at in
      elim (cases_lt j k) [
        | inl lt ↦
            let y = some_at old j (let n = are.len in omega (arith, within, n)) in
            let w = are.done j y.0 lt y.1 in
            let reported = before.each j y.0 y.1 in
            subst (λ (c : OutputColumn). (slice_get names j ≡ Some c.name) × IsReportedBySome (reports ++ r ∷ []) j c.statuses) (same_one _ x (sym w.2 ∙ at))
            (reported.0, reported_more reports r j y.0.statuses w.0 reported.1 w.1)
        | inr ge ↦
            let reported = before.each j x (sym (are.left j ge) ∙ at) in
            (reported.0, reported_more reports r j x.statuses [] reported.1 (rest j ge within))
      ];
}

-- what a column is filled with
later_some : (reported xs : List Status) → 0 < length xs → later reported xs ≡ xs
later_some reported [] l = absurd (omega (arith, l))
later_some reported (x ∷ xs) l = refl

pub nothing_filled : (columns : List OutputColumn) (k : ℕ) (xs : List Status) → xs ≡ [] → IsFilled columns k xs columns
nothing_filled columns k xs e = record {
  len = refl;
  here = λ c at. at ∙ ap (λ ys. Some (record { name = c.name; statuses = later c.statuses ys })) (sym e);
  others = λ j ne. refl;
}

pub past_filled : (columns : List OutputColumn) (k : ℕ) (xs : List Status) → length columns ≤ k → IsFilled columns k xs columns
past_filled columns k xs over = record {
  len = refl;
  here = λ c at. absurd (let l = slice_get_within columns k c at in omega (arith, l, over));
  others = λ j ne. refl;
}

pub one_filled : (columns : List (String Global × Vec Status Global)) (k : ℕ) (x y : String Global × Vec Status Global) → slice_get columns k ≡ Some x → y.0 ≡ x.0 → 0 < length y.1.items → IsFilled (outputs_view columns) k y.1.items (outputs_view (set columns k y))
one_filled columns k x y at name some =
    let l = slice_get_within columns k x at in
    record {
      len = length-map (set columns k y) output_view ∙ length-set columns k y ∙ sym (length-map columns output_view);
      here = λ c there.
          let same : output_view x ≡ c = same_one (output_view x) c (sym (slice_get-map output_view columns k ∙ ap (option_map output_view) at) ∙ there) in
          slice_get-map output_view (set columns k y) k ∙ ap (option_map output_view) (slice_get-set_same columns k y l)
          ∙ ap (λ (n : String Global). Some (record { name = string_bytes n; statuses = y.1.items })) name
          ∙ ap (λ (d : OutputColumn). Some (record { name = d.name; statuses = y.1.items })) same
          ∙ ap (λ ys. Some (record { name = c.name; statuses = ys })) (sym (later_some c.statuses y.1.items some));
      others = λ j ne. slice_get-map output_view (set columns k y) j ∙ ap (option_map output_view) (slice_get-set_other columns k j y ne) ∙ sym (slice_get-map output_view columns j);
    }
