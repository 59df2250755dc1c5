-- What the reports of all sites of a job make together.
use Rattle.std.proofs.Common.{◌≡◌, ℕ, suc, ◌+◌, ◌<◌, Bool, true, false, ◌&&◌, cond, List, [], ◌∷◌, length, map, filter, nat_eq, Some, All, refl, sym, ap, ◌∙◌, subst, arith, inl, inr}
use Rattle.std.specs.Prelude.{slice_get, nat_lt}
use Rattle.std.specs.List.{range_with_len, list_all}
use Rattle.std.specs.Option.{option_map}
use Rattle.std.proofs.lemmas.Bool.{cases_eq, eqb-true, false≢true}
use Rattle.std.proofs.lemmas.List.{length-map}
use Rattle.std.proofs.lemmas.List.FromFn.{get_or-range_with_len, length-range_with_len}
use Rattle.std.proofs.lemmas.List.Sums.{AllPass-from_list_all}
use Rattle.std.proofs.lemmas.Option.{slice_get-map}
use Rattle.luflow.specs.declared.data.Status.{Status}
use Rattle.luflow.specs.declared.variable.Variable.{Variable}
use Rattle.luflow.specs.Tables.{OutputColumn, AreOutputs}
use Rattle.luflow.specs.Variables.{variable_name, outputs_of as output_variables}
use Rattle.luworld.specs.Needs.{sites_of, home}
use Rattle.luworld.specs.WorldViews.{IsWhole}
use Rattle.luworld.specs.Jobs.{JobView, IsJob, HasNoStop, outputs_of, streams_of, script}
use Rattle.lusite.specs.Sites.{SiteView}
use Rattle.lusite.specs.Logs.{IsOutput}
use Rattle.lusite_program.specs.Programs.{output_names}
use Rattle.lurun.specs.Reports.{AreReportsOfJob, is_of, is_one, are_complete, AreComplete, HasEnded, IsReportedBySome, OneReports, NoneReports, AreColumns, AreOutputsOf, AreCollected, ReportNothing}
use Rattle.luflow.proofs.Solutions.{some_at}
use Rattle.lusite.proofs.Reported.{first_len}
use Rattle.lurun.proofs.Lists.{all_at, all_from, same_elements}
use Rattle.lurun.proofs.Endings.{no_fault}
use Rattle.lurun.proofs.Named.{names_are}
use Rattle.lurun.proofs.WholeOutputs.{number_at, are_outputs_of}

-- ---- one report of each site

some_of : (s : ℕ) (xs : List SiteView) → 0 < length (filter (is_of s) xs) → (p : ℕ) × (r : SiteView) × (slice_get xs p ≡ Some r) × (r.site ≡ s)
some_of s [] l = absurd (omega (arith, l))
some_of s (x ∷ xs) l = go (nat_eq x.site s) refl l (some_of s xs)
  where
    go : (b : Bool) → nat_eq x.site s ≡ b → 0 < length (cond b (x ∷ filter (is_of s) xs) (filter (is_of s) xs)) → (0 < length (filter (is_of s) xs) → (p : ℕ) × (r : SiteView) × (slice_get xs p ≡ Some r) × (r.site ≡ s)) → (p : ℕ) × (r : SiteView) × (slice_get (x ∷ xs) p ≡ Some r) × (r.site ≡ s)
    go true e l rest = (0, x, refl, eqb-true x.site s e)
    go false e l rest = let w = rest l in (suc w.0, w.1, w.2, w.3)

last_part : (a b d : Bool) → (a && b && d) ≡ true → d ≡ true
last_part true true d e = e
last_part true false d e = absurd (false≢true e)
last_part false b d e = absurd (false≢true e)

module _ (job : JobView) (reports : List SiteView) (of : AreReportsOfJob job reports) (complete : are_complete (sites_of job.plan) reports ≡ true) where
  one_of : (s : ℕ) → s < sites_of job.plan → (p : ℕ) × (r : SiteView) × (slice_get reports p ≡ Some r) × (r.site ≡ s)
  one_of s ls =
      let n = sites_of job.plan in
      let all = last_part (nat_lt 0 (length reports)) (nat_eq (length reports) n) (list_all (is_one reports) (range_with_len 0 n)) complete in
      let len = length-range_with_len 0 n in
      let at : is_one reports (0 + s) ≡ true = subst (λ k. is_one reports k ≡ true) (get_or-range_with_len 0 n s 0 ls) (AllPass-from_list_all (is_one reports) (range_with_len 0 n) all s 0 (omega (arith, ls, len))) in
      let z : 0 + s ≡ s = omega arith in
      let one = eqb-true (length (filter (is_of s) reports)) 1 (subst (λ k. is_one reports k ≡ true) z at) in
      some_of s reports (omega (arith, one))

  job_at : (p : ℕ) (r : SiteView) → slice_get reports p ≡ Some r → r.job ≡ job
  job_at p r at = all_at (λ (q : SiteView). q.job ≡ job) reports p r of at

  module _ (ok : IsJob job) (ended : All HasEnded reports) where
    abbrev Done : JobView → ℕ → ℕ → Type 0
    Done j s n = (n ≡ length (script j (streams_of j) s)) × HasNoStop j s

    done_at : (p : ℕ) (r : SiteView) → slice_get reports p ≡ Some r → Done job r.site r.done
    done_at p r at = subst (λ (j : JobView). Done j r.site r.done) (job_at p r at) (all_at HasEnded reports p r ended at)

    free : (s : ℕ) → s < sites_of job.plan → HasNoStop job s
    free s ls = let w = one_of s ls in subst (HasNoStop job) w.3 (done_at w.0 w.1 w.2).1

    not_empty : (xs : List Status) → 0 < length xs → xs ≡ [] → ⊥
    not_empty xs l e = let n = ap length e in omega (arith, l, n)

    reported_at : (p : ℕ) (r : SiteView) (k : ℕ) (xs : List Status) → slice_get reports p ≡ Some r → IsOutput r.job r.site r.done k xs → IsOutput job r.site r.done k xs
    reported_at p r k xs at is = subst (λ (j : JobView). IsOutput j r.site r.done k xs) (job_at p r at) is

    -- what is reported of an output is all of it
    reported_whole : (k v : ℕ) (xs : List Status) → slice_get (outputs_of job.plan) k ≡ Some v → IsReportedBySome reports k xs → IsWhole job v xs
    reported_whole k v xs out (OneReports p r at some is) =
        let reported = reported_at p r k xs at is in
        elim (cases_eq (home job.plan v) r.site) [
          | inl at_home ↦ let d = done_at p r at in (reported.reported v out at_home).whole d.0 d.1
          | inr away ↦ absurd (not_empty xs some (reported.elsewhere v out away))
        ]
    reported_whole k v xs out (NoneReports empty all) =
        let w = one_of (home job.plan v) (ok.is_plan.homes v) in
        let reported = reported_at w.0 w.1 k [] w.2 (all w.0 w.1 w.2) in
        let d = done_at w.0 w.1 w.2 in
        subst (IsWhole job v) (sym empty) ((reported.reported v out (sym w.3)).whole d.0 d.1)

    module _ (columns : List OutputColumn) (are : AreColumns reports (output_names job.plan) columns) where
      len : length columns ≡ length (outputs_of job.plan)
      len = are.len ∙ length-map (outputs_of job.plan) (variable_name job.plan.flat)

      whole_at : (k v : ℕ) (x : OutputColumn) → slice_get (outputs_of job.plan) k ≡ Some v → slice_get columns k ≡ Some x → IsWhole job v x.statuses
      whole_at k v x out at = reported_whole k v x.statuses out (are.each k x at).1

      named : map (λ (c : OutputColumn). c.name) columns ≡ output_names job.plan
      named = same_elements (map (λ (c : OutputColumn). c.name) columns) (output_names job.plan) (length-map columns (λ (c : OutputColumn). c.name) ∙ are.len)
          (λ k l. let x = some_at columns k (let n = length-map columns (λ (c : OutputColumn). c.name) in omega (arith, l, n)) in slice_get-map (λ (c : OutputColumn). c.name) columns k ∙ ap (option_map (λ (c : OutputColumn). c.name)) x.1 ∙ sym (are.each k x.0 x.1).0)

      outputs_are : AreOutputsOf job columns
      outputs_are = are_outputs_of job ok (no_fault job ok free) columns named whole_at

      long : (k : ℕ) (x : OutputColumn) → slice_get columns k ≡ Some x → length x.statuses ≡ job.inputs.instants
      long k x at = let v = number_at job ok (no_fault job ok free) columns named whole_at k x at in first_len job v.0 x.statuses job.inputs.instants (whole_at k v.0 x v.1 at)

      are_outputs : 0 < length columns → AreOutputs columns
      are_outputs some = go columns refl
        where
          go : (cs : List OutputColumn) → columns ≡ cs → AreOutputs cs
          go [] e = let z = ap length e in absurd (omega (arith, z, some))
          go (c ∷ cs) e = all_from (λ (x : OutputColumn). length x.statuses ≡ length c.statuses) (c ∷ cs) (λ k x at. long k x (ap (λ ds. slice_get ds k) e ∙ at) ∙ sym (long 0 c (ap (λ ds. slice_get ds 0) e)))

      collected : AreCollected job reports columns
      collected = record { complete = complete; ended = ended; are_outputs = outputs_are }

      -- where there are no outputs to make, there is none
      nothing_reported : (AreOutputs columns → ⊥) → ReportNothing job reports
      nothing_reported none = record {
        complete = complete;
        ended = ended;
        no_fault = no_fault job ok free;
        no_output = λ some.
            let n = ap length (names_are job.plan) in
            let a = length-map (outputs_of job.plan) (variable_name job.plan.flat) in
            let b = length-map (output_variables job.plan.flat.variables) (λ (x : Variable). x.name) in
            none (are_outputs (omega (arith, some, n, a, b, len)));
      }

-- the same by what the first of the reports says of its job
module _ (job : JobView) (reports : List SiteView) (of : AreReportsOfJob job reports) (first : SiteView) (at : slice_get reports 0 ≡ Some first) (complete : are_complete (sites_of first.job.plan) reports ≡ true) (ok : IsJob first.job) (ended : All HasEnded reports)
    (names : List (List ℕ)) (columns : List OutputColumn) (names_is : names ≡ output_names first.job.plan) (are : AreColumns reports names columns) where
  same_job : first.job ≡ job
  same_job = all_at (λ (q : SiteView). q.job ≡ job) reports 0 first of at

  all_there : AreComplete job reports
  all_there = subst (λ (j : JobView). are_complete (sites_of j.plan) reports ≡ true) same_job complete

  columns_are : AreColumns reports (output_names job.plan) columns
  columns_are = subst (λ (ns : List (List ℕ)). AreColumns reports ns columns) (names_is ∙ ap (λ (j : JobView). output_names j.plan) same_job) are

  pub collected_by : AreCollected job reports columns
  collected_by = collected job reports of all_there (subst IsJob same_job ok) ended columns columns_are

  pub nothing_by : (AreOutputs columns → ⊥) → ReportNothing job reports
  nothing_by = nothing_reported job reports of all_there (subst IsJob same_job ok) ended columns columns_are
