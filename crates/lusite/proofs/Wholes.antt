-- What a site leaves that has done its whole script in another way than item by item.
use Rattle.std.proofs.Common.{◌≡◌, ℕ, zero, suc, ◌<◌, ◌≤◌, true, false, List, [], ◌∷◌, length, map, nat_eq, Option, None, Some, refl, sym, ap, ◌∙◌, subst, arith}
use Rattle.std.specs.Prelude.{slice_get}
use Rattle.std.specs.Option.{option_map}
use Rattle.std.proofs.lemmas.List.{length-map}
use Rattle.std.proofs.lemmas.Option.{slice_get_within, slice_get-map, get_or_from_slice_get, same_Some}
use Rattle.luflow.specs.declared.data.Status.{Status}
use Rattle.luflow.specs.Program.{flows_of}
use Rattle.luworld.specs.Needs.{home, stands}
use Rattle.luworld.specs.Jobs.{JobView, IsJob, outputs_of, script, streams_of}
use Rattle.luworld.specs.WorldViews.{IsWhole}
use Rattle.luworld.proofs.Fitting.{job_of_run}
use Rattle.lusite_program.specs.Logs.{Log, row_items}
use Rattle.lusite_program.proofs.SiteFlows.{output_there}
use Rattle.lusite.specs.Logs.{IsOutput, IsReported}
use Rattle.lusite.specs.Machine.{IsNext}
use Rattle.lusite.specs.Sites.{IsWholeSite}
use Rattle.lusite.specs.declared.next.Next.TheVariants.{Ended}
use Rattle.lusite.proofs.Reported.{first_len}
use Rattle.lusite.proofs.Unstopped.{all_passed, no_stop}

past_end : {X : Type 0} (xs : List X) (k : ℕ) → slice_get xs k ≡ None → length xs ≤ k
past_end [] k e = omega arith
past_end (x ∷ xs) zero e = absurd cc
past_end (x ∷ xs) (suc k) e = omega (arith, past_end xs k e)

abbrev items_of : Log → List Status
items_of row = row.items

module _ (job : JobView) (s sites instants : ℕ) (names : List (List ℕ)) (rows : List Log) (w : IsWholeSite job s sites instants names (map items_of rows)) where
  abbrev end : ℕ
  end = length (script job (streams_of job) s)

  pub whole_job : IsJob job
  whole_job = job_of_run job w.run

  pub whole_ended : IsNext job s end Ended
  whole_ended = (refl, no_stop job s whole_job w.sound)

  pub whole_len : length rows ≡ length (outputs_of job.plan)
  whole_len = sym (length-map rows items_of) ∙ w.whole.len

  -- all statuses of an output are as many as the site has passed
  whole_reported : (i : ℕ) (xs : List Status) → i < flows_of job.plan.flat → home job.plan i ≡ s → IsWhole job i xs → IsReported job s end i xs
  whole_reported i xs li at_home whole = record {
    begun = (job.inputs.instants, omega arith, whole);
    passed = λ p t there lt.
        let order = job.plan.flat.order in
        let lp = slice_get_within order p i there in
        let own : stands job.plan i s ≡ true = subst (λ (h : ℕ). stands job.plan i h ≡ true) at_home (whole_job.is_plan.stands_home i li) in
        let own_at = subst (λ (j : ℕ). stands job.plan j s ≡ true) (sym (get_or_from_slice_get order p i 0 there)) own in
        let len = first_len job i xs job.inputs.instants whole in
        (λ _. all_passed job s whole_job w.sound p t lp own_at lt, λ _. omega (arith, lt, len));
    whole = λ _ _. whole;
  }

  row_output : (k : ℕ) (xs : List Status) → slice_get (map items_of rows) k ≡ Some xs → IsOutput job s end k xs
  row_output k xs e = record {
    reported = λ i out at_home.
        let first = whole_job.is_plan.variables_first in
        let li = (output_there job.plan k i out).0 in
        whole_reported i xs (omega (arith, first, li)) at_home (w.whole.own k i xs out e at_home);
    elsewhere = λ i out away. w.whole.elsewhere k i xs out e away;
    beyond = λ none.
        let l = slice_get_within (map items_of rows) k xs e in
        let m = past_end (outputs_of job.plan) k none in
        let n = w.whole.len in
        absurd (omega (arith, l, m, n));
  }

  no_output : (k : ℕ) → slice_get rows k ≡ None → IsOutput job s end k []
  no_output k e =
      let none : (i : ℕ) → slice_get (outputs_of job.plan) k ≡ Some i → ⊥ = λ i out.
      let l = slice_get_within (outputs_of job.plan) k i out in
      let m = past_end rows k e in
      omega (arith, l, m, whole_len) in
      record {
        reported = λ i out at_home. absurd (none i out);
        elsewhere = λ i out away. refl;
        beyond = λ _. refl;
      }

  pub whole_output : (k : ℕ) → IsOutput job s end k (row_items (slice_get rows k))
  whole_output k = go (slice_get rows k) refl
    where
      go : (o : Option Log) → slice_get rows k ≡ o → IsOutput job s end k (row_items o)
      go None e = no_output k e
      go (Some row) e = row_output k row.items (slice_get-map items_of rows k ∙ ap (option_map items_of) e)
