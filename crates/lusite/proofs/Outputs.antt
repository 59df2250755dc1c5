-- What a site reports of its outputs.
use Rattle.std.proofs.Common.{◌≡◌, ℕ, ◌+◌, ◌<◌, ◌≤◌, inl, inr, Bool, true, false, cond, List, [], length, map, nat_eq, Option, None, Some, refl, sym, ap, ◌∙◌, subst, arith}
use Rattle.std.specs.Prelude.{slice_get, slice_index, ◌&&◌, nat_lt}
use Rattle.std.proofs.lemmas.Bool.{cases_lt, eq-eqb, ne_eqb}
use Rattle.std.proofs.lemmas.Option.{slice_get_within, get_or_from_slice_get}
use Rattle.luworld.proofs.Outlines.{bool_cases}
use Rattle.luflow.specs.declared.data.Status.{Status}
use Rattle.luflow.specs.Streams.{Known}
use Rattle.luflow.specs.Program.{flows_of}
use Rattle.luflow.proofs.Solutions.{some_at, place_in}
use Rattle.luworld.specs.Needs.{PlanView, home, stands}
use Rattle.luworld.specs.Jobs.{streams_of, cell, script, outputs_of}
use Rattle.lusite.specs.declared.state.SiteState.{SiteState}
use Rattle.lusite_program.specs.declared.program.Part.{Part}
use Rattle.lusite.specs.Machine.{is_faulted, IsSet, StandsAt, IsReadyAt, Ready, Over, done_of}
use Rattle.lusite.specs.Logs.{IsOutput, IsLoggedAt, passed_to, logs_of, log_at, reported_at}
use Rattle.lusite_program.specs.Logs.{add_if, IsRow, is_wanted, view_items}
use Rattle.luworld.specs.WorldViews.{IsFirst}
use Rattle.lusite.proofs.SiteStates.{Going, going, part_here}
use Rattle.lusite.proofs.Offers.{Here, hand_next}
use Rattle.lusite.proofs.Reported.{lt-false, first_len}
use Rattle.lusite_program.proofs.SiteFlows.{both, output_there}
use Rattle.lusite.proofs.Passed.{reported, reported_passed, passed_reported}
use Rattle.luflow.specs.Variables.{is_output_of}

-- a site that has done its script stands after the last instant, if it holds no stop
at_end : (a : SiteState) → Going a → IsReadyAt a → done_of a ≡ length (script a.inputs.job (streams_of a.inputs.job) a.inputs.site) → a.instant ≡ a.inputs.job.inputs.instants
at_end a g (Over et ep ej) n = et
at_end a g (Ready lp lj) n =
    let job = a.inputs.job in
    let h : Here a = record { going_on = g; place_lt = lp; step_lt = lj } in
    let x = some_at (cell job (streams_of job) a.inputs.site a.instant (slice_index job.plan.flat.order a.place.value)) a.step lj in
    let l = slice_get_within (script job (streams_of job) a.inputs.site) (done_of a) x.0 (hand_next a h ∙ x.1) in
    absurd (omega (arith, l, n))

one_at_most : (b : Bool) → add_if b ≤ 1
one_at_most true = omega arith
one_at_most false = omega arith

none_late : (t n : ℕ) (b : Bool) → n ≤ t → add_if (nat_lt t n && b) ≡ 0
none_late t n b le = ap (λ x. add_if (x && b)) (lt-false t n le)

within_all : (t n : ℕ) (b : Bool) → t ≤ n → t + add_if (nat_lt t n && b) ≤ n
within_all t n b le = elim (cases_lt t n) [
  | inl l ↦ let z = one_at_most (nat_lt t n && b) in omega (arith, z, l)
  | inr g ↦ let z = none_late t n b g in omega (arith, z, le)
]

-- what a site reports of an output
pub output_is : (a : SiteState) → IsSet a → StandsAt a → IsLoggedAt a → (is_faulted a ≡ false → IsReadyAt a) → (k : ℕ) (xs : List Status) → xs ≡ log_at a (slice_get (outputs_of a.program.plan) k) → IsOutput a.inputs.job a.inputs.site (done_of a) k xs
output_is a set st logged ready k xs e =
    let job = a.inputs.job in
    let ok = set.is_job.is_plan in
    let inside : (i : ℕ) → slice_get (outputs_of job.plan) k ≡ Some i → (i < flows_of job.plan.flat) × (is_output_of job.plan.flat i ≡ true) = λ i out. let o = output_there job.plan k i out in let v = ok.variables_first in let l = o.0 in (omega (arith, v, l), o.1) in
    let log = λ (i : ℕ) (out : slice_get (outputs_of job.plan) k ≡ Some i). e ∙ ap (λ (q : PlanView). log_at a (slice_get (outputs_of q) k)) set.plan_is ∙ ap (log_at a) out ∙ ap (λ (x : Part). cond x.reported (view_items (slice_get (logs_of a) i)) []) (part_here a i set (inside i out).0) in
    record {
      reported = λ i out at_home.
          let o = inside i out in
          let wanted : is_wanted job a.inputs.site i ≡ true = both (nat_eq (home job.plan i) a.inputs.site) (is_output_of job.plan.flat i) (eq-eqb (home job.plan i) a.inputs.site at_home) o.1 in
          let w = place_in job.plan.flat.order i (ok.ordered.all_flows i o.0) in
          let b = nat_lt w.0 (passed_to a) in
          let m = a.instant + add_if (nat_lt a.instant job.inputs.instants && b) in
          let r : IsRow job i (logs_of a) m = subst (λ (j : ℕ). IsRow job j (logs_of a) m) w.2 (logged w.0 w.1 (subst (λ (j : ℕ). is_wanted job a.inputs.site j ≡ true) (sym w.2) wanted)) in
          let xs_is : xs ≡ r.row.items = log i out ∙ ap (λ (t : Bool). cond t (view_items (slice_get (logs_of a) i)) []) wanted ∙ ap view_items r.there in
          let known : IsFirst job i xs m = ap (map Known) xs_is ∙ r.known in
          record {
            begun = (m, within_all a.instant job.inputs.instants b st.instant_le, known);
            passed = λ q u there lu.
                let lq = slice_get_within job.plan.flat.order q i there in
                let eq : slice_index job.plan.flat.order q ≡ i = get_or_from_slice_get job.plan.flat.order q i 0 there in
                let n = reported a set st ready q in
                let row : IsRow job i (logs_of a) n = subst (λ (j : ℕ). IsRow job j (logs_of a) n) eq (logged q lq (subst (λ (j : ℕ). is_wanted job a.inputs.site j ≡ true) (sym eq) wanted)) in
                let items : xs ≡ row.row.items = log i out ∙ ap (λ (t : Bool). cond t (view_items (slice_get (logs_of a) i)) []) wanted ∙ ap view_items row.there in
                let len : length xs ≡ n = first_len job i xs n (ap (map Known) items ∙ row.known) in
                let own : stands job.plan (slice_index job.plan.flat.order q) a.inputs.site ≡ true = ap (λ (j : ℕ). stands job.plan j a.inputs.site) eq ∙ ap (stands job.plan i) (sym at_home) ∙ ok.stands_home i o.0 in
                (λ l. reported_passed a set st ready q lq own u lu (omega (arith, l, len)), λ h. let l = passed_reported a set st ready q lq own u lu h in omega (arith, l, len));
            whole = λ n free. elim (bool_cases (is_faulted a)) [
              | inl bad ↦ absurd ((st.stopped bad).1 free)
              | inr go ↦
                  let t = at_end a (going a set st go) (ready go) n in
                  let z = none_late a.instant job.inputs.instants b (omega arith) in
                  subst (IsFirst job i xs) (let q : m ≡ job.inputs.instants = omega (arith, z, t) in q) known
            ];
          };
      elsewhere = λ i out away.
          let off : is_wanted job a.inputs.site i ≡ false = ap (λ (b : Bool). b && is_output_of job.plan.flat i) (ne_eqb (home job.plan i) a.inputs.site away) in
          log i out ∙ ap (λ (t : Bool). cond t (view_items (slice_get (logs_of a) i)) []) off;
      beyond = λ none. e ∙ ap (λ (q : PlanView). log_at a (slice_get (outputs_of q) k)) set.plan_is ∙ ap (log_at a) none;
    }
