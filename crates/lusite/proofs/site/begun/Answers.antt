use Rattle.std.proofs.Common.{◌≡◌, ℕ, ◌<◌, true, false, length, replicate, Some, refl, sym, ap, ap₂, ◌∙◌, subst, arith}
use Rattle.std.proofs.lemmas.Option.{slice_get-get_or, slice_get-map}
use Rattle.std.proofs.lemmas.List.{length-replicate}
use Rattle.lueval_lines.specs.declared.cell.Cell.TheVariants.{Absent}
use Rattle.luflow.specs.declared.data.Status.TheVariants as status
use Rattle.lueval_lines.specs.Cells.{statuses}
use Rattle.luflow.specs.Program.{flows_of, IsOrdered}
use Rattle.luworld.proofs.Cursor.{before_start}
use Rattle.luworld.specs.Needs.{PlanView}
use Rattle.luworld.specs.Jobs.{knows, link_into, streams_of, items_before}
use Rattle.std.specs.Prelude.{slice_get, ◌||◌, is_some}
use Rattle.std.specs.Option.{option_map}
use Rattle.luflow.proofs.Solutions.{some_at}
use Rattle.lusite_program.specs.Logs.{IsLogged, log_view, logs_in}
use Rattle.lusite_program.proofs.OutputLogs.{logs_row}
use Rattle.lusite_program.specs.Spread.{put_at}
use Rattle.lusite.specs.Machine.{Stands, past_of, pasts_in, shown_in, kept_in}
use Rattle.lusite_program.proofs.Spread.{put_none}
use Rattle.lusite.proofs.Held.{new_statuses, new_pasts}
use Rattle.lusite_program.specs.Programs.{part_of, places_of, rank_at}
use Rattle.lusite.proofs.Skips.{stands_skip, before_skip, logged_skip}
use Rattle.lusite_program.proofs.Ranks.{places_has}
use Rattle.lusite.proofs.Moves.{start_next}
use Rattle.lusite.proofs.Starts.{stands_start}
use Rattle.lusite.proofs.Reported.{logged_new, none_yet, wanted_known}
use Rattle.lusite.proofs.Machine.{there}
use Rattle.lusite.proofs.site.begun.Goals as goal

pub settle-local-requires : goal.settle-local-requires
settle-local-requires c =
    let job = c.args.inputs.job in
    let s = c.args.inputs.site in
    let p = c.args.program in
    let e = c.requires in
    let n : flows_of p.plan.flat ≡ flows_of job.plan.flat = ap (λ (q : PlanView). flows_of q.flat) e.plan_is in
    let places = places_of p.plan p.site in
    let m = length places in
    let held = c.args.held in
    let es : held.shown.items ≡ replicate m Absent = e.shown in
    let el : held.lasts.items ≡ replicate m Absent = e.lasts in
    let en : held.counts.items ≡ replicate m 0 = e.counts in
    let shown = shown_in p held.shown.items in
    let pasts = kept_in p held.lasts.items held.counts.items in
    let none = past_of Absent 0 in
    let st = stands_start job s shown pasts
    (ap (λ xs. put_at (replicate (flows_of p.plan.flat) status.Absent) places xs) (ap statuses es ∙ new_statuses m) ∙ put_none (flows_of p.plan.flat) status.Absent places m ∙ ap (λ k. replicate k status.Absent) n)
    (ap (λ xs. put_at (replicate (flows_of p.plan.flat) none) places xs) (ap₂ pasts_in el en ∙ new_pasts m) ∙ put_none (flows_of p.plan.flat) none places m ∙ ap (λ k. replicate k none) n) in
    let at = start_next p job s e.plan_is e.site_is in
    let ok = e.job in
    let logs = held.logs.items in
    let ordered = subst (λ (q : PlanView). IsOrdered q.flat) (sym e.plan_is) ok.is_plan.ordered in
    record {
      in_order = record {
        set = record {
          is_job = ok;
          plan_is = e.plan_is;
          site_is = e.site_is;
          rank_is = c.of-place.ensures ∙ c.rank-rank.ensures;
          kept_are = e.kept;
          shown_fit = ap length es ∙ length-replicate m Absent;
          lasts_fit = ap length el ∙ length-replicate m Absent;
          pasts_fit = ap length el ∙ length-replicate m Absent ∙ sym (ap length en ∙ length-replicate m 0);
          logs_fit = e.len;
          row_in = omega arith;
        };
        stands = subst (λ (r : ℕ). Stands job s shown pasts 0 r 0 false) (sym (c.of-place.ensures ∙ c.rank-rank.ensures))
            (stands_skip job s ok shown pasts 0 0 (rank_at p 0) st (omega arith) at.0 at.1);
        logged = none_yet job s (logs_in p logs) 0 c.of-place.result.value true
            (subst (λ (r : ℕ). IsLogged job s (logs_in p logs) 0 r) (sym (c.of-place.ensures ∙ c.rank-rank.ensures))
            (logged_skip job s ok (logs_in p logs) 0 0 (rank_at p 0) (omega arith) at.1
            (logged_new job s (logs_in p logs) (λ q lq. (there job s ok q lq).2)
            (λ i li wanted.
            let known : knows p.plan p.site i ≡ true = ap₂ (λ q k. knows q k i) e.plan_is e.site_is ∙ ap (λ b. b || is_some (link_into job.plan s i)) (wanted_known job s i ok li wanted) in
            let w = places_has p ordered i (subst (λ (q : PlanView). i < flows_of q.flat) (sym e.plan_is) li) known in
            let here : slice_get places w.0 ≡ Some i = slice_get-get_or places w.0 0 w.1 ∙ ap Some w.2 in
            let y = some_at logs w.0 (let k = e.len in let l = w.1 in omega (arith, l, k)) in
            let reported = ap₂ (λ q k. (part_of q k i).reported) e.plan_is e.site_is ∙ wanted in
            let new = e.each w.0 i here y.0 y.1 in
            (log_view y.0, logs_row p logs ordered e.len w.0 i here ∙ slice_get-map log_view logs w.0 ∙ ap (option_map log_view) y.1, new.empty, let room = new.room reported in room)))));
      };
      going = refl;
    }

pub returns-clause-done : goal.returns-clause-done
returns-clause-done c =
    let job = c.args.inputs.job in
    let s = c.args.inputs.site in
    let at = start_next c.args.program job s c.requires.plan_is c.requires.site_is in
    let ok = c.requires.job in
    c.settle-local.ensures.done
    ∙ ap (λ p. items_before job (streams_of job) s 0 p 0) (c.of-place.ensures ∙ c.rank-rank.ensures)
    ∙ before_skip job s ok 0 0 (rank_at c.args.program 0) (omega arith) at.0 at.1
    ∙ before_start job (streams_of job) s
