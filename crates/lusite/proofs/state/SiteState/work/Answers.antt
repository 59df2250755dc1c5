use Rattle.std.proofs.Common.{◌≡◌, ◌<◌, Bool, List, map, set, refl, sym, ap, ◌∙◌, subst, rules, arith}
use Rattle.std.specs.Prelude.{slice_index, ◌&&◌}
use Rattle.std.proofs.lemmas.Bool.{lt-ltb}
use Rattle.lusite_program.specs.Programs.{part_at}
use Rattle.lusite.specs.declared.state.SiteState.{SiteState}
use Rattle.lusite.specs.Logs.{is_noted}
use Rattle.std.proofs.lemmas.Option.{same_Some}
use Rattle.luflow.specs.declared.data.Status.{Status}
use Rattle.luflow.specs.declared.data.Status.TheVariants.{Present}
use Rattle.luflow.specs.declared.form.Outcome.{Outcome}
use Rattle.luflow.specs.declared.form.Outcome.TheVariants.{Gives, Faults}
use Rattle.luflow.specs.Program.{flow_at}
use Rattle.luflow.specs.Values.{gives}
use Rattle.luworld.specs.Systems.{Compute}
use Rattle.lusite.specs.declared.next.Fault.{Fault}
use Rattle.lueval_lines.specs.Cells.{status_of, statuses}
use Rattle.lusite.specs.Machine.{Stands, Computes, IsFaultAt, is_faulted, pasts_of}
use Rattle.lusite_program.specs.Logs.{log_view, logs_in, IsNoted}
use Rattle.lusite.proofs.SiteStates.{going_state}
use Rattle.lusite.proofs.Held.{gives_datum}
use Rattle.lusite.proofs.SiteFlows.{row_within}
use Rattle.lusite.proofs.Rows.{shown_set, log_within, log_room, log_noted}
use Rattle.lusite.proofs.Reported.{note_room, note_here, noted_step, note_fault}
use Rattle.lusite.proofs.Turns.{here_from, work_own, work_at, work_gives, work_faults, work_fault, work_stuck, place_in_plan}
use Rattle.lusite.proofs.state.SiteState.work.Goals as goal

-- at an instant of the table what is reported is noted
noted_is : (a : SiteState) {b : Bool} → a.instant < a.inputs.job.inputs.instants → b ≡ (part_at a.program (slice_index a.program.plan.flat.order a.place.value)).reported → b ≡ is_noted a (slice_index a.program.plan.flat.order a.place.value)
noted_is a early e = e ∙ ap (λ x. x && (part_at a.program (slice_index a.program.plan.flat.order a.place.value)).reported) (sym (lt-ltb a.instant a.inputs.job.inputs.instants early))

pub show-requires : goal.show-requires
show-requires c =
    let a = c.args.self.now in
    let r = c.requires in
    let set = r.going.in_order.set in
    let l = row_within a set (here_from a (Compute r.next.0 r.next.1) (going_state a r.going) r.ready r.next.2).place_lt in
    omega (arith, l, set.shown_fit)

pub compute-answer-requires-clause-within : goal.compute-answer-requires-clause-within
compute-answer-requires-clause-within c =
    let a = c.args.self.now in
    let r = c.requires in
    let g = going_state a r.going in
    row_within a r.going.in_order.set (here_from a (Compute r.next.0 r.next.1) g r.ready r.next.2).place_lt

pub compute-answer-requires-clause-own : goal.compute-answer-requires-clause-own
compute-answer-requires-clause-own c =
    let r = c.requires in
    work_own c.args.self.now (going_state c.args.self.now r.going) r.ready r.next

pub site_flow-requires-clause-within : goal.site_flow-requires-clause-within
site_flow-requires-clause-within c =
    let a = c.args.self.now in
    let r = c.requires in
    let g = going_state a r.going in
    row_within a r.going.in_order.set (here_from a (Compute r.next.0 r.next.1) g r.ready r.next.2).place_lt

pub reported_here-wanted-requires-clause-within : goal.reported_here-wanted-requires-clause-within
reported_here-wanted-requires-clause-within c =
    let a = c.args.self.now in
    let r = c.requires in
    let g = going_state a r.going in
    row_within a r.going.in_order.set (here_from a (Compute r.next.0 r.next.1) g r.ready r.next.2).place_lt

pub note_cell-requires-clause-within : goal.note_cell-requires-clause-within
note_cell-requires-clause-within c _ =
    let a = c.args.self.now in
    let r = c.requires in
    log_within a r.going.in_order.set (row_within a r.going.in_order.set (here_from a (Compute r.next.0 r.next.1) (going_state a r.going) r.ready r.next.2).place_lt)

pub note_cell-requires-clause-room : goal.note_cell-requires-clause-room
note_cell-requires-clause-room c on =
    let a = c.args.self.now in
    let r = c.requires in
    let g = going_state a r.going in
    let i = slice_index a.program.plan.flat.order a.place.value in
    let is : Outcome → Type 0 = Computes a i (flow_at a.program.plan.flat i) in
    let go = gives_datum c.in-Gives.cell (λ e. work_stuck a g r.ready r.next (subst is e c.in-Gives.ensures)) in
    let d = go.0 in
    let computes : is (Gives d) = subst is (ap gives go.1) c.in-Gives.ensures in
    let w = work_at a (Gives d) g r.ready r.next computes in
    log_room a r.going.in_order.set (row_within a r.going.in_order.set w.0) (note_room a g (place_in_plan a g w.0) r.going.in_order.logged w.1.first (sym (noted_is a w.1.early c.reported_here-wanted.ensures) ∙ on)).1

pub unreachable-requires : goal.unreachable-requires
unreachable-requires c =
    let a = c.args.self.now in
    let r = c.requires in
    work_stuck a (going_state a r.going) r.ready r.next c.in-Stuck.ensures

pub returns-in-Gives-clause-in_order : goal.returns-in-Gives-clause-in_order
returns-in-Gives-clause-in_order c =
    let a = c.args.self.now in
    let r = c.requires in
    let g = going_state a r.going in
    let fits = r.going.in_order.set in
    let i = slice_index a.program.plan.flat.order a.place.value in
    let is : Outcome → Type 0 = Computes a i (flow_at a.program.plan.flat i) in
    let go = gives_datum c.in-Gives.cell (λ e. work_stuck a g r.ready r.next (subst is e c.in-Gives.ensures)) in
    let d = go.0 in
    let computes : is (Gives d) = subst is (ap gives go.1) c.in-Gives.ensures in
    let w = work_at a (Gives d) g r.ready r.next computes in
    let l = row_within a fits w.0 in
    let shows = shown_set a fits l c.show.new.shown.items (Present d) (c.show.ensures.shown ∙ ap (λ (s : Status). set (statuses a.shown.items) a.row s) go.2) in
    let e = noted_is a w.1.early c.reported_here-wanted.ensures in
    let reported : status_of c.in-Gives.cell ≡ Present d = go.2 in
    let logs = c.note_cell.new.logs.items in
    record {
      set = record {
        is_job = fits.is_job;
        plan_is = fits.plan_is;
        site_is = fits.site_is;
        rank_is = fits.rank_is;
        kept_are = fits.kept_are;
        shown_fit = c.show.ensures.len ∙ fits.shown_fit;
        lasts_fit = fits.lasts_fit;
        pasts_fit = fits.pasts_fit;
        logs_fit = c.note_cell.ensures.len ∙ fits.logs_fit;
        row_in = fits.row_in;
      };
      stands = subst (λ (xs : List Status). Stands a.inputs.job a.inputs.site xs (pasts_of a) a.instant a.place.value 1 (is_faulted a)) (sym shows)
          (work_gives a d g r.ready r.next computes).0;
      logged = noted_step a (logs_in a.program logs) g
          (note_here a g (place_in_plan a g w.0) r.going.in_order.logged (Present d) (logs_in a.program logs) w.1.first (λ off. ap (logs_in a.program) (c.note_cell.ensures.left (e ∙ off))) (λ _. w.1.works.mark)
          (λ on. log_noted a fits l logs (Present d) (λ x ex. subst (λ (s : Status). IsNoted (map log_view a.logs.items) a.row (log_view x) s (map log_view logs)) reported (c.note_cell.ensures.noted (e ∙ on) x ex))));
    }

pub returns-in-Gives-clause-done : goal.returns-in-Gives-clause-done
returns-in-Gives-clause-done c =
    let a = c.args.self.now in
    let r = c.requires in
    let g = going_state a r.going in
    let i = slice_index a.program.plan.flat.order a.place.value in
    let is : Outcome → Type 0 = Computes a i (flow_at a.program.plan.flat i) in
    let go = gives_datum c.in-Gives.cell (λ e. work_stuck a g r.ready r.next (subst is e c.in-Gives.ensures)) in
    let d = go.0 in
    let computes : is (Gives d) = subst is (ap gives go.1) c.in-Gives.ensures in
    (work_gives a d g r.ready r.next computes).1

pub returns-in-Faults-clause-in_order : goal.returns-in-Faults-clause-in_order
returns-in-Faults-clause-in_order c =
    let a = c.args.self.now in
    let r = c.requires in
    let g = going_state a r.going in
    let k = c.in-Faults.kind in
    let w = work_at a (Faults k) g r.ready r.next c.in-Faults.ensures in
    record {
      set = search rules;
      stands = (work_faults a k g r.ready r.next c.in-Faults.ensures).0;
      logged = note_fault a r.going.in_order.logged w.1.first;
    }

pub returns-in-Faults-clause-done : goal.returns-in-Faults-clause-done
returns-in-Faults-clause-done c =
    let a = c.args.self.now in
    let r = c.requires in
    let k = c.in-Faults.kind in
    (work_faults a k (going_state a r.going) r.ready r.next c.in-Faults.ensures).1

pub returns-in-Faults-clause-tells : goal.returns-in-Faults-clause-tells
returns-in-Faults-clause-tells c fault e =
    let a = c.args.self.now in
    let r = c.requires in
    let k = c.in-Faults.kind in
    let reported : Fault = record { variable = c.site_flow.result.now.owner; instant = a.instant; kind = k } in
    subst (λ (f : Fault). IsFaultAt a.inputs.job a.inputs.site f) (same_Some reported fault e)
    (work_fault a reported (going_state a r.going) r.ready r.next c.in-Faults.ensures c.site_flow.ensures.2.owner refl)

pub returns-in-Gives-clause-early : goal.returns-in-Gives-clause-early
returns-in-Gives-clause-early c _ =
    let a = c.args.self.now in
    let r = c.requires in
    let g = going_state a r.going in
    let i = slice_index a.program.plan.flat.order a.place.value in
    let is : Outcome → Type 0 = Computes a i (flow_at a.program.plan.flat i) in
    let go = gives_datum c.in-Gives.cell (λ e. work_stuck a g r.ready r.next (subst is e c.in-Gives.ensures)) in
    let computes : is (Gives go.0) = subst is (ap gives go.1) c.in-Gives.ensures in
    (work_at a (Gives go.0) g r.ready r.next computes).1.early
