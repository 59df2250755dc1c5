use Rattle.std.proofs.Common.{◌≡◌, ◌<◌, ℕ, refl, ap, ◌∙◌, sym, subst, arith}
use Rattle.std.specs.Prelude.{slice_index, not}
use Rattle.luflow.specs.declared.data.Status.TheVariants.{Absent}
use Rattle.luworld.specs.Jobs.{streams_of, items_before}
use Rattle.lusite.specs.Logs.{is_noted}
use Rattle.lusite_program.specs.Logs.{logs_in, IsLogged}
use Rattle.lusite.proofs.Reported.{none_yet, note_room, note_pass, absent_no, absent_is, absent_yes}
use Rattle.lusite.proofs.SiteStates.{going_state, pass_state}
use Rattle.lusite.proofs.Moves.{pass_next, logged_next, next_above}
use Rattle.lusite.proofs.Rows.{shown_set, left_same, log_within, log_room, log_noted}
use Rattle.lusite.specs.Machine.{Stands, is_faulted, shown_in, pasts_of}
use Rattle.lusite.proofs.state.SiteState.pass.Goals as goal

pub clear-requires : goal.clear-requires
clear-requires c = let r = c.requires in omega (arith, r.row, r.going.in_order.set.shown_fit)

pub returns-clause-less : goal.returns-clause-less
returns-clause-less c =
    let a = c.args.self.now in
    let above = next_above a c.requires.going.in_order.set c.requires.row in
    omega (arith, above, (c.of.ensures ∙ c.rank-rank.ensures), c.requires.within)

pub returns-clause-done : goal.returns-clause-done
returns-clause-done c =
    let a = c.args.self.now in
    let g = going_state a c.requires.going in
    ap (λ p. items_before a.inputs.job (streams_of a.inputs.job) a.inputs.site a.instant p 0) (c.of.ensures ∙ c.rank-rank.ensures)
    ∙ (pass_next a g c.requires.row (shown_in a.program c.clear.new.shown.items) c.requires.all (λ e. shown_set a c.requires.going.in_order.set c.requires.row c.clear.new.shown.items Absent (c.clear.ensures.cleared e)) (λ l. left_same a c.clear.new.shown.items (c.clear.ensures.left l))).1

pub note-requires-clause-within : goal.note-requires-clause-within
note-requires-clause-within c _ = log_within c.args.self.now c.requires.going.in_order.set c.requires.row

pub note-requires-clause-room : goal.note-requires-clause-room
note-requires-clause-room c on =
    let a = c.args.self.now in
    let g = going_state a c.requires.going in
    let i = slice_index a.program.plan.flat.order a.place.value in
    let y = absent_yes a.step (is_noted a i) c.absent_noted-wanted.result c.absent_noted-wanted.ensures on in
    log_room a c.requires.going.in_order.set c.requires.row (note_room a g c.requires.within c.requires.going.in_order.logged y.0 y.1).1

pub returns-clause-goes_on : goal.returns-clause-goes_on
returns-clause-goes_on c =
    let a = c.args.self.now in
    let on = c.requires.going in
    let g = going_state a on in
    let set = on.in_order.set in
    let logged = on.in_order.logged in
    let i = slice_index a.program.plan.flat.order a.place.value in
    let w = c.absent_noted-wanted.ensures in
    let r = c.absent_noted-wanted.result in
    let shown = shown_in a.program c.clear.new.shown.items in
    let cleared = λ (e : a.step ≡ 0). shown_set a set c.requires.row c.clear.new.shown.items Absent (c.clear.ensures.cleared e) in
    let left = λ (l : 0 < a.step). left_same a c.clear.new.shown.items (c.clear.ensures.left l) in
    let st = (pass_state a shown g c.requires.within c.requires.all cleared left).0 in
    let logs = c.note.new.logs.items in
    let kept = λ (e : logs ≡ a.logs.items). ap (logs_in a.program) e in
    let n = note_pass a g c.requires.within logged shown (logs_in a.program logs) (is_faulted a) st cleared
    (λ some. kept (c.note.ensures.left (absent_no a.step (is_noted a i) r w some)))
    (λ z off. kept (c.note.ensures.left (absent_is a.step (is_noted a i) r w z ∙ off)))
    (λ z on. log_noted a set c.requires.row logs Absent (λ x ex. c.note.ensures.noted (absent_is a.step (is_noted a i) r w z ∙ on) x ex)) in
    record {
      same = record { program_is = refl; inputs_is = refl };
      in_order = record {
        set = record {
          is_job = set.is_job;
          plan_is = set.plan_is;
          site_is = set.site_is;
          rank_is = c.of.ensures ∙ c.rank-rank.ensures;
          kept_are = set.kept_are;
          shown_fit = c.clear.ensures.len ∙ set.shown_fit;
          lasts_fit = set.lasts_fit;
          pasts_fit = set.pasts_fit;
          logs_fit = c.note.ensures.len ∙ set.logs_fit;
          row_in = let l = c.requires.row in omega (arith, l);
        };
        stands = subst (λ (p : ℕ). Stands a.inputs.job a.inputs.site shown (pasts_of a) a.instant p 0 (is_faulted a)) (sym (c.of.ensures ∙ c.rank-rank.ensures))
            (pass_next a g c.requires.row shown c.requires.all cleared left).0;
        logged = none_yet a.inputs.job a.inputs.site (logs_in a.program logs) a.instant c.of.result.value (not (is_faulted a))
            (subst (λ (p : ℕ). IsLogged a.inputs.job a.inputs.site (logs_in a.program logs) a.instant p) (sym (c.of.ensures ∙ c.rank-rank.ensures)) (logged_next a g c.requires.row (logs_in a.program logs) n));
      };
      fault = refl;
    }

pub returns-clause-shown : goal.returns-clause-shown
returns-clause-shown c some = left_same c.args.self.now c.clear.new.shown.items (c.clear.ensures.left some)
