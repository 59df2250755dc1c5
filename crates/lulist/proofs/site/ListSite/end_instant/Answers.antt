use Rattle.std.proofs.Common.{ℕ, ◌+◌, List, length, map, refl, subst}
use Rattle.lueval_lines.specs.declared.cell.Cell.{Cell}
use Rattle.lusite_program.specs.Logs.{log_view}
use Rattle.lulist.specs.Turns.{AreAged, AreNotedTo}
use Rattle.lulist.proofs.Instants.{going_tick}
use Rattle.lulist.proofs.site.ListSite.end_instant.Goals as goal

pub returns-clause-going : goal.returns-clause-going
returns-clause-going c =
    let x = c.args.self.now in
    let logs' = c.note_all.new.logs in
    let lasts' = c.age_all.new.lasts in
    let noted : AreNotedTo x.noted.items x.shown.items (map log_view x.logs.items) (map log_view logs'.items) (length x.noted.items) =
    subst (λ (xs : List ℕ). AreNotedTo xs x.shown.items (map log_view x.logs.items) (map log_view logs'.items) (length xs)) c.deref.ensures.value
    (subst (λ (ys : List Cell). AreNotedTo c.deref.result.now ys (map log_view x.logs.items) (map log_view logs'.items) (length c.deref.result.now)) c.deref-2.ensures.value (c.note_all.ensures c.if-not-note_all.false)) in
    let aged : AreAged x.flows.kept.items x.shown.items x.lasts.items lasts'.items =
    subst (λ (xs : List ℕ). AreAged xs x.shown.items x.lasts.items lasts'.items) c.deref-3.ensures.value
    (subst (λ (ys : List Cell). AreAged c.deref-3.result.now ys x.lasts.items lasts'.items) c.deref-4.ensures.value c.age_all.ensures.aged) in
    going_tick x c.requires.going c.requires.early c.requires.all lasts' logs' (x.t + 1) refl aged c.age_all.ensures.len noted
