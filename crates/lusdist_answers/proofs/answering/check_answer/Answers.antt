use Rattle.std.proofs.Common.{Some, List, ℕ, String, Global, ap, sym, subst, ◌∙◌, option_map, string_bytes}
use Rattle.lusyn.specs.Places.{ArePlacesOf}
use Rattle.lusyn.specs.Texts.{IsReadBack, SpellsText}
use Rattle.lusdist_call.specs.Answers.{AreCheckNotes}
use Rattle.lutree.specs.Places.{places_view}
use Rattle.lutree.specs.Tree.{program_view}
use Rattle.std.proofs.lemmas.Result.{err_from_is_err_and}
use Rattle.lusdist_call.specs.Stopped.HasNoFlat.{unspelled, unruled}
use Rattle.lusdist_call.specs.Stopped.StopsAtProgram.{program_unread, program_refused}
use Rattle.lusdist_call.specs.Stopped.IsCheckStopped.{check_program}
use Rattle.lusdist_answers.proofs.answering.check_answer.Goals as goal

pub returns-clause-reply : goal.returns-clause-reply
returns-clause-reply g c =
    let gives = g.F.Files.gives c.args.files.now in
    let made = c.noted.ensures in (
      record {
        program = c.deref.result.now;
        tree = program_view c.in_ok-program.program;
        program_given = subst (λ (b : List ℕ). gives c.args.request.program.now (Some b)) (sym c.deref.ensures.value) c.in_ok-bytes.ensures.given;
        spelled = c.in_ok-program.ensures.spelled;
        flat = c.in_ok-_flat._flat;
        flat_is = c.in_ok-_flat.ensures.flat;
        text_is = ap string_bytes made.text ∙ c.in_ok-text.ensures.canonical;
        again = subst (λ (t : String Global). IsReadBack (string_bytes t) (program_view c.in_ok-program.program)) (sym made.text) c.in_ok-text.ensures.again;
        notes_are = subst (λ (t : String Global). AreCheckNotes c.args.request c.deref.result.now (string_bytes t)) (sym made.notes) (subst (λ (b : List ℕ). AreCheckNotes c.args.request b (string_bytes c.in_ok-notes.notes)) (c.deref-2.ensures.value ∙ sym c.deref.ensures.value) c.in_ok-notes.ensures);
      },
      (made.violated, ap (option_map string_bytes) made.dump),
    )

pub returns-in_err-program-clause-stopped : goal.returns-in_err-program-clause-stopped
returns-in_err-program-clause-stopped g c =
    let p = err_from_is_err_and c.from_residual-in_err-program.result c.from_residual-in_err-program.ensures.1 in
    let gives = g.F.Files.gives c.args.files.now in
    rw (p.1, p.2) (check_program (program_refused c.deref.result.now (subst (λ (b : List ℕ). gives c.args.request.program.now (Some b)) (sym c.deref.ensures.value) c.in_ok-bytes.ensures.given) (unspelled c.in_err-program.ensures.refused)))

pub returns-in_err-_flat-clause-stopped : goal.returns-in_err-_flat-clause-stopped
returns-in_err-_flat-clause-stopped g c =
    let p = err_from_is_err_and c.from_residual-in_err-_flat.result c.from_residual-in_err-_flat.ensures.1 in
    let gives = g.F.Files.gives c.args.files.now in
    rw (p.1, p.2) (check_program (program_refused c.deref.result.now (subst (λ (b : List ℕ). gives c.args.request.program.now (Some b)) (sym c.deref.ensures.value) c.in_ok-bytes.ensures.given) (unruled (program_view c.in_ok-program.program) (places_view c.in_ok-program.program) c.in_ok-program.ensures.spelled c.in_ok-program.ensures.places c.in_err-_flat.ensures.reported)))

pub returns-in_err-bytes-clause-stopped : goal.returns-in_err-bytes-clause-stopped
returns-in_err-bytes-clause-stopped g c =
    let p = err_from_is_err_and c.from_residual.result c.from_residual.ensures.1 in
    rw (p.1, p.2) (check_program (program_unread c.in_err-bytes.ensures.unread))

pub check_notes-requires-clause-spelled : goal.check_notes-requires-clause-spelled
check_notes-requires-clause-spelled g c = subst (λ (b : List ℕ). SpellsText b (program_view c.in_ok-program.program)) (c.deref.ensures.value ∙ sym c.deref-2.ensures.value) c.in_ok-program.ensures.spelled

pub check_notes-requires-clause-places : goal.check_notes-requires-clause-places
check_notes-requires-clause-places g c = subst (λ (b : List ℕ). ArePlacesOf b (places_view c.in_ok-program.program)) (c.deref.ensures.value ∙ sym c.deref-2.ensures.value) c.in_ok-program.ensures.places
