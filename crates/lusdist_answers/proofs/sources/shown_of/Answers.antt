use Rattle.std.proofs.Common.{inl, inr, subst}
use Rattle.std.proofs.lemmas.Result.{err_from_is_err_and}
use Rattle.lutree.specs.declared.program.Program.{Program}
use Rattle.lutree.specs.Places.{places_view}
use Rattle.lutree.specs.Tree.{program_view}
use Rattle.lusdist_call.specs.Shown.{IsListOf}
use Rattle.lusdist_call.specs.Stopped.HasNoFlat.{unspelled, unruled}
use Rattle.lusdist_answers.proofs.sources.shown_of.Goals as goal

pub returns-clause-shown : goal.returns-clause-shown
returns-clause-shown c =
    let same = c.in_ok-checked.ensures.program in
    record {
      has = record { tree = program_view c.in_ok-program.program; spelled = c.in_ok-program.ensures.spelled; flat_is = c.in_ok-checked.ensures.flat };
      list_of = subst (λ (q : Program). IsListOf c.args.request (program_view q) c.in_ok-checked.flat c.in_ok-list.list.items) same c.in_ok-list.ensures.list;
    }

pub returns-in_err-program-clause-refused : goal.returns-in_err-program-clause-refused
returns-in_err-program-clause-refused c =
    let p = err_from_is_err_and c.from_residual.result c.from_residual.ensures.1 in
    rw (p.1, p.2) (inr (unspelled c.in_err-program.ensures.refused))

pub returns-in_err-checked-clause-refused : goal.returns-in_err-checked-clause-refused
returns-in_err-checked-clause-refused c =
    let p = err_from_is_err_and c.from_residual-in_err-checked.result c.from_residual-in_err-checked.ensures.1 in
    rw (p.1, p.2) (inr (unruled (program_view c.in_ok-program.program) (places_view c.in_ok-program.program) c.in_ok-program.ensures.spelled c.in_ok-program.ensures.places c.in_err-checked.ensures.reported))

pub returns-in_err-list-clause-refused : goal.returns-in_err-list-clause-refused
returns-in_err-list-clause-refused c =
    let p = err_from_is_err_and c.from_residual-in_err-list.result c.from_residual-in_err-list.ensures.1 in
    rw (p.1, p.2) (inl c.in_err-list.ensures.memory)
