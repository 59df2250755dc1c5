use Rattle.std.proofs.Common.{map, [], append-nil, refl, sym, subst, ◌∙◌, inl, inr, arith}
use Rattle.std.specs.Prelude.{string_bytes}
use Rattle.lusdist_shell.specs.Request.{IsFoundIn}
use Rattle.lusdist_call.specs.Left.IsCallEnded.{asked}
use Rattle.lusdist_answers.proofs.Ends.{done, quiet, kept, reported, never_done, dump_ended, dump_status}
use Rattle.lusdist_answers.proofs.call.attend.Goals as goal

pub returns-in-None-clause-ended : goal.returns-in-None-clause-ended
returns-in-None-clause-ended g c = (c.perform.ensures.0, c.perform.ensures.1, asked c.request_in-request.result c.requires.faultless (subst (λ k. IsFoundIn k c.request_in-request.result) c.requires.matched c.request_in-request.ensures) (c.in-None.ensures.kept refl) c.perform.ensures.2)

pub returns-in-None-clause-done : goal.returns-in-None-clause-done
returns-in-None-clause-done g c = λ taken zero.
    done (g.F.Files.gives c.args.files.now) (map string_bytes c.args.words.now) c.request_in-request.result (subst (λ k. IsFoundIn k c.request_in-request.result) c.requires.matched c.request_in-request.ensures) c.perform.result c.perform.ensures.0 _ c.perform.ensures.2 zero

pub returns-in-None-clause-refused : goal.returns-in-None-clause-refused
returns-in-None-clause-refused g c = λ small.
    kept (g.F.Files.gives c.args.files.now) (map string_bytes c.args.words.now) c.request_in-request.result (subst (λ k. IsFoundIn k c.request_in-request.result) c.requires.matched c.request_in-request.ensures) c.perform.result c.perform.ensures.0 _ small c.perform.ensures.2

pub returns-in-None-clause-silent : goal.returns-in-None-clause-silent
returns-in-None-clause-silent g c = λ zero none.
    quiet (g.F.Files.gives c.args.files.now) (map string_bytes c.args.words.now) c.request_in-request.result (subst (λ k. IsFoundIn k c.request_in-request.result) c.requires.matched c.request_in-request.ensures) c.perform.result c.perform.ensures.0 _ none c.perform.ensures.2 zero

pub returns-in-None-clause-text : goal.returns-in-None-clause-text
returns-in-None-clause-text g c = λ one.
    reported (g.F.Files.gives c.args.files.now) (map string_bytes c.args.words.now) c.request_in-request.result (subst (λ k. IsFoundIn k c.request_in-request.result) c.requires.matched c.request_in-request.ensures) c.perform.result c.perform.ensures.0 _ 1 (inl refl) c.perform.ensures.2 one

pub returns-in-None-clause-file : goal.returns-in-None-clause-file
returns-in-None-clause-file g c = λ taken two.
    inl (reported (g.F.Files.gives c.args.files.now) (map string_bytes c.args.words.now) c.request_in-request.result (subst (λ k. IsFoundIn k c.request_in-request.result) c.requires.matched c.request_in-request.ensures) c.perform.result c.perform.ensures.0 _ 2 (inr refl) c.perform.ensures.2 two)

pub returns-in-Some-clause-ended : goal.returns-in-Some-clause-ended
returns-in-Some-clause-ended g c = (
  [],
  sym (append-nil _),
  dump_ended (g.F.Files.gives c.args.files.now) (record { same = g.D.Dumps.same c.args.dumps.now; shut = g.D.Dumps.shut c.args.dumps.now }) (map string_bytes c.args.words.now) c.request_in-request.result (subst (λ k. IsFoundIn k c.request_in-request.result) c.requires.matched c.request_in-request.ensures) _ c.put_line.result c.requires.faultless c.in-Some.stop c.in-Some.ensures.refused c.put_line.ensures.status (record { error = c.put_line.ensures.line; kept = refl }),
)

pub returns-in-Some-clause-done : goal.returns-in-Some-clause-done
returns-in-Some-clause-done g c = λ taken zero. absurd (never_done c.in-Some.stop (sym c.put_line.ensures.status ∙ zero))

pub returns-in-Some-clause-text : goal.returns-in-Some-clause-text
returns-in-Some-clause-text g c = λ one. elim (dump_status (g.F.Files.gives c.args.files.now) (record { same = g.D.Dumps.same c.args.dumps.now; shut = g.D.Dumps.shut c.args.dumps.now }) (map string_bytes c.args.words.now) c.request_in-request.result (subst (λ k. IsFoundIn k c.request_in-request.result) c.requires.matched c.request_in-request.ensures) c.in-Some.stop c.in-Some.ensures.refused) [
  | inl two ↦ absurd (omega (arith, two.0, c.put_line.ensures.status, one))
  | inr three ↦ absurd (omega (arith, three, c.put_line.ensures.status, one))
]

pub returns-in-Some-clause-file : goal.returns-in-Some-clause-file
returns-in-Some-clause-file g c = λ taken is. elim (dump_status (g.F.Files.gives c.args.files.now) (record { same = g.D.Dumps.same c.args.dumps.now; shut = g.D.Dumps.shut c.args.dumps.now }) (map string_bytes c.args.words.now) c.request_in-request.result (subst (λ k. IsFoundIn k c.request_in-request.result) c.requires.matched c.request_in-request.ensures) c.in-Some.stop c.in-Some.ensures.refused) [
  | inl two ↦ inr two.1
  | inr three ↦ absurd (omega (arith, three, c.put_line.ensures.status, is))
]

pub returns-in-Some-clause-silent : goal.returns-in-Some-clause-silent
returns-in-Some-clause-silent g c = λ zero none. absurd (never_done c.in-Some.stop (sym c.put_line.ensures.status ∙ zero))
