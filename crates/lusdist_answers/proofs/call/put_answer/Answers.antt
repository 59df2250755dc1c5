use Rattle.std.proofs.Common.{ap, refl, subst, inl, inr, ℕ, List, ◌++◌, ◌∙◌}
use Rattle.std.specs.Prelude.{string_bytes, option_map, true}
use Rattle.std.specs.Io.KnownBytes.{Appends}
use Rattle.lusdist_shell.specs.Sinks.{HasPut, HasBeginning}
use Rattle.lusdist_call.specs.Files.{dump_path, writes_of, IsUnfiled}
use Rattle.lusdist_call.specs.Left.IsEnded.{answered, undumped, unwritten}
use Rattle.lusdist_call.specs.Left.IsDumpOf.{beside}
use Rattle.lusdist_answers.proofs.Ends.{unfiled_status}
use Rattle.lusdist_answers.proofs.call.put_answer.Goals as goal

pub returns-in-Ok : goal.returns-in-Ok
returns-in-Ok g c =
    let text = string_bytes c.args.reply.text in
    let notes = string_bytes c.args.reply.notes in
    let dump = option_map string_bytes c.args.reply.dump in
    let put = c.put_reply.ensures in
    let te = c.deref.ensures in
    let ne = c.deref-in-Ok.ensures in (
      writes_of (dump_path c.args.request) dump true,
      c.in-Ok.ensures.filed ∙ ap (λ p. g.D.Dumps.written c.args.dumps.now ++ writes_of p dump true) c.dump_path.ensures,
      elim put.status [
        | inl zero ↦ answered text notes c.args.reply.violated dump (c.printed_status.ensures.whole zero) c.requires refl (record {
          output = subst (λ (b : List ℕ). Appends (g.W.Write.contents c.args.out.now.writer) (g.W.Write.contents c.put_reply.new.out.writer) b) te (put.written zero);
          noted = subst (λ (b : List ℕ). HasPut g.V.Write.contents c.args.err.now c.put_reply.new.err b) ne (put.noted zero);
          silent = λ none. put.silent zero (ne ∙ none);
        })
        | inr three ↦ unwritten text notes c.args.reply.violated dump (c.printed_status.ensures.part three.0) c.requires refl (record { failed = three.1; error = put.line three.0 })
            (subst (λ (b : List ℕ). HasBeginning g.W.Write.contents c.args.out.now c.put_reply.new.out b) te put.beginning)
      ],
    )

pub returns : goal.returns
returns g c =
    let dump = option_map string_bytes c.args.reply.dump in
    let put = c.put_refusal.ensures in
    let e = c.in-Err.ensures.stopped in
    let stop = c.in-Err.stop in (
      e.0,
      e.1,
      undumped stop dump (put.status ∙ unfiled_status _ dump stop e.0 e.2) (beside (string_bytes c.args.reply.text) (string_bytes c.args.reply.notes) c.args.reply.violated c.requires)
          (subst (λ p. IsUnfiled p dump stop e.0) c.dump_path.ensures e.2) (record { error = put.put; kept = refl }),
    )
