use Rattle.std.proofs.Common.{ap, refl, subst, ◌++◌, ◌∙◌}
use Rattle.std.specs.Prelude.{string_bytes, option_map, true}
use Rattle.lusdist_call.specs.Files.{dump_path, writes_of, IsUnfiled}
use Rattle.lusdist_call.specs.Left.IsEnded.{refused, undumped}
use Rattle.lusdist_call.specs.Left.IsDumpOf.{before}
use Rattle.lusdist_answers.proofs.Ends.{unfiled_status}
use Rattle.lusdist_answers.proofs.call.put_stop.Goals as goal

pub returns-in-Ok : goal.returns-in-Ok
returns-in-Ok g c =
    let dump = option_map string_bytes c.args.refusal.dump in
    let put = c.put_refusal.ensures in (
      writes_of (dump_path c.args.request) dump true,
      c.in-Ok.ensures.filed ∙ ap (λ p. g.D.Dumps.written c.args.dumps.now ++ writes_of p dump true) c.dump_path.ensures,
      λ held. refused c.args.refusal.error dump put.status c.requires.stops c.requires.leaves refl (record { error = put.put; kept = refl }),
    )

pub returns-in-Err : goal.returns-in-Err
returns-in-Err g c =
    let dump = option_map string_bytes c.args.refusal.dump in
    let put = c.put_refusal-in-Err.ensures in
    let e = c.in-Err.ensures.stopped in
    let stop = c.in-Err.stop in (
      e.0,
      e.1,
      λ held. undumped stop dump (put.status ∙ unfiled_status _ dump stop e.0 e.2) (before c.args.refusal.error c.requires.stops c.requires.leaves)
          (subst (λ p. IsUnfiled p dump stop e.0) c.dump_path.ensures e.2) (record { error = put.put; kept = refl }),
    )
