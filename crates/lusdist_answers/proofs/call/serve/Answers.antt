use Rattle.std.proofs.Common.{[], append-nil, refl, sym, inl, inr}
use Rattle.clap.specs.Words.{kind_of}
use Rattle.lusdist_call.specs.Left.IsCallEnded.{helped, mistaken, no_memory, no_help}
use Rattle.lusdist_answers.proofs.Ends.{which, memory, help, mistake}
use Rattle.lusdist_answers.proofs.call.serve.Goals as goal

pub returns-in-Err-clause-ended : goal.returns-in-Err-clause-ended
returns-in-Err-clause-ended g c =
    let put = c.put_mistake.ensures in
    let kind = kind_of c.in-Err.mistake in (
      [],
      sym (append-nil _),
      elim c.in-Err.ensures.refused [
        | inl none ↦ let m = put.memory none in no_memory m.0 refl (record { error = m.2; kept = m.1 })
        | inr among ↦ elim (which kind) [
          | memory none ↦ let m = put.memory none in no_memory m.0 refl (record { error = m.2; kept = m.1 })
          | help asks ↦ elim (put.help asks) [
            | inl zero ↦ helped kind among asks zero.0 refl zero.1 (put.silent zero.0)
            | inr three ↦ no_help kind among asks three.0 refl (record { failed = three.1; error = three.2 })
          ]
          | mistake a b d ↦ mistaken kind among (λ asks. elim asks [ inl h ↦ b h | inr h ↦ d h ]) (put.other a b d) refl (put.kept b d)
        ]
      ],
    )
