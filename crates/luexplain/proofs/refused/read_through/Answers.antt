use Rattle.std.proofs.Common.{◌≡◌, ◌⊎◌, true, false, sym, subst, ◌∙◌, inl, inr, arith}
use Rattle.luexplain.specs.Refusals.{AreNone, AreRefusalsOf}
use Rattle.luexplain.proofs.Readings.{turned, ended, unbegun}
use Rattle.luexplain.proofs.refused.read_through.Goals.{else-loop-turn-test, then-loop-turn-test+in_ok-push_next+then-not-branch}
use Rattle.luexplain.proofs.refused.read_through.Goals as goal

pub loop-turn-preserved : goal.loop-turn-preserved
loop-turn-preserved c = (
  c.push_next.ensures.long,
  elim c.in_ok-push_next.ensures.next [
    | inl none ↦ absurd (let clash : true ≡ false = sym c.if-not-branch.false ∙ none.1 in cc)
    | inr told ↦ inr (turned c.args.path.now c.args.text.now c.loop-turn.read.items c.loop-turn.found.items c.push_next.new.found.items (unbegun _ _ _ _ _ c.loop-turn.invariant.1) told)
  ],
)

pub returns : goal.returns
returns c = elim c.loop-turn-test.branch [
  | else-loop-turn-test w ↦ elim c.loop-turn.invariant.1 [
    | inl begun ↦ absurd (omega (arith, begun.0, w.loop-turn-test.false))
    | inr are ↦ inr (subst (λ v. AreRefusalsOf c.args.path.now c.args.text.now v.items) (sym w.found-is) are)
  ]
  | then-loop-turn-test+in_ok-push_next+then-not-branch w ↦
      let state = unbegun _ _ _ _ _ c.loop-turn.invariant.1 in
      let found : AreNone c.args.text.now w.push_next.new.found.items ⊎ AreRefusalsOf c.args.path.now c.args.text.now w.push_next.new.found.items = elim w.in_ok-push_next.ensures.next [
        | inl none ↦ ended c.args.path.now c.args.text.now c.loop-turn.read.items c.loop-turn.found.items w.push_next.new.found.items state none.0 none.2
        | inr told ↦ inr (turned c.args.path.now c.args.text.now c.loop-turn.read.items c.loop-turn.found.items w.push_next.new.found.items state told)
      ] in
      subst (λ v. AreNone c.args.text.now v.items ⊎ AreRefusalsOf c.args.path.now c.args.text.now v.items) (sym w.found-is) found
]
