use Rattle.std.proofs.Common.{◌≡◌, ◌++◌, ◌∷◌, [], ◌<◌, inl, inr, sym, subst, ◌∙◌, arith, Contains}
use Rattle.std.proofs.lemmas.List.Elements.{Contains-append_left, Contains-append_cases}
use Rattle.lubase.specs.Grouped.{IsRising}
use Rattle.lubase.proofs.Bounds.{rising_front, kept_front}
use Rattle.lubase.proofs.groups.cut.Goals as goal

pub returns-then-last-low-clause-kept : goal.returns-then-last-low-clause-kept
returns-then-last-low-clause-kept c b found le =
    let back : c.push.new.self.items ≡ c.loop-last.bounds.items = c.in_ok-push.ensures.items ∙ sym c.in-Some.ensures.items in
    subst (λ xs. Contains xs b) (sym back) (c.loop-last.invariant.kept b found le)

pub loop-last-preserved : goal.loop-last-preserved
loop-last-preserved c =
    let rest = c.pop.new.self.items in
    let e : c.loop-last.bounds.items ≡ rest ++ c.in-Some.last ∷ [] = c.in-Some.ensures.items in
    let less : c.args.low < c.in-Some.last = omega (arith, c.if-last-low.false) in
    record {
      rising = rising_front rest c.in-Some.last (subst IsRising e c.loop-last.invariant.rising);
      fewer = λ b found. c.loop-last.invariant.fewer b (subst (λ xs. Contains xs b) (sym e) (Contains-append_left rest (c.in-Some.last ∷ []) b found));
      kept = λ b found le. kept_front rest c.in-Some.last c.args.low b (subst (λ xs. Contains xs b) e (c.loop-last.invariant.kept b found le)) le less;
    }

pub returns-clause-kept : goal.returns-clause-kept
returns-clause-kept c b found le =
    let e : c.loop-last.bounds.items ≡ c.pop.new.self.items ++ [] = c.in_default.ensures.items in
    elim (Contains-append_cases c.pop.new.self.items [] b (subst (λ xs. Contains xs b) e (c.loop-last.invariant.kept b found le))) [ inl h ↦ h | inr h ↦ absurd (omega (arith, h.1)) ]
