use Rattle.std.proofs.Common.{◌<◌, ◌⊎◌, ℕ, List, length, sym, ◌∙◌, subst}
use Rattle.std.specs.Prelude.{Contains}
use Rattle.luplace.specs.Ways.{IsSent, IsInitialised, IsPartedVariable, IsSentNil, AreAll}
use Rattle.luplace.proofs.Ending.{none_listed, rows_from, some_from, none_from}
use Rattle.luplace.proofs.way.way_of.Goals as goal

pub returns-then-not-is_empty-2 : goal.returns-then-not-is_empty-2
returns-then-not-is_empty-2 c =
    let plan = c.args.plan.now in
    let vs = c.in_ok-nils.nils in
    let none = none_from c.in_ok-parted.parted.items c.in_ok-parted.parted.len c.in_ok-parted.parted.ok.0 (sym c.is_empty.ensures ∙ c.if-not-is_empty.false) in
    let some = some_from vs.items vs.len vs.ok.0 (sym c.is_empty-2.ensures ∙ c.if-not-is_empty-2.true) in
    let e = sym c.new-then-not-is_empty-2.ensures in (
      subst (λ (xs : List ℕ). 0 < length xs) e some,
      subst (AreAll (IsSentNil plan)) e c.in_ok-nils.ensures.all,
      none_listed plan c.recall_invariant.ensures.flat_is (subst (AreAll (IsPartedVariable plan)) none c.in_ok-parted.ensures),
    )

pub returns : goal.returns
returns c =
    let plan = c.args.plan.now in
    let vs = c.in_ok-nils.nils in
    let parted = c.in_ok-parted.parted in
    let none = none_from parted.items parted.len parted.ok.0 (sym c.is_empty.ensures ∙ c.if-not-is_empty.false) in
    let nils = none_from vs.items vs.len vs.ok.0 (sym c.is_empty-2.ensures ∙ c.if-not-is_empty-2.false) in
    rows_from plan c.recall_invariant.ensures.flat_is (subst (AreAll (IsPartedVariable plan)) none c.in_ok-parted.ensures)
    (subst (λ (xs : List ℕ). (v : ℕ) → IsSent plan v → Contains xs v ⊎ IsInitialised plan.flat v) nils c.in_ok-nils.ensures.others)
