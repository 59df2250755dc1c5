use Rattle.std.proofs.Common.{◌≡◌, ◌⊎◌, ℕ, List, Bool, length, ap, sym, ◌∙◌, subst}
use Rattle.std.specs.Prelude.{Contains}
use Rattle.luflow.specs.Program.{FlatView}
use Rattle.luplace.specs.Ways.{IsSent, IsInitialised, IsSentNil, AreAll}
use Rattle.luplace.specs.Nils.{AreLeast}
use Rattle.luplace.specs.Sent.{marked, AreSentNils}
use Rattle.luplace.proofs.Ending.{nils_all, nils_others}
use Rattle.luplace.proofs.way.nils_of.Goals as goal

module _ (c : goal.After-drop-nils-2) where
  listed : c.in_ok-marked.field-0.items ≡ marked c.in_ok-marks.marks.items 0 (length c.args.plan.now.flat.variables)
  listed =
      c.in_ok-marked.ensures
      ∙ ap (λ (ms : List Bool). marked ms 0 (length c.variables-variables.result.now)) c.as_slice-2.ensures.value
      ∙ ap (λ (n : ℕ). marked c.in_ok-marks.marks.items 0 n) (ap length c.variables-variables.ensures ∙ ap (λ (f : FlatView). length f.variables) c.flat-flat.ensures.flat)

  least : AreLeast c.args.plan.now.flat c.in_ok-nils.nils.items
  least = subst (λ (f : FlatView). AreLeast f c.in_ok-nils.nils.items) c.flat-flat.ensures.flat c.in_ok-nils.ensures

  reported : AreSentNils c.args.plan.now c.in_ok-nils.nils.items (length c.args.plan.now.links) c.in_ok-marks.marks.items
  reported = subst (λ (ns : List Bool). AreSentNils c.args.plan.now ns (length c.args.plan.now.links) c.in_ok-marks.marks.items) c.as_slice.ensures.value c.in_ok-marks.ensures

pub returns-clause-all : goal.returns-clause-all
returns-clause-all c =
    subst (AreAll (IsSentNil c.args.plan.now)) (sym (listed c))
    (nils_all c.args.plan.now c.flat-flat.ensures.plan c.in_ok-nils.nils.items c.in_ok-marks.marks.items (least c) (reported c))

pub returns-clause-others : goal.returns-clause-others
returns-clause-others c =
    subst (λ (vs : List ℕ). (v : ℕ) → IsSent c.args.plan.now v → Contains vs v ⊎ IsInitialised c.args.plan.now.flat v) (sym (listed c))
    (nils_others c.args.plan.now c.flat-flat.ensures.plan c.in_ok-nils.nils.items c.in_ok-marks.marks.items (least c) (reported c))
