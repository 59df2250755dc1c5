-- The flat list of an accepted program is sound.
use Rattle.std.proofs.Common.{◌≡◌, ℕ, Bool, true, false, List, [], ◌∷◌, length, sym, ap, ◌∙◌, subst}
use Rattle.std.specs.Prelude.{slice_get}
use Rattle.lutree.specs.declared.program.Kind.{Kind}
use Rattle.lutree.specs.Tree.{DeclarationTree}
use Rattle.luflow.specs.declared.data.Datum.{Datum}
use Rattle.luflow.specs.declared.form.Clock.{Clock}
use Rattle.luflow.specs.declared.form.Clock.TheVariants.{Base, On as Sampled}
use Rattle.luflow.specs.declared.form.Form.{Form}
use Rattle.luflow.specs.declared.form.Form.TheVariants.{Input, Constant, Copied, Unary, Binary, If, Pre, Arrow, When, Current, Merge}
use Rattle.luflow.specs.Program.{FlatView}
use Rattle.luflow.specs.Sound.{IsOn, clock_values, BeginsWith, BranchesFit, FormFits, ClockFits}
use Rattle.lucore_laws.specs.Layout.{list_of}
use Rattle.lucore_laws.proofs.Names.{listed}
use Rattle.lucore_laws.proofs.Facts.{facts, never_round}
use Rattle.lucore_laws.specs.SoundLaws.{SoundLaw}
use Rattle.lucore_laws.proofs.Fitting.{On, Begins, BranchesSound, FormSound, ClockSound}
use Rattle.lucore_laws.proofs.SoundWalks.{class_in, OpenSound}
use Rattle.lucore_laws.proofs.Ruling.{ruling}
use Rattle.lucore_laws.proofs.SoundNodes.{lists_sound}
use Rattle.lucore_laws.proofs.Roles.{output_at}

module _ (flat : FlatView) (ins : List DeclarationTree) (class : ℕ → Bool) where
  is_on : (k : Clock) (s : Kind) (r : ℕ) → On flat.flows k s r → IsOn flat k s r
  is_on k s r o = record { form = o.form; there = o.there }

  begins_with : (k : Clock) (d : Datum) (c : ℕ) → Begins flat.flows k d c → BeginsWith flat k d c
  begins_with k d c b =
      record { kind = b.kind; first = b.first; then = b.then; there = b.there; constant = b.constant; pattern = b.pattern }

  branches_fit : (s : Kind) (c : ℕ) (ds : List Datum) (xs : List ℕ) → BranchesSound flat.flows class s c ds xs → BranchesFit flat class s c ds xs
  branches_fit s c [] [] h = tt
  branches_fit s c [] (x ∷ xs) h = absurd h
  branches_fit s c (d ∷ ds) [] h = absurd h
  branches_fit s c (d ∷ ds) (x ∷ xs) h = (is_on (Sampled c d) s x h.0, h.1, branches_fit s c ds xs h.2)

  form_fits : (k : Clock) (s : Kind) (e : Bool) (form : Form) → FormSound flat.flows ins class k s e form → FormFits flat class k s e form
  form_fits k s e (Input r) h = h.0
  form_fits k s e (Constant d) h = h
  form_fits k s e (Copied a) h = (is_on k s a h.0, h.1)
  form_fits k s e (Unary op a) h = (h.0, is_on k s a h.1, h.2)
  form_fits k s e (Binary op a b) h = (h.0, h.1, h.2, is_on k h.0 a h.3, is_on k h.0 b h.4, h.5, h.6)
  form_fits k s e (If c a b) h = (is_on k _ c h.0, is_on k s a h.1, is_on k s b h.2, h.3, h.4, h.5)
  form_fits k s e (Pre a) h = (is_on k s a h.0, h.1, h.2)
  form_fits k s e (Arrow a b) h = (is_on k s a h.0, is_on k s b h.1, h.2)
  form_fits k s e (When a) h = (h.0, h.1, h.2, h.3, h.4, is_on h.3 h.2 h.0 h.5, is_on h.3 s a h.6, h.7)
  form_fits k s e (Current a) h = (h.0, h.1, is_on (Sampled h.0 h.1) s a h.2, h.3, begins_with k h.1 h.0 h.4)
  form_fits k s e (Merge c xs) h = (h.0, h.1, is_on k h.0 c h.2, h.3, branches_fit s c (clock_values h.0) xs h.4)

  clock_fits : (k : Clock) → ClockSound flat.flows class k → ClockFits flat class k
  clock_fits Base h = tt
  clock_fits (Sampled c d) h = (h.0, h.1, h.2, is_on h.0 h.1 c h.3, h.4)

pub sound : SoundLaw
sound p main flat accepted some out =
    let node = out.node in
    let same : list_of p out.lists main ≡ flat.flows = listed p out.lists out.are_lists main node out.is_main ∙ sym out.flows in
    let open_sound = lists_sound p out.lists out.are_lists (λ f n e. facts p main accepted some f n e) (λ f n e. ruling p main accepted f n e) (λ f. never_round p main accepted some f) main node out.is_main in
    let is = subst (λ l. OpenSound l node.inputs (length node.outputs)) same open_sound in
    record {
      class = class_in is.classes;
      forms = λ i flow e. form_fits flat node.inputs (class_in is.classes) flow.clock flow.kind (class_in is.classes i) flow.form (is.flows i flow e).form;
      clocks = λ i flow e. clock_fits flat node.inputs (class_in is.classes) flow.clock (is.flows i flow e).clock;
      outputs = λ v x e role_is.
          let j = output_at node v x (ap (λ l. slice_get l v) (sym out.variables) ∙ e) role_is in
          ap (class_in is.classes) j.2 ∙ is.outputs j.0 j.1;
    }
