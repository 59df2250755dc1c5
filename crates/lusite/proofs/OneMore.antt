-- A site that does one item more.
use Rattle.std.proofs.Common.{◌≡◌, ◌+◌, inl, inr, false, Some, ap, ◌∙◌, arith}
use Rattle.std.specs.Prelude.{slice_get}
use Rattle.std.proofs.lemmas.Option.{slice_get_within}
use Rattle.luplace.specs.SiteInputsViews.{SiteInputsView}
use Rattle.luworld.specs.Jobs.{script, streams_of}
use Rattle.luworld.specs.Systems.{Item}
use Rattle.luworld.proofs.Outlines.{bool_cases}
use Rattle.lusite.specs.declared.state.SiteState.{SiteState}
use Rattle.lusite.specs.Machine.{StandsAt, IsSameRun, is_faulted, done_of}
use Rattle.lusite.specs.Sites.{SiteView, site_at}

-- a state with an item before it hasn't faulted
pub not_stopped : (a : SiteState) (x : Item) → StandsAt a → slice_get (script a.inputs.job (streams_of a.inputs.job) a.inputs.site) (done_of a) ≡ Some x → is_faulted a ≡ false
not_stopped a x st e = elim (bool_cases (is_faulted a)) [
  | inl bad ↦
      let n = (st.stopped bad).0 in
      let l = slice_get_within (script a.inputs.job (streams_of a.inputs.job) a.inputs.site) (done_of a) x e in
      absurd (omega (arith, n, l))
  | inr goes ↦ goes
]

-- what a contract sees of it, from state a over b to d
module _ (a b d : SiteState) (v : SiteView) (is : site_at a ≡ v) (one : IsSameRun a b) (two : IsSameRun b d) where
  pub same_job : d.inputs.job ≡ v.job
  same_job = ap (λ (t : SiteInputsView). t.job) (two.inputs_is ∙ one.inputs_is) ∙ ap (λ (w : SiteView). w.job) is

  pub same_site : d.inputs.site ≡ v.site
  same_site = ap (λ (t : SiteInputsView). t.site) (two.inputs_is ∙ one.inputs_is) ∙ ap (λ (w : SiteView). w.site) is

  pub done_more : done_of b ≡ done_of a + 1 → done_of d ≡ done_of b → done_of d ≡ v.done + 1
  done_more e f = f ∙ e ∙ ap (λ (w : SiteView). w.done + 1) is
