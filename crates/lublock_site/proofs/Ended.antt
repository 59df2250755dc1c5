-- What a site leaves that has ended.
use Rattle.std.proofs.Common.{◌≡◌, ℕ, ◌<◌, true, false, List, length, map, Option, Some, None, refl, sym, subst, ◌∙◌, ap}
use Rattle.std.specs.Prelude.{slice_get, IfSome, unwrap_or}
use Rattle.std.specs.Option.{option_map}
use Rattle.std.proofs.lemmas.List.{length-map}
use Rattle.std.proofs.lemmas.Option.{same_Some, slice_get-map}
use Rattle.luflow.specs.declared.data.Status.{Status}
use Rattle.luflow.specs.declared.variable.Variable.{Variable}
use Rattle.luflow.specs.Program.{FlatView}
use Rattle.luflow.specs.Variables.{is_output, is_output_of}
use Rattle.luworld.specs.Needs.{sites_of}
use Rattle.luworld.specs.Jobs.{JobView, IsJobView, outputs_of, streams_of}
use Rattle.luworld.specs.Sites.{AreWholeOutputs, IsSiteOfJob}
use Rattle.luworld.specs.WorldViews.{IsWhole}
use Rattle.lublock.specs.Shown.{Column, AreNear}
use Rattle.lublock.proofs.Answered.{reported_column}
use Rattle.lublock_site.specs.Codes.{output_at, outputs_at}
use Rattle.lublock_site.specs.Going.{IsGoing, IsSameRun}
use Rattle.lublock_site.specs.Reporting.{AreLess, AreOutputRows, IsOutputRow}
use Rattle.lublock_site.specs.declared.site.RowSite.{RowSite}
use Rattle.lublock_site.proofs.Coded.{output_elsewhere, output_home, output_is}
use Rattle.lublock_site.proofs.Moving.{is_flat, solved}
use Rattle.lublock_site.proofs.Reporting.{less_near}

pub same_site : (x y : RowSite) → IsSameRun x y → IsSiteOfJob (record { job = x.job.value; site = x.site }) → IsSiteOfJob (record { job = y.job.value; site = y.site })
same_site x y same at = record {
  run = subst (λ (j : JobView). IsJobView j) (sym same.0) at.run;
  inside = subst (λ (j : JobView). y.site < sites_of j.plan) (sym same.0) (subst (λ (s : ℕ). s < sites_of x.job.value.plan) (sym same.1) at.inside);
}

pub same_outputs : (x y : RowSite) (outputs : List (Option ℕ)) → IsSameRun x y → outputs ≡ outputs_at x.job.value.plan x.site → outputs ≡ outputs_at y.job.value.plan y.site
same_outputs x y outputs same is = is ∙ ap (λ (j : JobView). outputs_at j.plan x.site) (sym same.0) ∙ ap (outputs_at y.job.value.plan) (sym same.1)

-- an output is a variable of this role
output_there : (flat : FlatView) (v : ℕ) → is_output_of flat v ≡ true → (x : Variable) × (slice_get flat.variables v ≡ Some x) × (is_output x.role ≡ true)
output_there flat v is = go (slice_get flat.variables v) refl is
  where
    go : (o : Option Variable) → slice_get flat.variables v ≡ o → unwrap_or (option_map (λ (x : Variable). is_output x.role) o) false ≡ true → (x : Variable) × (slice_get flat.variables v ≡ Some x) × (is_output x.role ≡ true)
    go None e h = absurd (let f : false ≡ true = h in cc)
    go (Some x) e h = (x, e, h)

-- where an element is that a function gave
given_by : (rows : List Column) (k : ℕ) (xs : List Status) → slice_get (map (λ (row : Column). row.items) rows) k ≡ Some xs → (row : Column) × (slice_get rows k ≡ Some row) × (row.items ≡ xs)
given_by rows k xs there = go (slice_get rows k) refl (sym (slice_get-map (λ (row : Column). row.items) rows k) ∙ there)
  where
    go : (o : Option Column) → slice_get rows k ≡ o → option_map (λ (row : Column). row.items) o ≡ Some xs → (row : Column) × (slice_get rows k ≡ Some row) × (row.items ≡ xs)
    go None e h = absurd cc
    go (Some row) e h = (row, e, same_Some row.items xs h)

module _ (x : RowSite) (going : IsGoing x) (all : x.t ≡ x.frame.instants) where
  abbrev job : JobView
  job = x.job.value

  row_whole : (left : List Column) (v : ℕ) (row : Column) → AreLess x.columns.items left → is_output_of job.plan.flat v ≡ true → IsOutputRow left x.frame.instants (Some v) row → IsWhole job v row.items
  row_whole left v row less output is =
      let near : AreNear job.plan.flat (streams_of job) job.inputs.instants left =
      subst (λ (t : ℕ). AreNear job.plan.flat (streams_of job) t left) (all ∙ going.frame.instants) (less_near job.plan.flat (streams_of job) x.t x.columns.items left going.past.near less) in
      let o = output_there job.plan.flat v output in
      reported_column job.plan.flat job.inputs left (streams_of job) (is_flat job going.frame.run) going.frame.run.fit (solved job going.frame.run) near v o.0 row o.1 o.2 is.0 (is.1 ∙ going.frame.instants)

  -- the outputs of which it is the home are whole
  pub whole_outputs : (outputs : List (Option ℕ)) (rows : List Column) → outputs ≡ outputs_at x.job.value.plan x.site → AreOutputRows x.columns.items x.frame.instants outputs rows → AreWholeOutputs x.job.value x.site (map (λ (row : Column). row.items) rows)
  whole_outputs outputs rows is made =
      let at : (k i : ℕ) (o : Option ℕ) → slice_get (outputs_of job.plan) k ≡ Some i → output_at job.plan x.site i ≡ o → slice_get outputs k ≡ Some o =
      λ k i o there e. ap (λ (xs : List (Option ℕ)). slice_get xs k) is ∙ slice_get-map (output_at job.plan x.site) (outputs_of job.plan) k ∙ ap (option_map (output_at job.plan x.site)) there ∙ ap (λ (q : Option ℕ). Some q) e in
      record {
        len = length-map rows (λ (row : Column). row.items) ∙ made.len ∙ ap length is ∙ length-map (outputs_of job.plan) (output_at job.plan x.site);
        own = λ k i xs there row_there home.
            let row = given_by rows k xs row_there in
            let here = made.each k (Some i) row.0 (at k i (Some i) there (output_home job.plan x.site i home)) row.1 in
            subst (IsWhole job i) row.2 (row_whole here.0 i row.0 here.1 (output_is job.plan k i there) here.2);
        elsewhere = λ k i xs there row_there other.
            let row = given_by rows k xs row_there in
            let here = made.each k None row.0 (at k i None there (output_elsewhere job.plan x.site i other)) row.1 in
            sym row.2 ∙ here.2;
      }

pub if_some : {X : Type 0} (o : Option X) (P Q : X → Type 0) → ((x : X) → P x → Q x) → IfSome o P → IfSome o Q
if_some None P Q f h = tt
if_some (Some x) P Q f h = f x h
