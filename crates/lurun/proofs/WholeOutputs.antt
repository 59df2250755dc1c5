-- Columns that hold all of each output are the whole outputs of a run.
use Rattle.std.proofs.Common.{◌≡◌, ℕ, List, [], length, map, Some, sym, ap, ◌∙◌, arith}
use Rattle.std.specs.Prelude.{slice_get}
use Rattle.std.specs.Option.{option_map}
use Rattle.std.proofs.lemmas.List.{length-map}
use Rattle.std.proofs.lemmas.Option.{slice_get_within, slice_get-map}
use Rattle.luflow.specs.Messages.{marks}
use Rattle.luflow.specs.Tables.{OutputColumn}
use Rattle.luflow.specs.Variables.{variable_name}
use Rattle.luworld.specs.WorldViews.{IsWhole}
use Rattle.luworld.specs.Jobs.{JobView, IsJob, NoFault, outputs_of}
use Rattle.lusource.proofs.RunSourced.{same_marks}
use Rattle.lusite_program.specs.Programs.{output_names}
use Rattle.lurun.specs.Reports.{AreOutputsOf}
use Rattle.luflow.proofs.Solutions.{some_at}
use Rattle.lusite_program.proofs.SiteFlows.{output_there}
use Rattle.lurun.proofs.Lists.{same_one}
use Rattle.lurun.proofs.Named.{names_are}

abbrev name_of : OutputColumn → List ℕ
name_of c = c.name

module _ (job : JobView) (ok : IsJob job) (none : NoFault job) (columns : List OutputColumn) (named : map name_of columns ≡ output_names job.plan)
    (whole : (k v : ℕ) (c : OutputColumn) → slice_get (outputs_of job.plan) k ≡ Some v → slice_get columns k ≡ Some c → IsWhole job v c.statuses) where
  len : length columns ≡ length (outputs_of job.plan)
  len = sym (length-map columns name_of) ∙ ap length named ∙ length-map (outputs_of job.plan) (variable_name job.plan.flat)

  -- the number of a column's variable
  pub number_at : (k : ℕ) (c : OutputColumn) → slice_get columns k ≡ Some c → (v : ℕ) × (slice_get (outputs_of job.plan) k ≡ Some v) × (variable_name job.plan.flat v ≡ c.name)
  number_at k c at =
      let lk = slice_get_within columns k c at in
      let n = len in
      let v = some_at (outputs_of job.plan) k (omega (arith, lk, n)) in
      let by_name = sym (slice_get-map name_of columns k ∙ ap (option_map name_of) at) ∙ ap (λ (ns : List (List ℕ)). slice_get ns k) named ∙ slice_get-map (variable_name job.plan.flat) (outputs_of job.plan) k ∙ ap (option_map (variable_name job.plan.flat)) v.1 in
      (v.0, v.1, sym (same_one c.name (variable_name job.plan.flat v.0) by_name))

  pub are_outputs_of : AreOutputsOf job columns
  are_outputs_of = record {
    named = named ∙ names_are job.plan;
    whole = whole;
    source = λ σ meant k c at.
        let v = number_at k c at in
        whole k v.0 c v.1 at ∙ sym (same_marks job σ ok meant v.0 job.inputs.instants (output_there job.plan k v.0 v.1).0) ∙ ap (λ (name : List ℕ). marks (σ [] name) job.inputs.instants) v.2;
    no_fault = none;
  }
