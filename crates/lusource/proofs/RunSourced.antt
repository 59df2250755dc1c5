-- A solution of the source and the flat program's give main variables the same streams.
use Rattle.std.proofs.Common.{◌≡◌, ℕ, zero, suc, ◌+◌, ◌<◌, [], ◌∷◌, length, map, refl, sym, ap, ap₂, ◌∙◌, arith}
use Rattle.std.specs.Prelude.{unwrap_or}
use Rattle.std.specs.List.{range_with_len}
use Rattle.std.specs.Option.{option_map}
use Rattle.luflow.specs.declared.variable.Variable.{Variable}
use Rattle.luflow.specs.Streams.{Stream, is_broken}
use Rattle.luflow.specs.Messages.{marks, messages}
use Rattle.luflow.proofs.Solutions.{some_at}
use Rattle.luworld.specs.Jobs.{JobView, IsJob, NoFault, streams_of, messages_of, link_list, carried}
use Rattle.luworld.proofs.Outlines.{flow_of_carried}
use Rattle.lusource.specs.Source.{SourceStreams}
use Rattle.lusource.proofs.Meanings.{as_flat}
use Rattle.lusource.specs.RunSources.{IsMeant, NoneBreaks, source_stream, source_list}
use Rattle.lusource.specs.RunLaws.{SaysTheSame}

-- streams that are the same have the same marks
pub marks_same : (s s' : Stream) (n : ℕ) → ((t : ℕ) → s t ≡ s' t) → marks s n ≡ marks s' n
marks_same s s' n h = go 0 n
  where
    go : (a m : ℕ) → map s (range_with_len a m) ≡ map s' (range_with_len a m)
    go a zero = refl
    go a (suc m) = ap₂ ◌∷◌ (h a) (go (a + 1) m)

module _ (job : JobView) (σ : SourceStreams) (ok : IsJob job) (meant : IsMeant job σ) where
  pub same_stream : (v t : ℕ) → v < length job.plan.flat.variables → source_stream job σ v t ≡ streams_of job v t
  same_stream v t lt =
      let x = some_at job.plan.flat.variables v lt in
      ap (λ o. σ [] (unwrap_or (option_map (λ (y : Variable). y.name) o) []) t) x.1
      ∙ as_flat meant.program meant.main job.inputs job.plan.flat ok.is_plan.ordered meant.agrees ok.is_plan.variables_first σ meant.solves v t x.0 x.1

  pub same_list : (l : ℕ) → l < length job.plan.links → source_list job σ l ≡ link_list job (streams_of job) l
  unfolding link_list
  same_list l lt =
      let i = carried job.plan l in
      ap (messages 0) (marks_same (source_stream job σ i) (streams_of job i) job.inputs.instants (λ t. same_stream i t (ok.is_plan.carries l lt)))
      ∙ sym (ap (messages_of job (streams_of job)) (flow_of_carried job.plan l i lt refl))

  pub says_the_same : SaysTheSame job σ
  says_the_same = record { streams = same_stream; lists = same_list }

  -- without a fault no main variable breaks in the source
  pub none_breaks : NoFault job → NoneBreaks job σ
  none_breaks fine v t lv lt = ap is_broken (same_stream v t lv) ∙ fine v t (omega (arith, lv, ok.is_plan.variables_first)) lt

  -- the marks of a main variable
  pub same_marks : (v n : ℕ) → v < length job.plan.flat.variables → marks (source_stream job σ v) n ≡ marks (streams_of job v) n
  same_marks v n lv = marks_same (source_stream job σ v) (streams_of job v) n (λ t. same_stream v t lv)
