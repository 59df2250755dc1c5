-- A world in the source's words.
use Rattle.std.proofs.Common.{◌≡◌, ℕ, zero, suc, ◌<◌, ◌≤◌, List, [], ◌∷◌, ◌++◌, length, take, drop, refl, sym, ap, ◌∙◌, subst, arith}
use Rattle.std.proofs.lemmas.List.{take_all, length-take}
use Rattle.luflow.specs.declared.data.Status.{Status}
use Rattle.luflow.specs.declared.message.Msg.{Msg}
use Rattle.luworld.specs.Systems.{put_count, taken_count}
use Rattle.luworld.specs.Jobs.{JobView, streams_of, system_of, link_list}
use Rattle.lusource.specs.Source.{SourceStreams}
use Rattle.lusource.specs.RunSources.{IsMeant, NoneBreaks, source_list}
use Rattle.lusource.proofs.RunSourced.{same_list, same_marks, none_breaks}
use Rattle.lusite.specs.Sites.{SiteView}
use Rattle.lusite_program.proofs.SiteFlows.{output_there}
use Rattle.luweave.specs.declared.link_queue.LinkQueue.{LinkQueue}
use Rattle.luweave.specs.Worlds.{IsWorld, dones_of}
use Rattle.luworld.specs.WorldViews.{IsCollected, IsPrefixOf, AllEnded}
use Rattle.luweave.specs.Headline.{IsCollectedOf, IsWithin, IsTakenOf, IsFaithful}
use Rattle.luweave.proofs.Worlds.{take_begins, both_begin, link_queue_view}
use Rattle.luweave.proofs.Endings.{all_taken, no_fault}

drop_all : (n : ℕ) (xs : List Msg) → length xs ≤ n → drop n xs ≡ []
drop_all zero [] le = refl
drop_all zero (x ∷ xs) le = absurd (omega arith)
drop_all (suc n) [] le = refl
drop_all (suc n) (x ∷ xs) le = drop_all n xs (omega arith)

module _ (job : JobView) (sites : List SiteView) (link_queues : List LinkQueue) (capacity : ℕ) (w : IsWorld job sites link_queues capacity) where
  abbrev ds : List ℕ
  ds = dones_of sites

  -- what was taken from a link, and what waits in it
  abbrev front : ℕ → List Msg
  front l = take (taken_count (system_of job) ds l) (link_list job (streams_of job) l)

  abbrev rest : ℕ → List Msg
  rest l = drop (taken_count (system_of job) ds l) (take (put_count (system_of job) ds l) (link_list job (streams_of job) l))

  pub taken_whole : (l : ℕ) (xs : List Msg) → l < length job.plan.links → xs ≡ front l → AllEnded job ds → xs ≡ link_list job (streams_of job) l
  taken_whole l xs lt e all =
      let n = all_taken job w.is_job ds all l lt in
      e ∙ take_all (taken_count (system_of job) ds l) (link_list job (streams_of job) l) (omega (arith, n))

  pub none_waits : (l : ℕ) (xs : List Msg) → l < length job.plan.links → xs ≡ rest l → AllEnded job ds → xs ≡ []
  none_waits l xs lt e all =
      let n = all_taken job w.is_job ds all l lt in
      let m = length-take (put_count (system_of job) ds l) (link_list job (streams_of job) l) in
      e ∙ drop_all (taken_count (system_of job) ds l) (take (put_count (system_of job) ds l) (link_list job (streams_of job) l)) (omega (arith, n, m))

  pub put_within : (l : ℕ) → l < length job.plan.links → put_count (system_of job) ds l ≤ length (link_list job (streams_of job) l)
  put_within l lt =
      let k = link_queue_view job sites link_queues capacity w l lt in
      let e = ap length k.2.put_is in
      let m = length-take (put_count (system_of job) ds l) (link_list job (streams_of job) l) in
      omega (arith, e, k.2.put_len, m)

  module _ (σ : SourceStreams) (meant : IsMeant job σ) where
    pub taken_source : (l : ℕ) (xs : List Msg) → l < length job.plan.links → xs ≡ front l → IsPrefixOf xs (source_list job σ l)
    taken_source l xs lt e =
        let same = same_list job σ w.is_job meant l lt in
        subst (IsPrefixOf xs) (sym same) (subst (λ ys. IsPrefixOf ys (link_list job (streams_of job) l)) (sym e) (take_begins (taken_count (system_of job) ds l) (link_list job (streams_of job) l)))

    pub taken_source_whole : (l : ℕ) (xs : List Msg) → l < length job.plan.links → xs ≡ front l → AllEnded job ds → xs ≡ source_list job σ l
    taken_source_whole l xs lt e all = taken_whole l xs lt e all ∙ sym (same_list job σ w.is_job meant l lt)

    pub queued_source : (l : ℕ) (xs : List Msg) → l < length job.plan.links → xs ≡ rest l → IsPrefixOf (take (taken_count (system_of job) ds l) (source_list job σ l) ++ xs) (source_list job σ l)
    queued_source l xs lt e =
        let same = same_list job σ w.is_job meant l lt in
        let n = taken_count (system_of job) ds l in
        let both = both_begin n (put_count (system_of job) ds l) (link_list job (streams_of job) l) (w.good.taken_put l) in
        subst (λ ys. IsPrefixOf (take n ys ++ xs) ys) (sym same) (subst (λ ys. IsPrefixOf (take n (link_list job (streams_of job) l) ++ ys) (link_list job (streams_of job) l)) (sym e) both)

    pub collected_source : (k : ℕ) (xs : List Status) → IsCollected job ds k xs → IsCollectedOf job ds σ k xs
    collected_source k xs h v at =
        let lv = (output_there job.plan k v at).0 in
        let x = h v at in
        ((x.0.0, x.0.1, x.0.2 ∙ sym (same_marks job σ w.is_job meant v x.0.0 lv)), λ all. x.2 all ∙ sym (same_marks job σ w.is_job meant v job.inputs.instants lv))

    pub ended_source : AllEnded job ds → NoneBreaks job σ
    ended_source all = none_breaks job σ w.is_job meant (no_fault job w.is_job ds all)

    link_within : (l : ℕ) → l < length job.plan.links → IsWithin job ds σ l
    link_within l lt =
        let same = ap length (same_list job σ w.is_job meant l lt) in
        record {
          put = omega (arith, put_within l lt, same);
          taken = w.good.taken_put l;
          waiting = w.good.bounded l;
          ended = λ all. all_taken job w.is_job ds all l lt ∙ sym same;
        }

    link_taken : (l : ℕ) → l < length job.plan.links → IsTakenOf job ds σ l
    link_taken l lt = record {
      begun = taken_source l (front l) lt refl;
      ended = λ all. taken_source_whole l (front l) lt refl all;
    }

  pub faithful : IsFaithful job ds
  faithful = record {
    links = λ σ l meant lt. link_within σ meant l lt;
    taken = λ σ l meant lt. link_taken σ meant l lt;
    outputs = λ σ k xs meant collected. collected_source σ meant k xs collected;
    sound = λ σ meant all. ended_source σ meant all;
  }
