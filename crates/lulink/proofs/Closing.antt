-- Nothing follows the close of a link, and its list is short.
use Rattle.std.proofs.Common.{◌≡◌, ◌+◌, ◌≤◌, ◌<◌, ◌^◌, ℕ, zero, suc, List, [], ◌∷◌, length, take, Option, Some, None, ap, ◌∙◌, subst, arith}
use Rattle.std.specs.Prelude.{slice_get}
use Rattle.std.proofs.lemmas.List.{take_all}
use Rattle.luflow.specs.declared.data.Datum.{Datum}
use Rattle.luflow.specs.declared.data.Status.TheVariants.{Absent, Present}
use Rattle.luflow.specs.declared.message.Body.{Body}
use Rattle.luflow.specs.declared.message.Body.TheVariants.{Value, Close}
use Rattle.luflow.specs.declared.message.Msg.{Msg}
use Rattle.luflow.specs.Messages.{messages, marks}
use Rattle.luflow.specs.Streams.{Mark, Known, Broken}
use Rattle.luworld.specs.Jobs.{JobView, IsJobView, streams_of, link_list, messages_of, flow_of_link}
use Rattle.luworld.proofs.Messages.{lists_short}
use Rattle.lulink.specs.Lists.{list_of}

abbrev IsValue : Body → Type 0
IsValue (Value d) = Unit {0}
IsValue Close = ⊥

value_no_close : (d : Datum) (n : ℕ) (m : Msg) → Some (record { no = n; body = Value d }) ≡ Some m → m.body ≡ Close → ⊥
value_no_close d n m e c = let same : record { no = n; body = Value d } ≡ m = cc in subst IsValue (ap (λ (x : Msg). x.body) same ∙ c) tt

close_last : (n : ℕ) (ms : List Mark) (k : ℕ) (m : Msg) → slice_get (messages n ms) k ≡ Some m → m.body ≡ Close → length (messages n ms) ≤ k + 1
close_last n [] k m e c = omega arith
close_last n (Broken ∷ ms) k m e c = omega arith
close_last n (Known Absent ∷ ms) k m e c = close_last n ms k m e c
close_last n (Known (Present d) ∷ ms) zero m e c = absurd (value_no_close d n m e c)
close_last n (Known (Present d) ∷ ms) (suc k) m e c = let h = close_last (n + 1) ms k m e c in omega arith

pub close_long : (job : JobView) (l k : ℕ) (m : Msg) → slice_get (list_of job l) k ≡ Some m → m.body ≡ Close → length (list_of job l) ≤ k + 1
unfolding link_list
close_long job l k m e c = go (flow_of_link job.plan l) e
  where
    go : (o : Option ℕ) → slice_get (messages_of job (streams_of job) o) k ≡ Some m → length (messages_of job (streams_of job) o) ≤ k + 1
    go None e = omega arith
    go (Some i) e = close_last 0 (marks (streams_of job i) job.inputs.instants) k m e c

pub close_ends : (job : JobView) (l k : ℕ) (m : Msg) → slice_get (list_of job l) k ≡ Some m → m.body ≡ Close → take (k + 1) (list_of job l) ≡ list_of job l
close_ends job l k m e c = take_all (k + 1) (list_of job l) (close_long job l k m e c)

pub small_list : (job : JobView) (l : ℕ) → IsJobView job → length (list_of job l) < 2 ^ 62
small_list job l is = let few = is.table_is.few in let short = lists_short job l in omega arith
