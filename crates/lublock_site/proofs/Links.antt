-- The messages of a link are its flow's data.
use Rattle.std.proofs.Common.{◌≡◌, ℕ, zero, suc, ◌+◌, ◌<◌, Bool, true, false, cond, List, [], ◌∷◌, ◌++◌, length, map, Option, Some, None, sym, ap, ◌∙◌, arith}
use Rattle.std.specs.Prelude.{slice_get, unwrap_or}
use Rattle.std.specs.Option.{option_map}
use Rattle.std.proofs.lemmas.Option.{same_Some}
use Rattle.luflow.specs.declared.data.Datum.{Datum}
use Rattle.luflow.specs.declared.message.Msg.{Msg}
use Rattle.luflow.specs.declared.message.Body.{Body}
use Rattle.luflow.specs.declared.message.Body.TheVariants.{Value, Close}
use Rattle.luflow.specs.Messages.{marks, clean_list, is_whole, numbered, messages}
use Rattle.luflow.proofs.Solutions.{some_at}
use Rattle.luworld.specs.declared.link.Link.{Link}
use Rattle.luworld.specs.Needs.{PlanView}
use Rattle.luworld.specs.Jobs.{JobView, IsCoherent, flow_of_link, carried, messages_of, link_list, streams_of}
use Rattle.lublock_kernels.specs.Parts.{IsPart}
use Rattle.lublock_site.specs.Sites.{part_of, value_message, CarriesFlow}

pub site_part : (plan : PlanView) (s : ℕ) → IsCoherent plan → IsPart plan.flat (part_of plan s)
site_part plan s fits = record {
  operands = λ i flow is own. fits.needs_operands s i flow is own;
  clocks = λ i flow is known. fits.needs_clock s i flow is known;
}

value_out : (n : ℕ) (xs : List Datum) (rest : List Body) (k : ℕ) (d : Datum) → slice_get xs k ≡ Some d → slice_get (numbered n (map Value xs ++ rest)) k ≡ Some (value_message (n + k) d)
value_out n [] rest k d is = absurd cc
value_out n (x ∷ xs) rest zero d is =
    let e : n ≡ n + 0 = omega arith in
    ap (λ (y : Datum). Some (value_message n y)) (same_Some x d is) ∙ ap (λ (m : ℕ). Some (value_message m d)) e
value_out n (x ∷ xs) rest (suc k) d is =
    let e : (n + 1) + k ≡ n + suc k = omega arith in
    value_out (n + 1) xs rest k d is ∙ ap (λ (m : ℕ). Some (value_message m d)) e

same_value : (x d : Datum) → Value x ≡ Value d → x ≡ d
same_value x d e = cc

close_no_value : (b : Bool) (n k : ℕ) (d : Datum) (msg : Msg) → slice_get (numbered n (cond b (Close ∷ []) [])) k ≡ Some msg → msg.body ≡ Value d → None ≡ Some d
close_no_value false n k d msg is body = absurd cc
close_no_value true n zero d msg is body =
    let e : record { no = n; body = Close } ≡ msg = same_Some (record { no = n; body = Close }) msg is in
    let f : Close ≡ Value d = ap (λ (m : Msg). m.body) e ∙ body in absurd cc
close_no_value true n (suc k) d msg is body = absurd cc

value_in : (b : Bool) (n : ℕ) (xs : List Datum) (k : ℕ) (d : Datum) (msg : Msg) → slice_get (numbered n (map Value xs ++ cond b (Close ∷ []) [])) k ≡ Some msg → msg.body ≡ Value d → slice_get xs k ≡ Some d
value_in b n [] k d msg is body = close_no_value b n k d msg is body
value_in b n (x ∷ xs) zero d msg is body =
    let e : record { no = n; body = Value x } ≡ msg = same_Some (record { no = n; body = Value x }) msg is in
    ap (λ (y : Datum). Some y) (same_value x d (ap (λ (m : Msg). m.body) e ∙ body))
value_in b n (x ∷ xs) (suc k) d msg is body = value_in b (n + 1) xs k d msg is body

module _ (job : JobView) (l : ℕ) (inside : l < length job.plan.links) where
  flow_is : flow_of_link job.plan l ≡ Some (carried job.plan l)
  flow_is =
      let k = some_at job.plan.links l inside in
      let e : flow_of_link job.plan l ≡ Some k.0.flow = ap (option_map (λ (k : Link). k.flow)) k.1 in
      e ∙ ap (λ (i : ℕ). Some i) (sym (ap (λ (o : Option ℕ). unwrap_or o 0) e))

  pub list_is : link_list job (streams_of job) l ≡ messages 0 (marks (streams_of job (carried job.plan l)) job.inputs.instants)
  unfolding link_list
  list_is = ap (messages_of job (streams_of job)) flow_is

  pub carries : CarriesFlow job l
  carries = record {
    out = λ k d is. ap (λ (xs : List Msg). slice_get xs k) list_is
        ∙ value_out 0 (clean_list (marks (streams_of job (carried job.plan l)) job.inputs.instants)) (cond (is_whole (marks (streams_of job (carried job.plan l)) job.inputs.instants)) (Close ∷ []) []) k d is
        ∙ ap (λ (m : ℕ). Some (value_message m d)) (let e : 0 + k ≡ k = omega arith in e);
    into = λ k d msg is body.
        value_in (is_whole (marks (streams_of job (carried job.plan l)) job.inputs.instants)) 0 (clean_list (marks (streams_of job (carried job.plan l)) job.inputs.instants)) k d msg
        (sym (ap (λ (xs : List Msg). slice_get xs k) list_is) ∙ is) body;
  }
