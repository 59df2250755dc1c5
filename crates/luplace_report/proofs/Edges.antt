-- Both ends of each edge are drawn.
use Rattle.std.proofs.Common.{◌≡◌, ◌<◌, true, length, ap, ◌∙◌, arith}
use Rattle.std.specs.Prelude.{slice_index, Contains}
use Rattle.std.proofs.lemmas.Option.{slice_get_within}
use Rattle.luflow.specs.Program.{flows_of}
use Rattle.luworld.specs.declared.link.Link.{Link}
use Rattle.luworld.specs.Needs.{PlanView, IsPlan, is_in, stands}
use Rattle.luworld.proofs.Fitting.{fits}
use Rattle.luplace_report.specs.declared.cause.Cause.{Cause}
use Rattle.luplace_report.specs.declared.cause.Cause.TheVariants.{Reader, Clock}
use Rattle.luplace_report.specs.Cause.{IsCause}
use Rattle.luplace_report.specs.Graph.{IsHead, IsDrawn, EdgeLaw}
use Rattle.luplace_report.proofs.Causes.{cause_law, sent, IsSent, main}

module _ (plan : PlanView) (ok : IsPlan plan) where
  at_home : (k : Link) → IsSent plan (main plan ok) k → stands plan k.flow k.from ≡ true
  at_home k is = ap (stands plan k.flow) is.3 ∙ (fits plan ok).stands_home k.flow (omega (arith, is.0, ok.flat_is.variables_first))

  head_is : (k : Link) → IsSent plan (main plan ok) k → (cause : Cause) → IsCause plan k cause → IsHead plan k.to cause
  head_is k is (Reader i) by =
      let inside : i < flows_of plan.flat = slice_get_within plan.flat.flows i by.flow by.at in
      let owned : slice_index plan.flat.owners i < length plan.flat.variables = ok.flat_is.owners_in i 0 (omega (arith, ok.flat_is.owners_len, inside)) in
      (owned, ap (is_in k.to) (ok.together (slice_index plan.flat.owners i) owned) ∙ by.stands_there)
  head_is k is (Clock i) by = is.1

  drawn : (k : Link) → Contains plan.links k → IsDrawn plan k
  drawn k c =
      let is = sent plan ok k c in
      let why = cause_law plan k ok c in
      record { main = is.0; tail = at_home k is; cause = why.0; caused = why.1; head_is = head_is k is why.0 why.2 }

pub edge_law : EdgeLaw
edge_law plan k ok c = drawn plan ok k c
