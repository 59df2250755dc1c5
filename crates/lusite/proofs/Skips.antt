-- From one flow that a site knows to the next: the flows between have nothing to do there.
use Rattle.std.proofs.Common.{◌≡◌, ℕ, zero, suc, ◌+◌, ◌-◌, ◌<◌, ◌≤◌, inl, inr, Bool, true, false, cond, List, [], ◌∷◌, ◌++◌, length, map, take, Option, Some, None, refl, sym, ap, ◌∙◌, subst, arith}
use Rattle.std.specs.Prelude.{slice_index, ◌||◌, ◌&&◌, nat_lt, is_some}
use Rattle.std.proofs.lemmas.Bool.{cases_lt, false≢true, lt-ltb}
use Rattle.luflow.specs.declared.data.Status.{Status}
use Rattle.luflow.specs.Program.{flow_at, flows_of}
use Rattle.luflow.specs.Solution.{clock_of_flow}
use Rattle.luworld.specs.Systems.{Item, Compute, Puts, Takes}
use Rattle.luworld.specs.Needs.{stands}
use Rattle.luworld.specs.Jobs.{JobView, IsJob, IsCoherent, streams_of, knows, link_into, listed, sends, cell, is_open, items_before, IsFree, endless}
use Rattle.luworld.proofs.Cursor.{before_next_flow}
use Rattle.luworld.proofs.Outlines.{cell_is}
use Rattle.lueval_lines.specs.declared.past.Past.{Past}
use Rattle.lusite.specs.Machine.{Stands}
use Rattle.lusite_program.specs.Logs.{LogView, add_if, IsRow, IsLogged}
use Rattle.lusite.proofs.Machine.{there}
use Rattle.lusite_program.proofs.Ranks.{AreUnknown}
use Rattle.lusite.proofs.Reported.{lt-false, wanted_known}

no_items : (early open' own : Bool) (xs ps : List Item) (into : Option ℕ) → (own || is_some into) ≡ false → cond early (cond open' (cond own xs [] ++ cond own ps (map Takes (listed into))) []) (cond own ps (map Takes (listed into))) ≡ []
no_items early open' true xs ps into h = absurd (false≢true (sym h))
no_items early open' false xs ps (Some l) h = absurd (false≢true (sym h))
no_items true true false xs ps None h = refl
no_items true false false xs ps None h = refl
no_items false open' false xs ps None h = refl

-- a flow that a site neither computes nor takes has no items there
pub unknown_empty : (job : JobView) (ok : IsCoherent job.plan) (s t i : ℕ) → i < flows_of job.plan.flat → knows job.plan s i ≡ false → cell job (streams_of job) s t i ≡ []
unknown_empty job ok s t i li h =
    cell_is job (streams_of job) ok s t i li
    ∙ no_items (nat_lt t job.inputs.instants) (is_open (clock_of_flow job.inputs (streams_of job) (flow_at job.plan.flat i) t)) (stands job.plan i s) (Compute i t ∷ []) (map Puts (sends job.plan s i)) (link_into job.plan s i) h

module _ (job : JobView) (s : ℕ) (ij : IsJob job) where
  skip_one : (t p : ℕ) → p < length job.plan.flat.order → knows job.plan s (slice_index job.plan.flat.order p) ≡ false → items_before job (streams_of job) s t (p + 1) 0 ≡ items_before job (streams_of job) s t p 0
  skip_one t p lp h =
      before_next_flow job (streams_of job) s t p lp
      ∙ ap (λ (xs : List Item). items_before job (streams_of job) s t p (length xs)) (unknown_empty job ij.is_plan s t (slice_index job.plan.flat.order p) (there job s ij p lp).2 h)

  skip_more : (t p d : ℕ) → p + d ≤ length job.plan.flat.order → AreUnknown job.plan s p (p + d) → items_before job (streams_of job) s t (p + d) 0 ≡ items_before job (streams_of job) s t p 0
  skip_more t p zero le h = let e : p + 0 ≡ p = omega arith in ap (λ q. items_before job (streams_of job) s t q 0) e
  skip_more t p (suc d) le h =
      let e : p + suc d ≡ p + d + 1 = omega arith in
      ap (λ q. items_before job (streams_of job) s t q 0) e
      ∙ skip_one t (p + d) (omega (arith, le)) (h (p + d) (omega arith) (omega arith))
      ∙ skip_more t p d (omega (arith, le)) (λ r low high. h r low (omega (arith, high)))

  -- they hold no items
  pub before_skip : (t p q : ℕ) → p ≤ q → q ≤ length job.plan.flat.order → AreUnknown job.plan s p q → items_before job (streams_of job) s t q 0 ≡ items_before job (streams_of job) s t p 0
  before_skip t p q le lq h =
      let e : p + (q - p) ≡ q = omega (arith, le) in
      ap (λ r. items_before job (streams_of job) s t r 0) (sym e)
      ∙ skip_more t p (q - p) (omega (arith, e, lq)) (subst (AreUnknown job.plan s p) (sym e) h)

  -- where a site stands before them it stands behind them
  pub stands_skip : (now : List Status) (pasts : List Past) (t p q : ℕ) → Stands job s now pasts t p 0 false → p ≤ q → q ≤ length job.plan.flat.order → AreUnknown job.plan s p q → Stands job s now pasts t q 0 false
  stands_skip now pasts t p q st le lq h = record {
    instant_le = st.instant_le;
    place_le = lq;
    step_le = λ l. absurd (omega arith);
    now_len = st.now_len;
    pasts_len = st.pasts_len;
    counts = st.counts;
    known = st.known;
    kept = st.kept;
    shown = λ lt r lr known. elim (cases_lt r p) [
      | inl l ↦ st.shown lt r l known
      | inr g ↦ absurd (false≢true (sym (h r g lr) ∙ known))
    ];
    here = λ _ l. absurd (omega arith);
    no_stop = λ _. subst (λ (m : ℕ). IsFree job (take m (endless job (streams_of job) s))) (sym (before_skip t p q le lq h)) (st.no_stop refl);
    stopped = λ e. absurd (false≢true e);
    stopped_at = λ e. absurd (false≢true e);
  }

  -- no output is among them
  pub logged_skip : (logs : List LogView) (t p q : ℕ) → p ≤ q → AreUnknown job.plan s p q → IsLogged job s logs t p → IsLogged job s logs t q
  logged_skip logs t p q le h logged r lr wanted =
      subst (λ (b : Bool). IsRow job (slice_index job.plan.flat.order r) logs (t + add_if (nat_lt t job.inputs.instants && b))) same (logged r lr wanted)
    where
      own : knows job.plan s (slice_index job.plan.flat.order r) ≡ true
      own = ap (λ b. b || is_some (link_into job.plan s (slice_index job.plan.flat.order r))) (wanted_known job s (slice_index job.plan.flat.order r) ij (there job s ij r lr).2 wanted)

      same : nat_lt r p ≡ nat_lt r q
      same = elim (cases_lt r p) [
        | inl l ↦ lt-ltb r p l ∙ sym (lt-ltb r q (omega (arith, l, le)))
        | inr g ↦ elim (cases_lt r q) [
          | inl l ↦ absurd (false≢true (sym (h r g l) ∙ own))
          | inr f ↦ lt-false r p g ∙ sym (lt-false r q f)
        ]
      ]
