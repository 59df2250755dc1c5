-- A site at the start of its script.
use Rattle.std.proofs.Common.{◌≡◌, ℕ, ◌≤◌, false, List, length, take, replicate, Some, refl, sym, ap, ◌∙◌, subst, arith}
use Rattle.std.specs.Prelude.{slice_get, All}
use Rattle.std.proofs.lemmas.List.{length-replicate, get_or-replicate}
use Rattle.std.proofs.lemmas.Bool.{false≢true}
use Rattle.std.proofs.lemmas.List.Elements.{All-replicate}
use Rattle.std.proofs.lemmas.Option.{slice_get-get_or}
use Rattle.luflow.specs.declared.data.Datum.TheVariants.{Nil}
use Rattle.luflow.specs.declared.data.Status.{Status}
use Rattle.luflow.specs.declared.data.Status.TheVariants.{Absent}
use Rattle.luworld.specs.Jobs.{JobView, streams_of, IsFree, endless}
use Rattle.lueval_lines.specs.declared.past.Past.{Past}
use Rattle.luflow.specs.Program.{flows_of}
use Rattle.lusite.specs.Machine.{Stands}
use Rattle.luworld.proofs.Cursor.{before_start}

pub stands_start : (job : JobView) (s : ℕ) (now : List Status) (pasts : List Past) → now ≡ replicate (flows_of job.plan.flat) Absent → pasts ≡ replicate (flows_of job.plan.flat) (record { last = Nil; ticked = false; count = 0 }) → Stands job s now pasts 0 0 0 false
stands_start job s now pasts en ep =
    let n = flows_of job.plan.flat in
    let none : Past = record { last = Nil; ticked = false; count = 0 } in
    let len = ap length ep ∙ length-replicate n none in
    record {
      instant_le = omega arith;
      place_le = omega arith;
      step_le = λ l. absurd (omega arith);
      now_len = ap length en ∙ length-replicate n Absent;
      pasts_len = len;
      counts = subst (λ (xs : List Past). All (λ x. x.count ≤ 0) xs) (sym ep) (All-replicate (λ (x : Past). x.count ≤ 0) n none (omega arith));
      known = λ i l _. record { past = none; last = refl; ticks = refl; count = refl };
      kept = λ i l _ _. record { past = none; there = ap (λ xs. slice_get xs i) ep ∙ slice_get-get_or (replicate n none) i none (let e = length-replicate n none in omega (arith, e)) ∙ ap Some (get_or-replicate n i none none l); last = refl; ticks = refl; count = refl };
      shown = λ _ q l. absurd (omega arith);
      here = λ _ l. absurd (omega arith);
      no_stop = λ _. subst (λ (m : ℕ). IsFree job (take m (endless job (streams_of job) s))) (sym (before_start job (streams_of job) s)) tt;
      stopped = λ e. absurd (false≢true e);
      stopped_at = λ e. absurd (false≢true e);
    }
