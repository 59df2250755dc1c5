-- The scripts of all sites are those of the definitions, and so is what is counted in them.
use Rattle.std.proofs.Common.{◌≡◌, ℕ, zero, suc, ◌≤◌, inl, inr, Bool, List, [], ◌∷◌, length, map, take, get_or, count_by, refl, sym, ap, ◌∙◌, arith}
use Rattle.std.specs.Prelude.{unwrap_or}
use Rattle.std.specs.List.{range_with_len}
use Rattle.std.proofs.lemmas.Bool.{cases_lt}
use Rattle.std.proofs.lemmas.List.{length-map, take-map}
use Rattle.std.proofs.lemmas.List.FromFn.{length-map-range_with_len, get_or-map-range_with_len}
use Rattle.std.proofs.lemmas.Option.{slice_get_past}
use Rattle.luworld.specs.Systems.{Item}
use Rattle.luworld.specs.Needs.{sites_of}
use Rattle.luworld.specs.Jobs.{JobView, IsJobView, script, streams_of}
use Rattle.luworld.proofs.Fitting.{job_of_run}
use Rattle.luworld.proofs.Outlines.{is_wired}
use Rattle.test_reference.specs.declared.item.Item.{Item as CodeItem}
use Rattle.test_reference.specs.AsItem.{as_item}
use Rattle.test_reference.specs.Scripts.{AreScripts, script_in}
use Rattle.test_reference.proofs.Scripted.{count_by-map}

seen_in : (rows : List (List CodeItem)) (s : ℕ) → map as_item (script_in rows s) ≡ get_or (map (map as_item) rows) s []
seen_in [] s = refl
seen_in (row ∷ rows) zero = refl
seen_in (row ∷ rows) (suc s) = seen_in rows s

pub scripts_are : (job : JobView) (n k : ℕ) (rows : List (List CodeItem)) → IsJobView job → n ≡ sites_of job.plan → n ≤ k → k ≤ n → map (map as_item) rows ≡ map (script job (streams_of job)) (range_with_len 0 k) → AreScripts job rows
scripts_are job n k rows run en nk kn are = record {
  each = λ s.
      let f = script job (streams_of job) in
      let long : length rows ≡ k = sym (length-map rows (map as_item)) ∙ ap length are ∙ length-map-range_with_len f 0 k in
      elim (cases_lt s k) [
        | inl l ↦ seen_in rows s ∙ ap (λ xs. get_or xs s []) are ∙ get_or-map-range_with_len f 0 k s s [] l (omega arith)
        | inr r ↦
            let past : length rows ≤ s = omega arith in
            let beyond : sites_of job.plan ≤ s = omega arith in
            ap (λ o. map as_item (unwrap_or o [])) (slice_get_past rows s past) ∙ sym ((is_wired job (job_of_run job run)).no_more_sites s beyond)
      ];
}

-- the items that pass a test, among the first n of a site
pub counted_in : (p : Item → Bool) (job : JobView) (rows : List (List CodeItem)) (s n : ℕ) → AreScripts job rows → count_by (λ item. p (as_item item)) (take n (script_in rows s)) ≡ count_by p (take n (script job (streams_of job) s))
counted_in p job rows s n are =
    sym (count_by-map p as_item (take n (script_in rows s)))
    ∙ ap (count_by p) (sym (take-map as_item n (script_in rows s)) ∙ ap (take n) (are.each s))
