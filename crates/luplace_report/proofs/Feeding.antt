-- Which sites feed which, row by row.
use Rattle.std.proofs.Common.{◌≡◌, ℕ, zero, suc, ◌+◌, ◌<◌, inl, inr, Bool, true, false, List, [], ◌∷◌, ◌++◌, length, map, get_or, refl, sym, ap, ◌∙◌, subst, arith, length-append}
use Rattle.std.specs.Prelude.{◌↔◌, slice_index_or, All, Contains}
use Rattle.std.proofs.lemmas.Bool.{cases_lt}
use Rattle.std.proofs.lemmas.List.Elements.{All-map, Contains-get_or}
use Rattle.lubase.specs.Reach.{IsWithin}
use Rattle.lubase.specs.Search.{Has}
use Rattle.luworld.specs.Needs.{PlanView, sites_of, IsPlan}
use Rattle.luworld.proofs.Fitting.{fits}
use Rattle.luplace_report.specs.Cycles.{ends, Feeds, feeds, AreFed}
use Rattle.luplace_report.proofs.Causes.{sent}

-- the rows of the first n sites are right
pub record AreFedTo (plan : PlanView) (n : ℕ) (fed : List (List Bool)) : Type 0 where
  pub long : length fed ≡ n
  pub exact : (s t : ℕ) → s < n → t < sites_of plan → (feeds fed s t ≡ true) ↔ Feeds plan s t

pub fed_none : (plan : PlanView) → AreFedTo plan 0 []
fed_none plan = record { long = refl; exact = λ s t ls lt. absurd (omega arith) }

row_before : (g : List (List Bool)) (r : List Bool) (x : ℕ) → x < length g → slice_index_or (g ++ r ∷ []) x [] ≡ slice_index_or g x []
row_before [] r x lt = absurd (omega arith)
row_before (l ∷ g) r zero lt = refl
row_before (l ∷ g) r (suc x) lt = row_before g r x (omega arith)

row_behind : (g : List (List Bool)) (r : List Bool) (x : ℕ) → x ≡ length g → slice_index_or (g ++ r ∷ []) x [] ≡ r
row_behind [] r zero e = refl
row_behind [] r (suc x) e = absurd (omega arith)
row_behind (l ∷ g) r zero e = absurd (omega arith)
row_behind (l ∷ g) r (suc x) e = row_behind g r x (omega arith)

pub fed_more : (plan : PlanView) (n : ℕ) (fed new : List (List Bool)) (marks : List Bool) → AreFedTo plan n fed → new ≡ fed ++ marks ∷ [] → ((t : ℕ) → Has marks t ↔ Feeds plan n t) → AreFedTo plan (n + 1) new
fed_more plan n fed new marks before is exact = record {
  long = let e = ap length is in omega (arith, e, length-append fed (marks ∷ []), before.long);
  exact = λ s t ls lt. elim (cases_lt s n) [
    | inl l ↦
        let row = ap (λ g. slice_index_or g s []) is ∙ row_before fed marks s (omega (arith, before.long)) in
        subst (λ (r : List Bool). (slice_index_or r t false ≡ true) ↔ Feeds plan s t) (sym row) (before.exact s t l lt)
    | inr g ↦
        let e : n ≡ s = omega arith in
        let row = ap (λ g. slice_index_or g s []) is ∙ row_behind fed marks s (omega (arith, before.long)) in
        subst (λ (r : List Bool). (slice_index_or r t false ≡ true) ↔ Feeds plan s t) (sym row) (subst (λ v. Has marks t ↔ Feeds plan v t) e (exact t))
  ];
}

pub fed_whole : (plan : PlanView) (fed : List (List Bool)) → AreFedTo plan (sites_of plan) fed → AreFed plan fed
fed_whole plan fed all s t ls lt = all.exact s t ls lt

-- both ends of each link are sites
pub links_within : (plan : PlanView) → IsPlan plan → All (IsWithin (sites_of plan)) (map ends plan.links)
links_within plan ok = All-map (IsWithin (sites_of plan)) ends plan.links (λ k d l.
    let there : Contains plan.links (get_or plan.links k d) = Contains-get_or plan.links k d l in
    let is = sent plan ok (get_or plan.links k d) there in
    record { from = subst (λ h. h < sites_of plan) (sym is.3) ((fits plan ok).homes (get_or plan.links k d).flow); to = is.1 })
