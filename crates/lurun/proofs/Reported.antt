-- Which fault reports name, one after the other.
use Rattle.std.proofs.Common.{◌≡◌, ℕ, ◌≤◌, List, [], ◌∷◌, ◌++◌, length, Option, Some, None, sym, subst, arith}
use Rattle.std.proofs.lemmas.List.Elements.{All-push}
use Rattle.lusite.specs.declared.next.Fault.{Fault as SiteFault}
use Rattle.lusite.specs.Sites.{SiteView}
use Rattle.lusite.specs.Machine.{IsFaultAt}
use Rattle.lurun.specs.Reports.{HasFaulted, NoneFaulted, IsLeastFault, IsLeast}
use Rattle.lurun.proofs.Lists.{slice_left, slice_seam, all_weaker}

-- the fault of the faulted site of least number, with one report more
pub least_new : (xs : List SiteView) (r : SiteView) (s : ℕ) (f : SiteFault) → NoneFaulted xs → HasFaulted r → IsFaultAt r.job r.site f → s ≡ r.site → IsLeastFault (xs ++ r ∷ []) s f
least_new xs r s f none bad is e = record {
  report = r;
  place = length xs;
  there = slice_seam xs r;
  of_site = sym e;
  faulted = bad;
  fault_is = subst (λ (n : ℕ). IsFaultAt r.job n f) (sym e) is;
  least = All-push (λ (q : SiteView). HasFaulted q → s ≤ q.site) xs r (all_weaker (λ (q : SiteView). HasFaulted q → ⊥) (λ (q : SiteView). HasFaulted q → s ≤ q.site) xs (λ q h bad. absurd (h bad)) none) (λ _. omega (arith, e));
}

pub least_kept : (xs : List SiteView) (r : SiteView) (s : ℕ) (f : SiteFault) → IsLeastFault xs s f → (HasFaulted r → s ≤ r.site) → IsLeastFault (xs ++ r ∷ []) s f
least_kept xs r s f is le = record {
  report = is.report;
  place = is.place;
  there = slice_left xs (r ∷ []) is.place is.report is.there;
  of_site = is.of_site;
  faulted = is.faulted;
  fault_is = is.fault_is;
  least = All-push (λ (q : SiteView). HasFaulted q → s ≤ q.site) xs r is.least le;
}

pub least_changed : (xs : List SiteView) (r : SiteView) (s : ℕ) (f : SiteFault) (t : ℕ) (g : SiteFault) → IsLeastFault xs t g → HasFaulted r → IsFaultAt r.job r.site f → s ≡ r.site → s ≤ t → IsLeastFault (xs ++ r ∷ []) s f
least_changed xs r s f t g was bad is e le = record {
  report = r;
  place = length xs;
  there = slice_seam xs r;
  of_site = sym e;
  faulted = bad;
  fault_is = subst (λ (n : ℕ). IsFaultAt r.job n f) (sym e) is;
  least = All-push (λ (q : SiteView). HasFaulted q → s ≤ q.site) xs r (all_weaker (λ (q : SiteView). HasFaulted q → t ≤ q.site) (λ (q : SiteView). HasFaulted q → s ≤ q.site) xs (λ q h bad. let w = h bad in omega (arith, w, le)) was.least) (λ _. omega (arith, e));
}

pub least_passed : (xs : List SiteView) (r : SiteView) (o : Option (ℕ × SiteFault)) → IsLeast xs o → (HasFaulted r → ⊥) → IsLeast (xs ++ r ∷ []) o
least_passed xs r None none fine = All-push (λ (q : SiteView). HasFaulted q → ⊥) xs r none fine
least_passed xs r (Some x) is fine = least_kept xs r x.0 x.1 is (λ bad. absurd (fine bad))
