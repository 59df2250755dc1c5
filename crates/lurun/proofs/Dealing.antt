-- Stations go to workers, and reports come back: each once.
use Rattle.std.proofs.Common.{◌≡◌, ℕ, zero, suc, ◌<◌, Bool, true, false, cond, filter, inl, inr, List, [], ◌∷◌, ◌++◌, length, map, Some, All, get_or, set, sym, ap, ◌∙◌, subst, append_assoc, append-nil}
use Rattle.std.specs.Prelude.{slice_get, slice_set, flat_map, swap_remove}
use Rattle.std.specs.List.Sorted.{IsPermutation}
use Rattle.std.proofs.lemmas.List.{length-map, map-append}
use Rattle.std.proofs.lemmas.Bool.{cases_eq}
use Rattle.std.proofs.lemmas.Option.{get_or_from_slice_get, slice_get_within}
use Rattle.std.proofs.lemmas.List.Concat.{flat_map-append}
use Rattle.std.proofs.lemmas.List.Elements.{All-push, All-same, All-head, All-tail, All-nil, All-get_or}
use Rattle.std.proofs.lemmas.List.Sorted.{IsPermutation-refl, IsPermutation-sym, IsPermutation-trans, IsPermutation-middle, IsPermutation-append_left, IsPermutation-append_right, IsPermutation-pop_more, IsPermutation-swap_remove, length_permutation}
use Rattle.lusite_program.proofs.Written.{slice_get-set_same, slice_get-set_other}
use Rattle.lurun.specs.Stations.{StationView, ReportView, AreReportsOf}
use Rattle.lurun.specs.Crew.{AreReportedSoFar, reported}
use Rattle.lurun.proofs.Lists.{same_one}

-- a fact of each element, as a list grows at its end or loses its head
pub after_push : {A : Type 0} (P : A → Type 0) (xs ys : List A) (x : A) → ys ≡ xs ++ x ∷ [] → All P xs → P x → All P ys
after_push P xs ys x e all p = All-same P ys _ e (All-push P xs x all p)

pub after_next : {A : Type 0} (P : A → Type 0) (xs rest : List A) (x : A) → xs ≡ x ∷ rest → All P xs → P x × All P rest
after_next P xs rest x e all = let h = All-same P (x ∷ rest) xs (sym e) all in (All-head P x rest h, All-tail P x rest h)

module _ {A B : Type 0} (f : A → List B) where
  -- one more share
  pub flat_push : (xs ys : List A) (x : A) → ys ≡ xs ++ x ∷ [] → flat_map f ys ≡ flat_map f xs ++ f x
  flat_push xs ys x e = ap (flat_map f) e ∙ flat_map-append f xs (x ∷ []) ∙ ap (λ zs. flat_map f xs ++ zs) (append-nil (f x))

  -- one of the shares has one thing more
  pub one_dealt : (xs : List A) (i : ℕ) (x y : A) (b : B) → slice_get xs i ≡ Some x → f y ≡ f x ++ b ∷ [] → IsPermutation (b ∷ flat_map f xs) (flat_map f (slice_set xs i y))
  one_dealt [] i x y b e g = absurd cc
  one_dealt (z ∷ xs) zero x y b e g =
      let same : f z ≡ f x = ap f (same_one z x e) in
      let r = flat_map f xs in
      let all : f y ++ r ≡ f z ++ (b ∷ r) = ap (λ zs. zs ++ r) (g ∙ ap (λ zs. zs ++ b ∷ []) (sym same)) ∙ append_assoc (f z) (b ∷ []) r in
      subst (IsPermutation (b ∷ (f z ++ r))) (sym all) (IsPermutation-sym (f z ++ b ∷ r) (b ∷ (f z ++ r)) (IsPermutation-middle (f z) b r))
  one_dealt (z ∷ xs) (suc i) x y b e g =
      let r = flat_map f xs in
      let s = flat_map f (slice_set xs i y) in
      IsPermutation-trans (b ∷ (f z ++ r)) (f z ++ b ∷ r) (f z ++ s) (IsPermutation-sym (f z ++ b ∷ r) (b ∷ (f z ++ r)) (IsPermutation-middle (f z) b r)) (IsPermutation-append_right (f z) (b ∷ r) s (one_dealt xs i x y b e g))

pub at_all : {A : Type 0} (P : A → Type 0) (xs : List A) (i : ℕ) (x : A) → slice_get xs i ≡ Some x → All P xs → P x
at_all P xs i x e all = subst P (get_or_from_slice_get xs i x x e) (All-get_or P xs i x (slice_get_within xs i x e) all)

pub all_of_none : {A : Type 0} (P : A → Type 0) (xs : List A) → xs ≡ [] → All P xs
all_of_none P xs e = All-same P xs [] e (All-nil P)

-- a numbered fact of each share, where one is another now
pub one_share : {A : Type 0} (P : ℕ → A → Type 0) (xs ys : List A) (to : ℕ) (x y : A) → slice_get xs to ≡ Some x → ys ≡ slice_set xs to y → (P to x → P to y) → ((i : ℕ) (z : A) → slice_get xs i ≡ Some z → P i z) → (i : ℕ) (z : A) → slice_get ys i ≡ Some z → P i z
one_share P xs ys to x y here is new each i z e = elim (cases_eq i to) [
  | inl same ↦
      let at = ap (slice_get (set xs to y)) same ∙ slice_get-set_same xs to y (slice_get_within xs to x here) in
      let found : y ≡ z = same_one y z (sym at ∙ ap (λ zs. slice_get zs i) (sym is) ∙ e) in
      subst (P i) found (subst (λ (n : ℕ). P n y) (sym same) (new (each to x here)))
  | inr ne ↦ each i z (sym (slice_get-set_other xs to i y ne) ∙ ap (λ zs. slice_get zs i) (sym is) ∙ e)
]

-- a worker has started with the first of the shares that are left, which has a station; or that has none
pub started_with : {W H : Type 0} (f : W → H) (p : H → Bool) (ws more : List W) (w : W) (left rest : List H) (x : H) (all : List H) → more ≡ ws ++ w ∷ [] → left ≡ x ∷ rest → f w ≡ x → p x ≡ true → map f ws ++ filter p left ≡ all → map f more ++ filter p rest ≡ all
started_with f p ws more w left rest x all e next same there was =
    let kept : filter p left ≡ x ∷ filter p rest = ap (filter p) next ∙ ap (λ b. cond b (x ∷ filter p rest) (filter p rest)) there in
    ap (λ vs. map f vs ++ filter p rest) e ∙ ap (λ bs. bs ++ filter p rest) (map-append f ws (w ∷ [])) ∙ append_assoc (map f ws) (f w ∷ []) (filter p rest) ∙ ap (λ b. map f ws ++ b ∷ filter p rest) same ∙ ap (λ bs. map f ws ++ bs) (sym kept) ∙ was

pub passed_over : {W H : Type 0} (f : W → H) (p : H → Bool) (ws : List W) (left rest : List H) (x : H) (all : List H) → left ≡ x ∷ rest → p x ≡ false → map f ws ++ filter p left ≡ all → map f ws ++ filter p rest ≡ all
passed_over f p ws left rest x all next none was =
    let kept : filter p left ≡ filter p rest = ap (filter p) next ∙ ap (λ b. cond b (x ∷ filter p rest) (filter p rest)) none in
    ap (λ bs. map f ws ++ bs) (sym kept) ∙ was

-- one of those that are left is dealt
pub dealt_on : {B : Type 0} (all done more left rest : List B) (b : B) → left ≡ b ∷ rest → IsPermutation all (done ++ left) → IsPermutation (b ∷ done) more → IsPermutation all (more ++ rest)
dealt_on all done more left rest b e p q =
    IsPermutation-trans all (done ++ b ∷ rest) (more ++ rest) (subst (λ ls. IsPermutation all (done ++ ls)) e p)
    (IsPermutation-trans (done ++ b ∷ rest) (b ∷ (done ++ rest)) (more ++ rest) (IsPermutation-middle done b rest) (IsPermutation-append_left rest (b ∷ done) more q))

pub all_dealt : {B : Type 0} (all done left : List B) → left ≡ [] → IsPermutation all (done ++ left) → IsPermutation all done
all_dealt all done left e p = subst (IsPermutation all) (ap (λ ls. done ++ ls) e ∙ append-nil done) p

none_dealt : {B : Type 0} (all done : List B) → done ≡ [] → IsPermutation all (done ++ all)
none_dealt all done e = subst (λ ds. IsPermutation all (ds ++ all)) (sym e) (IsPermutation-refl all)

pub nothing_dealt : {B : Type 0} (all done left : List B) → done ≡ [] → left ≡ all → IsPermutation all (done ++ left)
nothing_dealt all done left e same = subst (λ ls. IsPermutation all (done ++ ls)) (sym same) (none_dealt all done e)

-- a worker has started with the first of the shares that are left
pub started_on : {W H B : Type 0} (f : W → List B) (h : H → List B) (ws more : List W) (w : W) (left rest : List H) (x : H) (all : List B) → more ≡ ws ++ w ∷ [] → left ≡ x ∷ rest → f w ≡ h x → flat_map f ws ++ flat_map h left ≡ all → flat_map f more ++ flat_map h rest ≡ all
started_on f h ws more w left rest x all e next same was =
    ap (λ ps. ps ++ flat_map h rest) (flat_push f ws more w e ∙ ap (λ ps. flat_map f ws ++ ps) same) ∙ append_assoc (flat_map f ws) (h x) (flat_map h rest) ∙ ap (λ hs. flat_map f ws ++ flat_map h hs) (sym next) ∙ was

-- ---- reports

module _ (all : List StationView) where
  -- a station leaves, and its report goes behind the others
  pub report_moved : (left rest : List StationView) (reports more : List ReportView) (i : ℕ) (x : StationView) (r : ReportView) → AreReportedSoFar all reports left → i < length left → x ≡ get_or left i x → rest ≡ swap_remove left i x → r.of ≡ x → more ≡ reports ++ r ∷ []
      → AreReportedSoFar all more rest
  report_moved left rest reports more i x r p l is e of m =
      let out : IsPermutation left (x ∷ rest) = subst (λ ys. IsPermutation left (x ∷ ys)) (sym e) (IsPermutation-swap_remove left i x l is) in
      let here : IsPermutation left (r.of ∷ rest) = subst (λ (y : StationView). IsPermutation left (y ∷ rest)) (sym of) out in
      subst (λ rs. IsPermutation all (rs ++ rest)) (sym (ap reported m ∙ map-append (λ (q : ReportView). q.of) reports (r ∷ []))) (IsPermutation-pop_more all (reported reports) left rest r.of p here)

  -- the reports of a worker go behind the others
  pub reports_moved : (left rest stations : List StationView) (reports part more : List ReportView) → AreReportedSoFar all reports left → left ≡ stations ++ rest → AreReportsOf stations part → more ≡ reports ++ part → AreReportedSoFar all more rest
  reports_moved left rest stations reports part more p e are m =
      let rs = reported reports in
      let ps = reported part in
      let step : IsPermutation (rs ++ left) ((rs ++ ps) ++ rest) =
      subst (λ ls. IsPermutation (rs ++ ls) ((rs ++ ps) ++ rest)) (sym e)
      (subst (IsPermutation (rs ++ (stations ++ rest))) (sym (append_assoc rs ps rest)) (IsPermutation-append_right rs (stations ++ rest) (ps ++ rest) (IsPermutation-append_left rest stations ps are))) in
      subst (λ xs. IsPermutation all (xs ++ rest)) (sym (ap reported m ∙ map-append (λ (q : ReportView). q.of) reports part)) (IsPermutation-trans all (rs ++ left) ((rs ++ ps) ++ rest) p step)

  -- no report yet, and all stations are left
  pub none_reported : (left : List StationView) (reports : List ReportView) → reports ≡ [] → left ≡ all → AreReportedSoFar all reports left
  none_reported left reports e same = nothing_dealt all (reported reports) left (ap reported e) same

  -- a report of each, and no station is left
  pub all_reported : (left : List StationView) (reports : List ReportView) → left ≡ [] → AreReportedSoFar all reports left → AreReportsOf all reports
  all_reported left reports e p = all_dealt all (reported reports) left e p

  -- stations that are dealt are reported
  pub dealt_reports : (held : List StationView) (reports : List ReportView) → IsPermutation all held → AreReportsOf held reports → AreReportsOf all reports
  dealt_reports held reports p are = IsPermutation-trans all held (reported reports) p are

pub part_length : (stations : List StationView) (part : List ReportView) → AreReportsOf stations part → length part ≡ length stations
part_length stations part are = sym (length-map part (λ (q : ReportView). q.of)) ∙ length_permutation stations (reported part) are
