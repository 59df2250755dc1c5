-- The lists of main variables that stand in the way of rows.
use Rattle.std.proofs.Common.{◌≡◌, ℕ, zero, suc, ◌+◌, ◌<◌, ◌⊎◌, inl, inr, Bool, true, false, cond, List, [], ◌∷◌, ◌++◌, length, filter, Option, Some, refl, sym, ap, ◌∙◌, arith}
use Rattle.std.specs.Prelude.{Contains, slice_get, slice_index_or, unwrap_or, ◌==◌}
use Rattle.std.specs.List.{range_with_len}
use Rattle.std.specs.List.Sorted.{IsStrictlyIncreasing}
use Rattle.std.specs.Option.{option_map}
use Rattle.std.proofs.lemmas.List.{append-nil}
use Rattle.std.proofs.lemmas.List.FromFn.{length-range_with_len, get_or-range_with_len}
use Rattle.std.proofs.lemmas.List.Elements.{filter-append}
use Rattle.std.proofs.lemmas.List.Kept.{IsStrictlyIncreasing-filter}
use Rattle.std.proofs.lemmas.Bool.{true≢false, eq-eqb, eqb-true}
use Rattle.std.proofs.lemmas.Option.{slice_get-get_or}
use Rattle.luflow.specs.Program.{flows_of}
use Rattle.luflow.specs.Flats.{IsFlat}
use Rattle.luworld.specs.declared.link.Link.{Link}
use Rattle.luworld.specs.Needs.{PlanView, IsPlan}
use Rattle.luworld.proofs.Fitting.{fits}
use Rattle.lubase.specs.Graph.{Graph, MarksCycles}
use Rattle.luplace.specs.Classes.{class_in}
use Rattle.luplace.specs.Ways.{IsSent, IsInitialised, IsPartedVariable, IsSentNil, NoneParted, GoesByRows, AreAll}
use Rattle.luplace.specs.Layers.{AreLayers}
use Rattle.luplace.specs.Nils.{AreLeast}
use Rattle.luplace.specs.Sent.{marked, AreSentNils}
use Rattle.luplace.proofs.Listed.{contains_none, contains_filter, filter_contains}
use Rattle.luplace.proofs.Cycles.{parted_exactly, none_parted}

-- NUMBERS IN ORDER

range_more : (a n : ℕ) → range_with_len a (n + 1) ≡ range_with_len a n ++ (a + n) ∷ []
range_more a zero =
    let s : 0 + 1 ≡ suc 0 = refl in
    let z : a ≡ a + 0 = omega arith in
    ap (range_with_len a) s ∙ ap (λ x. x ∷ []) z
range_more a (suc n) =
    let s : suc n + 1 ≡ suc (n + 1) = omega arith in
    let z : a + 1 + n ≡ a + suc n = omega arith in
    ap (range_with_len a) s ∙ ap (λ xs. a ∷ xs) (range_more (a + 1) n ∙ ap (λ x. range_with_len (a + 1) n ++ x ∷ []) z)

marked_more : (marks : List Bool) (from v : ℕ) → marked marks from (v + 1) ≡ marked marks from v ++ cond (slice_index_or marks (from + v) false) (v ∷ []) []
marked_more marks from v =
    let p : ℕ → Bool = λ x. slice_index_or marks (from + x) false in
    let z : 0 + v ≡ v = omega arith in
    ap (filter p) (range_more 0 v) ∙ filter-append p (range_with_len 0 v) ((0 + v) ∷ []) ∙ ap (λ x. marked marks from v ++ cond (p x) (x ∷ []) []) z

pub marked_one : (marks : List Bool) (from v : ℕ) → slice_index_or marks (from + v) false ≡ true → marked marks from v ++ v ∷ [] ≡ marked marks from (v + 1)
marked_one marks from v e = ap (λ b. marked marks from v ++ cond b (v ∷ []) []) (sym e) ∙ sym (marked_more marks from v)

pub marked_none : (marks : List Bool) (from v : ℕ) → slice_index_or marks (from + v) false ≡ false → marked marks from v ≡ marked marks from (v + 1)
marked_none marks from v e =
    sym (append-nil (marked marks from v)) ∙ ap (λ b. marked marks from v ++ cond b (v ∷ []) []) (sym e) ∙ sym (marked_more marks from v)

range_in_order : (n : ℕ) → IsStrictlyIncreasing (range_with_len 0 n)
range_in_order n k lt =
    let l = length-range_with_len 0 n in
    let a = get_or-range_with_len 0 n k 0 (omega (arith, l, lt)) in
    let b = get_or-range_with_len 0 n (k + 1) 0 (omega (arith, l, lt)) in
    omega (arith, a, b)

range_below : (n v : ℕ) → Contains (range_with_len 0 n) v → v < n
range_below n v c =
    let l = length-range_with_len 0 n in
    let lt : c.0 < n = omega (arith, l, c.1) in
    let e = get_or-range_with_len 0 n c.0 v lt in
    omega (arith, lt, e, c.2)

range_has : (n v : ℕ) → v < n → Contains (range_with_len 0 n) v
range_has n v lt =
    let z : 0 + v ≡ v = omega arith in
    (v, omega (arith, length-range_with_len 0 n, lt), get_or-range_with_len 0 n v v lt ∙ z)

-- what marks name exactly is listed in order
all_marked : (P : ℕ → Type 0) (marks : List Bool) (from count : ℕ) → ((v : ℕ) → v < count → slice_index_or marks (from + v) false ≡ true → P v) → ((v : ℕ) → P v → (v < count) × (slice_index_or marks (from + v) false ≡ true)) → AreAll P (marked marks from count)
all_marked P marks from count there back =
    let p : ℕ → Bool = λ x. slice_index_or marks (from + x) false in
    record {
      in_order = IsStrictlyIncreasing-filter p (range_with_len 0 count) (range_in_order count);
      exactly = λ v. (
        (λ c. let k = filter_contains p v (range_with_len 0 count) c in there v (range_below count v k.there) k.passes),
        (λ h. let b = back v h in contains_filter p v (range_with_len 0 count) (range_has count v b.0) b.1),
      );
    }

-- PARTED CYCLES

pub parted_all : (plan : PlanView) → IsFlat plan.flat → (g : Graph) (marks : List Bool) → AreLayers plan g → MarksCycles g marks → AreAll (IsPartedVariable plan) (marked marks (flows_of plan.flat + flows_of plan.flat) (length plan.flat.variables))
parted_all plan ok g marks layers cycles =
    let n : ℕ = flows_of plan.flat in
    let main : ℕ = length plan.flat.variables in
    all_marked (IsPartedVariable plan) marks (n + n) main
    (λ v lt h.
    let lv : v < n = omega (arith, lt, ok.variables_first) in
    let inside : n + n + v < length g = omega (arith, lv, layers.long) in
    (lt, (parted_exactly plan ok g layers v lv).0 ((cycles (n + n + v) inside).0 h)))
    (λ v w.
    let lv : v < n = omega (arith, w.0, ok.variables_first) in
    let inside : n + n + v < length g = omega (arith, lv, layers.long) in
    (w.0, (cycles (n + n + v) inside).1 ((parted_exactly plan ok g layers v lv).1 w.1)))

pub none_listed : (plan : PlanView) → IsFlat plan.flat → AreAll (IsPartedVariable plan) [] → NoneParted plan
none_listed plan ok all = none_parted plan ok (λ v lt p. contains_none v ((all.exactly v).1 (lt, p)))

-- SENT AND MAYBE NIL

-- the link that sends a variable, by its number
record IsSentBy (plan : PlanView) (v : ℕ) : Type 0 where
  number : ℕ
  link : Link
  below : number < length plan.links
  there : slice_get plan.links number ≡ Some link
  carries : link.flow ≡ v

sent_by : (plan : PlanView) (v : ℕ) → IsSent plan v → IsSentBy plan v
sent_by plan v (link, c, e) = record { number = c.0; link = link; below = c.1; there = slice_get-get_or plan.links c.0 link c.1 ∙ ap (λ (x : Link). Some x) c.2; carries = e }

sent_main : (plan : PlanView) → IsPlan plan → (v : ℕ) → IsSent plan v → v < length plan.flat.variables
sent_main plan ok v sent =
    let by = sent_by plan v sent in
    let e = ap (λ (o : Option Link). unwrap_or (option_map (λ (x : Link). x.flow) o) 0) by.there in
    omega (arith, e, by.carries, (fits plan ok).carries by.number by.below)

module _ (plan : PlanView) (ok : IsPlan plan) (nils marks : List Bool) (least : AreLeast plan.flat nils) (reported : AreSentNils plan nils (length plan.links) marks) where
  abbrev main : ℕ
  main = length plan.flat.variables

  from_mark : (v : ℕ) → v < main → slice_index_or marks (0 + v) false ≡ true → IsSentNil plan v
  from_mark v lt h =
      let z : 0 + v ≡ v = omega arith in
      let there = sym (ap (λ x. slice_index_or marks x false) z) ∙ h in
      (reported.sent v there, λ class are. least.must class are v (omega (arith, lt, ok.flat_is.variables_first)) (reported.nil v there))

  to_mark : (v : ℕ) → IsSentNil plan v → (v < main) × (slice_index_or marks (0 + v) false ≡ true)
  to_mark v w =
      let by = sent_by plan v w.0 in
      let lt = sent_main plan ok v w.0 in
      let z : by.link.flow ≡ 0 + v = omega (arith, by.carries) in
      let nil : class_in nils by.link.flow ≡ true = ap (class_in nils) by.carries ∙ w.1 (class_in nils) least.meet in
      (lt, sym (ap (λ x. slice_index_or marks x false) z) ∙ reported.all by.number by.link by.below by.there (omega (arith, by.carries, lt, ok.flat_is.variables_first)) nil)

  pub nils_all : AreAll (IsSentNil plan) (marked marks 0 main)
  nils_all = all_marked (IsSentNil plan) marks 0 main from_mark to_mark

  pub nils_others : (v : ℕ) → IsSent plan v → Contains (marked marks 0 main) v ⊎ IsInitialised plan.flat v
  nils_others v sent = go (class_in nils v) refl
    where
      go : (b : Bool) → class_in nils v ≡ b → Contains (marked marks 0 main) v ⊎ IsInitialised plan.flat v
      go true e = inl ((nils_all.exactly v).1 (sent, λ class are. least.must class are v (let lt = sent_main plan ok v sent in omega (arith, lt, ok.flat_is.variables_first)) e))
      go false e = inr (class_in nils, least.meet, e)

-- whether a list that is counted has an element
pub some_from : (xs : List ℕ) (n : ℕ) → n ≡ length xs → (n == 0) ≡ false → 0 < length xs
some_from [] n e h = absurd (true≢false (sym (eq-eqb n 0 e) ∙ h))
some_from (x ∷ xs) n e h = omega arith

pub none_from : (xs : List ℕ) (n : ℕ) → n ≡ length xs → (n == 0) ≡ true → xs ≡ []
none_from [] n e h = refl
none_from (x ∷ xs) n e h = let z = eqb-true n 0 h in absurd (omega (arith, z, e))

-- where nothing stands in the way, a run goes by rows
pub rows_from : (plan : PlanView) → IsFlat plan.flat → AreAll (IsPartedVariable plan) [] → ((v : ℕ) → IsSent plan v → Contains [] v ⊎ IsInitialised plan.flat v) → GoesByRows plan
rows_from plan ok all others = record {
  together = none_listed plan ok all;
  initialised = λ v sent. elim (others v sent) [
    | inl c ↦ absurd (contains_none v c)
    | inr i ↦ i
  ];
}
