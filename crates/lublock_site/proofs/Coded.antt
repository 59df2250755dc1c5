-- What a site has by its plan alone.
use Rattle.std.proofs.Common.{◌≡◌, ℕ, zero, suc, ◌+◌, Bool, true, false, cond, List, [], ◌∷◌, ◌++◌, map, filter, length, Option, Some, None, refl, sym, subst, ◌∙◌, ap, arith}
use Rattle.std.specs.Prelude.{slice_get, is_some, ◌==◌}
use Rattle.std.specs.List.{range_with_len}
use Rattle.std.proofs.lemmas.Bool.{eqb-true, eq-eqb, ne_eqb}
use Rattle.std.proofs.lemmas.List.{map-append}
use Rattle.std.proofs.lemmas.List.Elements.{filter-append}
use Rattle.std.proofs.lemmas.List.Quantifiers.{position-Some}
use Rattle.std.proofs.lemmas.Option.{get_or_from_slice_get, same_Some}
use Rattle.luflow.specs.Variables.{is_output_of}
use Rattle.luflow.proofs.Solutions.{some_at}
use Rattle.luworld.specs.declared.link.Link.{Link}
use Rattle.luworld.specs.Needs.{PlanView, home}
use Rattle.luworld.specs.Jobs.{is_into, link_into, outputs_of}
use Rattle.luworld.proofs.Rounds.{range_more}
use Rattle.lublock_site.specs.Marks.{marked}
use Rattle.lublock_site.specs.Codes.{AreTakenMarks, output_at}
use Rattle.lublock_site.proofs.Closed.{and_left, and_right}

-- Where the flow of each link that leads to the site is marked, all flows are that links bring.
pub taken_all : (plan : PlanView) (site : ℕ) (taken : List Bool) → ((j : ℕ) (x : Link) → slice_get plan.links j ≡ Some x → x.to ≡ site → marked taken x.flow ≡ true) → AreTakenMarks plan site taken
taken_all plan site taken each i there = go (link_into plan site i) refl there
  where
    go : (o : Option ℕ) → link_into plan site i ≡ o → is_some o ≡ true → marked taken i ≡ true
    go None e some = absurd (let f : false ≡ true = some in cc)
    go (Some k) e some =
        let none : Link = record { flow = 0; from = 0; to = 0 } in
        let p = position-Some (is_into site i) plan.links k none e in
        let x = some_at plan.links k p.0 in
        let is : is_into site i x.0 ≡ true = subst (λ (y : Link). is_into site i y ≡ true) (get_or_from_slice_get plan.links k x.0 none x.1) p.1 in
        let flow : x.0.flow ≡ i = eqb-true x.0.flow i (and_left (x.0.flow == i) (x.0.to == site) is) in
        subst (λ (r : ℕ). marked taken r ≡ true) flow (each k x.0 x.1 (eqb-true x.0.to site (and_right (x.0.flow == i) (x.0.to == site) is)))

-- one variable more, which is an output or isn't
module _ (f : ℕ → Option ℕ) (p : ℕ → Bool) (n : ℕ) where
  more : (b : Bool) → p n ≡ b → map f (filter p (range_with_len 0 (n + 1))) ≡ map f (filter p (range_with_len 0 n)) ++ map f (cond b (n ∷ []) [])
  more b is =
      let z : 0 + n ≡ n = omega arith in
      ap (λ (xs : List ℕ). map f (filter p xs)) (range_more 0 n ∙ ap (λ (k : ℕ). range_with_len 0 n ++ k ∷ []) z)
      ∙ ap (map f) (filter-append p (range_with_len 0 n) (n ∷ []) ∙ ap (λ (c : Bool). filter p (range_with_len 0 n) ++ cond c (n ∷ []) []) is)
      ∙ map-append f (filter p (range_with_len 0 n)) (cond b (n ∷ []) [])

  pub one_more : p n ≡ true → map f (filter p (range_with_len 0 (n + 1))) ≡ map f (filter p (range_with_len 0 n)) ++ f n ∷ []
  one_more is = more true is

  pub none_more : p n ≡ false → map f (filter p (range_with_len 0 (n + 1))) ≡ map f (filter p (range_with_len 0 n))
  none_more is = more false is ∙ append_none (map f (filter p (range_with_len 0 n)))
    where
      append_none : (xs : List (Option ℕ)) → xs ++ [] ≡ xs
      append_none [] = refl
      append_none (x ∷ xs) = ap (λ (ys : List (Option ℕ)). x ∷ ys) (append_none xs)

-- what passes a filter
filtered : (p : ℕ → Bool) (xs : List ℕ) (k i : ℕ) → slice_get (filter p xs) k ≡ Some i → p i ≡ true
filtered p [] k i e = absurd cc
filtered p (x ∷ xs) k i e = go (p x) refl k e (filtered p xs)
  where
    go : (b : Bool) → p x ≡ b → (k : ℕ) → slice_get (cond b (x ∷ filter p xs) (filter p xs)) k ≡ Some i → ((k i : ℕ) → slice_get (filter p xs) k ≡ Some i → p i ≡ true) → p i ≡ true
    go true is zero there rest = ap p (sym (same_Some x i there)) ∙ is
    go true is (suc k) there rest = rest k i there
    go false is k there rest = rest k i there

pub output_is : (plan : PlanView) (k i : ℕ) → slice_get (outputs_of plan) k ≡ Some i → is_output_of plan.flat i ≡ true
output_is plan k i there = filtered (is_output_of plan.flat) (range_with_len 0 (length plan.flat.variables)) k i there

-- an output as its home has it, and as another site does
pub output_home : (plan : PlanView) (site v : ℕ) → home plan v ≡ site → output_at plan site v ≡ Some v
output_home plan site v is = ap (λ (b : Bool). cond b (Some v) None) (eq-eqb (home plan v) site is)

pub output_elsewhere : (plan : PlanView) (site v : ℕ) → (home plan v ≡ site → ⊥) → output_at plan site v ≡ None
output_elsewhere plan site v other = ap (λ (b : Bool). cond b (Some v) None) (ne_eqb (home plan v) site other)
