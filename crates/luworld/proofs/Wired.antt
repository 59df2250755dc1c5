-- A plan's system is wired.
use Rattle.std.proofs.Common.{◌≡◌, ℕ, zero, suc, ◌≤◌, Bool, true, false, cond, List, [], ◌∷◌, ◌++◌, nat_eq, flat_map, slice_get, Some, refl, sym, ap, ap₂, ◌∙◌, subst, arith}
use Rattle.std.proofs.lemmas.Bool.{eqb-true, ne_eqb}
use Rattle.std.proofs.lemmas.Option.{same_Some, none-some}
use Rattle.luworld.specs.Systems.{Item, Compute, Puts, Takes, IsWired}
use Rattle.luworld.specs.Outline.{Outline, IsOutline, full_script, script, cut, stops, system, Event, Computed, Passed, part, events}
use Rattle.luworld.proofs.Parts.{script_parts}

-- P holds of each element
abbrev pub Each : {X : Type 0} → (X → Type 0) → List X → Type 0
Each P [] = Unit {0}
Each P (x ∷ xs) = P x × Each P xs

pub each_append : {X : Type 0} (P : X → Type 0) (xs ys : List X) → Each P xs → Each P ys → Each P (xs ++ ys)
each_append P [] ys a b = b
each_append P (x ∷ xs) ys a b = (a.0, each_append P xs ys a.1 b)

pub each_flat_map : {X Y : Type 0} (P : Y → Type 0) (f : X → List Y) → ((x : X) → Each P (f x)) → (xs : List X) → Each P (flat_map f xs)
each_flat_map P f each [] = tt
each_flat_map P f each (x ∷ xs) = each_append P (f x) (flat_map f xs) (each x) (each_flat_map P f each xs)

pub each_at : {X : Type 0} (P : X → Type 0) (xs : List X) → Each P xs → (i : ℕ) (x : X) → slice_get xs i ≡ Some x → P x
each_at P [] each i x here = absurd (none-some x here)
each_at P (y ∷ xs) each zero x here = subst P (same_Some y x here) each.0
each_at P (y ∷ xs) each (suc i) x here = each_at P xs each.1 i x here

each_cut : (plan : Outline) (P : Item → Type 0) (before items : List Item) → Each P items → Each P (cut plan before items)
each_cut plan P before [] each = tt
each_cut plan P before (item ∷ items) each = (each.0, go (stops plan before item) (each_cut plan P (before ++ item ∷ []) items each.1))
  where
    go : (b : Bool) → Each P (cut plan (before ++ item ∷ []) items) → Each P (cond b [] (cut plan (before ++ item ∷ []) items))
    go true rest = tt
    go false rest = rest

flat_map_none : {X Y : Type 0} (f : X → List Y) → ((x : X) → f x ≡ []) → (xs : List X) → flat_map f xs ≡ []
flat_map_none f none [] = refl
flat_map_none f none (x ∷ xs) = ap₂ (λ ys zs. ys ++ zs) (none x) (flat_map_none f none xs)

module _ (plan : Outline) where
  abbrev StandsAt : ℕ → Item → Type 0
  StandsAt site (Compute flow instant) = Unit {0}
  StandsAt site (Puts link) = site ≡ plan.home (plan.flow_of link)
  StandsAt site (Takes link) = site ≡ plan.receiver link

  part_stands : (site : ℕ) (event : Event) → Each (StandsAt site) (part plan site event)
  part_stands site (Computed flow instant) = go (plan.stands flow site)
    where
      go : (b : Bool) → Each (StandsAt site) (cond b (Compute flow instant ∷ []) [])
      go true = (tt, tt)
      go false = tt
  part_stands site (Passed link) = go (nat_eq (plan.home (plan.flow_of link)) site) refl
    where
      taken : (b : Bool) → nat_eq (plan.receiver link) site ≡ b → Each (StandsAt site) (cond b (Takes link ∷ []) [])
      taken true e = (sym (eqb-true _ _ e), tt)
      taken false e = tt

      go : (b : Bool) → nat_eq (plan.home (plan.flow_of link)) site ≡ b → Each (StandsAt site) (cond b (Puts link ∷ []) (cond (nat_eq (plan.receiver link) site) (Takes link ∷ []) []))
      go true e = (sym (eqb-true _ _ e), tt)
      go false e = taken (nat_eq (plan.receiver link) site) refl

  script_stands : (site : ℕ) → Each (StandsAt site) (script plan site)
  script_stands site = each_cut plan (StandsAt site) [] (full_script plan site) (subst (Each (StandsAt site)) (sym (script_parts plan site)) (each_flat_map (StandsAt site) (part plan site) (part_stands site) (events plan)))

  module _ (ok : IsOutline plan) where
    part_none : (site : ℕ) → plan.sites ≤ site → (event : Event) → part plan site event ≡ []
    part_none site past (Computed flow instant) = go (plan.stands flow site) refl
      where
        go : (b : Bool) → plan.stands flow site ≡ b → cond b (Compute flow instant ∷ []) [] ≡ []
        go true e = absurd (let l = ok.stands_within flow site e in omega (arith, l, past))
        go false e = refl
    part_none site past (Passed link) =
        let h : nat_eq (plan.home (plan.flow_of link)) site ≡ false = ne_eqb _ _ (λ e. omega (arith, ok.home_within (plan.flow_of link), e, past)) in
        let r : nat_eq (plan.receiver link) site ≡ false = ne_eqb _ _ (λ e. omega (arith, ok.receiver_within link, e, past)) in
        ap₂ (λ (a : Bool) (b : Bool). cond a (Puts link ∷ []) (cond b (Takes link ∷ []) [])) h r

    pub wired : IsWired (system plan)
    wired = record {
      put_by_sender = λ site place link here. each_at (StandsAt site) (script plan site) (script_stands site) place (Puts link) here;
      taken_by_receiver = λ site place link here. each_at (StandsAt site) (script plan site) (script_stands site) place (Takes link) here;
      no_more_sites = λ site past. ap (cut plan []) (script_parts plan site ∙ flat_map_none (part plan site) (part_none site past) (events plan));
    }
