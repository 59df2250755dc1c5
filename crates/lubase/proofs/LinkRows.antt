-- The lists of what each number is linked to.
use Rattle.std.proofs.Common.{◌≡◌, ◌≢◌, inl, inr, ℕ, List, [], ◌∷◌, ◌++◌, sym, ◌∙◌, ap, subst, arith, Contains}
use Rattle.std.proofs.lemmas.List.Elements.{Contains-push, Contains-push_cases, Contains-append_left}
use Rattle.lubase.specs.Graph.{Graph, row_of}
use Rattle.lubase.proofs.Marks.{same_or_not}
use Rattle.lubase.specs.declared.link.Link.{Link}
use Rattle.lubase.specs.Reach.{link}
use Rattle.lubase.specs.ReachStates.{HasRows}

none_in : (v : ℕ) → Contains [] v → ⊥
none_in v h = omega (arith, h.1)

pub no_links : (rows : Graph) → ((v : ℕ) → row_of rows v ≡ []) → HasRows rows []
no_links rows empty u v =
    (λ h. absurd (none_in v (subst (λ xs. Contains xs v) (empty u) h)), λ h. absurd (omega (arith, h.1)))

pub one_more : (rows new : Graph) (links : List Link) (l : Link) → HasRows rows links → row_of new l.from ≡ row_of rows l.from ++ l.to ∷ [] →
    ((other : ℕ) → other ≢ l.from → row_of new other ≡ row_of rows other) → HasRows new (links ++ l ∷ [])
one_more rows new links l has pushed others u v = (there, back) where
  there : Contains (row_of new u) v → Contains (links ++ l ∷ []) (link u v)
  there h =
      elim (same_or_not u l.from) [
        | inl e ↦
            elim (Contains-push_cases (row_of rows l.from) l.to v (subst (λ xs. Contains xs v) (ap (row_of new) e ∙ pushed) h)) [
              | inl old ↦ Contains-append_left links (l ∷ []) (link u v) ((has u v).0 (subst (λ w. Contains (row_of rows w) v) (sym e) old))
              | inr f ↦
                  let same : link l.from l.to ≡ link u v = ap (λ a. link a l.to) (sym e) ∙ ap (λ b. link u b) f in
                  subst (λ (k : Link). Contains (links ++ l ∷ []) k) same (Contains-push links l)
            ]
        | inr ne ↦ Contains-append_left links (l ∷ []) (link u v) ((has u v).0 (subst (λ xs. Contains xs v) (others u ne) h))
      ]

  old_row : Contains (row_of rows u) v → Contains (row_of new u) v
  old_row h =
      elim (same_or_not u l.from) [
        | inl e ↦
            subst (λ xs. Contains xs v) (sym (ap (row_of new) e ∙ pushed))
            (Contains-append_left (row_of rows l.from) (l.to ∷ []) v (subst (λ w. Contains (row_of rows w) v) e h))
        | inr ne ↦ subst (λ xs. Contains xs v) (sym (others u ne)) h
      ]

  back : Contains (links ++ l ∷ []) (link u v) → Contains (row_of new u) v
  back h =
      elim (Contains-push_cases links l (link u v) h) [
        | inl old ↦ old_row ((has u v).1 old)
        | inr e ↦
            let at_from : l.from ≡ u = ap (λ (k : Link). k.from) e in
            let at_to : l.to ≡ v = ap (λ (k : Link). k.to) e in
            subst (λ w. Contains (row_of new w) v) at_from (subst (λ w. Contains (row_of new l.from) w) at_to (subst (λ xs. Contains xs l.to) (sym pushed) (Contains-push (row_of rows l.from) l.to)))
      ]
