-- Chains of clocks, followed by links.
use Rattle.std.proofs.Common.{◌≡◌, ◌<◌, inl, inr, ◌∙◌, ◌+◌, ℕ, List, [], ◌∷◌, ◌++◌, Option, Some, None, length, refl, sym, ap, subst, arith, All, Contains}
use Rattle.std.specs.Option.{option_map}
use Rattle.std.specs.Prelude.{slice_get}
use Rattle.std.proofs.lemmas.Option.{slice_get-map, slice_get_within}
use Rattle.std.proofs.lemmas.List.Elements.{Contains-push, Contains-push_cases, Contains-append_left, All-weaker, All-contains_itself}
use Rattle.lutree.specs.Tree.{DeclarationTree, NodeTree}
use Rattle.lustat_rules.specs.Scope.{Clock, declarations_of, names_of, first_declared, meaning, clock_of}
use Rattle.lustat_rules.specs.Clocks.{Ends, at_base, after}
use Rattle.lubase.proofs.Marks.{same_or_not}
use Rattle.lubase.specs.declared.link.Link.{Link}
use Rattle.lubase.specs.Reach.{link, IsWithin, IsReached, start, along}
use Rattle.lubase.specs.Places.{first_place}
use Rattle.lubase.proofs.Finding.{there}
use Rattle.lustat_rules.proofs.Declared.{first_at_place}
use Rattle.lubase.proofs.Sought.{at}
use Rattle.lustat_rules.specs.ClockRefs.{place_before}
use Rattle.lustat_clocks.specs.Chains.{AreBased, AreClocked}
use Rattle.lustat_rules.proofs.Lent.{same_some}

-- ONE MORE DECLARATION

module _ (ds : List DeclarationTree) (k : ℕ) (d : DeclarationTree) (here : slice_get ds k ≡ Some d) where
  same_here : (i : ℕ) (e : DeclarationTree) → i ≡ k → slice_get ds i ≡ Some e → d ≡ e
  same_here i e same found = same_some d e (sym here ∙ ap (slice_get ds) (sym same) ∙ found)

  pub based_push : (starts : List ℕ) → AreBased ds k starts → d.clock ≡ None → AreBased ds (k + 1) (starts ++ k ∷ [])
  based_push starts a none i = (
    λ h. elim (Contains-push_cases starts k i h) [
      | inl x ↦ let old = (a i).0 x in (omega (arith, old.0), old.1)
      | inr e ↦ (omega (arith, e), (d, ap (slice_get ds) (sym e) ∙ here, none))
    ],
    λ h. elim (same_or_not i k) [
      | inl e ↦ subst (Contains (starts ++ k ∷ [])) (sym e) (Contains-push starts k)
      | inr ne ↦ Contains-append_left starts (k ∷ []) i ((a i).1 (omega (arith, h.0, ne), h.1))
    ],
  )

  pub based_skip : (starts : List ℕ) → AreBased ds k starts → (d.clock ≡ None → ⊥) → AreBased ds (k + 1) starts
  based_skip starts a some i = (
    λ h. let old = (a i).0 h in (omega (arith, old.0), old.1),
    λ h. elim (same_or_not i k) [
      | inl e ↦ absurd (some (ap (λ (x : DeclarationTree). x.clock) (same_here i h.1.0 e h.1.1) ∙ h.1.2))
      | inr ne ↦ (a i).1 (omega (arith, h.0, ne), h.1)
    ],
  )

  pub clocked_push : (n : NodeTree) (w : ℕ) (links : List Link) → AreClocked n ds k links → place_before n d.clock ≡ Some w → AreClocked n ds (k + 1) (links ++ link w k ∷ [])
  clocked_push n w links a before u v = (
    λ h. elim (Contains-push_cases links (link w k) (link u v) h) [
      | inl x ↦ let old = (a u v).0 x in (omega (arith, old.0), old.1)
      | inr e ↦
          let from : w ≡ u = ap (λ (l : Link). l.from) e in
          let to : k ≡ v = ap (λ (l : Link). l.to) e in
          (omega (arith, to), (d, ap (slice_get ds) (sym to) ∙ here, before ∙ ap Some from))
    ],
    λ h. elim (same_or_not v k) [
      | inl e ↦
          let from : w ≡ u = same_some w u (sym before ∙ ap (λ (x : DeclarationTree). place_before n x.clock) (same_here v h.1.0 e h.1.1) ∙ h.1.2) in
          subst (Contains (links ++ link w k ∷ [])) (ap (λ x. link x k) from ∙ ap (link u) (sym e)) (Contains-push links (link w k))
      | inr ne ↦ Contains-append_left links (link w k ∷ []) (link u v) ((a u v).1 (omega (arith, h.0, ne), h.1))
    ],
  )

  pub clocked_skip : (n : NodeTree) (links : List Link) → AreClocked n ds k links → place_before n d.clock ≡ None → AreClocked n ds (k + 1) links
  clocked_skip n links a none u v = (
    λ h. let old = (a u v).0 h in (omega (arith, old.0), old.1),
    λ h. elim (same_or_not v k) [
      | inl e ↦ absurd (none_some (sym none ∙ ap (λ (x : DeclarationTree). place_before n x.clock) (same_here v h.1.0 e h.1.1) ∙ h.1.2))
      | inr ne ↦ (a u v).1 (omega (arith, h.0, ne), h.1)
    ],
  ) where
    none_some : None ≡ Some u → ⊥
    none_some e = cc

pub none_based : (ds : List DeclarationTree) → AreBased ds 0 []
none_based ds i = (λ h. absurd (omega (arith, h.1)), λ h. absurd (omega (arith, h.0)))

pub none_clocked : (n : NodeTree) (ds : List DeclarationTree) → AreClocked n ds 0 []
none_clocked n ds u v = (λ h. absurd (omega (arith, h.1)), λ h. absurd (omega (arith, h.0)))

-- CHAINS

-- a name that has a place is declared there
named_at : (ds : List DeclarationTree) (x : List ℕ) (u : ℕ) → first_place (names_of ds) x ≡ Some u → (e : DeclarationTree) × (slice_get ds u ≡ Some e)
named_at ds x u place = by_option (slice_get ds u) refl where
  missing : slice_get ds u ≡ None → ⊥
  missing h = none_some (sym (slice_get-map (λ (d : DeclarationTree). d.name) ds u ∙ ap (option_map (λ (d : DeclarationTree). d.name)) h) ∙ there (names_of ds) x u place) where
    none_some : None ≡ Some x → ⊥
    none_some e = cc

  by_option : (o : Option DeclarationTree) → slice_get ds u ≡ o → (e : DeclarationTree) × (slice_get ds u ≡ Some e)
  by_option None h = absurd (missing h)
  by_option (Some e) h = (e, h)

pub place_within : (ds : List DeclarationTree) (x : List ℕ) (u : ℕ) → first_place (names_of ds) x ≡ Some u → u < length ds
place_within ds x u place = let e = named_at ds x u place in slice_get_within ds u e.0 e.1

-- a name that means something has a place
placed : (ds : List DeclarationTree) (x : List ℕ) (e : DeclarationTree) → first_declared ds x ≡ Some e → (u : ℕ) × (first_place (names_of ds) x ≡ Some u) × (slice_get ds u ≡ Some e)
placed ds x e means = by_option (first_place (names_of ds) x) refl where
  none_some : None ≡ Some e → ⊥
  none_some h = cc

  by_option : (o : Option ℕ) → first_place (names_of ds) x ≡ o → (u : ℕ) × (first_place (names_of ds) x ≡ Some u) × (slice_get ds u ≡ Some e)
  by_option None h = absurd (none_some (sym (ap (at ds) h) ∙ first_at_place ds x ∙ means))
  by_option (Some u) h = (u, h, sym (ap (at ds) h) ∙ first_at_place ds x ∙ means)

module _ (n : NodeTree) (k : ℕ) (starts : List ℕ) (links : List Link) (based : AreBased (declarations_of n) k starts) (clocked : AreClocked n (declarations_of n) k links) where
  before : (j : Clock) (u : ℕ) → place_before n j ≡ Some u → ((e : DeclarationTree) → slice_get (declarations_of n) u ≡ Some e → Ends n e.clock) → Ends n j
  before None u place ih = absurd (none_some place) where
    none_some : None ≡ Some u → ⊥
    none_some h = cc
  before (Some c) u place ih =
      let found = named_at (declarations_of n) c.variable u place in
      let means : meaning n c.variable ≡ Some found.0 = sym (first_at_place (declarations_of n) c.variable) ∙ ap (at (declarations_of n)) place ∙ found.1 in
      after c found.0.clock (ap (option_map (λ (d : DeclarationTree). d.clock)) means) (ih found.0 found.1)

  -- a clock that is reached ends
  pub ends : (i : ℕ) → IsReached starts links i → (d : DeclarationTree) → slice_get (declarations_of n) i ≡ Some d → Ends n d.clock
  ends _ (start i h) d here =
      let found = ((based i).0 h).1 in
      let same : found.0 ≡ d = same_some found.0 d (sym found.1 ∙ here) in
      subst (Ends n) (sym found.2 ∙ ap (λ (x : DeclarationTree). x.clock) same) at_base
  ends _ (along u v r h) d here =
      let found = ((clocked u v).0 h).1 in
      let same : found.0 ≡ d = same_some found.0 d (sym found.1 ∙ here) in
      before d.clock u (ap (λ (x : DeclarationTree). place_before n x.clock) (sym same) ∙ found.2) (λ e at_u. ends u r e at_u)

  clock_means : (x : List ℕ) (j : Clock) → clock_of n x ≡ Some j → (e : DeclarationTree) × (meaning n x ≡ Some e) × (e.clock ≡ j)
  clock_means x j h = by_option (meaning n x) refl where
    none_some : None ≡ Some j → ⊥
    none_some e = cc

    by_option : (o : Option DeclarationTree) → meaning n x ≡ o → (e : DeclarationTree) × (meaning n x ≡ Some e) × (e.clock ≡ j)
    by_option None m = absurd (none_some (sym (ap (option_map (λ (d : DeclarationTree). d.clock)) m) ∙ h))
    by_option (Some e) m = (e, m, same_some e.clock j (sym (ap (option_map (λ (d : DeclarationTree). d.clock)) m) ∙ h))

  -- a clock that ends is reached
  pub reaches : (whole : length (declarations_of n) ≡ k) (j : Clock) → Ends n j → (i : ℕ) (d : DeclarationTree) → slice_get (declarations_of n) i ≡ Some d → d.clock ≡ j → IsReached starts links i
  reaches whole _ at_base i d here e = start i ((based i).1 (omega (arith, slice_get_within (declarations_of n) i d here, whole), (d, here, e)))
  reaches whole _ (after c j h r) i d here e =
      let means = clock_means c.variable j h in
      let place = placed (declarations_of n) c.variable means.0 means.1 in
      along place.0 i (reaches whole j r place.0 means.0 place.2 means.2)
      ((clocked place.0 i).1 (omega (arith, slice_get_within (declarations_of n) i d here, whole), (d, here, ap (place_before n) e ∙ place.1)))

  -- links are among the declarations
  pub within : (whole : length (declarations_of n) ≡ k) → All (IsWithin k) links
  within whole = All-weaker (Contains links) (IsWithin k) one links (All-contains_itself links) where
    to_place : (j : Clock) (u : ℕ) → place_before n j ≡ Some u → u < length (declarations_of n)
    to_place None u place = absurd (none_some place) where
      none_some : None ≡ Some u → ⊥
      none_some h = cc
    to_place (Some c) u place = place_within (declarations_of n) c.variable u place

    one : (l : Link) → Contains links l → IsWithin k l
    one l h =
        let found = (clocked l.from l.to).0 h in
        record { from = omega (arith, to_place found.1.0.clock l.from found.1.2, whole); to = found.0 }

  pub starts_within : All (λ v. v < k) starts
  starts_within = All-weaker (Contains starts) (λ v. v < k) (λ v h. ((based v).0 h).0) starts (All-contains_itself starts)
