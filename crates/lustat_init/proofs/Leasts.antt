-- The classes that are reached are the least.
use Rattle.std.proofs.Common.{◌≡◌, inl, inr, ◌∙◌, ◌+◌, ◌<◌, ◌↔◌, ℕ, suc, [], ◌∷◌, Bool, List, Option, Some, None, IsTrue, refl, sym, ap, subst, arith, length, All, Contains, true≢false}
use Rattle.std.specs.Option.{is_some}
use Rattle.std.specs.Prelude.{slice_get, map}
use Rattle.std.proofs.lemmas.Option.{slice_get_within, slice_get_read, get_or_from_slice_get}
use Rattle.std.proofs.lemmas.List.Elements.{All-weaker, All-contains, All-contains_itself}
use Rattle.lutree.specs.declared.program.Equation.{Equation}
use Rattle.lutree.specs.Tree.{equation_view, DeclarationTree, EquationTree, NodeTree}
use Rattle.lustat_rules.specs.Scope.{declarations_of, names_of, meaning, IsVariable}
use Rattle.lustat_rules.specs.Classes.{Classes, is_one, IsRaised, IsLeast}
use Rattle.lubase.specs.Search.{Has}
use Rattle.lubase.specs.declared.link.Link.{Link}
use Rattle.lubase.specs.Reach.{link, IsWithin, IsReached, start, along}
use Rattle.lubase.proofs.Finding.{there}
use Rattle.lustat_rules.proofs.Declared.{first_at_place}
use Rattle.lubase.proofs.Sought.{at}
use Rattle.lustat_init.specs.Assigned.{place_of, class_at, assigned, LeftsKnown, IsCaused}
use Rattle.lustat_init.specs.Sources.{zero_classes}
use Rattle.lustat_init.specs.Linked.{links_in, AreStarts}
use Rattle.lustat_rules.proofs.Lent.{same_some}
use Rattle.lustat_init.proofs.Sourcing as sourcing
use Rattle.lustat_init.proofs.Spreading.{reads_back, writes_back, links_there, links_back}

none_some : {X : Type 0} (x : X) → None ≡ Some x → ⊥
none_some x e = cc

length_names : (ds : List DeclarationTree) → length (names_of ds) ≡ length ds
length_names [] = refl
length_names (d ∷ ds) = ap suc (length_names ds)

pub place_within : (n : NodeTree) (x : List ℕ) (v : ℕ) → place_of n x ≡ Some v → v < length (declarations_of n)
place_within n x v e =
    omega (arith, slice_get_within (names_of (declarations_of n)) v x (there (names_of (declarations_of n)) x v e), length_names (declarations_of n))

-- one place, one name
one_name : (n : NodeTree) (x y : List ℕ) (v : ℕ) → place_of n x ≡ Some v → place_of n y ≡ Some v → x ≡ y
one_name n x y v e f =
    same_some x y (sym (there (names_of (declarations_of n)) x v e) ∙ there (names_of (declarations_of n)) y v f)

-- what is known has a place
known_place : (n : NodeTree) (x : List ℕ) → IsVariable n x → (v : ℕ) × (place_of n x ≡ Some v)
known_place n x known = by_option (place_of n x) refl where
  unknown : meaning n x ≡ None → ⊥
  unknown e = true≢false (sym known ∙ ap is_some e)

  by_option : (o : Option ℕ) → place_of n x ≡ o → (v : ℕ) × (place_of n x ≡ Some v)
  by_option None e = absurd (unknown (sym (first_at_place (declarations_of n) x) ∙ ap (at (declarations_of n)) e))
  by_option (Some v) e = (v, e)

pub contained_at : {X : Type 0} (xs : List X) (x : X) → Contains xs x → (i : ℕ) × (slice_get xs i ≡ Some x)
contained_at xs x h = (h.0, slice_get_read xs (length xs) h.0 x refl h.1 (sym h.2))

pub at_contained : {X : Type 0} (xs : List X) (x : X) (i : ℕ) → slice_get xs i ≡ Some x → Contains xs x
at_contained xs x i e = (i, slice_get_within xs i x e, get_or_from_slice_get xs i x x e)

module _ (n : NodeTree) (first : ℕ) (starts : List ℕ) (marks : List Bool) (whole : length (declarations_of n) ≡ first)
    (begun : AreStarts n.equations first (length n.equations) starts) (exact : (v : ℕ) → Has marks v ↔ IsReached starts (links_in n first n.equations) v) where
  abbrev links : List Link
  links = links_in n first n.equations

  abbrev a : Classes
  a = assigned n marks

  pub true_at : (x : List ℕ) (v : ℕ) → place_of n x ≡ Some v → IsReached starts links v → IsTrue (a x)
  true_at x v place r = ap (class_at marks) place ∙ (exact v).1 r

  reached_at : (x : List ℕ) → IsTrue (a x) → (v : ℕ) × (place_of n x ≡ Some v) × IsReached starts links v
  reached_at x h = by_option (place_of n x) refl where
    by_option : (o : Option ℕ) → place_of n x ≡ o → (v : ℕ) × (place_of n x ≡ Some v) × IsReached starts links v
    by_option None e = absurd (true≢false (sym h ∙ ap (class_at marks) e))
    by_option (Some v) e = (v, e, (exact v).0 (sym (ap (class_at marks) e) ∙ h))

  -- an equation of class 1 is reached
  one_reached : (i : ℕ) (q : EquationTree) → slice_get n.equations i ≡ Some q → IsTrue (is_one a q.right) → IsReached starts links (first + i)
  one_reached i q here one =
      elim (sourcing.there a q.right one) [
        | inl own ↦ start (first + i) ((begun (first + i)).1 (i, q, refl, slice_get_within n.equations i q here, here, own))
        | inr h ↦
            let r = reached_at h.0 h.2 in
            along r.0 (first + i) r.2 (links_back n first n.equations i q (link r.0 (first + i)) here (inl (reads_back n (first + i) q.right h.0 r.0 h.1 r.1)))
      ]

  raises : LeftsKnown n → (q : EquationTree) → Contains n.equations q → IsRaised a q
  raises known q among one =
      let here = contained_at n.equations q among in
      let r = one_reached here.0 q here.1 one in
      let left = All-contains (λ (p : EquationTree). All (IsVariable n) p.left) n.equations q known among in
      All-weaker (Contains q.left) (λ x. IsTrue (a x))
      (λ x h.
      let place = known_place n x (All-contains (IsVariable n) q.left x left h) in
      true_at x place.0 place.1
      (along (first + here.0) place.0 r (links_back n first n.equations here.0 q (link (first + here.0) place.0) here.1 (inr (writes_back n (first + here.0) q.left x place.0 h place.1)))))
      q.left (All-contains_itself q.left)

  pub raised : LeftsKnown n → All (IsRaised a) n.equations
  raised known = All-weaker (Contains n.equations) (IsRaised a) (raises known) n.equations (All-contains_itself n.equations)

  -- what is reached is of class 1 in each assignment
  pub record Good (b : Classes) (u : ℕ) : Type 0 where
    pub variable : (y : List ℕ) → place_of n y ≡ Some u → IsTrue (b y)
    pub equation : (i : ℕ) (q : EquationTree) → u ≡ first + i → slice_get n.equations i ≡ Some q → IsTrue (is_one b q.right)

  no_place : (y : List ℕ) (i : ℕ) (u : ℕ) → u ≡ first + i → place_of n y ≡ Some u → ⊥
  no_place y i u e place = omega (arith, e, place_within n y u place, whole)

  same_equation : (i j : ℕ) (p q : EquationTree) → first + i ≡ first + j → slice_get n.equations i ≡ Some p → slice_get n.equations j ≡ Some q → p ≡ q
  same_equation i j p q e at_i at_j =
      let same : i ≡ j = omega (arith, e) in
      same_some p q (sym at_i ∙ ap (slice_get n.equations) same ∙ at_j)

  pub good : (b : Classes) → All (IsRaised b) n.equations → (u : ℕ) → IsReached starts links u → Good b u
  good b up _ (start u h) =
      let s = (begun u).0 h in
      record {
        variable = λ y place. absurd (no_place y s.0 u s.2 place);
        equation = λ i q e here.
            let same = same_equation s.0 i s.1 q (sym s.2 ∙ e) s.4 here in
            sourcing.back b q.right (inl (subst (λ (p : EquationTree). IsTrue (is_one zero_classes p.right)) same s.5));
      }
  good b up _ (along u v r h) =
      let l = links_there n first n.equations u v h in
      let before = good b up u r in
      elim l.3 [
        | inl x ↦
            record {
              variable = λ y place. absurd (no_place y l.0 v (sym x.0) place);
              equation = λ i q e here.
                  let same = same_equation l.0 i l.1 q (x.0 ∙ e) l.2 here in
                  let one : IsTrue (is_one b l.1.right) = sourcing.back b l.1.right (inr (x.1.0, x.1.1, before.variable x.1.0 x.1.2)) in
                  subst (λ (p : EquationTree). IsTrue (is_one b p.right)) same one;
            }
        | inr x ↦
            let one : IsTrue (is_one b l.1.right) = before.equation l.0 l.1 (sym x.0) l.2 in
            let lefts = All-contains (IsRaised b) n.equations l.1 up (at_contained n.equations l.1 l.0 l.2) one in
            record {
              variable = λ y place.
                  subst (λ z. IsTrue (b z)) (one_name n x.1.0 y v x.1.2 place) (All-contains (λ z. IsTrue (b z)) l.1.left x.1.0 lefts x.1.1);
              equation = λ i q e here. absurd (no_place x.1.0 i v e x.1.2);
            }
      ]

  pub least : LeftsKnown n → IsLeast a n
  least known =
      record {
        raised = raised known;
        least = λ b up x h. let r = reached_at x h in (good b up r.0 r.2).variable x r.1;
      }

  caused_at : LeftsKnown n → (x : List ℕ) (v : ℕ) → place_of n x ≡ Some v → IsReached starts links v → (q : EquationTree) × Contains n.equations q × Contains q.left x × IsTrue (is_one a q.right)
  caused_at known x _ place (start v h) = let s = (begun v).0 h in absurd (no_place x s.0 v s.2 place)
  caused_at known x _ place (along u v r h) =
      let l = links_there n first n.equations u v h in
      elim l.3 [
        | inl y ↦ absurd (no_place x l.0 v (sym y.0) place)
        | inr y ↦ (
          l.1,
          at_contained n.equations l.1 l.0 l.2,
          subst (Contains l.1.left) (one_name n y.1.0 x v y.1.2 place) y.1.1,
          (good a (raised known) u r).equation l.0 l.1 (sym y.0) l.2,
        )
      ]

  pub caused : LeftsKnown n → IsCaused a n
  caused known x h = let r = reached_at x h in caused_at known x r.0 r.1 r.2

pub links_within : (n : NodeTree) (first size : ℕ) → length (declarations_of n) ≡ first → size ≡ first + length n.equations → All (IsWithin size) (links_in n first n.equations)
links_within n first size whole e = All-weaker (Contains all) (IsWithin size) one all (All-contains_itself all) where
  all : List Link
  all = links_in n first n.equations

  one : (l : Link) → Contains (links_in n first n.equations) l → IsWithin size l
  one l h =
      let k = links_there n first n.equations l.from l.to h in
      let inside : k.0 < length n.equations = slice_get_within n.equations k.0 k.1 k.2 in
      elim k.3 [
        | inl x ↦ record { from = omega (arith, place_within n x.1.0 l.from x.1.2, whole, e); to = omega (arith, x.0, inside, e) }
        | inr x ↦ record { from = omega (arith, x.0, inside, e); to = omega (arith, place_within n x.1.0 l.to x.1.2, whole, e) }
      ]

-- what the search gives, for its starts and links by other names
pub found : (n : NodeTree) (first k : ℕ) (known : LeftsKnown n) (qs : List EquationTree) (starts starts_given : List ℕ) (links_made links_given : List Link) (marks : List Bool) →
    length (declarations_of n) ≡ first → qs ≡ n.equations → k ≡ length n.equations → starts_given ≡ starts → links_given ≡ links_made → links_made ≡ links_in n first qs →
    AreStarts qs first k starts → ((v : ℕ) → Has marks v ↔ IsReached starts_given links_given v) → IsLeast (assigned n marks) n × IsCaused (assigned n marks) n
found n first k known qs starts starts_given links_made links_given marks whole same long same_starts same_links made begun exact =
    let all : links_given ≡ links_in n first n.equations = same_links ∙ made ∙ ap (links_in n first) same in
    let begun_all : AreStarts n.equations first (length n.equations) starts = subst (λ j. AreStarts n.equations first j starts) long (subst (λ ps. AreStarts ps first k starts) same begun) in
    let exact_all : (v : ℕ) → Has marks v ↔ IsReached starts (links_in n first n.equations) v =
    λ v. subst (λ xs. Has marks v ↔ IsReached xs (links_in n first n.equations) v) same_starts (subst (λ ls. Has marks v ↔ IsReached starts_given ls v) all (exact v)) in
    (least n first starts marks whole begun_all exact_all known, caused n first starts marks whole begun_all exact_all known)

pub starts_inside : (n : NodeTree) (first k size : ℕ) (qs : List EquationTree) (starts given : List ℕ) → given ≡ starts → size ≡ first + k → AreStarts qs first k starts → All (λ v. v < size) given
starts_inside n first k size qs starts given same e begun =
    subst (All (λ v. v < size)) (sym same)
    (All-weaker (Contains starts) (λ v. v < size) (λ v h. let s = (begun v).0 h in omega (arith, s.2, s.3, e)) starts (All-contains_itself starts))

pub length_views : (qs : List Equation) → length qs ≡ length (map equation_view qs)
length_views [] = refl
length_views (q ∷ qs) = ap suc (length_views qs)
