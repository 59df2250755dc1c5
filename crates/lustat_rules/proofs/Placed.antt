-- Clocks with the places of their variables.
use Rattle.std.proofs.Common.{◌≡◌, ◌∙◌, ◌↔◌, ℕ, Bool, Bor, length, List, [], ◌∷◌, map, Option, Some, None, IsTrue, refl, sym, ap}
use Rattle.std.specs.Prelude.{slice_get, IfSome, option_copied}
use Rattle.std.specs.Slice.{IsGetResult}
use Rattle.std.specs.Option.{option_map}
use Rattle.std.proofs.lemmas.Option.{slice_get-map, slice_get_past, slice_get_read}
use Rattle.lutree.specs.declared.expr.Condition.{Condition}
use Rattle.lutree.specs.declared.program.Declaration.{Declaration}
use Rattle.lutree.specs.declared.program.Node.{Node}
use Rattle.lutree.specs.Tree.{DeclarationTree, NodeTree, declarations_view, node_view}
use Rattle.lustat_rules.specs.Scope.{Clock, declarations_of, names_of, clock_of}
use Rattle.lustat_rules.specs.Clocks.{on}
use Rattle.lubase.specs.Places.{first_place}
use Rattle.lubase.proofs.Finding.{there}
use Rattle.lubase.proofs.Sought.{at}
use Rattle.lustat_rules.specs.Scopes.{spellings, clock_list}
use Rattle.lustat_rules.specs.Faults.{declared_in}
use Rattle.lustat_rules.specs.ClockRefs.{placed_view, place_among, place_before, clock_under, IsPlaced}
use Rattle.lustat_rules.specs.declared.clock_ref.PlacedClock.{PlacedClock}
use Rattle.lustat_rules.proofs.Declared.{view_of_declared, at_map, first_at_place, names_in_view}

abbrev clock_in : DeclarationTree → Clock
clock_in d = d.clock

same_clocks : (ds : List Declaration) → clock_list ds ≡ map clock_in (declarations_view ds)
same_clocks [] = refl
same_clocks (d ∷ ds) = ap (λ l. d.clock ∷ l) (same_clocks ds)

-- the clock of the declaration at the first place of a name is that of the variable
pub clock_at_place : (n : Node) (x : List ℕ) (o : Option ℕ) → o ≡ first_place (names_of (declarations_of (node_view n))) x → at (clock_list (declared_in n)) o ≡ clock_of (node_view n) x
clock_at_place n x o e =
    ap (λ l. at l o) (same_clocks (declared_in n) ∙ ap (map clock_in) (view_of_declared n))
    ∙ at_map clock_in (declarations_of (node_view n)) o
    ∙ ap (λ p. option_map clock_in (at (declarations_of (node_view n)) p)) e
    ∙ ap (option_map clock_in) (first_at_place (declarations_of (node_view n)) x)

-- the clock of the declaration at the place of a clock's variable is the clock under it
pub under_at_place : (n : Node) (k : Clock) (o : Option ℕ) → o ≡ place_before (node_view n) k → at (clock_list (declared_in n)) o ≡ clock_under (node_view n) k
under_at_place n None o e = ap (at (clock_list (declared_in n))) e
under_at_place n (Some c) o e = clock_at_place n c.variable o e

-- a clock among those of a node has the place of its variable
pub placed_there : (n : Node) (items : List PlacedClock) (i : ℕ) (r : Option PlacedClock)
    → map placed_view items ≡ clock_list (declared_in n) → map (λ (k : PlacedClock). k.place) items ≡ map (place_among (spellings (declared_in n))) (clock_list (declared_in n))
    → r ≡ slice_get items i → IfSome r (IsPlaced (node_view n))
placed_there n items i None same places e = tt
placed_there n items i (Some k) same places e =
    let names = spellings (declared_in n) in
    let found : Some k.place ≡ Some (place_among names (placed_view k)) =
    ap (option_map (λ (k : PlacedClock). k.place)) e
    ∙ sym (slice_get-map (λ (k : PlacedClock). k.place) items i)
    ∙ ap (λ l. slice_get l i) places
    ∙ slice_get-map (place_among names) (clock_list (declared_in n)) i
    ∙ ap (λ l. option_map (place_among names) (slice_get l i)) (sym same)
    ∙ ap (option_map (place_among names)) (slice_get-map placed_view items i)
    ∙ ap (λ o. option_map (place_among names) (option_map placed_view o)) (sym e) in
    let here : k.place ≡ place_among names (placed_view k) = cc in
    record { at = here ∙ ap (λ l. place_among l (placed_view k)) (sym (names_in_view n)) }

-- clocks whose variables have one place are one where their patterns are
pub one_at_place : (names : List (List ℕ)) (j k : Clock) (u v : ℕ) → Some u ≡ place_among names j → Some v ≡ place_among names k
    → u ≡ v → option_map (λ (c : Condition). c.pattern) j ≡ option_map (λ (c : Condition). c.pattern) k → j ≡ k
one_at_place names None k u v e f same patterns = absurd (cc)
one_at_place names (Some c) None u v e f same patterns = absurd (cc)
one_at_place names (Some c) (Some d) u v e f same patterns =
    let there_c = there names c.variable u (sym e) in
    let there_d = there names d.variable v (sym f) in
    let one : Some c.variable ≡ Some d.variable = sym there_c ∙ ap (slice_get names) same ∙ there_d in
    let variable : c.variable ≡ d.variable = cc in
    let pattern : c.pattern ≡ d.pattern = cc in
    ap (λ x. on x c.pattern) variable ∙ ap (on d.variable) pattern

-- two clocks of a node whose variables have places: they are one where places and patterns are
pub one_where : (n : NodeTree) (j k : PlacedClock) (u v : ℕ) (b : Bool) → IsPlaced n j → IsPlaced n k → j.place ≡ Some u → k.place ≡ Some v → u ≡ v
    → (IsTrue b ↔ (option_map (λ (c : Condition). c.pattern) (placed_view j) ≡ option_map (λ (c : Condition). c.pattern) (placed_view k)))
    → IsTrue b ↔ (placed_view j ≡ placed_view k)
one_where n j k u v b p q e f same patterns = (
  λ h. one_at_place (names_of (declarations_of n)) (placed_view j) (placed_view k) u v (sym e ∙ p.at) (sym f ∙ q.at) same (patterns.0 h),
  λ h. patterns.1 (ap (option_map (λ (c : Condition). c.pattern)) h),
)

-- what `get` found, copied
pub copied_item : {A : Type 0} (xs : List A) (i : ℕ) (r : Option (Bor A)) → IsGetResult xs i i r → option_copied r ≡ slice_get xs i
copied_item xs i None e = sym (slice_get_past xs i e.3)
copied_item xs i (Some x) e = sym (slice_get_read xs (length xs) i x.now refl e.3.0 e.1)
