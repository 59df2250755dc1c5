-- What names mean, in the words of the layout.
use Rattle.std.proofs.Common.{◌≡◌, ℕ, suc, ◌⊎◌, inl, inr, Bool, true, false, cond, List, [], ◌∷◌, length, map, Bor, Option, Some, None, refl, sym, ap, ◌∙◌}
use Rattle.std.specs.Prelude.{unwrap_or, option_map}
use Rattle.std.specs.Str.{bytes_eq}
use Rattle.std.proofs.lemmas.List.{length-map}
use Rattle.lutree.specs.declared.expr.Condition.{Condition}
use Rattle.lutree.specs.declared.program.Declaration.{Declaration}
use Rattle.lutree.specs.declared.program.Node.{Node}
use Rattle.lutree.specs.Tree.{NodeTree, node_view}
use Rattle.lusource.specs.Names.{place_of, clock_of, variables_of}
use Rattle.lusource.specs.Source.{pattern_value}
use Rattle.lustat_rules.specs.Scope.{declarations_of}
use Rattle.lustat_rules.specs.Scope as rules
use Rattle.lubase.specs.Places.{first_place}
use Rattle.lustat_rules.proofs.Declared.{names_in_view}
use Rattle.lustat_rules.specs.ClockRefs.{the_pattern, the_clock, placed_view, place_before, IsPlaced}
use Rattle.lustat_rules.specs.declared.clock_ref.PatternRef.{PatternRef}
use Rattle.lustat_rules.specs.declared.clock_ref.ClockRef.TheVariants as ref
use Rattle.lustat_rules.specs.declared.clock_ref.PlacedClock.{PlacedClock}
use Rattle.luflow.specs.declared.data.Datum.{Datum}
use Rattle.luflow.specs.declared.form.Clock.TheVariants.{On}
use Rattle.lucore_laws.specs.Layout.{clock_place}
use Rattle.lubase.proofs.Sought.{shifted_first}
use Rattle.lustat_rules.specs.Faults.{declared_in}
use Rattle.lucore_laws.proofs.Names.{clock_cases, clock_named}

one_more : (o : Option ℕ) (n : ℕ) → unwrap_or (option_map suc o) (suc n) ≡ suc (unwrap_or o n)
one_more None n = refl
one_more (Some i) n = refl

place_step : (b : Bool) (i n : ℕ) (o : Option ℕ) → i ≡ unwrap_or o n → cond b 0 (suc i) ≡ unwrap_or (cond b (Some 0) (option_map suc o)) (suc n)
place_step true i n o e = refl
place_step false i n o e = ap suc e ∙ sym (one_more o n)

-- the place of a name, or the length of the list
pub place_there : (ys : List (List ℕ)) (x : List ℕ) → place_of ys x ≡ unwrap_or (first_place ys x) (length ys)
place_there [] x = refl
place_there (y ∷ ys) x =
    place_step (bytes_eq y x) (place_of ys x) (length ys) (first_place ys x) (place_there ys x)
    ∙ ap (λ o. unwrap_or (cond (bytes_eq y x) (Some 0) o) (suc (length ys))) (sym (shifted_first ys x))

pub clock_there : (n : NodeTree) (x : List ℕ) (k : Option Condition) → rules.clock_of n x ≡ Some k → clock_of n x ≡ k
clock_there n x k e = clock_named (declarations_of n) x k e

pub no_clock : (n : NodeTree) (x : List ℕ) → rules.clock_of n x ≡ None → clock_of n x ≡ None
no_clock n x e = go (clock_cases (declarations_of n) x) where
  go : (clock_of n x ≡ None) ⊎ (rules.clock_of n x ≡ Some (clock_of n x)) → clock_of n x ≡ None
  go (inl none) = none
  go (inr some) = cc

-- as many variables as declarations
pub long : (n : Node) (items : List (Bor Declaration)) → map (λ d. d.now) items ≡ declared_in n → length items ≡ length (variables_of (node_view n))
long n items e =
    sym (length-map items (λ (d : Bor Declaration). d.now)) ∙ ap length e ∙ sym (length-map (declared_in n) (λ (d : Declaration). d.name)) ∙ ap length (sym (names_in_view n))

-- a clock by the place of its variable
pub clock_placed : (n : NodeTree) (k : PlacedClock) (x : Bor (List ℕ)) (p : PatternRef) (i : ℕ) (s : Datum) → IsPlaced n k → k.clock ≡ ref.On x p
    → i ≡ unwrap_or k.place (length (variables_of n)) → s ≡ pattern_value (the_pattern p) → On i s ≡ clock_place n (placed_view k)
clock_placed n k x p i s placed e f g =
    let ys = variables_of n in
    let at : k.place ≡ first_place ys x.now = placed.at ∙ ap (λ r. place_before n (the_clock r)) e in
    ap (λ j. On j s) (f ∙ ap (λ o. unwrap_or o (length ys)) at ∙ sym (place_there ys x.now)) ∙ ap (On (place_of ys x.now)) g ∙ ap (λ r. clock_place n (the_clock r)) (sym e)
