-- Declarations that are lent.
use Rattle.std.proofs.Common.{◌≡◌, ◌<◌, ◌∙◌, ℕ, suc, Bool, true, false, not, List, [], ◌∷◌, map, Option, Some, None, Bor, length, get_or, refl, sym, ap, true≢false}
use Rattle.std.specs.Option.{option_map, is_some, unwrap_or}
use Rattle.std.specs.Prelude.{slice_get}
use Rattle.std.proofs.lemmas.Option.{slice_get-map, slice_get_read}
use Rattle.lutree.specs.declared.program.Declaration.{Declaration}
use Rattle.lutree.specs.declared.program.Node.{Node}
use Rattle.lutree.specs.declared.expr.Condition.{Condition}
use Rattle.lutree.specs.Tree.{declaration_view, declarations_view, node_view}
use Rattle.lustat_rules.specs.Scope.{declarations_of}
use Rattle.lustat_rules.specs.Faults.{declared_in}
use Rattle.lustat_rules.proofs.Declared.{view_of_declared}
use Rattle.lustat_rules.specs.Lent.{lent_view}

pub same_some : {X : Type 0} (x y : X) → Some x ≡ Some y → x ≡ y
same_some x y e = ap (λ o. unwrap_or o x) e

pub lent_at : (ds : List (Bor Declaration)) (i : ℕ) (d : Bor Declaration) → i < length ds → d ≡ get_or ds i d → slice_get (lent_view ds) i ≡ Some (declaration_view d.now)
lent_at ds i d lt e =
    slice_get-map (λ (d : Bor Declaration). declaration_view d.now) ds i
    ∙ ap (option_map (λ (d : Bor Declaration). declaration_view d.now)) (slice_get_read ds (length ds) i d refl lt e)

pub length_lent : (ds : List (Bor Declaration)) → length (lent_view ds) ≡ length ds
length_lent [] = refl
length_lent (d ∷ ds) = ap suc (length_lent ds)

twice : (ds : List (Bor Declaration)) → lent_view ds ≡ declarations_view (map (λ (d : Bor Declaration). d.now) ds)
twice [] = refl
twice (d ∷ ds) = ap (λ l. declaration_view d.now ∷ l) (twice ds)

pub same_lent : (ds : List (Bor Declaration)) (n : Node) → map (λ (d : Bor Declaration). d.now) ds ≡ declared_in n → lent_view ds ≡ declarations_of (node_view n)
same_lent ds n e = twice ds ∙ ap declarations_view e ∙ view_of_declared n

pub none_if : (o : Option Condition) (b : Bool) → is_some o ≡ not b → b ≡ true → o ≡ None
none_if None b e t = refl
none_if (Some c) b e t = absurd (true≢false (e ∙ ap not t))

pub some_if : (o : Option Condition) (b : Bool) → is_some o ≡ not b → b ≡ false → o ≡ None → ⊥
some_if o b e f none = true≢false (sym (ap not f) ∙ sym e ∙ ap is_some none)
