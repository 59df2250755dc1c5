-- What a site leaves of the outputs is what their flows have.
use Rattle.std.proofs.Common.{◌≡◌, ℕ, inl, inr, List, [], ◌∷◌, ◌++◌, length, Option, Some, sym, subst, ◌∙◌, ap}
use Rattle.std.specs.Prelude.{slice_get}
use Rattle.std.proofs.lemmas.Option.{same_Some}
use Rattle.luflow.specs.declared.data.Status.{Status}
use Rattle.luflow.specs.Program.{FlatView}
use Rattle.luflow.specs.Streams.{Streams}
use Rattle.lublock.specs.Shown.{Column, AreNear}
use Rattle.lublock_site.specs.Reporting.{AreLess, AreRowsIn, IsOutputRow, IsRowIn}
use Rattle.lublock_site.proofs.Pushed.{pushed}

no_status : (x : Column) (m : ℕ) (s : Status) → x.items ≡ [] → slice_get x.items m ≡ Some s → ⊥
no_status x m s empty at = let none : List Status = [] in let f : slice_get none m ≡ Some s = ap (λ (xs : List Status). slice_get xs m) (sym empty) ∙ at in cc

pub less_near : (flat : FlatView) (σ : Streams) (t : ℕ) (old new : List Column) → AreNear flat σ t old → AreLess old new → AreNear flat σ t new
less_near flat σ t old new near less = record {
  near = λ v x there m s at. elim (less v x there) [
    | inl h ↦ near.near v x h m s at
    | inr empty ↦ absurd (no_status x m s empty at)
  ];
}

pub less_same : (columns : List Column) → AreLess columns columns
less_same columns = λ v x there. inl there

pub less_more : (old mid new : List Column) → AreLess old mid → AreLess mid new → AreLess old new
less_more old mid new f g = λ v x there. elim (g v x there) [
  | inl h ↦ f v x h
  | inr empty ↦ inr empty
]

-- the rows of no output, and of one more
pub rows_none : (columns : List Column) (instants : ℕ) (outputs : List (Option ℕ)) (rows : List Column) → rows ≡ [] → AreRowsIn columns instants outputs rows
rows_none columns instants outputs rows empty = subst (AreRowsIn columns instants outputs) (sym empty) (λ k output row at there. absurd cc)

pub rows_more : (columns left : List Column) (instants : ℕ) (outputs : List (Option ℕ)) (rows rows' : List Column) (o : Option ℕ) (row : Column) → slice_get outputs (length rows) ≡ Some o → rows' ≡ rows ++ row ∷ [] → AreLess columns left → IsOutputRow left instants o row → AreRowsIn columns instants outputs rows
    → AreRowsIn columns instants outputs rows'
rows_more columns left instants outputs rows rows' o row at is less here made =
    subst (AreRowsIn columns instants outputs) (sym is)
    (λ k output r there r_there.
    pushed (λ (j : ℕ) (y : Column). (p : Option ℕ) → slice_get outputs j ≡ Some p → IsRowIn columns instants p y) rows row
    (λ p p_there. subst (λ (q : Option ℕ). IsRowIn columns instants q row) (same_Some o p (sym at ∙ p_there)) (left, less, here))
    (λ j y y_there p p_there. made j p y p_there y_there) k r r_there output there)
