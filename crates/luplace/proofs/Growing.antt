-- Rows that are put behind those of a graph.
use Rattle.std.proofs.Common.{◌≡◌, ℕ, zero, suc, ◌+◌, ◌<◌, inl, inr, List, [], ◌∷◌, ◌++◌, length, refl, sym, ap, ◌∙◌, arith, length-append}
use Rattle.std.specs.Prelude.{Vec}
use Rattle.std.specs.Global.{Global}
use Rattle.std.proofs.lemmas.Bool.{cases_lt}
use Rattle.luflow.specs.Program.{flows_of}
use Rattle.luworld.specs.Needs.{PlanView}
use Rattle.lubase.specs.Graph.{Graph, row_of}
use Rattle.luplace.specs.Layers.{first_row, second_row, third_row, HasMore, AreLayers}

row_before : (g : Graph) (r : Vec ℕ Global) (x : ℕ) → x < length g → row_of (g ++ r ∷ []) x ≡ row_of g x
row_before [] r x lt = absurd (omega arith)
row_before (l ∷ g) r zero lt = refl
row_before (l ∷ g) r (suc x) lt = row_before g r x (omega arith)

row_behind : (g : Graph) (r : Vec ℕ Global) (x : ℕ) → x ≡ length g → row_of (g ++ r ∷ []) x ≡ r.items
row_behind [] r zero e = refl
row_behind [] r (suc x) e = absurd (omega arith)
row_behind (l ∷ g) r zero e = absurd (omega arith)
row_behind (l ∷ g) r (suc x) e = row_behind g r x (omega arith)

pub more_none : (rows : ℕ → List ℕ) (g : Graph) → HasMore rows 0 g g
more_none rows g = record { long = omega arith; kept = λ x lt. refl; added = λ i lt. absurd (omega arith) }

pub more_push : (rows : ℕ → List ℕ) (n : ℕ) (old new : Graph) (r : Vec ℕ Global) → HasMore rows n old new → r.items ≡ rows n → HasMore rows (n + 1) old (new ++ r ∷ [])
more_push rows n old new r more is = record {
  long = omega (arith, more.long, length-append new (r ∷ []));
  kept = λ x lt. row_before new r x (omega (arith, more.long)) ∙ more.kept x lt;
  added = λ i lt. elim (cases_lt i n) [
    | inl l ↦ row_before new r (length old + i) (omega (arith, more.long)) ∙ more.added i l
    | inr g ↦
        let e : i ≡ n = omega arith in
        row_behind new r (length old + i) (omega (arith, more.long)) ∙ is ∙ ap rows (sym e)
  ];
}

pub layers_from : (plan : PlanView) (a b c : Graph) → HasMore (first_row plan) (flows_of plan.flat) [] a → HasMore (second_row plan) (flows_of plan.flat) a b → HasMore third_row (flows_of plan.flat) b c → AreLayers plan c
layers_from plan a b c first second third =
    let n : ℕ = flows_of plan.flat in
    let la : length a ≡ n = omega (arith, first.long) in
    let lb : length b ≡ n + n = omega (arith, second.long) in
    record {
      long = omega (arith, third.long);
      first = λ i lt.
          let z : 0 + i ≡ i = omega arith in
          third.kept i (omega arith) ∙ second.kept i (omega arith) ∙ ap (row_of a) (sym z) ∙ first.added i lt;
      second = λ i lt.
          let z : length a + i ≡ n + i = omega arith in
          third.kept (n + i) (omega arith) ∙ ap (row_of b) (sym z) ∙ second.added i lt;
      third = λ i lt.
          let z : length b + i ≡ n + n + i = omega arith in
          ap (row_of c) (sym z) ∙ third.added i lt;
    }
