-- A row's numbers are marked, one by one.
use Rattle.std.proofs.Common.{◌≡◌, ◌<◌, inl, inr, ◌+◌, ℕ, Bool, true, false, cond, not, List, [], ◌∷◌, ◌++◌, length, set, refl, sym, ◌∙◌, ap, subst, arith, Contains, length-append, length-set}
use Rattle.std.specs.List.{count_by}
use Rattle.std.proofs.lemmas.List.Elements.{Contains-push, Contains-push_cases, Contains-append_left, All-push, All-weaker, All-nil}
use Rattle.std.proofs.lemmas.List.Sums.{sum_by-set}
use Rattle.lubase.specs.Search.{Has, Lacks}
use Rattle.lubase.proofs.Marks.{has_kept, has_same, has_cases}
use Rattle.lubase.specs.ReachStates.{IsEntered}

pub nothing_entered : (marks : List Bool) (stack : List ℕ) → IsEntered [] marks marks stack stack
nothing_entered marks stack =
    record {
      long = refl;
      kept = λ v h. h;
      marked = All-nil (Has marks);
      waiting = λ v h. inl h;
      stacked = λ v h. h;
      only = λ v h. inl h;
      steps = refl;
    }

fewer_by_one : (marks : List Bool) (w : ℕ) → w < length marks → Lacks marks w → count_by not (set marks w true) + 1 ≡ count_by not marks
fewer_by_one marks w lt lacks =
    let weight : Bool → ℕ = λ b. cond (not b) 1 0 in
    omega (arith, sum_by-set weight marks w true false lt, ap weight lacks)

module _ (row : List ℕ) (old new : List Bool) (before after : List ℕ) (v : ℕ) (e : IsEntered row old new before after) where
  wider : (u : ℕ) → Contains row u → Contains (row ++ v ∷ []) u
  wider u h = Contains-append_left row (v ∷ []) u h

  -- a number that has a mark
  pub entered_seen : Has new v → IsEntered (row ++ v ∷ []) old new before after
  entered_seen has =
      record {
        long = e.long;
        kept = e.kept;
        marked = All-push (Has new) row v e.marked has;
        waiting = λ u h. elim (e.waiting u h) [ inl x ↦ inl x | inr x ↦ inr (wider u x.0, x.1) ];
        stacked = e.stacked;
        only = λ u h. elim (e.only u h) [ inl x ↦ inl x | inr x ↦ inr (wider u x) ];
        steps = e.steps;
      }

  -- a number without
  pub entered_new : v < length new → Lacks new v → IsEntered (row ++ v ∷ []) old (set new v true) before (after ++ v ∷ [])
  entered_new lt lacks =
      record {
        long = length-set new v true ∙ e.long;
        kept = λ u h. has_kept new v u lt (e.kept u h);
        marked = All-push (Has (set new v true)) row v (All-weaker (Has new) (Has (set new v true)) (λ u h. has_kept new v u lt h) row e.marked) (has_same new v lt);
        waiting = λ u h.
            elim (has_cases new v u h) [
              | inl same ↦ inr (subst (Contains (row ++ v ∷ [])) (sym same) (Contains-push row v), subst (Contains (after ++ v ∷ [])) (sym same) (Contains-push after v))
              | inr x ↦ elim (e.waiting u x) [ inl y ↦ inl y | inr y ↦ inr (wider u y.0, Contains-append_left after (v ∷ []) u y.1) ]
            ];
        stacked = λ u h. Contains-append_left after (v ∷ []) u (e.stacked u h);
        only = λ u h.
            elim (Contains-push_cases after v u h) [
              | inl x ↦ elim (e.only u x) [ inl y ↦ inl y | inr y ↦ inr (wider u y) ]
              | inr same ↦ inr (subst (Contains (row ++ v ∷ [])) same (Contains-push row v))
            ];
        steps = omega (arith, e.steps, fewer_by_one new v lt lacks, length-append after (v ∷ []));
      }
