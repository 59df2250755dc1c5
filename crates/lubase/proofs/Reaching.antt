-- A search goes on.
use Rattle.std.proofs.Common.{◌≡◌, ◌<◌, inl, inr, ℕ, Bool, List, take, ◌-◌, [], ◌∷◌, ◌++◌, length, ◌∙◌, ap, subst, arith, All, Contains}
use Rattle.std.proofs.lemmas.List.Elements.{Contains-push, Contains-push_cases, Contains-append_left, All-weaker, All-contains, All-contains_itself}
use Rattle.lubase.specs.Graph.{Graph, row_of}
use Rattle.lubase.specs.Search.{Has, Lacks}
use Rattle.lubase.proofs.Marks.{has_not_lacks}
use Rattle.lubase.specs.declared.link.Link.{Link}
use Rattle.lubase.specs.Reach.{link, IsWithin, IsReached, start, along}
use Rattle.lubase.specs.ReachStates.{HasRows, IsEntered, IsSearching}

-- nothing was left to pop
pub popped_empty : (xs ys : List ℕ) (n : ℕ) → n ≡ 0 → xs ≡ ys ++ [] → ys ≡ take (n - 1) xs → xs ≡ []
popped_empty xs ys n nil e rest =
    let none : ys ≡ [] = rest ∙ ap (λ m. take (m - 1) xs) nil in
    e ∙ ap (λ zs. zs ++ []) none

module _ (starts : List ℕ) (links : List Link) (rows : Graph) (has_rows : HasRows rows links) where
  -- nothing was marked before the starts
  pub begun : (marks marked : List Bool) (stack : List ℕ) → length marks ≡ length rows → ((v : ℕ) → Lacks marks v) → IsEntered starts marks marked [] stack →
      IsSearching starts links rows marked stack
  begun marks marked stack long none e =
      record {
        long = e.long ∙ long;
        started = e.marked;
        sound = λ v h. elim (e.waiting v h) [ inl x ↦ absurd (has_not_lacks marks v x (none v)) | inr x ↦ start v x.0 ];
        marked = λ v h. elim (e.only v h) [ inl x ↦ absurd (omega (arith, x.1)) | inr x ↦ All-contains (Has marked) starts v e.marked x ];
        passed = λ v h. elim (e.waiting v h) [ inl x ↦ absurd (has_not_lacks marks v x (none v)) | inr x ↦ inl x.1 ];
      }

  -- the row of the last number is entered
  pub gone_on : (v : ℕ) (stack after : List ℕ) (marks new : List Bool) → IsSearching starts links rows marks (stack ++ v ∷ []) →
      IsEntered (row_of rows v) marks new stack after → IsSearching starts links rows new after
  gone_on v stack after marks new s e =
      record {
        long = e.long ∙ s.long;
        started = All-weaker (Has marks) (Has new) e.kept starts s.started;
        sound = λ u h.
            elim (e.waiting u h) [
              | inl x ↦ s.sound u x
              | inr x ↦ along v u (s.sound v (s.marked v (Contains-push stack v))) ((has_rows v u).0 x.0)
            ];
        marked = λ u h.
            elim (e.only u h) [
              | inl x ↦ e.kept u (s.marked u (Contains-append_left stack (v ∷ []) u x))
              | inr x ↦ All-contains (Has new) (row_of rows v) u e.marked x
            ];
        passed = λ u h.
            elim (e.waiting u h) [
              | inl x ↦
                  elim (s.passed u x) [
                    | inl y ↦
                        elim (Contains-push_cases stack v u y) [
                          | inl z ↦ inl (e.stacked u z)
                          | inr same ↦ inr (subst (λ w. All (Has new) (row_of rows w)) same e.marked)
                        ]
                    | inr y ↦ inr (All-weaker (Has marks) (Has new) e.kept (row_of rows u) y)
                  ]
              | inr x ↦ inl x.1
            ];
      }

  -- what stands in a row is within
  pub row_within : (size v : ℕ) → All (IsWithin size) links → All (λ u. u < size) (row_of rows v)
  row_within size v within =
      All-weaker (Contains (row_of rows v)) (λ u. u < size) (λ u h. (All-contains (IsWithin size) links (link v u) within ((has_rows v u).0 h)).to) (row_of rows v) (All-contains_itself (row_of rows v))

  -- with an empty stack what is reached is marked
  pub done : (marks : List Bool) → IsSearching starts links rows marks [] → (v : ℕ) → IsReached starts links v → Has marks v
  done marks s _ (start v h) = All-contains (Has marks) starts v s.started h
  done marks s _ (along u v r h) =
      elim (s.passed u (done marks s u r)) [
        | inl x ↦ absurd (omega (arith, x.1))
        | inr x ↦ All-contains (Has marks) (row_of rows u) v x ((has_rows u v).1 h)
      ]
