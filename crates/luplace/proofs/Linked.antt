-- The links, one site or one variable more.
use Rattle.std.proofs.Common.{◌≡◌, ℕ, ◌+◌, Bool, true, false, cond, List, [], ◌∷◌, ◌++◌, length, map, filter, flat_map, refl, sym, ap, ◌∙◌, append_assoc, append-nil, arith}
use Rattle.std.specs.List.{range_with_len}
use Rattle.std.proofs.lemmas.List.{map-append}
use Rattle.std.proofs.lemmas.List.Elements.{filter-append}
use Rattle.luworld.specs.declared.link.Link.{Link}
use Rattle.luworld.proofs.Rounds.{range_more, one_more}
use Rattle.luplace.specs.Marks.{is_taken, link_of, some_links, links_below}

module _ (rows : List (List Bool)) (owners : List ℕ) (placed : List (List ℕ)) where
  some_more : (v n : ℕ) → some_links rows owners placed v (n + 1) ≡ some_links rows owners placed v n ++ cond (is_taken rows owners placed v n) (link_of owners placed v n ∷ []) []
  some_more v n =
      let z : 0 + n ≡ n = omega arith in
      ap (λ xs. map (link_of owners placed v) (filter (is_taken rows owners placed v) xs)) (range_more 0 n)
      ∙ ap (λ j. map (link_of owners placed v) (filter (is_taken rows owners placed v) (range_with_len 0 n ++ j ∷ []))) z
      ∙ ap (map (link_of owners placed v)) (filter-append (is_taken rows owners placed v) (range_with_len 0 n) (n ∷ []))
      ∙ map-append (link_of owners placed v) (filter (is_taken rows owners placed v) (range_with_len 0 n)) (filter (is_taken rows owners placed v) (n ∷ []))
      ∙ ap (λ xs. some_links rows owners placed v n ++ xs) (last (is_taken rows owners placed v n))
    where
      last : (b : Bool) → map (link_of owners placed v) (cond b (n ∷ []) []) ≡ cond b (link_of owners placed v n ∷ []) []
      last true = refl
      last false = refl

  pub one_taken : (v n : ℕ) (before : List Link) → is_taken rows owners placed v n ≡ true → (before ++ some_links rows owners placed v n) ++ link_of owners placed v n ∷ [] ≡ before ++ some_links rows owners placed v (n + 1)
  one_taken v n before e =
      append_assoc before (some_links rows owners placed v n) (link_of owners placed v n ∷ [])
      ∙ ap (λ b. before ++ (some_links rows owners placed v n ++ cond b (link_of owners placed v n ∷ []) [])) (sym e)
      ∙ ap (λ xs. before ++ xs) (sym (some_more v n))

  pub none_taken : (v n : ℕ) (before : List Link) → is_taken rows owners placed v n ≡ false → before ++ some_links rows owners placed v n ≡ before ++ some_links rows owners placed v (n + 1)
  none_taken v n before e =
      ap (λ xs. before ++ xs) (sym (append-nil (some_links rows owners placed v n)))
      ∙ ap (λ b. before ++ (some_links rows owners placed v n ++ cond b (link_of owners placed v n ∷ []) [])) (sym e)
      ∙ ap (λ xs. before ++ xs) (sym (some_more v n))

  pub below_more : (n : ℕ) → links_below rows owners placed n ++ some_links rows owners placed n (length rows) ≡ links_below rows owners placed (n + 1)
  below_more n =
      let z : 0 + n ≡ n = omega arith in
      let f = λ (v : ℕ). some_links rows owners placed v (length rows) in
      sym (one_more f (range_with_len 0 n) n) ∙ ap (λ j. flat_map f (range_with_len 0 n ++ j ∷ [])) (sym z) ∙ ap (flat_map f) (sym (range_more 0 n))
