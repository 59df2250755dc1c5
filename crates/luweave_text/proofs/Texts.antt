-- The text of a world, line by line.
use Rattle.std.proofs.Common.{◌≡◌, ℕ, zero, suc, ◌+◌, ◌<◌, Bool, true, false, cond, List, [], ◌∷◌, ◌++◌, length, filter, flat_map, Some, refl, sym, ap, ◌∙◌, arith, length-append, append_assoc}
use Rattle.std.specs.Prelude.{slice_get}
use Rattle.std.specs.List.{range_with_len}
use Rattle.std.proofs.lemmas.Bool.{false≢true}
use Rattle.luflow.specs.declared.data.Status.{Status}
use Rattle.luworld.specs.Jobs.{outputs_of}
use Rattle.luworld.proofs.Rounds.{range_more, one_more}
use Rattle.luworld.specs.declared.link.Link.{Link}
use Rattle.lusite_program.proofs.Ranges.{filter_more}
use Rattle.luworld.specs.WorldViews.{WorldView, IsCollected}
use Rattle.luweave_text.specs.WorldText.{AreOutputLines, NoOutput, OneOutputMore, output_line, links_text, line_of}
use Rattle.luflow.specs.Types.{variable_names}
use Rattle.luflow.specs.Variables.{is_output_of, variable_name}

-- what passes a test in a range stands behind those before it that do
found_next : (p : ℕ → Bool) (a n v d : ℕ) (b : Bool) → slice_get (filter p (range_with_len (a + 1) n)) (length (filter p (range_with_len (a + 1) d))) ≡ Some v
    → slice_get (cond b (a ∷ filter p (range_with_len (a + 1) n)) (filter p (range_with_len (a + 1) n))) (length (cond b (a ∷ filter p (range_with_len (a + 1) d)) (filter p (range_with_len (a + 1) d)))) ≡ Some v
found_next p a n v d true h = h
found_next p a n v d false h = h

found_first : (p : ℕ → Bool) (a n : ℕ) (b : Bool) → b ≡ true → slice_get (cond b (a ∷ filter p (range_with_len (a + 1) n)) (filter p (range_with_len (a + 1) n))) 0 ≡ Some a
found_first p a n true e = refl
found_first p a n false e = absurd (false≢true e)

found_at : (p : ℕ → Bool) (a n d : ℕ) → d < n → p (a + d) ≡ true → slice_get (filter p (range_with_len a n)) (length (filter p (range_with_len a d))) ≡ Some (a + d)
found_at p a zero d lt e = absurd (omega (arith, lt))
found_at p a (suc n) zero lt e =
    let z : a + 0 ≡ a = omega arith in
    found_first p a n (p a) (ap p (sym z) ∙ e) ∙ ap Some (sym z)
found_at p a (suc n) (suc d) lt e =
    let m : a + 1 + d ≡ a + suc d = omega arith in
    found_next p a n (a + suc d) d (p a) (found_at p (a + 1) n d (omega (arith, lt)) (ap p m ∙ e) ∙ ap Some m)

module _ (w : WorldView) (v k : ℕ) (lines : List ℕ) (are : AreOutputLines w v k lines) (count : k ≡ length (filter (is_output_of w.job.plan.flat) (range_with_len 0 v))) where
  counted : (b : Bool) → is_output_of w.job.plan.flat v ≡ b → length (filter (is_output_of w.job.plan.flat) (range_with_len 0 (v + 1))) ≡ k + cond b 1 0
  counted b is =
      let e = ap length (filter_more (is_output_of w.job.plan.flat) v) ∙ length-append (filter (is_output_of w.job.plan.flat) (range_with_len 0 v)) (cond (is_output_of w.job.plan.flat v) (v ∷ []) []) in
      let f = ap (λ c. length (cond c (v ∷ []) [])) is in
      omega (arith, e, f, count, sizes b)
    where
      sizes : (c : Bool) → length (cond c (v ∷ []) []) ≡ cond c 1 0
      sizes true = refl
      sizes false = refl

  pub count_reported : is_output_of w.job.plan.flat v ≡ true → k + 1 ≡ length (filter (is_output_of w.job.plan.flat) (range_with_len 0 (v + 1)))
  count_reported is = sym (counted true is)

  pub count_other : is_output_of w.job.plan.flat v ≡ false → k ≡ length (filter (is_output_of w.job.plan.flat) (range_with_len 0 (v + 1)))
  count_other is = let c = counted false is in omega (arith, c)

  pub reported_more : v < length w.job.plan.flat.variables → is_output_of w.job.plan.flat v ≡ true → (statuses : List Status) → IsCollected w.job w.dones k statuses → AreOutputLines w (v + 1) (k + 1) (lines ++ output_line (variable_name w.job.plan.flat v) (variable_names w.job.plan.flat v) statuses)
  reported_more lv is statuses collected =
      let z : 0 + v ≡ v = omega arith in
      let at = ap (slice_get (outputs_of w.job.plan)) count ∙ found_at (is_output_of w.job.plan.flat) 0 (length w.job.plan.flat.variables) v lv (ap (is_output_of w.job.plan.flat) z ∙ is) ∙ ap Some z in
      OneOutputMore v k lines statuses are at collected

  pub other_more : is_output_of w.job.plan.flat v ≡ false → AreOutputLines w (v + 1) k lines
  other_more is = NoOutput v k lines are is

-- the line of one link more
pub links_more : (w : WorldView) (n : ℕ) (link : Link) → slice_get w.job.plan.links n ≡ Some link → links_text w (n + 1) ≡ links_text w n ++ line_of w (Some link) n
links_more w n link at =
    let z : 0 + n ≡ n = omega arith in
    ap (flat_map (λ l. line_of w (slice_get w.job.plan.links l) l)) (range_more 0 n ∙ ap (λ k. range_with_len 0 n ++ k ∷ []) z)
    ∙ one_more (λ l. line_of w (slice_get w.job.plan.links l) l) (range_with_len 0 n) n
    ∙ ap (λ o. links_text w n ++ line_of w o n) at

-- a text with more at its end
pub then_more : (start old new lines more : List ℕ) → old ≡ start ++ lines → new ≡ old ++ more → new ≡ start ++ (lines ++ more)
then_more start old new lines more e f = f ∙ ap (λ xs. xs ++ more) e ∙ append_assoc start lines more
