-- From the tests of single rules to the check of a place.
use Rattle.std.proofs.Common.{◌≡◌, ◌⊎◌, inl, inr, ℕ, ◌∷◌, [], Option, None, Some, IsTrue, refl, sym, true≢false}
use Rattle.lustat_rules.specs.Accepted.{Rule, duplicate_name, unknown_name, unknown_node, type_mismatch, wrong_arity, undefined, defined_twice, recursive_node, no_main, bad_merge, clock_mismatch, not_a_clock, clocked_parameter, hidden_clock, maybe_nil, current_may_be_nil}
use Rattle.lustat_rules.specs.declared.error.StatError.{StatError}
use Rattle.lustat_rules.specs.Faults.{lesser_of, IsJudged, FaultAt, AllKept}
use Rattle.lustat_rules.proofs.Judging.{RuleFault, judged_both, judged_same}
use Rattle.lustat_rules.specs.Told.{Tells}
use Rattle.lustat_rules.proofs.Telling.{TellsOne, tells_last, tells_more, tells_same}
use Rattle.lustat_clocks.specs.Asked.{is_asked}

module _ (byte : ℕ) (K : Rule → Type 0) where
  abbrev pub Fault : Rule → StatError → Type 0
  Fault rule = RuleFault rule byte (K rule)

  abbrev pub One : Rule → Option StatError → Type 0
  One rule = IsJudged (Fault rule) (K rule)

  abbrev Any : StatError → Type 0
  Any e = Fault clock_mismatch e ⊎ (Fault not_a_clock e ⊎ (Fault clocked_parameter e ⊎ Fault hidden_clock e))

  abbrev All4 : Type 0
  All4 = K clock_mismatch × (K not_a_clock × (K clocked_parameter × K hidden_clock))

  at_place : (rule : Rule) → IsTrue (is_asked rule) → (e : StatError) → Fault rule e → FaultAt is_asked byte K e
  at_place rule one e h = record { rule = rule; reported = h.0; one = one; at = h.1; broken = h.2 }

  to : (e : StatError) → Any e → FaultAt is_asked byte K e
  to e (inl h) = at_place clock_mismatch refl e h
  to e (inr (inl h)) = at_place not_a_clock refl e h
  to e (inr (inr (inl h))) = at_place clocked_parameter refl e h
  to e (inr (inr (inr h))) = at_place hidden_clock refl e h

  from_rule : (rule : Rule) → IsTrue (is_asked rule) → (e : StatError) → Fault rule e → Any e
  from_rule clock_mismatch one e h = inl h
  from_rule not_a_clock one e h = inr (inl h)
  from_rule clocked_parameter one e h = inr (inr (inl h))
  from_rule hidden_clock one e h = inr (inr (inr h))
  from_rule duplicate_name one e h = absurd (true≢false (sym one))
  from_rule unknown_name one e h = absurd (true≢false (sym one))
  from_rule unknown_node one e h = absurd (true≢false (sym one))
  from_rule type_mismatch one e h = absurd (true≢false (sym one))
  from_rule wrong_arity one e h = absurd (true≢false (sym one))
  from_rule undefined one e h = absurd (true≢false (sym one))
  from_rule defined_twice one e h = absurd (true≢false (sym one))
  from_rule recursive_node one e h = absurd (true≢false (sym one))
  from_rule no_main one e h = absurd (true≢false (sym one))
  from_rule bad_merge one e h = absurd (true≢false (sym one))
  from_rule maybe_nil one e h = absurd (true≢false (sym one))
  from_rule current_may_be_nil one e h = absurd (true≢false (sym one))

  kept : All4 → AllKept is_asked K
  kept h clock_mismatch one = h.0
  kept h not_a_clock one = h.1.0
  kept h clocked_parameter one = h.1.1.0
  kept h hidden_clock one = h.1.1.1
  kept h duplicate_name one = absurd (true≢false (sym one))
  kept h unknown_name one = absurd (true≢false (sym one))
  kept h unknown_node one = absurd (true≢false (sym one))
  kept h type_mismatch one = absurd (true≢false (sym one))
  kept h wrong_arity one = absurd (true≢false (sym one))
  kept h undefined one = absurd (true≢false (sym one))
  kept h defined_twice one = absurd (true≢false (sym one))
  kept h recursive_node one = absurd (true≢false (sym one))
  kept h no_main one = absurd (true≢false (sym one))
  kept h bad_merge one = absurd (true≢false (sym one))
  kept h maybe_nil one = absurd (true≢false (sym one))
  kept h current_may_be_nil one = absurd (true≢false (sym one))

  all_judged : (a b c d : Option StatError) → One clock_mismatch a → One not_a_clock b → One clocked_parameter c → One hidden_clock d →
      IsJudged (FaultAt is_asked byte K) (AllKept is_asked K) (lesser_of a (lesser_of b (lesser_of c d)))
  all_judged a b c d ja jb jc jd =
      judged_same Any (FaultAt is_asked byte K) All4 (AllKept is_asked K) (lesser_of a (lesser_of b (lesser_of c d)))
      to (λ e f. from_rule f.rule f.one e (f.reported, f.at, f.broken)) kept
      (judged_both (Fault clock_mismatch) (λ e. Fault not_a_clock e ⊎ (Fault clocked_parameter e ⊎ Fault hidden_clock e)) (K clock_mismatch) (K not_a_clock × (K clocked_parameter × K hidden_clock)) a (lesser_of b (lesser_of c d)) ja
      (judged_both (Fault not_a_clock) (λ e. Fault clocked_parameter e ⊎ Fault hidden_clock e) (K not_a_clock) (K clocked_parameter × K hidden_clock) b (lesser_of c d) jb
      (judged_both (Fault clocked_parameter) (Fault hidden_clock) (K clocked_parameter) (K hidden_clock) c d jc jd)))

  -- a rule that says nothing there
  silent : (rule : Rule) → K rule → One rule None
  silent rule k = (k, λ e f. f.2 k)

  -- without a rule that is kept
  unmatched : K clock_mismatch → (e : StatError) → Any e → Fault not_a_clock e ⊎ (Fault clocked_parameter e ⊎ Fault hidden_clock e)
  unmatched k e (inl h) = absurd (h.2 k)
  unmatched k e (inr h) = h

  unhidden : K hidden_clock → (e : StatError) → Any e → Fault clock_mismatch e ⊎ (Fault not_a_clock e ⊎ Fault clocked_parameter e)
  unhidden k e (inl h) = inl h
  unhidden k e (inr (inl h)) = inr (inl h)
  unhidden k e (inr (inr (inl h))) = inr (inr h)
  unhidden k e (inr (inr (inr h))) = absurd (h.2 k)

  first_three : (e : StatError) → Fault clock_mismatch e ⊎ (Fault not_a_clock e ⊎ Fault clocked_parameter e) → Any e
  first_three e (inl h) = inl h
  first_three e (inr (inl h)) = inr (inl h)
  first_three e (inr (inr h)) = inr (inr (inl h))

  pub declaration_told : (b c d : Option StatError) → K clock_mismatch → TellsOne (Fault not_a_clock) (K not_a_clock) b → TellsOne (Fault clocked_parameter) (K clocked_parameter) c → TellsOne (Fault hidden_clock) (K hidden_clock) d →
      Tells (FaultAt is_asked byte K) (AllKept is_asked K) (b ∷ c ∷ d ∷ [])
  declaration_told b c d k tb tc td =
      tells_same (λ e. Fault not_a_clock e ⊎ (Fault clocked_parameter e ⊎ Fault hidden_clock e)) (FaultAt is_asked byte K) (K not_a_clock × (K clocked_parameter × K hidden_clock)) (AllKept is_asked K) (b ∷ c ∷ d ∷ [])
      (λ e h. to e (inr h)) (λ e f. unmatched k e (from_rule f.rule f.one e (f.reported, f.at, f.broken))) (λ h. kept (k, h))
      (tells_more (Fault not_a_clock) (λ e. Fault clocked_parameter e ⊎ Fault hidden_clock e) (K not_a_clock) (K clocked_parameter × K hidden_clock) b (c ∷ d ∷ []) tb
      (tells_more (Fault clocked_parameter) (Fault hidden_clock) (K clocked_parameter) (K hidden_clock) c (d ∷ []) tc (tells_last (Fault hidden_clock) (K hidden_clock) d td)))

  pub equation_told : (a b c : Option StatError) → K hidden_clock → TellsOne (Fault clock_mismatch) (K clock_mismatch) a → TellsOne (Fault not_a_clock) (K not_a_clock) b → TellsOne (Fault clocked_parameter) (K clocked_parameter) c →
      Tells (FaultAt is_asked byte K) (AllKept is_asked K) (a ∷ b ∷ c ∷ [])
  equation_told a b c k ta tb tc =
      tells_same (λ e. Fault clock_mismatch e ⊎ (Fault not_a_clock e ⊎ Fault clocked_parameter e)) (FaultAt is_asked byte K) (K clock_mismatch × (K not_a_clock × K clocked_parameter)) (AllKept is_asked K) (a ∷ b ∷ c ∷ [])
      (λ e h. to e (first_three e h)) (λ e f. unhidden k e (from_rule f.rule f.one e (f.reported, f.at, f.broken))) (λ h. kept (h.0, (h.1.0, (h.1.1, k))))
      (tells_more (Fault clock_mismatch) (λ e. Fault not_a_clock e ⊎ Fault clocked_parameter e) (K clock_mismatch) (K not_a_clock × K clocked_parameter) a (b ∷ c ∷ []) ta
      (tells_more (Fault not_a_clock) (Fault clocked_parameter) (K not_a_clock) (K clocked_parameter) b (c ∷ []) tb (tells_last (Fault clocked_parameter) (K clocked_parameter) c tc)))

  pub silent_judged : K clock_mismatch → K not_a_clock → K clocked_parameter → K hidden_clock → IsJudged (FaultAt is_asked byte K) (AllKept is_asked K) None
  silent_judged i j k l = all_judged None None None None (silent clock_mismatch i) (silent not_a_clock j) (silent clocked_parameter k) (silent hidden_clock l)
