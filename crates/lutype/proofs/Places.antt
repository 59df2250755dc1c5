-- From the tests of single rules to the check of a place.
use Rattle.std.proofs.Common.{◌≡◌, ◌⊎◌, inl, inr, ℕ, ◌∷◌, [], Option, Some, IsTrue, refl, sym, true≢false}
use Rattle.lustat_rules.specs.Accepted.{Rule, duplicate_name, unknown_name, unknown_node, type_mismatch, wrong_arity, undefined, defined_twice, recursive_node, no_main, bad_merge, clock_mismatch, not_a_clock, clocked_parameter, hidden_clock, maybe_nil, current_may_be_nil}
use Rattle.lustat_rules.specs.declared.error.StatError.{StatError}
use Rattle.lustat_rules.specs.Reported.{rule_of, byte_of}
use Rattle.lustat_rules.specs.Faults.{IsJudged, FaultAt, AllKept}
use Rattle.lustat_rules.proofs.Judging.{RuleFault, judged_same}
use Rattle.lustat_rules.specs.Told.{Tells}
use Rattle.lustat_rules.proofs.Telling.{TellsOne, tells_last, tells_more, tells_same}
use Rattle.lutype.specs.Asked.{is_asked}

-- PROGRAM

abbrev program_faults : ℕ → (Rule → Type 0) → StatError → Type 0
program_faults byte K e = RuleFault no_main byte (K no_main) e

abbrev program_rules : (Rule → Type 0) → Type 0
program_rules K = K no_main

program_to : (byte : ℕ) (K : Rule → Type 0) (e : StatError) → program_faults byte K e → FaultAt is_asked byte K e
program_to byte K e h = record { rule = no_main; reported = h.0; one = refl; at = h.1; broken = h.2 }

program_from_rule : (byte : ℕ) (K : Rule → Type 0) → K duplicate_name → K unknown_name → K unknown_node → K type_mismatch → K wrong_arity → K undefined → K defined_twice → K bad_merge → (e : StatError) (rule : Rule) → rule_of e ≡ Some rule → IsTrue (is_asked rule) → byte_of e ≡ byte → (¬ K rule) → program_faults byte K e
program_from_rule byte K t0 t1 t2 t3 t4 t5 t6 t7 e duplicate_name reported one at broken = absurd (broken t0)
program_from_rule byte K t0 t1 t2 t3 t4 t5 t6 t7 e unknown_name reported one at broken = absurd (broken t1)
program_from_rule byte K t0 t1 t2 t3 t4 t5 t6 t7 e unknown_node reported one at broken = absurd (broken t2)
program_from_rule byte K t0 t1 t2 t3 t4 t5 t6 t7 e type_mismatch reported one at broken = absurd (broken t3)
program_from_rule byte K t0 t1 t2 t3 t4 t5 t6 t7 e wrong_arity reported one at broken = absurd (broken t4)
program_from_rule byte K t0 t1 t2 t3 t4 t5 t6 t7 e undefined reported one at broken = absurd (broken t5)
program_from_rule byte K t0 t1 t2 t3 t4 t5 t6 t7 e defined_twice reported one at broken = absurd (broken t6)
program_from_rule byte K t0 t1 t2 t3 t4 t5 t6 t7 e recursive_node reported one at broken = absurd (true≢false (sym one))
program_from_rule byte K t0 t1 t2 t3 t4 t5 t6 t7 e no_main reported one at broken = (reported, at, broken)
program_from_rule byte K t0 t1 t2 t3 t4 t5 t6 t7 e bad_merge reported one at broken = absurd (broken t7)
program_from_rule byte K t0 t1 t2 t3 t4 t5 t6 t7 e clock_mismatch reported one at broken = absurd (true≢false (sym one))
program_from_rule byte K t0 t1 t2 t3 t4 t5 t6 t7 e not_a_clock reported one at broken = absurd (true≢false (sym one))
program_from_rule byte K t0 t1 t2 t3 t4 t5 t6 t7 e clocked_parameter reported one at broken = absurd (true≢false (sym one))
program_from_rule byte K t0 t1 t2 t3 t4 t5 t6 t7 e hidden_clock reported one at broken = absurd (true≢false (sym one))
program_from_rule byte K t0 t1 t2 t3 t4 t5 t6 t7 e maybe_nil reported one at broken = absurd (true≢false (sym one))
program_from_rule byte K t0 t1 t2 t3 t4 t5 t6 t7 e current_may_be_nil reported one at broken = absurd (true≢false (sym one))

program_kept : (K : Rule → Type 0) → K duplicate_name → K unknown_name → K unknown_node → K type_mismatch → K wrong_arity → K undefined → K defined_twice → K bad_merge → program_rules K → AllKept is_asked K
program_kept K t0 t1 t2 t3 t4 t5 t6 t7 h duplicate_name one = t0
program_kept K t0 t1 t2 t3 t4 t5 t6 t7 h unknown_name one = t1
program_kept K t0 t1 t2 t3 t4 t5 t6 t7 h unknown_node one = t2
program_kept K t0 t1 t2 t3 t4 t5 t6 t7 h type_mismatch one = t3
program_kept K t0 t1 t2 t3 t4 t5 t6 t7 h wrong_arity one = t4
program_kept K t0 t1 t2 t3 t4 t5 t6 t7 h undefined one = t5
program_kept K t0 t1 t2 t3 t4 t5 t6 t7 h defined_twice one = t6
program_kept K t0 t1 t2 t3 t4 t5 t6 t7 h recursive_node one = absurd (true≢false (sym one))
program_kept K t0 t1 t2 t3 t4 t5 t6 t7 h no_main one = h
program_kept K t0 t1 t2 t3 t4 t5 t6 t7 h bad_merge one = t7
program_kept K t0 t1 t2 t3 t4 t5 t6 t7 h clock_mismatch one = absurd (true≢false (sym one))
program_kept K t0 t1 t2 t3 t4 t5 t6 t7 h not_a_clock one = absurd (true≢false (sym one))
program_kept K t0 t1 t2 t3 t4 t5 t6 t7 h clocked_parameter one = absurd (true≢false (sym one))
program_kept K t0 t1 t2 t3 t4 t5 t6 t7 h hidden_clock one = absurd (true≢false (sym one))
program_kept K t0 t1 t2 t3 t4 t5 t6 t7 h maybe_nil one = absurd (true≢false (sym one))
program_kept K t0 t1 t2 t3 t4 t5 t6 t7 h current_may_be_nil one = absurd (true≢false (sym one))

pub program_judged : (byte : ℕ) (K : Rule → Type 0) (o0 : Option StatError) → K duplicate_name → K unknown_name → K unknown_node → K type_mismatch → K wrong_arity → K undefined → K defined_twice → K bad_merge
    → IsJudged (RuleFault no_main byte (K no_main)) (K no_main) o0
    → IsJudged (FaultAt is_asked byte K) (AllKept is_asked K) o0
program_judged byte K o0 t0 t1 t2 t3 t4 t5 t6 t7 j0 =
    judged_same (program_faults byte K) (FaultAt is_asked byte K) (program_rules K) (AllKept is_asked K) o0
    (program_to byte K)
    (λ e h. program_from_rule byte K t0 t1 t2 t3 t4 t5 t6 t7 e h.rule h.reported h.one h.at h.broken)
    (program_kept K t0 t1 t2 t3 t4 t5 t6 t7)
    j0

-- the one rule that can be broken there
pub program_only : (byte : ℕ) (K : Rule → Type 0) → K duplicate_name → K unknown_name → K unknown_node → K type_mismatch → K wrong_arity → K undefined → K defined_twice → K bad_merge → (e : StatError) → FaultAt is_asked byte K e → (rule_of e ≡ Some no_main) × (byte_of e ≡ byte)
program_only byte K t0 t1 t2 t3 t4 t5 t6 t7 e h = let f = program_from_rule byte K t0 t1 t2 t3 t4 t5 t6 t7 e h.rule h.reported h.one h.at h.broken in (f.0, f.1)

-- TYPES, NAMES OF ENUMERATIONS AND NODES

abbrev name_faults : ℕ → (Rule → Type 0) → StatError → Type 0
name_faults byte K e = RuleFault duplicate_name byte (K duplicate_name) e

abbrev name_rules : (Rule → Type 0) → Type 0
name_rules K = K duplicate_name

name_to : (byte : ℕ) (K : Rule → Type 0) (e : StatError) → name_faults byte K e → FaultAt is_asked byte K e
name_to byte K e h = record { rule = duplicate_name; reported = h.0; one = refl; at = h.1; broken = h.2 }

name_from_rule : (byte : ℕ) (K : Rule → Type 0) → K unknown_name → K unknown_node → K type_mismatch → K wrong_arity → K undefined → K defined_twice → K no_main → K bad_merge → (e : StatError) (rule : Rule) → rule_of e ≡ Some rule → IsTrue (is_asked rule) → byte_of e ≡ byte → (¬ K rule) → name_faults byte K e
name_from_rule byte K t0 t1 t2 t3 t4 t5 t6 t7 e duplicate_name reported one at broken = (reported, at, broken)
name_from_rule byte K t0 t1 t2 t3 t4 t5 t6 t7 e unknown_name reported one at broken = absurd (broken t0)
name_from_rule byte K t0 t1 t2 t3 t4 t5 t6 t7 e unknown_node reported one at broken = absurd (broken t1)
name_from_rule byte K t0 t1 t2 t3 t4 t5 t6 t7 e type_mismatch reported one at broken = absurd (broken t2)
name_from_rule byte K t0 t1 t2 t3 t4 t5 t6 t7 e wrong_arity reported one at broken = absurd (broken t3)
name_from_rule byte K t0 t1 t2 t3 t4 t5 t6 t7 e undefined reported one at broken = absurd (broken t4)
name_from_rule byte K t0 t1 t2 t3 t4 t5 t6 t7 e defined_twice reported one at broken = absurd (broken t5)
name_from_rule byte K t0 t1 t2 t3 t4 t5 t6 t7 e recursive_node reported one at broken = absurd (true≢false (sym one))
name_from_rule byte K t0 t1 t2 t3 t4 t5 t6 t7 e no_main reported one at broken = absurd (broken t6)
name_from_rule byte K t0 t1 t2 t3 t4 t5 t6 t7 e bad_merge reported one at broken = absurd (broken t7)
name_from_rule byte K t0 t1 t2 t3 t4 t5 t6 t7 e clock_mismatch reported one at broken = absurd (true≢false (sym one))
name_from_rule byte K t0 t1 t2 t3 t4 t5 t6 t7 e not_a_clock reported one at broken = absurd (true≢false (sym one))
name_from_rule byte K t0 t1 t2 t3 t4 t5 t6 t7 e clocked_parameter reported one at broken = absurd (true≢false (sym one))
name_from_rule byte K t0 t1 t2 t3 t4 t5 t6 t7 e hidden_clock reported one at broken = absurd (true≢false (sym one))
name_from_rule byte K t0 t1 t2 t3 t4 t5 t6 t7 e maybe_nil reported one at broken = absurd (true≢false (sym one))
name_from_rule byte K t0 t1 t2 t3 t4 t5 t6 t7 e current_may_be_nil reported one at broken = absurd (true≢false (sym one))

name_kept : (K : Rule → Type 0) → K unknown_name → K unknown_node → K type_mismatch → K wrong_arity → K undefined → K defined_twice → K no_main → K bad_merge → name_rules K → AllKept is_asked K
name_kept K t0 t1 t2 t3 t4 t5 t6 t7 h duplicate_name one = h
name_kept K t0 t1 t2 t3 t4 t5 t6 t7 h unknown_name one = t0
name_kept K t0 t1 t2 t3 t4 t5 t6 t7 h unknown_node one = t1
name_kept K t0 t1 t2 t3 t4 t5 t6 t7 h type_mismatch one = t2
name_kept K t0 t1 t2 t3 t4 t5 t6 t7 h wrong_arity one = t3
name_kept K t0 t1 t2 t3 t4 t5 t6 t7 h undefined one = t4
name_kept K t0 t1 t2 t3 t4 t5 t6 t7 h defined_twice one = t5
name_kept K t0 t1 t2 t3 t4 t5 t6 t7 h recursive_node one = absurd (true≢false (sym one))
name_kept K t0 t1 t2 t3 t4 t5 t6 t7 h no_main one = t6
name_kept K t0 t1 t2 t3 t4 t5 t6 t7 h bad_merge one = t7
name_kept K t0 t1 t2 t3 t4 t5 t6 t7 h clock_mismatch one = absurd (true≢false (sym one))
name_kept K t0 t1 t2 t3 t4 t5 t6 t7 h not_a_clock one = absurd (true≢false (sym one))
name_kept K t0 t1 t2 t3 t4 t5 t6 t7 h clocked_parameter one = absurd (true≢false (sym one))
name_kept K t0 t1 t2 t3 t4 t5 t6 t7 h hidden_clock one = absurd (true≢false (sym one))
name_kept K t0 t1 t2 t3 t4 t5 t6 t7 h maybe_nil one = absurd (true≢false (sym one))
name_kept K t0 t1 t2 t3 t4 t5 t6 t7 h current_may_be_nil one = absurd (true≢false (sym one))

pub name_judged : (byte : ℕ) (K : Rule → Type 0) (o0 : Option StatError) → K unknown_name → K unknown_node → K type_mismatch → K wrong_arity → K undefined → K defined_twice → K no_main → K bad_merge
    → IsJudged (RuleFault duplicate_name byte (K duplicate_name)) (K duplicate_name) o0
    → IsJudged (FaultAt is_asked byte K) (AllKept is_asked K) o0
name_judged byte K o0 t0 t1 t2 t3 t4 t5 t6 t7 j0 =
    judged_same (name_faults byte K) (FaultAt is_asked byte K) (name_rules K) (AllKept is_asked K) o0
    (name_to byte K)
    (λ e h. name_from_rule byte K t0 t1 t2 t3 t4 t5 t6 t7 e h.rule h.reported h.one h.at h.broken)
    (name_kept K t0 t1 t2 t3 t4 t5 t6 t7)
    j0

-- the one rule that can be broken there
pub name_only : (byte : ℕ) (K : Rule → Type 0) → K unknown_name → K unknown_node → K type_mismatch → K wrong_arity → K undefined → K defined_twice → K no_main → K bad_merge → (e : StatError) → FaultAt is_asked byte K e → (rule_of e ≡ Some duplicate_name) × (byte_of e ≡ byte)
name_only byte K t0 t1 t2 t3 t4 t5 t6 t7 e h = let f = name_from_rule byte K t0 t1 t2 t3 t4 t5 t6 t7 e h.rule h.reported h.one h.at h.broken in (f.0, f.1)

-- DECLARATIONS

abbrev declaration_faults : ℕ → (Rule → Type 0) → StatError → Type 0
declaration_faults byte K e = RuleFault duplicate_name byte (K duplicate_name) e ⊎ (RuleFault unknown_name byte (K unknown_name) e ⊎ (RuleFault undefined byte (K undefined) e))

abbrev declaration_rules : (Rule → Type 0) → Type 0
declaration_rules K = K duplicate_name × (K unknown_name × (K undefined))

declaration_to : (byte : ℕ) (K : Rule → Type 0) (e : StatError) → declaration_faults byte K e → FaultAt is_asked byte K e
declaration_to byte K e (inl h) = record { rule = duplicate_name; reported = h.0; one = refl; at = h.1; broken = h.2 }
declaration_to byte K e (inr (inl h)) = record { rule = unknown_name; reported = h.0; one = refl; at = h.1; broken = h.2 }
declaration_to byte K e (inr (inr h)) = record { rule = undefined; reported = h.0; one = refl; at = h.1; broken = h.2 }

declaration_from_rule : (byte : ℕ) (K : Rule → Type 0) → K unknown_node → K type_mismatch → K wrong_arity → K defined_twice → K no_main → K bad_merge → (e : StatError) (rule : Rule) → rule_of e ≡ Some rule → IsTrue (is_asked rule) → byte_of e ≡ byte → (¬ K rule) → declaration_faults byte K e
declaration_from_rule byte K t0 t1 t2 t3 t4 t5 e duplicate_name reported one at broken = inl (reported, at, broken)
declaration_from_rule byte K t0 t1 t2 t3 t4 t5 e unknown_name reported one at broken = inr (inl (reported, at, broken))
declaration_from_rule byte K t0 t1 t2 t3 t4 t5 e unknown_node reported one at broken = absurd (broken t0)
declaration_from_rule byte K t0 t1 t2 t3 t4 t5 e type_mismatch reported one at broken = absurd (broken t1)
declaration_from_rule byte K t0 t1 t2 t3 t4 t5 e wrong_arity reported one at broken = absurd (broken t2)
declaration_from_rule byte K t0 t1 t2 t3 t4 t5 e undefined reported one at broken = inr (inr (reported, at, broken))
declaration_from_rule byte K t0 t1 t2 t3 t4 t5 e defined_twice reported one at broken = absurd (broken t3)
declaration_from_rule byte K t0 t1 t2 t3 t4 t5 e recursive_node reported one at broken = absurd (true≢false (sym one))
declaration_from_rule byte K t0 t1 t2 t3 t4 t5 e no_main reported one at broken = absurd (broken t4)
declaration_from_rule byte K t0 t1 t2 t3 t4 t5 e bad_merge reported one at broken = absurd (broken t5)
declaration_from_rule byte K t0 t1 t2 t3 t4 t5 e clock_mismatch reported one at broken = absurd (true≢false (sym one))
declaration_from_rule byte K t0 t1 t2 t3 t4 t5 e not_a_clock reported one at broken = absurd (true≢false (sym one))
declaration_from_rule byte K t0 t1 t2 t3 t4 t5 e clocked_parameter reported one at broken = absurd (true≢false (sym one))
declaration_from_rule byte K t0 t1 t2 t3 t4 t5 e hidden_clock reported one at broken = absurd (true≢false (sym one))
declaration_from_rule byte K t0 t1 t2 t3 t4 t5 e maybe_nil reported one at broken = absurd (true≢false (sym one))
declaration_from_rule byte K t0 t1 t2 t3 t4 t5 e current_may_be_nil reported one at broken = absurd (true≢false (sym one))

declaration_kept : (K : Rule → Type 0) → K unknown_node → K type_mismatch → K wrong_arity → K defined_twice → K no_main → K bad_merge → declaration_rules K → AllKept is_asked K
declaration_kept K t0 t1 t2 t3 t4 t5 h duplicate_name one = h.0
declaration_kept K t0 t1 t2 t3 t4 t5 h unknown_name one = h.1.0
declaration_kept K t0 t1 t2 t3 t4 t5 h unknown_node one = t0
declaration_kept K t0 t1 t2 t3 t4 t5 h type_mismatch one = t1
declaration_kept K t0 t1 t2 t3 t4 t5 h wrong_arity one = t2
declaration_kept K t0 t1 t2 t3 t4 t5 h undefined one = h.1.1
declaration_kept K t0 t1 t2 t3 t4 t5 h defined_twice one = t3
declaration_kept K t0 t1 t2 t3 t4 t5 h recursive_node one = absurd (true≢false (sym one))
declaration_kept K t0 t1 t2 t3 t4 t5 h no_main one = t4
declaration_kept K t0 t1 t2 t3 t4 t5 h bad_merge one = t5
declaration_kept K t0 t1 t2 t3 t4 t5 h clock_mismatch one = absurd (true≢false (sym one))
declaration_kept K t0 t1 t2 t3 t4 t5 h not_a_clock one = absurd (true≢false (sym one))
declaration_kept K t0 t1 t2 t3 t4 t5 h clocked_parameter one = absurd (true≢false (sym one))
declaration_kept K t0 t1 t2 t3 t4 t5 h hidden_clock one = absurd (true≢false (sym one))
declaration_kept K t0 t1 t2 t3 t4 t5 h maybe_nil one = absurd (true≢false (sym one))
declaration_kept K t0 t1 t2 t3 t4 t5 h current_may_be_nil one = absurd (true≢false (sym one))

pub declaration_told : (byte : ℕ) (K : Rule → Type 0) (o0 o1 o2 : Option StatError) → K unknown_node → K type_mismatch → K wrong_arity → K defined_twice → K no_main → K bad_merge
    → TellsOne (RuleFault duplicate_name byte (K duplicate_name)) (K duplicate_name) o0 → TellsOne (RuleFault unknown_name byte (K unknown_name)) (K unknown_name) o1 → TellsOne (RuleFault undefined byte (K undefined)) (K undefined) o2
    → Tells (FaultAt is_asked byte K) (AllKept is_asked K) (o0 ∷ o1 ∷ o2 ∷ [])
declaration_told byte K o0 o1 o2 t0 t1 t2 t3 t4 t5 j0 j1 j2 =
    tells_same (declaration_faults byte K) (FaultAt is_asked byte K) (declaration_rules K) (AllKept is_asked K) (o0 ∷ o1 ∷ o2 ∷ [])
    (declaration_to byte K)
    (λ e h. declaration_from_rule byte K t0 t1 t2 t3 t4 t5 e h.rule h.reported h.one h.at h.broken)
    (declaration_kept K t0 t1 t2 t3 t4 t5)
    (tells_more (RuleFault duplicate_name byte (K duplicate_name)) (λ e. RuleFault unknown_name byte (K unknown_name) e ⊎ RuleFault undefined byte (K undefined) e) (K duplicate_name) (K unknown_name × K undefined) o0 (o1 ∷ o2 ∷ []) j0
    (tells_more (RuleFault unknown_name byte (K unknown_name)) (RuleFault undefined byte (K undefined)) (K unknown_name) (K undefined) o1 (o2 ∷ []) j1
    (tells_last (RuleFault undefined byte (K undefined)) (K undefined) o2 j2)))

-- EQUATIONS

abbrev equation_faults : ℕ → (Rule → Type 0) → StatError → Type 0
equation_faults byte K e = RuleFault unknown_name byte (K unknown_name) e ⊎ (RuleFault unknown_node byte (K unknown_node) e ⊎ (RuleFault type_mismatch byte (K type_mismatch) e ⊎ (RuleFault wrong_arity byte (K wrong_arity) e ⊎ (RuleFault defined_twice byte (K defined_twice) e ⊎ (RuleFault bad_merge byte (K bad_merge) e)))))

abbrev equation_rules : (Rule → Type 0) → Type 0
equation_rules K = K unknown_name × (K unknown_node × (K type_mismatch × (K wrong_arity × (K defined_twice × (K bad_merge)))))

equation_to : (byte : ℕ) (K : Rule → Type 0) (e : StatError) → equation_faults byte K e → FaultAt is_asked byte K e
equation_to byte K e (inl h) = record { rule = unknown_name; reported = h.0; one = refl; at = h.1; broken = h.2 }
equation_to byte K e (inr (inl h)) = record { rule = unknown_node; reported = h.0; one = refl; at = h.1; broken = h.2 }
equation_to byte K e (inr (inr (inl h))) = record { rule = type_mismatch; reported = h.0; one = refl; at = h.1; broken = h.2 }
equation_to byte K e (inr (inr (inr (inl h)))) = record { rule = wrong_arity; reported = h.0; one = refl; at = h.1; broken = h.2 }
equation_to byte K e (inr (inr (inr (inr (inl h))))) = record { rule = defined_twice; reported = h.0; one = refl; at = h.1; broken = h.2 }
equation_to byte K e (inr (inr (inr (inr (inr h))))) = record { rule = bad_merge; reported = h.0; one = refl; at = h.1; broken = h.2 }

equation_from_rule : (byte : ℕ) (K : Rule → Type 0) → K duplicate_name → K undefined → K no_main → (e : StatError) (rule : Rule) → rule_of e ≡ Some rule → IsTrue (is_asked rule) → byte_of e ≡ byte → (¬ K rule) → equation_faults byte K e
equation_from_rule byte K t0 t1 t2 e duplicate_name reported one at broken = absurd (broken t0)
equation_from_rule byte K t0 t1 t2 e unknown_name reported one at broken = inl (reported, at, broken)
equation_from_rule byte K t0 t1 t2 e unknown_node reported one at broken = inr (inl (reported, at, broken))
equation_from_rule byte K t0 t1 t2 e type_mismatch reported one at broken = inr (inr (inl (reported, at, broken)))
equation_from_rule byte K t0 t1 t2 e wrong_arity reported one at broken = inr (inr (inr (inl (reported, at, broken))))
equation_from_rule byte K t0 t1 t2 e undefined reported one at broken = absurd (broken t1)
equation_from_rule byte K t0 t1 t2 e defined_twice reported one at broken = inr (inr (inr (inr (inl (reported, at, broken)))))
equation_from_rule byte K t0 t1 t2 e recursive_node reported one at broken = absurd (true≢false (sym one))
equation_from_rule byte K t0 t1 t2 e no_main reported one at broken = absurd (broken t2)
equation_from_rule byte K t0 t1 t2 e bad_merge reported one at broken = inr (inr (inr (inr (inr (reported, at, broken)))))
equation_from_rule byte K t0 t1 t2 e clock_mismatch reported one at broken = absurd (true≢false (sym one))
equation_from_rule byte K t0 t1 t2 e not_a_clock reported one at broken = absurd (true≢false (sym one))
equation_from_rule byte K t0 t1 t2 e clocked_parameter reported one at broken = absurd (true≢false (sym one))
equation_from_rule byte K t0 t1 t2 e hidden_clock reported one at broken = absurd (true≢false (sym one))
equation_from_rule byte K t0 t1 t2 e maybe_nil reported one at broken = absurd (true≢false (sym one))
equation_from_rule byte K t0 t1 t2 e current_may_be_nil reported one at broken = absurd (true≢false (sym one))

equation_kept : (K : Rule → Type 0) → K duplicate_name → K undefined → K no_main → equation_rules K → AllKept is_asked K
equation_kept K t0 t1 t2 h duplicate_name one = t0
equation_kept K t0 t1 t2 h unknown_name one = h.0
equation_kept K t0 t1 t2 h unknown_node one = h.1.0
equation_kept K t0 t1 t2 h type_mismatch one = h.1.1.0
equation_kept K t0 t1 t2 h wrong_arity one = h.1.1.1.0
equation_kept K t0 t1 t2 h undefined one = t1
equation_kept K t0 t1 t2 h defined_twice one = h.1.1.1.1.0
equation_kept K t0 t1 t2 h recursive_node one = absurd (true≢false (sym one))
equation_kept K t0 t1 t2 h no_main one = t2
equation_kept K t0 t1 t2 h bad_merge one = h.1.1.1.1.1
equation_kept K t0 t1 t2 h clock_mismatch one = absurd (true≢false (sym one))
equation_kept K t0 t1 t2 h not_a_clock one = absurd (true≢false (sym one))
equation_kept K t0 t1 t2 h clocked_parameter one = absurd (true≢false (sym one))
equation_kept K t0 t1 t2 h hidden_clock one = absurd (true≢false (sym one))
equation_kept K t0 t1 t2 h maybe_nil one = absurd (true≢false (sym one))
equation_kept K t0 t1 t2 h current_may_be_nil one = absurd (true≢false (sym one))

pub equation_told : (byte : ℕ) (K : Rule → Type 0) (o0 o1 o2 o3 o4 o5 : Option StatError) → K duplicate_name → K undefined → K no_main
    → TellsOne (RuleFault unknown_name byte (K unknown_name)) (K unknown_name) o0 → TellsOne (RuleFault unknown_node byte (K unknown_node)) (K unknown_node) o1 → TellsOne (RuleFault type_mismatch byte (K type_mismatch)) (K type_mismatch) o2 → TellsOne (RuleFault wrong_arity byte (K wrong_arity)) (K wrong_arity) o3 → TellsOne (RuleFault defined_twice byte (K defined_twice)) (K defined_twice) o4 → TellsOne (RuleFault bad_merge byte (K bad_merge)) (K bad_merge) o5
    → Tells (FaultAt is_asked byte K) (AllKept is_asked K) (o0 ∷ o1 ∷ o2 ∷ o3 ∷ o4 ∷ o5 ∷ [])
equation_told byte K o0 o1 o2 o3 o4 o5 t0 t1 t2 j0 j1 j2 j3 j4 j5 =
    tells_same (equation_faults byte K) (FaultAt is_asked byte K) (equation_rules K) (AllKept is_asked K) (o0 ∷ o1 ∷ o2 ∷ o3 ∷ o4 ∷ o5 ∷ [])
    (equation_to byte K)
    (λ e h. equation_from_rule byte K t0 t1 t2 e h.rule h.reported h.one h.at h.broken)
    (equation_kept K t0 t1 t2)
    (tells_more (RuleFault unknown_name byte (K unknown_name)) (λ e. RuleFault unknown_node byte (K unknown_node) e ⊎ (RuleFault type_mismatch byte (K type_mismatch) e ⊎ (RuleFault wrong_arity byte (K wrong_arity) e ⊎ (RuleFault defined_twice byte (K defined_twice) e ⊎ (RuleFault bad_merge byte (K bad_merge) e))))) (K unknown_name) (K unknown_node × (K type_mismatch × (K wrong_arity × (K defined_twice × (K bad_merge))))) o0 (o1 ∷ o2 ∷ o3 ∷ o4 ∷ o5 ∷ []) j0
    (tells_more (RuleFault unknown_node byte (K unknown_node)) (λ e. RuleFault type_mismatch byte (K type_mismatch) e ⊎ (RuleFault wrong_arity byte (K wrong_arity) e ⊎ (RuleFault defined_twice byte (K defined_twice) e ⊎ (RuleFault bad_merge byte (K bad_merge) e)))) (K unknown_node) (K type_mismatch × (K wrong_arity × (K defined_twice × (K bad_merge)))) o1 (o2 ∷ o3 ∷ o4 ∷ o5 ∷ []) j1
    (tells_more (RuleFault type_mismatch byte (K type_mismatch)) (λ e. RuleFault wrong_arity byte (K wrong_arity) e ⊎ (RuleFault defined_twice byte (K defined_twice) e ⊎ (RuleFault bad_merge byte (K bad_merge) e))) (K type_mismatch) (K wrong_arity × (K defined_twice × (K bad_merge))) o2 (o3 ∷ o4 ∷ o5 ∷ []) j2
    (tells_more (RuleFault wrong_arity byte (K wrong_arity)) (λ e. RuleFault defined_twice byte (K defined_twice) e ⊎ (RuleFault bad_merge byte (K bad_merge) e)) (K wrong_arity) (K defined_twice × (K bad_merge)) o3 (o4 ∷ o5 ∷ []) j3
    (tells_more (RuleFault defined_twice byte (K defined_twice)) (RuleFault bad_merge byte (K bad_merge)) (K defined_twice) (K bad_merge) o4 (o5 ∷ []) j4
    (tells_last (RuleFault bad_merge byte (K bad_merge)) (K bad_merge) o5 j5))))))
