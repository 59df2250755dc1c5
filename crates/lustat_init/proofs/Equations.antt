-- From the tests of single rules to the check of an equation.
use Rattle.std.proofs.Common.{◌↔◌, ◌⊎◌, inl, inr, ℕ, ◌∷◌, [], List, Option, IsTrue, refl, sym, true≢false}
use Rattle.lutree.specs.Tree.{EquationTree, NodeTree}
use Rattle.lustat_rules.specs.Accepted.{Rule, duplicate_name, unknown_name, unknown_node, type_mismatch, wrong_arity, undefined, defined_twice, recursive_node, no_main, bad_merge, clock_mismatch, not_a_clock, clocked_parameter, hidden_clock, maybe_nil, current_may_be_nil}
use Rattle.lustat_rules.specs.Classes.{Classes, IsLeast}
use Rattle.lustat_rules.specs.declared.error.StatError.{StatError}
use Rattle.lustat_rules.specs.Faults.{FaultAt, AllKept}
use Rattle.lustat_rules.proofs.Judging.{RuleFault}
use Rattle.lustat_rules.proofs.Raising.{is_one_grows, needs_fall}
use Rattle.lustat_rules.specs.Told.{Tells}
use Rattle.lustat_rules.proofs.Telling.{TellsOne, tells_last, tells_more, tells_same}
use Rattle.lustat_init.specs.Judged.{KeepsClasses}
use Rattle.lustat_init.specs.Faults.{is_asked, KeepsLeast}

-- all least classes say the same
pub keeps_least : (n : NodeTree) (a : Classes) (q : EquationTree) → IsLeast a n → KeepsClasses a n q ↔ KeepsLeast n q
keeps_least n a q least = (there, λ h. h a least) where
  there : KeepsClasses a n q → KeepsLeast n q
  there k b other =
      let up : (x : List ℕ) → IsTrue (b x) → IsTrue (a x) = other.least a least.raised in
      record {
        needs = needs_fall b a up q.right k.needs;
        held = λ one. k.held (is_one_grows b a up q.right one);
      }

module _ (byte : ℕ) (K : Rule → Type 0) where
  abbrev pub Fault : Rule → StatError → Type 0
  Fault rule = RuleFault rule byte (K rule)

  abbrev Any : StatError → Type 0
  Any e = Fault maybe_nil e ⊎ Fault current_may_be_nil e

  abbrev Both : Type 0
  Both = K maybe_nil × K current_may_be_nil

  at_place : (rule : Rule) → IsTrue (is_asked rule) → (e : StatError) → Fault rule e → FaultAt is_asked byte K e
  at_place rule one e h = record { rule = rule; reported = h.0; one = one; at = h.1; broken = h.2 }

  to : (e : StatError) → Any e → FaultAt is_asked byte K e
  to e (inl h) = at_place maybe_nil refl e h
  to e (inr h) = at_place current_may_be_nil refl e h

  from_rule : (rule : Rule) → IsTrue (is_asked rule) → (e : StatError) → Fault rule e → Any e
  from_rule maybe_nil one e h = inl h
  from_rule current_may_be_nil one e h = inr h
  from_rule duplicate_name one e h = absurd (true≢false (sym one))
  from_rule unknown_name one e h = absurd (true≢false (sym one))
  from_rule unknown_node one e h = absurd (true≢false (sym one))
  from_rule type_mismatch one e h = absurd (true≢false (sym one))
  from_rule wrong_arity one e h = absurd (true≢false (sym one))
  from_rule undefined one e h = absurd (true≢false (sym one))
  from_rule defined_twice one e h = absurd (true≢false (sym one))
  from_rule recursive_node one e h = absurd (true≢false (sym one))
  from_rule no_main one e h = absurd (true≢false (sym one))
  from_rule bad_merge one e h = absurd (true≢false (sym one))
  from_rule clock_mismatch one e h = absurd (true≢false (sym one))
  from_rule not_a_clock one e h = absurd (true≢false (sym one))
  from_rule clocked_parameter one e h = absurd (true≢false (sym one))
  from_rule hidden_clock one e h = absurd (true≢false (sym one))

  kept : Both → AllKept is_asked K
  kept h maybe_nil one = h.0
  kept h current_may_be_nil one = h.1
  kept h duplicate_name one = absurd (true≢false (sym one))
  kept h unknown_name one = absurd (true≢false (sym one))
  kept h unknown_node one = absurd (true≢false (sym one))
  kept h type_mismatch one = absurd (true≢false (sym one))
  kept h wrong_arity one = absurd (true≢false (sym one))
  kept h undefined one = absurd (true≢false (sym one))
  kept h defined_twice one = absurd (true≢false (sym one))
  kept h recursive_node one = absurd (true≢false (sym one))
  kept h no_main one = absurd (true≢false (sym one))
  kept h bad_merge one = absurd (true≢false (sym one))
  kept h clock_mismatch one = absurd (true≢false (sym one))
  kept h not_a_clock one = absurd (true≢false (sym one))
  kept h clocked_parameter one = absurd (true≢false (sym one))
  kept h hidden_clock one = absurd (true≢false (sym one))

  pub equation_told : (a b : Option StatError) → TellsOne (Fault maybe_nil) (K maybe_nil) a → TellsOne (Fault current_may_be_nil) (K current_may_be_nil) b → Tells (FaultAt is_asked byte K) (AllKept is_asked K) (a ∷ b ∷ [])
  equation_told a b ta tb =
      tells_same Any (FaultAt is_asked byte K) Both (AllKept is_asked K) (a ∷ b ∷ [])
      to (λ e f. from_rule f.rule f.one e (f.reported, f.at, f.broken)) kept
      (tells_more (Fault maybe_nil) (Fault current_may_be_nil) (K maybe_nil) (K current_may_be_nil) a (b ∷ []) ta (tells_last (Fault current_may_be_nil) (K current_may_be_nil) b tb))
