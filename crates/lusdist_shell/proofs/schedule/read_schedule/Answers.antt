use Rattle.std.proofs.Common.{◌≡◌, ℕ, ◌+◌, arith, sym, ap, inr, ◌∙◌, take, vec_len, vec_capacity, Vec, Global}
use Rattle.lusdist_shell.proofs.ScheduleSteps.{one_turn, no_turn, good_turn, good_blank, schedule_ok, schedule_bad, turns_are_below}
use Rattle.lusdist_shell.proofs.schedule.read_schedule.Goals as goal
use Rattle.lusdist_shell.proofs.schedule.read_schedule.Goals.{in-Some, in-None}

pub loop-byte-preserved : goal.loop-byte-preserved
loop-byte-preserved c = elim c.match-turn_of.branch [
  | in-Some w ↦
      let turn = sym c.turn_of.ensures ∙ w.in-Some.is in
      let room : vec_capacity c.match-turn_of.turns ≡ vec_capacity c.loop-byte.turns = ap vec_capacity w.turns-is ∙ w.push_reserved.ensures.capacity in
      let len : vec_len c.match-turn_of.turns ≡ vec_len c.loop-byte.turns + 1 = ap vec_len w.turns-is ∙ w.push_reserved.ensures.len in
      record {
        room = omega arith;
        few = omega arith;
        read = ap (λ (v : Vec ℕ Global). v.items) w.turns-is ∙ w.push_reserved.ensures.items
            ∙ one_turn c.loop-byte.turns.items c.args.text.now c.loop-byte.byte w.in-Some.site c.loop-byte-test.true c.loop-byte.invariant.read turn;
        good = good_turn c.args.text.now c.loop-byte.byte w.in-Some.site c.loop-byte.invariant.good turn;
      }
  | in-None w ↦
      let room : vec_capacity c.match-turn_of.turns ≡ vec_capacity c.loop-byte.turns = ap vec_capacity w.turns-is in
      let len : vec_len c.match-turn_of.turns ≡ vec_len c.loop-byte.turns = ap vec_len w.turns-is in
      record {
        room = omega arith;
        few = omega arith;
        read = ap (λ (v : Vec ℕ Global). v.items) w.turns-is
            ∙ no_turn c.loop-byte.turns.items c.args.text.now c.loop-byte.byte c.loop-byte-test.true c.loop-byte.invariant.read (sym c.turn_of.ensures ∙ w.in-None.is);
        good = good_blank c.args.text.now c.loop-byte.byte c.loop-byte.invariant.good (sym w.is_blank.ensures ∙ w.if-is_blank.true);
      }
]

pub returns-in-None-2-clause-exact : goal.returns-in-None-2-clause-exact
returns-in-None-2-clause-exact c =
    inr (schedule_bad c.args.text.now c.loop-byte.byte (omega arith) c.loop-byte-test.true c.loop-byte.invariant.good (sym c.turn_of.ensures ∙ c.in-None.is) (sym c.is_blank.ensures ∙ c.if-is_blank.false))

pub returns-clause-exact : goal.returns-clause-exact
returns-clause-exact c =
    schedule_ok c.args.text.now c.loop-byte.turns.items c.loop-byte.byte (omega arith) c.loop-byte-test.false c.loop-byte.invariant.read c.loop-byte.invariant.good

pub returns-clause-sites : goal.returns-clause-sites
returns-clause-sites c = turns_are_below c.loop-byte.turns.items (take c.loop-byte.byte c.args.text.now) c.loop-byte.invariant.read
