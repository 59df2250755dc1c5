use Rattle.std.proofs.Common.{rules, arith, ◌≡◌, ◌<◌, ℕ, Some, length, get_or, refl}
use Rattle.std.specs.Prelude.{slice_get}
use Rattle.std.proofs.lemmas.Option.{slice_get-get_or}
use Rattle.lublock.proofs.Showing.{stays_same, stays_more}
use Rattle.lublock.proofs.reported.show_flows.Goals as goal

pub loop-v-init : goal.loop-v-init
loop-v-init c = record {
  len = refl;
  near = stays_same c.args.flat.now c.args.t c.args.len c.args.board.now (λ (v : ℕ). (k : ℕ) × (slice_get c.args.needs.now k ≡ Some v)) c.args.columns.now.items;
}

pub loop-v-preserved : goal.loop-v-preserved
loop-v-preserved c =
    let needs = c.args.needs.now in
    let k = c.loop-v.v-index in
    let inside : k < length needs = search rules in
    let show = c.in_ok-show.ensures in
    record {
      len = let a = show.len c.if-branch.false in let b = c.loop-v.invariant.len in omega (arith, a, b);
      near = stays_more c.args.flat.now c.args.t c.args.len c.args.board.now (λ (v : ℕ). (k : ℕ) × (slice_get needs k ≡ Some v)) (get_or needs k 0) c.args.columns.now.items c.loop-v.columns.items c.show.new.columns.items (k, slice_get-get_or needs k 0 inside) c.loop-v.invariant.near (show.near c.if-branch.false);
    }
