use Rattle.std.proofs.Common.{◌≡◌, ◌∙◌, ◌+◌, ◌-◌, drop, Some, cond, sym, ap, arith, Bor, ℕ, List, get_or, ◌<◌, length, []}
use Rattle.std.specs.Str.{bytes_eq}
use Rattle.std.proofs.lemmas.Map.Text.{btree_map_updates_str}
use Rattle.lubase.specs.Places.{place_from, looked_up}
use Rattle.lubase.proofs.Finding.{first_step, texts}
use Rattle.lubase.proofs.places.index_of.Goals as goal

pub loop-i-preserved : goal.loop-i-preserved
loop-i-preserved c = λ x.
    let names = c.args.names.now in
    let i = c.loop-i.i - 1 in
    let none : Bor (List ℕ) = record { ref_ptr = (0, 0); now = [] } in
    let s = get_or names i none in
    let lt : i < length names = omega arith in
    let set_there = btree_map_updates_str s.now c.loop-i.index c.insert.new.self (Some i) c.in_ok-insert.ensures.updates x in
    let again : i + 1 ≡ c.loop-i.i = omega arith in
    let rest : looked_up c.loop-i.index x ≡ place_from (i + 1) (texts (drop (i + 1) names)) x =
    c.loop-i.invariant x ∙ ap (λ k. place_from k (texts (drop k names)) x) (sym again) in
    set_there
    ∙ ap (λ o. cond (bytes_eq s.now x) (Some i) o) rest
    ∙ sym (first_step names i none x lt)
