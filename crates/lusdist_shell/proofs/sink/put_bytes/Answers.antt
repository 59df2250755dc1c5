use Rattle.std.proofs.Common.{◌∙◌, ℕ, ◌+◌, ◌-◌, ◌++◌, List, Option, ap, arith, drop, length, subst, sym, take, take-add}
use Rattle.std.proofs.lemmas.List.{length-drop, take_rest}
use Rattle.std.proofs.KnownBytes.{Appends-kept, Appends-trans}
use Rattle.std.specs.Io.KnownBytes.{Appends}
use Rattle.lusdist_shell.proofs.sink.put_bytes.Goals as goal
use Rattle.lusdist_shell.proofs.sink.put_bytes.Goals.{in-Ok, in-Err+else-ne}

-- what one write took stands behind what was written before
one_write : (a b d : Option (List ℕ)) (bytes : List ℕ) (at n : ℕ) → Appends a b (take at bytes) → Appends b d (take n (take (length bytes - at) (drop at bytes))) → Appends a d (take (at + n) bytes)
one_write a b d bytes at n before one =
    let rest = ap (take n) (take_rest bytes at) in
    subst (Appends a d) (ap (λ l. take at bytes ++ l) rest ∙ sym (take-add at n bytes)) (Appends-trans a b d _ _ before one)

pub loop-preserved : goal.loop-preserved
loop-preserved g c =
    let bytes = c.args.bytes.now in
    let before = c.loop.invariant in
    let old = g.W.Write.contents c.args.writer.now in
    let new = g.W.Write.contents c.write.new.self in
    let P : ℕ → Type 0 = λ at. Appends old new (take at bytes) in
    elim c.match-write.branch [
      | in-Ok w ↦ record {
        within = omega (arith, w.at-is, before.within, w.in-Ok.ensures.bound, length-drop c.loop.at bytes, ap length (take_rest bytes c.loop.at));
        written = subst P (sym w.at-is) (one_write old (g.W.Write.contents c.loop.writer) new bytes c.loop.at w.in-Ok.n before.written w.in-Ok.ensures.bytes);
      }
      | in-Err+else-ne w ↦ record {
        within = omega (arith, w.at-is, before.within);
        written = subst P (sym w.at-is) (Appends-kept old (g.W.Write.contents c.loop.writer) new (take c.loop.at bytes) before.written w.in-Err.ensures.bytes);
      }
    ]
