use Rattle.std.proofs.Common.{◌≡◌, ◌+◌, ◌++◌, Bool, true, false, cond, ℕ, List, [], ◌∷◌, map, filter, Option, sym, ap, ◌∙◌, append-nil}
use Rattle.std.specs.List.{range_with_len}
use Rattle.std.proofs.lemmas.List.{map-append}
use Rattle.std.specs.Prelude.{Vec}
use Rattle.std.specs.declared.alloc.Global.{Global}
use Rattle.luflow.specs.Program.{FlatView}
use Rattle.luflow.specs.Variables.{is_output_of}
use Rattle.lusite_program.proofs.Ranges.{filter_more}
use Rattle.lulist.specs.Rows.{reported_number}
use Rattle.lulist.proofs.outputs.reported_of.Goals as goal
use Rattle.lulist.proofs.outputs.reported_of.Goals.{then-is_output+in_ok-push, else-is_output}

-- one variable more
more : (f : ℕ → Option ℕ) (p : ℕ → Bool) (v : ℕ) (b : Bool) (old new : List (Option ℕ)) → p v ≡ b → old ≡ map f (filter p (range_with_len 0 v)) → new ≡ old ++ map f (cond b (v ∷ []) []) → new ≡ map f (filter p (range_with_len 0 (v + 1)))
more f p v b old new is was now =
    let before = filter p (range_with_len 0 v) in
    now ∙ ap (λ (xs : List (Option ℕ)). xs ++ map f (cond b (v ∷ []) [])) was
    ∙ sym (map-append f before (cond b (v ∷ []) []))
    ∙ ap (map f) (sym (filter_more p v ∙ ap (λ (c : Bool). before ++ cond c (v ∷ []) []) is))

pub loop-v-preserved : goal.loop-v-preserved
loop-v-preserved c =
    let f = reported_number c.args.plan.now c.args.site c.args.numbers.now in
    let p = is_output_of c.args.plan.now.flat in
    let v = c.loop-v.v in
    let old = c.loop-v.reported.items in
    let test : p v ≡ c.is_output.result = ap (λ (flat : FlatView). is_output_of flat v) (sym c.flat-flat.ensures.flat) ∙ sym c.is_output.ensures in
    elim c.if-is_output.branch [
      | then-is_output+in_ok-push w ↦ record {
        so_far = more f p v true old c.if-is_output.reported.items (test ∙ w.if-is_output.true) c.loop-v.invariant.so_far
            (ap (λ (xs : Vec (Option ℕ) Global). xs.items) w.reported-is ∙ w.in_ok-push.ensures.items ∙ ap (λ (o : Option ℕ). old ++ o ∷ []) w.reported_number.ensures);
      }
      | else-is_output w ↦ record {
        so_far = more f p v false old c.if-is_output.reported.items (test ∙ w.if-is_output.false) c.loop-v.invariant.so_far
            (ap (λ (xs : Vec (Option ℕ) Global). xs.items) w.reported-is ∙ sym (append-nil old));
      }
    ]
