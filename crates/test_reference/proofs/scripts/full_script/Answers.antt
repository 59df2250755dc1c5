use Rattle.std.proofs.Common.{◌≡◌, ◌+◌, ◌∙◌, ap, sym, arith, ◌++◌, flat_map}
use Rattle.std.specs.List.{range_with_len}
use Rattle.luworld.specs.Outline.{Outline, round}
use Rattle.luworld.specs.Jobs.{outline, streams_of}
use Rattle.luworld.proofs.Rounds.{rounds_are}
use Rattle.test_reference.proofs.Scripted.{range_pieces}
use Rattle.test_reference.proofs.scripts.full_script.Goals as goal

pub loop-instant-preserved : goal.loop-instant-preserved
loop-instant-preserved c =
    let o : Outline = outline c.args.job.now (streams_of c.args.job.now) in
    range_pieces (round o c.args.site) c.loop-instant.instant c.loop-instant.items.items c.extend_from_slice.new.self.items c.in_ok-more.more.items (c.in_ok-extend_from_slice.ensures.items ∙ ap (λ xs. c.loop-instant.items.items ++ xs) c.as_slice.ensures.value) c.loop-instant.invariant c.in_ok-more.ensures

pub returns : goal.returns
returns c =
    let o : Outline = outline c.args.job.now (streams_of c.args.job.now) in
    let n : c.loop-instant.instant ≡ c.args.job.now.inputs.instants + 1 = let a = c.loop-instant-test.false in let b = c.loop-instant.auto.instant-end in let e = c.instants-rounds.ensures in omega (arith, a, b, e) in
    c.loop-instant.invariant ∙ ap (λ k. flat_map (round o c.args.site) (range_with_len 0 k)) n ∙ sym (rounds_are o c.args.site)
