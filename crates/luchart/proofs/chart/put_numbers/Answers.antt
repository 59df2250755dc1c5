use Rattle.std.proofs.Common.{◌+◌, ◌*◌, ◌++◌, ap, ◌∙◌, string_bytes}
use Rattle.luchart.specs.Chronogram.{number, stride}
use Rattle.luchart.proofs.Ranges.{text_more_zero}
use Rattle.luchart.proofs.chart.put_numbers.Goals as goal

pub loop-k-preserved : goal.loop-k-preserved
loop-k-preserved c =
    let layout = c.args.layout in
    text_more_zero (λ k. number (stride layout * layout.width) (c.args.start + (k + 1) * stride layout)) c.loop-k.k (string_bytes c.args.text.now) (string_bytes c.loop-k.text) (string_bytes c.put_number.new.text) c.loop-k.invariant
    (c.in_ok-put_number.ensures ∙ ap (λ s. string_bytes c.loop-k.text ++ number (s * layout.width) (c.args.start + (c.loop-k.k + 1) * s)) c.stride-stride.ensures.stride)
