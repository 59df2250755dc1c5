use Rattle.std.proofs.Common.{◌≡◌, ◌+◌, ◌*◌, ◌++◌, flat_map, string_bytes}
use Rattle.std.specs.List.{range_with_len}
use Rattle.luchart.specs.Chronogram.{number, stride}
use Rattle.luchart.proofs.chart.put_numbers.Given as goal

abbrev pub invariant-loop-k : goal.invariant-loop-k
invariant-loop-k l = string_bytes l.text ≡ string_bytes l.initial.text ++ flat_map (λ k. number (stride l.fn.layout * l.fn.layout.width) (l.start + (k + 1) * stride l.fn.layout)) (range_with_len 0 l.k)
