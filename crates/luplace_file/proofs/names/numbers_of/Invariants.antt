use Rattle.std.proofs.Common.{◌≡◌, []}
use Rattle.std.specs.Prelude.{slice_index_or}
use Rattle.std.specs.List.{filter, range_with_len}
use Rattle.luplace_file.specs.Rules.{is_among}
use Rattle.luplace_file.proofs.names.numbers_of.Given as goal

-- the numbers so far are those of the named sites before `i`
abbrev pub invariant-loop-i : goal.invariant-loop-i
invariant-loop-i l = l.numbers.items ≡ filter (λ site. is_among l.names (slice_index_or l.sites site [])) (range_with_len 0 l.i)
