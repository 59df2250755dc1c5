use Rattle.std.proofs.Common.{rules, ◌≡◌, ◌∙◌, ◌++◌, ◌∷◌, ◌<◌, true, false, [], ℕ, Bool, ap, sym, length}
use Rattle.std.specs.Prelude.{slice_index_or}
use Rattle.std.proofs.lemmas.List.{get_or_default}
use Rattle.luplace_file.specs.Rules.{is_among}
use Rattle.luplace_file.proofs.Numbers.{filter_kept, filter_left}
use Rattle.luplace_file.proofs.names.numbers_of.Goals as goal

pub loop-i-preserved-then-not-is_among : goal.loop-i-preserved-then-not-is_among
loop-i-preserved-then-not-is_among c =
    let p : ℕ → Bool = λ site. is_among c.args.names.now (slice_index_or c.args.sites.now site []) in
    let within : c.loop-i.i < length c.args.sites.now = search rules in
    let name = c.as_str.ensures ∙ c.index-sites-i.is ∙ get_or_default c.args.sites.now c.loop-i.i c.index-sites-i.result [] within in
    let reported : c.is_among.result ≡ false = search rules in
    c.loop-i.invariant ∙ filter_left p c.loop-i.i (ap (is_among c.args.names.now) (sym name) ∙ sym c.is_among.ensures ∙ reported)

pub loop-i-preserved : goal.loop-i-preserved
loop-i-preserved c =
    let p : ℕ → Bool = λ site. is_among c.args.names.now (slice_index_or c.args.sites.now site []) in
    let within : c.loop-i.i < length c.args.sites.now = search rules in
    let name = c.as_str.ensures ∙ c.index-sites-i.is ∙ get_or_default c.args.sites.now c.loop-i.i c.index-sites-i.result [] within in
    let reported : c.is_among.result ≡ true = search rules in
    let pushed : c.push.new.self.items ≡ c.loop-i.numbers.items ++ c.loop-i.i ∷ [] = search rules in
    pushed ∙ ap (λ ns. ns ++ c.loop-i.i ∷ []) c.loop-i.invariant ∙ filter_kept p c.loop-i.i (ap (is_among c.args.names.now) (sym name) ∙ sym c.is_among.ensures ∙ reported)
