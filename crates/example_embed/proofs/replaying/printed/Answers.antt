use Rattle.std.proofs.Common.{◌≡◌, Vec, ap, refl, subst, sym, true, ℕ, List, [], ◌++◌, map, codes, string_bytes, ◌∙◌, arith}
use Rattle.std.specs.Prelude.{Option, Some}
use Rattle.std.specs.Global.{Global}
use Rattle.clap.specs.Words.{takes}
use Rattle.lusdist_shell.specs.declared.sink.Sink.{Sink}
use Rattle.lusdist_shell.specs.CommandLine.{lusdist}
use Rattle.lusdist_call.specs.Answers.{IsDone}
use Rattle.lusdist_call.specs.Headline.{IsTrueReplay}
use Rattle.example_embed.specs.declared.design.TheConstants.{DESIGN, TABLE}
use Rattle.example_embed.specs.Texts.{text_of}
use Rattle.example_embed.specs.Words.{words}
use Rattle.example_embed.specs.Replayed.{IsTrueOfDesign}
use Rattle.example_embed.proofs.Asked.{one_text, taken}
use Rattle.example_embed.proofs.replaying.printed.Goals as goal

pub returns-in-Ok : goal.returns-in-Ok
returns-in-Ok g c =
    let request = c.asked-request.result in
    let is_taken = subst (λ (ws : List (List ℕ)). takes lusdist ws ≡ true) (sym c.requires) taken in
    let done = c.serve-status.ensures.done is_taken (let zero = c.if-status-ne0.false in omega (arith, zero)) in
    let text = done.0 in
    let is_done = subst (λ (ws : List (List ℕ)). IsDone (λ path given. given ≡ text_of path) ws text) c.requires done.1 in
    let design : text_of (codes "design") ≡ Some DESIGN.now = refl in
    let table : text_of (codes "table") ≡ Some TABLE.now = refl in
    let found = c.headline_law.ensures.replay one_text words request DESIGN.now TABLE.now text c.asked-request.ensures.asked is_done
    (sym (ap text_of c.asked-request.ensures.program ∙ design)) (sym (ap text_of c.asked-request.ensures.table ∙ table)) in
    let true_of = subst (λ (m : List ℕ). IsTrueReplay DESIGN.now TABLE.now m text) c.asked-request.ensures.main found in
    let new : c.new-out.result.writer.items ≡ [] = ap (λ (s : Sink (Vec ℕ Global)). s.writer.items) c.new-out.ensures ∙ c.new.ensures.items in
    let whole : c.writer.result.now.items ≡ c.serve-status.new.out.writer.items = ap (λ (v : Vec ℕ Global). v.items) c.writer.ensures in
    let printed : c.in-Ok.text.items ≡ text = c.in-Ok.ensures.items ∙ c.deref.ensures.value ∙ whole ∙ done.2 ∙ ap (λ (xs : List ℕ). xs ++ text) new in
    subst IsTrueOfDesign (sym printed) true_of
