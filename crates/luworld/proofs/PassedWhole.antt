-- Where the ends of a link have ended, its list passed whole.
use Rattle.std.proofs.Common.{◌≡◌, ℕ, ◌<◌, List, take, flat_map, count_by, ap, ◌∙◌, arith}
use Rattle.std.proofs.lemmas.List.{take_all}
use Rattle.luworld.specs.Systems.{Item, ItemCounts, puts, takes, done, put_count, taken_count}
use Rattle.luworld.specs.Outline.{Outline, IsOutline, NoFault, HasEnded, system, script, full_script, part, events, list_length}
use Rattle.luworld.specs.OutlineLaws.{PassedWhole}
use Rattle.luworld.proofs.Parts.{script_parts}
use Rattle.luworld.proofs.Passing.{sent, received}
use Rattle.luworld.proofs.Exact.{passed_exact}
use Rattle.luworld.proofs.Ended.{ended_whole}

module _ (plan : Outline) (ok : IsOutline plan) (fine : NoFault plan) (world : ItemCounts) (link : ℕ) (listed : link < plan.links) where
  -- the done items of an ended site are its part in all events
  all_items : (site : ℕ) → HasEnded plan world site → take (done world site) (script plan site) ≡ flat_map (part plan site) (events plan)
  all_items site ended =
      take_all (done world site) (script plan site) (omega (arith, ended.whole)) ∙ ended_whole plan world site ended ∙ script_parts plan site

  pub passed_whole : PassedWhole plan world link
  passed_whole = record {
    put = λ ended. ap (count_by (puts link)) (all_items (plan.home (plan.flow_of link)) ended) ∙ sent plan ok link (events plan) ∙ passed_exact plan ok fine link listed;
    taken = λ ended. ap (count_by (takes link)) (all_items (plan.receiver link) ended) ∙ received plan ok link listed (events plan) ∙ passed_exact plan ok fine link listed;
  }
