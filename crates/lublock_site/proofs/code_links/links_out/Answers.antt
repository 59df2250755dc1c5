use Rattle.std.proofs.Common.{◌≡◌, List, Bool, false, sym, subst}
use Rattle.luflow.specs.Program.{FlatView}
use Rattle.luflow.specs.Flats.{IsFlat}
use Rattle.lublock_kernels.specs.Parts.{IsNeverNil}
use Rattle.luplace.specs.Classes.{class_in}
use Rattle.lublock_site.proofs.Refitted.{never_nil}
use Rattle.lublock_site.proofs.code_links.links_out.Goals as goal

pub links_by-requires : goal.links_by-requires
links_by-requires c = λ r none.
    let flat = c.flat-flat.result.now in
    let nils = c.in_ok-nils.nils.items in
    let is : class_in nils r ≡ false = subst (λ (xs : List Bool). class_in xs r ≡ false) c.deref.ensures.value none in
    subst (λ (flat : FlatView). IsNeverNil flat r) c.flat-flat.ensures.flat (never_nil flat (class_in nils) r c.recall_invariant.ensures.sound c.in_ok-nils.ensures.meet is)
