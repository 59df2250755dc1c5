use Rattle.std.proofs.Common.{◌≡◌, ℕ, zero, suc, true, [], ◌∷◌, Some, refl, sym, ap, ◌∙◌, arith}
use Rattle.std.specs.Prelude.{slice_get, codes}
use Rattle.std.proofs.lemmas.Option.{same_Some}
use Rattle.lutree.specs.Tree.{NodeTree, program_of}
use Rattle.luflow.specs.declared.variable.Role.TheVariants as role
use Rattle.luflow.specs.declared.data.Status.TheVariants.{Absent, Present}
use Rattle.luflow.specs.Streams.{Mark, Known, Broken, Stream, datum_of}
use Rattle.luflow.specs.Values.{gives, under}
use Rattle.luflow.specs.Vectors as flat
use Rattle.lusource.specs.Source.{SourceStreams, IsSourceSolution}
use Rattle.lusource.specs.Agreement.{Agrees}
use Rattle.lucore_laws.specs.Layout.{AreLists, node_flows}
use Rattle.lucore_laws.specs.Loop.{loop, loop_flat}
use Rattle.lucore_laws.proofs.list_laws.loop_law.Goals as goal

-- no variable is ever there
nowhere : SourceStreams
nowhere path x t = Known Absent

solves : IsSourceSolution (program_of (loop ∷ [])) (codes "main") flat.three nowhere
unfolding nowhere
solves [] = record { inputs = λ j d e. cc; equations = ((refl, tt), ((refl, tt), tt)) }
solves (i ∷ path) = tt

-- under a clock that is true nothing is absent
there : (m : Mark) → Known Absent ≡ under (Some true) (gives (datum_of m)) → ⊥
there Broken e = cc
there (Known Absent) e = cc
there (Known (Present d)) e = cc

differ : Agrees (program_of (loop ∷ [])) (codes "main") flat.three loop_flat → ⊥
unfolding nowhere
differ agrees =
    let f = agrees.to_flat nowhere solves in
    let y = f.2 0 (flat.int_variable role.Output (codes "y")) refl in
    let y0 : f.0 0 0 ≡ Known Absent = ap (λ (s : Stream). s 0) y in
    there (f.0 1 0) (sym y0 ∙ f.1 0 0 (omega arith))

lists : AreLists (program_of (loop ∷ [])) (loop_flat.flows ∷ [])
lists = record { count = refl; each = each }
  where
    each : (i : ℕ) (n : NodeTree) → slice_get (loop ∷ []) i ≡ Some n → slice_get (loop_flat.flows ∷ []) i ≡ Some (node_flows (program_of (loop ∷ [])) (loop_flat.flows ∷ []) n)
    each zero n same = ap (λ n. Some (node_flows (program_of (loop ∷ [])) (loop_flat.flows ∷ []) n)) (same_Some loop n same)
    each (suc i) n same = cc

pub returns : goal.returns
returns c = record {
  laid_out = record { lists = loop_flat.flows ∷ []; are_lists = lists; node = loop; is_main = refl; flows = refl; owners = refl; variables = refl; types = refl };
  differ = differ;
}
