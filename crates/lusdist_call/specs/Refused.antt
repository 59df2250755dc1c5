-- What a call that stops says of the program.
use Rattle.std.specs.Prelude.{◌≡◌, ◌≢◌, ◌⊎◌, ℕ, List, Some, Ok, Err, IsUtf8}
use Rattle.lutree.specs.declared.program.Program.{Program}
use Rattle.lutree.specs.Places.{ProgramPlaces, places_view}
use Rattle.lutree.specs.Tree.{ProgramTree, program_view}
use Rattle.lustat_rules.specs.Accepted.{IsAccepted}
use Rattle.lustat_rules.specs.Reported.{ReportsRule}
use Rattle.lustat_rules.specs.declared.error.StatError.{StatError}
use Rattle.lustat.specs.First.{IsReportedFirst}
use Rattle.lucore.specs.declared.error.CoreError.{CoreError}
use Rattle.lucore.specs.Result.{Refuses}
use Rattle.luflow.specs.declared.variable.Enum.{Enum}
use Rattle.luflow.specs.declared.variable.Variable.{Variable}
use Rattle.lusyn.specs.declared.error.SynError.TheVariants as syntax
use Rattle.lusyn.specs.Refusals.{IsRefused as IsRefusedProgram}
use Rattle.luflow.specs.Program.{FlatView}
use Rattle.luplace_file.specs.Content.{PlaceView}
use Rattle.luplace_file.specs.declared.error.PlaceError.TheVariants as placing
use Rattle.luplace_file.specs.Placement.{placement_of}
use Rattle.luplace.specs.Placing.{refusal}
use Rattle.lutab.specs.declared.error.TabError.TheVariants as table
use Rattle.lutab.specs.Table.{IsRefused as IsRefusedTable}
use Rattle.lusdist_call.specs.declared.call_error.CallError.{CallError}
use Rattle.lusdist_call.specs.declared.call_error.CallError.TheVariants.{NotAscii, Syntax, Rules, Flat}
use Rattle.lusdist_call.specs.declared.call_error.CallError.TheVariants.{Place as PlaceStop, Table}

-- A rule that the program breaks, where all rules of the stages before it are kept: of its own stage the
-- fault of the least byte, at equal bytes of the least number, each at its place, as a program in memory with
-- this tree and these places has them. Or, of a program that keeps all rules, why it has no flat program.
pub data IsReportedOf (tree : ProgramTree) (places : ProgramPlaces) (main : List ℕ)
    (stop : CallError) : Type 0 where
  rule : (refusal : StatError) (read : Program) → stop ≡ Rules refusal → ReportsRule 3 tree main refusal
      → tree ≡ program_view read → places ≡ places_view read → IsReportedFirst read main refusal
      → IsReportedOf tree places main stop
  flat : (refusal : CoreError) → stop ≡ Flat refusal → IsAccepted tree main → Refuses tree main refusal
      → IsReportedOf tree places main stop

-- the bytes of a program's file are no text, or a text that is refused so
abbrev pub IsProgramRefused : List ℕ → CallError → Type 0
IsProgramRefused bytes NotAscii = ¬ IsUtf8 bytes
IsProgramRefused bytes (Syntax e) = (e ≡ syntax.OutOfMemory) ⊎ (IsUtf8 bytes × IsRefusedProgram bytes e)
IsProgramRefused bytes _ = ⊥

-- the bytes of a table's file are no text, which is reported as a bad header, or a text that is refused so
abbrev pub IsTableRefused : List Enum → List Variable → List ℕ → CallError → Type 0
IsTableRefused types inputs bytes (Table e) = ((e ≡ table.BadHeader) × (¬ IsUtf8 bytes))
    ⊎ (IsUtf8 bytes × (e ≢ table.OutOfMemory → IsRefusedTable types inputs bytes e))
IsTableRefused types inputs bytes _ = ⊥

-- the bytes of a placement's file are no text, which is reported as no TOML, or a text that is refused so, or
-- one whose placement is refused so for the program
abbrev pub IsPlaceRefused : FlatView → List ℕ → CallError → Type 0
IsPlaceRefused program bytes (PlaceStop e) =
    ((e ≡ placing.NotToml) × (¬ IsUtf8 bytes))
    ⊎ (IsUtf8 bytes × ((e ≡ placing.OutOfMemory) ⊎ ((placement_of bytes ≡ Err e)
    ⊎ ((place : PlaceView) × (placement_of bytes ≡ Ok place) × (refusal program place ≡ Some e)))))
IsPlaceRefused program bytes _ = ⊥
