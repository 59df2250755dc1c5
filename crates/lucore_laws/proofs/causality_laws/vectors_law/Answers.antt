use Rattle.std.proofs.Common.{◌≡◌, ℕ, ◌-◌, ◌<◌, List, [], ◌∷◌, length, refl, subst, arith}
use Rattle.std.specs.Prelude.{codes, Contains}
use Rattle.lutree.specs.Tree.{ProgramTree, program_of}
use Rattle.lucore_laws.specs.Reads.{Position, Occurrence, Instance, Item, items_of, main_instance, IsInstance, Reads, Leads}
use Rattle.lucore_laws.specs.Reads.Occurrence.{variable, operator}
use Rattle.lucore_laws.specs.Reads.Item.{reading, calling}
use Rattle.lucore_laws.specs.CausalityLaws.{HasCycle}
use Rattle.lucore_laws.specs.CausalityVectors.{same, through_call, counter, through_clock}
use Rattle.lucore_laws.proofs.Graph.{Every, every_get}
use Rattle.lucore_laws.proofs.causality_laws.vectors_law.Goals as goal

abbrev at : ℕ → List ℕ → Position
at n operands = record { equation = n; operands = operands }

-- THE CALL

abbrev calling_program : ProgramTree
calling_program = program_of (same ∷ through_call ∷ [])

abbrev top : List ℕ
top = codes "main"

abbrev a : Occurrence
a = variable [] (codes "a")

abbrev inner : Instance
inner = record { path = at 0 [] ∷ []; node = codes "same"; clock = []; arguments = a ∷ [] }

is_inner : IsInstance calling_program top inner
is_inner = IsInstance.called (main_instance top) inner IsInstance.first (1, omega arith, refl)

abbrev x : Occurrence
x = variable (at 0 [] ∷ []) (codes "x")

abbrev y : Occurrence
y = variable (at 0 [] ∷ []) (codes "y")

a_reads_y : Reads calling_program top a y
a_reads_y = record { instance = main_instance top; is_instance = IsInstance.first; all = y ∷ []; there = (0, omega arith, refl); among = (0, omega arith, refl) }

y_reads_x : Reads calling_program top y x
y_reads_x = record { instance = inner; is_instance = is_inner; all = x ∷ []; there = (1, omega arith, refl); among = (0, omega arith, refl) }

x_reads_a : Reads calling_program top x a
x_reads_a = record { instance = inner; is_instance = is_inner; all = a ∷ []; there = (0, omega arith, refl); among = (0, omega arith, refl) }

call_closes : HasCycle calling_program top
call_closes = (a, Leads.more a x a (Leads.more a y x (Leads.one a y a_reads_y) y_reads_x) x_reads_a)

-- THE CLOCK

abbrev c : Occurrence
c = variable [] (codes "c")

abbrev s : Occurrence
s = variable [] (codes "s")

-- the operators of the second equation
abbrev equal : Occurrence
equal = operator [] (at 1 [])

abbrev held : Occurrence
held = operator [] (at 1 (0 ∷ []))

c_reads_equal : Reads (program_of (through_clock ∷ [])) top c equal
c_reads_equal = record { instance = main_instance top; is_instance = IsInstance.first; all = equal ∷ []; there = (3, omega arith, refl); among = (0, omega arith, refl) }

equal_reads_held : Reads (program_of (through_clock ∷ [])) top equal held
equal_reads_held =
    record { instance = main_instance top; is_instance = IsInstance.first; all = held ∷ operator [] (at 1 (1 ∷ [])) ∷ []; there = (4, omega arith, refl); among = (0, omega arith, refl) }

held_reads_s : Reads (program_of (through_clock ∷ [])) top held s
held_reads_s = record { instance = main_instance top; is_instance = IsInstance.first; all = s ∷ []; there = (5, omega arith, refl); among = (0, omega arith, refl) }

s_reads_c : Reads (program_of (through_clock ∷ [])) top s c
s_reads_c =
    record { instance = main_instance top; is_instance = IsInstance.first; all = operator [] (at 0 []) ∷ c ∷ []; there = (0, omega arith, refl); among = (1, omega arith, refl) }

clock_closes : HasCycle (program_of (through_clock ∷ [])) top
clock_closes =
    (c, Leads.more c s c (Leads.more c held s (Leads.more c equal held (Leads.one c equal c_reads_equal) equal_reads_held) held_reads_s) s_reads_c)

-- THE DELAY

-- what is read has a smaller rank
abbrev rank : Occurrence → ℕ
rank (variable path x) = 5
rank (operator path t) = 4 - length t.operands

abbrev Falls : Item → Type 0
Falls (reading x all) = Every (λ y. rank y < rank x) all
Falls (calling b) = ⊥

all_fall : Every Falls (items_of (program_of (counter ∷ [])) (main_instance top))
all_fall = ((omega arith, tt), ((omega arith, (omega arith, tt)), (tt, ((omega arith, (omega arith, tt)), (tt, (tt, tt))))))

only_main : (b : Instance) → IsInstance (program_of (counter ∷ [])) top b → b ≡ main_instance top
only_main _ IsInstance.first = refl
only_main _ (IsInstance.called a b is c) =
    let same = only_main a is in
    absurd (every_get Falls (items_of (program_of (counter ∷ [])) (main_instance top)) (calling b) all_fall (subst (λ a. Contains (items_of (program_of (counter ∷ [])) a) (calling b)) same c))

read_falls : (x y : Occurrence) → Reads (program_of (counter ∷ [])) top x y → rank y < rank x
read_falls x y r =
    let same = only_main r.instance r.is_instance in
    let there = subst (λ a. Contains (items_of (program_of (counter ∷ [])) a) (reading x r.all)) same r.there in
    every_get (λ y. rank y < rank x) r.all y (every_get Falls (items_of (program_of (counter ∷ [])) (main_instance top)) (reading x r.all) all_fall there) r.among

falls : (x y : Occurrence) → Leads (program_of (counter ∷ [])) top x y → rank y < rank x
falls x y (Leads.one _ _ r) = read_falls x y r
falls x z (Leads.more _ y _ way r) = let f = falls x y way in let g = read_falls y z r in omega (arith, f, g)

pub returns : goal.returns
returns c = record {
  call_closes = call_closes;
  clock_closes = clock_closes;
  pre_breaks = λ cycle. let f = falls cycle.0 cycle.0 cycle.1 in omega (arith, f);
}
