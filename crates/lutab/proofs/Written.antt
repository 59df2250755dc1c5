-- Outputs that are written.
use Rattle.std.proofs.Common.{◌≡◌, ℕ, zero, suc, ◌+◌, ◌<◌, List, [], ◌∷◌, ◌++◌, length, get_or, take, drop, map, ◌≤◌, refl, sym, ap, ap₂, ◌∙◌, zero-add, append_assoc, arith, All, vec_len}
use Rattle.std.specs.List.{join_with_byte}
use Rattle.std.proofs.lemmas.List.{get_or_default, length-map, length-take-le, length-drop, get_or-take, get_or-drop}
use Rattle.std.proofs.lemmas.List.Elements.{All-get_or, All-nil, All-cons, All-head, All-tail}
use Rattle.std.proofs.Math.ListN.{get_or-map}
use Rattle.std.specs.declared.vec.Vec.{Vec}
use Rattle.std.specs.declared.string.String.{String}
use Rattle.std.specs.declared.alloc.Global.{Global}
use Rattle.lutree.specs.declared.program.Kind.{Kind}
use Rattle.luflow.specs.declared.variable.Enum.{Enum}
use Rattle.luflow.specs.declared.data.Status.{Status}
use Rattle.luflow.specs.declared.data.Status.TheVariants.{Absent}
use Rattle.luflow.specs.Tables.{OutputColumn, AreOutputs, output_view, outputs_view}
use Rattle.lutab.specs.Text.{comma_before, status_text, line_text}
use Rattle.lutab.specs.Outputs.{names_in, statuses_from, statuses_at, names_text, lines_of, lines_text}
use Rattle.lutab.specs.Buffers.{cell_view, cells_view, stretch_of}
use Rattle.lutab.proofs.Joins.{join_push}

-- the status that was read is the one that the text spells
pub same_status : (cells : List (Vec Status Global)) (i k : ℕ) (o : Vec Status Global) (s : Status) → All (λ x. k < vec_len x) cells → i < length cells → s ≡ get_or (get_or cells i o).items k s → s ≡ get_or (get_or cells i o).items k Absent
same_status cells i k o s all lt read =
    let short = All-get_or (λ (x : Vec Status Global). k < vec_len x) cells i o lt all in
    let len = (get_or cells i o).ok.0 in
    read ∙ get_or_default (get_or cells i o).items k s Absent (omega (arith, short, len))

-- all are as long as the first
pub all_long : (xs : List (String Global × Vec Status Global)) (x : String Global × Vec Status Global) → AreOutputs (outputs_view xs) → All (λ y. vec_len y.1 ≡ vec_len (get_or xs 0 x).1) xs
all_long [] x is = absurd is
all_long (y ∷ ys) x is = λ k d lt.
    let h = is k (output_view d) (omega (arith, lt, length-map ys output_view)) in
    let e = ap (λ (c : OutputColumn). length c.statuses) (get_or-map output_view (y ∷ ys) k d) in
    let first = y.1.ok.0 in
    let here = (get_or (y ∷ ys) k d).1.ok.0 in
    omega (arith, h, e, first, here)

-- one more output of a line
statuses_more : (types : List Enum) (kinds : List Kind) (a t i : ℕ) (outputs : List (Vec Status Global)) (o : Vec Status Global) → i < length outputs
    → statuses_from types kinds a (cells_view (take (i + 1) outputs)) t ≡ statuses_from types kinds a (cells_view (take i outputs)) t ++ status_text (names_in types kinds (a + i)) (get_or (get_or outputs i o).items t Absent) ∷ []
statuses_more types kinds a t i [] o lt = absurd (omega (arith, lt))
statuses_more types kinds a t zero (x ∷ outputs) o lt =
    let z : a ≡ a + 0 = omega arith in
    ap (λ n. status_text (names_in types kinds n) (get_or x.items t Absent) ∷ []) z
statuses_more types kinds a t (suc i) (x ∷ outputs) o lt =
    let z : (a + 1) + i ≡ a + suc i = omega arith in
    let y : suc i + 1 ≡ suc (i + 1) = omega arith in
    let rest = statuses_more types kinds (a + 1) t i outputs o (omega (arith, lt)) in
    ap (λ m. statuses_from types kinds a (cells_view (take m (x ∷ outputs))) t) y
    ∙ ap (λ (fs : List (List ℕ)). status_text (names_in types kinds a) (get_or x.items t Absent) ∷ fs)
    (rest ∙ ap (λ n. statuses_from types kinds (a + 1) (cells_view (take i outputs)) t ++ status_text (names_in types kinds n) (get_or (get_or outputs i o).items t Absent) ∷ []) z)

many : (types : List Enum) (kinds : List Kind) (a t : ℕ) (outputs : List OutputColumn) → length (statuses_from types kinds a outputs t) ≡ length outputs
many types kinds a t [] = refl
many types kinds a t (c ∷ cs) = ap suc (many types kinds (a + 1) t cs)

-- the same behind what stands there
pub statuses_behind : (types : List Enum) (kinds : List Kind) (t i : ℕ) (outputs : List (Vec Status Global)) (o : Vec Status Global) (start now comma new : List ℕ) → i < length outputs
    → now ≡ start ++ join_with_byte 44 (statuses_at types kinds (cells_view (take i outputs)) t) → comma ≡ now ++ comma_before i → new ≡ comma ++ status_text (names_in types kinds i) (get_or (get_or outputs i o).items t Absent)
    → new ≡ start ++ join_with_byte 44 (statuses_at types kinds (cells_view (take (i + 1) outputs)) t)
statuses_behind types kinds t i outputs o start now comma new lt before a b =
    let so_far = statuses_at types kinds (cells_view (take i outputs)) t in
    let next = status_text (names_in types kinds i) (get_or (get_or outputs i o).items t Absent) in
    let n : length so_far ≡ i = many types kinds 0 t (cells_view (take i outputs)) ∙ length-map (take i outputs) cell_view ∙ length-take-le i outputs (omega (arith, lt)) in
    let more : statuses_at types kinds (cells_view (take (i + 1) outputs)) t ≡ so_far ++ next ∷ [] =
    statuses_more types kinds 0 t i outputs o lt ∙ ap (λ k. so_far ++ status_text (names_in types kinds k) (get_or (get_or outputs i o).items t Absent) ∷ []) (zero-add i) in
    b ∙ ap (λ (x : List ℕ). x ++ next) (a ∙ ap (λ (x : List ℕ). x ++ comma_before i) before)
    ∙ ap (λ (x : List ℕ). x ++ next) (append_assoc start (join_with_byte 44 so_far) (comma_before i))
    ∙ append_assoc start (join_with_byte 44 so_far ++ comma_before i) next
    ∙ ap (λ (x : List ℕ). start ++ x) (append_assoc (join_with_byte 44 so_far) (comma_before i) next ∙ ap (λ k. join_with_byte 44 so_far ++ (comma_before k ++ next)) (sym n) ∙ sym (join_push so_far next) ∙ ap (join_with_byte 44) (sym more))

-- at its instants a stretch has what the whole has
cut_at : (from n k : ℕ) (xs : List Status) → k < n → get_or (take n (drop from xs)) k Absent ≡ get_or xs (from + k) Absent
cut_at from n k xs lt = get_or-take n (drop from xs) k Absent lt ∙ get_or-drop from xs k Absent

statuses_in : (types : List Enum) (kinds : List Kind) (a from n k : ℕ) (outputs : List OutputColumn) → k < n → statuses_from types kinds a (map (stretch_of from n) outputs) k ≡ statuses_from types kinds a outputs (from + k)
statuses_in types kinds a from n k [] lt = refl
statuses_in types kinds a from n k (o ∷ outputs) lt =
    ap₂ (λ (s : Status) (ss : List (List ℕ)). status_text (names_in types kinds a) s ∷ ss) (cut_at from n k o.statuses lt) (statuses_in types kinds (a + 1) from n k outputs lt)

-- the line of a buffer's instant is that of the outputs
pub same_line : (types : List Enum) (kinds : List Kind) (from n k : ℕ) (outputs cells : List OutputColumn) → k < n → cells ≡ map (stretch_of from n) outputs → line_text (statuses_at types kinds cells k) ≡ line_text (statuses_at types kinds outputs (from + k))
same_line types kinds from n k outputs cells lt e = ap (λ (cs : List OutputColumn). line_text (statuses_at types kinds cs k)) e ∙ ap line_text (statuses_in types kinds 0 from n k outputs lt)

-- each part of a buffer has as many
pub parts_long : (from n : ℕ) (outputs : List (String Global × Vec Status Global)) (cells : List (Vec Status Global)) → All (λ x. from + n ≤ vec_len x.1) outputs → cells_view cells ≡ map (stretch_of from n) (outputs_view outputs) → All (λ x. vec_len x ≡ n) cells
parts_long from n outputs [] all e = All-nil (λ (x : Vec Status Global). vec_len x ≡ n)
parts_long from n [] (c ∷ cells) all e = absurd (let l = ap length e in omega (arith, l))
parts_long from n (o ∷ outputs) (c ∷ cells) all e =
    let first = All-head (λ (x : String Global × Vec Status Global). from + n ≤ vec_len x.1) o outputs all in
    let is : c.items ≡ take n (drop from o.1.items) = ap (λ (cs : List OutputColumn). (get_or cs 0 (cell_view c)).statuses) e in
    let rest : cells_view cells ≡ map (stretch_of from n) (outputs_view outputs) = ap (drop 1) e in
    let whole = o.1.ok.0 in
    let own = c.ok.0 in
    let left = length-drop from o.1.items in
    let len : length c.items ≡ n = ap length is ∙ length-take-le n (drop from o.1.items) (omega (arith, first, whole, left)) in
    All-cons (λ x. vec_len x ≡ n) c cells (omega (arith, own, len)) (parts_long from n outputs cells (All-tail (λ (x : String Global × Vec Status Global). from + n ≤ vec_len x.1) o outputs all) rest)

-- one more line
pub line_more : (types : List Enum) (kinds : List Kind) (outputs : List OutputColumn) (m : ℕ) (old line new : List ℕ) → old ≡ lines_text types kinds outputs m → line ≡ line_text (statuses_at types kinds outputs m) → new ≡ old ++ line → new ≡ lines_text types kinds outputs (suc m)
line_more types kinds outputs m old line new before is e =
    e ∙ ap₂ (λ (a b : List ℕ). a ++ b) before is ∙ append_assoc (names_text outputs) (lines_of types kinds outputs m) (line_text (statuses_at types kinds outputs m))
