-- A schedule, letter by letter.
use Rattle.std.proofs.Common.{◌≡◌, ℕ, ◌+◌, ◌-◌, ◌<◌, ◌≤◌, List, [], ◌∷◌, ◌++◌, length, get_or, take, Option, Some, None, IfSome, true, false, not, refl, sym, ap, ◌∙◌, ltb, arith, All, nat_le}
use Rattle.std.specs.Prelude.{◌&&◌, position, is_some, if◌then◌else◌}
use Rattle.std.specs.List.{filter_map, cons_option, position_or_len}
use Rattle.std.proofs.lemmas.Bool.{and_parts, leb-true, lt-ltb, le-ltb, cond_both, cond-false, and_left, and_right, and_from, not_from_true, not_from_false}
use Rattle.std.proofs.lemmas.List.Elements.{All-nil, All-cons, filter_map-append}
use Rattle.std.proofs.lemmas.List.Sums.{position_or_len_is}
use Rattle.std.proofs.lemmas.List.{take_more}
use Rattle.std.proofs.Common.{append-nil, below_more, subst, Ok, Err, take_all}
use Rattle.lusdist_shell.specs.Schedule.{turn_of, is_turn, is_blank, is_bad}
use Rattle.lusdist_shell.specs.ScheduleText.{schedule_of, turns_unless}
use Rattle.lusdist_shell.specs.declared.schedule.ScheduleError.TheVariants.{BadSchedule}

-- ---- a turn is of a site below 16

turn_below : (letter : ℕ) → IfSome (turn_of letter) (λ site. site < 16)
turn_below letter =
    let P : Option ℕ → Type 0 = λ turn. IfSome turn (λ site. site < 16) in
    cond_both (nat_le 48 letter && nat_le letter 57) (Some (letter - 48)) (if nat_le 97 letter && nat_le letter 102 then Some (letter - 97 + 10) else None) P
    (λ digit. let (least, most) = and_parts (nat_le 48 letter) (nat_le letter 57) digit in omega (arith, leb-true letter 57 most))
    (λ _. cond_both (nat_le 97 letter && nat_le letter 102) (Some (letter - 97 + 10)) None P
    (λ letters. let (least, most) = and_parts (nat_le 97 letter) (nat_le letter 102) letters in omega (arith, leb-true letter 102 most))
    (λ _. tt))

one_below : (turn : Option ℕ) (turns : List ℕ) → IfSome turn (λ site. site < 16) → All (λ site. site < 16) turns → All (λ site. site < 16) (cons_option turn turns)
one_below None turns one all = all
one_below (Some site) turns one all = All-cons (λ (s : ℕ). s < 16) site turns one all

pub turns_below : (text : List ℕ) → All (λ site. site < 16) (filter_map turn_of text)
turns_below [] = All-nil (λ (s : ℕ). s < 16)
turns_below (letter ∷ rest) = one_below (turn_of letter) (filter_map turn_of rest) (turn_below letter) (turns_below rest)

-- ---- one letter more

next_turn : (text : List ℕ) (i : ℕ) → i < length text → filter_map turn_of (take (i + 1) text) ≡ filter_map turn_of (take i text) ++ cons_option (turn_of (get_or text i 0)) []
next_turn text i lt =
    ap (filter_map turn_of) (take_more text i 0 lt) ∙ filter_map-append turn_of (take i text) (get_or text i 0 ∷ [])

pub one_turn : (turns : List ℕ) (text : List ℕ) (i site : ℕ) → i < length text → turns ≡ filter_map turn_of (take i text) → turn_of (get_or text i 0) ≡ Some site → turns ++ site ∷ [] ≡ filter_map turn_of (take (i + 1) text)
one_turn turns text i site lt read is =
    ap (λ (ts : List ℕ). ts ++ site ∷ []) read
    ∙ sym (next_turn text i lt ∙ ap (λ (turn : Option ℕ). filter_map turn_of (take i text) ++ cons_option turn []) is)

pub no_turn : (turns : List ℕ) (text : List ℕ) (i : ℕ) → i < length text → turns ≡ filter_map turn_of (take i text) → turn_of (get_or text i 0) ≡ None → turns ≡ filter_map turn_of (take (i + 1) text)
no_turn turns text i lt read is =
    read ∙ sym (next_turn text i lt ∙ ap (λ (turn : Option ℕ). filter_map turn_of (take i text) ++ cons_option turn []) is ∙ append-nil (filter_map turn_of (take i text)))

-- ---- the first bad letter

pub first_bad : (text : List ℕ) (i : ℕ) → i < length text → ((k : ℕ) → k < i → is_bad (get_or text k 0) ≡ false) → is_bad (get_or text i 0) ≡ true → position is_bad text ≡ Some i
first_bad text i lt before here =
    let found : position_or_len is_bad text ≡ i = position_or_len_is is_bad text i 0 (omega arith) before (λ _. here) in
    rw (found, lt-ltb i (length text) lt) refl

pub no_bad : (text : List ℕ) → ((k : ℕ) → k < length text → is_bad (get_or text k 0) ≡ false) → position is_bad text ≡ None
no_bad text all =
    let found : position_or_len is_bad text ≡ length text = position_or_len_is is_bad text (length text) 0 (omega arith) all (λ h. absurd (omega arith)) in
    rw (found, le-ltb (length text) (length text) (omega arith)) refl

turn_good : (letter site : ℕ) → turn_of letter ≡ Some site → is_bad letter ≡ false
turn_good letter site is = and_left (not (is_turn letter)) (not (is_blank letter)) (not_from_true (is_turn letter) (ap is_some is))

blank_good : (letter : ℕ) → is_blank letter ≡ true → is_bad letter ≡ false
blank_good letter is = and_right (not (is_turn letter)) (not (is_blank letter)) (not_from_true (is_blank letter) is)

is_bad_from : (letter : ℕ) → turn_of letter ≡ None → is_blank letter ≡ false → is_bad letter ≡ true
is_bad_from letter none ink =
    and_from (not (is_turn letter)) (not (is_blank letter)) (not_from_false (is_turn letter) (ap is_some none)) (not_from_false (is_blank letter) ink)

-- ---- the whole text

pub schedule_ok : (text turns : List ℕ) (i : ℕ) → length text ≤ 67108864 → length text ≤ i → turns ≡ filter_map turn_of (take i text) → ((k : ℕ) → k < i → is_bad (get_or text k 0) ≡ false) → schedule_of text ≡ Ok turns
schedule_ok text turns i short end read good =
    cond-false (ltb 67108864 (length text)) _ _ (le-ltb 67108864 (length text) short)
    ∙ ap (λ (bad : Option ℕ). turns_unless bad text) (no_bad text (λ k below. good k (omega arith)))
    ∙ ap (λ (ts : List ℕ). Ok (filter_map turn_of ts)) (sym (take_all i text end))
    ∙ ap Ok (sym read)

pub schedule_bad : (text : List ℕ) (i : ℕ) → length text ≤ 67108864 → i < length text → ((k : ℕ) → k < i → is_bad (get_or text k 0) ≡ false) → turn_of (get_or text i 0) ≡ None → is_blank (get_or text i 0) ≡ false → schedule_of text ≡ Err (BadSchedule i)
schedule_bad text i short lt good none ink =
    cond-false (ltb 67108864 (length text)) _ _ (le-ltb 67108864 (length text) short)
    ∙ ap (λ (bad : Option ℕ). turns_unless bad text) (first_bad text i lt good (is_bad_from (get_or text i 0) none ink))

pub turns_are_below : (turns text : List ℕ) → turns ≡ filter_map turn_of text → All (λ site. site < 16) turns
turns_are_below turns text read = let P : List ℕ → Type 0 = λ ts. All (λ site. site < 16) ts in subst P (sym read) (turns_below text)

pub good_turn : (text : List ℕ) (i site : ℕ) → ((k : ℕ) → k < i → is_bad (get_or text k 0) ≡ false) → turn_of (get_or text i 0) ≡ Some site → (k : ℕ) → k < i + 1 → is_bad (get_or text k 0) ≡ false
good_turn text i site good is = below_more (λ k. is_bad (get_or text k 0) ≡ false) i good (turn_good (get_or text i 0) site is)

pub good_blank : (text : List ℕ) (i : ℕ) → ((k : ℕ) → k < i → is_bad (get_or text k 0) ≡ false) → is_blank (get_or text i 0) ≡ true → (k : ℕ) → k < i + 1 → is_bad (get_or text k 0) ≡ false
good_blank text i good is = below_more (λ k. is_bad (get_or text k 0) ≡ false) i good (blank_good (get_or text i 0) is)
