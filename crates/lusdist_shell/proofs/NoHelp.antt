-- Words without fault name no `help`.
use Rattle.std.proofs.Common.{◌≡◌, ◌≢◌, ◌∙◌, sym, refl, subst, List, [], ◌∷◌, Bool, true, false, not, Option, Some, None, codes, ℕ}
use Rattle.std.specs.Prelude.{◌&&◌, is_some, if◌then◌else◌}
use Rattle.std.specs.List.{fold}
use Rattle.std.specs.Str.{bytes_eq}
use Rattle.clap.specs.declared.error.kind.ErrorKind.TheVariants as kind
use Rattle.clap.specs.Kinds.{Kinds, or_else}
use Rattle.clap.specs.Faults.{turn_fault, walk_fault, other_fault, step_fault}
use Rattle.clap.specs.Simple.{Shape}
use Rattle.clap.specs.Lexer.{long_of, short_of}
use Rattle.clap.specs.Walk.{Held, Names, Outcome, Rule, Step, Text, Waiting, Walk, idle, option, positional, next, trailing, subcommand, value, done, waits, after_flag, after_step, arg_by_index, long_or_other, plain_word, short_or_plain, subcommand_met, subcommand_or_other, to_positional, walked, walked_from, word_met}

-- ---- a word that is no command's name

abbrev IsNoCommand : Step → Type 0
IsNoCommand step = (name : Text) → step ≡ subcommand name → ⊥

plain_no : (c : List Rule) (waiting : Waiting) (word : Text) (h : Held) → IsNoCommand (plain_word c waiting word h).1
plain_no c (option id) word h = λ name e. absurd cc
plain_no c idle word h = λ name e. absurd cc
plain_no c positional word h = λ name e. absurd cc

after_no : (c : List Rule) (waiting : Waiting) (word : Text) (h : Held) (outcome : Outcome) → IsNoCommand (after_flag c waiting word h outcome).1
after_no c waiting word h done = λ name e. absurd cc
after_no c waiting word h (waits id) = λ name e. absurd cc
after_no c waiting word h _ = plain_no c waiting word h

short_no : (c : List Rule) (waiting : Waiting) (word : Text) (flags : Option Text) (h : Held) → IsNoCommand (short_or_plain c waiting word flags h).1
short_no c waiting word (Some flags) h = after_no c waiting word _ _
short_no c waiting word None h = plain_no c waiting word h

long_no : (c : List Rule) (waiting : Waiting) (word : Text) (long : Option (Text × Option Text)) (h : Held) → IsNoCommand (long_or_other c waiting word long h).1
long_no c waiting word (Some p) h = after_no c waiting word _ _
long_no c waiting word None h = short_no c waiting word (short_of word) h

other_no : (c : List Rule) (waiting : Waiting) (position : ℕ) (word : Text) (h : Held) → IsNoCommand (subcommand_or_other c None waiting position word h).1
other_no c waiting position word h =
    go (bytes_eq word (45 ∷ 45 ∷ []))
  where
    go : (b : Bool) → IsNoCommand (let met : Held × Step = if b then (h, trailing position) else long_or_other c waiting word (long_of word) h in met.1)
    go true = λ name e. absurd cc
    go false = long_no c waiting word (long_of word) h

-- ---- where a walk stops

-- no stop, or one at another command
abbrev pub IsNoHelp : Option (Text × List Text) → Type 0
IsNoHelp stop = (p : Text × List Text) → stop ≡ Some p → p.0 ≢ codes "help"

no_stop : (stop : Option (Text × List Text)) → stop ≡ None → IsNoHelp stop
no_stop stop none p e h = let f : None ≡ Some p = sym none ∙ e in absurd cc

to_none : (c : List Rule) (a : Option Rule) (word : Text) (w : Walk) (h : Held) → w.stopped ≡ None → (to_positional c a word w h).stopped ≡ None
to_none c None word w h e = e
to_none c (Some a) word w h e = refl

after_none : (c : List Rule) (word : Text) (w : Walk) (h : Held) (step : Step) → IsNoCommand step → w.stopped ≡ None → (after_step c word w h step).stopped ≡ None
after_none c word w h (next waiting) other e = e
after_none c word w h (trailing position) other e = e
after_none c word w h (subcommand name) other e = absurd (other name refl)
after_none c word w h value other e = to_none c (arg_by_index c w.position) word w h e

pub left_nil : (a b : Kinds) → or_else a b ≡ [] → a ≡ []
left_nil [] b e = refl
left_nil (k ∷ ks) b e = absurd cc

abbrev help_fault : Bool → Text → Kinds
help_fault disabled name =
    if bytes_eq name (codes "help") && not disabled then kind.DisplayHelp ∷ kind.InvalidSubcommand ∷ [] else []

not_help : (disabled : Bool) (name : Text) → disabled ≡ false → help_fault disabled name ≡ [] → name ≢ codes "help"
not_help disabled name enabled none is =
    let one : help_fault false name ≡ [] = subst (λ b. help_fault b name ≡ []) enabled none in
    let two : help_fault false (codes "help") ≡ [] = subst (λ n. help_fault false n ≡ []) is one in
    absurd cc

module _ (s : Shape) (names : Names) (enabled : s.disable_help_subcommand ≡ false) where
  met_none : (is_trailing : Bool) (o : Option Text) (w : Walk) (word : Text) → w.stopped ≡ None
      → (let fault : Kinds = if is_trailing then [] else other_fault s o word w.held in fault) ≡ []
      → IsNoHelp (let met : Held × Step = if is_trailing then (w.held, value) else subcommand_or_other s.rules o w.waiting w.position word w.held in (after_step s.rules word w met.0 met.1).stopped)
  met_none true o w word e none = no_stop _ (to_none s.rules (arg_by_index s.rules w.position) word w w.held e)
  met_none false None w word e none =
      no_stop _ (after_none s.rules word w _ _ (other_no s.rules w.waiting w.position word w.held) e)
  met_none false (Some name) w word e none = λ p f is.
      let same : name ≡ p.0 = cc in
      not_help s.disable_help_subcommand name enabled none (same ∙ is)

  from : (o : Option (Text × List Text)) (w : Walk) (word : Text) → w.stopped ≡ o → IsNoHelp o → turn_fault s names w word ≡ [] → IsNoHelp (walked_from s.rules names o w word).stopped
  from (Some q) w word e before none = λ p f is.
      let same : q.0 ≡ p.0 = cc in
      before q refl (same ∙ is)
  from None w word e before none =
      let met = word_met s.rules names w.is_trailing w.waiting w.position word w.held in
      let word_fault : Kinds = if w.is_trailing then [] else other_fault s (subcommand_met names w.waiting word) word w.held in
      let P : Option (Text × List Text) → Type 0 = λ o. (if is_some o then [] else or_else word_fault (step_fault s w.position met.0 met.1)) ≡ [] in
      met_none w.is_trailing (subcommand_met names w.waiting word) w word e (left_nil word_fault (step_fault s w.position met.0 met.1) (subst P e none))

  turned : (w : Walk) (word : Text) → IsNoHelp w.stopped → turn_fault s names w word ≡ [] → IsNoHelp (walked s.rules names w word).stopped
  unfolding walked
  turned w word before none = from w.stopped w word refl before none

  pub walk_no_help : (w : Walk) (words : List Text) → IsNoHelp w.stopped → walk_fault s names w words ≡ [] → IsNoHelp (fold (walked s.rules names) w words).stopped
  unfolding walk_fault
  walk_no_help w [] before none = before
  walk_no_help w (word ∷ rest) before none =
      let turn : turn_fault s names w word ≡ [] = left_nil (turn_fault s names w word) (walk_fault s names (walked s.rules names w word) rest) none in
      walk_no_help (walked s.rules names w word) rest (turned w word before turn) (right_nil (turn_fault s names w word) (walk_fault s names (walked s.rules names w word) rest) none)
    where
      right_nil : (a b : Kinds) → or_else a b ≡ [] → b ≡ []
      right_nil [] b e = e
      right_nil (k ∷ ks) b e = absurd cc
