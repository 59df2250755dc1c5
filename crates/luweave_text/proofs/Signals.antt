-- One more output of a world.
use Rattle.std.proofs.Common.{◌≡◌, ◌∙◌, ℕ, ◌+◌, List, [], ◌∷◌, ◌++◌, length, sym, ap, subst, length-append}
use Rattle.std.specs.Prelude.{Some, slice_get}
use Rattle.std.proofs.lemmas.List.{map-append}
use Rattle.luworld.specs.WorldViews.{WorldView}
use Rattle.luchart.specs.declared.signal.Signal.{Signal as Borrowed}
use Rattle.luchart.specs.Signals.{Signal, signal_view, signals_view}
use Rattle.luweave.proofs.NewSites.{pushed}
use Rattle.luweave_text.specs.Waves.{IsOutputSignal}

module _ (w : WorldView) (old new : List Borrowed) (x : Borrowed) (is : new ≡ old ++ x ∷ []) where
  view : signals_view new ≡ signals_view old ++ signal_view x ∷ []
  view = ap signals_view is ∙ map-append signal_view old (x ∷ [])

  pub one_longer : (k : ℕ) → length (signals_view old) ≡ k → length (signals_view new) ≡ k + 1
  one_longer k count = ap length view ∙ length-append (signals_view old) (signal_view x ∷ []) ∙ ap (λ n. n + 1) count

  pub one_more : (k : ℕ) → length (signals_view old) ≡ k → IsOutputSignal w k (signal_view x) → ((j : ℕ) (s : Signal) → slice_get (signals_view old) j ≡ Some s → IsOutputSignal w j s)
      → (j : ℕ) (s : Signal) → slice_get (signals_view new) j ≡ Some s → IsOutputSignal w j s
  one_more k count here each =
      subst (λ (xs : List Signal). (j : ℕ) (s : Signal) → slice_get xs j ≡ Some s → IsOutputSignal w j s) (sym view)
      (pushed (IsOutputSignal w) (signals_view old) (signal_view x) (subst (λ n. IsOutputSignal w n (signal_view x)) (sym count) here) each)
