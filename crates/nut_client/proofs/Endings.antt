-- What is over stays as it is.
use Rattle.std.proofs.Common.{◌≡◌, ◌⊎◌, ◌<◌, ℕ, true, List, [], ◌∷◌, ◌++◌, length, Some, None, Result, Err, IfErr, refl, sym, ap, subst, ◌∙◌, inl, inr}
use Rattle.std.proofs.lemmas.List.{append_assoc, append-nil}
use Rattle.std.specs.Io.KnownBytes.{prepend_known}
use Rattle.nut_words.specs.Lines.{LineText}
use Rattle.nut_client.specs.laws.Laws.{AllBytesDecide, MoreBytesAreIgnored}
use Rattle.nut_client.specs.Script.{Script}
use Rattle.nut_client.specs.Tool.{Standing, Waits, after, begin, ending, is_over, run_of, settled_lines}
use Rattle.nut_client.specs.declared.failure.ToolFailure.{ToolFailure}
use Rattle.nut_client.specs.declared.failure.ToolFailure.TheVariants as failures
use Rattle.nut_client.proofs.Runs.{after-append, settled-append}

stays : (ls : List LineText) (queries : List ℕ) (s : Standing) → is_over s ≡ true → after ls (record { queries = queries; standing = s }) ≡ record { queries = queries; standing = s }
stays [] queries s over = refl
stays (l ∷ ls) queries (Waits e next) over = absurd (cc)
stays (l ∷ ls) queries s over = stays ls queries s over

pub more_bytes : MoreBytesAreIgnored
more_bytes script bytes more over =
    let behind = settled-append bytes more in
    ap (λ ls. after ls (begin [] script)) behind.1
    ∙ after-append (settled_lines bytes) behind.0 (begin [] script)
    ∙ stays behind.0 (run_of script bytes).queries (run_of script bytes).standing over

Decides : Script → Result (List ℕ) ToolFailure → List ℕ → List ℕ → List ℕ → List ℕ → Type 0
Decides script result bytes heard left written =
    (result ≡ Err failures.Memory)
    ⊎ ((result ≡ Err failures.ConnectionLost) × (Some left ≡ Some [] → length written < length (run_of script heard).queries)
    ⊎ (result ≡ ending (run_of script bytes).standing))

-- If the connection was lost, all that was read was heard, or a query was sent only in part.
HasReason : Script → Result (List ℕ) ToolFailure → List ℕ → List ℕ → List ℕ → Type 0
HasReason script result heard unheard written = IfErr result (λ failure. failure ≡ failures.ConnectionLost → (unheard ≡ []) ⊎ (length written < length (run_of script heard).queries))

by_waiting : (script : Script) (result : Result (List ℕ) ToolFailure) (heard unheard left written : List ℕ) → result ≡ ending (run_of script heard).standing → result ≡ Err failures.ConnectionLost
    → HasReason script result heard unheard written → Decides script result (heard ++ (unheard ++ left)) heard left written
unfolding Decides HasReason
by_waiting script result heard unheard (x ∷ left) written ends lost why = inr (inl (lost, λ is. absurd (cc)))
by_waiting script result heard unheard [] written ends lost why = elim (subst (λ r. HasReason script r heard unheard written) lost why refl) [
  | inl none ↦ inr (inr (ends ∙ ap (λ b. ending (run_of script b).standing) (sym (ap (λ u. heard ++ (u ++ [])) none ∙ append-nil heard))))
  | inr short ↦ inr (inl (lost, λ is. short))
]

by_heard : (script : Script) (result : Result (List ℕ) ToolFailure) (heard unheard left written : List ℕ) (s : Standing) → (run_of script heard).standing ≡ s → result ≡ ending s
    → HasReason script result heard unheard written → Decides script result (heard ++ (unheard ++ left)) heard left written
unfolding Decides
by_heard script result heard unheard left written (Waits e next) is ends why = by_waiting script result heard unheard left written (ends ∙ ap ending (sym is)) ends why
by_heard script result heard unheard left written s is ends why =
    inr (inr (ends ∙ ap ending (sym is) ∙ ap (λ r. ending r.standing) (sym (more_bytes script heard (unheard ++ left) (ap is_over is)))))

all_of : (bytes heard unheard left : List ℕ) → Some bytes ≡ prepend_known (heard ++ unheard) (Some left) → bytes ≡ heard ++ (unheard ++ left)
all_of bytes heard unheard left is = some_inj is ∙ append_assoc heard unheard left
  where
    some_inj : {x y : List ℕ} → Some x ≡ Some y → x ≡ y
    some_inj e = cc

pub all_bytes : AllBytesDecide
unfolding Decides HasReason
all_bytes script result bytes None before after e = let never : Some bytes ≡ None = e.read in absurd (cc)
all_bytes script result bytes (Some left) before after e = elim e.ended [
  | inl memory ↦ inl memory
  | inr ends ↦
      subst (λ b. Decides script result b e.heard left e.written) (sym (all_of bytes e.heard e.unheard left e.read))
      (by_heard script result e.heard e.unheard left e.written _ refl ends e.lost)
]
