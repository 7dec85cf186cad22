-- What a world over memory notes, and which events that leaves.
use Rattle.std.proofs.Common.{◌≡◌, ℕ, List, [], ◌∷◌, ◌++◌, map, reverse, sym, ◌∙◌, ap, subst, append-nil}
use Rattle.std.proofs.lemmas.List.{reverse-append, map-append}
use Rattle.nut_monitor_loop.specs.Record.{Entry, LeadsTo, given_by, giving}
use Rattle.nut_monitor_loop.specs.Memory.{MemoryState, event_of, entry_of, log_of, given_in, GoesOn, Gives}
use Rattle.nut_monitor_loop.specs.declared.types.Given.{Given}
use Rattle.nut_monitor_loop.specs.declared.types.Note.{Note}
use Rattle.nut_monitor_loop.specs.declared.types.Next.{Next}

-- one more note is the newest entry
pub log_more : (notes : List Note) (one : Note) → log_of (notes ++ one ∷ []) ≡ entry_of one ∷ log_of notes
log_more notes one = ap reverse (map-append entry_of notes (one ∷ [])) ∙ reverse-append (map entry_of notes) (entry_of one ∷ [])

-- the log grew by an entry that gives no event
pub goes_on_more : (a b : MemoryState) (e : Entry) → given_in (e ∷ []) ≡ [] → b.log ≡ e ∷ a.log → b.left ≡ a.left → GoesOn a b (e ∷ [])
goes_on_more a b e silent grown same =
    record { grown = grown; each = ap (map event_of) (sym same) ∙ ap (λ g. g ++ map event_of b.left) (sym silent) }

-- what is given now is left no longer
pub gave_more : (old new : List Given) (n : Next) (items : List ℕ) → Gives old new n items
    → map event_of old ≡ given_in (given_by n items) ++ map event_of new
gave_more [] new n items gives =
    ap (map event_of) (sym gives.1) ∙ ap (λ m. given_in (given_by m items) ++ map event_of new) (sym gives.0)
gave_more (given ∷ rest) new n items gives =
    ap (λ l. event_of given ∷ map event_of l) (sym gives.1) ∙ ap (λ a. given_in (giving a) ++ map event_of new) (sym gives.0)

-- the log grew by what was given
pub gave_leads : (a b : MemoryState) (n : Next) (items : List ℕ) → b.log ≡ given_by n items ++ a.log → Gives a.left b.left n items
    → LeadsTo n items (GoesOn a b) (GoesOn a b) []
gave_leads a b n items grown gives =
    let goes : GoesOn a b (given_by n items) = record { grown = grown; each = gave_more a.left b.left n items gives } in
    (λ some. subst (λ entries. GoesOn a b entries) (sym (append-nil (given_by n items))) goes, λ none. subst (λ entries. GoesOn a b entries) (ap giving none) goes)
