-- Answers are offered at once: a law of what a world records.
use Rattle.std.specs.Prelude.{◌≡◌, ◌⊎◌, ℕ, true, List, [], ◌∷◌, ◌++◌, length, Option, Contains}
use Rattle.nut_server_spec.specs.Configuration.{Configuration}
use Rattle.nut_server_spec.specs.Event.{Event}
use Rattle.nut_server_spec.specs.Content.{Content, content}
use Rattle.nut_server_loop.specs.Record.{Entry, Gave, WasClosed, late_in, waits_of}
use Rattle.nut_server_loop.specs.Served.{Served, Step, entries_of, history_of, taken_for}
use Rattle.nut_server_loop.specs.Memory.{gave_of}
use Rattle.nut_server_loop.specs.declared.types.Peer.{Peer}

-- the bytes that a peer took in these entries, the newest first
abbrev pub taken_in : Peer → List Entry → List ℕ
taken_in p [] = []
taken_in p (entry ∷ r) = taken_for p entry (taken_in p r)

-- Suppose the world gave an arrival, then came a round of other entries, and then it gave the next arrival. In this round each
-- peer took as many bytes as waited for it after the first arrival; or a write to it was to come later; or it was closed.
abbrev pub AnswersAreOffered : Type 0
AnswersAreOffered = (first : Configuration) (log : Option (List Entry)) (s : Content) (owed : List Peer) (served : Served first log s owed)
    (newer round older : List Step) (given next : Step) (e e' : Event) (p : Peer) →
    served.steps ≡ newer ++ (next ∷ round ++ given ∷ older) → given.entry ≡ Gave e → next.entry ≡ Gave e' → gave_of (entries_of round) ≡ [] →
    (length (taken_in p (entries_of round)) ≡ length (waits_of p (content first (history_of (given ∷ older))))) ⊎
    (late_in (entries_of round) p ≡ true) ⊎ Contains (entries_of round) (WasClosed p)
