-- Which of its notices the world of a monitor hands on, and in which order.
use Rattle.std.specs.Prelude.{◌≢◌, ℕ, List, ◌∷◌, ◌++◌, Some, map}
use Rattle.nut_conf.specs.declared.notice.Notice.TheVariants.{Commbad, Commok, Shutdown}
use Rattle.nut_monitor_spec.specs.declared.Notice.{Notice}

-- COMMBAD of a line
abbrev pub lost : ℕ → Notice
lost line = record { kind = Commbad; line = Some line }

-- COMMOK of a line
abbrev pub back : ℕ → Notice
back line = record { kind = Commok; line = Some line }

-- These notices may be handed on for those: all of them, in the same order, except that COMMBAD may come later, though before
-- SHUTDOWN and before the COMMOK of its line. It may be left out together with a COMMOK of its line that follows.
pub data StandFor (handed : List Notice) : List Notice → Type 0 where
  all : StandFor handed handed
  later : (before after : List Notice) (line : ℕ) (notice : Notice) → notice.kind ≢ Shutdown → notice ≢ back line
      → StandFor handed (before ++ notice ∷ lost line ∷ after) → StandFor handed (before ++ lost line ∷ notice ∷ after)
  neither : (before after : List Notice) (line : ℕ)
      → StandFor handed (before ++ after) → StandFor handed (before ++ lost line ∷ back line ∷ after)

-- Notices of which this holds were handed on for these. COMMBAD of the first lines was held back before, and that of the
-- second lines is now.
abbrev pub HandsOn : (List Notice → Type 0) → List ℕ → List ℕ → List Notice → Type 0
HandsOn Told held held' notices = (told : List Notice) × Told told × StandFor (told ++ map lost held') (map lost held ++ notices)
