-- What is handed on by calls after calls.
use Rattle.std.specs.Prelude.{◌≡◌, ℕ, List, [], ◌∷◌, ◌++◌, map}
use Rattle.std.proofs.Common.{sym, subst, ◌∙◌, ap, append_assoc, append-nil}
use Rattle.nut_monitor_spec.specs.declared.Notice.{Notice}
use Rattle.nut_io.specs.declared.types.Written.{Written}
use Rattle.nut_io.specs.declared.types.Written.TheVariants.{Took, Later, Failed}
use Rattle.nut_monitor_loop.specs.Record.{Entry, given_by, written_by, Gave, TookBytes, WasLate, WriteBroke, WasClosed, WasTold}
use Rattle.nut_monitor_loop.specs.Watched.{handed}
use Rattle.nut_monitor_loop.specs.declared.types.Next.{Next}
use Rattle.nut_monitor_loop.specs.declared.types.Next.TheVariants.{Moment, Linked, LinkBytes, LinkLost, Again, End}
use Rattle.nut_monitor_sockets.specs.Handing.{HandsOn, StandFor, all, later, neither, lost, back}

pub handed-append : (xs ys : List Entry) → handed (ys ++ xs) ≡ handed xs ++ handed ys
handed-append xs [] = sym (append-nil (handed xs))
handed-append xs (WasTold notice ∷ ys) =
    ap (λ l. l ++ notice ∷ []) (handed-append xs ys) ∙ append_assoc (handed xs) (handed ys) (notice ∷ [])
handed-append xs (Gave e ∷ ys) = handed-append xs ys
handed-append xs (TookBytes i bytes ∷ ys) = handed-append xs ys
handed-append xs (WasLate i ∷ ys) = handed-append xs ys
handed-append xs (WriteBroke i ∷ ys) = handed-append xs ys
handed-append xs (WasClosed i ∷ ys) = handed-append xs ys

pub stand_again : (xs ys zs : List Notice) → StandFor xs ys → StandFor ys zs → StandFor xs zs
stand_again xs ys _ first all = first
stand_again xs ys _ first (later before after line notice may not then) =
    later before after line notice may not (stand_again xs ys _ first then)
stand_again xs ys _ first (neither before after line then) = neither before after line (stand_again xs ys _ first then)

-- behind and before others
pub stand_behind : (x : Notice) (xs ys : List Notice) → StandFor xs ys → StandFor (x ∷ xs) (x ∷ ys)
stand_behind x xs _ all = all
stand_behind x xs _ (later before after line notice may not then) = later (x ∷ before) after line notice may not (stand_behind x xs _ then)
stand_behind x xs _ (neither before after line then) = neither (x ∷ before) after line (stand_behind x xs _ then)

pub stand_after : (others xs ys : List Notice) → StandFor xs ys → StandFor (others ++ xs) (others ++ ys)
stand_after [] xs ys stand = stand
stand_after (x ∷ others) xs ys stand = stand_behind x (others ++ xs) (others ++ ys) (stand_after others xs ys stand)

pub stand_before : (xs ys others : List Notice) → StandFor xs ys → StandFor (xs ++ others) (ys ++ others)
stand_before xs _ others all = all
stand_before xs _ others (later before after line notice may not then) =
    subst (StandFor (xs ++ others)) (sym (append_assoc before (lost line ∷ notice ∷ after) others))
    (later before (after ++ others) line notice may not
    (subst (StandFor (xs ++ others)) (append_assoc before (notice ∷ lost line ∷ after) others) (stand_before xs _ others then)))
stand_before xs _ others (neither before after line then) =
    subst (StandFor (xs ++ others)) (sym (append_assoc before (lost line ∷ back line ∷ after) others))
    (neither before (after ++ others) line (subst (StandFor (xs ++ others)) (append_assoc before after others) (stand_before xs _ others then)))

-- more notices are handed on behind others
pub hands_more : (First Second All : List Notice → Type 0) → ((xs ys : List Notice) → First xs → Second ys → All (xs ++ ys))
    → (a b c : List ℕ) (xs ys : List Notice) → HandsOn First a b xs → HandsOn Second b c ys → HandsOn All a c (xs ++ ys)
hands_more First Second All on a b c xs ys first second =
    let one = first.0 in
    let two = second.0 in
    let held : List Notice = map lost b in
    let more = stand_before (one ++ held) (map lost a ++ xs) ys first.2 in (
      one ++ two,
      on one two first.1 second.1,
      subst (StandFor ((one ++ two) ++ map lost c)) (append_assoc (map lost a) xs ys)
          (stand_again ((one ++ two) ++ map lost c) ((one ++ held) ++ ys) ((map lost a ++ xs) ++ ys)
          (subst (λ l. StandFor l ((one ++ held) ++ ys)) (sym (append_assoc one two (map lost c)))
          (subst (StandFor (one ++ (two ++ map lost c))) (sym (append_assoc one held ys))
          (stand_after one (two ++ map lost c) (held ++ ys) second.2))) more),
    )

pub hands_on_twice : (First Second All : List Notice → Type 0) → ((xs ys : List Notice) → First xs → Second ys → All (xs ++ ys))
    → (a b c : List ℕ) (xs ys : List Entry) → HandsOn First a b (handed xs) → HandsOn Second b c (handed ys) → HandsOn All a c (handed (ys ++ xs))
hands_on_twice First Second All on a b c xs ys first second =
    subst (HandsOn All a c) (sym (handed-append xs ys)) (hands_more First Second All on a b c (handed xs) (handed ys) first second)

-- ---- for the calls

pub none_handed : (Told : List Notice → Type 0) (held : List ℕ) → Told [] → HandsOn Told held held []
none_handed Told held none = ([], none, subst (StandFor (map lost held)) (sym (append-nil (map lost held))) all)

-- what a write leaves in the record is no notice
pub written_handed : (Told : List Notice → Type 0) (held : List ℕ) (w : Written) (i : ℕ) (bytes : List ℕ) → Told []
    → HandsOn Told held held (handed (written_by w i bytes ∷ []))
written_handed Told held (Took n) i bytes none = none_handed Told held none
written_handed Told held Later i bytes none = none_handed Told held none
written_handed Told held Failed i bytes none = none_handed Told held none

-- the event that the world gives is no notice
pub given_handed : (Told : List Notice → Type 0) (held : List ℕ) (n : Next) (piece : List ℕ) → Told []
    → HandsOn Told held held (handed (given_by n piece ++ []))
given_handed Told held (Moment t) piece none = none_handed Told held none
given_handed Told held (Linked i) piece none = none_handed Told held none
given_handed Told held (LinkBytes i) piece none = none_handed Told held none
given_handed Told held (LinkLost i) piece none = none_handed Told held none
given_handed Told held Again piece none = none_handed Told held none
given_handed Told held End piece none = none_handed Told held none
