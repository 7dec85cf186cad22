-- A driver holds what looking back over deeds says.
use Rattle.std.proofs.Common.{◌≡◌, ℕ, ◌-◌, ◌≤◌, ◌||◌, Bool, true, false, cond, List, [], ◌∷◌, ◌++◌, Option, Some, None, IsTrue, length, slice_get, take, drop, refl, sym, ap, subst, ◌∙◌, arith, append_assoc, max, codes}
use Rattle.std.specs.Prelude.{map}
use Rattle.std.specs.Option.{option_map_or}
use Rattle.std.proofs.lemmas.Bool.Decides.{nat_tests}
use Rattle.std.proofs.lemmas.Bool.{false≢true}
use Rattle.std.proofs.lemmas.List.{append-nil, drop_all, take_all, drop-append-le, drop-drop, length-append, length-drop, take-append-le, take-append-drop}
use Rattle.std.proofs.Math.Seq.{take-add}
use Rattle.nut_words.specs.Lines.{LineText, lines_after, rest}
use Rattle.nut_words.specs.Reader.{with_backslash}
use Rattle.nut_words.proofs.StreamGrowth.{rest-append}
use Rattle.nut_proto.specs.declared.driver_ask.DriverAsk.{DriverAsk}
use Rattle.nut_proto.specs.declared.driver_ask.DriverAsk.TheVariants as asks
use Rattle.nut_dummy.specs.declared.dummy.DummyFault.TheVariants as faults
use Rattle.nut_dummy.specs.declared.command.KnownCommand.{KnownCommand}
use Rattle.nut_dummy.specs.Command.{variable_set, value_set, command_of}
use Rattle.nut_dummy.specs.Dummy.{Content, timelines}
use Rattle.nut_dummy.specs.Script.{Script, Timeline}
use Rattle.nut_dummy.specs.Teller.{Change, Passing, Assigning, Doing, asked_by}
use Rattle.nut_dummy.specs.inside.Machine.{followed, dumped, untold, changed, dumped_all, commanded, answered, heard, heard_all, relinked, tells_more, may_take_memory, step, MayStop}
use Rattle.nut_dummy.specs.History.{Deed, Fresh, Changes, Fails, Dumps, Pongs, has_asked, seen, owed, told, by_ask, by_lines, Call, Linked, Moment, Bytes, Lost, Took, clock, input, count_taken, deeds, told_by, driver, bytes_refusal, refusal, IsAccepted, is_linked, owes_more, MayRunOut, Stands, received, reported, LooksBack}

map_map : {A B C : Type 0} (f : B → C) (g : A → B) (xs : List A) → map f (map g xs) ≡ map (λ x. f (g x)) xs
map_map f g [] = refl
map_map f g (x ∷ xs) = ap (λ ys. f (g x) ∷ ys) (map_map f g xs)

-- while nothing was told and DUMPALL wasn't asked, a change tells nothing
untold_change : (ts : List Timeline) (past : List Deed) (change : Change) → told ts past ≡ [] → has_asked past ≡ false → told ts (Changes None change ∷ past) ≡ []
untold_change ts past change nothing unasked = rw (unasked, nothing) refl

-- the deeds after a command
abbrev by_command : Option ℕ → Option KnownCommand → List Deed → List Deed
by_command number command past = option_map_or (λ c. Changes number (Doing (variable_set c) (value_set c))) command (Fails number) ∷ past

module _ (ts : List Timeline) where
  fresh_is : (past : List Deed) (n : ℕ) → relinked (told_by ts past n) ≡ told_by ts (Fresh ∷ past) 0
  fresh_is past n = ap (λ vs. record { variables = vs; asked = false; waits = [] }) (map_map untold (seen past) ts)

  module _ (past : List Deed) (n : ℕ) (room : n ≤ length (told ts past)) where
    change_is : (number : Option ℕ) (change : Change) → changed number change (told_by ts past n) ≡ told_by ts (Changes number change ∷ past) n
    change_is number change =
        ap (λ vs. record { variables = vs; asked = has_asked past; waits = drop n (told ts past) ++ owed ts (Changes number change) past }) (map_map (followed (has_asked past) change) (seen past) ts)
        ∙ ap (λ w. record { variables = map (seen (Changes number change ∷ past)) ts; asked = has_asked past; waits = w }) (sym (drop-append-le n (told ts past) (owed ts (Changes number change) past) room))

    dump_is : dumped_all (told_by ts past n) ≡ told_by ts (Dumps ∷ past) n
    dump_is =
        ap (λ vs. record { variables = vs; asked = true; waits = drop n (told ts past) ++ owed ts Dumps past }) (map_map dumped (seen past) ts)
        ∙ ap (λ w. record { variables = map (seen (Dumps ∷ past)) ts; asked = true; waits = w }) (sym (drop-append-le n (told ts past) (owed ts Dumps past) room))

    fails_is : (number : Option ℕ) → commanded number None (told_by ts past n) ≡ told_by ts (Fails number ∷ past) n
    fails_is number =
        ap (λ w. record { variables = map (seen past) ts; asked = has_asked past; waits = w }) (sym (drop-append-le n (told ts past) (owed ts (Fails number) past) room))

    command_is : (number : Option ℕ) (command : Option KnownCommand) → commanded number command (told_by ts past n) ≡ told_by ts (by_command number command past) n
    command_is number None = fails_is number
    command_is number (Some c) = change_is number (Doing (variable_set c) (value_set c))

    ask_is : (ask : Option DriverAsk) → answered ask (told_by ts past n) ≡ told_by ts (by_ask ask past) n
    ask_is None = refl
    ask_is (Some asks.Ping) =
        ap (λ w. record { variables = map (seen past) ts; asked = has_asked past; waits = w }) (sym (drop-append-le n (told ts past) (codes "PONG\n") room))
    ask_is (Some asks.DumpAll) = dump_is
    ask_is (Some (asks.Set name value number)) = change_is number (Assigning name value)
    ask_is (Some (asks.InstCmd name parameter number)) = command_is number (command_of name)

    command_room : (number : Option ℕ) (command : Option KnownCommand) → n ≤ length (told ts (by_command number command past))
    command_room number None = omega (arith, room, length-append (told ts past) (owed ts (Fails number) past))
    command_room number (Some c) = omega (arith, room, length-append (told ts past) (owed ts (Changes number (Doing (variable_set c) (value_set c))) past))

    change_room : (number : Option ℕ) (change : Change) → n ≤ length (told ts (Changes number change ∷ past))
    change_room number change = omega (arith, room, length-append (told ts past) (owed ts (Changes number change) past))

    ask_room : (ask : Option DriverAsk) → n ≤ length (told ts (by_ask ask past))
    ask_room None = room
    ask_room (Some asks.Ping) = omega (arith, room, length-append (told ts past) (codes "PONG\n"))
    ask_room (Some asks.DumpAll) = omega (arith, room, length-append (told ts past) (owed ts Dumps past))
    ask_room (Some (asks.Set name value number)) = change_room number (Assigning name value)
    ask_room (Some (asks.InstCmd name parameter number)) = command_room number (command_of name)

  lines_are : (ls : List LineText) (past : List Deed) (n : ℕ) → n ≤ length (told ts past) → heard_all ls (told_by ts past n) ≡ told_by ts (by_lines ls past) n
  lines_are [] past n room = refl
  lines_are (l ∷ ls) past n room =
      ap (heard_all ls) (ask_is past n room (asked_by l)) ∙ lines_are ls (by_ask (asked_by l) past) n (ask_room past n room (asked_by l))

  lines_room : (ls : List LineText) (past : List Deed) (n : ℕ) → n ≤ length (told ts past) → n ≤ length (told ts (by_lines ls past))
  lines_room [] past n room = room
  lines_room (l ∷ ls) past n room = lines_room ls (by_ask (asked_by l) past) n (ask_room past n room (asked_by l))

  -- what lines owe is appended to what was told before them
  command_tells : (number : Option ℕ) (command : Option KnownCommand) (past : List Deed) → (more : List ℕ) × (told ts (by_command number command past) ≡ told ts past ++ more)
  command_tells number None past = (owed ts (Fails number) past, refl)
  command_tells number (Some c) past = (owed ts (Changes number (Doing (variable_set c) (value_set c))) past, refl)

  ask_tells : (ask : Option DriverAsk) (past : List Deed) → (more : List ℕ) × (told ts (by_ask ask past) ≡ told ts past ++ more)
  ask_tells None past = ([], sym (append-nil (told ts past)))
  ask_tells (Some asks.Ping) past = (owed ts Pongs past, refl)
  ask_tells (Some asks.DumpAll) past = (owed ts Dumps past, refl)
  ask_tells (Some (asks.Set name value number)) past = (owed ts (Changes number (Assigning name value)) past, refl)
  ask_tells (Some (asks.InstCmd name parameter number)) past = command_tells number (command_of name) past

  lines_tell : (ls : List LineText) (past : List Deed) → (more : List ℕ) × (told ts (by_lines ls past) ≡ told ts past ++ more)
  lines_tell [] past = ([], sym (append-nil (told ts past)))
  lines_tell (l ∷ ls) past =
      let first = ask_tells (asked_by l) past in
      let later = lines_tell ls (by_ask (asked_by l) past) in
      (first.0 ++ later.0, later.1 ∙ ap (λ t. t ++ later.0) first.1 ∙ append_assoc (told ts past) first.0 later.0)

  -- so what was taken is still a front of it
  still_front : (ls : List LineText) (past : List Deed) (n : ℕ) → n ≤ length (told ts past) → take n (told ts past) ≡ take n (told ts (by_lines ls past))
  still_front ls past n room =
      let tells = lines_tell ls past in
      sym (ap (take n) tells.1 ∙ take-append-le n (told ts past) tells.0 room)

-- bytes that were taken had to wait
taken_waits : (n : ℕ) (s : Content) → refusal (Took n) s ≡ None → n ≤ length s.teller.waits
taken_waits n s h = grind (arith, nat_tests)

-- bytes are heard only if there is a link
heard_linked : (piece : List ℕ) (s : Content) → bytes_refusal piece s ≡ None → s.linked ≡ true
heard_linked piece s h = by s.linked refl h where
  by : (b : Bool) → s.linked ≡ b → bytes_refusal piece s ≡ None → b ≡ true
  by true is h = refl
  by false is h = absurd (by_test (rw is at h)) where
    by_test : Some faults.NotLinked ≡ None → ⊥
    by_test h = cc

module _ (script : Script) (start : ℕ) where
  abbrev owes : List Call → List ℕ
  owes h = told (timelines script) (deeds script.round start h)

  record Keeps (h : List Call) : Type 0 where
    room : count_taken h ≤ length (owes h)
    on_link : is_linked h ≡ true → received script start h ≡ take (count_taken h) (owes h)
    cut_off : is_linked h ≡ false → received script start h ≡ reported script start h
    nothing : is_linked h ≡ false → owes h ≡ []
    unasked : is_linked h ≡ false → has_asked (deeds script.round start h) ≡ false

  -- while there is no link, a call leaves what was reported
  still_cut : (old : List ℕ) (new : List ℕ) (b : Bool) → b ≡ false → cond b old new ≡ new
  still_cut old new true e = absurd (cc)
  still_cut old new false e = refl

  keeps : (h : List Call) → IsAccepted script start h → Keeps h
  keeps [] a = record {
    room = omega arith;
    on_link = λ e. absurd (cc);
    cut_off = λ e. refl;
    nothing = λ e. refl;
    unasked = λ e. refl;
  }
  keeps (Linked ∷ h) a = record {
    room = omega arith;
    on_link = λ e. refl;
    cut_off = λ e. absurd (cc);
    nothing = λ e. absurd (cc);
    unasked = λ e. absurd (cc);
  }
  keeps (Moment t ∷ h) a =
      let b = keeps h a.0 in
      let vs = timelines script in
      let past = deeds script.round start h in
      let change = Passing script.round (clock start h - start) (max (clock start h) t - start) in
      record {
        room = change_room vs past (count_taken h) b.room None change;
        on_link = λ e. b.on_link e ∙ sym (take-append-le (count_taken h) (owes h) (owed vs (Changes None change) past) b.room);
        cut_off = λ e. b.cut_off e ∙ sym (still_cut (owes (Moment t ∷ h)) (reported script start h) (is_linked h) e);
        nothing = λ e. untold_change vs past change (b.nothing e) (b.unasked e);
        unasked = b.unasked;
      }
  keeps (Bytes piece ∷ h) a =
      let b = keeps h a.0 in
      let vs = timelines script in
      let ls = lines_after (rest (input h)) piece in
      let linked : is_linked h ≡ true = heard_linked piece (driver script start h) a.1 in
      record {
        room = lines_room vs ls (deeds script.round start h) (count_taken h) b.room;
        on_link = λ e. b.on_link e ∙ still_front vs ls (deeds script.round start h) (count_taken h) b.room;
        cut_off = λ e. absurd (false≢true (sym e ∙ linked));
        nothing = λ e. absurd (false≢true (sym e ∙ linked));
        unasked = λ e. absurd (false≢true (sym e ∙ linked));
      }
  keeps (Lost k piece ∷ h) a =
      let b = keeps h a.0 in
      let ls = take k (lines_after (rest (input h)) piece) in
      record {
        room = omega arith;
        on_link = λ e. absurd (cc);
        cut_off = λ e.
            b.on_link (heard_linked piece (driver script start h) a.1)
            ∙ still_front (timelines script) ls (deeds script.round start h) (count_taken h) b.room;
        nothing = λ e. refl;
        unasked = λ e. refl;
      }
  keeps (Took n ∷ h) a =
      let b = keeps h a.0 in
      let m = count_taken h in
      let waited : n ≤ length (drop m (owes h)) = taken_waits n (driver script start h) a.1 in
      record {
        room = omega (arith, waited, length-drop m (owes h), b.room);
        on_link = λ e. ap (λ r. r ++ take n (drop m (owes h))) (b.on_link e) ∙ sym (take-add m n (owes h));
        cut_off = λ e.
            ap (λ w. received script start h ++ take n w) (ap (drop m) (b.nothing e) ∙ drop_all m [] (omega arith))
            ∙ ap (λ r. received script start h ++ r) (take_all n [] (omega arith)) ∙ append-nil (received script start h) ∙ b.cut_off e
            ∙ sym (still_cut (owes h) (reported script start h) (is_linked h) e);
        nothing = b.nothing;
        unasked = b.unasked;
      }

  -- on a link, all that was reported is owed
  reported_is : (h : List Call) → is_linked h ≡ true → reported script start h ≡ owes h
  reported_is [] e = absurd (cc)
  reported_is (Linked ∷ h) e = refl
  reported_is (Lost k piece ∷ h) e = absurd (cc)
  reported_is (call ∷ h) e = by (is_linked (call ∷ h)) e where
    by : (b : Bool) → b ≡ true → cond b (owes (call ∷ h)) (reported script start h) ≡ owes (call ∷ h)
    by true e = refl
    by false e = absurd (cc)

  -- the bytes taken and those that wait
  taken_and_waiting : (h : List Call) → IsAccepted script start h → (b : Bool) → is_linked h ≡ b
      → received script start h ++ drop (count_taken h) (owes h) ≡ reported script start h
  taken_and_waiting h a true e =
      ap (λ r. r ++ drop (count_taken h) (owes h)) ((keeps h a).on_link e) ∙ take-append-drop (count_taken h) (owes h) ∙ sym (reported_is h e)
  taken_and_waiting h a false e =
      let n = count_taken h in
      let k = keeps h a in
      ap (λ w. received script start h ++ w) (ap (drop n) (k.nothing e) ∙ drop_all n [] (omega arith))
      ∙ append-nil (received script start h) ∙ k.cut_off e

  -- a call that isn't refused makes one step
  steps : (h : List Call) → IsAccepted script start h → (call : Call) → refusal call (driver script start h) ≡ None
      → step call (driver script start h) ≡ driver script start (call ∷ h)
  steps h a Linked accepted =
      ap (λ t. record { start = start; clock = clock start h; round = script.round; linked = true; rest = rest []; teller = t })
      (fresh_is (timelines script) (deeds script.round start h) (count_taken h))
  steps h a (Moment t) accepted =
      ap (λ s. record { start = start; clock = max (clock start h) t; round = script.round; linked = is_linked h; rest = rest (input h); teller = s })
      (change_is (timelines script) (deeds script.round start h) (count_taken h) (keeps h a).room None (Passing script.round (clock start h - start) (max (clock start h) t - start)))
  steps h a (Bytes piece) accepted =
      let vs = timelines script in
      let past = deeds script.round start h in
      let ls = lines_after (rest (input h)) piece in
      ap (λ r. record { start = start; clock = clock start h; round = script.round; linked = is_linked h; rest = r; teller = heard_all ls (told_by vs past (count_taken h)) })
      (sym (rest-append (input h) piece))
      ∙ ap (λ t. record { start = start; clock = clock start h; round = script.round; linked = is_linked h; rest = rest (input h ++ piece); teller = t })
      (lines_are vs ls past (count_taken h) (keeps h a).room)
  steps h a (Lost k piece) accepted =
      let vs = timelines script in
      let past = deeds script.round start h in
      let ls = take k (lines_after (rest (input h)) piece) in
      ap (λ t. record { start = start; clock = clock start h; round = script.round; linked = false; rest = rest []; teller = t })
      (ap relinked (lines_are vs ls past (count_taken h) (keeps h a).room) ∙ fresh_is vs (by_lines ls past) (count_taken h))
  steps h a (Took n) accepted =
      let vs = timelines script in
      let past = deeds script.round start h in
      ap (λ w. record {
        start = start;
        clock = clock start h;
        round = script.round;
        linked = is_linked h;
        rest = rest (input h);
        teller = record { variables = map (seen past) vs; asked = has_asked past; waits = w };
      })
      (drop-drop n (count_taken h) (owes h))

pub looks_back : LooksBack
looks_back script start h a = taken_and_waiting script start h a (is_linked h) refl

-- ---- where memory may run out

-- more waits only if more is owed
more_owed : (ts : List Timeline) (before after : List Deed) (n : ℕ) → n ≤ length (told ts before)
    → IsTrue (tells_more (told_by ts before n) (told_by ts after n)) → IsTrue (owes_more ts before after)
more_owed ts before after n room more = grind (arith, nat_tests, length-drop n (told ts before), length-drop n (told ts after))

takes_memory : (ts : List Timeline) (past : List Deed) (n : ℕ) (line : LineText) → n ≤ length (told ts past) → IsTrue (may_take_memory line (told_by ts past n))
    → IsTrue (with_backslash line || owes_more ts past (by_ask (asked_by line) past))
takes_memory ts past n line room takes = by (with_backslash line) takes where
  by : (b : Bool) → IsTrue (b || tells_more (told_by ts past n) (heard line (told_by ts past n))) → IsTrue (b || owes_more ts past (by_ask (asked_by line) past))
  by true is = is
  by false is =
      more_owed ts past (by_ask (asked_by line) past) n room
      (subst (λ t. IsTrue (tells_more (told_by ts past n) t)) (ask_is ts past n room (asked_by line)) is)

stops_there : (ts : List Timeline) (past : List Deed) (n : ℕ) (found : Option LineText) → n ≤ length (told ts past)
    → IsTrue (option_map_or (λ line. may_take_memory line (told_by ts past n)) found false)
    → IsTrue (option_map_or (λ line. with_backslash line || owes_more ts past (by_ask (asked_by line) past)) found false)
stops_there ts past n None room takes = takes
stops_there ts past n (Some line) room takes = takes_memory ts past n line room takes

-- ---- one call more

module _ (script : Script) (start : ℕ) (h : List Call) (old : Content) (s : Stands script start h old) where
  pub one_more : (call : Call) (new : Content) → refusal call old ≡ None → new ≡ step call old → Stands script start (call ∷ h) new
  one_more call new accepted moved =
      let done : refusal call (driver script start h) ≡ None = subst (λ (c : Content). refusal call c ≡ None) s.1 accepted in
      ((s.0, done), moved ∙ ap (step call) s.1 ∙ steps script start h s.0 call done)

  pub lost : (k : ℕ) (piece : List ℕ) → MayStop k piece old → MayRunOut script start h k piece
  lost k piece stops =
      let vs = timelines script in
      let past = deeds script.round start h in
      let n = count_taken h in
      let ls = lines_after (rest (input h)) piece in
      let room = (keeps script start h s.0).room in
      let here : MayStop k piece (driver script start h) = subst (MayStop k piece) s.1 stops in
      stops_there vs (by_lines (take k ls) past) n (slice_get ls k) (lines_room vs (take k ls) past n room)
      (subst (λ t. IsTrue (option_map_or (λ line. may_take_memory line t) (slice_get ls k) false)) (lines_are vs (take k ls) past n room) here)
