-- A step of what is kept is the step of the fleet of the definitions.
use Rattle.std.proofs.Common.{◌≡◌, ◌<◌, ◌==◌, ℕ, Bool, true, false, inl, inr, List, [], ◌∷◌, ◌++◌, min, take, length, slice_get, Some, is_none, refl, sym, ◌∙◌, ap, subst}
use Rattle.std.specs.Prelude.{if◌then◌else◌, not, ◌&&◌}
use Rattle.std.proofs.lemmas.Bool.{cases_Bool, cases_eq, ltb-true}
use Rattle.nut_words.specs.declared.limits.TheConstants.{PIECE_MAX}
use Rattle.nut_server_spec.specs.Event as arrivals
use Rattle.nut_server_spec.specs.Acceptance as server_tests
use Rattle.nut_monitor_spec.specs.Event as events
use Rattle.nut_monitor_spec.specs.Content as knowledge
use Rattle.nut_monitor_spec.specs.Acceptance as monitor_tests
use Rattle.nut_fleet.specs.Schedule.{Step, ServerClock, MonitorClock, Up, Driver, Down, Link, Out, Reach, Back, Land, CutServer, CutMonitor}
use Rattle.nut_fleet.specs.World.{Setup, World, Deed, Skip, Rest, Tell, Inform, Join, carried, counted, moved, address_of, for_monitor}
use Rattle.nut_fleet.specs.Seen.{Ends, Fleet, Keeps, KeepsLink}
use Rattle.nut_fleet.specs.machine.Going.{told_on, moved_by, moved_on, news_by, news_seen}
use Rattle.nut_fleet.proofs.Steps.{for-own, for-other}
use Rattle.nut_play.specs.Kept.{Seat, Kept, fleet_of, ends_at, links_in, known_in}
use Rattle.nut_play.specs.machine.Next.{known_of, link_of, changed_at, is_played, tell_by, told_by, told_to, inform_by, heard_by, told_news, open_by, waits_by, reach_by, back_by, out_by, land_by, link_by, linked_by, reached_by, back_put, out_put, landed_by, made_by, hear_seat, reach_seat, back_seat, out_seat, land_seat, join_seat, with_seat, reach_next, back_next, join_next, next, fits, fits_link}
use Rattle.nut_play.specs.machine.Play.{told_if, told_at}
use Rattle.nut_play.proofs.Changes.{get-changed, get-other, index-changed, index-other}
use Rattle.nut_play.proofs.Runs.{some-get}
use Rattle.nut_play.proofs.Fits.{fits_within, fits_there}

-- two fleets that are the same at every place
pub record IsSame (f g : Fleet) : Type 0 where
  pub server : f.server ≡ g.server
  pub monitor : (m : ℕ) → f.monitor m ≡ g.monitor m
  pub link : (m i : ℕ) → f.link m i ≡ g.link m i

same-self : (f : Fleet) → IsSame f f
same-self f = record { server = refl; monitor = λ m. refl; link = λ m i. refl }

same-then : (f g h : Fleet) → IsSame f g → IsSame g h → IsSame f h
same-then f g h a b = record {
  server = a.server ∙ b.server;
  monitor = λ m. a.monitor m ∙ b.monitor m;
  link = λ m i. a.link m i ∙ b.link m i;
}

pub same-keeps : (setup : Setup) (w : World) (f g : Fleet) → IsSame f g → Keeps setup w g → Keeps setup w f
same-keeps setup w f g same keeps = record {
  server = same.server ∙ keeps.server;
  monitor = λ m. same.monitor m ∙ keeps.monitor m;
  link = λ m i there. subst (λ x. KeepsLink setup m i (w.connection m i) w.server (w.monitor m) x) (sym (same.link m i)) (keeps.link m i there);
}

-- a function with its own value put back
same-for : {A : Type 0} (m : ℕ) (f : ℕ → A) (n : ℕ) → for_monitor m (f m) f n ≡ f n
same-for m f n = elim (cases_eq n m) [
  | inl same ↦ subst (λ x. for_monitor m (f m) f x ≡ f x) (sym same) (for-own m (f m) f)
  | inr ne ↦ for-other m n (f m) f ne
]

same-link : (m i : ℕ) (f : ℕ → ℕ → Ends) (n j : ℕ) → for_monitor m (for_monitor i (f m i) (f m)) f n j ≡ f n j
same-link m i f n j = elim (cases_eq n m) [
  | inl same ↦
      subst (λ x. for_monitor m (for_monitor i (f m i) (f m)) f x j ≡ f x j) (sym same)
      (ap (λ g. g j) (for-own m (for_monitor i (f m i) (f m)) f) ∙ same-for i (f m) j)
  | inr ne ↦ ap (λ g. g j) (for-other m n (for_monitor i (f m i) (f m)) f ne)
]

-- ---- what a deed may be

when : (P : Deed → Type 0) (b : Bool) (d : Deed) → P Skip → P d → P (if b then d else Skip)
when P true d skip goes = goes
when P false d skip goes = skip

when-carried : (P : Deed → Type 0) (bytes : List ℕ) (d : List ℕ → Deed) → P Rest → P (d bytes) → P (carried bytes d)
when-carried P [] d rest goes = rest
when-carried P (b ∷ bytes) d rest goes = goes

when-counted : (P : Deed → Type 0) (n : ℕ) (d : ℕ → Deed) → P Rest → P (d n) → P (counted n d)
when-counted P n d rest goes = elim (cases_Bool (n == 0)) [ inl e ↦ rw e rest | inr e ↦ rw e goes ]

-- ---- a seat that is changed

module _ (k : Kept) (m : ℕ) (x : Seat) (is : slice_get k.seats m ≡ Some x) where
  known-is : (fleet_of k).monitor m ≡ x.monitor.content
  known-is = ap known_in is

  link-is : (i : ℕ) → (fleet_of k).link m i ≡ ends_at x.links i
  link-is i = ap (λ o. ends_at (links_in o) i) is

  monitor-changed : (change : Seat → Seat) (s : knowledge.Content) → (change x).monitor.content ≡ s → (n : ℕ) →
      known_in (slice_get (changed_at m change k.seats) n) ≡ for_monitor m s (fleet_of k).monitor n
  monitor-changed change s e n = elim (cases_eq n m) [
    | inl same ↦
        subst (λ y. known_in (slice_get (changed_at m change k.seats) y) ≡ for_monitor m s (fleet_of k).monitor y) (sym same)
        (ap known_in (get-changed m change k.seats x is) ∙ e ∙ sym (for-own m s (fleet_of k).monitor))
    | inr ne ↦ ap known_in (get-other m n change k.seats ne) ∙ sym (for-other m n s (fleet_of k).monitor ne)
  ]

  links-kept : (change : Seat → Seat) → (change x).links ≡ x.links → (n j : ℕ) →
      ends_at (links_in (slice_get (changed_at m change k.seats) n)) j ≡ (fleet_of k).link n j
  links-kept change e n j = elim (cases_eq n m) [
    | inl same ↦
        subst (λ y. ends_at (links_in (slice_get (changed_at m change k.seats) y)) j ≡ (fleet_of k).link y j) (sym same)
        (ap (λ o. ends_at (links_in o) j) (get-changed m change k.seats x is) ∙ ap (λ ls. ends_at ls j) e ∙ sym (link-is j))
    | inr ne ↦ ap (λ o. ends_at (links_in o) j) (get-other m n change k.seats ne)
  ]

  at-link : (change : Ends → Ends) (i : ℕ) (ends : Ends) → i < length x.links → change (ends_at x.links i) ≡ ends → (j : ℕ) →
      ends_at (changed_at i change x.links) j ≡ for_monitor i ends ((fleet_of k).link m) j
  at-link change i ends lt e j = elim (cases_eq j i) [
    | inl same ↦
        subst (λ y. ends_at (changed_at i change x.links) y ≡ for_monitor i ends ((fleet_of k).link m) y) (sym same)
        (index-changed i change x.links _ lt ∙ e ∙ sym (for-own i ends ((fleet_of k).link m)))
    | inr ne ↦ index-other i j change x.links _ ne ∙ sym (link-is j) ∙ sym (for-other i j ends ((fleet_of k).link m) ne)
  ]

  links-changed : (change : Seat → Seat) (put : Ends → Ends) (i : ℕ) (ends : Ends) → (change x).links ≡ changed_at i put x.links → i < length x.links →
      put (ends_at x.links i) ≡ ends → (n j : ℕ) →
      ends_at (links_in (slice_get (changed_at m change k.seats) n)) j
      ≡ for_monitor m (for_monitor i ends ((fleet_of k).link m)) (fleet_of k).link n j
  links-changed change put i ends goes lt e n j = elim (cases_eq n m) [
    | inl same ↦
        subst (λ y. ends_at (links_in (slice_get (changed_at m change k.seats) y)) j ≡ for_monitor m (for_monitor i ends ((fleet_of k).link m)) (fleet_of k).link y j) (sym same)
        (ap (λ o. ends_at (links_in o) j) (get-changed m change k.seats x is) ∙ ap (λ ls. ends_at ls j) goes ∙ at-link put i ends lt e j
        ∙ sym (ap (λ g. g j) (for-own m (for_monitor i ends ((fleet_of k).link m)) (fleet_of k).link)))
    | inr ne ↦
        ap (λ o. ends_at (links_in o) j) (get-other m n change k.seats ne)
        ∙ sym (ap (λ g. g j) (for-other m n (for_monitor i ends ((fleet_of k).link m)) (fleet_of k).link ne))
  ]

-- ---- step by step

-- what is kept after a step is the fleet after it, and both tell the same
abbrev Goes : Kept → Step → Type 0
Goes k step = IsSame (fleet_of (next k step)) (moved_on (fleet_of k) step) × (told_at k step ≡ news_seen (fleet_of k) step)

-- only the server is told something
told-goes : (k : Kept) (step : Step) (event : arrivals.Event) → ((e : arrivals.Event) → moved_by (fleet_of k) (Tell e) step ≡ told_on e (fleet_of k)) →
    IsSame (fleet_of (told_to k event)) (moved_by (fleet_of k) (tell_by k.server event) step)
    × (told_if (is_played (tell_by k.server event)) [] ≡ news_by (fleet_of k) (tell_by k.server event))
told-goes k step event only =
    when (λ d. IsSame (fleet_of (record k { server = told_by d 0 k.server })) (moved_by (fleet_of k) d step) × (told_if (is_played d) [] ≡ news_by (fleet_of k) d))
    (is_none (server_tests.refusal k.server event)) (Tell event)
    (same-self (fleet_of k), refl)
    (subst (λ g. IsSame (told_on event (fleet_of k)) g) (sym (only event)) (same-self (told_on event (fleet_of k))), refl)

module _ (k : Kept) (m : ℕ) (x : Seat) (is : slice_get k.seats m ≡ Some x) where
  -- only monitor m is told something
  heard-goes : (step : Step) (event : events.Event) →
      (moved_by (fleet_of k) (Inform m event) step ≡ (let g : Fleet = record (fleet_of k) { monitor = for_monitor m (heard_by (Inform m event) ((fleet_of k).monitor m)) (fleet_of k).monitor } in g)) →
      IsSame (fleet_of (with_seat k m (hear_seat m event))) (moved_by (fleet_of k) (inform_by m (known_of k m) event) step)
      × (told_if (is_played (inform_by m (known_of k m) event)) (told_news (inform_by m (known_of k m) event) (known_of k m))
      ≡ news_by (fleet_of k) (inform_by m (known_of k m) event))
  heard-goes step event only =
      let after : Deed → Fleet = λ d. record (fleet_of k) { monitor = for_monitor m (heard_by d ((fleet_of k).monitor m)) (fleet_of k).monitor } in
      let goes : IsSame (after (inform_by m (known_of k m) event)) (moved_by (fleet_of k) (inform_by m (known_of k m) event) step)
      × (told_if (is_played (inform_by m (known_of k m) event)) (told_news (inform_by m (known_of k m) event) (known_of k m))
      ≡ news_by (fleet_of k) (inform_by m (known_of k m) event)) =
      when (λ d. IsSame (after d) (moved_by (fleet_of k) d step) × (told_if (is_played d) (told_news d (known_of k m)) ≡ news_by (fleet_of k) d))
      (is_none (monitor_tests.refusal (known_of k m) event)) (Inform m event)
      (record { server = refl; monitor = same-for m (fleet_of k).monitor; link = λ n j. refl }, refl)
      (subst (λ g. IsSame (after (Inform m event)) g) (sym only) (same-self (after (Inform m event))), refl) in (
        same-then (fleet_of (with_seat k m (hear_seat m event))) (after (inform_by m (known_of k m) event)) (moved_by (fleet_of k) (inform_by m (known_of k m) event) step)
            (record {
              server = refl;
              monitor =
                  monitor-changed k m x is (hear_seat m event) (heard_by (inform_by m (known_of k m) event) (known_of k m))
                  (ap (λ s. heard_by (inform_by m s event) s) (sym (known-is k m x is)));
              link = links-kept k m x is (hear_seat m event) refl;
            })
            goes.0,
        goes.1,
      )

  module _ (i : ℕ) (lt : i < length x.links) where
    -- bytes arrive at the server
    reach-goes : (n : ℕ) → Goes k (Reach m i n)
    reach-goes n =
        let after : Deed → Fleet = λ d. record (fleet_of k) {
          server = told_by d 0 k.server;
          link = for_monitor m (for_monitor i (reached_by d (link_of k m i)) ((fleet_of k).link m)) (fleet_of k).link;
        } in
        let d : Deed = reach_by k.server (link_of k m i) n in
        let P : Deed → Type 0 = λ d. IsSame (after d) (moved_by (fleet_of k) d (Reach m i n)) × (told_if (is_played d) [] ≡ news_by (fleet_of k) d) in
        let still : IsSame (after Skip) (fleet_of k) = record { server = refl; monitor = λ n. refl; link = same-link m i (fleet_of k).link } in
        let goes : P d =
        when P (open_by k.server (link_of k m i)) (carried (take (min n PIECE_MAX) (link_of k m i).to_server) (λ piece. tell_by k.server (arrivals.Bytes (link_of k m i).connection piece)))
        (still, refl)
        (when-carried P (take (min n PIECE_MAX) (link_of k m i).to_server) (λ piece. tell_by k.server (arrivals.Bytes (link_of k m i).connection piece)) (still, refl)
        (when P (is_none (server_tests.refusal k.server (arrivals.Bytes (link_of k m i).connection (take (min n PIECE_MAX) (link_of k m i).to_server))))
        (Tell (arrivals.Bytes (link_of k m i).connection (take (min n PIECE_MAX) (link_of k m i).to_server)))
        (still, refl) (same-self _, refl))) in (
          same-then (fleet_of (reach_next k m i n)) (after d) (moved_by (fleet_of k) d (Reach m i n))
              (record {
                server = refl;
                monitor = λ y. monitor-changed k m x is (reach_seat k.server i n) (known_of k m) (sym (known-is k m x is)) y ∙ same-for m (fleet_of k).monitor y;
                link =
                    links-changed k m x is (reach_seat k.server i n) (reached_by (reach_by k.server (ends_at x.links i) n)) i (reached_by d (link_of k m i)) refl lt
                    (ap (λ e. reached_by (reach_by k.server e n) e) (sym (link-is k m x is i)));
              })
              goes.0,
          goes.1,
        )

    -- bytes move from the server into a pipe
    back-goes : (n : ℕ) → Goes k (Back m i n)
    back-goes n =
        let up : Bool = linked_by (known_of k m) i in
        let after : Deed → Fleet = λ d. record (fleet_of k) {
          server = told_by d 0 k.server;
          link = for_monitor m (for_monitor i (back_put d up k.server (link_of k m i)) ((fleet_of k).link m)) (fleet_of k).link;
        } in
        let d : Deed = back_by k.server (link_of k m i) n in
        let P : Deed → Type 0 = λ d. IsSame (after d) (moved_by (fleet_of k) d (Back m i n)) × (told_if (is_played d) [] ≡ news_by (fleet_of k) d) in
        let still : IsSame (after Skip) (fleet_of k) = record { server = refl; monitor = λ n. refl; link = same-link m i (fleet_of k).link } in
        let count : ℕ = moved n (server_tests.waiting_of (link_of k m i).connection k.server.sessions) in
        let goes : P d =
        when P (open_by k.server (link_of k m i)) (counted count (λ c. tell_by k.server (arrivals.Took (link_of k m i).connection c)))
        (still, refl)
        (when-counted P count (λ c. tell_by k.server (arrivals.Took (link_of k m i).connection c)) (still, refl)
        (when P (is_none (server_tests.refusal k.server (arrivals.Took (link_of k m i).connection count))) (Tell (arrivals.Took (link_of k m i).connection count))
        (still, refl) (same-self _, refl))) in (
          same-then (fleet_of (back_next k m i n)) (after d) (moved_by (fleet_of k) d (Back m i n))
              (record {
                server = refl;
                monitor = λ y. monitor-changed k m x is (back_seat k.server i n) (known_of k m) (sym (known-is k m x is)) y ∙ same-for m (fleet_of k).monitor y;
                link =
                    links-changed k m x is (back_seat k.server i n) (back_put (back_by k.server (ends_at x.links i) n) (linked_by x.monitor.content i) k.server) i
                    (back_put d up k.server (link_of k m i)) refl lt
                    (ap (λ e. back_put (back_by k.server e n) (linked_by x.monitor.content i) k.server e) (sym (link-is k m x is i))
                    ∙ ap (λ s. back_put d (linked_by s i) k.server (link_of k m i)) (sym (known-is k m x is)));
              })
              goes.0,
          goes.1,
        )

    -- bytes move from the monitor into a pipe
    out-goes : (n : ℕ) → Goes k (Out m i n)
    out-goes n =
        let s : knowledge.Content = known_of k m in
        let ends : Ends = link_of k m i in
        let after : Deed → Fleet = λ d. record (fleet_of k) {
          monitor = for_monitor m (heard_by d s) (fleet_of k).monitor;
          link = for_monitor m (for_monitor i (out_put d i (open_by k.server ends) (waits_by s i) ends) ((fleet_of k).link m)) (fleet_of k).link;
        } in
        let d : Deed = out_by m s i n in
        let P : Deed → Type 0 = λ d. IsSame (after d) (moved_by (fleet_of k) d (Out m i n)) × (told_if (is_played d) (told_news d s) ≡ news_by (fleet_of k) d) in
        let still : IsSame (after Skip) (fleet_of k) = record { server = refl; monitor = same-for m (fleet_of k).monitor; link = same-link m i (fleet_of k).link } in
        let count : ℕ = moved n (waits_by s i) in
        let goes : P d =
        when P (linked_by s i) (counted count (λ c. inform_by m s (events.LinkTook i c)))
        (still, refl)
        (when-counted P count (λ c. inform_by m s (events.LinkTook i c)) (still, refl)
        (when P (is_none (monitor_tests.refusal s (events.LinkTook i count))) (Inform m (events.LinkTook i count))
        (still, refl) (same-self _, refl))) in (
          same-then (fleet_of (with_seat k m (out_seat k.server m i n))) (after d) (moved_by (fleet_of k) d (Out m i n))
              (record {
                server = refl;
                monitor = monitor-changed k m x is (out_seat k.server m i n) (heard_by d s) (ap (λ t. heard_by (out_by m t i n) t) (sym (known-is k m x is)));
                link =
                    links-changed k m x is (out_seat k.server m i n)
                    (out_put (out_by m x.monitor.content i n) i (open_by k.server (ends_at x.links i)) (waits_by x.monitor.content i)) i
                    (out_put d i (open_by k.server ends) (waits_by s i) ends) refl lt
                    (ap (λ e. out_put (out_by m x.monitor.content i n) i (open_by k.server e) (waits_by x.monitor.content i) e) (sym (link-is k m x is i))
                    ∙ ap (λ t. out_put (out_by m t i n) i (open_by k.server ends) (waits_by t i) ends) (sym (known-is k m x is)));
              })
              goes.0,
          goes.1,
        )

    -- bytes arrive at the monitor
    land-goes : (n : ℕ) → Goes k (Land m i n)
    land-goes n =
        let s : knowledge.Content = known_of k m in
        let ends : Ends = link_of k m i in
        let after : Deed → Fleet = λ d. record (fleet_of k) {
          monitor = for_monitor m (heard_by d s) (fleet_of k).monitor;
          link = for_monitor m (for_monitor i (landed_by d i ends) ((fleet_of k).link m)) (fleet_of k).link;
        } in
        let d : Deed = land_by m s i ends n in
        let P : Deed → Type 0 = λ d. IsSame (after d) (moved_by (fleet_of k) d (Land m i n)) × (told_if (is_played d) (told_news d s) ≡ news_by (fleet_of k) d) in
        let still : IsSame (after Skip) (fleet_of k) = record { server = refl; monitor = same-for m (fleet_of k).monitor; link = same-link m i (fleet_of k).link } in
        let piece : List ℕ = take (min n PIECE_MAX) ends.to_monitor in
        let goes : P d =
        when P (linked_by s i) (carried piece (λ b. inform_by m s (events.LinkBytes i b)))
        (still, refl)
        (when-carried P piece (λ b. inform_by m s (events.LinkBytes i b)) (still, refl)
        (when P (is_none (monitor_tests.refusal s (events.LinkBytes i piece))) (Inform m (events.LinkBytes i piece))
        (still, refl) (same-self _, refl))) in (
          same-then (fleet_of (with_seat k m (land_seat m i n))) (after d) (moved_by (fleet_of k) d (Land m i n))
              (record {
                server = refl;
                monitor =
                    monitor-changed k m x is (land_seat m i n) (heard_by d s)
                    (ap (λ e. heard_by (land_by m x.monitor.content i e n) x.monitor.content) (sym (link-is k m x is i))
                    ∙ ap (λ t. heard_by (land_by m t i ends n) t) (sym (known-is k m x is)));
                link =
                    links-changed k m x is (land_seat m i n) (landed_by (land_by m x.monitor.content i (ends_at x.links i) n) i) i (landed_by d i ends) refl lt
                    (ap (λ e. landed_by (land_by m x.monitor.content i e n) i e) (sym (link-is k m x is i))
                    ∙ ap (λ t. landed_by (land_by m t i ends n) i ends) (sym (known-is k m x is)));
              })
              goes.0,
          goes.1,
        )

    -- a link is made
    join-goes : Goes k (Link m i)
    join-goes =
        let s : knowledge.Content = known_of k m in
        let ends : Ends = link_of k m i in
        let after : Deed → Fleet = λ d. record (fleet_of k) {
          server = told_by d m k.server;
          monitor = for_monitor m (heard_by d s) (fleet_of k).monitor;
          link = for_monitor m (for_monitor i (made_by d k.server ends) ((fleet_of k).link m)) (fleet_of k).link;
        } in
        let d : Deed = link_by m k.server s i ends in
        let P : Deed → Type 0 = λ d. IsSame (after d) (moved_by (fleet_of k) d (Link m i)) × (told_if (is_played d) (told_news d s) ≡ news_by (fleet_of k) d) in
        let still : IsSame (after Skip) (fleet_of k) = record { server = refl; monitor = same-for m (fleet_of k).monitor; link = same-link m i (fleet_of k).link } in
        let goes : P d =
        when P (not (open_by k.server ends) && not (linked_by s i) && is_none (server_tests.refusal k.server (arrivals.Open (address_of m)))) (Join m i)
        (still, refl) (same-self _, refl) in (
          same-then (fleet_of (join_next k m i)) (after d) (moved_by (fleet_of k) d (Link m i))
              (record {
                server = refl;
                monitor =
                    monitor-changed k m x is (join_seat k.server m i) (heard_by d s)
                    (ap (λ e. heard_by (link_by m k.server x.monitor.content i e) x.monitor.content) (sym (link-is k m x is i))
                    ∙ ap (λ t. heard_by (link_by m k.server t i ends) t) (sym (known-is k m x is)));
                link =
                    links-changed k m x is (join_seat k.server m i) (made_by (link_by m k.server x.monitor.content i (ends_at x.links i)) k.server) i (made_by d k.server ends) refl lt
                    (ap (λ e. made_by (link_by m k.server x.monitor.content i e) k.server e) (sym (link-is k m x is i))
                    ∙ ap (λ t. made_by (link_by m k.server t i ends) k.server ends) (sym (known-is k m x is)));
              })
              goes.0,
          goes.1,
        )

-- the link of a step that fits
module _ (k : Kept) (m i : ℕ) (ok : fits_link k m i ≡ true) where
  seat : (x : Seat) × (slice_get k.seats m ≡ Some x)
  seat = some-get k.seats m (fits_within k m i ok)

  there : i < length seat.0.links
  unfolding seat
  there = subst (λ o. i < length (links_in o)) seat.1 (fits_there k m i ok)

pub goes : (k : Kept) (step : Step) → fits k step ≡ true → Goes k step
unfolding seat
goes k (ServerClock t) ok = told-goes k (ServerClock t) (arrivals.Moment t) (λ e. refl)
goes k (MonitorClock m t) ok =
    let x = some-get k.seats m (ltb-true m (length k.seats) ok) in
    heard-goes k m x.0 x.1 (MonitorClock m t) (events.Moment t) refl
goes k (Up u) ok = told-goes k (Up u) (arrivals.DriverUp u) (λ e. refl)
goes k (Driver u line) ok = told-goes k (Driver u line) (arrivals.DriverBytes u (line ++ 10 ∷ [])) (λ e. refl)
goes k (Down u) ok = told-goes k (Down u) (arrivals.DriverDown u) (λ e. refl)
goes k (Link m i) ok = join-goes k m (seat k m i ok).0 (seat k m i ok).1 i (there k m i ok)
goes k (Out m i n) ok = out-goes k m (seat k m i ok).0 (seat k m i ok).1 i (there k m i ok) n
goes k (Reach m i n) ok = reach-goes k m (seat k m i ok).0 (seat k m i ok).1 i (there k m i ok) n
goes k (Back m i n) ok = back-goes k m (seat k m i ok).0 (seat k m i ok).1 i (there k m i ok) n
goes k (Land m i n) ok = land-goes k m (seat k m i ok).0 (seat k m i ok).1 i (there k m i ok) n
goes k (CutServer m i) ok = told-goes k (CutServer m i) (arrivals.Close (link_of k m i).connection) (λ e. refl)
goes k (CutMonitor m i) ok = heard-goes k m (seat k m i ok).0 (seat k m i ok).1 (CutMonitor m i) (events.LinkLost i) refl
goes k step ok = cc
