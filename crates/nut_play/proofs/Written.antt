-- What is written back into a seat.
use Rattle.std.proofs.Common.{◌≡◌, ◌<◌, ℕ, length, slice_set, slice_index_or, Result, Ok, Err, OnOk, sym, ◌∙◌, ap}
use Rattle.nut_server_spec.specs.Content.{Content}
use Rattle.nut_monitor.specs.Monitors.{MonitorValue}
use Rattle.nut_fleet.specs.Seen.{Ends}
use Rattle.nut_play.specs.Kept.{Seat, no_ends, ends_at}
use Rattle.nut_play.specs.machine.Next.{changed_at, reached_by, reach_by, back_put, back_by, linked_by, out_by, out_put, open_by, waits_by, land_by, landed_by, link_by, made_by, heard_monitor, reach_seat, back_seat, out_seat, land_seat, join_seat}
use Rattle.nut_play.proofs.Places.{changed-written, read-at}

pub on-ok : {T E : Type 0} (P Q : Type 0) (r : Result T E) → (P → Q) → OnOk r P → OnOk r Q
on-ok P Q (Ok x) f p = f p
on-ok P Q (Err e) f p = p

pub on-ok-two : {T E : Type 0} (P Q R : Type 0) (r : Result T E) → (P → Q → R) → OnOk r P → OnOk r Q → OnOk r R
on-ok-two P Q R (Ok x) f p q = f p q
on-ok-two P Q R (Err e) f p q = p

module _ (s : Content) (i n : ℕ) (seat : Seat) (x y : Ends) (lt : i < length seat.links) (is : x ≡ slice_index_or seat.links i x) where
  read : x ≡ ends_at seat.links i
  read = sym (read-at i seat.links x no_ends lt is)

  links-are : (change : Ends → Ends) → y ≡ change x → slice_set seat.links i y ≡ changed_at i change seat.links
  links-are change new = changed-written i change seat.links x y lt is new

  pub reach-written : y ≡ reached_by (reach_by s x n) x →
      (let after : Seat = record { monitor = seat.monitor; links = slice_set seat.links i y } in after) ≡ reach_seat s i n seat
  reach-written new =
      ap (λ ls. let after : Seat = record { monitor = seat.monitor; links = ls } in after)
      (links-are (reached_by (reach_by s (ends_at seat.links i) n)) (new ∙ ap (λ e. reached_by (reach_by s e n) x) read))

  pub back-written : (linked : _) → linked ≡ linked_by seat.monitor.content i → y ≡ back_put (back_by s x n) linked s x →
      (let after : Seat = record { monitor = seat.monitor; links = slice_set seat.links i y } in after) ≡ back_seat s i n seat
  back-written linked there new =
      ap (λ ls. let after : Seat = record { monitor = seat.monitor; links = ls } in after)
      (links-are (back_put (back_by s (ends_at seat.links i) n) (linked_by seat.monitor.content i) s)
      (new ∙ ap (λ e. back_put (back_by s e n) linked s x) read ∙ ap (λ b. back_put (back_by s (ends_at seat.links i) n) b s x) there))

  pub out-written : (m : ℕ) (v : MonitorValue) → v ≡ heard_monitor (out_by m seat.monitor.content i n) seat.monitor →
      y ≡ out_put (out_by m seat.monitor.content i n) i (open_by s x) (waits_by seat.monitor.content i) x →
      (let after : Seat = record { monitor = v; links = slice_set seat.links i y } in after) ≡ out_seat s m i n seat
  out-written m v heard new =
      ap (λ w. let after : Seat = record { monitor = w; links = slice_set seat.links i y } in after) heard
      ∙ ap (λ ls. let after : Seat = record { monitor = heard_monitor (out_by m seat.monitor.content i n) seat.monitor; links = ls } in after)
      (links-are (out_put (out_by m seat.monitor.content i n) i (open_by s (ends_at seat.links i)) (waits_by seat.monitor.content i))
      (new ∙ ap (λ e. out_put (out_by m seat.monitor.content i n) i (open_by s e) (waits_by seat.monitor.content i) x) read))

  pub join-written : (m : ℕ) (v : MonitorValue) → v ≡ heard_monitor (link_by m s seat.monitor.content i x) seat.monitor →
      y ≡ made_by (link_by m s seat.monitor.content i x) s x →
      (let after : Seat = record { monitor = v; links = slice_set seat.links i y } in after) ≡ join_seat s m i seat
  join-written m v heard new =
      ap (λ w. let after : Seat = record { monitor = w; links = slice_set seat.links i y } in after)
      (heard ∙ ap (λ e. heard_monitor (link_by m s seat.monitor.content i e) seat.monitor) read)
      ∙ ap (λ ls. let after : Seat = record { monitor = heard_monitor (link_by m s seat.monitor.content i (ends_at seat.links i)) seat.monitor; links = ls } in after)
      (links-are (made_by (link_by m s seat.monitor.content i (ends_at seat.links i)) s)
      (new ∙ ap (λ e. made_by (link_by m s seat.monitor.content i e) s x) read))

module _ (i n : ℕ) (seat : Seat) (x y : Ends) (lt : i < length seat.links) (is : x ≡ slice_index_or seat.links i x) where
  pub land-written : (m : ℕ) (v : MonitorValue) → v ≡ heard_monitor (land_by m seat.monitor.content i x n) seat.monitor →
      y ≡ landed_by (land_by m seat.monitor.content i x n) i x →
      (let after : Seat = record { monitor = v; links = slice_set seat.links i y } in after) ≡ land_seat m i n seat
  land-written m v heard new =
      ap (λ w. let after : Seat = record { monitor = w; links = slice_set seat.links i y } in after)
      (heard ∙ ap (λ e. heard_monitor (land_by m seat.monitor.content i e n) seat.monitor) (sym (read-at i seat.links x no_ends lt is)))
      ∙ ap (λ ls. let after : Seat = record { monitor = heard_monitor (land_by m seat.monitor.content i (ends_at seat.links i) n) seat.monitor; links = ls } in after)
      (changed-written i (landed_by (land_by m seat.monitor.content i (ends_at seat.links i) n) i) seat.links x y lt is
      (new ∙ ap (λ e. landed_by (land_by m seat.monitor.content i e n) i x) (sym (read-at i seat.links x no_ends lt is))))
