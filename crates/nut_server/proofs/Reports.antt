-- How a UPS hears the lines of its driver.
use Rattle.std.proofs.Common.{◌≡◌, ℕ, ◌<◌, List, [], ◌∷◌, Option, Some, slice_get, refl, sym, ◌∙◌, ap, subst}
use Rattle.std.specs.Prelude.{IsTrue, ⊤, false}
use Rattle.std.specs.Option.{option_map_or}
use Rattle.nut_words.specs.Hearing.{StopsAt, heard_all}
use Rattle.nut_words.specs.Lines.{LineText, lines_after, rest, rest_after}
use Rattle.nut_server_spec.specs.Acceptance.{front, line_feeds}
use Rattle.nut_server_spec.specs.Content.{Supply, down}
use Rattle.nut_server_spec.specs.Device.{Device}
use Rattle.nut_server_spec.specs.machine.Machine.{bytes_reported}
use Rattle.nut_server_spec.specs.machine.MachineOutcome.{RunsOutOf}
use Rattle.nut_server_spec.specs.Outcome.{text_takes}
use Rattle.nut_server.specs.inside.Lines.{line_reported, line_told}
use Rattle.nut_server.proofs.Pieces.{HearsLines, heard_whole, stops_in}

-- a UPS with this unfinished line of its driver
abbrev pub with_report : LineText → Supply → Supply
with_report line d = record d { rest = line }

hears_driver : (time : ℕ) → HearsLines (bytes_reported time) (line_told time) with_report
hears_driver time = record {
  none = λ d. refl;
  feed = λ b p r d e. rw e refl;
  other = λ b p r d e. rw e refl;
}

-- what is known of the UPS, and an unfinished line that no line changes
abbrev beside : LineText → Device → Supply
beside r d = record { device = d; rest = r }

all_told : (time : ℕ) (lines : List LineText) (r : LineText) (d : Device) → heard_all (line_told time) lines (beside r d) ≡ beside r (heard_all (line_reported time) lines d)
all_told time [] r d = refl
all_told time (line ∷ lines) r d = all_told time lines r (line_reported time line d)

-- All lines of a piece were heard, and what follows them was kept.
pub report_heard : (time : ℕ) (b p : List ℕ) (r left : LineText) (d after : Device) (started : Supply) → r ≡ rest b → beside r d ≡ started → left ≡ rest_after r p
    → after ≡ heard_all (line_reported time) (lines_after r p) d → beside left after ≡ bytes_reported time p started
report_heard time b p r left d after started here began is told =
    heard_whole (hears_driver time) b p r left (beside r d) started (beside r after) here began is (ap (beside r) told ∙ sym (all_told time (lines_after r p) r d))

-- It stopped at a line of the driver, and is as it was before the line.
abbrev pub Stopped : Device → LineText → Device → Type 0
Stopped after line before = ⊤ × ((after ≡ before) × IsTrue (text_takes line before.table))

abbrev SupplyStopped : Supply → LineText → Supply → Type 0
SupplyStopped after line before = (after ≡ before) × IsTrue (text_takes line before.device.table)

supply_stopped : (time : ℕ) (lines : List LineText) (r : LineText) (d after : Device) (done : ℕ) → StopsAt (line_reported time) (Stopped after) lines d done
    → StopsAt (line_told time) (SupplyStopped (beside r after)) lines (beside r d) done
supply_stopped time lines r d after done at = record {
  earlier = at.earlier;
  line = at.line;
  later = at.later;
  parted = at.parted;
  count = at.count;
  stops = subst (SupplyStopped (beside r after) at.line) (sym (all_told time at.earlier r d)) (ap (beside r) at.stops.1.0, at.stops.1.1);
}

pub report_stopped : (time : ℕ) (b p : List ℕ) (r left : LineText) (d after : Device) (started : Supply) (done : ℕ) → r ≡ rest b → beside r d ≡ started → StopsAt (line_reported time) (Stopped after) (lines_after r p) d done
    → (done < line_feeds p) × (down (beside left after) ≡ down (bytes_reported time (front done p) started)) × RunsOutOf time p done (Some started)
report_stopped time b p r left d after started done here began stops =
    let at = stops_in (hears_driver time) b p r (beside r d) started done here began (supply_stopped time (lines_after r p) r d after done stops) in
    let P : Option LineText → Supply → Type 0 = λ line d. IsTrue (option_map_or (λ l. text_takes l d.device.table) line false) in
    let takes = subst (λ line. P line at.now) (sym at.nth) at.stops.1 in (
      at.few,
      ap down at.stops.0 ∙ sym (ap down at.is),
      subst (λ r. P (slice_get (lines_after r p) done) (bytes_reported time (front done p) started)) (ap (λ d. d.rest) began) (subst (P (slice_get (lines_after r p) done)) (sym at.is) takes),
    )
