-- A status that a client is shown is the driver's.
use Rattle.std.proofs.Common.{◌≡◌, ℕ, ◌<◌, Bool, true, false, List, ◌++◌, refl, sym, ◌∙◌, ap, Some}
use Rattle.std.specs.Prelude.{◌&&◌, codes, if◌then◌else◌, option_map}
use Rattle.std.proofs.lemmas.Option.{get_or_from_slice_get}
use Rattle.nut_state.specs.Step.{table_of}
use Rattle.nut_state.specs.Table.{Entry as Variable, variable}
use Rattle.nut_state.specs.laws.Holds.{EveryTableHolds}
use Rattle.nut_proto.specs.declared.refusal.Refusal.TheVariants as refusals
use Rattle.nut_proto.specs.declared.reply.Reply.TheVariants as replies
use Rattle.nut_server_spec.specs.Answer.{Answer, Line, device_at, shown, ups_number, var_row}
use Rattle.nut_server_spec.specs.Configuration.{Configuration}
use Rattle.nut_server_spec.specs.Content.{past}
use Rattle.nut_server_spec.specs.Device.{Device, absent, trouble}
use Rattle.nut_server_spec.specs.Trace.{Entry, device, forced, numbering, places, reports, scene}
use Rattle.nut_server_spec.specs.laws.Shown.{StatusIsTheDrivers, status_set}
use Rattle.nut_server_spec.proofs.Numbering.{number_below, numbers_below}
use Rattle.nut_server_spec.proofs.Places.{get_below}
use Rattle.nut_server_spec.proofs.Requests.{require-case, unless-case}

abbrev status : List ℕ
status = codes "ups.status"

-- the text shown of a status is that of its variable, or `FSD ` and that
shown_as : (d : Device) (v : Variable) → v.name ≡ status → shown d v ≡ (if d.forced then codes "FSD " ++ v.value else v.value)
shown_as d v named = rw named (by d.forced) where
  by : (b : Bool) → (if b && true then codes "FSD " ++ v.value else v.value) ≡ (if b then codes "FSD " ++ v.value else v.value)
  by true = refl
  by false = refl

module _ (every : EveryTableHolds) (first : Configuration) (t : List Entry) where
  set_as : (u : ℕ) (v : Variable) → variable (table_of (reports u t)) status ≡ Some v → status_set first u t ≡ Some (shown (device first t u) v)
  set_as u v there =
      let named : v.name ≡ status = ((every (reports u t)).agrees.listed status v there).1 in
      ap (option_map (λ (x : Variable). if forced first u t then codes "FSD " ++ x.value else x.value)) there ∙ ap Some (sym (shown_as (device first t u) v named))

  text_is : (ups text : List ℕ) (u : ℕ) (v : Variable) → u < places first t → variable (device_at (scene first t) u).table status ≡ Some v
      → Line (var_row ups (device_at (scene first t) u) v) ≡ Line (replies.Var ups status text) → status_set first u t ≡ Some text
  text_is ups text u v less there same =
      let here : device_at (scene first t) u ≡ device first t u =
      get_or_from_slice_get _ u (device first t u) absent (get_below u (places first t) (device first t) less) in
      let found : variable (table_of (reports u t)) status ≡ Some v = sym (ap (λ (d : Device). variable d.table status) here) ∙ there in
      let is : shown (device_at (scene first t) u) v ≡ text = cc in
      set_as u v found ∙ ap Some (sym (ap (λ d. shown d v) here) ∙ is)

pub status-is-the-drivers : EveryTableHolds → StatusIsTheDrivers
status-is-the-drivers every first h k ups text =
    let t = past first h in
    let s = scene first t in
    require-case P refusals.UnknownUps (ups_number s ups) _ (λ bad. cc) (λ u found.
    unless-case P (trouble s.configuration.max_age s.clock (device_at s u)) _ (λ r bad. cc)
    (require-case P refusals.VarNotSupported (variable (device_at s u).table status) _ (λ bad. cc) (λ v there same.
    (u, found, text_is every first t ups text u v (number_below (places first t) (numbering first t) ups u (numbers_below first t) found) there same)))) where
      P : Answer → Type 0
      P reply = reply ≡ Line (replies.Var ups status text) →
          (u : ℕ) × (ups_number (scene first (past first h)) ups ≡ Some u) × (status_set first u (past first h) ≡ Some text)
