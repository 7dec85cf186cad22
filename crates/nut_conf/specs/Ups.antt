-- The file ups.conf: the UPSes of a server.
use Rattle.std.specs.Prelude.{ℕ, Bool, not, List, [], ◌∷◌, ◌++◌, length, map, codes, position, slice_get, nat_le, Option, Result, Ok, Err, if◌then◌else◌}
use Rattle.std.specs.List.{list_all, list_any}
use Rattle.std.specs.Option.{option_map_or}
use Rattle.std.specs.Str.{bytes_eq}
use Rattle.indexmap.specs.IndexMap.{keys, values}
use Rattle.nut_words.specs.Spelling.{is_printing}
use Rattle.nut_words.specs.declared.limits.TheConstants.{UPS_NAME_MAX}
use Rattle.nut_conf.specs.Faults.{◌>>=◌}
use Rattle.nut_conf.specs.Settings.{line_fault}
use Rattle.nut_conf.specs.Rows.{Row, name_row, text_row, directives_of, line_grows, RowsHold}
use Rattle.nut_conf.specs.declared.values.Form.TheVariants.{Assigned}
use Rattle.nut_conf.specs.Values.{Words, name, text}
use Rattle.nut_conf.specs.Files.{LineFault}
use Rattle.nut_conf.specs.Sections.{AllHold, sections, sectioned_fault, sectioned_grows, names_in}
use Rattle.nut_conf.specs.declared.text.Name.{Name}
use Rattle.nut_conf.specs.declared.fault.FaultKind.{FaultKind}
use Rattle.nut_conf.specs.declared.fault.FaultKind.TheVariants.{PastLimit, Repeated, Unreadable}
use Rattle.nut_conf.specs.declared.ups.UpsConf.{UpsConf}
use Rattle.nut_conf.specs.declared.ups.Ups.{Ups}
use Rattle.nut_conf.specs.declared.ups.UpsDirective.{UpsDirective}
use Rattle.nut_conf.specs.declared.ups.UpsDirective.TheVariants.{Driver, Port, Desc}
use Rattle.nut_conf.specs.declared.limits.TheConstants.{DESCRIPTION_MAX, UPSES_MAX}

-- the directives of a section
abbrev pub ups_row : UpsDirective → Row Ups
ups_row Driver = name_row (codes "driver") Assigned (λ (u : Ups). u.driver)
ups_row Port = text_row (codes "port") Assigned (λ (u : Ups). u.port)
ups_row Desc = text_row (codes "desc") Assigned (λ (u : Ups). u.desc)

-- the rows of the table
abbrev pub ups_rows : List UpsDirective
ups_rows = Driver ∷ Port ∷ Desc ∷ []

-- whether a line allocates memory for what it sets: only a section line does
abbrev pub ups_conf_grows : Words → Bool
ups_conf_grows = sectioned_grows (line_grows ups_row ups_rows)

-- the first fault of a line of ups.conf, which has at most UPSES_MAX sections
abbrev pub ups_fault : LineFault
ups_fault = sectioned_fault (line_fault (directives_of ups_row ups_rows)) UPSES_MAX

-- The configuration holds the sections of the file, in order.
abbrev pub UpsConfHolds : UpsConf → List Words → Type 0
UpsConfHolds c lines = AllHold (RowsHold ups_row) c.ups.by_name.entries (sections lines)

-- the driver's program of a UPS: `dummy-ups` if none is set
abbrev pub driver_of : Ups → List ℕ
driver_of u = option_map_or (λ n. n.bytes.items) u.driver (codes "dummy-ups")

-- the port of a UPS: empty if none is set
abbrev pub port_of : Ups → List ℕ
port_of u = option_map_or (λ t. t.bytes.items) u.port []

-- the description of a UPS: `Unavailable` if none is set
abbrev pub desc_of : Ups → List ℕ
desc_of u = option_map_or (λ t. t.bytes.items) u.desc (codes "Unavailable")

-- the names of the UPSes, in the order of the file
abbrev pub names_of : UpsConf → List (List ℕ)
names_of c = names_in (keys c.ups.by_name)

-- the place of the UPS with this name, counted from 0 in the order of the file
abbrev pub number_of : List ℕ → UpsConf → Option ℕ
number_of name c = position (bytes_eq name) (names_of c)

-- the UPS at this place
abbrev pub ups_at : UpsConf → ℕ → Option Ups
ups_at c number = slice_get (values c.ups.by_name) number

-- a UPS, whatever its place in memory: its name, its driver's program, its port and its description
pub record Shown : Type 0 where
  pub name : List ℕ
  pub driver : List ℕ
  pub port : List ℕ
  pub description : List ℕ

-- the UPS of an entry, with the defaults for what isn't set
abbrev pub shown : Name UPS_NAME_MAX × Ups → Shown
shown e = record { name = e.0.bytes.items; driver = driver_of e.1; port = port_of e.1; description = desc_of e.1 }

-- the UPSes, in the order of the file
abbrev pub shown_in : UpsConf → List Shown
shown_in c = map shown c.ups.by_name.entries

-- whether the UPS has this name
abbrev pub is_shown_as : List ℕ → Shown → Bool
is_shown_as n u = bytes_eq n u.name

-- The UPSes with one more at the end, which has this name, this description and the default driver and port; or the
-- first fault.
abbrev pub with_ups : List Shown → List ℕ → List ℕ → Result (List Shown) FaultKind
with_ups before n desc =
    name UPS_NAME_MAX n >>= (λ n. text 0 DESCRIPTION_MAX desc >>= (λ d.
    if nat_le UPSES_MAX (length before) then Err PastLimit
    else if list_any (is_shown_as n) before then Err Repeated
    else if not (list_all is_printing d) then Err Unreadable
    else Ok (before ++ record { name = n; driver = codes "dummy-ups"; port = []; description = d } ∷ [])))
