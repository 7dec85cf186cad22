-- The file upsd.conf: where a server listens, and its limits.
use Rattle.std.specs.Prelude.{ℕ, ◌==◌, Bool, List, [], ◌∷◌, length, map, codes, if◌then◌else◌, Some, Result, Ok, Err}
use Rattle.nut_conf.specs.Faults.{◌>>=◌}
use Rattle.nut_conf.specs.Values.{Words, nth, number}
use Rattle.nut_conf.specs.Hosts.{is_address}
use Rattle.nut_conf.specs.Settings.{Setting, Listen, line_fault, listed}
use Rattle.nut_conf.specs.Rows.{Row, list_row, number_row, directives_of, line_grows, RowsHold}
use Rattle.nut_conf.specs.Files.{LineFault}
use Rattle.nut_conf.specs.declared.fault.FaultKind.{FaultKind}
use Rattle.nut_conf.specs.declared.fault.FaultKind.TheVariants.{BadForm, BadName}
use Rattle.nut_conf.specs.declared.values.Form.TheVariants.{Plain}
use Rattle.nut_conf.specs.declared.upsd.UpsdConf.{UpsdConf}
use Rattle.nut_conf.specs.declared.upsd.Endpoint.{Endpoint}
use Rattle.nut_conf.specs.declared.upsd.UpsdDirective.{UpsdDirective}
use Rattle.nut_conf.specs.declared.upsd.UpsdDirective.TheVariants as directives
use Rattle.nut_conf.specs.declared.limits.TheConstants.{LISTENERS_MAX}

-- an address on which a server listens, or `BadName`
abbrev pub address : List ℕ → Result (List ℕ) FaultKind
address bytes = if is_address bytes then Ok bytes else Err BadName

-- what a LISTEN line sets: an address, and a port, which is 3493 if none is named
abbrev pub listen_value : Words → Result Setting FaultKind
listen_value vs =
    if length vs == 1 then address (nth vs 0) >>= (λ a. Ok (Listen a 3493))
    else if length vs == 2 then address (nth vs 0) >>= (λ a. number 1 65535 (nth vs 1) >>= (λ n. Ok (Listen a n)))
    else Err BadForm

-- the setting that an endpoint represents
abbrev pub endpoint_setting : Endpoint → Setting
endpoint_setting e = Listen e.address.bytes.items e.port.number

-- the directives of the file
abbrev pub upsd_row : UpsdDirective → Row UpsdConf
upsd_row directives.Listen =
    list_row (codes "LISTEN") (listed (Some LISTENERS_MAX) Plain listen_value) endpoint_setting (λ (c : UpsdConf). c.listen.lines.items)
upsd_row directives.MaxAge = number_row (codes "MAXAGE") (λ (c : UpsdConf). c.max_age)
upsd_row directives.MaxConn = number_row (codes "MAXCONN") (λ (c : UpsdConf). c.max_conn)

-- the rows of the table
abbrev pub upsd_rows : List UpsdDirective
upsd_rows = directives.Listen ∷ directives.MaxAge ∷ directives.MaxConn ∷ []

-- whether a line adds to a list, and so allocates memory for what it sets
abbrev pub upsd_grows : Words → Bool
upsd_grows = line_grows upsd_row upsd_rows

-- the first fault of a line of upsd.conf
abbrev pub upsd_fault : LineFault
upsd_fault = line_fault (directives_of upsd_row upsd_rows)

-- The configuration holds what the lines of the file set, for each directive.
abbrev pub UpsdHolds : UpsdConf → List Words → Type 0
UpsdHolds = RowsHold upsd_row

-- the address and the port of an endpoint
abbrev pub endpoint_view : Endpoint → List ℕ × ℕ
endpoint_view e = (e.address.bytes.items, e.port.number)

-- the endpoints, or 127.0.0.1 and 3493 if there are none
abbrev pub or_loopback : List (List ℕ × ℕ) → List (List ℕ × ℕ)
or_loopback [] = (codes "127.0.0.1", 3493) ∷ []
or_loopback (e ∷ es) = e ∷ es

-- the endpoints on which the server listens, in the order of the file
abbrev pub endpoints_of : UpsdConf → List (List ℕ × ℕ)
endpoints_of c = or_loopback (map endpoint_view c.listen.lines.items)
