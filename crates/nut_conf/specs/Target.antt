-- Names of UPSes at hosts: `ups[@host[:port]]`.
use Rattle.std.specs.Prelude.{ℕ, ◌+◌, ◌==◌, List, take, drop, position, codes, if◌then◌else◌, Option, Result, Ok, Err}
use Rattle.std.specs.Option.{option_map, option_map_or}
use Rattle.nut_words.specs.declared.limits.TheConstants.{UPS_NAME_MAX}
use Rattle.nut_conf.specs.Bytes.{at_sign, colon}
use Rattle.nut_conf.specs.Faults.{◌>>=◌}
use Rattle.nut_conf.specs.Values.{name, number}
use Rattle.nut_conf.specs.Hosts.{is_host}
use Rattle.nut_conf.specs.declared.target.NameFault.{NameFault}
use Rattle.nut_conf.specs.declared.target.NameFault.TheVariants.{BadUps, BadHost, BadPort}
use Rattle.nut_conf.specs.declared.target.Target.{Target}

-- the bytes before and after the first byte c, if there is one
abbrev pub parted : ℕ → List ℕ → Option (List ℕ × List ℕ)
parted c bytes = option_map (λ i. (take i bytes, drop (i + 1) bytes)) (position (λ b. b == c) bytes)

-- the result, with the fault f in place of its own fault
abbrev pub or_fault : {X E F : Type 0} → F → Result X E → Result X F
or_fault f (Ok x) = Ok x
or_fault f (Err e) = Err f

-- the name or address of a host, or `BadHost`
abbrev pub host : List ℕ → Result (List ℕ) NameFault
host bytes = if is_host bytes then Ok bytes else Err BadHost

-- the host and port of `host[:port]`; without a port it is 3493
abbrev pub located : List ℕ → Result (List ℕ × ℕ) NameFault
located bytes =
    option_map_or (λ p. host p.0 >>= (λ h. or_fault BadPort (number 1 65535 p.1) >>= (λ n. Ok (h, n))))
    (parted colon bytes) (host bytes >>= (λ h. Ok (h, 3493)))

-- the UPS, the host and the port of `ups[@host[:port]]`; without a host it is localhost, with port 3493
abbrev pub target : List ℕ → Result (List ℕ × List ℕ × ℕ) NameFault
target bytes =
    option_map_or (λ p. or_fault BadUps (name UPS_NAME_MAX p.0) >>= (λ u. located p.1 >>= (λ l. Ok (u, l.0, l.1))))
    (parted at_sign bytes) (or_fault BadUps (name UPS_NAME_MAX bytes) >>= (λ u. Ok (u, codes "localhost", 3493)))

-- the UPS, the host and the port that a target names
abbrev pub target_view : Target → List ℕ × List ℕ × ℕ
target_view t = (t.ups.bytes.items, t.host.bytes.items, t.port.number)
