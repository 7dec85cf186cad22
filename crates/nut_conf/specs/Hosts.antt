-- Names and addresses of hosts.
use Rattle.std.specs.Prelude.{ℕ, Bool, ◌||◌, ◌&&◌, ◌==◌, List, length, nat_le}
use Rattle.std.specs.List.{list_all}
use Rattle.std.specs.Char.{is_ascii_alphanumeric}
use Rattle.nut_conf.specs.Bytes.{colon, dash, dot}
use Rattle.nut_conf.specs.declared.limits.TheConstants.{HOST_MAX}

-- whether the byte is an ASCII letter or digit, `.` or `-`
abbrev pub is_host_byte : ℕ → Bool
is_host_byte c = is_ascii_alphanumeric c || c == dot || c == dash

-- whether the bytes name a host to dial, or are its address: 1 to HOST_MAX bytes that `is_host_byte` allows
abbrev pub is_host : List ℕ → Bool
is_host bytes = nat_le 1 (length bytes) && nat_le (length bytes) HOST_MAX && list_all is_host_byte bytes

-- whether the byte is an ASCII letter or digit, `.`, `-` or `:`
abbrev pub is_address_byte : ℕ → Bool
is_address_byte c = is_host_byte c || c == colon

-- whether the bytes are an address to listen at: 1 to HOST_MAX bytes that `is_address_byte` allows
abbrev pub is_address : List ℕ → Bool
is_address bytes = nat_le 1 (length bytes) && nat_le (length bytes) HOST_MAX && list_all is_address_byte bytes
