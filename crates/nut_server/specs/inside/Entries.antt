-- For private functions, nothing here has to be believed: how the open connections are kept: in the slots of a slab,
-- with a sorted list of keys.
use Rattle.std.specs.Prelude.{◌≡◌, ◌≤◌, ℕ, List, [], ◌∷◌, count_by, filter_map, length, map, Some, vec_capacity}
use Rattle.nut_conf.specs.declared.limits.TheConstants.{CONNECTIONS_MAX}
use Rattle.slab.specs.Slab.{Slab, get, slab_len}
use Rattle.nut_server_spec.specs.Content.{Session}
use Rattle.nut_server_spec.specs.laws.Laws.{IsRising}
use Rattle.nut_server.specs.declared.connections.Key.{Key}
use Rattle.nut_server.specs.Settling.{is_unsettled}
use Rattle.nut_server.specs.declared.connections.Connections.TheInside.{Inside}

-- the connections in the slots of these keys, in the order of the keys
abbrev pub sessions_of : Slab Session → List Key → List Session
sessions_of slots order = filter_map (λ key. get slots key.slot) order

-- the numbers of the keys
abbrev pub key_numbers : List Key → List ℕ
key_numbers order = map (λ key. key.number) order

-- The slot of each key holds the connection with the key's number.
abbrev pub AreNamed : Slab Session → List Key → Type 0
AreNamed slots [] = Unit {0}
AreNamed slots (key ∷ order) = ((k : Session) × (get slots key.slot ≡ Some k) × (k.number ≡ key.number)) × AreNamed slots order

-- Each key says whether the connection in its slot is unsettled.
abbrev pub AreMarked : Slab Session → List Key → Type 0
AreMarked slots [] = Unit {0}
AreMarked slots (key ∷ order) = (key.unsettled ≡ is_unsettled (get slots key.slot)) × AreMarked slots order

-- The numbers of the keys rise. The slot of each key holds the connection with its number, and the key says whether
-- that is unsettled. There are as many connections as keys, and at most 256. The unsettled ones are counted. There is
-- room for 256 connections and 256 keys.
pub record AreEntries (c : Inside) : Type 0 where
  pub rising : IsRising (key_numbers c.order.items)
  pub named : AreNamed c.slots c.order.items
  pub marked : AreMarked c.slots c.order.items
  pub unsettled : c.unsettled ≡ count_by (λ key. key.unsettled) c.order.items
  pub counted : slab_len c.slots ≡ length c.order.items
  pub few : length c.order.items ≤ CONNECTIONS_MAX
  pub room : CONNECTIONS_MAX ≤ c.slots.capacity
  pub room_for_keys : CONNECTIONS_MAX ≤ vec_capacity c.order
