-- What each part of the loop needs, and what it keeps.
use Rattle.std.specs.Prelude.{◌≡◌, ◌≢◌, ◌+◌, ◌-◌, ◌^◌, ◌<◌, ℕ, Bool, true, List, [], ◌∷◌, Option, None, Some, Result, Ok, Err, OnOk, OnErr, is_ok, if◌then◌else◌}
use Rattle.nut_server_spec.specs.declared.Refused.{Refused}
use Rattle.nut_server_spec.specs.Configuration.{Configuration}
use Rattle.nut_server_spec.specs.Content.{Content}
use Rattle.nut_server_loop.specs.Record.{Entry, tells_next, late_in, NothingIsWithheld, waits_of, leaves_at}
use Rattle.nut_server_loop.specs.Served.{Served, entries_of, ended_by_refusal}
use Rattle.nut_server_loop.specs.declared.types.Next.{Next}
use Rattle.nut_server_loop.specs.declared.types.Peer.{Peer}

-- The configuration of the server at the start, and the world at the start.
pub record Since (World : Type 0) : Type 0 where
  pub first : Configuration
  pub start : World

-- `Served`, and whoever is late is so by the record.
pub record Serving (first : Configuration) (log : Option (List Entry)) (late : Peer → Bool) (s : Content) (owed : List Peer) : Type 0 where
  pub served : Served first log s owed
  pub late_is : (p : Peer) → late p ≡ true → late_in (entries_of served.steps) p ≡ true

-- `Served`, and by the record all that waits was offered: the next arrival may be asked for.
pub record Offered (first : Configuration) (log : Option (List Entry)) (s : Content) : Type 0 where
  pub served : Served first log s []
  pub offered : NothingIsWithheld (late_in (entries_of served.steps)) s

-- `Offered` held before the world gave this, with these bytes in the piece.
abbrev pub OfferedBefore : Configuration → Option (List Entry) → Content → Next → List ℕ → Type 0
OfferedBefore first log s n piece = (before : Option (List Entry)) × Offered first before s × (log ≡ tells_next n piece before)

-- Before a part of the loop: the server's content follows from the world's record, `owed` has to be closed, and one more
-- fault can be counted.
pub record Ready {W : Type 0} (faults : W → ℕ) (log : W → Option (List Entry)) (late : W → Peer → Bool) (Reached : W → W → Type 0)
    (since : Since W) (world : W) (server : Content) (owed : List Peer) : Type 0 where
  pub few : faults world < 2 ^ 64 - 1
  pub served : Serving since.first (log world) (late world) server owed
  pub reached : Reached since.start world

-- After a part of the loop, which began with the world `before`: the server's content follows from the world's record. If the
-- part returned no error, nothing has to be closed, and no call of the world returned a fault; else one did.
pub record Goes {W R E : Type 0} (faults : W → ℕ) (log : W → Option (List Entry)) (late : W → Peer → Bool) (Reached : W → W → Type 0)
    (since : Since W) (before : W) (result : Result R E) (world : W) (server : Content) : Type 0 where
  pub ok : OnOk result (Serving since.first (log world) (late world) server [])
  pub err : OnErr result ((owed : List Peer) × Served since.first (log world) server owed)
  pub counted : faults world ≡ (if is_ok result then faults before else faults before + 1)
  pub reached : Reached since.start world

-- What waits for a peer other than p, and whether that leaves, is as before. Who was late is late.
pub record OnlyAt (p : Peer) (late late' : Peer → Bool) (old new : Content) : Type 0 where
  pub waits : (q : Peer) → q ≢ p → waits_of q new ≡ waits_of q old
  pub leaves : (q : Peer) → q ≢ p → leaves_at q new ≡ leaves_at q old
  pub stays_late : (q : Peer) → late q ≡ true → late' q ≡ true

-- the peers in an option
abbrev pub listed : Option Peer → List Peer
listed None = []
listed (Some p) = p ∷ []

-- what a lack of memory ended, if the answer reports one
abbrev pub ended_by_lack : {U : Type 0} → Result U Refused → List Peer
ended_by_lack (Ok _) = []
ended_by_lack (Err r) = ended_by_refusal r
