-- What a link that is up keeps: its connection, what the server heard on it, and what each end put into its pipe.
use Rattle.std.proofs.Common.{◌≡◌, ◌⊎◌, ℕ, suc, ◌≤◌, ◌==◌, true, false, inl, inr, List, ◌∷◌, refl, sym, ◌∙◌, ap, subst, arith}
use Rattle.std.proofs.lemmas.Bool.{cases_Bool}
use Rattle.nut_words.specs.Quoting.{Begins}
use Rattle.nut_server_spec.specs.Event as arrivals
use Rattle.nut_server_spec.specs.Acceptance as server_tests
use Rattle.nut_server_spec.specs.Content as server
use Rattle.nut_monitor_spec.specs.Acceptance as monitor_tests
use Rattle.nut_monitor_spec.specs.Event.{Event, Linked}
use Rattle.nut_monitor_spec.specs.Trace.{taken_after}
use Rattle.nut_fleet.specs.Schedule.{Step, IsFront}
use Rattle.nut_fleet.specs.World.{Setup, World, Deed, is_linked, is_open, deed, after, for_monitor, known, served, world}
use Rattle.nut_fleet.specs.Exchange.{Exchange, exchanges}
use Rattle.nut_fleet.specs.Fleet.{Exists, IsSetup}
use Rattle.nut_fleet.proofs.Entries.{is_made}
use Rattle.nut_fleet.proofs.Exchanges.{silent-exchanges}
use Rattle.nut_fleet.proofs.Fronts.{begins-self, begins-more, begins-then, front-self, from-front}
use Rattle.nut_fleet.proofs.Server.{sent-grows}
use Rattle.nut_fleet.proofs.Sound.{IsLawful}
use Rattle.nut_fleet.proofs.Deeds.{each-deed}
use Rattle.nut_fleet.proofs.Others.{is_none-true, some-there}
use Rattle.nut_fleet.proofs.Steps.{given-anew, unlinked, zero-closed, zero-input}
use Rattle.nut_fleet.proofs.Worlds.{sound}

-- ---- its connection

pub open-some : (setup : Setup) (w : World) (m i : ℕ) → is_open setup w m i ≡ true → w.connection m i ≡ 0 → ⊥
open-some setup w m i up none =
    some-there (server_tests.session_of (w.connection m i) (served setup w).sessions) up
    (ap (λ c. server_tests.session_of c (served setup w).sessions) none ∙ zero-closed setup w.server)

pub said-some : (setup : Setup) (w : World) (m i : ℕ) (P : Exchange → Type 0) → server_tests.IsAccepted setup.server w.server →
    Exists P (exchanges (w.connection m i) (server.past setup.server w.server)) → w.connection m i ≡ 0 → ⊥
said-some setup w m i P accepted said none =
    subst (Exists P) (silent-exchanges setup.server w.server 0 (zero-input setup w.server accepted))
    (subst (λ c. Exists P (exchanges c (server.past setup.server w.server))) none said)

module _ (setup : Setup) (w : World) (m i : ℕ) (some : w.connection m i ≡ 0 → ⊥) (up : is_linked setup w m i ≡ true) where
  abbrev Same : World → Type 0
  Same v = v.connection m i ≡ w.connection m i

  -- another link has a new connection
  elsewhere : (k j new : ℕ) → ((k ≡ m) × (j ≡ i) → ⊥) → for_monitor k (for_monitor j new (w.connection k)) w.connection m i ≡ w.connection m i
  elsewhere k j new other = elim (given-anew w.connection k j new m i) [
    | inl fresh ↦ absurd (other (sym fresh.0, sym fresh.1))
    | inr before ↦ before.1
  ]

  -- only a link that is down is made
  other-link : (k j : ℕ) → is_linked setup w k j ≡ false → (k ≡ m) × (j ≡ i) → ⊥
  other-link k j cut both =
      let bad : true ≡ false = sym up ∙ (ap (λ x. is_linked setup w x i) (sym both.0) ∙ (ap (is_linked setup w k) (sym both.1) ∙ cut)) in cc

  pub connection-same : (step : Step) → Same (after setup w (deed setup w step))
  connection-same =
      each-deed setup w Same refl (λ event is. refl) (λ k event. refl) (λ k j cut. elsewhere k j (suc (served setup w).opened) (other-link k j cut))
      (λ k j there ok. elsewhere k j 0 (other-link k j (unlinked setup w k j there (is_none-true (monitor_tests.refusal (known setup w k) (Linked j)) ok))))
      (λ k j c there none is.
      elsewhere k j c (λ both. some (ap (λ x. w.connection x i) (sym both.0) ∙ (ap (w.connection k) (sym both.1) ∙ none))))

-- From one time, at which the server has accepted the link, to a later one, while the link is up.
pub connection-kept : (setup : Setup) (m i : ℕ) (early late : List Step) → IsFront early late → ((world setup early).connection m i ≡ 0 → ⊥) →
    ((e : List Step) → IsFront early e → IsFront e late → is_linked setup (world setup e) m i ≡ true) →
    (world setup late).connection m i ≡ (world setup early).connection m i
connection-kept setup m i early late front some =
    from-front (λ s. ((e : List Step) → IsFront early e → IsFront e s → is_linked setup (world setup e) m i ≡ true) → (world setup s).connection m i ≡ (world setup early).connection m i)
    early late front (λ up. refl)
    (λ step s from before up.
    let kept = before (λ e since within. up e since (inr within)) in
    connection-same setup (world setup s) m i (λ none. some (sym kept ∙ none)) (up s from (inr (front-self s))) step ∙ kept)

-- ---- what its monitor put into the pipe

pub taken-grows : (i : ℕ) (event : Event) (before : ℕ) → is_made i event ≡ false → before ≤ taken_after i event before
taken-grows i event before made = grind (arith, made, cases_Bool)

-- ---- what a server heard on a connection, and what it put into its pipe

input-grows : (c : ℕ) (event : arrivals.Event) (h : List arrivals.Event) → Begins (arrivals.input c h) (arrivals.input c (event ∷ h))
input-grows c (arrivals.Bytes d piece) h = elim (cases_Bool (d == c)) [
  | inl t ↦ rw t (begins-more (arrivals.input c h) (arrivals.input c h) piece (begins-self (arrivals.input c h)))
  | inr f ↦ rw f (begins-self (arrivals.input c h))
]
input-grows c event h = begins-self (arrivals.input c h)

-- the server's events stay, or there is one more
pub server-moves : (setup : Setup) (w : World) (d : Deed) →
    ((after setup w d).server ≡ w.server) ⊎ ((event : arrivals.Event) × ((after setup w d).server ≡ event ∷ w.server))
server-moves setup w d = grind arith

-- What holds of the server's events at one time, and is kept by each event, holds at a later time.
pub server-climb : (setup : Setup) (early late : List Step) (P : List arrivals.Event → Type 0) → IsFront early late → P (world setup early).server →
    ((e : List Step) (event : arrivals.Event) → IsFront early e → P (world setup e).server → P (event ∷ (world setup e).server)) → P (world setup late).server
server-climb setup early late P front base on =
    from-front (λ s. P (world setup s).server) early late front base
    (λ step s from before. elim (server-moves setup (world setup s) (deed setup (world setup s) step)) [
      | inl same ↦ subst P (sym same) before
      | inr told ↦ subst P (sym told.1) (on s told.0 from before)
    ])

pub input-begins : (setup : Setup) (c : ℕ) (early late : List Step) → IsFront early late →
    Begins (arrivals.input c (world setup early).server) (arrivals.input c (world setup late).server)
input-begins setup c early late front =
    server-climb setup early late (λ h. Begins (arrivals.input c (world setup early).server) (arrivals.input c h)) front
    (begins-self (arrivals.input c (world setup early).server))
    (λ e event since before. begins-then _ _ _ before (input-grows c event (world setup e).server))

pub sent-begins : (setup : Setup) → IsLawful setup.server → IsSetup setup → (c : ℕ) (early late : List Step) → IsFront early late →
    Begins (server.sent setup.server c (world setup early).server) (server.sent setup.server c (world setup late).server)
sent-begins setup law fine c early late front =
    server-climb setup early late (λ h. Begins (server.sent setup.server c (world setup early).server) (server.sent setup.server c h)) front
    (begins-self (server.sent setup.server c (world setup early).server))
    (λ e event since before. begins-then _ _ _ before (sent-grows setup.server c event (world setup e).server (sound setup law fine e).accepted))
