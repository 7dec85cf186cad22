-- A reload leads to the same content if what it ends is ended before it, one by one.
use Rattle.std.proofs.Common.{◌≡◌, ℕ, zero, suc, ◌<◌, ◌&&◌, Bool, true, false, not, eqb, List, [], ◌∷◌, ◌++◌, filter, map, length, ◌⊎◌, refl, sym, ◌∙◌, ap, ap₂, subst, arith, inl, inr, Option, None}
use Rattle.std.specs.List.{AllByRecursion}
use Rattle.std.proofs.lemmas.Bool.{and_parts, cases_Bool, eq-eqb, eqb-true, ne_eqb, not-true}
use Rattle.std.proofs.lemmas.List.{map-id}
use Rattle.nut_proto.specs.declared.tracking.TrackingStatus.{TrackingStatus}
use Rattle.nut_server_spec.specs.Acceptance.{IsAccepted, close_refusal, down_refusal, is_connected, session_of, supply_of}
use Rattle.nut_server_spec.specs.Configuration.{Configuration}
use Rattle.nut_server_spec.specs.Content.{Session, Supply, content, past, session, supply, down, numbering_of}
use Rattle.nut_server_spec.specs.Event.{Event, Close, DriverDown, Reload}
use Rattle.nut_server_spec.specs.Numbering.{Fate, Numbering, below, fate_of, is_taken, is_to_cleared}
use Rattle.nut_server_spec.specs.Reloading.{connections_ended, drivers_ended, is_kept}
use Rattle.nut_server_spec.specs.Trace.{login, numbering, open_numbers}
use Rattle.nut_server_spec.specs.Tracking.{Tracked, abandoned, all_abandoned}
use Rattle.nut_server_spec.specs.laws.Laws.{IsBelow, IsRising}
use Rattle.nut_server_spec.specs.laws.Reloads.{ReloadIsDownsThenClosesThenItself, with_closes, with_downs}
use Rattle.nut_server_spec.specs.machine.Machine.{fated}
use Rattle.nut_server_spec.proofs.Alls.{all_filter, all_weaker}
use Rattle.nut_server_spec.proofs.Numbering.{AreBelow, below_are}
use Rattle.nut_server_spec.proofs.Numbers.{IsBelow-push, IsRising-filter, open_numbers_rise}
use Rattle.nut_server_spec.proofs.Others.{other-drivers-stay, others-stay}
use Rattle.nut_server_spec.proofs.Places.{map-twice}
use Rattle.nut_server_spec.proofs.Reloads.{map-filter, supply-reload}
use Rattle.nut_server_spec.proofs.Sessions.{session_of-map}
use Rattle.nut_server_spec.proofs.Renumbered.{are_among}

-- ---- a driver is disconnected before a reload that doesn't keep its UPS

abandoned_twice : (s : TrackingStatus) → abandoned (abandoned s) ≡ abandoned s
abandoned_twice status = grind arith

all_abandoned_twice : (ts : List Tracked) → all_abandoned (all_abandoned ts) ≡ all_abandoned ts
all_abandoned_twice [] = refl
all_abandoned_twice (t ∷ ts) = ap₂ (λ s rest. record { number = t.number; status = s } ∷ rest) (abandoned_twice t.status) (all_abandoned_twice ts)

fated_down : (fate : Fate) (d : Supply) → is_kept fate ≡ false → fated fate (down d) ≡ fated fate d
fated_down fate d left = grind (arith, all_abandoned_twice)

down_self : (first : Configuration) (h : List Event) (u : ℕ) → supply first (DriverDown u ∷ h) u ≡ down (supply first h u)
down_self first h u = rw (eq-eqb u u refl) refl

down_other : (first : Configuration) (h : List Event) (u v : ℕ) → eqb u v ≡ false → supply first (DriverDown u ∷ h) v ≡ supply first h v
down_other first h u v differ = rw differ refl

-- the UPS v after a reload, if the driver of u was disconnected before
supply_down : (first : Configuration) (h : List Event) (k : Configuration) (u v : ℕ) → is_kept (fate_of k.upses (numbering first (past first h)) u) ≡ false
    → supply first (Reload k ∷ DriverDown u ∷ h) v ≡ supply first (Reload k ∷ h) v
supply_down first h k u v left = supply-reload first (DriverDown u ∷ h) k v ∙ same (cases_Bool (eqb u v)) ∙ sym (supply-reload first h k v) where
  fate : ℕ → Fate
  fate w = fate_of k.upses (numbering first (past first h)) w

  same : ((eqb u v ≡ true) ⊎ (eqb u v ≡ false)) → fated (fate v) (supply first (DriverDown u ∷ h) v) ≡ fated (fate v) (supply first h v)
  same (inl e) =
      let this : u ≡ v = eqb-true u v e in
      subst (λ w. fated (fate w) (supply first (DriverDown u ∷ h) w) ≡ fated (fate w) (supply first h w)) this
      (ap (fated (fate u)) (down_self first h u) ∙ fated_down (fate u) (supply first h u) left)
  same (inr e) = ap (fated (fate v)) (down_other first h u v e)

down_first : (first : Configuration) (h : List Event) (k : Configuration) (u : ℕ) → is_kept (fate_of k.upses (numbering first (past first h)) u) ≡ false
    → content first (Reload k ∷ DriverDown u ∷ h) ≡ content first (Reload k ∷ h)
down_first first h k u left = grind (arith, supply_down)

-- the numbers of UPSes that this reload doesn't keep
abbrev AreLeft : Configuration → Numbering → List ℕ → Type 0
AreLeft k now us = AllByRecursion (λ u. is_kept (fate_of k.upses now u) ≡ false) us

downs_first : (first : Configuration) (us : List ℕ) (h : List Event) (k : Configuration) → AreLeft k (numbering first (past first h)) us
    → content first (Reload k ∷ with_downs us h) ≡ content first (Reload k ∷ h)
downs_first first [] h k left = refl
downs_first first (u ∷ us) h k left = downs_first first us (DriverDown u ∷ h) k left.1 ∙ down_first first h k u left.0

-- ---- a connection is closed before a reload that closes it

filter_without : (p : ℕ → Bool) (c : ℕ) (ns : List ℕ) → p c ≡ false → filter p (filter (λ d. not (eqb d c)) ns) ≡ filter p ns
filter_without p c [] fails = refl
filter_without p c (n ∷ ns) fails =
    elim (cases_Bool (eqb n c)) [
      | inl e ↦ let out : p n ≡ false = ap p (eqb-true n c e) ∙ fails in rw (e, out) (filter_without p c ns fails)
      | inr e ↦ elim (cases_Bool (p n)) [
        | inl f ↦ rw (e, f) (ap (λ ms. n ∷ ms) (filter_without p c ns fails))
        | inr f ↦ rw (e, f) (filter_without p c ns fails)
      ]
    ]

close_first : (first : Configuration) (h : List Event) (k : Configuration) (c : ℕ) → is_to_cleared (fate_of k.upses (numbering first (past first h))) (login first c (past first h)) ≡ true
    → content first (Reload k ∷ Close c ∷ h) ≡ content first (Reload k ∷ h)
close_first first h k c cleared =
    let t = past first h in
    ap (λ ns. record (content first (Reload k ∷ h)) { sessions = map (session first (Reload k ∷ h)) ns })
    (filter_without (λ d. not (is_to_cleared (fate_of k.upses (numbering first t)) (login first d t))) c (open_numbers t) (ap not cleared))

-- the connections that this reload closes
abbrev AreClosed : Configuration → List Event → Configuration → List ℕ → Type 0
AreClosed first h k cs = AllByRecursion (λ c. is_to_cleared (fate_of k.upses (numbering first (past first h))) (login first c (past first h)) ≡ true) cs

closes_first : (first : Configuration) (cs : List ℕ) (h : List Event) (k : Configuration) → AreClosed first h k cs → content first (Reload k ∷ with_closes cs h) ≡ content first (Reload k ∷ h)
closes_first first [] h k closed = refl
closes_first first (c ∷ cs) h k closed = closes_first first cs (Close c ∷ h) k closed.1 ∙ close_first first h k c closed.0

closed_downs : (first : Configuration) (us cs : List ℕ) (h : List Event) (k : Configuration) → AreClosed first h k cs → AreClosed first (with_downs us h) k cs
closed_downs first [] cs h k closed = closed
closed_downs first (u ∷ us) cs h k closed = closed_downs first us cs (DriverDown u ∷ h) k closed

-- ---- what is ended

-- the connections that a reload ends, by the past
ended_are : (first : Configuration) (h : List Event) (k : Configuration)
    → connections_ended k (content first h) ≡ filter (λ c. is_to_cleared (fate_of k.upses (numbering first (past first h))) (login first c (past first h))) (open_numbers (past first h))
ended_are first h k =
    let t = past first h in
    let p : ℕ → Bool = λ c. is_to_cleared (fate_of k.upses (numbering first t)) (login first c t) in
    ap (λ ks. map (λ j. j.number) ks) (sym (map-filter (session first h) p (λ j. is_to_cleared (fate_of k.upses (numbering first t)) j.login) (open_numbers t) (λ c. refl)))
    ∙ map-twice (session first h) (λ j. j.number) (filter p (open_numbers t))
    ∙ map-id (filter p (open_numbers t))

all_pass : (p : ℕ → Bool) (ns : List ℕ) → AllByRecursion (λ n. p n ≡ true) (filter p ns)
all_pass p [] = tt
all_pass p (n ∷ ns) = elim (cases_Bool (p n)) [ inl e ↦ rw e (e, all_pass p ns) | inr e ↦ rw e (all_pass p ns) ]

drivers_pass : (first : Configuration) (h : List Event) (k : Configuration)
    → AllByRecursion (λ u. (is_connected (supply_of u (content first h).supplies) && not (is_kept (fate_of k.upses (numbering first (past first h)) u))) ≡ true) (drivers_ended k (content first h))
drivers_pass first h k = grind (arith, all_pass)

drivers_left : (first : Configuration) (h : List Event) (k : Configuration) → AreLeft k (numbering first (past first h)) (drivers_ended k (content first h))
drivers_left first h k =
    let s = content first h in
    let kept : ℕ → Bool = λ u. is_kept (fate_of k.upses (numbering_of s) u) in
    all_weaker (λ u. (is_connected (supply_of u s.supplies) && not (kept u)) ≡ true) (λ u. kept u ≡ false) (drivers_ended k s)
    (λ u passes. not-true (kept u) (and_parts (is_connected (supply_of u s.supplies)) (not (kept u)) passes).1) (drivers_pass first h k)

closed_are : (first : Configuration) (h : List Event) (k : Configuration) → AreClosed first h k (connections_ended k (content first h))
closed_are first h k =
    let t = past first h in
    let p : ℕ → Bool = λ c. is_to_cleared (fate_of k.upses (numbering first t)) (login first c t) in
    subst (λ cs. AllByRecursion (λ c. p c ≡ true) cs) (sym (ended_are first h k)) (all_pass p (open_numbers t))

-- ---- none of these events is refused

-- the drivers of these can be disconnected
abbrev AreUp : Configuration → List Event → List ℕ → Type 0
AreUp first h us = AllByRecursion (λ u. down_refusal (supply_of u (content first h).supplies) ≡ None) us

above : (n : ℕ) (P : ℕ → Type 0) (Q : ℕ → Type 0) (ns : List ℕ) → IsBelow n ns → ((m : ℕ) → n < m → P m → Q m) → AllByRecursion P ns → AllByRecursion Q ns
above n P Q [] below weaker all = tt
above n P Q (m ∷ ns) below weaker all = (weaker m below.0 all.0, above n P Q ns below.1 weaker all.1)

downs_accepted : (first : Configuration) (us : List ℕ) (h : List Event) → IsAccepted first h → IsRising us → AreUp first h us → IsAccepted first (with_downs us h)
downs_accepted first [] h accepted rising up = accepted
downs_accepted first (u ∷ us) h accepted rising up =
    let now : IsAccepted first (DriverDown u ∷ h) = (accepted, up.0) in
    downs_accepted first us (DriverDown u ∷ h) now rising.1
    (above u (λ v. down_refusal (supply_of v (content first h).supplies) ≡ None) (λ v. down_refusal (supply_of v (content first (DriverDown u ∷ h)).supplies) ≡ None) us rising.0
    (λ v less is. ap down_refusal (other-drivers-stay first h (DriverDown u) v u now refl (ne_eqb u v (λ e. omega (arith, e, less)))) ∙ is) up.1)

-- these connections are open
abbrev AreOpen : Configuration → List Event → List ℕ → Type 0
AreOpen first h cs = AllByRecursion (λ c. close_refusal (session_of c (content first h).sessions) ≡ None) cs

closes_accepted : (first : Configuration) (cs : List ℕ) (h : List Event) → IsAccepted first h → IsRising cs → AreOpen first h cs → IsAccepted first (with_closes cs h)
closes_accepted first [] h accepted rising are = accepted
closes_accepted first (c ∷ cs) h accepted rising are =
    let now : IsAccepted first (Close c ∷ h) = (accepted, are.0) in
    closes_accepted first cs (Close c ∷ h) now rising.1
    (above c (λ d. close_refusal (session_of d (content first h).sessions) ≡ None) (λ d. close_refusal (session_of d (content first (Close c ∷ h)).sessions) ≡ None) cs rising.0
    (λ d less is. ap close_refusal (others-stay first h (Close c) d now (ne_eqb c d (λ e. omega (arith, e, less))) refl) ∙ is) are.1)

open_downs : (first : Configuration) (us cs : List ℕ) (h : List Event) → AreOpen first h cs → AreOpen first (with_downs us h) cs
open_downs first [] cs h are = are
open_downs first (u ∷ us) cs h are = open_downs first us cs (DriverDown u ∷ h) are

rising_push : (m : ℕ) (ns : List ℕ) → AreBelow m ns → IsRising ns → IsRising (ns ++ m ∷ [])
rising_push m [] all rising = (tt, tt)
rising_push m (n ∷ ns) all rising = (IsBelow-push n m ns rising.0 all.0, rising_push m ns all.1 rising.1)

below_rising : (n : ℕ) → IsRising (below n)
below_rising zero = tt
below_rising (suc n) = rising_push n (below n) (below_are n) (below_rising n)

connected_up : (o : Option Supply) → is_connected o ≡ true → down_refusal o ≡ None
connected_up o is = grind arith

drivers_up : (first : Configuration) (h : List Event) (k : Configuration) → AreUp first h (drivers_ended k (content first h))
drivers_up first h k =
    let s = content first h in
    let kept : ℕ → Bool = λ u. is_kept (fate_of k.upses (numbering_of s) u) in
    all_weaker (λ u. (is_connected (supply_of u s.supplies) && not (kept u)) ≡ true) (λ u. down_refusal (supply_of u s.supplies) ≡ None) (drivers_ended k s)
    (λ u passes. connected_up (supply_of u s.supplies) (and_parts (is_connected (supply_of u s.supplies)) (not (kept u)) passes).0) (drivers_pass first h k)

-- Whoever is among the open connections is open.
open_there : (f : ℕ → Session) (c : ℕ) (ns : List ℕ) → ((n : ℕ) → (f n).number ≡ n) → is_taken c ns ≡ true → close_refusal (session_of c (map f ns)) ≡ None
open_there f c ns numbered there = ap close_refusal (session_of-map f c ns numbered) ∙ rw there refl

connections_open : (first : Configuration) (h : List Event) (k : Configuration) → AreOpen first h (connections_ended k (content first h))
connections_open first h k =
    let t = past first h in
    let p : ℕ → Bool = λ c. is_to_cleared (fate_of k.upses (numbering first t)) (login first c t) in
    let P : ℕ → Type 0 = λ c. close_refusal (session_of c (content first h).sessions) ≡ None in
    subst (λ cs. AllByRecursion P cs) (sym (ended_are first h k))
    (all_filter P p (open_numbers t)
    (all_weaker (λ c. is_taken c (open_numbers t) ≡ true) P (open_numbers t) (λ c. open_there (session first h) c (open_numbers t) (λ n. refl)) (are_among (open_numbers t))))

connections_rise : (first : Configuration) (h : List Event) (k : Configuration) → IsRising (connections_ended k (content first h))
connections_rise first h k =
    let t = past first h in
    subst (λ cs. IsRising cs) (sym (ended_are first h k))
    (IsRising-filter (λ c. is_to_cleared (fate_of k.upses (numbering first t)) (login first c t)) (open_numbers t) (open_numbers_rise t))

-- ---- the law

pub reload-ends-first : ReloadIsDownsThenClosesThenItself
reload-ends-first = record {
  same_content = λ first h k.
      let s = content first h in
      let us = drivers_ended k s in
      let cs = connections_ended k s in
      sym (closes_first first cs (with_downs us h) k (closed_downs first us cs h k (closed_are first h k)) ∙ downs_first first us h k (drivers_left first h k));
  accepted = λ first h k accepted.
      let s = content first h in
      let us = drivers_ended k s in
      let cs = connections_ended k s in
      let downs = downs_accepted first us h accepted (IsRising-filter (λ u. is_connected (supply_of u s.supplies) && not (is_kept (fate_of k.upses (numbering_of s) u))) (below (length s.supplies)) (below_rising (length s.supplies))) (drivers_up first h k) in
      (closes_accepted first cs (with_downs us h) downs (connections_rise first h k) (open_downs first us cs h (connections_open first h k)), refl);
}
