-- The machine keeps the content of every history of accepted events.
use Rattle.std.proofs.Common.{◌≡◌, ℕ, ◌≤◌, Bool, true, false, eqb, List, [], ◌∷◌, length, refl, sym, ◌∙◌, ap, subst, arith, Option, Some, None, is_some, if◌then◌else◌, length-append}
use Rattle.std.specs.Prelude.{nat_lt}
use Rattle.std.proofs.lemmas.Bool.{cases_Bool, eqb-true, leb-true}
use Rattle.std.proofs.lemmas.Bool.Decides.{leb_tells}
use Rattle.nut_link.specs.Link.{LinkValue}
use Rattle.nut_monitor_spec.specs.Configuration.{Configuration}
use Rattle.nut_monitor_spec.specs.Event.{Event, Moment, Linked, LinkBytes, LinkLost, LinkTook, OutOfMemory, NoticeTaken}
use Rattle.nut_monitor_spec.specs.Trace.{Entry, linked, waits, trace, entry_of, came, query_put, notices, notices_taken, notices_waiting, notices_of, taken_notice}
use Rattle.nut_monitor_spec.specs.Content.{Watch, Content, watch, link_at, content_of}
use Rattle.nut_monitor_spec.specs.Acceptance.{IsAccepted, Accepts, bytes_refusal, lost_refusal, took_refusal, watch_at}
use Rattle.nut_monitor_spec.specs.machine.Machine.{KeepsContent, advance, settled, piece_heard, piece_out, bytes_heard, memory_out, link_lost}
use Rattle.nut_monitor_spec.proofs.Lists.{found_at}
use Rattle.nut_monitor_spec.proofs.Settled.{IsTidy, told_entry, entry_is, unsettled, settled-law}
use Rattle.nut_monitor_spec.proofs.Links.{made-law, made-apart, lost-law, lost-apart, heard-law, piece-apart, out-law, out-apart}
use Rattle.nut_monitor_spec.proofs.Moments.{moment-law}
use Rattle.nut_monitor_spec.proofs.Tidy.{tidy-same, tidy-apart, tidy-made, tidy-lost, tidy-heard, tidy-settled, still-settled}
use Rattle.nut_monitor_spec.proofs.Quiet.{notice-law, notice-still, notice-tidy, notice-waiting, took-law, took-still, took-tidy, took-waiting}

-- What holds at the end of every accepted event.
pub record Holds (configuration : Configuration) (past : List Entry) : Type 0 where
  pub tidy : (i : ℕ) → IsTidy configuration i past
  pub still : (i : ℕ) → query_put configuration past i ≡ None
  pub waiting : notices_taken past ≤ length (notices past)

holds-first : (configuration : Configuration) → Holds configuration []
holds-first configuration = record { tidy = λ i there. cc; still = λ i. refl; waiting = omega arith }

-- ---- what an accepted event tells

module _ (configuration : Configuration) (past : List Entry) (i : ℕ) where
  abbrev pub found : Option Watch
  found = watch_at i (content_of configuration past).watches

  link-is : (b : Bool) → linked i past ≡ b → is_some (let o : Option LinkValue = if b then Some (link_at configuration past i) else None in o) ≡ true → linked i past ≡ true
  link-is b is some = grind arith

  there-by : (w : Watch) → found ≡ Some w → is_some w.link ≡ true → linked i past ≡ true
  there-by w is some = link-is (linked i past) refl (ap (λ x. let y : Watch = x in is_some y.link) (sym (found_at i (watch configuration past) configuration.lines w is)) ∙ some)

  -- there is such a line, and its link is up
  abbrev pub IsThere : Type 0
  IsThere = (found ≡ Some (watch configuration past i)) × (linked i past ≡ true)

  is-there : (w : Watch) → found ≡ Some w → is_some w.link ≡ true → IsThere
  is-there w is some = (is ∙ ap (λ x. Some x) (found_at i (watch configuration past) configuration.lines w is), there-by w is some)

  lost-there : (o : Option Watch) → found ≡ o → lost_refusal o ≡ None → IsThere
  lost-there o is accepted = grind (arith, is-there)

  pub bytes-there : (s : Content) (piece : List ℕ) (o : Option Watch) → found ≡ o → bytes_refusal s piece o ≡ None → IsThere
  bytes-there s piece o is accepted = grind (arith, is-there)

  at-most : (m n : ℕ) → nat_lt m n ≡ false → n ≤ m
  at-most m n is = grind (arith, leb_tells)

  took-within : (n : ℕ) (o : Option Watch) → found ≡ o → took_refusal n o ≡ None → linked i past ≡ true → n ≤ length (waits configuration i past)
  took-within n o is accepted there = grind (arith, found_at, at-most)

-- ---- one event

-- what an accepted event keeps
pub record Keeps (configuration : Configuration) (past : List Entry) (event : Event) : Type 0 where
  pub law : content_of configuration (entry_of configuration past event ∷ past) ≡ advance (content_of configuration past) event
  pub holds : Holds configuration (entry_of configuration past event ∷ past)

-- an event at whose end the shutdown is judged and queries are put
keeps-settled : (configuration : Configuration) (past : List Entry) (event : Event) → taken_notice event (notices_taken past) ≡ notices_taken past →
    Holds configuration past → ((i : ℕ) → IsTidy configuration i (told_entry configuration past event ∷ past)) →
    settled (unsettled configuration past event) ≡ advance (content_of configuration past) event → Keeps configuration past event
keeps-settled configuration past event none holds tidy law = record {
  law = settled-law configuration past event tidy holds.waiting none ∙ law;
  holds = record {
    tidy = λ i. subst (λ e. IsTidy configuration i (e ∷ past)) (sym (entry_is configuration past event)) (tidy-settled configuration past event i (tidy i));
    still = λ i. ap (λ e. query_put configuration (e ∷ past) i) (entry_is configuration past event) ∙ still-settled configuration past event i (tidy i);
    waiting =
        subst (λ e. notices_taken (e ∷ past) ≤ length (notices (e ∷ past))) (sym (entry_is configuration past event))
        (omega (arith, none, holds.waiting, length-append (notices past) (notices_of configuration past (came configuration past event))));
  };
}

-- if link i is tidy, and every other link is, then all are
either-link : (configuration : Configuration) (i : ℕ) (past : List Entry) → IsTidy configuration i past → ((j : ℕ) → eqb i j ≡ false → IsTidy configuration j past) →
    (j : ℕ) → IsTidy configuration j past
either-link configuration i past own other j = grind (arith, cases_Bool, IsTidy, eqb-true)

keeps-moment : (configuration : Configuration) (past : List Entry) (t : ℕ) → Holds configuration past → Keeps configuration past (Moment t)
keeps-moment configuration past t holds =
    keeps-settled configuration past (Moment t) refl holds
    (λ i. tidy-same configuration i (told_entry configuration past (Moment t)) past refl refl refl refl (holds.tidy i))
    (ap settled (moment-law configuration past t))

keeps-made : (configuration : Configuration) (past : List Entry) (i : ℕ) → Holds configuration past → Keeps configuration past (Linked i)
keeps-made configuration past i holds =
    keeps-settled configuration past (Linked i) refl holds
    (either-link configuration i (told_entry configuration past (Linked i) ∷ past) (tidy-made configuration past i)
    (λ j differ. tidy-apart configuration i j (told_entry configuration past (Linked i)) past (made-apart configuration past i j differ) (holds.tidy j)))
    (ap settled (made-law configuration past i))

keeps-lost : (configuration : Configuration) (past : List Entry) (i : ℕ) → Holds configuration past → IsThere configuration past i → Keeps configuration past (LinkLost i)
keeps-lost configuration past i holds there =
    keeps-settled configuration past (LinkLost i) refl holds
    (either-link configuration i (told_entry configuration past (LinkLost i) ∷ past) (tidy-lost configuration i (told_entry configuration past (LinkLost i)) past refl)
    (λ j differ. tidy-apart configuration i j (told_entry configuration past (LinkLost i)) past (lost-apart configuration past i j differ) (holds.tidy j)))
    (ap settled (lost-law configuration past i ∙ ap (λ o. link_lost i o (content_of configuration past)) (sym there.0)))

-- the link of a watch whose link is up
pub link-there : (configuration : Configuration) (past : List Entry) (i : ℕ) → linked i past ≡ true → (watch configuration past i).link ≡ Some (link_at configuration past i)
link-there configuration past i there = ap (λ b. if b then Some (link_at configuration past i) else None) there

pub keeps-heard : (configuration : Configuration) (past : List Entry) (i : ℕ) (piece : List ℕ) → Holds configuration past → IsThere configuration past i → Keeps configuration past (LinkBytes i piece)
keeps-heard configuration past i piece holds there =
    let s = content_of configuration past in
    let w = watch configuration past i in
    let tidy = holds.tidy i there.1 in
    keeps-settled configuration past (LinkBytes i piece) refl holds
    (either-link configuration i (told_entry configuration past (LinkBytes i piece) ∷ past) (tidy-heard configuration past i piece there.1 tidy)
    (λ j differ. tidy-apart configuration i j (told_entry configuration past (LinkBytes i piece)) past (piece-apart configuration past i piece there.1 tidy j differ) (holds.tidy j)))
    (ap settled (heard-law configuration past i piece there.1 tidy
    ∙ ap (λ l. piece_heard i piece w l s) (sym (link-there configuration past i there.1))
    ∙ ap (λ o. bytes_heard i piece o s) (sym there.0)))

keeps-out : (configuration : Configuration) (past : List Entry) (i : ℕ) (piece : List ℕ) (k : ℕ) → Holds configuration past → IsThere configuration past i → Keeps configuration past (OutOfMemory i piece k)
keeps-out configuration past i piece k holds there =
    let s = content_of configuration past in
    let w = watch configuration past i in
    let tidy = holds.tidy i there.1 in
    keeps-settled configuration past (OutOfMemory i piece k) refl holds
    (either-link configuration i (told_entry configuration past (OutOfMemory i piece k) ∷ past)
    (tidy-lost configuration i (told_entry configuration past (OutOfMemory i piece k)) past refl)
    (λ j differ. tidy-apart configuration i j (told_entry configuration past (OutOfMemory i piece k)) past (out-apart configuration past i piece k tidy j differ) (holds.tidy j)))
    (ap settled (out-law configuration past i piece k tidy
    ∙ ap (λ l. piece_out i piece k w l s) (sym (link-there configuration past i there.1))
    ∙ ap (λ o. memory_out i piece k o s) (sym there.0)))

keeps-took : (configuration : Configuration) (past : List Entry) (i n : ℕ) → Holds configuration past → IsThere configuration past i →
    (linked i past ≡ true → n ≤ length (waits configuration i past)) → Keeps configuration past (LinkTook i n)
keeps-took configuration [] i n holds there within = let e : false ≡ true = there.1 in cc
keeps-took configuration (newest ∷ older) i n holds there within = record {
  law = took-law configuration newest older i n holds.still within;
  holds = record {
    tidy = λ j. took-tidy configuration newest older i n j holds.still within (holds.tidy j);
    still = took-still configuration newest older i n holds.still;
    waiting = took-waiting configuration newest older i n holds.still holds.waiting;
  };
}

keeps-notice : (configuration : Configuration) (past : List Entry) → Holds configuration past → nat_lt 0 (length (notices_waiting past)) ≡ true → Keeps configuration past NoticeTaken
keeps-notice configuration [] holds some = let e : nat_lt 0 0 ≡ true = some in cc
keeps-notice configuration (newest ∷ older) holds some = record {
  law = notice-law configuration newest older holds.still;
  holds = record {
    tidy = λ j. notice-tidy configuration newest older j holds.still (holds.tidy j);
    still = notice-still configuration newest older holds.still;
    waiting = notice-waiting configuration newest older holds.still (omega (arith, leb-true 1 (length (notices_waiting (newest ∷ older))) some));
  };
}

pub took-there : (configuration : Configuration) (past : List Entry) (i n : ℕ) (o : Option Watch) → found configuration past i ≡ o → took_refusal n o ≡ None → IsThere configuration past i
took-there configuration past i n o is accepted = grind (arith, is-there)

keeps : (configuration : Configuration) (past : List Entry) (event : Event) → Holds configuration past → Accepts (content_of configuration past) event → Keeps configuration past event
keeps configuration past (Moment t) holds accepted = keeps-moment configuration past t holds
keeps configuration past (Linked i) holds accepted = keeps-made configuration past i holds
keeps configuration past (LinkBytes i piece) holds accepted =
    keeps-heard configuration past i piece holds (bytes-there configuration past i (content_of configuration past) piece (found configuration past i) refl accepted.0)
keeps configuration past (LinkLost i) holds accepted = keeps-lost configuration past i holds (lost-there configuration past i (found configuration past i) refl accepted.0)
keeps configuration past (LinkTook i n) holds accepted =
    keeps-took configuration past i n holds (took-there configuration past i n (found configuration past i) refl accepted.0)
    (took-within configuration past i n (found configuration past i) refl accepted.0)
keeps configuration past (OutOfMemory i piece k) holds accepted =
    keeps-out configuration past i piece k holds (bytes-there configuration past i (content_of configuration past) piece (found configuration past i) refl accepted.0)
keeps configuration past NoticeTaken holds accepted = keeps-notice configuration past holds accepted.1

-- ---- every history

pub all-hold : (configuration : Configuration) (events : List Event) → IsAccepted configuration events → Holds configuration (trace configuration events)
all-hold configuration [] accepted = holds-first configuration
all-hold configuration (event ∷ events) accepted = (keeps configuration (trace configuration events) event (all-hold configuration events accepted.0) accepted.1).holds

pub keeps-content : KeepsContent
keeps-content configuration events event accepted = (keeps configuration (trace configuration events) event (all-hold configuration events accepted.0) accepted.1).law
