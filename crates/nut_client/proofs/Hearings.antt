-- How a query is heard to its answer.
use Rattle.std.proofs.Common.{◌≡◌, ℕ, ◌+◌, ◌<◌, ◌≤◌, arith, min, nat_le, Bool, true, false, is_some, ◌++◌, List, [], length, drop, Option, Some, None, Result, Ok, Err, refl, sym, ap, ap₂, subst, ◌∙◌, ◌⊎◌, inl, inr, if◌then◌else◌}
use Rattle.std.proofs.Math.Seq.{drop-append_seam}
use Rattle.std.proofs.lemmas.Bool.{leb-false, leb-true}
use Rattle.std.specs.Option.{option_map_or}
use Rattle.std.proofs.lemmas.List.{append_assoc, append-nil, length-append}
use Rattle.std.specs.Io.KnownBytes.{append_known, prepend_known}
use Rattle.nut_words.specs.Lines.{Text, TooLong, joined, rest, rest_after, unfinished}
use Rattle.nut_words.specs.declared.limits.TheConstants.{LINE_MAX, PIECE_MAX}
use Rattle.nut_proto.specs.declared.request.Request.{Request}
use Rattle.nut_proto.specs.Requests.{request_line}
use Rattle.nut_link.specs.Exchange.{Exchange, Stage}
use Rattle.nut_link.specs.Exchange as stages
use Rattle.nut_client.specs.declared.failure.ToolFailure.{ToolFailure}
use Rattle.nut_client.specs.declared.failure.ToolFailure.TheVariants as failures
use Rattle.nut_link.specs.declared.fault.LinkFault.{LinkFault}
use Rattle.nut_link.specs.declared.fault.LinkFault.TheVariants as faults
use Rattle.nut_link.specs.declared.fault.LinkFault.TheVariants.{Memory}
use Rattle.nut_link.specs.declared.outcome.Outcome.{Outcome}
use Rattle.nut_link.specs.Asking.{is_writable}
use Rattle.nut_client.specs.inside.Between.{Goes, IsAt, Point}
use Rattle.nut_client.specs.inside.Conversation.{Asking, Awaits, HasLength, Hears, HearsPart, IsWaiting, Listens, Sends, Spoils, link_sent}
use Rattle.nut_link.specs.Hearing.{Feeds}
use Rattle.nut_link.specs.Link.{LinkValue, answer_by, fed, outcome_in, outcome_of, stage_without, taken_out, with_exchange}
use Rattle.nut_words.specs.Hearing.{IsRest}
use Rattle.nut_client.specs.Script.{Script, Asks}
use Rattle.nut_client.specs.Tool.{Ends, Failed, IsReadInTime, WasWrittenBy, begin, breaks_off, ending, failure_of, is_over, run_of, sent}
use Rattle.nut_client.specs.inside.Unread.{IsEnded, IsUnbroken, IsWhole, steps_left}
use Rattle.nut_words.specs.Quoting.{Begins}
use Rattle.nut_words.proofs.LineLemmas.{rest_of_line}
use Rattle.nut_words.proofs.StreamGrowth.{rest-append}
use Rattle.nut_client.proofs.Runs.{append_twice, begun, comes, fails, grows, prepend_twice, rest_waits, still_waits, too_long, waiting_run}

none_at : (o : Option LinkFault) → Ok tt ≡ answer_by o → o ≡ None
none_at None is = refl
none_at (Some fault) is = absurd (cc)

-- The link took the part.
went : (v v1 : LinkValue) (p : List ℕ) (done : ℕ) (result : Result (Unit {0}) LinkFault) → Feeds v p done result v1 → result ≡ Ok tt → (v1 ≡ fed p v) × (v1.exchange.fault ≡ None)
went v v1 p done result feeds ok =
    let going = none_at v1.exchange.fault (sym ok ∙ feeds.answered) in
    elim feeds.stands [
      | inl said ↦ (said.0, going)
      | inr out ↦ let never : None ≡ Some Memory = sym going ∙ ap (λ e. e.fault) out.0.stands.0 in absurd (cc)
    ]

unanswered : (stage : Stage) → outcome_in stage ≡ None → stage_without stage ≡ stage
unanswered (stages.Answered outcome) none = absurd (cc)
unanswered stage none = refl

pub is_part : (is_ended : Bool) (p : List ℕ) → IsEnded is_ended p → IsUnbroken p ⊎ IsWhole p
is_part true p whole = inr whole
is_part false p unbroken = inl unbroken

length_by : (text p : List ℕ) (n n' most : ℕ) (b : Bool) → nat_le (length (text ++ p)) LINE_MAX ≡ b → length text ≡ n → n' ≡ min (n + length p) most → LINE_MAX < most → n' ≤ LINE_MAX
    → HasLength (if b then Text (text ++ p) else TooLong) n'
length_by text p n n' most true fits is count room few = (text ++ p, refl, omega (arith, length-append text p, is, count, room, few))
length_by text p n n' most false long is count room few =
    let many : LINE_MAX < length (text ++ p) = leb-false (length (text ++ p)) LINE_MAX long in
    absurd (omega (arith, many, length-append text p, is, count, room, few))

-- The part doesn't make the line too long.
length_on : (v : LinkValue) (p : List ℕ) (is_ended : Bool) (n n' most : ℕ) → IsRest v.rest → HasLength v.rest n → IsEnded is_ended p → (is_ended ≡ true → n' ≡ 0) → (is_ended ≡ false → n' ≡ min (n + length p) most)
    → LINE_MAX < most → n' ≤ LINE_MAX → HasLength (rest_after v.rest p) n'
length_on v p true n n' most r short whole ended unended room few =
    ([], ap (λ l. rest_after l p) r.1 ∙ sym (rest-append r.0 p) ∙ ap (λ p. rest (r.0 ++ p)) whole.2 ∙ rest_of_line r.0 whole.0 whole.1, sym (ended refl))
length_on v p false n n' most r short unbroken ended unended room few =
    subst (λ l. HasLength l n') (sym (ap (unfinished v.rest) unbroken ∙ ap (λ l. joined l p) short.1))
    (length_by short.0 p n n' most (nat_le (length (short.0 ++ p)) LINE_MAX) refl short.2 (unended refl) room few)

long_by : (text p : List ℕ) (n n' most : ℕ) (b : Bool) → nat_le (length (text ++ p)) LINE_MAX ≡ b → length text ≡ n → n' ≡ min (n + length p) most → LINE_MAX < n'
    → (if b then Text (text ++ p) else TooLong) ≡ TooLong
long_by text p n n' most true fits is count many =
    let few : length (text ++ p) ≤ LINE_MAX = leb-true (length (text ++ p)) LINE_MAX fits in
    absurd (omega (arith, few, length-append text p, is, count, many))
long_by text p n n' most false long is count many = refl

-- The part makes the line too long.
pub hears_too_long : (v v1 : LinkValue) (p : List ℕ) (is_ended : Bool) (n n' most : ℕ) → HasLength v.rest n → IsEnded is_ended p
    → (is_ended ≡ true → n' ≡ 0) → (is_ended ≡ false → n' ≡ min (n + length p) most) → LINE_MAX < n' → HearsPart v p (Err failures.BadAnswer) v1 n'
hears_too_long v v1 p true n n' most short whole ended unended many = absurd (omega (arith, ended refl, many))
hears_too_long v v1 p false n n' most short unbroken ended unended many =
    inr (inr (inr (refl, unbroken, ap (λ l. joined l p) short.1 ∙ long_by short.0 p n n' most (nat_le (length (short.0 ++ p)) LINE_MAX) refl short.2 (unended refl) many)))

fault_at : (o : Option LinkFault) (fault : LinkFault) → Err fault ≡ answer_by o → o ≡ Some fault
fault_at None fault is = absurd (cc)
fault_at (Some other) fault is = cc

-- The link failed at the part.
pub hears_fault : (v v1 : LinkValue) (p : List ℕ) (n' done : ℕ) (result : Result (Unit {0}) LinkFault) (fault : LinkFault) (failure : ToolFailure)
    → Feeds v p done result v1 → result ≡ Err fault → failure ≡ failure_of fault → HearsPart v p (Err failure) v1 n'
hears_fault v v1 p n' done result fault failure feeds failed is =
    let at : v1.exchange.fault ≡ Some fault = fault_at v1.exchange.fault fault (sym failed ∙ feeds.answered) in
    elim feeds.stands [
      | inl said ↦ inr (inr (inl (fault, ap (λ v. v.exchange.fault) (sym said.0) ∙ at, is)))
      | inr out ↦
          let memory : Some Memory ≡ Some fault = sym (ap (λ e. e.fault) out.0.stands.0) ∙ at in
          inl (is ∙ sym (ap (λ o. option_map_or failure_of o failures.Memory) memory))
    ]

pub never_lost : (fault : LinkFault) (failure : ToolFailure) → failure ≡ failure_of fault → failure ≡ failures.ConnectionLost → ⊥
never_lost faults.Memory failure is lost = let never : failures.Memory ≡ failures.ConnectionLost = sym is ∙ lost in absurd (cc)
never_lost fault failure is lost = let never : failure_of fault ≡ failures.ConnectionLost = sym is ∙ lost in absurd (cc)

-- the link after its answer, if there is one, was taken out
pub hears_ok : (v v1 v2 : LinkValue) (p : List ℕ) (is_ended : Bool) (n n' most done : ℕ) (result : Result (Unit {0}) LinkFault) (outcome : Option Outcome) → Awaits v n
    → IsEnded is_ended p → (is_ended ≡ true → n' ≡ 0) → (is_ended ≡ false → n' ≡ min (n + length p) most) → LINE_MAX < most → n' ≤ LINE_MAX
    → Feeds v p done result v1 → result ≡ Ok tt → outcome ≡ outcome_of v1.exchange → v2 ≡ with_exchange (taken_out v1.exchange) v1 → HearsPart v p (Ok outcome) v2 n'
hears_ok v v1 v2 p is_ended n n' most done result None a part ended unended room few feeds ok is after_is =
    let w = went v v1 p done result feeds ok in
    let same : v2 ≡ v1 = after_is ∙ ap (λ s. record { rest = v1.rest; exchange = record { stage = s; fault = v1.exchange.fault } }) (unanswered v1.exchange.stage (sym is)) in
    let going : (fed p v).exchange.fault ≡ None = sym (ap (λ v. v.exchange.fault) w.0) ∙ w.1 in
    let count : HasLength (fed p v).rest n' =
    subst (λ o. HasLength (if is_some o then Text [] else rest_after v.rest p) n') (sym going) (length_on v p is_ended n n' most a.here a.short part ended unended room few) in (
      same ∙ w.0,
      record {
        waits = (ap (λ v. v.exchange.fault) same ∙ w.1, ap (λ v. outcome_of v.exchange) same ∙ sym is);
        here = (a.here.0 ++ p, ap (λ v. v.rest) (same ∙ w.0) ∙ rest_waits v a.here.0 p a.here.1 going);
        short = subst (λ v. HasLength v.rest n') (sym (same ∙ w.0)) count;
      },
    )
hears_ok v v1 v2 p is_ended n n' most done result (Some outcome) a part ended unended room few feeds ok is after_is =
    sym (ap (λ v. outcome_of v.exchange) (went v v1 p done result feeds ok).0) ∙ sym is

-- a part is the front of the unread bytes, and the rest is left
part_all : (filled part unread' : List ℕ) → Begins part filled → unread' ≡ drop (length part) filled → part ++ unread' ≡ filled
part_all filled part unread' is left = ap (λ b. part ++ b) (left ∙ ap (drop (length part)) is.1 ∙ drop-append_seam part is.0) ∙ sym is.1

-- bytes that were unread, or just read, are the part followed by what is left
pub part_read : (filled part unread' : List ℕ) (known mid : Option (List ℕ)) → known ≡ prepend_known filled mid → Begins part filled → unread' ≡ drop (length part) filled
    → known ≡ prepend_known (part ++ unread') mid
part_read filled part unread' known mid same is left = same ∙ ap (λ b. prepend_known b mid) (sym (part_all filled part unread' is left))

-- Fewer parts are left to be heard.
pub fewer_left : (calls calls' : ℕ) (unread filled part unread' : List ℕ) → steps_left calls' filled ≤ steps_left calls unread → Begins part filled → unread' ≡ drop (length part) filled → 0 < length part
    → steps_left calls' unread' < steps_left calls unread
fewer_left calls calls' unread filled part unread' before is left some =
    let all : length part + length unread' ≡ length filled = sym (length-append part unread') ∙ ap length (part_all filled part unread' is left) in
    omega (arith, before, all, some)

-- what was read for a part
pub part_reads : (unread filled part unread' : List ℕ) → Begins part filled → unread' ≡ drop (length part) filled → (filled ≡ unread) ⊎ ((unread ≡ []) × (length filled ≤ PIECE_MAX))
    → (part ++ unread' ≡ unread) ⊎ ((unread ≡ []) × (length (part ++ unread') ≤ PIECE_MAX))
part_reads unread filled part unread' is left (inl same) = inl (part_all filled part unread' is left ∙ same)
part_reads unread filled part unread' is left (inr new) = inr (new.0, subst (λ b. length b ≤ PIECE_MAX) (sym (part_all filled part unread' is left)) new.1)

-- The bytes of a stream before and after a part was heard.
read_on : (heard part : List ℕ) (input : Option (List ℕ)) (p p' : Point) → input ≡ prepend_known (heard ++ p.unread) p.remaining → prepend_known p.unread p.remaining ≡ prepend_known (part ++ p'.unread) p'.remaining
    → input ≡ prepend_known ((heard ++ part) ++ p'.unread) p'.remaining
read_on heard part input p p' before now =
    before
    ∙ sym (prepend_twice heard p.unread p.remaining)
    ∙ ap (prepend_known heard) now
    ∙ prepend_twice heard (part ++ p'.unread) p'.remaining
    ∙ ap (λ b. prepend_known b p'.remaining) (sym (append_assoc heard part p'.unread))

-- What was read while a query waited was read in time.
in_time_on : (script : Script) (queries heard part unread unread' : List ℕ) (e : Exchange) (next : Outcome → Script) → run_of script heard ≡ waiting_run queries e next → IsReadInTime (run_of script) (heard ++ unread)
    → (part ++ unread' ≡ unread) ⊎ ((unread ≡ []) × (length (part ++ unread') ≤ PIECE_MAX)) → IsReadInTime (run_of script) ((heard ++ part) ++ unread')
in_time_on script queries heard part unread unread' e next runs before (inl same) =
    subst (IsReadInTime (run_of script)) (sym (append_assoc heard part unread' ∙ ap (λ b. heard ++ b) same)) before
in_time_on script queries heard part unread unread' e next runs before (inr new) =
    inr (record { early = heard; late = part ++ unread'; parted = append_assoc heard part unread'; few = new.1; waits = ap (λ r. is_over r.standing) runs })

pub awaits_first : (request : Request) (link : LinkValue) → link ≡ link_sent request → Awaits link 0
awaits_first request link is = record {
  waits = (ap (λ v. v.exchange.fault) is, ap (λ v. outcome_of v.exchange) is);
  here = ([], ap (λ v. v.rest) is);
  short = ([], ap (λ v. v.rest) is, refl);
}

-- A query was sent.
pub listens_first : (request : Request) (link : LinkValue) (p p' : Point) → is_writable request ≡ true → link ≡ link_sent request → p'.unread ≡ p.unread → p'.remaining ≡ p.remaining
    → p'.taken ≡ append_known p.taken (request_line request) → (script : Script) (next : Outcome → Script) (input before : Option (List ℕ)) → IsAt script (Asks request next) input before p
    → Listens script next input before link p'
listens_first request link p p' fits is unread remaining wrote script next input before at = record {
  heard = at.heard;
  written = at.written ++ request_line request;
  here = ap (λ v. v.rest) is ∙ sym at.ended;
  runs = at.runs ∙ ap (λ b. begun b at.written request next) fits ∙ ap (λ e. waiting_run (at.written ++ request_line request) e next) (sym (ap (λ v. v.exchange) is));
  read = at.read ∙ ap₂ (λ u r. prepend_known (at.heard ++ u) r) (sym unread) (sym remaining);
  in_time = subst (λ u. IsReadInTime (run_of script) (at.heard ++ u)) (sym unread) at.in_time;
  wrote = wrote ∙ ap (λ k. append_known k (request_line request)) at.wrote ∙ append_twice at.written (request_line request) before;
}

-- A part was heard, and the query waits on.
pub listens_more : (link link' : LinkValue) (n n' : ℕ) (p p' : Point) → Awaits link n → Hears link p (Ok None) link' n' p' → (script : Script) (next : Outcome → Script) (input before : Option (List ℕ))
    → Listens script next input before link p → Listens script next input before link' p'
listens_more link link' n n' p p' a h script next input before l =
    let fed_is = h.came.0 in
    let waits : IsWaiting (fed h.part link).exchange = (sym (ap (λ v. v.exchange.fault) fed_is) ∙ h.came.1.waits.0, sym (ap (λ v. outcome_of v.exchange) fed_is) ∙ h.came.1.waits.1) in
    let short : HasLength (fed h.part link).rest n' = subst (λ v. HasLength v.rest n') fed_is h.came.1.short in
    record {
      heard = l.heard ++ h.part;
      written = l.written;
      here = ap (λ v. v.rest) fed_is ∙ rest_waits link l.heard h.part l.here waits.0;
      runs = still_waits link l.heard h.part n n' l.here a.short h.broken waits short (begin [] script) l.written next l.runs ∙ ap (λ e. waiting_run l.written e next) (sym (ap (λ v. v.exchange) fed_is));
      read = read_on l.heard h.part input p p' l.read h.read;
      in_time = in_time_on script l.written l.heard h.part p.unread p'.unread link.exchange next l.runs l.in_time h.reads;
      wrote = h.taken ∙ l.wrote;
    }

-- The answer is complete.
answers : (link link' : LinkValue) (n n' : ℕ) (outcome : Outcome) (p p' : Point) → Awaits link n → Hears link p (Ok (Some outcome)) link' n' p' → (script : Script) (next : Outcome → Script)
    (input before : Option (List ℕ)) → Listens script next input before link p → IsAt script (next outcome) input before p'
answers link link' n n' outcome p p' a h script next input before l =
    let c = comes link l.heard h.part n l.here a.short h.broken a.waits outcome h.came in
    record {
      heard = l.heard ++ h.part;
      written = l.written;
      ended = c.0;
      runs = c.1 (begin [] script) l.written next l.runs;
      read = read_on l.heard h.part input p p' l.read h.read;
      in_time = in_time_on script l.written l.heard h.part p.unread p'.unread link.exchange next l.runs l.in_time h.reads;
      wrote = h.taken ∙ l.wrote;
    }

-- The part makes the query fail.
spoilt : (link : LinkValue) (n : ℕ) (part : List ℕ) (failure : ToolFailure) → Awaits link n → IsUnbroken part ⊎ IsWhole part → Spoils link part failure → (script : Script) (heard queries : List ℕ) (next : Outcome → Script)
    → link.rest ≡ rest heard → run_of script heard ≡ waiting_run queries link.exchange next → run_of script (heard ++ part) ≡ record { queries = queries; standing = Failed failure }
spoilt link n part failure a broken (inl bad) script heard queries next here runs =
    fails link heard part n here a.short broken a.waits bad.0 bad.1 (begin [] script) queries next runs ∙ ap (λ f. record { queries = queries; standing = Failed f }) (sym bad.2)
spoilt link n part failure a broken (inr long) script heard queries next here runs =
    too_long link heard part n here a.short long.1 long.2 a.waits (begin [] script) queries next runs ∙ ap (λ f. record { queries = queries; standing = Failed f }) (sym long.0)

-- how a run ended, and what was asked till then
EndsAs : Script → Result (List ℕ) ToolFailure → ToolFailure → List ℕ → List ℕ → Type 0
EndsAs script result failure heard queries =
    ((result ≡ Err failures.Memory) ⊎ (result ≡ ending (run_of script heard).standing)) × WasWrittenBy failure queries (run_of script heard).queries

ends_as : (link : LinkValue) (n n' : ℕ) (part : List ℕ) (failure : ToolFailure) (link' : LinkValue) → Awaits link n → IsUnbroken part ⊎ IsWhole part → HearsPart link part (Err failure) link' n' → (script : Script) (heard queries : List ℕ)
    (next : Outcome → Script) → link.rest ≡ rest heard → run_of script heard ≡ waiting_run queries link.exchange next → EndsAs script (Err failure) failure (heard ++ part) queries
unfolding EndsAs
ends_as link n n' part failure link' a broken (inl lacks) script heard queries next here runs =
    let more = grows link heard part n here a.short broken a.waits (begin [] script) queries next runs in
    (inl (ap Err lacks), (more.0, more.1, λ whole. let never : true ≡ false = sym (ap breaks_off lacks) ∙ whole in absurd (cc)))
ends_as link n n' part failure link' a broken (inr (inl gone)) script heard queries next here runs =
    let same : run_of script (heard ++ part) ≡ waiting_run queries link.exchange next = ap (λ b. run_of script (heard ++ b)) gone.1 ∙ ap (run_of script) (append-nil heard) ∙ runs in
    (inr (ap Err gone.0 ∙ ap (λ r. ending r.standing) (sym same)), ([], ap (λ r. r.queries) same ∙ sym (append-nil queries), λ whole. refl))
ends_as link n n' part failure link' a broken (inr (inr spoils)) script heard queries next here runs =
    let over = spoilt link n part failure a broken spoils script heard queries next here runs in
    (inr (ap (λ r. ending r.standing) (sym over)), ([], ap (λ r. r.queries) over ∙ sym (append-nil queries), λ whole. refl))

-- The link failed, the connection was lost, or memory ran out.
unanswered_ends : (link link' : LinkValue) (n n' : ℕ) (failure : ToolFailure) (p p' : Point) → Awaits link n → Hears link p (Err failure) link' n' p' → (script : Script) (next : Outcome → Script)
    (input before : Option (List ℕ)) → Listens script next input before link p → Ends script (Err failure) input p'.remaining before p'.taken
unfolding EndsAs
unanswered_ends link link' n n' failure p p' a h script next input before l =
    let e = ends_as link n n' h.part failure link' a h.broken h.came script l.heard l.written next l.here l.runs in
    record {
      heard = l.heard ++ h.part;
      unheard = p'.unread;
      written = l.written;
      read = read_on l.heard h.part input p p' l.read h.read;
      in_time = in_time_on script l.written l.heard h.part p.unread p'.unread link.exchange next l.runs l.in_time h.reads;
      wrote = h.taken ∙ l.wrote;
      ended = e.0;
      queries = e.1;
      lost = λ is. inl (h.lost is).0;
    }

-- only a beginning of the query was written
broken_off : (queries front back all : List ℕ) → all ≡ queries ++ (front ++ back) → 0 < length back → length (queries ++ front) < length all
broken_off queries front back all is some = omega (arith, ap length is, length-append queries (front ++ back), length-append front back, length-append queries front, some)

-- The query couldn't be sent.
unsent_ends : (request : Request) (failure : ToolFailure) (link : LinkValue) (p p' : Point) → Sends request (Err failure) link p.taken p'.taken p'.has_ended → p'.unread ≡ p.unread → p'.remaining ≡ p.remaining
    → (script : Script) (next : Outcome → Script) (input before : Option (List ℕ)) → IsAt script (Asks request next) input before p → Ends script (Err failure) input p'.remaining before p'.taken
unsent_ends request failure link p p' sends unread remaining script next input before at =
    let read : input ≡ prepend_known (at.heard ++ p'.unread) p'.remaining = at.read ∙ ap₂ (λ u r. prepend_known (at.heard ++ u) r) (sym unread) (sym remaining) in
    let in_time : IsReadInTime (run_of script) (at.heard ++ p'.unread) = subst (λ u. IsReadInTime (run_of script) (at.heard ++ u)) (sym unread) at.in_time in
    elim sends [
      | inl bad ↦
          let run : run_of script at.heard ≡ record { queries = at.written; standing = Failed failures.BadQuery } = at.runs ∙ ap (λ b. begun b at.written request next) bad.1 in
          record {
            heard = at.heard;
            unheard = p'.unread;
            written = at.written;
            read = read;
            in_time = in_time;
            wrote = bad.2 ∙ at.wrote;
            ended = inr (ap Err bad.0 ∙ ap (λ r. ending r.standing) (sym run));
            queries = ([], ap (λ r. r.queries) run ∙ sym (append-nil at.written), λ whole. refl);
            lost = λ is. let never : failures.BadQuery ≡ failures.ConnectionLost = sym bad.0 ∙ is in absurd (cc);
          }
      | inr broken ↦
          let run : run_of script at.heard ≡ waiting_run (at.written ++ request_line request) (sent request) next = at.runs ∙ ap (λ b. begun b at.written request next) broken.1 in
          let all : (run_of script at.heard).queries ≡ at.written ++ (broken.3.0 ++ broken.3.1) = ap (λ r. r.queries) run ∙ ap (λ l. at.written ++ l) broken.3.2 in
          record {
            heard = at.heard;
            unheard = p'.unread;
            written = at.written ++ broken.3.0;
            read = read;
            in_time = in_time;
            wrote = broken.3.3 ∙ ap (λ k. append_known k broken.3.0) at.wrote ∙ append_twice at.written broken.3.0 before;
            ended = inr (ap Err broken.0 ∙ ap (λ r. ending r.standing) (sym run));
            queries = (broken.3.1, all ∙ sym (append_assoc at.written broken.3.0 broken.3.1), λ whole. let never : true ≡ false = sym (ap breaks_off broken.0) ∙ whole in absurd (cc));
            lost = λ is. inr (broken_off at.written broken.3.0 broken.3.1 _ all broken.3.4);
          }
    ]

-- A query that couldn't be sent, as a part of the work.
pub unsent : (request : Request) (failure : ToolFailure) (link : LinkValue) (p p' : Point) → Sends request (Err failure) link p.taken p'.taken p'.has_ended → p'.unread ≡ p.unread → p'.remaining ≡ p.remaining
    → (next : Outcome → Script) → Goes (Asks request next) next (Err failure) p p'
unsent request failure link p p' sends unread remaining next = record {
  leads = λ script input before at. unsent_ends request failure link p p' sends unread remaining script next input before at;
  lost = λ is. elim sends [
    | inl bad ↦ let never : failures.BadQuery ≡ failures.ConnectionLost = sym bad.0 ∙ is in absurd (cc)
    | inr broken ↦ broken.2
  ];
}

-- A query that was answered.
pub answered : (request : Request) (link link' : LinkValue) (n n' : ℕ) (came : Option Outcome) (outcome : Outcome) (p0 p p' : Point) → came ≡ Some outcome → Awaits link n → Asking request p0 link p → Hears link p (Ok came) link' n' p'
    → (next : Outcome → Script) → Goes (Asks request next) next (Ok outcome) p0 p'
answered request link link' n n' came outcome p0 p p' some a asking h next = record {
  leads = λ script input before at. answers link link' n n' outcome p p' a (subst (λ o. Hears link p (Ok o) link' n' p') some h) script next input before (asking script next input before at);
  lost = tt;
}

-- A query that wasn't.
pub unanswered_so : (request : Request) (link link' : LinkValue) (n n' : ℕ) (failure : ToolFailure) (p0 p p' : Point) → Awaits link n → Asking request p0 link p → Hears link p (Err failure) link' n' p'
    → (next : Outcome → Script) → Goes (Asks request next) next (Err failure) p0 p'
unanswered_so request link link' n n' failure p0 p p' a asking h next = record {
  leads = λ script input before at. unanswered_ends link link' n n' failure p p' a h script next input before (asking script next input before at);
  lost = λ is. (h.lost is).1;
}

-- A query that waits on.
pub asking_on : (request : Request) (link link' : LinkValue) (n n' : ℕ) (came : Option Outcome) (p0 p p' : Point) → came ≡ None → Awaits link n → Asking request p0 link p → Hears link p (Ok came) link' n' p'
    → Asking request p0 link' p' × Awaits link' n'
asking_on request link link' n n' came p0 p p' none a asking h =
    let more : Hears link p (Ok None) link' n' p' = subst (λ o. Hears link p (Ok o) link' n' p') none h in
    ((λ script next input before at. listens_more link link' n n' p p' a more script next input before (asking script next input before at)), more.came.1)
