-- An event of a link changes nothing of another line.
use Rattle.std.proofs.Common.{arith}
use Rattle.std.proofs.Common.{◌≡◌, ℕ, Bool, true, false, eqb, List, [], ◌∷◌, length, drop, Option, Some, None, if◌then◌else◌}
use Rattle.std.specs.List.{list_any}
use Rattle.nut_words.specs.Lines.{rest}
use Rattle.nut_monitor_spec.specs.declared.Known.{Known}
use Rattle.nut_monitor_spec.specs.Configuration.{Configuration, line_in}
use Rattle.nut_monitor_spec.specs.Event.{Event, Linked, LinkBytes, LinkTook}
use Rattle.nut_monitor_spec.specs.Trace.{Asked, Answer, Entry, is_link, since_linked, linked, queries, answers, last_in, last_of, joined_queries, number, is_replace, is_silence, known}
use Rattle.nut_monitor_spec.specs.Content.{Watch, stage_in, watch}

-- a watch, made from the parts of its past
abbrev pub watch_by : Configuration → ℕ → Bool → List ℕ → List Asked → List Answer → ℕ → Known → Watch
watch_by configuration i there bytes asked said took known = record {
  link =
      if there
      then Some (record {
        rest = rest bytes;
        exchange = record {
          stage =
              stage_in (line_in configuration.lines i) (number (length said) asked)
              (if there then drop took (joined_queries (line_in configuration.lines i) asked) else []);
          fault = None;
        };
      })
      else None;
  last = last_in asked;
  answer = last_of said;
  known = known;
}

-- the answer, if there is one, is of link i
abbrev pub IsOf : ℕ → Option Answer → Type 0
IsOf i None = Unit {0}
IsOf i (Some answer) = answer.link ≡ i

-- whether an event is of link j
abbrev pub is_on : ℕ → Event → Bool
is_on j (Linked i) = eqb i j
is_on j (LinkBytes i piece) = eqb i j
is_on j (LinkTook i n) = eqb i j
is_on j event = false

since-off : {A : Type 0} (start : A) (j : ℕ) (event : Event) (before : A) → is_on j event ≡ false → since_linked start j event before ≡ before
since-off start j event before off = grind arith

-- an event of link i leaves line j as it was
pub record IsApart (i j : ℕ) (entry : Entry) (past : List Entry) : Type 0 where
  pub differ : eqb i j ≡ false
  pub off : is_on j entry.event ≡ false
  pub answer : IsOf i entry.answer
  pub lost : is_link j entry.lost ≡ false
  pub put : entry.put j ≡ None
  pub replace : list_any (is_replace j) entry.notices ≡ false
  pub silence : list_any (is_silence j) entry.notices ≡ false

module _ (i j : ℕ) (entry : Entry) (past : List Entry) (apart : IsApart i j entry past) where
  pub other-known : known j (entry ∷ past) ≡ known j past
  other-known = grind arith

  pub other-linked : linked j (entry ∷ past) ≡ linked j past
  other-linked = rw apart.lost (since-off true j entry.event (linked j past) apart.off)

  pub other-queries : queries j (entry ∷ past) ≡ queries j past
  other-queries = rw apart.put (since-off [] j entry.event (queries j past) apart.off)

  pub other-said : answers j (entry ∷ past) ≡ answers j past
  other-said = grind arith

  pub other-watch : (configuration : Configuration) → watch configuration (entry ∷ past) j ≡ watch configuration past j
  other-watch configuration = grind (arith, other-linked, other-queries, other-said, other-known)
