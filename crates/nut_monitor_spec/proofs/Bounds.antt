-- How much a link keeps.
use Rattle.std.proofs.Common.{◌≡◌, ℕ, ◌≤◌, Bool, true, ◌⊎◌, List, [], length, drop, refl, ap, arith, Option, Some, None, is_some, if◌then◌else◌, length-append, length-drop}
use Rattle.std.specs.Prelude.{nat_le}
use Rattle.std.proofs.lemmas.Bool.{and_parts, leb-true}
use Rattle.nut_words.specs.Lines.{Text, TooLong, rest, last_of, parts}
use Rattle.nut_words.specs.Cutter.{kept_of}
use Rattle.nut_words.specs.declared.limits.TheConstants.{LINE_MAX}
use Rattle.nut_proto.specs.Requests.{request_line}
use Rattle.nut_link.specs.Bounds.{IsBounded, IsStageBounded}
use Rattle.nut_link.specs.Link.{LinkValue}
use Rattle.nut_link.proofs.Writable.{length_line}
use Rattle.nut_link.specs.declared.limits.TheConstants.{QUERY_MAX}
use Rattle.nut_monitor_spec.specs.Configuration.{Line, Configuration, line_in}
use Rattle.nut_monitor_spec.specs.Query.{request}
use Rattle.nut_monitor_spec.specs.Trace.{Asked, Entry, linked, input, taken, outstanding, due, waits}
use Rattle.nut_monitor_spec.specs.Content.{stage_in, link_at}
use Rattle.nut_monitor_spec.specs.laws.Laws.{IsWritable, LinksAreBounded}
use Rattle.nut_monitor_spec.proofs.Lists.{found_at}
use Rattle.nut_monitor_spec.proofs.Settled.{IsIdle, IsAsked}
use Rattle.nut_monitor_spec.proofs.Kept.{all-hold}

kept-if : (text : List ℕ) (b : Bool) → nat_le (length text) LINE_MAX ≡ b → kept_of (if b then Text text else TooLong) ≤ LINE_MAX
kept-if text b is = grind (arith, leb-true)

kept-rest : (bytes : List ℕ) → kept_of (rest bytes) ≤ LINE_MAX
kept-rest bytes = kept-if (last_of (parts bytes)) (nat_le (length (last_of (parts bytes))) LINE_MAX) refl

query-short : (line : Line) (asked : Asked) → IsWritable line → length (request_line (request line asked.query)) ≤ QUERY_MAX
query-short line asked writable = grind (arith, and_parts, length_line, leb-true)

module _ (configuration : Configuration) (past : List Entry) (i : ℕ) (there : linked i past ≡ true) (writable : IsWritable (line_in configuration.lines i)) where
  abbrev line : Line
  line = line_in configuration.lines i

  whole : length (waits configuration i past) ≡ length (drop (taken i past) (due configuration i past))
  whole = ap (λ b. length (if b then drop (taken i past) (due configuration i past) else [])) there

  stage-bounded : (asked : Option Asked) → (is_some asked ≡ true → length (waits configuration i past) ≤ QUERY_MAX) → IsStageBounded (stage_in line asked (waits configuration i past))
  stage-bounded asked short = grind arith

  short-by : IsIdle configuration i past ⊎ IsAsked configuration i past → length (waits configuration i past) ≤ QUERY_MAX
  short-by is = grind (arith, whole, length-drop, length-append, query-short)

  pub link-bounded : IsIdle configuration i past ⊎ IsAsked configuration i past → IsBounded (link_at configuration past i)
  link-bounded tidy = record { stage = stage-bounded (outstanding i past) (λ is. short-by tidy); line = kept-rest (input i past) }

by-link : (configuration : Configuration) (past : List Entry) (i : ℕ) (b : Bool) (v : LinkValue) → linked i past ≡ b → IsWritable (line_in configuration.lines i) →
    (linked i past ≡ true → IsIdle configuration i past ⊎ IsAsked configuration i past) → (if b then Some (link_at configuration past i) else None) ≡ Some v → IsBounded v
by-link configuration past i b v is writable tidy found = grind (arith, link-bounded)

pub links-bounded : LinksAreBounded
links-bounded configuration events i w v accepted writable found is = grind (arith, found_at, by-link, all-hold)
