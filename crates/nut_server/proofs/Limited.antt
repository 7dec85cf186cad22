-- A configuration that files set is within their limits, and what waits for a client is bounded.
use Rattle.std.proofs.Common.{◌≡◌, ℕ, zero, suc, ◌≤◌, List, [], ◌∷◌, length, map, sym, ◌∙◌, ap, subst, arith, Option, Some, None, Result, Ok, Err}
use Rattle.std.specs.Prelude.{◌&&◌, nat_le, codes}
use Rattle.std.specs.Option.{option_map_or}
use Rattle.std.specs.List.{AllByRecursion, list_all}
use Rattle.std.proofs.lemmas.Bool.{and_parts, leb-true}
use Rattle.std.proofs.lemmas.List.{length-map}
use Rattle.nut_words.specs.Spelling.{is_printing}
use Rattle.nut_words.specs.declared.limits.TheConstants.{NAME_MAX, UPS_NAME_MAX}
use Rattle.nut_conf.specs.Ups.{shown, desc_of}
use Rattle.nut_conf.specs.Descriptions.{row_of}
use Rattle.nut_conf.specs.declared.descriptions.Descriptions.{Descriptions}
use Rattle.nut_conf.specs.declared.text.Name.{Name}
use Rattle.nut_conf.specs.declared.text.Text.{Text}
use Rattle.nut_conf.specs.declared.ups.Ups as the_ups
use Rattle.nut_conf.specs.declared.ups.UpsConf.{UpsConf}
use Rattle.nut_conf.specs.declared.upsd.UpsdConf.{UpsdConf}
use Rattle.nut_conf.specs.declared.users.UsersConf.{UsersConf}
use Rattle.nut_conf.specs.declared.limits.TheConstants.{DESCRIPTION_MAX}
use Rattle.nut_server_spec.specs.Content.{Session, Content}
use Rattle.nut_server_spec.specs.Configuration.{Configuration}
use Rattle.nut_server_spec.specs.declared.Place.{Place}
use Rattle.nut_server_spec.specs.declared.Place.TheVariants.{Line, Report}
use Rattle.nut_server_spec.specs.declared.Refused.{Refused}
use Rattle.nut_server_spec.specs.declared.Refused.TheVariants.{Memory}
use Rattle.nut_server_spec.specs.Event.{Event, Bytes, DriverBytes, Reload}
use Rattle.nut_server_spec.specs.Acceptance.{session_of}
use Rattle.nut_server_spec.specs.Outcome.{after, after_lack, after_refusal}
use Rattle.nut_server_spec.specs.machine.MachineOutcome.{Answers, content_after}
use Rattle.nut_server_spec.specs.laws.Limits.{AreWithin, IsTextWithin, IsUpsWithin, IsWithin, WaitsAreBounded, most_waits}
use Rattle.nut_server.specs.Configured.{command_texts_of, configuration_of, ups_of, variable_texts_of}
use Rattle.nut_server.specs.inside.Server.{IsTold}
use Rattle.nut_server.proofs.Arrives.{stands_after}

text_short : (t : Text 0 DESCRIPTION_MAX) → length t.bytes.items ≤ DESCRIPTION_MAX
text_short t =
    let sizes = and_parts (nat_le 0 (length t.bytes.items) && nat_le (length t.bytes.items) DESCRIPTION_MAX) (list_all is_printing t.bytes.items) t.bounded in
    leb-true (length t.bytes.items) DESCRIPTION_MAX (and_parts (nat_le 0 (length t.bytes.items)) (nat_le (length t.bytes.items) DESCRIPTION_MAX) sizes.0).1

description_short : (u : the_ups.Ups) → length (desc_of u) ≤ DESCRIPTION_MAX
description_short u = by_text u.desc where
  by_text : (o : Option (Text 0 DESCRIPTION_MAX)) → length (option_map_or (λ (t : Text 0 DESCRIPTION_MAX). t.bytes.items) o (codes "Unavailable")) ≤ DESCRIPTION_MAX
  by_text None = omega arith
  by_text (Some t) = text_short t

each_within : (es : List (Name UPS_NAME_MAX × the_ups.Ups)) → AllByRecursion IsUpsWithin (map ups_of (map shown es))
each_within [] = tt
each_within (e ∷ es) = (record { name = e.0.named; description = description_short e.1 }, each_within es)

texts_within : (es : List (Name NAME_MAX × Text 0 DESCRIPTION_MAX)) → AllByRecursion IsTextWithin (map row_of es)
texts_within [] = tt
texts_within (e ∷ es) = (text_short e.1, texts_within es)

variables_within : (o : Option Descriptions) → AllByRecursion IsTextWithin (variable_texts_of o)
variables_within (Some d) = texts_within d.variables.by_name.entries
variables_within None = tt

commands_within : (o : Option Descriptions) → AllByRecursion IsTextWithin (command_texts_of o)
commands_within (Some d) = texts_within d.commands.by_name.entries
commands_within None = tt

pub config_within : (ups : UpsConf) (users : UsersConf) (upsd : UpsdConf) (descriptions : Option Descriptions) → IsWithin (configuration_of ups users upsd descriptions)
config_within ups users upsd descriptions = record {
  upses = omega (arith, length-map (map shown ups.ups.by_name.entries) ups_of, length-map ups.ups.by_name.entries shown, ups.ups.few);
  each_ups = each_within ups.ups.by_name.entries;
  connections = upsd.max_conn.most;
  variable_texts = variables_within descriptions;
  command_texts = commands_within descriptions;
}

-- ---- the history of a server

lack_within : (first : Configuration) (h : List Event) (place : Place) (e : Event) → AreWithin first h → AreWithin first (after_lack place e h)
lack_within first h (Line c zero) (Bytes d piece) within = within
lack_within first h (Line c (suc k)) (Bytes d piece) within = within
lack_within first h (Report u zero) (DriverBytes v piece) within = within
lack_within first h (Report u (suc k)) (DriverBytes v piece) within = within
lack_within first h place e within = within

refused_within : (first : Configuration) (h : List Event) (e : Event) (r : Refused) → AreWithin first h → AreWithin first (after_refusal r e h)
refused_within first h e (Memory place) within = lack_within first h place e within
refused_within first h e r within = within

-- The history after an answer is within the limits if the configuration that is then in force is.
within_after : (s s' : Content) (e : Event) (r : Result (Unit {0}) Refused) → s' ≡ content_after r s e → IsWithin s'.configuration
    → (first : Configuration) (h : List Event) → AreWithin first h → AreWithin first (after r e h)
within_after s s' e (Err r) is limits first h within = refused_within first h e r within
within_after s s' (Reload j) (Ok u) is limits first h within = (subst (λ (x : Content). IsWithin x.configuration) is limits, within)
within_after s s' e (Ok u) is limits first h within = within

pub told_on : (s s' : Content) (e : Event) (r : Result (Unit {0}) Refused) → Answers s e r → s' ≡ content_after r s e → IsWithin s'.configuration
    → IsTold s → IsTold s'
told_on s s' e r answered is limits told = record {
  first = told.first;
  history = after r e told.history;
  tells = stands_after s s' e r answered is told.first told.history told.tells;
  within = within_after s s' e r is limits told.first told.history told.within;
}

-- what waits for c
pub waiting_few : (s : Content) (c : ℕ) (k : Session) → WaitsAreBounded → session_of c s.sessions ≡ Some k → IsTold s → length k.waits ≤ most_waits
waiting_few s c k law there told =
    law told.first told.history told.within told.tells.0 c k (ap (λ (s : Content). session_of c s.sessions) (sym told.tells.1) ∙ there)
