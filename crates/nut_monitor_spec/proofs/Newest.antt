-- What is known after one more event, and that queries put and notices given at an event don't change it.
use Rattle.std.proofs.Common.{arith}
use Rattle.std.proofs.Common.{◌≡◌, ℕ, Bool, true, ◌&&◌, List, ◌∷◌, sym, ◌∙◌, ap, Option, Some, is_some, if◌then◌else◌}
use Rattle.std.specs.List.{list_any}
use mathlib.Core.Path.{fun_ext}
use Rattle.nut_monitor_spec.specs.declared.Notice.{Notice}
use Rattle.nut_monitor_spec.specs.declared.Query.{Query}
use Rattle.nut_monitor_spec.specs.Configuration.{Configuration}
use Rattle.nut_monitor_spec.specs.Query.{is_forced, logins_in}
use Rattle.nut_monitor_spec.specs.Decision.{each_primary, is_alone}
use Rattle.nut_monitor_spec.specs.Trace.{Entry, latest, is_any, clock, moment_of, gives, gives_status, at_status, at_calm, are_calm, status_of_answer, newest_answer, status, polled, calm, told_at, forced, logins, logins_of_answer, critical, is_short, alone, known}

-- a function of a conditional is the conditional of the function
pub if-ap : {A B : Type 0} (f : A → B) (b : Bool) (x y : A) → f (if b then x else y) ≡ (if b then f x else f y)
if-ap f b x y = grind arith

module _ (i : ℕ) (entry : Entry) (past : List Entry) where
  pub status-step : status i (entry ∷ past) ≡ (if gives_status i entry.answer then status_of_answer entry.answer else status i past)
  status-step = if-ap (λ p. status_of_answer (newest_answer p)) (gives_status i entry.answer) (entry ∷ past) (at_status i past)

  pub polled-step : polled i (entry ∷ past) ≡ (if gives_status i entry.answer then clock (entry ∷ past) else polled i past)
  polled-step = if-ap clock (gives_status i entry.answer) (entry ∷ past) (at_status i past)

  abbrev pub is_calm_now : Bool
  is_calm_now = gives_status i entry.answer && (if is_any (at_status i past) then are_calm (status_of_answer entry.answer) else true)

  pub calm-step : calm i (entry ∷ past) ≡ (if is_calm_now then clock (entry ∷ past) else calm i past)
  calm-step = if-ap clock is_calm_now (entry ∷ past) (at_calm i past)

  pub forced-step : forced i (entry ∷ past) ≡ (if gives is_forced i entry.answer then true else forced i past)
  forced-step = if-ap is_any (gives is_forced i entry.answer) (entry ∷ past) (latest (λ e before. gives is_forced i e.answer) past)

  abbrev pub gives_logins : Bool
  gives_logins = gives (λ query outcome. is_some (logins_in query outcome)) i entry.answer

  pub logins-step : logins i (entry ∷ past) ≡ (if gives_logins then logins_of_answer entry.answer else logins i past)
  logins-step = grind arith

pub told-step : (test : Notice → Bool) (entry : Entry) (past : List Entry) →
    told_at test (entry ∷ past) ≡ (if list_any test entry.notices then Some (clock (entry ∷ past)) else told_at test past)
told-step test entry past = if-ap moment_of (list_any test entry.notices) (entry ∷ past) (latest (λ e before. list_any test e.notices) past)

-- an entry with other queries and notices
abbrev pub marked : Entry → (ℕ → Option Query) → List Notice → Entry
marked entry put notices = record entry { put = put; notices = notices }

module _ (entry : Entry) (put : ℕ → Option Query) (notices : List Notice) (past : List Entry) where
  pub status-same : (i : ℕ) → status i (marked entry put notices ∷ past) ≡ status i (entry ∷ past)
  status-same i = status-step i (marked entry put notices) past ∙ sym (status-step i entry past)

  pub polled-same : (i : ℕ) → polled i (marked entry put notices ∷ past) ≡ polled i (entry ∷ past)
  polled-same i = polled-step i (marked entry put notices) past ∙ sym (polled-step i entry past)

  pub calm-same : (i : ℕ) → calm i (marked entry put notices ∷ past) ≡ calm i (entry ∷ past)
  calm-same i = calm-step i (marked entry put notices) past ∙ sym (calm-step i entry past)

  pub forced-same : (i : ℕ) → forced i (marked entry put notices ∷ past) ≡ forced i (entry ∷ past)
  forced-same i = forced-step i (marked entry put notices) past ∙ sym (forced-step i entry past)

  pub logins-same : (i : ℕ) → logins i (marked entry put notices ∷ past) ≡ logins i (entry ∷ past)
  logins-same i = logins-step i (marked entry put notices) past ∙ sym (logins-step i entry past)

  pub critical-same : (configuration : Configuration) (i : ℕ) →
      critical configuration i (marked entry put notices ∷ past) ≡ critical configuration i (entry ∷ past)
  critical-same configuration i = grind (arith, calm-same, polled-same, status-same)

  pub short-same : (configuration : Configuration) → is_short configuration (marked entry put notices ∷ past) ≡ is_short configuration (entry ∷ past)
  short-same configuration = grind (arith, critical-same)

  pub alone-same : (configuration : Configuration) → alone configuration (marked entry put notices ∷ past) ≡ alone configuration (entry ∷ past)
  alone-same configuration = ap (λ test. each_primary (λ i. is_alone (test i)) configuration.lines) (fun_ext logins-same)

pub told-same : (entry : Entry) (put other : ℕ → Option Query) (notices : List Notice) (past : List Entry) (test : Notice → Bool) →
    told_at test (marked entry put notices ∷ past) ≡ told_at test (marked entry other notices ∷ past)
told-same entry put other notices past test = grind (arith, told-step)

-- the queries that are put don't change what is known
pub known-same : (entry : Entry) (put other : ℕ → Option Query) (notices : List Notice) (past : List Entry) (i : ℕ) →
    known i (marked entry put notices ∷ past) ≡ known i (marked entry other notices ∷ past)
known-same entry put other notices past i = grind (arith, status-same, polled-same, calm-same, told-same, forced-same, logins-same)
