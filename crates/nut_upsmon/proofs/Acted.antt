-- What upsmon did, with a halt in the end.
use Rattle.std.proofs.Common.{◌≡◌, ℕ, Bool, true, false, List, [], ◌∷◌, Option, Some, None, IfSome, if◌then◌else◌, refl, sym, ap, subst}
use Rattle.nut_conf.specs.declared.upsmon.MonConfig.{MonConfig}
use Rattle.nut_conf.specs.declared.notice.NoticeFlags.{NoticeFlags}
use Rattle.nut_conf.specs.Upsmon.{flags_of}
use Rattle.nut_monitor.specs.Texts.{text_of}
use Rattle.nut_monitor_spec.specs.declared.Notice.{Notice}
use Rattle.nut_upsmon.specs.declared.beginning.Beginning.{Beginning}
use Rattle.nut_upsmon.specs.Acts.{Act, ClearedFlag, Readied, Changed, Printed, Called, TriedFlag, RanShutdown, IfTold, ClearsFirst, halt_of, readied, does, printed, called, is_to_call, is_to_print, told_by, told, IsHalted}
use Rattle.nut_upsmon.specs.inside.Ready.{IsReady, IsReadyIn}
use Rattle.nut_upsmon.specs.inside.Telling.{if_told}

-- one more act
pub clears_first : (act : Act) (acts : List Act) → ClearsFirst acts → ClearsFirst (act ∷ acts)
clears_first act acts is = (is.0, act ∷ is.1, ap (λ l. act ∷ l) is.2)

-- a flag that was left was removed, before all else
pub cleared : (log log' log'' : Option (List Act)) (config : MonConfig) → IfSome log (λ acts. acts ≡ []) → log' ≡ does (ClearedFlag (halt_of config).flag) log
    → log'' ≡ log' → IfSome log'' (λ acts. acts ≡ ClearedFlag (halt_of config).flag ∷ [])
cleared None log' log'' config none clears same =
    subst (λ o. IfSome o (λ acts. acts ≡ ClearedFlag (halt_of config).flag ∷ [])) (sym same)
    (subst (λ o. IfSome o (λ acts. acts ≡ ClearedFlag (halt_of config).flag ∷ [])) (sym clears) tt)
cleared (Some acts) log' log'' config none clears same =
    subst (λ o. IfSome o (λ acts. acts ≡ ClearedFlag (halt_of config).flag ∷ [])) (sym same)
    (subst (λ o. IfSome o (λ acts. acts ≡ ClearedFlag (halt_of config).flag ∷ [])) (sym clears) (ap (λ l. ClearedFlag (halt_of config).flag ∷ l) none))

-- what is done before the first watch
pub begun : (log log' : Option (List Act)) (config : MonConfig) → IfSome log (λ acts. acts ≡ ClearedFlag (halt_of config).flag ∷ [])
    → IfTold log' (does Changed (does (Readied (halt_of config)) log))
    → IfSome log' (λ acts. acts ≡ Changed ∷ Readied (halt_of config) ∷ ClearedFlag (halt_of config).flag ∷ [])
begun None log' config cleared readied = if_told _ log' _ readied tt
begun (Some acts) log' config cleared readied =
    if_told _ log' _ readied (ap (λ l. Changed ∷ Readied (halt_of config) ∷ l) cleared)

-- after the first acts this configuration is in force
pub ready_first : (log : Option (List Act)) (next : Option Beginning) (config : MonConfig)
    → IfSome log (λ acts. acts ≡ Changed ∷ Readied (halt_of config) ∷ ClearedFlag (halt_of config).flag ∷ []) → next ≡ None → IsReady log next config
ready_first None next config begun none = tt
ready_first (Some acts) next config begun none =
    subst (λ n. IsReady (Some acts) n config) (sym none)
    (subst (λ l. IsReady (Some l) None config) (sym begun) ((tt, (tt, (tt, tt))), refl, tt, (halt_of config, Changed ∷ [], refl)))

-- that of the next watch was readied
pub ready_next : (log log' : Option (List Act)) (next : Option Beginning) (b : Beginning) (config : MonConfig) → log' ≡ does (Readied (halt_of b.monitor.config)) log
    → IsReady log next config → IsReady log' (Some b) config
ready_next None log' next b config same ready = subst (λ o. IsReady o (Some b) config) (sym same) tt
ready_next (Some acts) log' next b config same ready =
    subst (λ o. IsReady o (Some b) config) (sym same) ((tt, ready.0), ready.1, refl, clears_first (Readied (halt_of b.monitor.config)) acts ready.3)

-- and is in force
pub ready_changed : (log log' : Option (List Act)) (next next' : Option Beginning) (b : Beginning) (config : MonConfig) → next ≡ Some b → next' ≡ None → IfTold log' (does Changed log)
    → IsReady log next config → IsReady log' next' b.monitor.config
ready_changed None log' next next' b config some none is ready = if_told (IsReadyIn next' b.monitor.config) log' None is tt
ready_changed (Some acts) log' next next' b config some none is ready =
    if_told (IsReadyIn next' b.monitor.config) log' _ is (subst (λ n. IsReady (Some (Changed ∷ acts)) n b.monitor.config) (sym none)
    ((tt, ready.0), subst (λ (n : Option Beginning). IfSome n (λ b. readied acts ≡ Some (halt_of b.monitor.config))) some ready.2, tt, clears_first Changed acts ready.3))

-- the halt of the configuration in force
pub halted : (log log' : Option (List Act)) (next : Option Beginning) (config : MonConfig) (flag : Bool)
    → IsReady log next config → IfTold log' (does RanShutdown (if flag then does TriedFlag log else log)) → IfSome log' (IsHalted config flag)
halted log log' next config flag ready is = if_told (IsHalted config flag) log' _ is (due log flag ready) where
  due : (log : Option (List Act)) (flag : Bool) → IsReady log next config
      → IfSome (does RanShutdown (if flag then does TriedFlag log else log)) (IsHalted config flag)
  due None true ready = tt
  due None false ready = tt
  due (Some acts) true ready = record { before = acts; done = refl; quiet = ready.0; first = ready.3; force = ready.1 }
  due (Some acts) false ready = record { before = acts; done = refl; quiet = ready.0; first = ready.3; force = ready.1 }

-- ---- a notice

printed_ready : (b : Bool) (text : List ℕ) (log : Option (List Act)) (next : Option Beginning) (config : MonConfig) → IsReady log next config → IsReady (printed b text log) next config
printed_ready false text log next config ready = ready
printed_ready true text None next config ready = tt
printed_ready true text (Some acts) next config ready = ((tt, ready.0), ready.1, ready.2, clears_first (Printed text) acts ready.3)

called_ready : (b : Bool) (notice : Notice) (text : List ℕ) (log : Option (List Act)) (next : Option Beginning) (config : MonConfig) → IsReady log next config → IsReady (called b notice text log) next config
called_ready false notice text log next config ready = ready
called_ready true notice text None next config ready = tt
called_ready true notice text (Some acts) next config ready = ((tt, ready.0), ready.1, ready.2, clears_first (Called notice text) acts ready.3)

by_ready : (flags : NoticeFlags) (notice : Notice) (text : List ℕ) (log : Option (List Act)) (next : Option Beginning) (config : MonConfig) → IsReady log next config → IsReady (told_by flags notice text log) next config
by_ready flags notice text log next config ready =
    called_ready (is_to_call flags) notice text _ next config (printed_ready (is_to_print flags) text log next config ready)

-- a notice is no part of a halt, and changes nothing of what is in force
pub told_ready : (log log' : Option (List Act)) (next next' : Option Beginning) (config other : MonConfig) (notice : Notice) → IfTold log' (told other notice log) → next' ≡ next
    → IsReady log next config → IsReady log' next' config
told_ready log log' next next' config other notice is also ready =
    if_told (IsReadyIn next' config) log' _ is
    (subst (λ n. IsReady (told other notice log) n config) (sym also) (by_ready (flags_of notice.kind other) notice (text_of other notice) log next config ready))
