-- What upsmon did over a whole run, watch by watch.
use Rattle.std.proofs.Common.{◌≡◌, ap₂, ◌⊎◌, inl, inr, is_some, ℕ, Bool, true, false, List, [], ◌∷◌, ◌++◌, map, Option, Some, None, Result, Ok, Err, IfSome, IfOk, OnOk, OnErr, if◌then◌else◌, sym, ◌∙◌, ap, append-nil, subst, refl}
use Rattle.std.specs.Prelude.{option_map}
use Rattle.std.specs.List.{AllByRecursion}
use Rattle.nut_conf.specs.declared.upsmon.MonConfig.{MonConfig}
use Rattle.nut_monitor.specs.Monitors.{MonitorValue}
use Rattle.nut_monitor_spec.specs.declared.Notice.{Notice}
use Rattle.nut_monitor_spec.specs.declared.Phase.{Phase}
use Rattle.nut_monitor_spec.specs.declared.Phase.TheVariants.{Halted}
use Rattle.nut_monitor_spec.specs.Configuration.{Configuration, configuration_of}
use Rattle.nut_monitor_spec.specs.Content.{Content, content, phase_of}
use Rattle.nut_monitor_spec.specs.Decision.{is_halted}
use Rattle.nut_monitor_loop.specs.Record.{Entry}
use Rattle.nut_monitor_loop.specs.Watched.{Watched, entries_of, handed, history_of}
use Rattle.nut_monitor_sockets.specs.Handing.{HandsOn, StandFor, lost}
use Rattle.nut_upsmon.specs.declared.beginning.Beginning.{Beginning}
use Rattle.nut_upsmon.specs.Acts.{Act, Changed, IfTold, IsQuiet, RanShutdown, TriedFlag, does}
use Rattle.nut_upsmon.specs.Course.{EndsInFault, EndsInHalt, Ran, Watch, monitor_after, tellings, told_all, told_in_turn}
use Rattle.nut_upsmon.specs.Reload.{MayReload}
use Rattle.nut_upsmon.specs.inside.Ready.{IsFollowed, IsReady}
use Rattle.nut_upsmon.specs.inside.Running.{Broken, Fails, Leads, Running, Whole, watch_of}
use Rattle.nut_upsmon.specs.inside.Telling.{Tells, told_all_none, told_same, told_twice, untold, untold_by, untold_halt}
use Rattle.nut_upsmon.proofs.Acted.{halted, ready_changed}

-- what holds at each error
pub on_err : {A E X : Type 0} (result : Result A E) → X → OnErr result X
on_err (Ok a) x = tt
on_err (Err e) x = x

-- ---- a watch

same_monitor : (m : MonitorValue) (config : MonConfig) (s : Content) → m.config ≡ config → m.content ≡ s → m ≡ record { config = config; content = s }
same_monitor m config s first second =
    let value : MonConfig → Content → MonitorValue = λ config s. record { config = config; content = s } in
    ap₂ value first second

-- what the loop says at its end
whole_at : (first : Configuration) (config : MonConfig) (Did : List Entry → Type 0) (Ended : MonitorValue → Type 0) (m : MonitorValue) (phase : Phase)
    → first ≡ configuration_of config → m.config ≡ config → Watched first Did m.content None → m.content.notices ≡ [] → phase ≡ phase_of m.content
    → (is_halted phase ≡ true) ⊎ Ended m → Whole config Did Ended phase
whole_at first config Did Ended m phase same kept watched told says ended =
    let s = m.content in
    let P : Configuration → Type 0 = λ c. Watched c Did s None in
    let w : Watched (configuration_of config) Did s None = subst P same watched in
    record {
      steps = w.steps;
      did = w.did;
      is = (w.holds.0, (None, w.told));
      says = sym (says ∙ ap phase_of w.holds.1);
      ended = subst (λ (m : MonitorValue). (is_halted phase ≡ true) ⊎ Ended m) (same_monitor m config (content (configuration_of config) (history_of w.steps)) kept w.holds.1) ended;
      handed_all = sym (append-nil (handed (entries_of w.steps))) ∙ ap (λ ns. handed (entries_of w.steps) ++ ns) (sym told) ∙ w.notices_are;
    }

pub whole : {E : Type 0} (first : Configuration) (config : MonConfig) (Did : List Entry → Type 0) (Ended : MonitorValue → Type 0) (m : MonitorValue) (result : Result Phase E)
    → first ≡ configuration_of config → m.config ≡ config → OnOk result (Watched first Did m.content None) → OnOk result (m.content.notices ≡ [])
    → IfOk result (λ phase. phase ≡ phase_of m.content) → IfOk result (λ phase. (is_halted phase ≡ true) ⊎ Ended m) → IfOk result (Whole config Did Ended)
whole first config Did Ended m (Ok phase) same kept watched told says ended = whole_at first config Did Ended m phase same kept watched told says ended
whole first config Did Ended m (Err e) same kept watched told says ended = tt

pub broken : {E : Type 0} (first : Configuration) (config : MonConfig) (Did : List Entry → Type 0) (s : Content) (result : Result Phase E) (Sure : Type 0) → first ≡ configuration_of config
    → OnErr result ((owed : Option ℕ) × Watched first Did s owed) → OnErr result (Sure → is_halted (phase_of s) ≡ false) → OnErr result (Sure → Broken config Did)
broken first config Did s (Ok phase) Sure same watched going = tt
broken first config Did s (Err e) Sure same watched going = λ sure.
    let P : Configuration → Type 0 = λ c. Watched c Did s watched.0 in
    let w : Watched (configuration_of config) Did s watched.0 = subst P same watched.1 in
    record {
      steps = w.steps;
      did = w.did;
      is = (w.holds.0, (watched.0, w.told));
      going = ap (λ s. is_halted (phase_of s)) (sym w.holds.1) ∙ going sure;
    }

pub some_did : {E : Type 0} (first : Configuration) (Did : List Entry → Type 0) (s : Content) (result : Result Phase E)
    → OnOk result (Watched first Did s None) → OnErr result ((owed : Option ℕ) × Watched first Did s owed) → (entries : List Entry) × Did entries
some_did first Did s (Ok phase) ok err = (entries_of ok.steps, ok.did)
some_did first Did s (Err e) ok err = (entries_of err.1.steps, err.1.did)

-- a watch ended, in other words
ends_by : (phase : Phase) (Ended Next : MonitorValue → Type 0) (m : MonitorValue) → ((m : MonitorValue) → Ended m → Next m)
    → (is_halted phase ≡ true) ⊎ Ended m → (is_halted phase ≡ true) ⊎ Next m
ends_by phase Ended Next m ends (inl halted) = inl halted
ends_by phase Ended Next m ends (inr ended) = inr (ends m ended)

followed : (phase : Phase) (next : Option Beginning) (m : MonitorValue) → is_halted phase ≡ false → (is_halted phase ≡ true) ⊎ IsFollowed next m → IsFollowed next m
followed phase next m going (inl halted) = let never : false ≡ true = sym going ∙ halted in absurd (cc)
followed phase next m going (inr is) = is

-- what was handed on was told
pub leads : {W E : Type 0} (Did : MonConfig → W → W → List Entry → Type 0) (Turns : W → W → Type 0) (acts : W → Option (List Act)) (upcoming : W → Option Beginning) (held : W → List ℕ)
    (config : MonConfig) (first begun last : W) (result : Result Phase E)
    → Turns first begun → acts begun ≡ acts first → held begun ≡ []
    → ((entries : List Entry) → Did config begun last entries → HandsOn (Tells config (acts begun) (upcoming begun) (acts last) (upcoming last)) (held begun) (held last) (handed entries))
    → (Ended : W → MonitorValue → Type 0) → ((m : MonitorValue) → Ended last m → IsFollowed (upcoming last) m)
    → IfOk result (Whole config (Did config begun last) (Ended last)) → IfOk result (Leads Did Turns acts upcoming config first last)
leads Did Turns acts upcoming held config first begun last (Ok phase) begins same none tells Ended ends it =
    let on = tells (entries_of it.steps) it.did in
    record {
      steps = it.steps;
      given = on.0;
      begun = begun;
      begins = begins;
      did = it.did;
      is = it.is;
      says = it.says;
      ended = ends_by phase (Ended last) (IsFollowed (upcoming last)) (monitor_after (watch_of config it.steps [])) ends it.ended;
      tells = (held last, subst (StandFor (on.0 ++ map lost (held last))) (ap (λ l. map lost l ++ handed (entries_of it.steps)) none ∙ it.handed_all) on.2);
      told = subst (λ a. IfTold (option_map tellings (acts last)) (told_all config on.0 (option_map tellings a))) same on.1.1;
    }
leads Did Turns acts upcoming held config first begun last (Err e) begins same none tells Ended ends it = tt

-- another watch has its beginning
pub has_next : {E : Type 0} {W : Type 0} (Did : MonConfig → W → W → List Entry → Type 0) (Turns : W → W → Type 0) (acts : W → Option (List Act)) (upcoming : W → Option Beginning)
    (config : MonConfig) (first last : W) (result : Result Phase E) → IfOk result (Leads Did Turns acts upcoming config first last)
    → IfOk result (λ phase. is_halted phase ≡ false → is_some (upcoming last) ≡ true)
has_next Did Turns acts upcoming config first last (Ok phase) led = λ going. ap is_some (followed phase (upcoming last) (monitor_after (watch_of config led.steps led.given)) going led.ended).1
has_next Did Turns acts upcoming config first last (Err e) led = tt

pub fails : {W E : Type 0} (Did : MonConfig → W → W → List Entry → Type 0) (Turns : W → W → Type 0) (config : MonConfig) (first begun last : W) (result : Result Phase E) (Sure : Type 0)
    → Turns first begun → OnErr result (Sure → Broken config (Did config begun last)) → OnErr result (Sure → Fails Did Turns config first last)
fails Did Turns config first begun last (Ok phase) Sure begins it = tt
fails Did Turns config first begun last (Err e) Sure begins it = λ sure.
    let b = it sure in record { steps = b.steps; begun = begun; begins = begins; did = b.did; is = b.is; going = b.going }

-- its links couldn't be made
pub fails_at_once : {W : Type 0} (Did : MonConfig → W → W → List Entry → Type 0) (Turns : W → W → Type 0) (config : MonConfig) (first last : W)
    → Turns first last → Did config last last [] → Fails Did Turns config first last
fails_at_once Did Turns config first last begins none =
    record { steps = []; begun = last; begins = begins; did = none; is = (tt, (None, refl)); going = refl }

pub same_ready : (log log' : Option (List Act)) (next next' : Option Beginning) (config : MonConfig) → log' ≡ log → next' ≡ next → IsReady log next config → IsReady log' next' config
same_ready log log' next next' config same also ready =
    subst (λ l. IsReady l next' config) (sym same) (subst (λ n. IsReady log n config) (sym also) ready)

-- ---- one watch after the other

ran_turns : {W : Type 0} (Did : MonConfig → W → W → List Entry → Type 0) (Turns : W → W → Type 0) (on : (a b c : W) → Turns a b → Turns b c → Turns a c)
    (watches : List Watch) (a b c : W) → Ran Did Turns watches a b → Turns b c → Ran Did Turns watches a c
ran_turns Did Turns on [] a b c ran turns = on a b c ran turns
ran_turns Did Turns on (w ∷ ws) a b c ran turns = (ran.0, ran.1, ran.2, ran.3, on ran.1 b c ran.4 turns)

pub none_ran : {W : Type 0} (Did : MonConfig → W → W → List Entry → Type 0) (Turns : W → W → Type 0) (acts : W → Option (List Act)) (upcoming : W → Option Beginning)
    (old : W) (config : MonConfig) → Turns old old → IsReady (acts old) (upcoming old) config → Running Did Turns acts upcoming old old config
none_ran Did Turns acts upcoming old config self ready =
    record { watches = []; ran = self; each = tt; going = tt; reloads = tt; given = tt; told = told_same (option_map tellings (acts old)); ready = ready }

-- what is told of a watch, after what is told of those before, while an act follows that tells nothing
told_on_end : (config : MonConfig) (given : List Notice) (watches : List Watch) (old before ended after : Option (List Act))
    → IfTold before (told_in_turn watches old) → IfTold ended (told_all config given before) → IfTold after ended
    → IfTold after (told_all config given (told_in_turn watches old))
told_on_end config given watches old before ended after first second third =
    told_twice (told_all config given) (told_all_none config given) (told_in_turn watches old) before after first
    (told_twice (λ acts. acts) refl (told_all config given before) ended after second third)

reloaded : (next : Option Beginning) (b : Beginning) (m : MonitorValue) → IsFollowed next m → next ≡ Some b → MayReload m b.monitor.config
reloaded next b m is was =
    let P : Option Beginning → Type 0 = λ next. IfSome next (λ b. MayReload m b.monitor.config) in
    subst P was (subst P (sym is.1) is.2)

-- another watch, and then another configuration
pub goes_on : {W : Type 0} (Did : MonConfig → W → W → List Entry → Type 0) (Turns : W → W → Type 0) (on : (a b c : W) → Turns a b → Turns b c → Turns a c)
    (acts : W → Option (List Act)) (upcoming : W → Option Beginning) (old before ended after : W) (config : MonConfig) (b : Beginning) (phase : Phase)
    → Running Did Turns acts upcoming old before config → Leads Did Turns acts upcoming config before ended phase
    → (IsReady (acts before) (upcoming before) config → IsReady (acts ended) (upcoming ended) config) → is_halted phase ≡ false
    → Turns ended after → IfTold (acts after) (does Changed (acts ended)) → upcoming ended ≡ Some b → upcoming after ≡ None
    → Running Did Turns acts upcoming old after b.monitor.config
goes_on Did Turns on acts upcoming old before ended after config b phase run led ready going turns changed was none =
    record {
      watches = watch_of config led.steps led.given ∷ run.watches;
      ran = (led.begun, ended, ran_turns Did Turns on run.watches old before led.begun run.ran led.begins, led.did, turns);
      each = (led.is, run.each);
      going = (ap is_halted led.says ∙ going, run.going);
      reloads = (
        reloaded (upcoming ended) b (monitor_after (watch_of config led.steps led.given))
            (followed phase (upcoming ended) (monitor_after (watch_of config led.steps led.given)) going led.ended) was,
        run.reloads,
      );
      given = (led.tells, run.given);
      told = told_on_end config led.given run.watches (option_map tellings (acts old)) (option_map tellings (acts before))
          (option_map tellings (acts ended)) (option_map tellings (acts after)) run.told led.told
          (untold (acts ended) (acts after) _ changed (untold_by (acts ended) Changed (λ acts. refl)));
      ready = ready_changed (acts ended) (acts after) (upcoming ended) (upcoming after) b config was none changed (ready run.ready);
    }

-- another watch, and then the halt
pub halts : {W : Type 0} (Did : MonConfig → W → W → List Entry → Type 0) (Turns : W → W → Type 0) (on : (a b c : W) → Turns a b → Turns b c → Turns a c)
    (acts : W → Option (List Act)) (upcoming : W → Option Beginning) (old before ended after : W) (config : MonConfig) (flag : Bool) (phase : Phase)
    → Running Did Turns acts upcoming old before config → Leads Did Turns acts upcoming config before ended phase
    → (IsReady (acts before) (upcoming before) config → IsReady (acts ended) (upcoming ended) config) → phase ≡ Halted flag
    → Turns ended after → IfTold (acts after) (does RanShutdown (if flag then does TriedFlag (acts ended) else acts ended))
    → EndsInHalt Did Turns acts old after
halts Did Turns on acts upcoming old before ended after config flag phase run led ready is turns done =
    record {
      last = watch_of config led.steps led.given;
      earlier = run.watches;
      flag = flag;
      ran = (led.begun, ended, ran_turns Did Turns on run.watches old before led.begun run.ran led.begins, led.did, turns);
      each = (led.is, run.each);
      says = led.says ∙ is;
      others = run.going;
      reloads = run.reloads;
      halted = halted (acts ended) (acts after) (upcoming ended) config flag (ready run.ready) done;
      given = (led.tells, run.given);
      told = told_on_end config led.given run.watches (option_map tellings (acts old)) (option_map tellings (acts before))
          (option_map tellings (acts ended)) (option_map tellings (acts after)) run.told led.told
          (untold_halt (acts ended) (acts after) flag done);
    }

-- another watch, which failed
pub faults : {W : Type 0} (Did : MonConfig → W → W → List Entry → Type 0) (Turns : W → W → Type 0) (on : (a b c : W) → Turns a b → Turns b c → Turns a c) (self : (a : W) → Turns a a)
    (acts : W → Option (List Act)) (upcoming : W → Option Beginning) (old before after : W) (config : MonConfig)
    → Running Did Turns acts upcoming old before config → Fails Did Turns config before after → EndsInFault Did Turns old after
faults Did Turns on self acts upcoming old before after config run failed =
    record {
      watches = watch_of config failed.steps [] ∷ run.watches;
      ran = (failed.begun, after, ran_turns Did Turns on run.watches old before failed.begun run.ran failed.begins, failed.did, self after);
      each = (failed.is, run.each);
      going = (failed.going, run.going);
    }

pub quiet : (log : Option (List Act)) (next : Option Beginning) (config : MonConfig) → IsReady log next config → IfSome log (AllByRecursion IsQuiet)
quiet None next config ready = tt
quiet (Some acts) next config ready = ready.0
