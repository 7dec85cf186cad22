-- How what is told grows.
use Rattle.std.specs.Prelude.{◌≡◌, ℕ, Bool, true, false, List, [], ◌∷◌, ◌++◌, if◌then◌else◌, Option, Some, None, IfSome, option_map, refl}
use Rattle.std.proofs.Common.{sym, ◌∙◌, ap, subst}
use Rattle.nut_conf.specs.declared.upsmon.MonConfig.{MonConfig}
use Rattle.nut_conf.specs.Upsmon.{flags_of}
use Rattle.nut_monitor.specs.Texts.{text_of}
use Rattle.nut_monitor_spec.specs.declared.Notice.{Notice}
use Rattle.nut_upsmon.specs.declared.beginning.Beginning.{Beginning}
use Rattle.nut_upsmon.specs.Acts.{Act, TriedFlag, RanShutdown, IfTold, called, does, is_to_call, is_to_print, printed, told}
use Rattle.nut_upsmon.specs.Course.{tellings, told_all}
use Rattle.nut_upsmon.specs.inside.Ready.{IsReady}

-- ---- what is told, if it still is

pub told_same : {X : Type 0} (x : Option X) → IfTold x x
told_same None = tt
told_same (Some x) = refl

pub told_as : {X : Type 0} (told due : Option X) → told ≡ due → IfTold told due
told_as told due same = subst (λ o. IfTold told o) same (told_same told)

-- what holds of the history that is due holds of the one that is told
pub if_told : {X : Type 0} (P : X → Type 0) (told due : Option X) → IfTold told due → IfSome due P → IfSome told P
if_told P None due is holds = tt
if_told P (Some x) due is holds = subst (λ o. IfSome o P) is holds

-- what is told of what was told
pub told_twice : {X Y : Type 0} (f : Option X → Option Y) → f None ≡ None → (due told : Option X) (after : Option Y)
    → IfTold told due → IfTold after (f told) → IfTold after (f due)
told_twice f strict due told None first second = tt
told_twice f strict due None (Some y) first second = subst (λ o. IfSome o (λ _. f due ≡ Some y)) (sym strict ∙ second) tt
told_twice f strict due (Some x) (Some y) first second = ap f first ∙ second

-- ---- notices

called_none : (b : Bool) (notice : Notice) (text : List ℕ) → called b notice text None ≡ None
called_none true notice text = refl
called_none false notice text = refl

printed_none : (b : Bool) (text : List ℕ) → printed b text None ≡ None
printed_none true text = refl
printed_none false text = refl

told_none : (config : MonConfig) (notice : Notice) → told config notice None ≡ None
told_none config notice =
    let flags = flags_of notice.kind config in let text = text_of config notice in
    ap (λ acts. called (is_to_call flags) notice text acts) (printed_none (is_to_print flags) text) ∙ called_none (is_to_call flags) notice text

pub told_all_none : (config : MonConfig) (notices : List Notice) → told_all config notices None ≡ None
told_all_none config [] = refl
told_all_none config (x ∷ xs) = ap (λ acts. told_all config xs acts) (told_none config x) ∙ told_all_none config xs

told_all-append : (config : MonConfig) (xs ys : List Notice) (acts : Option (List Act))
    → told_all config (xs ++ ys) acts ≡ told_all config ys (told_all config xs acts)
told_all-append config [] ys acts = refl
told_all-append config (x ∷ xs) ys acts = told_all-append config xs ys (told config x acts)

-- Notices were told between two histories: what held before holds still, and no other act tells.
abbrev pub Tells : MonConfig → Option (List Act) → Option Beginning → Option (List Act) → Option Beginning → List Notice → Type 0
Tells config before next after next' given =
    (IsReady before next config → IsReady after next' config)
    × IfTold (option_map tellings after) (told_all config given (option_map tellings before))

pub tells_self : (config : MonConfig) (acts : Option (List Act)) (next : Option Beginning) → Tells config acts next acts next []
tells_self config acts next = (λ ready. ready, told_same (option_map tellings acts))

pub tells_on : (config : MonConfig) (a b c : Option (List Act)) (n n' n'' : Option Beginning) (xs ys : List Notice)
    → Tells config a n b n' xs → Tells config b n' c n'' ys → Tells config a n c n'' (xs ++ ys)
tells_on config a b c n n' n'' xs ys first second = (
  λ ready. second.0 (first.0 ready),
  subst (λ due. IfTold (option_map tellings c) due) (sym (told_all-append config xs ys (option_map tellings a)))
      (told_twice (told_all config ys) (told_all_none config ys) _ (option_map tellings b) _ first.1 second.1),
)

-- acts that tell nothing
pub untold_by : (acts : Option (List Act)) (act : Act) → ((before : List Act) → tellings (act ∷ before) ≡ tellings before)
    → option_map tellings (does act acts) ≡ option_map tellings acts
untold_by None act same = refl
untold_by (Some before) act same = ap (λ l. Some l) (same before)

-- what is told of a history that may have ended
tellings_told : (told due : Option (List Act)) → IfTold told due → IfTold (option_map tellings told) (option_map tellings due)
tellings_told None due is = tt
tellings_told (Some acts) due is = ap (option_map tellings) is

pub untold : (before after due : Option (List Act)) → IfTold after due → option_map tellings due ≡ option_map tellings before
    → IfTold (option_map tellings after) (option_map tellings before)
untold before after due is same = subst (λ o. IfTold (option_map tellings after) o) same (tellings_told after due is)

pub untold_halt : (before after : Option (List Act)) (flag : Bool) → IfTold after (does RanShutdown (if flag then does TriedFlag before else before))
    → IfTold (option_map tellings after) (option_map tellings before)
untold_halt before after false is = untold before after _ is (untold_by before RanShutdown (λ acts. refl))
untold_halt before after true is =
    untold before after _ is (untold_by (does TriedFlag before) RanShutdown (λ acts. refl) ∙ untold_by before TriedFlag (λ acts. refl))

-- a notice is told in what is told, too
told_of : (e p : Bool) (notice : Notice) (text : List ℕ) (acts : Option (List Act))
    → option_map tellings (called e notice text (printed p text acts)) ≡ called e notice text (printed p text (option_map tellings acts))
told_of true true notice text None = refl
told_of true true notice text (Some acts) = refl
told_of true false notice text None = refl
told_of true false notice text (Some acts) = refl
told_of false true notice text None = refl
told_of false true notice text (Some acts) = refl
told_of false false notice text acts = refl

pub told_one : (before after : Option (List Act)) (config : MonConfig) (notice : Notice) → IfTold after (told config notice before)
    → IfTold (option_map tellings after) (told_all config (notice ∷ []) (option_map tellings before))
told_one before after config notice is =
    let flags = flags_of notice.kind config in
    subst (λ o. IfTold (option_map tellings after) o) (told_of (is_to_call flags) (is_to_print flags) notice (text_of config notice) before)
    (tellings_told after _ is)
