-- The texts of notices.
use Rattle.std.specs.Prelude.{ℕ, suc, take, drop, ◌+◌, ◌==◌, ◌&&◌, Bool, false, List, [], ◌∷◌, ◌++◌, if◌then◌else◌, Option, Some, None, slice_get}
use Rattle.std.specs.Option.{option_map}
use Rattle.nut_conf.specs.Upsmon.{message_of}
use Rattle.nut_conf.specs.declared.notice.Notice.{Notice as Kind}
use Rattle.nut_conf.specs.declared.notice.Notice.TheVariants as kinds
use Rattle.nut_conf.specs.declared.upsmon.MonConfig.{MonConfig}
use Rattle.nut_monitor_spec.specs.declared.Notice.{Notice}

-- the text begins with `%s`
abbrev pub is_mark : List ℕ → Bool
is_mark [] = false
is_mark (c ∷ []) = false
is_mark (c ∷ d ∷ text) = (c == 37) && (d == 115)

-- the place of the first `%s` in a text
abbrev pub place_of : List ℕ → Option ℕ
place_of [] = None
place_of (c ∷ text) = if is_mark (c ∷ text) then Some 0 else option_map suc (place_of text)

-- a text with its two bytes at a place replaced by the target
abbrev pub filled_at : List ℕ → List ℕ → Option ℕ → List ℕ
filled_at target text None = text
filled_at target text (Some at) = take at text ++ target ++ drop (at + 2) text

-- a text with its first `%s` replaced
abbrev pub filled : List ℕ → List ℕ → List ℕ
filled target text = filled_at target text (place_of text)

-- the UPS of a line as upsmon.conf writes it, if there is such a line
abbrev pub target_at : MonConfig → Option ℕ → Option (List ℕ)
target_at config None = None
target_at config (Some i) = option_map (λ m. m.written.items) (slice_get config.monitors.lines.items i)

-- what replaces `%s`: nothing in the text of SHUTDOWN, else the UPS of the line
abbrev pub target_for : MonConfig → Kind → Option ℕ → Option (List ℕ)
target_for config kinds.Shutdown line = None
target_for config kind line = target_at config line

abbrev pub filled_if : Option (List ℕ) → List ℕ → List ℕ
filled_if None text = text
filled_if (Some target) text = filled target text

-- the text of a notice: the message of its type, with its first `%s` replaced by the UPS of its line
abbrev pub text_of : MonConfig → Notice → List ℕ
text_of config notice = filled_if (target_for config notice.kind notice.line) (message_of notice.kind config)
