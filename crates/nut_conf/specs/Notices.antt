-- Types of notices: their words, their texts, and what is done with them.
use Rattle.std.specs.Prelude.{ℕ, Bool, true, false, ◌||◌, ◌==◌, List, [], ◌∷◌, map, codes, length, if◌then◌else◌, Result, Ok, Err}
use Rattle.std.specs.List.{list_all, list_any, slice_split}
use Rattle.std.specs.Str.{bytes_eq}
use Rattle.nut_conf.specs.Bytes.{plus}
use Rattle.nut_conf.specs.Faults.{◌>>=◌}
use Rattle.nut_conf.specs.Values.{Words, nth, text, one_of}
use Rattle.nut_conf.specs.Settings.{Setting, Message, Flags}
use Rattle.nut_conf.specs.declared.fault.FaultKind.{FaultKind}
use Rattle.nut_conf.specs.declared.fault.FaultKind.TheVariants.{BadForm, UnknownWord}
use Rattle.nut_conf.specs.declared.notice.Notice.{Notice}
use Rattle.nut_conf.specs.declared.notice.Notice.TheVariants as notices
use Rattle.nut_conf.specs.declared.notice.NoticeText.{NoticeText}
use Rattle.nut_conf.specs.declared.notice.NoticeFlags.{NoticeFlags}
use Rattle.nut_conf.specs.declared.notice.NoticeHandling.{NoticeHandling}
use Rattle.nut_conf.specs.declared.limits.TheConstants.{MESSAGE_MAX}

-- a row of the table of notices: the word of the type, and the text used if none is set, in which the first `%s` stands for
-- the UPS
pub record NoticeRow : Type 0 where
  pub word : List ℕ
  pub text : List ℕ

abbrev pub notice_row : Notice → NoticeRow
notice_row notices.Online = record { word = codes "ONLINE"; text = codes "UPS %s on line power" }
notice_row notices.Onbatt = record { word = codes "ONBATT"; text = codes "UPS %s on battery" }
notice_row notices.Lowbatt = record { word = codes "LOWBATT"; text = codes "UPS %s battery is low" }
notice_row notices.Fsd = record { word = codes "FSD"; text = codes "UPS %s: forced shutdown in progress" }
notice_row notices.Commok = record { word = codes "COMMOK"; text = codes "Communications with UPS %s established" }
notice_row notices.Commbad = record { word = codes "COMMBAD"; text = codes "Communications with UPS %s lost" }
notice_row notices.Shutdown = record { word = codes "SHUTDOWN"; text = codes "Auto logout and shutdown proceeding" }
notice_row notices.Replbatt = record { word = codes "REPLBATT"; text = codes "UPS %s battery needs to be replaced" }
notice_row notices.Nocomm = record { word = codes "NOCOMM"; text = codes "UPS %s is unavailable" }

-- the word of a type of notice
abbrev pub notice_word : Notice → List ℕ
notice_word n = (notice_row n).word

-- all types
abbrev pub all_notices : List Notice
all_notices =
    notices.Online ∷ notices.Onbatt ∷ notices.Lowbatt ∷ notices.Fsd ∷ notices.Commok ∷ notices.Commbad ∷ notices.Shutdown ∷ notices.Replbatt ∷ notices.Nocomm ∷ []

-- the words of all types
abbrev pub notice_words : Words
notice_words = map notice_word all_notices

-- the text of a type of notice used if none is set
abbrev pub default_text : Notice → List ℕ
default_text n = (notice_row n).text

-- what a NOTIFYMSG line sets: a type of notice and its text
abbrev pub message_value : Words → Result Setting FaultKind
message_value vs =
    if length vs == 2 then one_of notice_words (nth vs 0) >>= (λ n. text 0 MESSAGE_MAX (nth vs 1) >>= (λ t. Ok (Message n t)))
    else Err BadForm

-- the setting that a text of a notice represents
abbrev pub message_setting : NoticeText → Setting
message_setting m = Message (notice_word m.notice) m.text.bytes.items

-- the words of the flags
abbrev pub flag_words : Words
flag_words = codes "SYSLOG" ∷ codes "WALL" ∷ codes "EXEC" ∷ codes "IGNORE" ∷ []

-- the bytes between the plus signs
abbrev pub plus_parts : List ℕ → Words
plus_parts bytes = slice_split (λ c. c == plus) bytes

-- the flags that are named in these words
abbrev pub flags_in : Words → NoticeFlags
flags_in ws = record {
  syslog = list_any (bytes_eq (codes "SYSLOG")) ws;
  wall = list_any (bytes_eq (codes "WALL")) ws;
  exec = list_any (bytes_eq (codes "EXEC")) ws;
  ignore = list_any (bytes_eq (codes "IGNORE")) ws;
}

-- the flags, and the flag with this word
abbrev pub with_flag : List ℕ → NoticeFlags → NoticeFlags
with_flag w f = record {
  syslog = f.syslog || bytes_eq (codes "SYSLOG") w;
  wall = f.wall || bytes_eq (codes "WALL") w;
  exec = f.exec || bytes_eq (codes "EXEC") w;
  ignore = f.ignore || bytes_eq (codes "IGNORE") w;
}

-- whether the word is that of a flag
abbrev pub is_flag : List ℕ → Bool
is_flag w = list_any (bytes_eq w) flag_words

-- the flags named by words with plus signs between them; `UnknownWord` if one of these is no flag
abbrev pub flags : List ℕ → Result NoticeFlags FaultKind
flags bytes = if list_all is_flag (plus_parts bytes) then Ok (flags_in (plus_parts bytes)) else Err UnknownWord

-- what a NOTIFYFLAG line sets: a type of notice and its flags
abbrev pub flags_value : Words → Result Setting FaultKind
flags_value vs =
    if length vs == 2 then one_of notice_words (nth vs 0) >>= (λ n. flags (nth vs 1) >>= (λ f. Ok (Flags n f)))
    else Err BadForm

-- the setting that the flags of a notice represent
abbrev pub handling_setting : NoticeHandling → Setting
handling_setting h = Flags (notice_word h.notice) h.flags

-- whether both settings are texts, or both are flags, of the same type of notice
abbrev pub same_notice : Setting → Setting → Bool
same_notice (Message n _) (Message m _) = bytes_eq n m
same_notice (Flags n _) (Flags m _) = bytes_eq n m
same_notice _ _ = false

-- the flags used if none are set: `SYSLOG+WALL`
abbrev pub default_flags : NoticeFlags
default_flags = record { syslog = true; wall = true; exec = false; ignore = false }

-- whether the text is one for this type of notice
abbrev pub is_text_of : Notice → NoticeText → Bool
is_text_of n m = bytes_eq (notice_word n) (notice_word m.notice)

-- whether the flags are those for this type of notice
abbrev pub is_handling_of : Notice → NoticeHandling → Bool
is_handling_of n h = bytes_eq (notice_word n) (notice_word h.notice)
