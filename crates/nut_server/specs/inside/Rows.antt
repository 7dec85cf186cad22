-- For private functions, nothing here has to be believed: what the rows of LIST VAR and LIST RW begin with, and the texts
-- of the rows of LIST RW and LIST CLIENT, which leave out some of what they walk over.
use Rattle.std.specs.Prelude.{ℕ, Bool, true, false, List, [], ◌∷◌, ◌++◌, codes, if◌then◌else◌}
use Rattle.nut_words.specs.Bytes.{blank}
use Rattle.nut_words.specs.Quoting.{word_text}
use Rattle.nut_state.specs.Table.{Entry}
use Rattle.nut_proto.specs.declared.reply.Reply.{Reply}
use Rattle.nut_proto.specs.declared.reply.Reply.TheVariants as replies
use Rattle.nut_proto.specs.Replies.{reply_line}
use Rattle.nut_server_spec.specs.Answer.{is_logged_in, shown}
use Rattle.nut_server_spec.specs.Content.{Session}
use Rattle.nut_server_spec.specs.Device.{Device}

-- what a row of a variable begins with, in LIST RW or in LIST VAR
abbrev pub row_word : (is_rw : Bool) → List ℕ
row_word true = codes "RW"
row_word false = codes "VAR"

-- the row of a variable with this value, in LIST RW or in LIST VAR
abbrev pub value_row : (is_rw : Bool) (ups name value : List ℕ) → Reply
value_row true ups name value = replies.Rw ups name value
value_row false ups name value = replies.Var ups name value

-- the row of a variable of this UPS, in LIST RW or in LIST VAR
abbrev pub variable_row : (is_rw : Bool) → List ℕ → Device → Entry → Reply
variable_row is_rw ups d v = value_row is_rw ups v.name (shown d v)

-- the row of a variable in LIST RW, or nothing if clients may not set it
abbrev pub writable_text : List ℕ → Device → Entry → List ℕ
writable_text ups d v = if v.flags.writable then reply_line (replies.Rw ups v.name (shown d v)) else []

-- the row of a connection in LIST CLIENT, or nothing if it isn't logged in to the UPS u
abbrev pub client_text : List ℕ → ℕ → Session → List ℕ
client_text ups u k = if is_logged_in u k.login then reply_line (replies.Client ups k.address) else []

-- what the rows of a list of variables begin with: the list's word, and the UPS
abbrev pub row_front : (word ups : List ℕ) → List ℕ
row_front word ups = word ++ blank ∷ (word_text ups ++ blank ∷ [])
