-- Worked examples: histories of connections, and the answers in them, computed from the definitions.
use Rattle.std.specs.Prelude.{◌≡◌, ℕ, ◌+◌, zero, suc, List, [], ◌∷◌, codes, Some}
use Rattle.nut_words.specs.declared.limits.TheConstants.{LINE_MAX, PIECE_MAX}
use Rattle.nut_server_spec.specs.declared.Refused.TheVariants.{NoSuchConnection, PieceTooLong, Busy, TooMuchTaken, BadAddress, Full}
use Rattle.nut_server_spec.specs.Configuration.{Configuration}
use Rattle.nut_server_spec.specs.Event.{Event, Open, Bytes, Took, Close, WriteFailed}
use Rattle.nut_server_spec.specs.Trace.{due}
use Rattle.nut_server_spec.specs.Content.{content, past, sent, waits}
use Rattle.nut_server_spec.specs.Acceptance.{refusal, IsAccepted}

-- a configuration with one UPS, that allows one connection at a time
abbrev pub su700 : Configuration
su700 = record {
  upses = record { name = codes "su700"; driver = codes "dummy-ups"; description = codes "Server room" } ∷ [];
  users = [];
  max_age = 15;
  most_connections = 1;
  variable_texts = [];
  command_texts = [];
}

-- the first connection is open
abbrev pub one_open : List Event
one_open = Open (codes "192.0.2.1") ∷ []

-- the history h, and after it these bytes of the first connection, each as a piece of its own
abbrev pub in_single_bytes : List ℕ → List Event → List Event
in_single_bytes [] h = h
in_single_bytes (b ∷ bytes) h = in_single_bytes bytes (Bytes 1 (b ∷ []) ∷ h)

-- the byte b, n times
abbrev pub many : ℕ → ℕ → List ℕ
many zero b = []
many (suc n) b = b ∷ many n b

-- all bytes due to the first connection
abbrev pub answers : List Event → List ℕ
answers h = due 1 (past su700 h)

-- the answers to a first connection that sends this text in one piece
abbrev pub answers_to : List ℕ → List ℕ
answers_to text = answers (Bytes 1 text ∷ one_open)

-- the answers to LIST UPS and LOGOUT
abbrev pub list_and_logout : List ℕ
list_and_logout = codes "BEGIN LIST UPS\nUPS su700 \"Server room\"\nEND LIST UPS\nOK Goodbye\n"

-- what is answered, what was sent and what waits, and what is refused
pub record ConnectionExamples : Type 0 where
  pub list_ups : answers_to (codes "LIST UPS\nLOGOUT\n") ≡ list_and_logout
  pub small_letters : answers_to (codes "list ups\nLogout\n") ≡ list_and_logout
  pub quoted_words : answers_to (codes "\"LIST\"  \"UPS\" # a comment\r\nLOGOUT\n") ≡ list_and_logout
  pub single_bytes : answers (in_single_bytes (codes "LIST UPS\nLOGOUT\n") one_open) ≡ list_and_logout
  pub description :
      answers (Bytes 1 (codes "00\n") ∷ Bytes 1 (codes "T UPSDESC su7") ∷ Bytes 1 (codes "GE") ∷ one_open) ≡ codes "UPSDESC su700 \"Server room\"\n"
  pub unknown_ups : answers_to (codes "GET UPSDESC SU700\n") ≡ codes "ERR UNKNOWN-UPS\n"
  pub version : answers_to (codes "VER\n") ≡ codes "Network UPS Tools upsd profile 1.3\n"
  pub one_word_more : answers_to (codes "VER VER\n") ≡ codes "ERR INVALID-ARGUMENT\n"
  pub blank_lines : answers_to (codes "\n \t\r\n# a comment\n") ≡ []
  pub unfinished : answers_to (codes "VER") ≡ []
  pub unknown_command : answers_to (codes "FOO\n") ≡ codes "ERR UNKNOWN-COMMAND\n"
  pub open_quote : answers_to (codes "\"a\n") ≡ codes "ERR INVALID-ARGUMENT\n"
  pub after_logout : answers_to (codes "LOGOUT\nVER\n") ≡ codes "OK Goodbye\n"
  pub longest_line : answers (Bytes 1 (codes "\n") ∷ Bytes 1 (many LINE_MAX 65) ∷ one_open) ≡ codes "ERR UNKNOWN-COMMAND\n"
  pub too_long_line : answers (Bytes 1 (codes "A\nVER\n") ∷ Bytes 1 (many LINE_MAX 65) ∷ one_open) ≡ codes "ERR INVALID-ARGUMENT\nNetwork UPS Tools upsd profile 1.3\n"
  pub sent_first : sent su700 1 (Took 1 7 ∷ Bytes 1 (codes "VER\n") ∷ one_open) ≡ codes "Network"
  pub waits_still : waits su700 1 (Took 1 7 ∷ Bytes 1 (codes "VER\n") ∷ one_open) ≡ codes " UPS Tools upsd profile 1.3\n"
  pub accepted : IsAccepted su700 (Close 1 ∷ Took 1 7 ∷ Bytes 1 (codes "VER\n") ∷ one_open)
  pub busy : refusal (content su700 (Bytes 1 (codes "VER\n") ∷ one_open)) (Bytes 1 (codes "VER\n")) ≡ Some Busy
  pub too_much : refusal (content su700 (Bytes 1 (codes "LOGOUT\n") ∷ one_open)) (Took 1 12) ≡ Some TooMuchTaken
  pub long_piece : refusal (content su700 one_open) (Bytes 1 (many (PIECE_MAX + 1) 65)) ≡ Some PieceTooLong
  pub closed : refusal (content su700 (Close 1 ∷ one_open)) (Bytes 1 (codes "VER\n")) ≡ Some NoSuchConnection
  pub no_number_again : refusal (content su700 (Open (codes "192.0.2.1") ∷ WriteFailed 1 ∷ one_open)) (Took 1 0) ≡ Some NoSuchConnection
  pub full : refusal (content su700 one_open) (Open (codes "192.0.2.1")) ≡ Some Full
  pub no_address : refusal (content su700 []) (Open []) ≡ Some BadAddress
  pub blank_in_address : refusal (content su700 []) (Open (codes "192.0.2.1 x")) ≡ Some BadAddress
