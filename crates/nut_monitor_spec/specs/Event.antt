-- The inputs of a monitor: events, and histories of them, which are lists with the newest first.
use Rattle.std.specs.Prelude.{ℕ, List}

-- A link has the number of its MONITOR line, from 0 on.
pub data Event : Type 0 where
  -- t seconds have passed since the start
  Moment : (t : ℕ) → Event
  -- link i is made: its server accepted the connection
  Linked : (i : ℕ) → Event
  -- a piece of the bytes that the server sends on link i
  LinkBytes : (i : ℕ) (piece : List ℕ) → Event
  -- link i is lost
  LinkLost : (i : ℕ) → Event
  -- the server took the first n of the bytes that wait on link i
  LinkTook : (i : ℕ) (n : ℕ) → Event
  -- memory ran out at a piece of bytes on link i: the first k of the lines that it completes took effect, and at the
  -- next one the link was lost
  OutOfMemory : (i : ℕ) (piece : List ℕ) (k : ℕ) → Event
  -- the oldest waiting notice was taken
  NoticeTaken : Event
