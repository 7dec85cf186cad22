-- The kind of a byte: what it means to the reader of words.

-- In this order: a space; a tab or a carriage return; `"`; `\`; `#`; `=`; another byte of 0x21 to 0x7E; any other byte.
pub data Kind : Type 0 where
  Space : Kind
  Gap : Kind
  Quote : Kind
  Backslash : Kind
  Hash : Kind
  Equals : Kind
  Plain : Kind
  Bad : Kind
