-- How a client's bytes are cut behind a line that isn't plain.
use Rattle.std.proofs.Common.{◌≡◌, ◌⊎◌, ℕ, zero, suc, cond, ◌+◌, ◌-◌, ◌≤◌, List, [], ◌∷◌, ◌++◌, Bool, true, false, length, take, drop, get_or, refl, sym, ap, subst, ◌∙◌, arith, inl, inr, append-nil, append_assoc}
use Rattle.std.specs.Prelude.{◌==◌, ◌&&◌, ◌||◌, if◌then◌else◌, not, nat_le, Some, None, slice_range}
use Rattle.std.specs.List.{list_any, onto_first}
use Rattle.std.proofs.lemmas.Bool.{cases_Bool}
use Rattle.std.proofs.lemmas.List.{length-drop, get_or-drop, take_all, take-append-drop, length-take-le}
use Rattle.std.proofs.Math.Seq.{take-append-add}
use Rattle.memchr.specs.Find.{IsFirstByte, is_byte}
use Rattle.nut_words.specs.Cutter.{kept_of}
use Rattle.nut_words.specs.Lines.{LineText, Text, TooLong, completed, joined, lines_after, parts}
use Rattle.nut_words.specs.declared.limits.TheConstants.{LINE_MAX}
use Rattle.nut_words.proofs.LineLemmas.{FeedAt, FeedAt-found, is_some_parts, parts-append, parts_of_all}
use Rattle.nut_server_sockets.specs.inside.Light.{begins_other, is_feed, is_plain, others_in}

-- ---- lines, one by one

abbrev Whole : List ℕ → Type 0
Whole text = parts text ≡ text ∷ []

-- A text with its line feed comes before the parts behind it.
parts_line : (t more : List ℕ) → Whole t → parts (t ++ 10 ∷ more) ≡ t ∷ parts more
parts_line t more whole = (rw whole at (parts-append t (10 ∷ more))) ∙ ap (λ u. u ∷ parts more) (append-nil t)

completed_line : (old : LineText) (t : List ℕ) (all : List (List ℕ)) (p : List ℕ) (ps : List (List ℕ)) → all ≡ p ∷ ps → completed old (t ∷ all) ≡ joined old t ∷ completed (Text []) all
completed_line old t all p [] is = rw is refl
completed_line old t all p (u ∷ us) is = rw is refl

-- It completes one line, and those that the rest does.
lines_line : (old : LineText) (t more : List ℕ) → Whole t → lines_after old (t ++ 10 ∷ more) ≡ joined old t ∷ lines_after (Text []) more
lines_line old t more whole =
    let some = is_some_parts more in
    ap (completed old) (parts_line t more whole) ∙ completed_line old t (parts more) some.0 some.1 some.2

-- The rest of a line completes none.
lines_none : (old : LineText) (t : List ℕ) → Whole t → lines_after old t ≡ []
lines_none old t whole = ap (completed old) whole

-- ---- lines that aren't plain

one_other : (line : LineText) → others_in (line ∷ []) ≤ 1
one_other (Text text) = by (begins_other text) where
  by : (b : Bool) → (if b then 1 else 0) + 0 ≤ 1
  by true = omega arith
  by false = omega arith
one_other TooLong = omega arith

-- A line of which nothing is kept isn't plain only if it begins so in what follows.
plain_line : (old : LineText) (t : List ℕ) (lines : List LineText) → kept_of old ≡ 0 → begins_other t ≡ false → others_in (joined old t ∷ lines) ≡ others_in lines
plain_line (Text []) t lines none plain =
    elim (cases_Bool (nat_le (length t) LINE_MAX)) [
      | inl e ↦ rw (e, plain) (omega arith)
      | inr e ↦ rw e refl
    ]
plain_line (Text (c ∷ cs)) t lines none plain = absurd (omega (arith, none))
plain_line TooLong t lines none plain = refl

-- A text up to its first line feed begins as its first byte says.
begins : (x : List ℕ) (at : ℕ) → FeedAt x at → begins_other (take at x) ≡ not (is_plain (get_or x 0 0))
begins [] at feed = absurd (omega (arith, feed.within))
begins (c ∷ cs) zero feed =
    let is : c ∷ [] ≡ 10 ∷ [] = feed.front in
    sym (ap (λ x. not (is_plain (get_or x 0 0))) is)
begins (c ∷ cs) (suc at) feed = refl

or_true : (a b : Bool) → b ≡ true → (a || b) ≡ true
or_true true b is = refl
or_true false b is = is

-- ---- places in a piece

take_on : (n m : ℕ) (xs : List ℕ) → n ≤ length xs → take (n + m) xs ≡ take n xs ++ take m (drop n xs)
take_on n m xs fits =
    ap (take (n + m)) (sym (take-append-drop n xs))
    ∙ (ap (λ k. take (k + m) (take n xs ++ drop n xs)) (sym (length-take-le n xs fits)) ∙ take-append-add (take n xs) (drop n xs) m)

-- the unfinished line before the byte at this place, where a line begins if the place isn't the first
abbrev here : ℕ → LineText → LineText
here zero line = line
here (suc n) line = Text []

-- What is kept of this line may be some only if a line was begun.
abbrev Fits : Bool → LineText → Type 0
Fits is_begun line = is_begun ≡ false → kept_of line ≡ 0

-- No line ended up to this place that isn't plain, so those behind it are counted alone.
pub record Reached (is_begun : Bool) (piece : List ℕ) (start : ℕ) : Type 0 where
  pub within : start ≤ length piece
  pub counts : (line : LineText) → Fits is_begun line → (more : List ℕ) → others_in (lines_after line (take start piece ++ more)) ≡ others_in (lines_after (here start line) more)
  pub keeps : (more : List ℕ) → list_any begins_other (parts more) ≡ true → list_any begins_other (parts (take start piece ++ more)) ≡ true

pub reached_start : (is_begun : Bool) (piece : List ℕ) → Reached is_begun piece 0
reached_start is_begun piece = record { within = omega arith; counts = λ line fits more. refl; keeps = λ more is. is }

-- Of how many lines this piece completes at most one isn't plain.
abbrev IsCut : Bool → List ℕ → Type 0
IsCut is_begun piece = (line : LineText) → Fits is_begun line → others_in (lines_after line piece) ≤ 1

module _ (is_begun : Bool) (piece : List ℕ) (start : ℕ) (r : Reached is_begun piece start) where
  -- Nothing more is there.
  pub one_at_end : length piece ≤ start → IsCut is_begun (take (length piece) piece)
  one_at_end end line fits =
      let all : take (length piece) piece ≡ take start piece ++ [] =
      ap (λ n. take n piece) (omega (arith, r.within, end)) ∙ sym (append-nil (take start piece)) in
      omega (arith, ap (λ x. others_in (lines_after line x)) all, r.counts line fits [], ap others_in (lines_none (here start line) [] refl))

  rest_is : slice_range piece start (length piece) ≡ drop start piece
  rest_is = take_all (length piece - start) (drop start piece) (omega (arith, length-drop start piece))

  -- The line goes on behind the piece.
  pub one_unended : IsFirstByte (is_byte 10) (slice_range piece start (length piece)) None → IsCut is_begun (take (length piece) piece)
  one_unended none line fits =
      let whole : Whole (drop start piece) = parts_of_all (drop start piece) (subst (λ x. IsFirstByte (is_byte 10) x None) rest_is none) in
      let all : take (length piece) piece ≡ take start piece ++ drop start piece = take_all (length piece) piece (omega arith) ∙ sym (take-append-drop start piece) in
      omega (arith, ap (λ x. others_in (lines_after line x)) all, r.counts line fits (drop start piece), ap others_in (lines_none (here start line) (drop start piece) whole))

  -- A line ends at this byte.
  module _ (at : ℕ) (feed : IsFirstByte (is_byte 10) (slice_range piece start (length piece)) (Some at)) where
    at_feed : FeedAt (drop start piece) at
    at_feed =
        let is : IsFirstByte (is_byte 10) (drop start piece) (Some at) = subst (λ x. IsFirstByte (is_byte 10) x (Some at)) rest_is feed in
        FeedAt-found (drop start piece) at is.0 is.1

    up_to : (more : List ℕ) → take (start + (at + 1)) piece ++ more ≡ take start piece ++ (take at (drop start piece) ++ 10 ∷ more)
    up_to more =
        let t = take at (drop start piece) in
        ap (λ x. x ++ more) (take_on start (at + 1) piece r.within ∙ ap (λ x. take start piece ++ x) at_feed.front)
        ∙ append_assoc (take start piece) (t ++ 10 ∷ []) more ∙ ap (λ x. take start piece ++ x) (append_assoc t (10 ∷ []) more)

    -- the line and those behind it
    ended : (line : LineText) → Fits is_begun line → (more : List ℕ) →
        others_in (lines_after line (take (start + (at + 1)) piece ++ more)) ≡ others_in (joined (here start line) (take at (drop start piece)) ∷ lines_after (Text []) more)
    ended line fits more =
        let t = take at (drop start piece) in
        ap (λ x. others_in (lines_after line x)) (up_to more) ∙ r.counts line fits (t ++ 10 ∷ more)
        ∙ ap others_in (lines_line (here start line) t more at_feed.unbroken)

    pub one_to_feed : IsCut is_begun (take (start + (at + 1)) piece)
    one_to_feed line fits =
        let all = ap (λ x. others_in (lines_after line x)) (append-nil (take (start + (at + 1)) piece)) in
        omega (arith, all, ended line fits [], one_other (joined (here start line) (take at (drop start piece))))

    first_is : begins_other (take at (drop start piece)) ≡ not (is_plain (get_or piece start 0))
    first_is =
        let same : start + 0 ≡ start = omega arith in
        begins (drop start piece) at at_feed ∙ ap (λ c. not (is_plain c)) (get_or-drop start piece 0 0 ∙ ap (λ n. get_or piece n 0) same)

    -- It isn't plain, or was begun.
    pub cut_at_feed : ((is_begun && (start == 0)) || not (is_plain (get_or piece start 0))) ≡ true →
        (is_begun ≡ true) ⊎ (list_any begins_other (parts (take (start + (at + 1)) piece)) ≡ true)
    cut_at_feed is_last = by is_begun (start == 0) (not (is_plain (get_or piece start 0))) is_last refl where
      other : not (is_plain (get_or piece start 0)) ≡ true → list_any begins_other (parts (take (start + (at + 1)) piece)) ≡ true
      other is =
          let t = take at (drop start piece) in
          ap (λ x. list_any begins_other (parts x)) (sym (append-nil (take (start + (at + 1)) piece)) ∙ up_to [])
          ∙ r.keeps (t ++ 10 ∷ []) (ap (list_any begins_other) (parts_line t [] at_feed.unbroken) ∙ ap (λ b. b || list_any begins_other (parts [])) (first_is ∙ is))

      by : (b s o : Bool) → ((b && s) || o) ≡ true → not (is_plain (get_or piece start 0)) ≡ o → (b ≡ true) ⊎ (list_any begins_other (parts (take (start + (at + 1)) piece)) ≡ true)
      by true s o is same = inl refl
      by false s o is same = inr (other (same ∙ is))

    not_begun : (b : Bool) → (b && true) ≡ false → b ≡ false
    not_begun true is = absurd (cc)
    not_begun false is = refl

    -- It is plain, and wasn't begun.
    pub reached : ((is_begun && (start == 0)) || not (is_plain (get_or piece start 0))) ≡ false → Reached is_begun piece (start + (at + 1))
    reached not_last = record {
      within = omega (arith, at_feed.within, length-drop start piece);
      counts = λ line fits more.
          ended line fits more
          ∙ plain_line (here start line) (take at (drop start piece)) (lines_after (Text []) more) (none start line fits (first_of (is_begun && (start == 0)) (not (is_plain (get_or piece start 0))) not_last)) (first_is ∙ second_of (is_begun && (start == 0)) (not (is_plain (get_or piece start 0))) not_last)
          ∙ ap (λ n. others_in (lines_after (here n line) more)) (later start at);
      keeps = λ more is.
          ap (λ x. list_any begins_other (parts x)) (up_to more)
          ∙ r.keeps (take at (drop start piece) ++ 10 ∷ more)
          (ap (list_any begins_other) (parts_line (take at (drop start piece)) more at_feed.unbroken) ∙ or_true (begins_other (take at (drop start piece))) (list_any begins_other (parts more)) is);
    }
      where
        first_of : (a b : Bool) → (a || b) ≡ false → a ≡ false
        first_of true b is = absurd (cc)
        first_of false b is = refl

        second_of : (a b : Bool) → (a || b) ≡ false → b ≡ false
        second_of true b is = absurd (cc)
        second_of false b is = is

        later : (n m : ℕ) → suc (n + m) ≡ n + (m + 1)
        later n m = omega arith

        none : (n : ℕ) (line : LineText) → Fits is_begun line → (is_begun && (n == 0)) ≡ false → kept_of (here n line) ≡ 0
        none zero line fits is = fits (not_begun is_begun is)
        none (suc n) line fits is = refl

-- ---- a piece that is one line

whole_of : (t : List ℕ) → list_any is_feed t ≡ false → Whole t
whole_of [] none = refl
whole_of (c ∷ cs) none = by (is_feed c) none (whole_of cs) where
  by : (b : Bool) → (b || list_any is_feed cs) ≡ false → (list_any is_feed cs ≡ false → Whole cs) → cond b ([] ∷ parts cs) (onto_first c (parts cs)) ≡ (c ∷ cs) ∷ []
  by true is later = absurd (cc)
  by false is later = ap (onto_first c) (later is)

pub one_line : (line : LineText) (piece text : List ℕ) → piece ≡ text ++ 10 ∷ [] → list_any is_feed text ≡ false → others_in (lines_after line piece) ≤ 1
one_line line piece text is none =
    let lines = ap (lines_after line) is ∙ lines_line line text [] (whole_of text none) in
    omega (arith, ap others_in lines, one_other (joined line text))
