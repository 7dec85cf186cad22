-- How a piece is heard by its lines.
use Rattle.std.proofs.Common.{◌≡◌, ℕ, ◌<◌, true, false, eqb, List, [], ◌∷◌, ◌++◌, length, take, Some, slice_get, refl, sym, ◌∙◌, ap, ap₂, arith, inl, inr}
use Rattle.std.proofs.lemmas.Bool.{cases_Bool, eqb-false}
use Rattle.std.proofs.lemmas.List.{append-nil, append_assoc}
use Rattle.nut_words.specs.Hearing.{StopsAt, heard_all}
use Rattle.nut_words.specs.Lines.{LineText, Text, joined, lines_after, rest, rest_after}
use Rattle.nut_words.proofs.HearLemmas.{stops_within}
use Rattle.nut_words.proofs.StreamGrowth.{rest-append, rest_within}
use Rattle.nut_server_spec.specs.Acceptance.{front, line_feeds}
use Rattle.nut_server.proofs.Feeds.{lines_counted, lines_feed, lines_of_front, lines_other, rest_feed}

-- What takes bytes one by one hears their lines: each byte is added to the unfinished line, and at a line feed that line
-- is heard.
pub record HearsLines {S : Type 0} (bytes : List ℕ → S → S) (heard : LineText → S → S) (unfinished : LineText → S → S) : Type 0 where
  pub none : (s : S) → bytes [] s ≡ s
  pub feed : (b : ℕ) (p : List ℕ) (r : LineText) (s : S) → eqb b 10 ≡ true → bytes (b ∷ p) (unfinished r s) ≡ bytes p (unfinished (Text []) (heard r s))
  pub other : (b : ℕ) (p : List ℕ) (r : LineText) (s : S) → eqb b 10 ≡ false → bytes (b ∷ p) (unfinished r s) ≡ bytes p (unfinished (joined r (b ∷ [])) s)

-- after a piece, behind the bytes b
pub piece_heard : {S : Type 0} {bytes : List ℕ → S → S} {heard unfinished : LineText → S → S} → HearsLines bytes heard unfinished → (b p : List ℕ) (s : S)
    → bytes p (unfinished (rest b) s) ≡ unfinished (rest (b ++ p)) (heard_all heard (lines_after (rest b) p) s)
piece_heard {unfinished = unfinished} hears b [] s = hears.none (unfinished (rest b) s) ∙ ap (λ b. unfinished (rest b) s) (sym (append-nil b))
piece_heard {bytes = bytes} {heard = heard} {unfinished = unfinished} hears b (c ∷ p) s =
    let next = b ++ c ∷ [] in
    let whole : rest (next ++ p) ≡ rest (b ++ c ∷ p) = ap rest (append_assoc b (c ∷ []) p) in
    elim (cases_Bool (eqb c 10)) [
      | inl e ↦
          hears.feed c p (rest b) s e
          ∙ ap (λ r. bytes p (unfinished r (heard (rest b) s))) (sym (rest_feed b c e))
          ∙ piece_heard hears next p (heard (rest b) s)
          ∙ ap₂ unfinished whole (ap (λ ls. heard_all heard ls s) (sym (lines_feed b c p e)))
      | inr e ↦
          hears.other c p (rest b) s e
          ∙ ap (λ r. bytes p (unfinished r s)) (sym (rest_within b c (eqb-false c 10 e)))
          ∙ piece_heard hears next p s
          ∙ ap₂ unfinished whole (ap (λ ls. heard_all heard ls s) (sym (lines_other b c p e)))
    ]

-- All lines of a piece were heard, and what follows them was kept.
pub heard_whole : {S : Type 0} {bytes : List ℕ → S → S} {heard unfinished : LineText → S → S} → HearsLines bytes heard unfinished
    → (b p : List ℕ) (r left : LineText) (s started after : S) → r ≡ rest b → unfinished r s ≡ started → left ≡ rest_after r p → after ≡ heard_all heard (lines_after r p) s
    → unfinished left after ≡ bytes p started
heard_whole {bytes = bytes} {heard = heard} {unfinished = unfinished} hears b p r left s started after here began is told =
    ap₂ unfinished (is ∙ ap (λ r. rest_after r p) here ∙ sym (rest-append b p)) (told ∙ ap (λ r. heard_all heard (lines_after r p) s) here)
    ∙ sym (piece_heard hears b p s)
    ∙ ap (bytes p) (ap (λ r. unfinished r s) (sym here) ∙ began)

-- Behind `done` of these lines, which a piece completes, it stopped at one.
pub record StopsIn {S : Type 0} (bytes : List ℕ → S → S) (unfinished : LineText → S → S) (Stops : LineText → S → Type 0) (lines : List LineText) (p : List ℕ) (started : S) (done : ℕ) : Type 0 where
  pub few : done < line_feeds p
  pub left : LineText
  pub now : S
  pub is : bytes (front done p) started ≡ unfinished left now
  pub line : LineText
  pub nth : slice_get lines done ≡ Some line
  pub stops : Stops line now

-- the element behind others
seam_at : {A : Type 0} (xs : List A) (x : A) (ys : List A) → slice_get (xs ++ x ∷ ys) (length xs) ≡ Some x
seam_at [] x ys = refl
seam_at (y ∷ xs) x ys = seam_at xs x ys

pub stops_in : {S : Type 0} {bytes : List ℕ → S → S} {heard unfinished : LineText → S → S} {Stops : LineText → S → Type 0} → HearsLines bytes heard unfinished
    → (b p : List ℕ) (r : LineText) (s started : S) (done : ℕ) → r ≡ rest b → unfinished r s ≡ started → StopsAt heard Stops (lines_after r p) s done
    → StopsIn bytes unfinished Stops (lines_after r p) p started done
stops_in {bytes = bytes} {heard = heard} {unfinished = unfinished} hears b p r s started done here began at =
    let within = stops_within at in
    record {
      few = omega (arith, within.0, ap (λ r. length (lines_after r p)) here, lines_counted b p);
      left = rest (b ++ front done p);
      now = heard_all heard (take done (lines_after r p)) s;
      is =
          ap (bytes (front done p)) (sym began ∙ ap (λ r. unfinished r s) here)
          ∙ piece_heard hears b (front done p) s
          ∙ ap (λ ls. unfinished (rest (b ++ front done p)) (heard_all heard ls s)) (lines_of_front done b p ∙ ap (λ r. take done (lines_after r p)) (sym here));
      line = at.line;
      nth = ap₂ slice_get at.parted at.count ∙ seam_at at.earlier at.line at.later;
      stops = within.1;
    }
