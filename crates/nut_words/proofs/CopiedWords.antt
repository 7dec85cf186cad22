-- The words of a line, with the copied ones kept apart.
use Rattle.std.proofs.Common.{◌≡◌, ◌≢◌, ℕ, suc, ◌+◌, ◌<◌, List, [], ◌∷◌, ◌++◌, All, length, map, take, get_or, refl, sym, ap, subst, ◌∙◌, slice_set, arith}
use Rattle.std.proofs.lemmas.List.{length-set, set-append_left, get_or-set_same, get_or-set_other, take_more, length-map, map-append}
use Rattle.std.specs.Borrow.{Bor}
use Rattle.std.proofs.Math.Seq.{set-append_seam}
use Rattle.nut_words.specs.declared.words.CopiedWord.{CopiedWord}
use Rattle.nut_words.specs.declared.words.Words.TheInside.{Inside}
use Rattle.nut_words.specs.inside.WordsInside.{with_copied, texts_inside, HavePlaces}

pub length-with_copied : (copied : List CopiedWord) (words : List (List ℕ)) → length (with_copied copied words) ≡ length words
length-with_copied [] words = refl
length-with_copied (w ∷ copied) words = length-with_copied copied (slice_set words w.place w.text.items) ∙ length-set words w.place w.text.items

-- The last copy is put over the others.
last_copied : (copied : List CopiedWord) (w : CopiedWord) (words : List (List ℕ)) → with_copied (copied ++ w ∷ []) words ≡ slice_set (with_copied copied words) w.place w.text.items
last_copied [] w words = refl
last_copied (v ∷ copied) w words = last_copied copied w (slice_set words v.place v.text.items)

-- one word more
pub more_words : (copied : List CopiedWord) (words : List (List ℕ)) (text : List ℕ) → All (λ (w : CopiedWord). w.place < length words) copied
    → with_copied copied (words ++ text ∷ []) ≡ with_copied copied words ++ text ∷ []
more_words [] words text places = refl
more_words (w ∷ copied) words text places =
    let words' = slice_set words w.place w.text.items in
    let places' : All (λ (v : CopiedWord). v.place < length words') copied = λ k d within. omega (arith, places (suc k) d (omega (arith, within)), length-set words w.place w.text.items) in
    ap (with_copied copied) (set-append_left words (text ∷ []) w.place w.text.items (places 0 w (omega arith))) ∙ more_words copied words' text places'

-- one copy more, as the last word
pub copied_more : (copied : List CopiedWord) (w : CopiedWord) (words : List (List ℕ)) → All (λ (w : CopiedWord). w.place < length words) copied → w.place ≡ length words
    → with_copied (copied ++ w ∷ []) (words ++ [] ∷ []) ≡ with_copied copied words ++ w.text.items ∷ []
copied_more copied w words places last =
    let before = with_copied copied words in
    last_copied copied w (words ++ [] ∷ [])
    ∙ ap (λ ws. slice_set ws w.place w.text.items) (more_words copied words [] places)
    ∙ ap (λ n. slice_set (before ++ [] ∷ []) n w.text.items) (last ∙ sym (length-with_copied copied words))
    ∙ set-append_seam before [] [] w.text.items

-- the words with the first n + 1 copies put in
up_to : (copied : List CopiedWord) (n : ℕ) (d : CopiedWord) (words : List (List ℕ)) → n < length copied
    → with_copied (take (n + 1) copied) words ≡ slice_set (with_copied (take n copied) words) (get_or copied n d).place (get_or copied n d).text.items
up_to copied n d words within = ap (λ c. with_copied c words) (take_more copied n d within) ∙ last_copied (take n copied) (get_or copied n d) words

pub here : (copied : List CopiedWord) (n : ℕ) (d : CopiedWord) (words : List (List ℕ)) (place : ℕ) → n < length copied → (get_or copied n d).place ≡ place
    → All (λ (w : CopiedWord). w.place < length words) copied
    → get_or (with_copied (take (n + 1) copied) words) place [] ≡ (get_or copied n d).text.items
here copied n d words place within is places =
    let w = get_or copied n d in
    let before = with_copied (take n copied) words in
    ap (λ ws. get_or ws place []) (up_to copied n d words within ∙ ap (λ p. slice_set before p w.text.items) is)
    ∙ get_or-set_same before place w.text.items [] (omega (arith, length-with_copied (take n copied) words, places n d within, is))

pub elsewhere : (copied : List CopiedWord) (n : ℕ) (d : CopiedWord) (words : List (List ℕ)) (place : ℕ) → n < length copied → (get_or copied n d).place ≢ place
    → get_or (with_copied (take (n + 1) copied) words) place [] ≡ get_or (with_copied (take n copied) words) place []
elsewhere copied n d words place within other =
    ap (λ ws. get_or ws place []) (up_to copied n d words within)
    ∙ get_or-set_other (with_copied (take n copied) words) (get_or copied n d).place place (get_or copied n d).text.items [] (λ e. other (sym e))

-- what the fields of a line's words hold
module _ (w : Inside) (words : List (List ℕ)) (is : texts_inside w ≡ words) where
  -- there are as many words as places
  pub counted : length w.lent.items ≡ length words
  counted = sym (length-with_copied w.copied.items (map (λ t. t.now) w.lent.items) ∙ length-map w.lent.items (λ t. t.now)) ∙ ap length is

  places : HavePlaces w → All (λ (copied : CopiedWord). copied.place < length (map (λ t. t.now) w.lent.items)) w.copied.items
  places have k d within = omega (arith, have k d within, length-map w.lent.items (λ t. t.now))

  -- a word more that lies in the line
  pub one_more : (text : Bor (List ℕ)) (lent : List (Bor (List ℕ))) → HavePlaces w → lent ≡ w.lent.items ++ text ∷ []
      → with_copied w.copied.items (map (λ t. t.now) lent) ≡ words ++ text.now ∷ []
  one_more text lent have grown =
      ap (λ l. with_copied w.copied.items (map (λ t. t.now) l)) grown
      ∙ ap (with_copied w.copied.items) (map-append (λ t. t.now) w.lent.items (text ∷ []))
      ∙ more_words w.copied.items (map (λ t. t.now) w.lent.items) text.now (places have)
      ∙ ap (λ ws. ws ++ text.now ∷ []) is

  -- one more word, which is a copy
  pub one_copy_more : (copy : CopiedWord) (copied : List CopiedWord) (text : Bor (List ℕ)) (lent : List (Bor (List ℕ))) → HavePlaces w → copied ≡ w.copied.items ++ copy ∷ []
      → lent ≡ w.lent.items ++ text ∷ [] → text.now ≡ [] → copy.place ≡ length w.lent.items
      → with_copied copied (map (λ t. t.now) lent) ≡ words ++ copy.text.items ∷ []
  one_copy_more copy copied text lent have more grown nothing last =
      let before = map (λ t. t.now) w.lent.items in
      ap (λ c. with_copied c (map (λ t. t.now) lent)) more
      ∙ ap (λ l. with_copied (w.copied.items ++ copy ∷ []) (map (λ t. t.now) l)) grown
      ∙ ap (with_copied (w.copied.items ++ copy ∷ [])) (map-append (λ t. t.now) w.lent.items (text ∷ []) ∙ ap (λ t. before ++ t ∷ []) nothing)
      ∙ copied_more w.copied.items copy before (places have) (last ∙ sym (length-map w.lent.items (λ t. t.now)))
      ∙ ap (λ ws. ws ++ copy.text.items ∷ []) is

  -- The word at a place that a copy has is that copy.
  pub copy_there : (copied : List CopiedWord) (i : ℕ) (text : List ℕ) → HavePlaces w → copied ≡ w.copied.items
      → ((words : List (List ℕ)) → All (λ (w : CopiedWord). w.place < length words) copied → get_or (with_copied copied words) i [] ≡ text)
      → text ≡ get_or words i []
  copy_there copied i text have same tells =
      let before = map (λ t. t.now) w.lent.items in
      sym (tells before (subst (All (λ (w : CopiedWord). w.place < length before)) (sym same) (places have)))
      ∙ ap (λ c. get_or (with_copied c before) i []) same
      ∙ ap (λ ws. get_or ws i []) is
