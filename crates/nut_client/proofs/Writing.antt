-- How the bytes in a writer grow.
use Rattle.std.proofs.Common.{◌≡◌, ℕ, Bool, true, false, inl, inr, ◌++◌, List, [], take, drop, ◌+◌, subst, Option, Some, None, sym, ap, ◌∙◌}
use Rattle.std.proofs.Math.Seq.{take-add}
use Rattle.std.proofs.lemmas.List.{append_assoc, append-nil, take-append-drop}
use Rattle.std.specs.Io.KnownBytes.{Appends, Keeps}
use Rattle.nut_client.specs.Output.{HasAll, HasText, IsCutShort, Puts, Written}

pub appends_on : (a b c : Option (List ℕ)) (x y : List ℕ) → Appends a b x → Appends b c y → Appends a c (x ++ y)
appends_on None b c x y f g = tt
appends_on (Some xs) (Some ys) (Some zs) x y f g = g ∙ ap (λ l. l ++ y) f ∙ append_assoc xs x y
appends_on (Some xs) (Some ys) None x y f g = g
appends_on (Some xs) None c x y f g = absurd f

pub keeps_on : (a b c : Option (List ℕ)) (x : List ℕ) → Appends a b x → Keeps b c → Appends a c x
keeps_on None b c x f g = tt
keeps_on (Some xs) (Some ys) (Some zs) x f g = g ∙ f
keeps_on (Some xs) (Some ys) None x f g = g
keeps_on (Some xs) None c x f g = absurd f

-- more was written after a beginning
pub wrote_more : (a b c : Option (List ℕ)) (at n : ℕ) (bytes rest : List ℕ) → rest ≡ drop at bytes → Appends a b (take at bytes) → Appends b c (take n rest) → Appends a c (take (at + n) bytes)
wrote_more a b c at n bytes rest is first more =
    subst (λ x. Appends a c x) (ap (λ l. take at bytes ++ take n l) is ∙ sym (take-add at n bytes)) (appends_on a b c (take at bytes) (take n rest) first more)

abbrev pub taken : Option (List ℕ) → Option (List ℕ) → Type 0 → Written
taken a b failed = record { before = a; after = b; has_failed = failed }

-- a beginning was written, and then the output failed
pub cut_at : (a b : Option (List ℕ)) (failed : Type 0) (at : ℕ) (bytes : List ℕ) → Appends a b (take at bytes) → failed → IsCutShort bytes (taken a b failed)
cut_at a b failed at bytes first lost = (lost, (take at bytes, drop at bytes, sym (take-append-drop at bytes), first))

-- what follows if all was taken
pub put_all : (done : Bool) (bytes : List ℕ) (w : Written) → done ≡ true → Puts done bytes w → HasAll bytes w
put_all true bytes w is all = all
put_all false bytes w is cut = absurd (cc)

pub put_part : (done : Bool) (bytes : List ℕ) (w : Written) → done ≡ false → Puts done bytes w → IsCutShort bytes w
put_part true bytes w is all = absurd (cc)
put_part false bytes w is cut = cut

-- a text that was cut short is cut short with more after it
pub cut_before : (w : Written) (x y : List ℕ) → IsCutShort x w → IsCutShort (x ++ y) w
cut_before w x y c = (c.0, (c.1.0, c.1.1 ++ y, ap (λ l. l ++ y) c.1.2 ∙ append_assoc c.1.0 c.1.1 y, c.1.3))

-- and with more before it
pub cut_behind : (a b c : Option (List ℕ)) (failed : Type 0) (x y : List ℕ) → Appends a b x → IsCutShort y (taken b c failed) → IsCutShort (x ++ y) (taken a c failed)
cut_behind a b c failed x y first cut =
    (cut.0, (x ++ cut.1.0, cut.1.1, ap (λ l. x ++ l) cut.1.2 ∙ sym (append_assoc x cut.1.0 cut.1.1), appends_on a b c x cut.1.0 first cut.1.3))

-- a part of a text after another
pub put_behind : (a b c : Option (List ℕ)) (failed : Type 0) (done : Bool) (x y : List ℕ) → Appends a b x → Puts done y (taken b c failed) → HasText (x ++ y) (taken a c failed)
put_behind a b c failed true x y first all = inl (all.0, appends_on a b c x y first all.1)
put_behind a b c failed false x y first cut = inr (cut_behind a b c failed x y first cut)

-- nothing was written
pub keeps_none : (a b : Option (List ℕ)) → Appends a b [] → Keeps a b
keeps_none None b h = tt
keeps_none (Some xs) (Some ys) h = h ∙ append-nil xs
keeps_none (Some xs) None h = h
