-- The texts of rows, one after another.
use Rattle.std.proofs.Common.{◌≡◌, ◌∙◌, ℕ, ◌+◌, ◌<◌, Bool, true, false, List, [], ◌∷◌, ◌++◌, length, map, flat_map, take, Some, None, refl, sym, ap, append_assoc}
use Rattle.std.specs.Prelude.{filter, slice_get, if◌then◌else◌}
use Rattle.std.proofs.lemmas.List.{append-nil}
use Rattle.std.proofs.lemmas.Grind.{flat_map-append}
use Rattle.nut_state.specs.Table.{Entry}
use Rattle.nut_proto.specs.declared.reply.Reply.{Reply}
use Rattle.nut_proto.specs.declared.reply.Reply.TheVariants as replies
use Rattle.nut_proto.specs.Replies.{reply_line}
use Rattle.nut_server_spec.specs.Answer.{guests_of, is_logged_in, shown}
use Rattle.nut_server_spec.specs.Content.{Session}
use Rattle.nut_server_spec.specs.Device.{Device}
use Rattle.nut_server_spec.specs.machine.Machine.{guest_of}
use Rattle.nut_server.specs.inside.Rows.{writable_text, client_text}
use Rattle.nut_server.proofs.Elements.{some_there, take_next}

-- the text of the first i rows and the next one
one_more : {X A : Type 0} (f : X → List A) (xs : List X) (i : ℕ) (x : X) → slice_get xs i ≡ Some x →
    flat_map f (take (i + 1) xs) ≡ flat_map f (take i xs) ++ f x
one_more f xs i x is =
    ap (flat_map f) (take_next xs i x is) ∙ flat_map-append f (take i xs) (x ∷ []) ∙ ap (λ row. flat_map f (take i xs) ++ row) (append-nil (f x))

-- the text with the next row appended
pub row_behind : {X A : Type 0} (f : X → List A) (xs : List X) (i : ℕ) (x : X) (before now after : List A) → slice_get xs i ≡ Some x →
    now ≡ before ++ flat_map f (take i xs) → after ≡ now ++ f x → after ≡ before ++ flat_map f (take (i + 1) xs)
row_behind f xs i x before now after is text row = rw (row, text, one_more f xs i x is) (append_assoc before (flat_map f (take i xs)) (f x))

-- a row, if the test holds, before others
row_kept : {X : Type 0} (row : X → Reply) (b : Bool) (x : X) (xs : List X) (text : List ℕ) → text ≡ flat_map reply_line (map row xs) →
    (if b then reply_line (row x) else []) ++ text ≡ flat_map reply_line (map row (if b then x ∷ xs else xs))
row_kept row true x xs text is = ap (λ t. reply_line (row x) ++ t) is
row_kept row false x xs text is = is

-- the rows of LIST RW
pub writable_rows : (ups : List ℕ) (d : Device) (vs : List Entry) →
    flat_map (writable_text ups d) vs ≡ flat_map reply_line (map (λ v. replies.Rw ups v.name (shown d v)) (filter (λ v. v.flags.writable) vs))
writable_rows ups d [] = refl
writable_rows ups d (v ∷ vs) = row_kept (λ v. replies.Rw ups v.name (shown d v)) v.flags.writable v (filter (λ v. v.flags.writable) vs) _ (writable_rows ups d vs)

-- the rows of LIST CLIENT
pub client_rows : (ups : List ℕ) (u : ℕ) (ks : List Session) →
    flat_map (client_text ups u) ks ≡ flat_map reply_line (map (λ g. replies.Client ups g.address) (guests_of u (map guest_of ks)))
client_rows ups u [] = refl
client_rows ups u (k ∷ ks) =
    row_kept (λ g. replies.Client ups g.address) (is_logged_in u k.login) (guest_of k) (guests_of u (map guest_of ks)) _ (client_rows ups u ks)

-- the row of a connection that is logged in to the UPS, and of one that isn't
pub client_shown : (ups : List ℕ) (u : ℕ) (k : Session) → is_logged_in u k.login ≡ true → client_text ups u k ≡ reply_line (replies.Client ups k.address)
client_shown ups u k is = rw is refl

pub client_hidden : (ups : List ℕ) (u : ℕ) (k : Session) (text : List ℕ) → is_logged_in u k.login ≡ false → text ≡ text ++ client_text ups u k
client_hidden ups u k text is = rw is (sym (append-nil _))

-- There is an element at each place within a list.
pub within_some : {X : Type 0} (xs : List X) (i : ℕ) → i < length xs → slice_get xs i ≡ None → ⊥
within_some xs i lt is = let never = sym is ∙ (some_there xs i lt).1 in cc
