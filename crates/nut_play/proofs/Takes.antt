-- Bytes that a server's connection takes piece by piece.
use Rattle.std.proofs.Common.{◌≡◌, ◌+◌, ◌++◌, ℕ, ◌==◌, Bool, true, false, inl, inr, List, [], ◌∷◌, take, drop, Option, Some, None, is_some, refl, sym, ◌∙◌, ap, append-nil, drop-drop}
use Rattle.std.specs.Option.{option_map}
use Rattle.std.proofs.Math.Seq.{take-add}
use Rattle.std.proofs.lemmas.List.{append_assoc}
use Rattle.std.proofs.lemmas.Bool.{cases_Bool}
use Rattle.nut_server_spec.specs.Event.{Took}
use Rattle.nut_server_spec.specs.Content.{Session, Content}
use Rattle.nut_server_spec.specs.Acceptance.{session_of}
use Rattle.nut_server_spec.specs.machine.Machine.{advance, update}
use Rattle.nut_server_spec.proofs.Sessions.{session_of-update}
use Rattle.nut_fleet.specs.machine.Going.{put_on}

update-twice : (c a b : ℕ) (ks : List Session) → update c (λ k. record k { waits = drop b k.waits }) (update c (λ k. record k { waits = drop a k.waits }) ks) ≡ update c (λ k. record k { waits = drop (a + b) k.waits }) ks
update-twice c a b [] = refl
update-twice c a b (k ∷ ks) = elim (cases_Bool (k.number == c)) [
  | inl e ↦ rw (e, e) (ap (λ w. let x : Session = record k { waits = w } in x ∷ ks) (drop-drop b a k.waits))
  | inr e ↦ rw (e, e) (ap (λ x. k ∷ x) (update-twice c a b ks))
]

pub took-twice : (s : Content) (c a b : ℕ) → advance (advance s (Took c a)) (Took c b) ≡ advance s (Took c (a + b))
took-twice s c a b = ap (λ ks. let x : Content = record s { sessions = ks } in x) (update-twice c a b s.sessions)

update-none : (c : ℕ) (ks : List Session) → update c (λ k. record k { waits = drop 0 k.waits }) ks ≡ ks
update-none c [] = refl
update-none c (k ∷ ks) = elim (cases_Bool (k.number == c)) [ inl e ↦ rw e refl | inr e ↦ rw e (ap (λ x. k ∷ x) (update-none c ks)) ]

pub took-none : (s : Content) (c : ℕ) → advance s (Took c 0) ≡ s
took-none s c = ap (λ ks. let x : Content = record s { sessions = ks } in x) (update-none c s.sessions)

pub still-open : (s : Content) (c n : ℕ) → is_some (session_of c (advance s (Took c n)).sessions) ≡ is_some (session_of c s.sessions)
still-open s c n = ap is_some (session_of-update c (λ k. record k { waits = drop n k.waits }) s.sessions (λ k. refl)) ∙ same (session_of c s.sessions)
  where
    same : (o : Option Session) → is_some (option_map (λ (k : Session). let x : Session = record k { waits = drop n k.waits } in x) o) ≡ is_some o
    same None = refl
    same (Some k) = refl

-- one more piece of the bytes that wait
pub one-more : (there : Bool) (n k : ℕ) (all pipe : List ℕ) → put_on there (take k (drop n all)) (put_on there (take n all) pipe) ≡ put_on there (take (n + k) all) pipe
one-more true n k all pipe = append_assoc pipe (take n all) (take k (drop n all)) ∙ ap (λ x. pipe ++ x) (sym (take-add n k all))
one-more false n k all pipe = refl

pub put-none : (there : Bool) (pipe : List ℕ) → put_on there [] pipe ≡ pipe
put-none true pipe = append-nil pipe
put-none false pipe = refl
