-- No server's name is as long as the room for it.
use Rattle.std.proofs.Common.{◌≡◌, ◌<◌, ◌≤◌, ◌+◌, ◌&&◌, ◌==◌, ℕ, Bool, true, List, length, take, drop, Option, Some, None, Result, Ok, Err, IsErr, codes, ◌++◌, option_map, if◌then◌else◌, refl, sym, subst, ap, inl, inr, arith, position}
use Rattle.std.proofs.lemmas.Bool.{cases_Bool, cases_lt, leb-true, lt-ltb}
use Rattle.std.specs.Prelude.{is_err, nat_le}
use Rattle.std.proofs.lemmas.List.{length-take, length-drop}
use Rattle.std.specs.Option.{option_map_or}
use Rattle.nut_words.specs.Number.{digits_value, is_natural}
use Rattle.nut_words.specs.declared.limits.TheConstants.{UPS_NAME_MAX}
use Rattle.clap.proofs.WalkLemmas.{both}
use Rattle.nut_conf.specs.Faults.{◌>>=◌}
use Rattle.nut_conf.specs.Hosts.{is_host}
use Rattle.nut_conf.specs.Target.{host, located, or_fault, parted, target}
use Rattle.nut_conf.specs.Values.{name, number}
use Rattle.nut_conf.specs.declared.fault.FaultKind.{FaultKind}
use Rattle.nut_conf.specs.declared.fault.FaultKind.TheVariants.{BadNumber}
use Rattle.nut_conf.specs.declared.target.NameFault.{NameFault}
use Rattle.nut_conf.specs.declared.target.NameFault.TheVariants.{BadPort, BadUps}
use Rattle.nut_conf.specs.declared.limits.TheConstants.{HOST_MAX}

bind_fails : {X Y E : Type 0} (r : Result X E) (f : X → Result Y E) → IsErr r → IsErr (r >>= f)
bind_fails (Ok x) f bad = absurd (cc)
bind_fails (Err e) f bad = refl

host_is_short : (h : List ℕ) → is_host h ≡ true → length h ≤ HOST_MAX
host_is_short h is = leb-true _ _ (both _ _ (both _ _ is).0).1

natural_is_short : (h : List ℕ) → is_natural h ≡ true → length h ≤ 9
natural_is_short h is = leb-true _ _ (both _ _ (both _ _ is).0).1

long_host : (h : List ℕ) → HOST_MAX < length h → IsErr (host h)
long_host h long = elim (cases_Bool (is_host h)) [
  | inl is ↦ absurd (omega (arith, host_is_short h is, long))
  | inr isnt ↦ rw isnt refl
]

number_by : Bool → List ℕ → Result ℕ FaultKind
number_by b h = if b && nat_le 1 (digits_value h) && nat_le (digits_value h) 65535 then Ok (digits_value h) else Err BadNumber

long_number : (h : List ℕ) → 9 < length h → IsErr (number 1 65535 h)
unfolding number_by
long_number h long = elim (cases_Bool (is_natural h)) [
  | inl is ↦ absurd (omega (arith, natural_is_short h is, long))
  | inr isnt ↦ ap (λ b. is_err (number_by b h)) isnt
]

fault_fails : {X E F : Type 0} (f : F) (r : Result X E) → IsErr r → IsErr (or_fault f r)
fault_fails f (Ok x) bad = absurd (cc)
fault_fails f (Err e) bad = refl

then_fails : {X Y E : Type 0} (r : Result X E) (f : X → Result Y E) → ((x : X) → IsErr (f x)) → IsErr (r >>= f)
then_fails (Ok x) f bad = bad x
then_fails (Err e) f bad = refl

place : List ℕ → List ℕ → Result (List ℕ × ℕ) NameFault
place h p = host h >>= (λ x. or_fault BadPort (number 1 65535 p) >>= (λ n. Ok (x, n)))

parted_fails : (h : List ℕ) (i : ℕ) → 126 < length h → IsErr (place (take i h) (drop (i + 1) h))
unfolding place
parted_fails h i long = elim (cases_lt i 65) [
  | inl short ↦ then_fails (host (take i h)) (λ x. or_fault BadPort (number 1 65535 (drop (i + 1) h)) >>= (λ n. Ok (x, n)))
      (λ x. bind_fails (or_fault BadPort (number 1 65535 (drop (i + 1) h))) (λ n. Ok (x, n)) (fault_fails BadPort (number 1 65535 (drop (i + 1) h)) (long_number (drop (i + 1) h) (omega (arith, length-drop (i + 1) h, short, long)))))
  | inr more ↦ bind_fails (host (take i h)) (λ x. or_fault BadPort (number 1 65535 (drop (i + 1) h)) >>= (λ n. Ok (x, n)))
      (long_host (take i h) (omega (arith, length-take i h, more, long)))
]

located_fails : (h : List ℕ) (o : Option ℕ) → 126 < length h → IsErr (option_map_or (λ (p : List ℕ × List ℕ). place p.0 p.1) (option_map (λ i. (take i h, drop (i + 1) h)) o) (host h >>= (λ x. Ok (x, 3493))))
located_fails h None long = bind_fails (host h) (λ x. Ok (x, 3493)) (long_host h (omega (arith, long)))
located_fails h (Some i) long = parted_fails h i long

-- a name that is split here
by_parts : Option (List ℕ × List ℕ) → List ℕ → Result (List ℕ × List ℕ × ℕ) NameFault
by_parts o bytes =
    option_map_or (λ (p : List ℕ × List ℕ). or_fault BadUps (name UPS_NAME_MAX p.0) >>= (λ u. located p.1 >>= (λ l. Ok (u, l.0, l.1))))
    o (or_fault BadUps (name UPS_NAME_MAX bytes) >>= (λ u. Ok (u, codes "localhost", 3493)))

parted_at_u : (h : List ℕ) → parted 64 (codes "u@" ++ h) ≡ Some (codes "u", h)
parted_at_u h =
    ap (λ b. option_map (λ i. (take i (codes "u@" ++ h), drop (i + 1) (codes "u@" ++ h))) (if b then Some 1 else None)) (lt-ltb 1 (length (codes "u@" ++ h)) (omega arith))

u_is_named : or_fault BadUps (name UPS_NAME_MAX (codes "u")) ≡ Ok (codes "u")
u_is_named = refl

with_name : (r : Result (List ℕ) NameFault) (h : List ℕ) → r ≡ Ok (codes "u") → IsErr (located h) → IsErr {T = List ℕ × List ℕ × ℕ} (r >>= (λ u. located h >>= (λ l. Ok (u, l.0, l.1))))
with_name (Ok u) h is bad = bind_fails (located h) (λ l. Ok (u, l.0, l.1)) bad
with_name (Err e) h is bad = refl

pub long_server : (h : List ℕ) → 126 < length h → IsErr (target (codes "u@" ++ h))
unfolding place by_parts
long_server h long =
    let bad : IsErr (located h) = located_fails h (position (λ b. b == 58) h) long in
    subst (λ (o : Option (List ℕ × List ℕ)). IsErr (by_parts o (codes "u@" ++ h))) (sym (parted_at_u h)) (with_name (or_fault BadUps (name UPS_NAME_MAX (codes "u"))) h u_is_named bad)
