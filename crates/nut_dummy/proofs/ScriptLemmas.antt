-- How a script grows by a line.
use Rattle.std.proofs.Common.{◌≡◌, ℕ, ◌+◌, ◌∷◌, ◌++◌, List, [], Bool, ◌||◌, Ok, Err, Some, refl, sym, ap, ◌∙◌, arith, subst, append_assoc, length, length-append}
use Rattle.std.specs.Prelude.{is_some, slice_set, slice_index_or, map, if◌then◌else◌}
use Rattle.std.specs.List.{insert}
use Rattle.nut_state.specs.Sorted.{put, IsFound, IsFree, IsAscending}
use Rattle.nut_state.proofs.PutLemmas.{name-named, ascending-put}
use Rattle.nut_dummy.specs.Dummy.{declared}
use Rattle.nut_words.specs.Lines.{parts}
use Rattle.nut_dummy.specs.Memory.{Makes}
use Rattle.nut_dummy.specs.Script.{Step, Timeline, Script, timeline, steps_of, with_step, with_line, at_line, whole, no_script, read_lines, read_script, IsFaultOf, Fails}
use Rattle.nut_dummy.specs.declared.fault.ScriptFaultKind.{ScriptFaultKind}
use Rattle.nut_dummy.specs.declared.fault.ScriptFaultKind.TheVariants as kinds
use Rattle.nut_dummy.specs.declared.item.ScriptKind.{ScriptKind}

abbrev pub name_of : Timeline → List ℕ
name_of t = t.name

-- A variable of the script gets one more value.
pub step_found : (name : List ℕ) (step : Step) (variables : List Timeline) (i : ℕ) (v new : Timeline)
    → IsFound name_of name variables i → v ≡ slice_index_or variables i v → new ≡ record v { steps = v.steps ++ step ∷ [] }
    → slice_set variables i new ≡ with_step name step variables
step_found name step variables i v new f at to =
    let is : timeline name variables ≡ Some v = f.is v ∙ ap Some (sym at) in
    let own : v.name ≡ name = name-named name_of name variables v is in
    ap (slice_set variables i) (to ∙ ap (λ n. record { name = n; steps = v.steps ++ step ∷ [] }) own)
    ∙ sym (f.replaced (record { name = name; steps = v.steps ++ step ∷ [] }))
    ∙ ap (λ o. put name_of name (Some (record { name = name; steps = steps_of o ++ step ∷ [] })) variables) (sym is)

-- A variable of the script needs no further room.
pub step_taken : (name : List ℕ) (step : Step) (variables : List Timeline) (i : ℕ) (v new : Timeline) (small : Bool)
    → IsFound name_of name variables i → v ≡ slice_index_or variables i v → new ≡ record v { steps = v.steps ++ step ∷ [] }
    → (if is_some (timeline name variables) || small then Ok (with_step name step variables) else Err kinds.PastLimit) ≡ Ok (slice_set variables i new)
step_taken name step variables i v new small f at to =
    ap (λ o. if is_some o || small then Ok (with_step name step variables) else Err kinds.PastLimit) (f.is v ∙ ap Some (sym at))
    ∙ ap Ok (sym (step_found name step variables i v new f at to))

-- A new variable gets its first value.
pub step_free : (name : List ℕ) (step : Step) (variables : List Timeline) (i : ℕ)
    → IsFree name_of name variables i
    → insert variables i (record { name = name; steps = step ∷ [] }) ≡ with_step name step variables
step_free name step variables i f =
    sym (f.inserted (record { name = name; steps = step ∷ [] }))
    ∙ ap (λ o. put name_of name (Some (record { name = name; steps = steps_of o ++ step ∷ [] })) variables) (sym f.is)

pub ascending_step : (name : List ℕ) (step : Step) (variables : List Timeline) → IsAscending (map name_of variables)
    → IsAscending (map name_of (with_step name step variables))
ascending_step name step variables h =
    ascending-put name_of name (Some (record { name = name; steps = steps_of (timeline name variables) ++ step ∷ [] })) variables refl h

-- ---- line by line

module _ (kind : ScriptKind) where
  pub read_lines-more : (before after : Script) (n : ℕ) (line : List ℕ) (lines : List (List ℕ)) → with_line kind before line ≡ Ok after
      → read_lines kind before n (line ∷ lines) ≡ read_lines kind after (n + 1) lines
  unfolding read_lines
  read_lines-more before after n line lines h = ap (λ r. at_line n r (λ more. read_lines kind more (n + 1) lines)) h

  fault_at : (before : Script) (n : ℕ) (k : ScriptFaultKind) (line : List ℕ) (lines : List (List ℕ)) → with_line kind before line ≡ Err k
      → read_lines kind before n (line ∷ lines) ≡ Err (n, k)
  unfolding read_lines
  fault_at before n k line lines h = ap (λ r. at_line n r (λ more. read_lines kind more (n + 1) lines)) h

  -- a fault ends the reading
  pub read_lines-fault : (before : Script) (n : ℕ) (k : ScriptFaultKind) (line : List ℕ) (lines : List (List ℕ)) → Fails k (with_line kind before line)
      → IsFaultOf n k (read_lines kind before n (line ∷ lines))
  read_lines-fault before n kinds.Memory line lines h = tt
  read_lines-fault before n _ line lines h = fault_at before n _ line lines h

  pub read_lines-done : (before : Script) (n : ℕ) → read_lines kind before n [] ≡ whole kind before
  unfolding read_lines
  read_lines-done before n = refl

-- a further line makes the script that it makes of the one before
pub makes_more : (kind : ScriptKind) (front : List (List ℕ)) (line : List ℕ) (before after : Script) → Makes kind front before → with_line kind before line ≡ Ok after
    → Makes kind (front ++ line ∷ []) after
makes_more kind front line before after makes takes more =
    ap (read_lines kind no_script 1) (append_assoc front (line ∷ []) more)
    ∙ makes (line ∷ more)
    ∙ read_lines-more kind before after (length front + 1) line more takes
    ∙ ap (λ n. read_lines kind after (n + 1) more) (sym (length-append front (line ∷ [])))

-- a text is read on from the script that its first lines made
pub reads_on : (kind : ScriptKind) (bytes : List ℕ) (front rest : List (List ℕ)) (s : Script) (n : ℕ) → parts bytes ≡ front ++ rest → n ≡ length front → Makes kind front s
    → read_script kind bytes ≡ read_lines kind s (n + 1) rest
reads_on kind bytes front rest s n parted count makes =
    ap (read_lines kind no_script 1) parted ∙ makes rest ∙ ap (λ m. read_lines kind s (m + 1) rest) (sym count)

-- ---- the variables with which a driver begins

-- a variable of the script is left as it is
pub declared_found : (name : List ℕ) (variables : List Timeline) (i : ℕ) → IsFound name_of name variables i → variables ≡ declared name variables
declared_found name [] i f = absurd (omega (arith, f.within))
declared_found name (v ∷ vs) i f =
    ap (λ b. if b then (v ∷ vs) else put name_of name (Some (record { name = name; steps = [] })) (v ∷ vs)) (sym (ap is_some (f.is v)))

pub ascending_free : (name : List ℕ) (variables : List Timeline) (i : ℕ) → IsFree name_of name variables i → IsAscending (map name_of variables)
    → IsAscending (map name_of (insert variables i (record { name = name; steps = [] })))
ascending_free name variables i f h =
    subst (λ vs. IsAscending (map name_of vs)) (f.inserted (record { name = name; steps = [] }))
    (ascending-put name_of name (Some (record { name = name; steps = [] })) variables refl h)
