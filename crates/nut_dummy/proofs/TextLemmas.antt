-- The text of lines, put together from its parts.
use Rattle.std.proofs.Common.{◌≡◌, ℕ, true, false, List, [], ◌∷◌, ◌++◌, codes, refl, sym, ap, ◌∙◌, append_assoc}
use Rattle.std.proofs.lemmas.List.{append-nil}
use Rattle.nut_words.specs.Quoting.{word_text, quoted}
use Rattle.nut_proto.specs.Lines.{line}
use Rattle.nut_dummy.specs.Telling.{Message, text, limits, value_message, variable_messages}

pub text_nil : text [] ≡ []
unfolding text
text_nil = refl

pub text_cons : (m : Message) (ms : List Message) → text (m ∷ ms) ≡ line m ++ text ms
unfolding text
text_cons m ms = refl

pub text_append : (ms ns : List Message) → text (ms ++ ns) ≡ text ms ++ text ns
unfolding text
text_append [] ns = refl
text_append (m ∷ ms) ns = ap (λ t. line m ++ t) (text_append ms ns) ∙ sym (append_assoc (line m) (text ms) (text ns))

joined_parts : (w q : List ℕ) → (w ++ (32 ∷ (q ++ []))) ++ 10 ∷ [] ≡ w ++ (32 ∷ (q ++ 10 ∷ []))
joined_parts w q = append_assoc w (32 ∷ (q ++ [])) (10 ∷ []) ∙ ap (λ t. w ++ (32 ∷ (t ++ 10 ∷ []))) (append-nil q)

-- the line of a value
value_text : (name value : List ℕ) → line (value_message name value) ≡ codes "SETINFO " ++ (word_text name ++ (32 ∷ (quoted value ++ 10 ∷ [])))
unfolding line
value_text name value = ap (λ t. codes "SETINFO " ++ t) (joined_parts (word_text name) (quoted value))

pub text_value : (name value : List ℕ) → text (variable_messages false name value) ≡ codes "SETINFO " ++ (word_text name ++ (32 ∷ (quoted value ++ 10 ∷ [])))
text_value name value =
    text_cons (value_message name value) [] ∙ ap (λ t. line (value_message name value) ++ t) text_nil ∙ append-nil (line (value_message name value)) ∙ value_text name value

grouped : (out s w q : List ℕ) → ((((out ++ s) ++ w) ++ 32 ∷ []) ++ q) ++ 10 ∷ [] ≡ out ++ (s ++ (w ++ (32 ∷ (q ++ 10 ∷ []))))
grouped out s w q = simp append_assoc

pub put_together : (out name value : List ℕ) → ((((out ++ codes "SETINFO ") ++ word_text name) ++ 32 ∷ []) ++ quoted value) ++ 10 ∷ []
    ≡ out ++ text (variable_messages false name value)
put_together out name value = grouped out (codes "SETINFO ") (word_text name) (quoted value) ∙ ap (λ t. out ++ t) (sym (text_value name value))

pub with_limits : (name value : List ℕ) → text (variable_messages true name value) ≡ text (variable_messages false name value) ++ text (limits name)
with_limits name value = text_append (variable_messages false name value) (limits name)
