use Rattle.std.proofs.Common.{◌≡◌, ◌++◌, ◌∷◌, [], ap, ◌∙◌, codes}
use Rattle.nut_words.specs.Quoting.{word_text, quoted}
use Rattle.nut_dummy.proofs.TextLemmas.{put_together}
use Rattle.nut_dummy.proofs.variable.put_value.Goals as goal

pub returns : goal.returns
returns c =
    let out = c.args.out.now.items in
    let name = c.args.name.now in
    let value = c.args.value.now in
    let a : c.extend_from_slice.new.self.items ≡ out ++ codes "SETINFO " = c.in_ok-extend_from_slice.ensures.items in
    let b : c.append_word.new.out.items ≡ (out ++ codes "SETINFO ") ++ word_text name = c.in_ok-append_word.ensures.ok ∙ ap (λ t. t ++ word_text name) a in
    let d : c.push.new.self.items ≡ ((out ++ codes "SETINFO ") ++ word_text name) ++ 32 ∷ [] = c.in_ok-push.ensures.items ∙ ap (λ t. t ++ 32 ∷ []) b in
    let e : c.append_quoted.new.out.items ≡ (((out ++ codes "SETINFO ") ++ word_text name) ++ 32 ∷ []) ++ quoted value = c.in_ok-append_quoted.ensures.ok ∙ ap (λ t. t ++ quoted value) d in
    c.in_ok-push-2.ensures.items ∙ ap (λ t. t ++ 10 ∷ []) e ∙ put_together out name value
