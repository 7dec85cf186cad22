-- The answers to plain queries.
use Rattle.std.proofs.Common.{◌≡◌, ℕ, ◌<◌, List, [], ◌++◌, Option, Result, Ok, Err, OnOk, length, map, get_or, ap, codes, subst, sym, ◌∙◌}
use Rattle.std.specs.Prelude.{MatchResult, slice_index_or}
use Rattle.std.specs.Borrow.{Bor}
use Rattle.std.proofs.lemmas.List.{get_or-map}
use Rattle.nut_proto.specs.declared.plain.PlainQuery.{PlainQuery}
use Rattle.nut_proto.specs.declared.plain.PlainQuery.TheVariants.{GetVar}
use Rattle.nut_proto.specs.PlainQueries.{HasFront, request_of, ups_of}
use Rattle.nut_proto.specs.declared.refusal.Refusal.{Refusal}
use Rattle.nut_proto.specs.declared.request.Request.TheVariants as requests
use Rattle.nut_server_spec.specs.Answer.{Answer, Caller, Line, Scene, answer, device_at, on_device, on_variable, refused, text_of, var_row}
use Rattle.nut_server_spec.specs.Command.{Asks}
use Rattle.nut_server_spec.specs.Configuration.{number_of_ups}
use Rattle.nut_server_spec.specs.Content.{Supply}
use Rattle.nut_server_spec.specs.Device.{Device, absent}
use Rattle.nut_server.specs.inside.Answers.{answer_from}
use Rattle.nut_server.specs.inside.Rows.{row_front}
use Rattle.nut_server.proofs.Results.{on_ok}

-- What follows from the UPS that was found follows from its name.
pub from_found : (s : Scene) (name : List ℕ) (found : Result (Bor Supply) Refusal) (next : Device → Answer)
    → MatchResult found (λ d. (next : Device → Answer) → on_device s name next ≡ next d.now.device) (λ refusal. (next : Device → Answer) → on_device s name next ≡ refused refusal)
    → answer_from found next ≡ on_device s name next
from_found s name (Ok device) next is = sym (is next)
from_found s name (Err refusal) next is = sym (is next)

-- The answer to GET VAR in two parts: what is before the variable, and the row of the variable, which is kept.
pub kept_text : (s : Scene) (k : Caller) (ups name front end : List ℕ) (u : ℕ) (d : Device)
    → ((next : Device → Answer) → on_device s ups next ≡ next (device_at s u)) → device_at s u ≡ d
    → text_of (on_variable name d (λ v. Line (var_row ups d v))) ≡ row_front (codes "VAR") ups ++ end → front ≡ row_front (codes "VAR") ups
    → front ++ end ≡ text_of (answer s k (Asks (requests.GetVar ups name)))
kept_text s k ups name front end u d on is ends begins =
    ap (λ f. f ++ end) begins ∙ sym ends ∙ ap (λ d. text_of (on_variable name d (λ v. Line (var_row ups d v)))) (sym is)
    ∙ ap text_of (sym (on (λ d. on_variable name d (λ v. Line (var_row ups d v)))))

pub kept_answer : (s : Scene) (k : Caller) (place : Option ℕ) (query : PlainQuery) (front ups variable : Bor (List ℕ)) (end : List ℕ) (u : ℕ) (d : Device)
    → query ≡ GetVar front ups variable → HasFront query → place ≡ number_of_ups (ups_of query) s.configuration.upses
    → ((name : List ℕ) → place ≡ number_of_ups name s.configuration.upses → (next : Device → Answer) → on_device s name next ≡ next (device_at s u)) → device_at s u ≡ d
    → ((ups : List ℕ) → text_of (on_variable variable.now d (λ v. Line (var_row ups d v))) ≡ row_front (codes "VAR") ups ++ end)
    → front.now ++ end ≡ text_of (answer s k (Asks (request_of query)))
kept_answer s k place query front ups variable end u d is has found on there ends =
    kept_text s k ups.now variable.now front.now end u d (on ups.now (found ∙ ap (λ q. number_of_ups (ups_of q) s.configuration.upses) is)) there (ends ups.now) (subst HasFront is has)
    ∙ sym (ap (λ q. text_of (answer s k (Asks (request_of q)))) is)

-- the UPS at this place
pub stands_at : (ds : List Supply) (u : ℕ) (d : Supply) → (u < length ds) × ((x : Supply) → d ≡ get_or ds u x) → slice_index_or (map (λ (d : Supply). d.device) ds) u absent ≡ d.device
stands_at ds u d there = get_or-map (λ (d : Supply). d.device) ds u d absent there.0 ∙ ap (λ (d : Supply). d.device) (sym (there.1 d))

-- The text of an answer, in a buffer that was empty.
pub only_text : {A E : Type 0} (result : Result A E) (before after : List ℕ) (said reply : Answer) → before ≡ [] → said ≡ reply
    → OnOk result (after ≡ before ++ text_of said) → OnOk result (after ≡ text_of reply)
only_text result before after said reply none same = on_ok result _ _ (λ is. is ∙ ap (λ front. front ++ text_of said) none ∙ ap text_of same)
