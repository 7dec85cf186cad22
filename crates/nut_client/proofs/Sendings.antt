-- How a query is sent.
use Rattle.std.proofs.Common.{◌≡◌, ℕ, ◌++◌, nat_le, true, List, length, take, drop, Option, refl, sym, ap, subst, ◌∙◌}
use Rattle.std.proofs.lemmas.List.{append_assoc, take-append-drop}
use Rattle.std.specs.Io.KnownBytes.{append_known}
use Rattle.nut_proto.specs.declared.request.Request.{Request}
use Rattle.nut_link.specs.Link.{LinkValue, taken, waits, with_exchange}
use Rattle.nut_client.specs.inside.Sending.{IsSending, link_sending}
use Rattle.nut_client.proofs.Runs.{append_twice}

-- the link after more of the query was taken
taken_more : (request : Request) (n : ℕ) (back : List ℕ) → nat_le n (length back) ≡ true
    → with_exchange (taken n (link_sending request back).exchange) (link_sending request back) ≡ link_sending request (drop n back)
taken_more request n back fits = rw fits refl

pub sent_more : (request : Request) (link link' : LinkValue) (before mid after : Option (List ℕ)) (n : ℕ) (bytes : List ℕ) → IsSending request link before mid → bytes ≡ waits link.exchange → nat_le n (length bytes) ≡ true
    → after ≡ append_known mid (take n bytes) → link' ≡ with_exchange (taken n link.exchange) link → IsSending request link' before after
sent_more request link link' before mid after n bytes s is fits wrote taken_is =
    let same : bytes ≡ s.back = is ∙ ap (λ v. waits v.exchange) s.waits in
    let within : nat_le n (length s.back) ≡ true = subst (λ b. nat_le n (length b) ≡ true) same fits in
    record {
      front = s.front ++ take n s.back;
      back = drop n s.back;
      parted = s.parted ∙ ap (λ b. s.front ++ b) (sym (take-append-drop n s.back)) ∙ sym (append_assoc s.front (take n s.back) (drop n s.back));
      waits = taken_is ∙ ap (λ v. with_exchange (taken n v.exchange) v) s.waits ∙ taken_more request n s.back within;
      wrote = wrote ∙ ap (λ k. append_known k (take n bytes)) s.wrote ∙ ap (λ b. append_known (append_known before s.front) (take n b)) same ∙ append_twice s.front (take n s.back) before;
    }
