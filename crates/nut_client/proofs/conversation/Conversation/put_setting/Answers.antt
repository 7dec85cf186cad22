use Rattle.std.proofs.Common.{ℕ, List, [], ◌++◌, ap, ap₂, inl, refl, sym}
use Rattle.nut_proto.specs.declared.request.Request.TheVariants.{GetType}
use Rattle.nut_client.specs.Script.{Script, Asks, line, on_words, settings, values_of, with_heading, with_values, word}
use Rattle.nut_client.proofs.Parts.{asked_as, ends_at, fails_at, follows, turns}
use Rattle.nut_client.proofs.conversation.Conversation.put_setting.Goals as goal

pub returns-in_err-kind : goal.returns-in_err-kind
returns-in_err-kind g c = λ rows.
    let next : List (List ℕ) → Script = λ kind. with_values c.args.ups.now (word 0 c.args.row.now) (values_of kind) (with_heading c.args.row.now kind c.args.text.now.items) (λ shown. settings c.args.ups.now (shown ++ line []) rows) in
    asked_as (ap₂ (λ u v. Asks (GetType u v) (on_words next)) (sym c.copy-ups_name.ensures) (sym c.name_of-variable.ensures)) (ends_at c.from_residual.result c.from_residual.ensures.1 (c.in_err-kind.ensures next))

pub returns-in_err-put_heading : goal.returns-in_err-put_heading
returns-in_err-put_heading g c = λ rows.
    let next : List (List ℕ) → Script = λ kind. with_values c.args.ups.now (word 0 c.args.row.now) (values_of kind) (with_heading c.args.row.now kind c.args.text.now.items) (λ shown. settings c.args.ups.now (shown ++ line []) rows) in
    asked_as (ap₂ (λ u v. Asks (GetType u v) (on_words next)) (sym c.copy-ups_name.ensures) (sym c.name_of-variable.ensures))
    (fails_at c.from_residual-in_err-put_heading.result c.from_residual-in_err-put_heading.ensures.1 (c.in_ok-kind.ensures next) (inl refl))

pub returns-in_err-put_values : goal.returns-in_err-put_values
returns-in_err-put_values g c = λ rows.
    let end : List ℕ → Script = λ shown. settings c.args.ups.now (shown ++ line []) rows in
    let next : List (List ℕ) → Script = λ kind. with_values c.args.ups.now (word 0 c.args.row.now) (values_of kind) (with_heading c.args.row.now kind c.args.text.now.items) end in
    let shown = ap (λ t. with_values c.args.ups.now (word 0 c.args.row.now) (values_of c.in_ok-kind.kind) t end) (sym c.in_ok-put_heading.ensures) in
    asked_as (ap₂ (λ u v. Asks (GetType u v) (on_words next)) (sym c.copy-ups_name.ensures) (sym c.name_of-variable.ensures))
    (ends_at c.from_residual-in_err-put_values.result c.from_residual-in_err-put_values.ensures.1 (follows (c.in_ok-kind.ensures next) (asked_as shown (c.in_err-put_values.ensures end))))

pub returns-in_err-put_line : goal.returns-in_err-put_line
returns-in_err-put_line g c = λ rows.
    let end : List ℕ → Script = λ shown. settings c.args.ups.now (shown ++ line []) rows in
    let next : List (List ℕ) → Script = λ kind. with_values c.args.ups.now (word 0 c.args.row.now) (values_of kind) (with_heading c.args.row.now kind c.args.text.now.items) end in
    let shown = ap (λ t. with_values c.args.ups.now (word 0 c.args.row.now) (values_of c.in_ok-kind.kind) t end) (sym c.in_ok-put_heading.ensures) in
    asked_as (ap₂ (λ u v. Asks (GetType u v) (on_words next)) (sym c.copy-ups_name.ensures) (sym c.name_of-variable.ensures))
    (fails_at c.from_residual-in_err-put_line.result c.from_residual-in_err-put_line.ensures.1 (follows (c.in_ok-kind.ensures next) (asked_as shown (c.in_ok-put_values.ensures end))) (inl refl))

pub returns : goal.returns
returns g c = λ rows.
    let end : List ℕ → Script = λ shown. settings c.args.ups.now (shown ++ line []) rows in
    let next : List (List ℕ) → Script = λ kind. with_values c.args.ups.now (word 0 c.args.row.now) (values_of kind) (with_heading c.args.row.now kind c.args.text.now.items) end in
    let shown = ap (λ t. with_values c.args.ups.now (word 0 c.args.row.now) (values_of c.in_ok-kind.kind) t end) (sym c.in_ok-put_heading.ensures) in
    asked_as (ap₂ (λ u v. Asks (GetType u v) (on_words next)) (sym c.copy-ups_name.ensures) (sym c.name_of-variable.ensures))
    (turns (follows (c.in_ok-kind.ensures next) (asked_as shown (c.in_ok-put_values.ensures end))) (ap (λ t. settings c.args.ups.now t rows) (sym c.in_ok-put_line.ensures)))
