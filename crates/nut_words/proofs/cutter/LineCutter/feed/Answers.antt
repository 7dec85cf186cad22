use Rattle.std.proofs.Common.{◌≡◌, List, ℕ, [], take, refl, sym, ap, ◌∙◌, arith}
use Rattle.nut_words.specs.Lines.{Text, joined}
use Rattle.nut_words.specs.inside.Inside.{rest_at}
use Rattle.nut_words.specs.declared.cutter.LineStage.{LineStage}
use Rattle.nut_words.specs.declared.cutter.LineStage.TheVariants.{Growing, Overlong, HandedOut}
use Rattle.nut_words.specs.Cutter.{line_of}
use Rattle.nut_words.proofs.LineLemmas.{FeedAt, FeedAt-found, parts_of_all, rest_kept, lines_kept, rest_ended, lines_ended, joined_nothing}
use Rattle.nut_words.proofs.cutter.LineCutter.feed.Goals as goal
use Rattle.nut_words.proofs.cutter.LineCutter.feed.Goals.{in-Growing, in-Overlong, in-HandedOut}

pub returns-in_default : goal.returns-in_default
returns-in_default c =
    let p = c.args.piece.now in
    let whole = parts_of_all p c.in_default.ensures in (
      (refl, (λ _. tt), ((λ b e. rest_kept _ _ p whole c.keep.ensures b e), tt)),
      record { after_borrow = tt; line = λ b e. lines_kept p whole b; used = omega arith; all = refl; some = tt },
    )

-- The line lies in the piece.
pub returns-then-is_at_start : goal.returns-then-is_at_start
returns-then-is_at_start c =
    let p = c.args.piece.now in
    let k = c.in-Some.at in
    let at : FeedAt p k = FeedAt-found p k c.in-Some.ensures.0 c.in-Some.ensures.1 in
    let start : c.args.self.now ≡ Text [] = c.is_at_start.ensures.0 c.if-is_at_start.true in
    let line : Text (take k p) ≡ joined c.args.self.now (take k p) = joined_nothing p k at c.if-at-le-LINE_MAX.true ∙ ap (λ x. joined x (take k p)) (sym start) in (
      (refl, (λ _. tt), ((λ b e. start ∙ rest_ended p k at b), start)),
      record { after_borrow = tt; line = λ b e. lines_ended _ _ p k at line b e; used = omega (arith, at.within); all = tt; some = omega arith },
    )

held : (stage other : LineStage) (kept : List ℕ) → stage ≡ other → rest_at other kept ≡ rest_at stage kept
held stage other kept is = ap (λ s. rest_at s kept) (sym is)

-- The line lies in the kept part.
pub returns : goal.returns
returns c =
    let p = c.args.piece.now in
    let k = c.in-Some.at in
    let at : FeedAt p k = FeedAt-found p k c.in-Some.ensures.0 c.in-Some.ensures.1 in
    let line : line_of c.match-stage.line ≡ joined c.args.self.now (take k p) = elim c.match-stage.branch [
      | in-Growing w ↦ ap line_of w.line-is ∙ ap Text w.as_slice.ensures.value ∙ held c.self.inside.stage Growing c.self.inside.kept.items w.in-Growing.is ∙ c.self.view_is ∙ c.keep-2.ensures
      | in-Overlong w ↦ ap line_of w.line-is ∙ held c.self.inside.stage Overlong c.self.inside.kept.items w.in-Overlong.is ∙ c.self.view_is ∙ c.keep-2.ensures
      | in-HandedOut w ↦ ap line_of w.line-is ∙ held c.self.inside.stage HandedOut c.self.inside.kept.items w.in-HandedOut.is ∙ c.self.view_is ∙ c.keep-2.ensures
    ] in (
      (refl, (λ _. tt), ((λ b e. rest_ended p k at b), refl)),
      record { after_borrow = tt; line = λ b e. lines_ended _ _ p k at line b e; used = omega (arith, at.within); all = tt; some = omega arith },
    )
