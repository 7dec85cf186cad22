use Rattle.std.proofs.Common.{◌≡◌, Ok, refl, ap, ◌∙◌}
use Rattle.nut_conf.specs.Values.{one_of}
use Rattle.nut_conf.specs.Notices.{notice_word, notice_words}
use Rattle.nut_conf.specs.declared.notice.Notice.{Notice}
use Rattle.nut_conf.specs.declared.notice.Notice.TheVariants.{Online}
use Rattle.nut_conf.proofs.notice.Notice.read.Goals as goal

known : (n : Notice) → one_of notice_words (notice_word n) ≡ Ok (notice_word n)
known = elim [ Online ↦ refl | _ ↦ refl ]

pub returns-in-Some-clause-reads : goal.returns-in-Some-clause-reads
returns-in-Some-clause-reads c = ap (one_of notice_words) (c.in-Some.ensures {u = tt}) ∙ known c.in-Some.notice
