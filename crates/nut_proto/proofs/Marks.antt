-- The lines before and after the rows of a list: a mark, and the line of the query.
use Rattle.std.proofs.Common.{◌≡◌, ◌++◌, refl}
use Rattle.std.specs.Prelude.{codes}
use Rattle.nut_proto.specs.declared.request.Request.TheVariants as requests
use Rattle.nut_proto.specs.declared.request.ListQuery.{ListQuery}
use Rattle.nut_proto.specs.Lines.{line}
use Rattle.nut_proto.specs.Requests.{begin_line, end_line, request_line}

pub begin_marked : (query : ListQuery) → codes "BEGIN " ++ request_line (requests.List query) ≡ begin_line query
unfolding begin_line request_line line
begin_marked query = refl

pub end_marked : (query : ListQuery) → codes "END " ++ request_line (requests.List query) ≡ end_line query
unfolding end_line request_line line
end_marked query = refl
