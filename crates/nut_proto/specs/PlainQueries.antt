-- The request that each plain query is, and the UPS that it asks about.
use Rattle.std.specs.Prelude.{◌≡◌, ℕ, List, [], ◌∷◌, ◌++◌, Ok, codes}
use Rattle.nut_words.specs.Bytes.{blank}
use Rattle.nut_words.specs.Cutter.{IsFirstLine}
use Rattle.nut_words.specs.Quoting.{word_text}
use Rattle.nut_words.specs.Reader.{spelled}
use Rattle.nut_proto.specs.declared.plain.PlainQuery.{PlainQuery}
use Rattle.nut_proto.specs.declared.plain.PlainQuery.TheVariants.{GetVar, GetUpsDesc, ListVar}
use Rattle.nut_proto.specs.Forms.{meaning}
use Rattle.nut_proto.specs.declared.request.Request.{Request}
use Rattle.nut_proto.specs.declared.request.Request.TheVariants as requests
use Rattle.nut_proto.specs.declared.request.ListQuery.TheVariants as queries

abbrev pub request_of : PlainQuery → Request
request_of (GetVar front ups variable) = requests.GetVar ups.now variable.now
request_of (GetUpsDesc ups) = requests.GetUpsDesc ups.now
request_of (ListVar ups) = requests.List (queries.Var ups.now)

abbrev pub ups_of : PlainQuery → List ℕ
ups_of (GetVar front ups variable) = ups.now
ups_of (GetUpsDesc ups) = ups.now
ups_of (ListVar ups) = ups.now

-- The first line of the piece says what the request says, and these bytes are behind it.
abbrev pub IsTold : List ℕ → List ℕ → Request → Type 0
IsTold piece after request =
    (text : List ℕ) × (words : List (List ℕ)) × IsFirstLine text piece after × (spelled text ≡ Ok words) × (meaning words ≡ Ok request)

-- GET VAR brings along what its answer begins with.
abbrev pub HasFront : PlainQuery → Type 0
HasFront (GetVar front ups variable) = front.now ≡ codes "VAR " ++ (word_text ups.now ++ blank ∷ [])
HasFront query = Unit {0}
