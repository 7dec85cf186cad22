-- The commands that clap reads, and its matches.
use Rattle.std.proofs.Common.{◌≡◌, ℕ, true, List, [], ◌∷◌, codes, Option, Result, Ok, Err, refl, sym, ap, subst, ◌∙◌, inl, inr}
use Rattle.clap.specs.Words.{App, IsAmong, Kinds, Row, fault_of, first_of, found_of, kind_of, is_simple_and_free, matches_of, rows_of}
use Rattle.clap.specs.declared.error.ErrorKind.{ErrorKind}
use Rattle.clap.specs.declared.ArgMatches.{ArgMatches}
use Rattle.nut_client.specs.CommandLine.{Options, command_of, line_by, line_of, options_of, wanted_of}
use Rattle.nut_client.specs.inside.Reading.{AreOptions, IsRead, IsReadBy, options_view}
use Rattle.nut_client.specs.declared.command_line.Options.{Options as Read}
use Rattle.nut_client.specs.declared.command_line.Refusal.{Refusal}
use Rattle.nut_client.specs.declared.command_line.Refusal.TheVariants.{Usage, Failed}
use Rattle.nut_client.specs.declared.failure.ToolFailure.{ToolFailure}
use Rattle.nut_client.specs.declared.tool.Tool.{Tool}
use Rattle.nut_client.specs.declared.tool.Tool.TheVariants.{Upsc}
use Rattle.nut_client.specs.declared.wanted.Wanted.{Wanted}

pub is_simple : (tool : Tool) → is_simple_and_free (command_of tool) ≡ true
unfolding command_of
is_simple Upsc = refl
is_simple tool = refl

-- what the options of clap's matches are for a tool
abbrev pub options_in : Tool → List Row → Result Options ToolFailure
options_in tool rows = options_of (wanted_of tool rows) (first_of (codes "name") rows)

-- Words in which clap finds no fault.
no_fault : (tool : Tool) (words : List (List ℕ)) (rows : List Row) → fault_of (command_of tool) words ≡ [] → rows ≡ matches_of (command_of tool) words
    → line_of tool words ≡ Ok (options_in tool rows)
unfolding line_of
no_fault tool words rows none is = ap (line_by tool (matches_of (command_of tool) words)) none ∙ ap (λ r. Ok (options_in tool r)) (sym is)

by_fault : (tool : Tool) (rows : List Row) (faults : Kinds) (kind : ErrorKind) → IsAmong kind faults → line_by tool rows faults ≡ Err faults
by_fault tool rows [] kind none = absurd none
by_fault tool rows (k ∷ ks) kind some = refl

-- Words in which clap finds a fault.
faulty : (tool : Tool) (words : List (List ℕ)) (kind : ErrorKind) → IsAmong kind (fault_of (command_of tool) words)
    → (faults : Kinds) × (line_of tool words ≡ Err faults) × IsAmong kind faults
unfolding line_of
faulty tool words kind among = (fault_of (command_of tool) words, by_fault tool (matches_of (command_of tool) words) (fault_of (command_of tool) words) kind among, among)

-- What a command that is a tool's reads, is read by that of the tool.
pub parsed : (tool : Tool) (app : App) (words : List (List ℕ)) (r : Result ArgMatches Refusal) → app ≡ command_of tool → (is_simple_and_free app ≡ true → IsReadBy app words r)
    → IsReadBy (command_of tool) words r
parsed tool app words r is read = subst (λ a. IsReadBy a words r) is (read (ap is_simple_and_free is ∙ is_simple tool))

-- The options of what is wanted and a name, which are those of clap's matches.
meant : (tool : Tool) (rows : List Row) (wanted : Option Wanted) (name : Option (List ℕ)) (r : Result Options ToolFailure)
    → wanted ≡ wanted_of tool rows → name ≡ first_of (codes "name") rows → options_of wanted name ≡ r → options_in tool rows ≡ r
meant tool rows wanted name r w n is = subst (λ it. options_of (wanted_of tool rows) it ≡ r) n (subst (λ it. options_of it name ≡ r) w is)

read_well : (tool : Tool) (words : List (List ℕ)) (m : ArgMatches) (read : Read) → IsReadBy (command_of tool) words (Ok m)
    → options_in tool (rows_of (found_of m)) ≡ Ok (options_view read) → IsRead (line_of tool words) (Ok read)
read_well tool words m read is options = no_fault tool words (rows_of (found_of m)) is.0 is.1 ∙ ap Ok options

read_failed : (tool : Tool) (words : List (List ℕ)) (m : ArgMatches) (failure : ToolFailure) → IsReadBy (command_of tool) words (Ok m)
    → options_in tool (rows_of (found_of m)) ≡ Err failure → IsRead (line_of tool words) (Err (Failed failure))
read_failed tool words m failure is options = inr (no_fault tool words (rows_of (found_of m)) is.0 is.1 ∙ ap Ok options)

pub read_by : (tool : Tool) (words : List (List ℕ)) (m : ArgMatches) (wanted : Option Wanted) (name : Option (List ℕ)) (r : Result Read Refusal) → IsReadBy (command_of tool) words (Ok m)
    → wanted ≡ wanted_of tool (rows_of (found_of m)) → name ≡ first_of (codes "name") (rows_of (found_of m)) → AreOptions (options_of wanted name) r → IsRead (line_of tool words) r
read_by tool words m wanted name (Ok read) is w n options = read_well tool words m read is (meant tool (rows_of (found_of m)) wanted name _ w n options)
read_by tool words m wanted name (Err (Usage error)) is w n never = absurd never
read_by tool words m wanted name (Err (Failed failure)) is w n options = read_failed tool words m failure is (meant tool (rows_of (found_of m)) wanted name _ w n options)

pub read_ill : (tool : Tool) (words : List (List ℕ)) (refusal : Refusal) → IsReadBy (command_of tool) words (Err refusal) → IsRead (line_of tool words) (Err refusal)
read_ill tool words (Usage error) among = faulty tool words (kind_of error) among
read_ill tool words (Failed failure) memory = inl memory
