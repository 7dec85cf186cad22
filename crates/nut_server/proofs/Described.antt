-- A name's own text comes first, and only then that of a file.
use Rattle.std.proofs.Common.{◌≡◌, ℕ, List, Option, None, Some, ap}
use Rattle.nut_proto.specs.Descriptions.{beside, command_description, described_commands, described_variables, told, variable_description}

module _ (rows : List (List ℕ × List ℕ)) (name : List ℕ) where
  pub own_variable : (text : List ℕ) → Some text ≡ beside name described_variables → text ≡ variable_description rows name
  unfolding variable_description
  own_variable text is = ap (λ own. told own (beside name rows)) is

  pub other_variable : (o : Option (List ℕ)) → None ≡ beside name described_variables → o ≡ beside name rows → told None o ≡ variable_description rows name
  unfolding variable_description
  other_variable o none is = rw is (ap (λ own. told own (beside name rows)) none)

  pub own_command : (text : List ℕ) → Some text ≡ beside name described_commands → text ≡ command_description rows name
  unfolding command_description
  own_command text is = ap (λ own. told own (beside name rows)) is

  pub other_command : (o : Option (List ℕ)) → None ≡ beside name described_commands → o ≡ beside name rows → told None o ≡ command_description rows name
  unfolding command_description
  other_command o none is = rw is (ap (λ own. told own (beside name rows)) none)
