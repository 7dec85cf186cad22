-- For private functions, nothing here has to be believed: the changes of the definitions that the code's changes are.
use Rattle.nut_dummy.specs.Teller as T
use Rattle.nut_dummy.specs.declared.variable.Change.{Change}
use Rattle.nut_dummy.specs.declared.variable.Change.TheVariants as change

abbrev pub change_of : Change → T.Change
change_of (change.Passing round after until) = T.Passing round after until
change_of (change.Assigning name value) = T.Assigning name.now value.now
change_of (change.Doing name value) = T.Doing name.now value
