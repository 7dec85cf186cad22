-- For private functions, nothing here has to be believed: the items of the definitions that the code's items are.
use Rattle.nut_dummy.specs.Item as said
use Rattle.nut_dummy.specs.declared.item.Item.{Item}
use Rattle.nut_dummy.specs.declared.item.Item.TheVariants as items

abbrev pub item_of : Item → said.Item
item_of (items.Timer seconds) = said.Timer seconds
item_of (items.Setting name value) = said.Setting name value
