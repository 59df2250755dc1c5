-- The items of the code are those of the definitions.
use Rattle.luworld.specs.Systems as world
use Rattle.test_reference.specs.declared.item.Item.{Item}
use Rattle.test_reference.specs.declared.item.Item.TheVariants.{Compute, Put, Take}

abbrev pub as_item : Item → world.Item
as_item (Compute flow instant) = world.Compute flow instant
as_item (Put link) = world.Puts link
as_item (Take link) = world.Takes link
