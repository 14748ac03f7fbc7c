-- What a recipe holds. Assumes nothing.
use Rattle.std.specs.Prelude.{List}
use Rattle.card.specs.declared.record.Place.{Place}
use Rattle.reading.specs.declared.owned.Recipe.{Recipe}

abbrev pub recipe_places : Recipe → List Place
recipe_places r = r.places.items
