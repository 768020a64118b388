-- Keys that are looked up. (After Elektra's pages on cascading and on specifications.)
use Rattle.std.specs.Prelude.{Option}
use Rattle.model_names.specs.Name.{Name}
use Rattle.model_maps.specs.KeyMap.{KeyMap}
use Rattle.model_specified.specs.Specified.{specified}
use Rattle.spec_cascade.specs.Found.{found}
use Rattle.spec_cascade.specs.declared.founds.Found.{Found}

-- what is found for a name in what keys come to under their specifications
abbrev pub looked_up : KeyMap → Name → Option Found
looked_up keys name = found (specified keys) name
