-- What of the built-in functions and of the built-in properties of nodes is built so far (this project's own).
-- A call of a function that isn't built throws, and so does a property that isn't, when it is read or written.
use Rattle.std.specs.Prelude.{Bool, false}
use Rattle.js_rules.specs.declared.built_in.BuiltIn.{BuiltIn}
use Rattle.js_rules.specs.NodeKeys.{NodeKey}

abbrev pub is_built : BuiltIn → Bool
is_built function = false

abbrev pub is_property_built : NodeKey → Bool
is_property_built property = false
