-- What a flat object is: the members of a line's JSON object in the order in which they stand, and the value that they make.
use Rattle.std.specs.Prelude.{List, [], ◌∷◌}
use Rattle.serde_json.specs.Data.{Data, null, boolean, float, number, string, array, object, Members, no_members, put}
use Rattle.serde_json.specs.Find.{of_integer}
use Rattle.lin_text.specs.WholeNumbers.{items_of}
use Rattle.lin_text.specs.declared.flat_object.Field.{Field}
use Rattle.lin_text.specs.declared.flat_object.Field.TheVariants.{Null, Flag, Whole, Float, Text, Wholes}
use Rattle.lin_text.specs.declared.flat_object.Member.{Member}

-- The JSON value of a field.
abbrev pub value_of : Field → Data
value_of Null = null
value_of (Flag b) = boolean b
value_of (Whole n) = number (of_integer n)
value_of (Float x) = number (float x)
value_of (Text s) = string s.now
value_of (Wholes numbers) = array (items_of numbers)

-- The members of an object, with these put in one after another: of a key that is there twice the last value stays.
abbrev pub members_with : List Member → Members → Members
members_with [] found = found
members_with (m ∷ ms) found = members_with ms (put m.key.now (value_of m.field) found)

-- The JSON object that these members make.
abbrev pub object_of : List Member → Data
object_of ms = object (members_with ms no_members)
