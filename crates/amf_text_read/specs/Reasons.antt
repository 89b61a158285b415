-- Tokens of which the reason is that of any other.
use Rattle.json.specs.Token.{Token, begin_object, key, string, number}

abbrev pub IsPlain : Token → Type 0
IsPlain begin_object = ⊥
IsPlain (key s) = ⊥
IsPlain (string s) = ⊥
IsPlain (number s) = ⊥
IsPlain _ = Unit {0}
