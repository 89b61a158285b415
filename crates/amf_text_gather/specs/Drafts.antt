-- What the code has gathered, in the words of the model.
use Rattle.std.specs.Prelude.{ℕ, ℤ, Bool, true, false, List, map, reverse, Option, option_and_then}
use Rattle.json.specs.Token as json
use Rattle.json.specs.Reads.{token_of}
use Rattle.json.specs.declared.token.Token.{Token}
use Rattle.amf_text.specs.Scalars.{read_number}
use Rattle.amf_text.specs.Meant.{if_text, bytes_meant, whole_meant}
use Rattle.amf_text_trees.specs.Gathering as gathering
use Rattle.amf_text_trees.specs.Gathering.{json_of, or_end, by_value}
use Rattle.amf_text_read.specs.declared.goal.Goal.{Goal}
use Rattle.amf_text_read.specs.declared.goal.Goal.TheVariants as goal
use Rattle.amf_text_gather.specs.declared.draft.Draft.{Draft}
use Rattle.amf_text_gather.specs.Frames.{frame_of}
use Rattle.amf_text_pages.specs.Pages.{sheet_of}

abbrev pub draft_of : Draft → gathering.Draft
draft_of d = gathering.draft (sheet_of d.sheet) (reverse (map frame_of d.frames.items))

-- what a token means as a whole number, and as a text by hexadecimal digits
abbrev pub whole_by : Token → Option ℤ
whole_by t = whole_meant read_number (json_of (token_of t))

abbrev pub text_by : Token → Option (List ℕ)
text_by t = option_and_then if_text (bytes_meant (json_of (token_of t)))

-- an item of a list, or its end
abbrev pub item_or_end : json.Token → gathering.Draft → gathering.Draft
item_or_end t d = or_end t d (by_value read_number t d)

-- no scalar, and no goal that only goes by
abbrev pub is_structure : Goal → Bool
is_structure goal.Start = false
is_structure goal.FormKey = false
is_structure (goal.KeyIs k) = false
is_structure (goal.TableOr k) = false
is_structure goal.EndList = false
is_structure goal.TextHex = false
is_structure goal.ShortHex = false
is_structure goal.Hex = false
is_structure goal.Pattern = false
is_structure goal.PatternList = false
is_structure goal.Patterns = false
is_structure goal.IntList = false
is_structure goal.Ints = false
is_structure goal.UintList = false
is_structure goal.Uints = false
is_structure goal.Flag = false
is_structure goal.Truth = false
is_structure goal.FormWord = false
is_structure goal.VersionOfFile = false
is_structure goal.VersionOfPacket = false
is_structure g = true
