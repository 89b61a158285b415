-- The frames that rows, and the names and keys apart from them, stand for, the innermost first. A device of proofs.
use Rattle.std.specs.Prelude.{ℕ, true, false, List, [], ◌∷◌}
use Rattle.amf_graph.specs.declared.value.TextId.{TextId}
use Rattle.amf_graph.specs.declared.value.Value.{Value}
use Rattle.amf_graph.specs.declared.value.Value.TheVariants as value
use Rattle.amf3_read.specs.declared.opening.Parts.{Parts}
use Rattle.amf3_read.specs.declared.opening.Parts.TheVariants as parts
use Rattle.amf3_read.specs.declared.frame.Role.{Role}
use Rattle.amf3_read.specs.declared.frame.Role.TheVariants as role
use Rattle.amf3_read.specs.declared.frame.Frame.{Frame}
use Rattle.amf3_read.specs.declared.frames.BareParts.{BareParts}
use Rattle.amf3_read.specs.declared.frames.BareParts.TheVariants.{Array, Sealed, Dynamic, Items, Entries}
use Rattle.amf3_read.specs.declared.frames.BareRole.{BareRole}
use Rattle.amf3_read.specs.declared.frames.BareRole.TheVariants.{Item, Named, Key, Entry}
use Rattle.amf3_read.specs.declared.frames.Row.{Row}

-- what is to be read is so many of these
abbrev pub parts_of : BareParts → ℕ → Parts
parts_of Array n = parts.Array n
parts_of Sealed n = parts.Object n false
parts_of Dynamic n = parts.Object n true
parts_of Items n = parts.Items n
parts_of Entries n = parts.Entries n

abbrev pub no_name : TextId
no_name = record { 0 = 0 }

-- a value behind a name has the first of the names, an entry the first of the keys; there is none only where these are fewer
abbrev pub role_with : List TextId → List Value → BareRole → Role
role_with ns ks Item = role.Item
role_with [] ks Named = role.Named no_name
role_with (n ∷ ns) ks Named = role.Named n
role_with ns ks Key = role.Key
role_with ns [] Entry = role.Entry value.Undefined
role_with ns (k ∷ ks) Entry = role.Entry k

-- the names and the keys of the rows below

abbrev pub names_below : List TextId → BareRole → List TextId
names_below ns Item = ns
names_below [] Named = []
names_below (n ∷ ns) Named = ns
names_below ns Key = ns
names_below ns Entry = ns

abbrev pub keys_below : List Value → BareRole → List Value
keys_below ks Item = ks
keys_below ks Named = ks
keys_below ks Key = ks
keys_below [] Entry = []
keys_below (k ∷ ks) Entry = ks

abbrev pub frames_of : List Row → List TextId → List Value → List Frame
frames_of [] ns ks = []
frames_of (r ∷ rs) ns ks = record { node = r.node; role = role_with ns ks r.role; todo = parts_of r.parts r.count } ∷ frames_of rs (names_below ns r.role) (keys_below ks r.role)
