-- The words of the code in those of the definition.
use Rattle.amf_text.specs.Tags as tag
use Rattle.amf_text_read.specs.declared.tag.Tag.{Tag}
use Rattle.amf_text_read.specs.declared.tag.Tag.TheVariants as word

abbrev pub tag_named : Tag → tag.Tag
tag_named word.Collection = tag.collection
tag_named word.List = tag.list
tag_named word.Proxy = tag.proxy
tag_named word.Array = tag.array
tag_named word.Bytes = tag.bytes
tag_named word.Class = tag.class
tag_named word.Date = tag.date
tag_named word.Dictionary = tag.dictionary
tag_named word.Double = tag.double
tag_named word.Doubles = tag.doubles
tag_named word.Dynamic = tag.dynamic
tag_named word.Fixed = tag.fixed
tag_named word.Ints = tag.ints
tag_named word.Names = tag.names
tag_named word.Node = tag.node
tag_named word.Sealed = tag.sealed
tag_named word.Text = tag.text
tag_named word.Type = tag.type
tag_named word.Uints = tag.uints
tag_named word.Undefined = tag.undefined
tag_named word.Values = tag.values
tag_named word.Weak = tag.weak
tag_named word.Xml = tag.xml
tag_named word.Xmldoc = tag.xmldoc
tag_named word.Unknown = tag.unknown
tag_named word.Name = tag.name
