-- An entry of a writer's table of traits, from its parts. A device of proofs.
use Rattle.amf_tables.specs.declared.written_entry.Content.{Content}
use Rattle.amf_tables.specs.declared.written_entry.Content.TheVariants.{Coded, Copied, External}
use Rattle.amf_tables.specs.WrittenParts.{Written, coded, copied, wrapped}

abbrev pub written_of : Content → Written
written_of (Coded class dynamic sealed) = coded class dynamic sealed.items
written_of (Copied class dynamic sealed) = copied (record { class = class; dynamic = dynamic; sealed = sealed.items })
written_of (External class) = wrapped class
