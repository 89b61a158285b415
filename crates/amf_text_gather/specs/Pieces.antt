-- Pieces of the code in the words of the model.
use Rattle.std.specs.Prelude.{map}
use Rattle.amf_text_trees.specs.Pieces as piece
use Rattle.amf_text_gather.specs.declared.piece.Piece.{Piece}
use Rattle.amf_text_gather.specs.declared.piece.Piece.TheVariants as code
use Rattle.amf_text_pages.specs.Entries.{entry_of, entries_of, pairs_of, texts_of}
use Rattle.amf_text_pages.specs.Written.{form_named, version_named}
use Rattle.amf_text_pages.specs.Pages.{header_of, message_of, document_of}

abbrev pub piece_named : Piece → piece.Piece
piece_named (code.Value e) = piece.value (entry_of e)
piece_named (code.Values es) = piece.values (entries_of es)
piece_named (code.Members ps) = piece.members (pairs_of ps)
piece_named (code.Text x) = piece.text x.items
piece_named (code.Bytes x) = piece.bytes x.items
piece_named (code.Pattern p) = piece.pattern p
piece_named (code.Patterns ps) = piece.patterns ps.items
piece_named (code.Int n) = piece.int n
piece_named (code.Ints ns) = piece.ints ns.items
piece_named (code.Uint n) = piece.uint n
piece_named (code.Uints ns) = piece.uints ns.items
piece_named (code.Words xs) = piece.words (texts_of xs)
piece_named (code.Flag b) = piece.flag b
piece_named (code.Form f) = piece.form (form_named f)
piece_named (code.Version v) = piece.version (version_named v)
piece_named (code.PacketVersion n) = piece.packet_version n
piece_named (code.Header h) = piece.header (header_of h)
piece_named (code.Headers hs) = piece.headers (map header_of hs.items)
piece_named (code.Message m) = piece.message (message_of m)
piece_named (code.Messages ms) = piece.messages (map message_of ms.items)
piece_named (code.Document d) = piece.document (document_of d)
