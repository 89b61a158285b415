-- What is open in the code, in the words of the model.
use Rattle.std.specs.Prelude.{Bool, true, false, map, option_map}
use Rattle.amf_text_trees.specs.Frames as frame
use Rattle.amf_text_read.specs.TagNames.{tag_named}
use Rattle.amf_text_gather.specs.declared.frame.Frame.{Frame}
use Rattle.amf_text_gather.specs.declared.frame.Frame.TheVariants as code
use Rattle.amf_text_pages.specs.Entries.{entry_of, entries_of, pairs_of, texts_of}
use Rattle.amf_text_pages.specs.Pages.{class_of, kept_of, sheet_of, header_of, message_of, document_of}

abbrev pub frame_of : Frame → frame.Frame
frame_of code.Bottom = frame.bottom
frame_of (code.Ended d) = frame.ended (document_of d)
frame_of (code.Items n es) = frame.items n (entries_of es)
frame_of (code.List es) = frame.list (entries_of es)
frame_of (code.Plain n ps k) = frame.plain n (pairs_of ps) (option_map (λ x. x.items) k)
frame_of (code.Members ps k) = frame.members (pairs_of ps) (option_map (λ x. x.items) k)
frame_of (code.Tagged n t) = frame.tagged n (tag_named t)
frame_of (code.Scalar t) = frame.scalar (tag_named t)
frame_of (code.Whole e) = frame.whole (entry_of e)
frame_of (code.Done n k) = frame.done n (kept_of k)
frame_of (code.Quoted x) = frame.quoted x.items
frame_of (code.Listed n es) = frame.listed n (entries_of es)
frame_of (code.Class n c) = frame.class n (class_of c)
frame_of (code.Dynamic n c) = frame.dynamic n c.items
frame_of (code.Ordered n c names) = frame.ordered n (class_of c) (texts_of names)
frame_of (code.Fixed n b) = frame.fixed n b
frame_of (code.Vector n t b) = frame.vector n (tag_named t) b
frame_of (code.Typed n b x) = frame.typed n b x.items
frame_of (code.Doubles n ns b) = frame.doubles n ns.items b
frame_of (code.Dictionary n es b) = frame.dictionary n (entries_of es) b
frame_of (code.Patterns ps) = frame.patterns ps.items
frame_of (code.Ints ns) = frame.ints ns.items
frame_of (code.Uints ns) = frame.uints ns.items
frame_of (code.Words xs) = frame.words (texts_of xs)
frame_of (code.Document d) = frame.document (document_of d)
frame_of (code.Header h s) = frame.header (header_of h) (sheet_of s)
frame_of (code.Headers hs) = frame.headers (map header_of hs.items)
frame_of (code.Message m s) = frame.message (message_of m) (sheet_of s)
frame_of (code.Messages ms) = frame.messages (map message_of ms.items)

-- no node, and with no sheet of its own
abbrev pub is_lone : frame.Frame → Bool
is_lone (frame.items n es) = false
is_lone (frame.plain n ps k) = false
is_lone (frame.done n k) = false
is_lone (frame.class n c) = false
is_lone (frame.doubles n ns b) = false
is_lone (frame.dictionary n es b) = false
is_lone (frame.document d) = false
is_lone (frame.header h s) = false
is_lone (frame.message m s) = false
is_lone f = true
