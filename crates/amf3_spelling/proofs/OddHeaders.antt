-- A header of a node that is spelled inline is odd.
use Rattle.std.proofs.Common.{◌≡◌, ℕ, ◌+◌, ◌*◌, cond, List, length, arith}
use Rattle.amf_io.specs.Field.{Field}
use Rattle.amf_wire.specs.Style.{Style}
use Rattle.amf_graph.specs.Graph.{Value, Head, xml_document, date, array, object, wrapper, xml, bytes, ints, uints, doubles, values, dictionary}
use Rattle.amf3_spelling.specs.Tables.{plain, external, Entry, Words}
use Rattle.amf3_spelling.specs.Words3.{TraitsBy, given, placed, EntryNumber}
use Rattle.amf3_spelling.specs.Headers3.{HeaderBy}

entry_odd : (s : Style) (e : Entry) (n : ℕ) → EntryNumber s e n → (k : ℕ) × (n ≡ 2 * k + 1)
entry_odd s (plain t) n e = (8 * length t.sealed + 4 * cond t.dynamic 1 0 + 1, omega arith)
entry_odd s (external c) n (unused, e, o) = (4 * unused + 3, omega arith)

traits_odd : (s : Style) (e : Entry) (n : ℕ) (w : Words) (fs : List Field) (w' : Words) → TraitsBy s e n w fs w' → (k : ℕ) × (n ≡ 2 * k + 1)
traits_odd s e n w fs w' (given o number u texts after) = entry_odd s e n number
traits_odd s e n w fs w' (placed k there o number f a) = (2 * k, omega arith)

pub header_odd : (s : Style) (h : Head) (vs : List Value) (n : ℕ) (w : Words) (fs : List Field) (w' : Words) → HeaderBy s h vs n w fs w' → (k : ℕ) × (n ≡ 2 * k + 1)
header_odd s (xml_document x) vs n w fs w' z = (length x, z.0)
header_odd s (date p) vs n w fs w' (unused, o, z) = (unused, z.0)
header_odd s array vs n w fs w' z = (length vs, z.0)
header_odd s (object t) vs n w fs w' z = traits_odd s (plain t) n w fs w' z
header_odd s (wrapper c) vs n w fs w' z = traits_odd s (external c) n w fs w' z
header_odd s (xml x) vs n w fs w' z = (length x, z.0)
header_odd s (bytes x) vs n w fs w' z = (length x, z.0)
header_odd s (ints f ns) vs n w fs w' z = (length ns, z.0)
header_odd s (uints f ns) vs n w fs w' z = (length ns, z.0)
header_odd s (doubles f ns) vs n w fs w' z = (length ns, z.0)
header_odd s (values f x) vs n w fs w' z = (length vs, z.0)
header_odd s (dictionary f) vs n w fs w' (entries, h, z) = (entries, z.0)
