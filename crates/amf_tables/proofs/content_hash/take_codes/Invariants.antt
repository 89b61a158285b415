-- The codes so far are taken in.
use Rattle.std.proofs.Common.{◌≡◌, take}
use Rattle.std.specs.List.{fold}
use Rattle.amf_tables.specs.ContentHash.{write_code}
use Rattle.amf_tables.proofs.content_hash.take_codes.Given as goal

abbrev pub invariant-loop-code : goal.invariant-loop-code
invariant-loop-code l = l.state ≡ fold write_code l.fn.state (take l.code-index l.codes)
