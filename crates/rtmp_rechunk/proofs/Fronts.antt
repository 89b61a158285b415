-- Before anything is written all of it waits.
use Rattle.std.proofs.Common.{List, ℕ, [], refl, sym}
use Rattle.std.proofs.lemmas.List.{append-nil}
use Rattle.rtmp_rechunk.specs.Written.{Put}

pub none_written : (held bytes : List ℕ) → Put held held bytes bytes
none_written held bytes = record { front = []; parts = refl; added = sym (append-nil held) }
