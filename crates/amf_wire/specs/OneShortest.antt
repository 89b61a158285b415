-- Each number has one shortest spelling.
use Rattle.std.specs.Prelude.{◌≡◌, ℕ, ◌<◌, List}
use Rattle.amf_wire.specs.Style.{canonical}
use Rattle.amf_wire.specs.U29.{IsU29, u29_end}

pub record HasOneShortest (n : ℕ) : Type 0 where
  pub some : n < u29_end → (bytes : List ℕ) × IsU29 canonical n bytes
  pub one : (bytes other : List ℕ) → IsU29 canonical n bytes → IsU29 canonical n other → bytes ≡ other
