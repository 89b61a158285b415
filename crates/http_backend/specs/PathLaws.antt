-- What is escaped holds no slash and nothing that ends a path (RFC 3986, section 3.3), no white space and no control: a segment stays one segment of its path, and a value stays in its line.
use Rattle.std.specs.Prelude.{◌≡◌, ◌≢◌, ℕ, ◌<◌, List}
use Rattle.std.specs.List.{AllByRecursion}
use Rattle.http_backend.specs.Escaped.{escaped}

pub record IsHarmless (c : ℕ) : Type 0 where
  pub no_slash : c ≢ 47
  pub no_query : c ≢ 63
  pub no_fragment : c ≢ 35
  pub no_control : 32 < c
  pub no_delete : c ≢ 127

abbrev pub EscapesAll : Type 0
EscapesAll = (x : List ℕ) → AllByRecursion (λ b. b < 256) x → AllByRecursion IsHarmless (escaped x)
