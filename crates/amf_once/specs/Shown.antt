-- What of a course an exchange holds. A device of proofs.
use Rattle.std.specs.Prelude.{◌≡◌}
use Rattle.amf_once.specs.declared.exchange.Exchange.{Exchange}
use Rattle.amf_once.specs.Course.{Course}

-- a broker, a taker and the lists between them are those of the course
pub record Shows (b : Exchange) (w : Course) : Type 0 where
  pub state : b.broker ≡ w.state
  pub asks : b.taker ≡ w.asks
  pub requests : b.requests.items ≡ w.requests
  pub answers : b.answers.items ≡ w.answers
  pub taken : b.taken.items ≡ w.taken
