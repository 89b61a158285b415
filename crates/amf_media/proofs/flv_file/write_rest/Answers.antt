use Rattle.std.proofs.Common.{refl, inl, inr}
use Rattle.amf_media.proofs.flv_file.write_rest.Goals as goal

pub returns-in-Ok-clause-closes : goal.returns-in-Ok-clause-closes
returns-in-Ok-clause-closes g c = inl (refl, c.in-Ok.ensures.writes, c.in-Ok.ensures.cause)

pub returns-in-Err-clause-closes : goal.returns-in-Err-clause-closes
returns-in-Err-clause-closes g c = inr (refl, c.in-Err.ensures.writes, c.in-Err.ensures.cause.0, c.in-Err.ensures.cause.1)
