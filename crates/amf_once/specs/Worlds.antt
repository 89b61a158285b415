-- What a world has of a course.
use Rattle.std.specs.Prelude.{◌≡◌}
use Rattle.amf_once.specs.declared.world.World.{World}
use Rattle.amf_once.specs.Course.{Course}

-- the taker, what was taken and the answers are those of the course
pub record IsWorldOf (w : Course) (world : World) : Type 0 where
  pub asks : world.taker ≡ w.asks
  pub taken : world.taken ≡ w.taken
  pub answers : world.answers ≡ w.answers
