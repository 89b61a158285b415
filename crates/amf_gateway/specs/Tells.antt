-- What a hall tells, with its clock and its dice, and how often it failed: the members of its trait and of those that it stands on, as contracts hand them on.
use Rattle.std.specs.Prelude.{ℕ, Bool, List}
use Rattle.amf_io.specs.Outside.{SameLinks}
use Rattle.amf_io.specs.declared.clock.Clock.{Ghosts as ClockMembers}
use Rattle.amf_io.specs.declared.dice.Dice.{Ghosts as DiceMembers}
use Rattle.amf_io.specs.declared.hall.Hall.{Ghosts as OwnMembers}

abbrev pub HallMembers : (H L : Type 0) → Type 1
HallMembers H L = record {
  tells_words : H → Type 0;
  words : H → List ℕ;
  DiceRest : Type 0;
  dice_rest : H → DiceRest;
  tells_moments : H → Type 0;
  moments : H → List ℕ;
  ClockRest : Type 0;
  clock_rest : H → ClockRest;
  tells_links : H → Type 0;
  coming : H → List L;
  served : H → List L;
  is_out : H → Bool;
  faults : H → ℕ;
}

-- its links, to come, taken back and out, and its count stay as they were
abbrev pub LinksStay : {H L : Type 0} → HallMembers H L → (a b : H) → Type 0
LinksStay hall a b = SameLinks (hall.tells_links a) (hall.tells_links b) (hall.coming a) (hall.coming b) (hall.served a) (hall.served b) (hall.is_out a) (hall.is_out b) (hall.faults a) (hall.faults b)

-- the same of the three traits, each by itself, as proofs have them
abbrev pub of_hall : {H L : Type 0} → OwnMembers H L → ClockMembers H → DiceMembers H → HallMembers H L
of_hall h c d = record {
  tells_words = d.tells_words;
  words = d.words;
  DiceRest = d.DiceRest;
  dice_rest = d.dice_rest;
  tells_moments = c.tells_moments;
  moments = c.moments;
  ClockRest = c.ClockRest;
  clock_rest = c.clock_rest;
  tells_links = h.tells_links;
  coming = h.coming;
  served = h.served;
  is_out = h.is_out;
  faults = h.faults;
}
