-- The new seat has this share.
use Rattle.amf_desk.proofs.desk.Desk.split.Given as goal

abbrev pub ghosts-cut : goal.ghosts-cut
ghosts-cut a = record { share = a.share }
