-- The entry is of this call at this moment.
use Rattle.amf_desk.proofs.desk.Desk.call.Given as goal

abbrev pub ghosts-run : goal.ghosts-run
ghosts-run g a = record { moment = a.moment; call = a.call }
