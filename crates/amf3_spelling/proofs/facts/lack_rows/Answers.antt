-- The worked lacks hold.
use Rattle.amf3_spelling.proofs.LackRows as rows
use Rattle.amf3_spelling.proofs.facts.lack_rows.Goals as goal

pub returns : goal.returns
returns c = record { empty_name = rows.empty_name; behind_the_root = rows.behind_the_root; no_spelling = rows.no_spelling }
