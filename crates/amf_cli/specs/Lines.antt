-- The line that `serve` writes, and the error lines of `call` and `listen`.
use Rattle.std.specs.Prelude.{List, ℕ, ◌++◌, codes, decimal}
use Rattle.amf_show.specs.Shown.{shown_text}
use Rattle.amf_desk.specs.declared.closed.Closed.{Closed}
use Rattle.amf_commands.specs.Lines.{line_feed}

-- how many calls a desk answered, how many messages were published and delivered, and how many deliveries are still queued
abbrev pub served_line : Closed → List ℕ
served_line c = codes "calls " ++ decimal c.calls ++ codes " published " ++ decimal c.published ++ codes " delivered " ++ decimal c.delivered ++ codes " queued " ++ decimal c.queued ++ line_feed

-- the error line of a fault, with its code and its text as a listing has texts
abbrev pub fault_line : List ℕ → List ℕ → List ℕ
fault_line code text = codes "amf: fault " ++ shown_text code ++ codes " " ++ shown_text text ++ line_feed

-- the error lines of a bad reply, by its number, and of a link that failed
abbrev pub bad_reply_line : ℕ → List ℕ
bad_reply_line number = codes "amf: bad reply " ++ decimal number ++ line_feed

abbrev pub link_fault_line : List ℕ
link_fault_line = codes "amf: link fault\n"

-- and of an input that is no array without names
abbrev pub not_arguments_line : List ℕ
not_arguments_line = codes "amf: no form NotArgs node 0 value 0\n"
