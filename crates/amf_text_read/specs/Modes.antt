-- A device of proofs: the modes of the lexer of JSON (RFC 8259, 2), as the code has them.
use Rattle.json.specs.Lex.{between, in_word, in_string, in_escape}
use Rattle.json.specs.Lex as lex
use Rattle.amf_text_read.specs.declared.mode.Mode.{Mode}
use Rattle.amf_text_read.specs.declared.mode.Mode.TheVariants.{Between, InWord, InString, InEscape}

abbrev pub mode_of : Mode → lex.Mode
mode_of Between = between
mode_of InWord = in_word
mode_of InString = in_string
mode_of InEscape = in_escape
