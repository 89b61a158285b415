-- Tokens that each goal asks for mean something, by the number of tokens.
use Rattle.std.proofs.Common.{◌≡◌, ℕ, zero, suc, List, [], ◌∷◌, ◌++◌, length, Option, Some, None, refl, sym, ap, ◌∙◌, append-nil, arith}
use Rattle.std.specs.Prelude.{option_and_then}
use Rattle.json.specs.Token.{Token}
use Rattle.json.specs.Print.{ArePrintable}
use Rattle.amf_text.specs.Scalars.{Reads}
use Rattle.amf_text.specs.Documents.{Document}
use Rattle.amf_text.specs.Accepted.{Part}
use Rattle.amf_text.specs.Asks as ask
use Rattle.amf_text.specs.Asks.{Goal, step, left_after, asked}
use Rattle.amf_text.specs.AskLaws.{IsWhole}
use Rattle.amf_text.proofs.Goals.{no_answer, Done}
use Rattle.amf_text.proofs.Sound as sound
use Rattle.amf_text.proofs.Sound.{Below, Sound, not_empty}
use Rattle.amf_text.proofs.SoundObjects as object
use Rattle.amf_text.proofs.SoundDocuments as document

-- a first token, and the goals that it leaves
abbrev Step : Reads → Goal → Token → List Token → Type 0
Step reads g t ts = (gs : List Goal) × (step reads g t ≡ Some gs) × Done reads gs ts

step_by : (reads : Reads) (g : Goal) (t : Token) (ts : List Token) (o : Option (List Goal)) → step reads g t ≡ o
    → option_and_then (λ l. left_after reads l ts) (option_and_then (λ l. Some (l ++ [])) o) ≡ Some [] → Step reads g t ts
step_by reads g t ts None s e = no_answer [] e
step_by reads g t ts (Some gs) s e = (gs, s, ap (λ l. left_after reads l ts) (sym (append-nil gs)) ∙ e)

module _ (reads : Reads) where
  by_goal : (n : ℕ) → Below reads n → (g : Goal) → Sound reads n g
  by_goal n below ask.start = document.start_sound reads n below
  by_goal n below ask.form_key = document.form_key_sound reads n below
  by_goal n below ask.form_name = document.form_name_sound reads n below
  by_goal n below (ask.key_is k) = sound.key_is_sound reads n below k
  by_goal n below (ask.table_or k) = document.table_or_sound reads n below k
  by_goal n below ask.close = sound.close_sound reads n below
  by_goal n below ask.end_list = sound.end_list_sound reads n below
  by_goal n below ask.rows = sound.rows_sound reads n below
  by_goal n below (ask.row_keys seen) = sound.row_keys_sound reads n below seen
  by_goal n below ask.headers = document.headers_sound reads n below
  by_goal n below (ask.more_headers left) = document.more_headers_sound reads n below left
  by_goal n below ask.messages = document.messages_sound reads n below
  by_goal n below (ask.more_messages left) = document.more_messages_sound reads n below left
  by_goal n below ask.value = sound.value_sound reads n below
  by_goal n below ask.node = object.node_sound reads n below
  by_goal n below ask.object = object.object_sound reads n below
  by_goal n below ask.node_object = object.node_object_sound reads n below
  by_goal n below ask.plain = sound.plain_sound reads n below
  by_goal n below ask.list = sound.list_sound reads n below
  by_goal n below ask.items = sound.items_sound reads n below
  by_goal n below ask.entries_list = sound.entries_list_sound reads n below
  by_goal n below ask.entries = sound.entries_sound reads n below
  by_goal n below ask.members = sound.members_sound reads n below
  by_goal n below ask.keys = sound.keys_sound reads n below
  by_goal n below ask.pairs = sound.pairs_sound reads n below
  by_goal n below ask.class_rest = object.class_rest_sound reads n below
  by_goal n below ask.begun = object.begun_sound reads n below
  by_goal n below ask.class_names = object.class_names_sound reads n below
  by_goal n below (ask.more_names seen) = object.more_names_sound reads n below seen
  by_goal n below ask.sealed = sound.sealed_sound reads n below
  by_goal n below (ask.rising last) = sound.rising_sound reads n below last
  by_goal n below (ask.those names) = sound.those_sound reads n below names
  by_goal n below (ask.left names) = sound.left_sound reads n below names
  by_goal n below (ask.flag_or_close k) = object.flag_or_close_sound reads n below k
  by_goal n below ask.vector_key = object.vector_key_sound reads n below
  by_goal n below ask.text = sound.text_sound reads n below
  by_goal n below ask.short_text = sound.short_text_sound reads n below
  by_goal n below ask.text_hex = sound.text_hex_sound reads n below
  by_goal n below ask.short_hex = sound.short_hex_sound reads n below
  by_goal n below ask.hex = sound.hex_sound reads n below
  by_goal n below ask.pattern = sound.pattern_sound reads n below
  by_goal n below ask.pattern_list = sound.pattern_list_sound reads n below
  by_goal n below ask.patterns = sound.patterns_sound reads n below
  by_goal n below ask.int_list = sound.int_list_sound reads n below
  by_goal n below ask.ints = sound.ints_sound reads n below
  by_goal n below ask.uint_list = sound.uint_list_sound reads n below
  by_goal n below ask.uints = sound.uints_sound reads n below
  by_goal n below ask.flag = sound.flag_sound reads n below
  by_goal n below ask.truth = sound.truth_sound reads n below
  by_goal n below ask.label = sound.label_sound reads n below
  by_goal n below ask.form_word = sound.form_word_sound reads n below
  by_goal n below ask.version_of_file = sound.version_of_file_sound reads n below
  by_goal n below ask.version_of_packet = sound.version_of_packet_sound reads n below

  meets : (n : ℕ) → Below reads n
  unfolding ArePrintable
  meets n g [] l p d = absurd (omega (arith, not_empty reads g [] d))
  meets zero g (t ∷ ts) l p d = absurd (omega arith)
  meets (suc n) g (t ∷ ts) l p d =
      let s = step_by reads g t ts (step reads g t) refl d in
      by_goal n (meets n) g t ts s.0 s.1 s.2 (omega arith) p.0 p.1

  pub whole : (ts : List Token) → ArePrintable ts → asked reads ts ≡ Some [] → (d : Document Part) × IsWhole reads ts d
  whole ts p e =
      let m = meets (length ts) ask.start ts (omega arith) p e in
      (m.1, record { json = m.0; numbers = m.3; same = m.2; meant = m.4 })
